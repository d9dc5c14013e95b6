-- Trusted base.
-- The text of a cache, and what it means. One text serves caches of both versions.
-- How many blocks a cache needs, and the verdict on its text, for both versions of the metadata.
use Rattle.std.specs.Prelude.{◌≡◌, ℕ, ◌+◌, ◌^◌, ◌==◌, ◌&&◌, ◌||◌, Bool, false, not, nat_lt, if◌then◌else◌, List, [], ◌∷◌, ◌++◌, slice_index, map, Option, Some, None, codes}
use Rattle.std.specs.List.{list_any}
use Rattle.pd_kinds.specs.Meaning.{CacheMeaning, CacheEntry}
use Rattle.pd_grammar.specs.declared.cause.TextCause.TheVariants.{Order, OutOfRange, Repeated}
use Rattle.pd_grammar.specs.declared.value.Value.{Value}
use Rattle.pd_grammar.specs.Texts.{TextFormat, Test, text_of_lines, with_test}
use Rattle.pd_grammar.specs.Tables.{numbers, bytes_at, number_at, second_line, later_line, LineKind, Table, format_of}
use Rattle.pd_grammar.specs.Spelling.{Spells, Verdict, IsVerdict}
use Rattle.pd_grammar.specs.Lawful.{IsLawfulCache}
use Rattle.pd_grammar.specs.Need.{nodes_for, need_tree, need_array, need_meta_map}
use Rattle.pd_grammar.specs.declared.value.Field.TheVariants as f
use Rattle.pd_grammar.specs.declared.value.Value.TheVariants as v

-- the words of a cache line; the policy's version has three numbers
pub record Head : Type 0 where
  pub uuid : List ℕ
  pub block_size : ℕ
  pub blocks : ℕ
  pub clean : ℕ
  pub policy : List ℕ
  pub major : ℕ
  pub minor : ℕ
  pub patch : ℕ
  pub hint_size : ℕ

-- the words of a map line
pub record Row : Type 0 where
  pub block : ℕ
  pub origin : ℕ
  pub dirty : ℕ
  pub hint : ℕ

-- a line of a cache text
pub data Line : Type 0 where
  first_line : Line
  cache_line : Head → Line
  map_line : Row → Line
  end_line : Line

-- the values of a line
abbrev pub values_of_line : Line → List Value
values_of_line first_line = []
values_of_line (cache_line h) =
    v.Uuid h.uuid ∷ v.Number h.block_size ∷ v.Number h.blocks ∷ v.Number h.clean ∷ v.Policy h.policy
    ∷ v.Number h.major ∷ v.Number h.minor ∷ v.Number h.patch ∷ v.Number h.hint_size ∷ []
values_of_line (map_line r) = v.Number r.block ∷ v.Number r.origin ∷ v.Number r.dirty ∷ v.Number r.hint ∷ []
values_of_line end_line = []

-- of the lines before one, the newest first: the cache's number of blocks
abbrev pub blocks_of : List Line → ℕ
blocks_of [] = 0
blocks_of (first_line ∷ before) = blocks_of before
blocks_of (cache_line h ∷ before) = h.blocks
blocks_of (map_line r ∷ before) = blocks_of before
blocks_of (end_line ∷ before) = blocks_of before

-- the hint size
abbrev pub hint_size_of : List Line → ℕ
hint_size_of [] = 0
hint_size_of (first_line ∷ before) = hint_size_of before
hint_size_of (cache_line h ∷ before) = h.hint_size
hint_size_of (map_line r ∷ before) = hint_size_of before
hint_size_of (end_line ∷ before) = hint_size_of before

-- the least cache block that a map line may have: one above the last one
abbrev pub least_block : List Line → ℕ
least_block [] = 0
least_block (first_line ∷ before) = least_block before
least_block (cache_line h ∷ before) = 0
least_block (map_line r ∷ before) = r.block + 1
least_block (end_line ∷ before) = least_block before

-- the origins of the map lines
abbrev pub origins_of : List Line → List ℕ
origins_of [] = []
origins_of (first_line ∷ before) = origins_of before
origins_of (cache_line h ∷ before) = []
origins_of (map_line r ∷ before) = r.origin ∷ origins_of before
origins_of (end_line ∷ before) = origins_of before

-- neither 0 nor 1
abbrev pub is_no_flag : ℕ → Bool
is_no_flag n = nat_lt 1 n

-- a number of the line isn't in its range
abbrev pub has_number_out_of_range : List Line → Line → Bool
has_number_out_of_range before first_line = false
has_number_out_of_range before (cache_line h) =
    not (nat_lt h.block_size (2 ^ 32) && (nat_lt h.blocks (2 ^ 32) && (nat_lt h.major (2 ^ 32) && (nat_lt h.minor (2 ^ 32) && (nat_lt h.patch (2 ^ 32)
    && (not (is_no_flag h.clean) && ((h.hint_size == 0) || (h.hint_size == 4))))))))
has_number_out_of_range before (map_line r) =
    not (nat_lt r.block (blocks_of before) && (nat_lt r.origin (2 ^ 48) && (nat_lt r.hint (2 ^ 32)
    && (not (is_no_flag r.dirty) && (not (hint_size_of before == 0) || (r.hint == 0))))))
has_number_out_of_range before end_line = false

-- the line's cache block isn't above those of the lines before
abbrev pub is_out_of_order : List Line → Line → Bool
is_out_of_order before first_line = false
is_out_of_order before (cache_line h) = false
is_out_of_order before (map_line r) = nat_lt r.block (least_block before)
is_out_of_order before end_line = false

-- an earlier line has the line's origin
abbrev pub is_repeated : List Line → Line → Bool
is_repeated before first_line = false
is_repeated before (cache_line h) = false
is_repeated before (map_line r) = list_any (λ origin. origin == r.origin) (origins_of before)
is_repeated before end_line = false

-- what is looked at of a line whose words are right, in this order, but for repeated origins
abbrev pub single_tests : List (Test Line)
single_tests =
    record { cause = OutOfRange; fails = has_number_out_of_range }
    ∷ record { cause = Order; fails = is_out_of_order }
    ∷ []

-- what is looked at last
abbrev pub repeated_test : Test Line
repeated_test = record { cause = Repeated; fails = is_repeated }

-- the kinds of lines after the first one
abbrev pub cache_kind : LineKind Line
cache_kind = record {
  keyword = codes "cache";
  fields = f.Uuid ∷ f.Number ∷ f.Number ∷ f.Number ∷ f.Policy ∷ numbers 4;
  place = second_line;
  make = λ values. cache_line (record {
    uuid = bytes_at values 0;
    block_size = number_at values 1;
    blocks = number_at values 2;
    clean = number_at values 3;
    policy = bytes_at values 4;
    major = number_at values 5;
    minor = number_at values 6;
    patch = number_at values 7;
    hint_size = number_at values 8;
  });
}

abbrev pub map_kind : LineKind Line
map_kind = record {
  keyword = codes "map";
  fields = numbers 4;
  place = later_line;
  make = λ values. map_line (record { block = number_at values 0; origin = number_at values 1; dirty = number_at values 2; hint = number_at values 3 });
}

abbrev pub end_kind : LineKind Line
end_kind = record { keyword = codes "end"; fields = []; place = later_line; make = λ values. end_line }

-- the kind of a line
abbrev pub kind_of_line : Line → Option (LineKind Line)
kind_of_line first_line = None
kind_of_line (cache_line h) = Some cache_kind
kind_of_line (map_line r) = Some map_kind
kind_of_line end_line = Some end_kind

abbrev pub cache_table : Table Line
cache_table = record {
  firsts = first_line ∷ [];
  first_words = λ line. codes "cache" ∷ codes "1" ∷ [];
  kinds = map_kind ∷ cache_kind ∷ end_kind ∷ [];
  kind_of = kind_of_line;
  values = values_of_line;
  tests = single_tests;
}

-- texts of caches, of which each line is looked at without the origins of the others
abbrev pub cache_single : TextFormat Line
cache_single = format_of cache_table

-- texts of caches
abbrev pub cache : TextFormat Line
cache = with_test repeated_test cache_single

-- a flag as a number
abbrev pub flag_number : Bool → ℕ
flag_number flag = if flag then 1 else 0

-- the words of a cache's line
abbrev pub head_of : CacheMeaning → Head
head_of m = record {
  uuid = m.uuid;
  block_size = m.block_size;
  blocks = m.blocks;
  clean = flag_number m.clean;
  policy = m.policy;
  major = slice_index m.versions 0;
  minor = slice_index m.versions 1;
  patch = slice_index m.versions 2;
  hint_size = m.hint_size;
}

-- the line of an entry
abbrev pub row_of : CacheEntry → Line
row_of e = map_line (record { block = e.block; origin = e.origin; dirty = flag_number e.dirty; hint = e.hint })

-- the lines of a cache
abbrev pub lines_of_cache : CacheMeaning → List Line
lines_of_cache m = first_line ∷ cache_line (head_of m) ∷ (map row_of m.entries ++ (end_line ∷ []))

-- the lines mean the cache: they are its head, a line for each of its entries, and the end
pub record MeansCache (lines : List Line) (m : CacheMeaning) : Type 0 where
  pub lines_are : lines ≡ lines_of_cache m
  pub lawful : IsLawfulCache m

-- the text spells the cache
abbrev pub SpellsCache : List ℕ → CacheMeaning → Type 0
SpellsCache text m = Spells cache MeansCache text m

-- the one text of a cache
unfoldable pub text_of_cache : CacheMeaning → List ℕ
text_of_cache m = text_of_lines cache (lines_of_cache m)

-- The need of a cache of so many blocks, with hints of this size, in so many metadata blocks: the superblock; the
-- mapping array; the hint array where there are hints; in version 2 the dirty bits, 64 in a word; an empty discard
-- array, which is one leaf; the metadata map
unfoldable pub need_of_cache : ℕ → ℕ → ℕ → ℕ → ℕ
need_of_cache version blocks hint_size room =
    1 + (need_array 8 blocks + ((if hint_size == 4 then need_array 4 blocks else 0)
    + ((if version == 2 then need_array 8 (nodes_for 64 blocks) else 0) + (need_tree 8 0 + need_meta_map room))))

-- the need of a cache in this version of the metadata
abbrev pub cache_need : ℕ → CacheMeaning → ℕ → ℕ
cache_need version m room = need_of_cache version m.blocks m.hint_size room

-- the need after these lines
abbrev pub cache_need_so_far : ℕ → ℕ → List Line → ℕ
cache_need_so_far version room lines = need_of_cache version (blocks_of lines) (hint_size_of lines) room

-- the verdict on a cache text that is to be restored in this version, where so many metadata blocks are there
abbrev pub IsCacheVerdict : ℕ → List ℕ → ℕ → Verdict CacheMeaning → Type 0
IsCacheVerdict version text room verdict = IsVerdict cache MeansCache (cache_need_so_far version room) text room verdict
