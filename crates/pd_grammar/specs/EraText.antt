-- Trusted base.
-- The text of an era target, and what it means.
-- How many blocks an era target needs, and the verdict on its text.
use Rattle.std.specs.Prelude.{◌≡◌, ℕ, zero, suc, ◌+◌, ◌^◌, ◌≤◌, ◌==◌, ◌&&◌, Bool, false, not, nat_lt, nat_le, if◌then◌else◌, List, [], ◌∷◌, ◌++◌, Option, Some, None, codes}
use Rattle.std.specs.List.{flat_map, AllByRecursion}
use Rattle.pd_kinds.specs.Meaning.{EraMeaning}
use Rattle.pd_grammar.specs.declared.cause.TextCause.TheVariants.{Order, OutOfRange, MappedDiffers}
use Rattle.pd_grammar.specs.declared.value.Value.{Value}
use Rattle.pd_grammar.specs.Texts.{TextFormat, Test, text_of_lines}
use Rattle.pd_grammar.specs.Tables.{numbers, bytes_at, number_at, second_line, later_line, LineKind, Table, format_of}
use Rattle.pd_grammar.specs.Spelling.{Spells, Verdict, IsVerdict}
use Rattle.pd_grammar.specs.Lawful.{IsLawfulEra}
use Rattle.pd_grammar.specs.Need.{need_tree, need_array, need_meta_map}
use Rattle.pd_grammar.specs.declared.value.Field.TheVariants as f
use Rattle.pd_grammar.specs.declared.value.Value.TheVariants as v

-- the words of an era line
pub record Head : Type 0 where
  pub uuid : List ℕ
  pub block_size : ℕ
  pub blocks : ℕ
  pub era : ℕ

-- the words of a run line: blocks of one era
pub record Run : Type 0 where
  pub first : ℕ
  pub length : ℕ
  pub era : ℕ

-- a line of an era text
pub data Line : Type 0 where
  first_line : Line
  era_line : Head → Line
  run_line : Run → Line
  end_line : Line

-- the values of a line
abbrev pub values_of_line : Line → List Value
values_of_line first_line = []
values_of_line (era_line h) = v.Uuid h.uuid ∷ v.Number h.block_size ∷ v.Number h.blocks ∷ v.Number h.era ∷ []
values_of_line (run_line r) = v.Number r.first ∷ v.Number r.length ∷ v.Number r.era ∷ []
values_of_line end_line = []

-- of the lines before one, the newest first: the number of blocks
abbrev pub blocks_of : List Line → ℕ
blocks_of [] = 0
blocks_of (first_line ∷ before) = blocks_of before
blocks_of (era_line h ∷ before) = h.blocks
blocks_of (run_line r ∷ before) = blocks_of before
blocks_of (end_line ∷ before) = blocks_of before

-- the end of the last run
abbrev pub run_end : List Line → ℕ
run_end [] = 0
run_end (first_line ∷ before) = 0
run_end (era_line h ∷ before) = 0
run_end (run_line r ∷ before) = r.first + r.length
run_end (end_line ∷ before) = run_end before

-- a number of the line isn't in its range
abbrev pub has_number_out_of_range : List Line → Line → Bool
has_number_out_of_range before first_line = false
has_number_out_of_range before (era_line h) = not (nat_lt h.block_size (2 ^ 32) && (nat_lt h.blocks (2 ^ 32) && nat_lt h.era (2 ^ 32)))
has_number_out_of_range before (run_line r) =
    not (nat_lt r.first (2 ^ 32) && (nat_lt r.length (2 ^ 32) && (nat_lt r.era (2 ^ 32)
    && (nat_lt 0 r.length && nat_le (r.first + r.length) (blocks_of before)))))
has_number_out_of_range before end_line = false

-- the line's first block isn't the one after the last run
abbrev pub is_out_of_order : List Line → Line → Bool
is_out_of_order before first_line = false
is_out_of_order before (era_line h) = false
is_out_of_order before (run_line r) = not (r.first == run_end before)
is_out_of_order before end_line = false

-- the end comes before all blocks are covered
abbrev pub is_mapped_otherwise : List Line → Line → Bool
is_mapped_otherwise before first_line = false
is_mapped_otherwise before (era_line h) = false
is_mapped_otherwise before (run_line r) = false
is_mapped_otherwise before end_line = nat_lt (run_end before) (blocks_of before)

-- what is looked at of a line whose words are right, in this order
abbrev pub era_tests : List (Test Line)
era_tests =
    record { cause = OutOfRange; fails = has_number_out_of_range }
    ∷ record { cause = Order; fails = is_out_of_order }
    ∷ record { cause = MappedDiffers; fails = is_mapped_otherwise }
    ∷ []

-- the kinds of lines after the first one
abbrev pub era_kind : LineKind Line
era_kind = record {
  keyword = codes "era";
  fields = f.Uuid ∷ numbers 3;
  place = second_line;
  make = λ values. era_line (record { uuid = bytes_at values 0; block_size = number_at values 1; blocks = number_at values 2; era = number_at values 3 });
}

abbrev pub run_kind : LineKind Line
run_kind = record {
  keyword = codes "run";
  fields = numbers 3;
  place = later_line;
  make = λ values. run_line (record { first = number_at values 0; length = number_at values 1; era = number_at values 2 });
}

abbrev pub end_kind : LineKind Line
end_kind = record { keyword = codes "end"; fields = []; place = later_line; make = λ values. end_line }

-- the kind of a line
abbrev pub kind_of_line : Line → Option (LineKind Line)
kind_of_line first_line = None
kind_of_line (era_line h) = Some era_kind
kind_of_line (run_line r) = Some run_kind
kind_of_line end_line = Some end_kind

abbrev pub era_table : Table Line
era_table = record {
  firsts = first_line ∷ [];
  first_words = λ line. codes "era" ∷ codes "1" ∷ [];
  kinds = run_kind ∷ era_kind ∷ end_kind ∷ [];
  kind_of = kind_of_line;
  values = values_of_line;
  tests = era_tests;
}

-- texts of era targets
abbrev pub era : TextFormat Line
era = format_of era_table

-- blocks of one era in a row
pub record Stretch : Type 0 where
  pub length : ℕ
  pub era : ℕ

-- the eras of a stretch, one by one
abbrev pub eras_from : ℕ → ℕ → List ℕ
eras_from e zero = []
eras_from e (suc n) = e ∷ eras_from e n

abbrev pub eras_of : Stretch → List ℕ
eras_of s = eras_from s.era s.length

-- the run lines of stretches from a block on
abbrev pub run_lines : ℕ → List Stretch → List Line
run_lines first [] = []
run_lines first (s ∷ stretches) =
    run_line (record { first = first; length = s.length; era = s.era }) ∷ run_lines (first + s.length) stretches

-- the words of an era target's line
abbrev pub head_of : EraMeaning → Head
head_of m = record { uuid = m.uuid; block_size = m.block_size; blocks = m.blocks; era = m.era }

-- the lines of a text
abbrev pub lines_of_stretches : Head → List Stretch → List Line
lines_of_stretches head stretches = first_line ∷ era_line head ∷ (run_lines 0 stretches ++ (end_line ∷ []))

-- the lines mean the target: they are its head, the lines of stretches whose eras, written out one by one and joined,
-- are the target's, and the end
pub record MeansEra (lines : List Line) (m : EraMeaning) : Type 0 where
  pub stretches : List Stretch
  pub lines_are : lines ≡ lines_of_stretches (head_of m) stretches
  pub eras : flat_map eras_of stretches ≡ m.eras
  pub some : AllByRecursion (λ (s : Stretch). 1 ≤ s.length) stretches
  pub lawful : IsLawfulEra m

-- the text spells the era target
abbrev pub SpellsEra : List ℕ → EraMeaning → Type 0
SpellsEra text m = Spells era MeansEra text m

-- an era before stretches: a longer stretch where the first one has that era
abbrev pub with_era : ℕ → List Stretch → List Stretch
with_era e [] = record { length = 1; era = e } ∷ []
with_era e (s ∷ stretches) =
    if e == s.era
    then record { length = suc s.length; era = s.era } ∷ stretches
    else record { length = 1; era = e } ∷ s ∷ stretches

-- the stretches of some eras, as long as can be
abbrev pub joined_eras : List ℕ → List Stretch
joined_eras [] = []
joined_eras (e ∷ eras) = with_era e (joined_eras eras)

-- the one spelling in which no two neighbouring runs have one era
unfoldable pub text_of_era : EraMeaning → List ℕ
text_of_era m = text_of_lines era (lines_of_stretches (head_of m) (joined_eras m.eras))

-- no two neighbours have one era
abbrev pub AreApart : List Stretch → Type 0
AreApart [] = Unit {0}
AreApart (s ∷ []) = Unit {0}
AreApart (s ∷ t ∷ stretches) = ((s.era == t.era) ≡ false) × AreApart (t ∷ stretches)

-- the need of so many blocks, in so many metadata blocks: the superblock; the era array; an empty tree of writesets,
-- which is one leaf; the metadata map
unfoldable pub need_of_era : ℕ → ℕ → ℕ
need_of_era blocks room = 1 + (need_array 4 blocks + (need_tree 12 0 + need_meta_map room))

-- the need of an era target
abbrev pub era_need : EraMeaning → ℕ → ℕ
era_need m room = need_of_era m.blocks room

-- the need after these lines
abbrev pub era_need_so_far : ℕ → List Line → ℕ
era_need_so_far room lines = need_of_era (blocks_of lines) room

-- the verdict on an era text where so many metadata blocks are there
abbrev pub IsEraVerdict : List ℕ → ℕ → Verdict EraMeaning → Type 0
IsEraVerdict text room verdict = IsVerdict era MeansEra (era_need_so_far room) text room verdict
