-- Cache texts and what they mean.
use Rattle.std.proofs.Common.{◌≡◌, ◌⊎◌, inl, inr, ℕ, zero, suc, ◌^◌, ◌≤◌, ◌<◌, Bool, true, false, not, ◌&&◌, ◌||◌, List, [], ◌∷◌, ◌++◌, length, map, get_or, refl, ap, sym, ◌∙◌, arith, eqb, ltb}
use Rattle.std.proofs.lemmas.Bool.{cases_Bool, true≢false}
use Rattle.std.proofs.lemmas.Bool.Decides.{Decides-eqb, nat_tests}
use Rattle.std.specs.List.{AllByRecursion}
use Rattle.pd_kinds.specs.Meaning.{CacheMeaning, CacheEntry}
use Rattle.pd_grammar.specs.Texts.{has_ended, text_of_lines}
use Rattle.pd_grammar.proofs.GrammarLemmas.{AreLines, Passes}
use Rattle.pd_grammar.proofs.WordLemmas.{values_are}
use Rattle.pd_grammar.proofs.SpellingLemmas.{IsLanguage, AreWithin, accepted_if_room, no_room_at_second}
use Rattle.pd_grammar.specs.Lawful.{AreEntries, IsLawfulCache}
use Rattle.pd_grammar.specs.CacheText.{Line, first_line, cache_line, map_line, end_line, Head, Row, cache, blocks_of, hint_size_of, least_block, origins_of, flag_number, head_of, row_of, lines_of_cache, MeansCache, SpellsCache, text_of_cache, cache_need, cache_need_so_far, IsCacheVerdict}
use Rattle.pd_grammar.proofs.CacheRead.{FitsLine, Placed, LinePasses, line_passes, head_tells, cache_grammar}
use Rattle.pd_grammar.specs.Spelling.{accepted, no_room}

-- the entry of a row, and the entries of the map lines that come first
abbrev pub entry_of : Row → CacheEntry
entry_of r = record { block = r.block; origin = r.origin; dirty = eqb r.dirty 1; hint = r.hint }

abbrev pub entries_of : List Line → List CacheEntry
entries_of [] = []
entries_of (first_line ∷ lines) = []
entries_of (cache_line h ∷ lines) = []
entries_of (map_line r ∷ lines) = entry_of r ∷ entries_of lines
entries_of (end_line ∷ lines) = []

-- what passes is looked at again
tests_passed : (before : List Line) (line : Line) → LinePasses before line → Passes cache.tests before line
tests_passed [] line passes = tt
tests_passed (newest ∷ before) line passes = (passes.range, (passes.order, (passes.repeated, tt)))

-- flags
flag_back : (n : ℕ) → n ≤ 1 → flag_number (eqb n 1) ≡ n
flag_back zero small = refl
flag_back (suc zero) small = refl
flag_back (suc (suc n)) small = absurd (omega arith)

pub number_back : (flag : Bool) → eqb (flag_number flag) 1 ≡ flag
number_back true = refl
number_back false = refl

flag_small : (flag : Bool) → flag_number flag ≤ 1
flag_small true = omega arith
flag_small false = omega arith

-- what is looked at of a map line
pub row_tells : (block blocks origin hint dirty size least : ℕ)
    → not (ltb block blocks && (ltb origin (2 ^ 48) && (ltb hint (2 ^ 32) && (not (ltb 1 dirty) && (not (eqb size 0) || eqb hint 0))))) ≡ false → ltb block least ≡ false
    → (block < blocks) × ((origin < 2 ^ 48) × ((hint < 2 ^ 32) × ((dirty ≤ 1) × ((size ≡ 0 → hint ≡ 0) × (least ≤ block)))))
row_tells block blocks origin hint dirty size least range order =
    (grind (arith, nat_tests), (grind (arith, nat_tests), (grind (arith, nat_tests), (grind (arith, nat_tests), (λ none. grind (arith, nat_tests), grind (arith, nat_tests))))))

row_told : (block blocks origin hint dirty size least : ℕ)
    → block < blocks → origin < 2 ^ 48 → hint < 2 ^ 32 → dirty ≤ 1 → (size ≡ 0 → hint ≡ 0) → least ≤ block
    → (not (ltb block blocks && (ltb origin (2 ^ 48) && (ltb hint (2 ^ 32) && (not (ltb 1 dirty) && (not (eqb size 0) || eqb hint 0))))) ≡ false) × (ltb block least ≡ false)
row_told block blocks origin hint dirty size least a b c d e f = (grind (arith, nat_tests), grind (arith, nat_tests))

end_is_last : (before lines : List Line) → AreLines cache FitsLine Placed (end_line ∷ before) lines → lines ≡ []
end_is_last before [] reads = refl
end_is_last before (line ∷ lines) reads = absurd (true≢false reads.0)

with_row : (r : Row) (lines more : List Line) → r.dirty ≤ 1 → more ≡ lines → row_of (entry_of r) ∷ more ≡ map_line r ∷ lines
with_row r lines more small e = rw (flag_back r.dirty small, e) refl

-- the lines after the cache line are those of their entries, which may come there
entries_if_read : (lines before : List Line) → 2 ≤ length before → AreLines cache FitsLine Placed before lines → has_ended cache before ≡ false
    → (map row_of (entries_of lines) ++ (end_line ∷ []) ≡ lines)
    × AreEntries (blocks_of before) (hint_size_of before) (least_block before) (origins_of before) (entries_of lines)
entries_if_read [] before some reads going = absurd (true≢false (sym reads ∙ going))
entries_if_read (first_line ∷ lines) before some reads going = absurd (omega (arith, some, reads.1.1.0.0))
entries_if_read (cache_line h ∷ lines) before some reads going = absurd (omega (arith, some, reads.1.1.0))
entries_if_read (map_line r ∷ lines) before some reads going =
    let passes = line_passes before (map_line r) (omega (arith, some)) reads.1.1.1.0 in
    let tells = row_tells r.block (blocks_of before) r.origin r.hint r.dirty (hint_size_of before) (least_block before) passes.range passes.order in
    let rest = entries_if_read lines (map_line r ∷ before) (omega arith) reads.1.1.1.1 refl in (
      with_row r lines (map row_of (entries_of lines) ++ (end_line ∷ [])) tells.1.1.1.0 rest.0,
      (
        record {
          above = tells.1.1.1.1.1;
          within = tells.0;
          origin_fits = tells.1.0;
          hint_fits = tells.1.1.0;
          no_hint = tells.1.1.1.1.0;
          new = passes.repeated;
        },
        rest.1,
      ),
    )
entries_if_read (end_line ∷ lines) before some reads going = rw (end_is_last before lines reads.1.1.1.1) (refl, tt)

-- and the lines of such entries are read
read_line : (before : List Line) (line : Line) (lines : List Line) → has_ended cache before ≡ false → FitsLine line → Placed before line → LinePasses before line
    → AreLines cache FitsLine Placed (line ∷ before) lines → AreLines cache FitsLine Placed before (line ∷ lines)
read_line before line lines going fits placed passes rest = (going, (fits, (placed, (tests_passed before line passes, rest))))

read_entries : (entries : List CacheEntry) (before : List Line) → 2 ≤ length before → has_ended cache before ≡ false → blocks_of before < 2 ^ 32
    → AreEntries (blocks_of before) (hint_size_of before) (least_block before) (origins_of before) entries
    → AreLines cache FitsLine Placed before (map row_of entries ++ (end_line ∷ []))
read_entries [] before some going small are =
    read_line before end_line [] going tt some (record { range = refl; order = refl; repeated = refl }) refl
read_entries (e ∷ entries) before some going small are =
    let dirty = flag_number e.dirty in
    let is = are.0 in
    let told = row_told e.block (blocks_of before) e.origin e.hint dirty (hint_size_of before) (least_block before) is.within is.origin_fits is.hint_fits (flag_small e.dirty) is.no_hint is.above in
    read_line before (row_of e) (map row_of entries ++ (end_line ∷ [])) going
    (omega (arith, is.within, small), (omega (arith, is.origin_fits), (omega (arith, flag_small e.dirty), (omega (arith, is.hint_fits), tt)))) some
    (record { range = told.0; order = told.1; repeated = is.new })
    (read_entries entries (row_of e ∷ before) (omega arith) refl small are.1)

-- what is looked at of a cache line
head_told : (size blocks a b c clean hint : ℕ) → size < 2 ^ 32 → blocks < 2 ^ 32 → a < 2 ^ 32 → b < 2 ^ 32 → c < 2 ^ 32 → clean ≤ 1 → (eqb hint 0 || eqb hint 4) ≡ true
    → not (ltb size (2 ^ 32) && (ltb blocks (2 ^ 32) && (ltb a (2 ^ 32) && (ltb b (2 ^ 32) && (ltb c (2 ^ 32) && (not (ltb 1 clean) && (eqb hint 0 || eqb hint 4))))))) ≡ false
head_told size blocks a b c clean hint p q r s t u v = rw v (grind (arith, nat_tests))

pub is_hint_size : (hint : ℕ) → (eqb hint 0 || eqb hint 4) ≡ true → (hint ≡ 0) ⊎ (hint ≡ 4)
is_hint_size hint e = elim (cases_Bool (eqb hint 0)) [
  | inl none ↦ inl ((Decides-eqb hint 0).0 none)
  | inr some ↦ let four : eqb hint 4 ≡ true = rw some at e in inr ((Decides-eqb hint 4).0 four)
]

hint_size_told : (hint : ℕ) → (hint ≡ 0) ⊎ (hint ≡ 4) → (eqb hint 0 || eqb hint 4) ≡ true
hint_size_told hint is = elim is [
  | inl none ↦ rw none refl
  | inr four ↦ rw four refl
]

-- the cache that lines mean
abbrev pub cache_of_head : Head → List CacheEntry → CacheMeaning
cache_of_head h entries = record {
  uuid = h.uuid;
  block_size = h.block_size;
  blocks = h.blocks;
  clean = eqb h.clean 1;
  policy = h.policy;
  versions = h.major ∷ h.minor ∷ h.patch ∷ [];
  hint_size = h.hint_size;
  entries = entries;
}

abbrev cache_of_lines : List Line → CacheMeaning
cache_of_lines (first_line ∷ cache_line h ∷ lines) = cache_of_head h (entries_of lines)
cache_of_lines _ = record { uuid = []; block_size = 0; blocks = 0; clean = false; policy = []; versions = []; hint_size = 0; entries = [] }

with_head : (h : Head) (lines more : List Line) (clean : ℕ) → clean ≡ h.clean → more ≡ lines
    → first_line ∷ cache_line h ∷ lines ≡ first_line ∷ cache_line (record h { clean = clean }) ∷ more
with_head h lines more clean e f = rw (e, f) refl

after_head : (h : Head) (lines : List Line) → AreLines cache FitsLine Placed (first_line ∷ []) (cache_line h ∷ lines)
    → MeansCache (first_line ∷ cache_line h ∷ lines) (cache_of_head h (entries_of lines))
after_head h lines reads =
    let passes = line_passes (first_line ∷ []) (cache_line h) (omega arith) reads.1.1.1.0 in
    let tells = head_tells h.block_size h.blocks h.major h.minor h.patch h.clean h.hint_size passes.range in
    let rest = entries_if_read lines (cache_line h ∷ first_line ∷ []) (omega arith) reads.1.1.1.1 refl in
    let fits = reads.1.0 in
    record {
      lines_are = with_head h lines (map row_of (entries_of lines) ++ (end_line ∷ [])) (flag_number (eqb h.clean 1)) (flag_back h.clean tells.1.1.1.1.1.0) rest.0;
      lawful = record {
        uuid_len = fits.0;
        uuid_bytes = fits.1.0;
        block_size_fits = tells.0;
        blocks_fit = tells.1.0;
        policy_len = fits.1.1.1.1.1.0;
        policy_bytes = fits.1.1.1.1.1.1.0;
        three_versions = refl;
        versions_fit = (tells.1.1.0, (tells.1.1.1.0, (tells.1.1.1.1.0, tt)));
        hint_size_is = is_hint_size h.hint_size tells.1.1.1.1.1.1;
        entries = rest.1;
      };
    }

after_first : (lines : List Line) → AreLines cache FitsLine Placed (first_line ∷ []) lines → (m : CacheMeaning) × MeansCache (first_line ∷ lines) m
after_first [] reads = absurd (true≢false (sym reads))
after_first (first_line ∷ lines) reads = absurd (omega (arith, reads.1.1.0.0))
after_first (cache_line h ∷ lines) reads = (cache_of_head h (entries_of lines), after_head h lines reads)
after_first (map_line r ∷ lines) reads = absurd (omega (arith, reads.1.1.0))
after_first (end_line ∷ lines) reads = absurd (omega (arith, reads.1.1.0))

means_if_lines : (lines : List Line) → AreLines cache FitsLine Placed [] lines → (m : CacheMeaning) × MeansCache lines m
means_if_lines [] reads = absurd (true≢false (sym reads))
means_if_lines (first_line ∷ lines) reads = after_first lines reads.1.1.1.1
means_if_lines (cache_line h ∷ lines) reads = absurd (omega (arith, reads.1.1.0))
means_if_lines (map_line r ∷ lines) reads = absurd (omega (arith, reads.1.1.0))
means_if_lines (end_line ∷ lines) reads = absurd (omega (arith, reads.1.1.0))

-- the three numbers of a policy's version
pub record AreThree (versions : List ℕ) : Type 0 where
  pub first : get_or versions 0 0 < 2 ^ 32
  pub second : get_or versions 1 0 < 2 ^ 32
  pub third : get_or versions 2 0 < 2 ^ 32

three_fit : (versions : List ℕ) → length versions ≡ 3 → AllByRecursion (λ v. v < 2 ^ 32) versions → AreThree versions
three_fit [] len fit = absurd (omega arith)
three_fit (a ∷ []) len fit = absurd (omega arith)
three_fit (a ∷ b ∷ []) len fit = absurd (omega arith)
three_fit (a ∷ b ∷ c ∷ versions) len fit = record { first = fit.0; second = fit.1.0; third = fit.1.1.0 }

cache_read : (m : CacheMeaning) → IsLawfulCache m → AreLines cache FitsLine Placed [] (lines_of_cache m)
cache_read m lawful =
    let head : Head = head_of m in
    let three = three_fit m.versions lawful.three_versions lawful.versions_fit in
    let small = flag_small m.clean in
    let range = head_told m.block_size m.blocks head.major head.minor head.patch head.clean m.hint_size lawful.block_size_fits lawful.blocks_fit three.first three.second three.third small
    (hint_size_told m.hint_size lawful.hint_size_is) in
    let size : m.hint_size ≤ 4 = elim lawful.hint_size_is [ inl none ↦ omega (arith, none) | inr four ↦ omega (arith, four) ] in
    let tail = map row_of m.entries ++ (end_line ∷ []) in
    read_line [] first_line (cache_line head ∷ tail) refl tt (refl, refl) (record { range = refl; order = refl; repeated = refl })
    (read_line (first_line ∷ []) (cache_line head) tail refl (
      lawful.uuid_len,
      (
        lawful.uuid_bytes,
        (
          omega (arith, lawful.block_size_fits),
          (
            omega (arith, lawful.blocks_fit),
            (
              omega (arith, small),
              (
                lawful.policy_len,
                (
                  lawful.policy_bytes,
                  (omega (arith, three.first), (omega (arith, three.second), (omega (arith, three.third), (omega (arith, size), tt)))),
                ),
              ),
            ),
          ),
        ),
      ),
    )
    refl (record { range = range; order = refl; repeated = refl })
    (read_entries m.entries (cache_line head ∷ first_line ∷ []) (omega arith) refl lawful.blocks_fit lawful.entries))

lines_if_means : (lines : List Line) (m : CacheMeaning) → MeansCache lines m → AreLines cache FitsLine Placed [] lines
lines_if_means lines m means = rw means.lines_are (cache_read m means.lawful)

-- the entries of lines, and the cache that they mean
entries_back : (entries : List CacheEntry) → entries_of (map row_of entries ++ (end_line ∷ [])) ≡ entries
entries_back [] = refl
entries_back (e ∷ entries) = rw (number_back e.dirty, entries_back entries) refl

cache_back : (m : CacheMeaning) → IsLawfulCache m → cache_of_lines (lines_of_cache m) ≡ m
cache_back m lawful =
    let built : (clean : Bool) (versions : List ℕ) (entries : List CacheEntry) → clean ≡ m.clean → versions ≡ m.versions → entries ≡ m.entries
    → ◌≡◌ {A = CacheMeaning} (record m { clean = clean; versions = versions; entries = entries }) m =
    λ clean versions entries a b c. rw (a, b, c) refl in
    built (eqb (flag_number m.clean) 1) (get_or m.versions 0 0 ∷ get_or m.versions 1 0 ∷ get_or m.versions 2 0 ∷ []) (entries_of (map row_of m.entries ++ (end_line ∷ [])))
    (number_back m.clean) (values_are 3 m.versions lawful.three_versions) (entries_back m.entries)

one_meaning : (lines : List Line) (m n : CacheMeaning) → MeansCache lines m → MeansCache lines n → m ≡ n
one_meaning lines m n s t = sym (cache_back m s.lawful) ∙ ap cache_of_lines (sym s.lines_are ∙ t.lines_are) ∙ cache_back n t.lawful

-- the texts of caches
pub cache_language : IsLanguage cache MeansCache FitsLine Placed
cache_language = record { grammar = cache_grammar; means = means_if_lines; lines = lines_if_means; one = one_meaning }

-- the text of a lawful cache spells it
pub cache_text_spells : (m : CacheMeaning) → IsLawfulCache m → SpellsCache (text_of_cache m) m
unfolding text_of_cache
cache_text_spells m lawful = record { lines = lines_of_cache m; bytes = refl; means = record { lines_are = refl; lawful = lawful } }

-- and nothing else does
pub one_cache_text : (text : List ℕ) (m : CacheMeaning) → SpellsCache text m → text ≡ text_of_cache m
unfolding text_of_cache
one_cache_text text m s = s.bytes ∙ ap (text_of_lines cache) s.means.lines_are

-- The need of a cache text stands from its second line on.

rows_within : (version room : ℕ) (entries : List CacheEntry) (before : List Line)
    → AreWithin (cache_need_so_far version room) (cache_need_so_far version room before) before (map row_of entries ++ (end_line ∷ []))
rows_within version room [] before = (λ some. omega arith, tt)
rows_within version room (e ∷ entries) before = (λ some. omega arith, rows_within version room entries (row_of e ∷ before))

lines_within : (version room : ℕ) (m : CacheMeaning) → AreWithin (cache_need_so_far version room) (cache_need version m room) [] (lines_of_cache m)
lines_within version room m =
    (λ some. absurd (omega (arith, some)), (λ some. omega arith, rows_within version room m.entries (cache_line (head_of m) ∷ first_line ∷ [])))

-- what is spelled is accepted where there is room
pub cache_accepted : (version : ℕ) (text : List ℕ) (m : CacheMeaning) (room : ℕ) → SpellsCache text m → cache_need version m room ≤ room
    → IsCacheVerdict version text room (accepted m)
cache_accepted version text m room s fits =
    let within : AreWithin (cache_need_so_far version room) (cache_need version m room) [] s.lines = rw s.means.lines_are (lines_within version room m) in
    accepted_if_room cache MeansCache FitsLine Placed cache_language (cache_need_so_far version room) text m room (cache_need version m room) s fits within

-- and elsewhere there is no room
pub cache_without_room : (version : ℕ) (text : List ℕ) (m : CacheMeaning) (room : ℕ) → SpellsCache text m → room < cache_need version m room
    → IsCacheVerdict version text room (no_room (cache_need version m room) room)
cache_without_room version text m room s above =
    no_room_at_second cache MeansCache FitsLine Placed cache_language (cache_need_so_far version room) text m room
    first_line (cache_line (head_of m)) (map row_of m.entries ++ (end_line ∷ [])) s s.means.lines_are above
