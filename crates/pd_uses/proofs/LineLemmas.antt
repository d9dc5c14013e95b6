-- Lines that are gathered, one after another.
use denote.Param.Members.{Mut}
use Rattle.std.proofs.Common.{◌≡◌, ℕ, zero, suc, ◌+◌, ◌-◌, ◌<◌, ◌≤◌, max, Bool, true, not, ◌&&◌, cond, nat_eq, nat_lt, Bor, List, [], ◌∷◌, ◌++◌, filter, get_or, refl, sym, ap, ◌∙◌, arith, inl, inr, eq-eqb, subst, drop, Option, IfSome, Result, append_assoc, map, codes, decimal}
use Rattle.std.specs.Fn.{Called}
use Rattle.std.specs.List.{All, AllByRecursion, flat_map, range_with_len}
use Rattle.std.specs.List.Sorted.{IsNonDecreasingBy, IsPermutation, IsSortedByKeyClosure, IsStableByKey, IsStableByKeyClosure, ties}
use Rattle.std.specs.Ordering.{is_lt, nat_cmp}
use Rattle.std.proofs.lemmas.Bool.{and_parts, cases_Bool, le-ltb, lt-ltb, ltb-false, ltb-true, ne_eqb, not-true, true≢false, eqb-true}
use Rattle.std.proofs.lemmas.Fn.{always_returns_same}
use Rattle.std.proofs.lemmas.List.Concat.{flat_map-append}
use Rattle.std.proofs.lemmas.List.Elements.{filter_passes, recursion_from_All, filter-append}
use Rattle.std.proofs.lemmas.List.Sorted.{All-permutation, IsNonDecreasingBy-from_sort_by_key}
use Rattle.std.proofs.lemmas.List.{get_or-drop}
use Rattle.pd_kinds.proofs.NumberLemmas.{range_split}
use Rattle.pd_kinds.specs.declared.superblocks.ThinSuper.{ThinSuper}
use Rattle.pd_kinds.specs.Graph.{block_at}
use Rattle.pd_kinds.specs.Meaning.{Mapping, ThinPool, thin_meaning}
use Rattle.pd_kinds.specs.ThinFormat.{thin_fields}
use Rattle.pd_answers.specs.QueryLines.{device_of_list, exclusive_number, device_list_lines, mapping_line, mapping_lines, rmap_lines}
use Rattle.pd_lines.specs.Printing.{Begun, Printed, Printing, Prints}
use Rattle.pd_lines.proofs.Printing.{begun_after, begun_first, printed_both, prints_then}
use Rattle.pd_meaning_thin.specs.declared.devices.DeviceRow.{DeviceRow}
use Rattle.pd_meaning_thin.specs.Given.{GivesPool, device_of, pool_rows, super_rows}
use Rattle.pd_meaning_thin.specs.Runs.{mappings_below}
use Rattle.pd_query.specs.Query.{PrintsSome}
use Rattle.pd_uses.specs.declared.hits.DataUse.{DataUse}
use Rattle.pd_uses.specs.Uses.{is_within, ordered_uses, uses_of_block, device_line, tallied_rows, use_line, uses_text, details_part, row_uses, rows_uses, super_uses, use_by}
use Rattle.pd_uses.specs.ListWalk.{is_alone, number_at, rows_placed, AreExclusive}
use Rattle.pd_uses.proofs.CountLemmas.{alone_are, number_of_first, number_of_others}

-- Uses that were sorted by their blocks, where those of one block stayed in their order.

-- no block is below one that stands before it
abbrev pub BlocksRise : List DataUse → Type 0
BlocksRise [] = Unit {0}
BlocksRise (one ∷ uses) = AllByRecursion (λ (other : DataUse). one.block ≤ other.block) uses × BlocksRise uses

blocks_rise : (uses : List DataUse) → IsNonDecreasingBy (λ (one : DataUse). one.block) uses → BlocksRise uses
blocks_rise [] rise = tt
blocks_rise (one ∷ uses) rise = (
  recursion_from_All (λ (other : DataUse). one.block ≤ other.block) uses (λ k d within. rise 0 (suc k) d (omega arith) (omega arith)),
  blocks_rise uses (λ i j d in_order within. rise (suc i) (suc j) d (omega arith) (omega arith)),
)

-- no use is of a lesser block
none_below : (c b : ℕ) (uses : List DataUse) → b < c → AllByRecursion (λ (one : DataUse). c ≤ one.block) uses → uses_of_block uses b ≡ []
none_below c b [] below all = refl
none_below c b (one ∷ uses) below all = let first = all.0 in rw (ne_eqb one.block b (λ same. omega arith)) (none_below c b uses below all.1)

-- no uses, of no block
no_uses : (first n : ℕ) → flat_map (uses_of_block []) (range_with_len first n) ≡ []
no_uses first zero = refl
no_uses first (suc n) = no_uses (first + 1) n

-- a use is none of the blocks above its own
others_stay : (one : DataUse) (uses : List DataUse) (first n : ℕ) → one.block < first
    → flat_map (uses_of_block (one ∷ uses)) (range_with_len first n) ≡ flat_map (uses_of_block uses) (range_with_len first n)
others_stay one uses first zero above = refl
others_stay one uses first (suc n) above =
    rw (ne_eqb one.block first (λ same. omega arith)) (ap (λ (xs : List DataUse). uses_of_block uses first ++ xs) (others_stay one uses (first + 1) n (omega arith)))

-- a use of the least block is the first one
first_stays : (n k first : ℕ) (one : DataUse) (uses : List DataUse) → one.block ≡ first + k → k < n → AllByRecursion (λ (other : DataUse). one.block ≤ other.block) uses
    → flat_map (uses_of_block (one ∷ uses)) (range_with_len first n) ≡ one ∷ flat_map (uses_of_block uses) (range_with_len first n)
first_stays zero k first one uses is within all = absurd (omega arith)
first_stays (suc n) zero first one uses is within all =
    rw (eq-eqb one.block first (omega arith)) (ap (λ (xs : List DataUse). one ∷ (uses_of_block uses first ++ xs)) (others_stay one uses (first + 1) n (omega arith)))
first_stays (suc n) (suc k) first one uses is within all =
    rw (ne_eqb one.block first (λ same. omega arith), none_below one.block first uses (omega arith) all) (first_stays n k (first + 1) one uses (omega arith) (omega arith) all)

-- uses whose blocks rise are those of one block after another
pub grouped : (first n : ℕ) (uses : List DataUse) → BlocksRise uses → AllByRecursion (λ (one : DataUse). (first ≤ one.block) × (one.block < first + n)) uses
    → flat_map (uses_of_block uses) (range_with_len first n) ≡ uses
grouped first n [] rise all = no_uses first n
grouped first n (one ∷ uses) rise all =
    let least = all.0.0 in
    let most = all.0.1 in
    first_stays n (one.block - first) first one uses (omega arith) (omega arith) rise.0 ∙ ap (λ (xs : List DataUse). one ∷ xs) (grouped first n uses rise.1 all.1)

-- the test of an order of numbers
less_is : (b c : ℕ) → is_lt (nat_cmp b c) ≡ nat_lt b c
less_is b c = elim (cases_Bool (nat_lt b c)) [
  | inl less ↦ rw less refl
  | inr not_less ↦ elim (cases_Bool (nat_eq b c)) [
    | inl same ↦ rw (not_less, same) refl
    | inr other ↦ rw (not_less, other) refl
  ]
]

-- a use ties with one of a block where it has that block
tie_is : (b c : ℕ) → not (is_lt (nat_cmp b c)) && not (is_lt (nat_cmp c b)) ≡ nat_eq c b
tie_is b c = rw (less_is b c, less_is c b) (elim (cases_Bool (nat_lt b c)) [
  | inl less ↦ let below = ltb-true b c less in rw (less, ne_eqb c b (λ same. omega arith)) refl
  | inr not_less ↦ elim (cases_Bool (nat_lt c b)) [
    | inl more ↦ let above = ltb-true c b more in rw (not_less, more, ne_eqb c b (λ same. omega arith)) refl
    | inr not_more ↦
        let least = ltb-false b c not_less in
        let most = ltb-false c b not_more in
        rw (not_less, not_more, eq-eqb c b (omega arith)) refl
  ]
])

filter_alike : (p q : DataUse → Bool) → ((one : DataUse) → p one ≡ q one) → (uses : List DataUse) → filter p uses ≡ filter q uses
filter_alike p q alike [] = refl
filter_alike p q alike (one ∷ uses) = rw (alike one, filter_alike p q alike uses) refl

-- a stable sort leaves the uses of each block as they were
abbrev block_key : DataUse → ℕ
block_key one = one.block

abbrev of_block : ℕ → DataUse
of_block b = record { block = b; id = 0; virt = 0 }

block_stays : (old new : List DataUse) → IsStableByKey block_key nat_cmp old new → (b : ℕ) → uses_of_block new b ≡ uses_of_block old b
block_stays old new stable b =
    filter_alike (λ (one : DataUse). nat_eq one.block b) (ties (λ (x y : DataUse). is_lt (nat_cmp x.block y.block)) (of_block b)) (λ one. sym (tie_is b one.block)) new
    ∙ stable (of_block b)
    ∙ filter_alike (ties (λ (x y : DataUse). is_lt (nat_cmp x.block y.block)) (of_block b)) (λ (one : DataUse). nat_eq one.block b) (λ one. tie_is b one.block) old

blocks_stay : (old new : List DataUse) → ((b : ℕ) → uses_of_block new b ≡ uses_of_block old b) → (blocks : List ℕ) → flat_map (uses_of_block new) blocks ≡ flat_map (uses_of_block old) blocks
blocks_stay old new stays [] = refl
blocks_stay old new stays (b ∷ blocks) = rw (stays b, blocks_stay old new stays blocks) refl

-- what a stable sort by blocks leaves
module _ {F : Type 0} {g : Mut F (Bor DataUse × Unit {0}) ℕ} {f : F} (old new : List DataUse) (calls : (a : Bor DataUse × Unit {0}) (r : ℕ) (f' : F) → Called g f a r f' → (r ≡ a.0.now.block) × (f' ≡ f)) where
  pub sorted_uses : IsSortedByKeyClosure g nat_cmp f new → IsStableByKeyClosure g nat_cmp f old new → IsPermutation old new
      → (first n : ℕ) → All (λ (one : DataUse). (first ≤ one.block) × (one.block < first + n)) old → new ≡ flat_map (uses_of_block old) (range_with_len first n)
  sorted_uses sorted stable permutation first n all =
      let within = All-permutation (λ (one : DataUse). (first ≤ one.block) × (one.block < first + n)) old new permutation all in
      sym (grouped first n new (blocks_rise new (IsNonDecreasingBy-from_sort_by_key block_key new sorted calls)) (recursion_from_All (λ (one : DataUse). (first ≤ one.block) × (one.block < first + n)) new within))
      ∙ blocks_stay old new (block_stays old new (stable block_key (always_returns_same g (λ a r. r ≡ a.0.now.block) f calls))) (range_with_len first n)

-- what is kept of a region lies in it
each_within : (first end : ℕ) (uses : List DataUse) → All (λ (one : DataUse). (first ≤ one.block) × (one.block < first + (end - first))) (filter (is_within first end) uses)
each_within first end uses = λ k d below.
    let kept = filter_passes (is_within first end) uses k d below in
    within_is (get_or (filter (is_within first end) uses) k d) kept
  where
    within_is : (one : DataUse) → is_within first end one ≡ true → (first ≤ one.block) × (one.block < first + (end - first))
    within_is one passes =
        let parts = and_parts (not (nat_lt one.block first)) (nat_lt one.block end) passes in
        let least = ltb-false one.block first (not-true (nat_lt one.block first) parts.0) in
        let most = ltb-true one.block end parts.1 in
        (least, omega arith)

-- the uses of a region's block are among those that were kept
module _ (first end : ℕ) where
  is_inside : (one : DataUse) → first ≤ one.block → one.block < end → is_within first end one ≡ true
  is_inside one least most = rw (le-ltb one.block first least, lt-ltb one.block end most) refl

  block_kept : (b : ℕ) (uses : List DataUse) → first ≤ b → b < end → uses_of_block (filter (is_within first end) uses) b ≡ uses_of_block uses b
  block_kept b [] least most = refl
  block_kept b (one ∷ uses) least most = elim (cases_Bool (is_within first end one)) [
    | inl inside ↦ rw inside (ap (λ (xs : List DataUse). cond (nat_eq one.block b) (one ∷ xs) xs) (block_kept b uses least most))
    | inr outside ↦
        let other = ne_eqb one.block b (λ same. true≢false (sym (is_inside one (omega arith) (omega arith)) ∙ outside)) in
        rw (outside, other) (block_kept b uses least most)
  ]

  blocks_kept : (from n : ℕ) (uses : List DataUse) → first ≤ from → n ≤ end - from
      → flat_map (uses_of_block (filter (is_within first end) uses)) (range_with_len from n) ≡ flat_map (uses_of_block uses) (range_with_len from n)
  blocks_kept from zero uses least most = refl
  blocks_kept from (suc n) uses least most = rw (block_kept from uses least (omega arith), blocks_kept (from + 1) n uses (omega arith) (omega arith)) refl

  pub region_kept : (uses : List DataUse) → flat_map (uses_of_block (filter (is_within first end) uses)) (range_with_len first (end - first)) ≡ ordered_uses first end uses
  region_kept uses = blocks_kept first (end - first) uses (omega arith) (omega arith)

  -- so they are the region's uses, in their order, once they are sorted
  pub region_sorted : (uses kept new : List DataUse) → kept ≡ filter (is_within first end) uses
      → ((first n : ℕ) → All (λ (one : DataUse). (first ≤ one.block) × (one.block < first + n)) kept → new ≡ flat_map (uses_of_block kept) (range_with_len first n))
      → new ≡ ordered_uses first end uses
  region_sorted uses kept new is sorted =
      sorted first (end - first) (subst (All (λ (one : DataUse). (first ≤ one.block) × (one.block < first + (end - first)))) (sym is) (each_within first end uses))
      ∙ (ap (λ (xs : List DataUse). flat_map (uses_of_block xs) (range_with_len first (end - first))) is ∙ region_kept uses)

-- the uses of a region are those of its first part, and then of the others
pub cut_uses : (first cut end : ℕ) → first ≤ cut → cut ≤ end → (uses : List DataUse) → ordered_uses first end uses ≡ ordered_uses first cut uses ++ ordered_uses cut end uses
cut_uses first cut end least most uses =
    let n : end - first ≡ (cut - first) + (end - cut) = omega arith in
    let here : first + (cut - first) ≡ cut = omega arith in
    ap (λ (blocks : List ℕ). flat_map (uses_of_block uses) blocks) (ap (range_with_len first) n ∙ (range_split first (cut - first) (end - cut) ∙ ap (λ (c : ℕ). range_with_len first (cut - first) ++ range_with_len c (end - cut)) here))
    ∙ flat_map-append (uses_of_block uses) (range_with_len first (cut - first)) (range_with_len cut (end - cut))

-- an end before the first block is as good as the first block
pub same_end : (first end : ℕ) (uses : List DataUse) → ordered_uses first (max end first) uses ≡ ordered_uses first end uses
same_end first end uses =
    let n : max end first - first ≡ end - first = omega arith in
    ap (λ (k : ℕ). flat_map (uses_of_block uses) (range_with_len first k)) n

-- a line that was printed or begun, which is this one where the device tells what it holds
pub line_told : {E : Type 0} (held : Option (List (List ℕ))) (text_of : List (List ℕ) → List ℕ) (text : List ℕ) {old new : Printing} {result : Result (Unit {0}) E}
    → IfSome held (λ image. text ≡ text_of image) → Prints text result old new → PrintsSome held text_of result old new
line_told held text_of text told prints = record { text = text; told = told; prints = prints }

-- the line of a row before those of others
pub tallied_first_line : (tallies others : List ℕ) (number : ℕ) (row : DeviceRow) (left later : List DeviceRow) → number ≡ get_or tallies 0 0 → others ≡ drop 1 tallies → left ≡ row ∷ later
    → tallied_rows tallies left ≡ device_line row number ++ tallied_rows others later
tallied_first_line tallies others number row left later first rest is = rw (first, rest, is) refl

-- four labels, each with a number
pub four_parts : (a b c d e f g h : List ℕ) {none one two three four : List ℕ} → none ≡ [] → one ≡ none ++ (a ++ b) → two ≡ one ++ (c ++ d) → three ≡ two ++ (e ++ f) → four ≡ three ++ (g ++ h)
    → four ≡ a ++ (b ++ (c ++ (d ++ (e ++ (f ++ (g ++ h))))))
four_parts a b c d e f g h first second third fourth fifth = rw (fifth, fourth, third, second, first) (simp append_assoc)

-- and the rest behind them
pub parts_rest : (a b c d e f g h rest : List ℕ) → (a ++ (b ++ (c ++ (d ++ (e ++ (f ++ (g ++ h))))))) ++ rest ≡ a ++ (b ++ (c ++ (d ++ (e ++ (f ++ (g ++ (h ++ rest)))))))
parts_rest a b c d e f g h rest = simp append_assoc

-- so far some lines were printed, which with the rest are the whole
pub record LinesSoFar (whole rest : List ℕ) (old new : Printing) : Type 0 where
  pub text : List ℕ
  pub cut : whole ≡ text ++ rest
  pub printed : Printed text old new

pub lines_more : (part later : List ℕ) {whole rest : List ℕ} {old mid new : Printing} → LinesSoFar whole rest old mid → rest ≡ part ++ later → Printed part mid new → LinesSoFar whole later old new
lines_more part later so_far is printed = record {
  text = so_far.text ++ part;
  cut = so_far.cut ∙ (ap (λ (xs : List ℕ). so_far.text ++ xs) is ∙ sym (append_assoc so_far.text part later));
  printed = printed_both so_far.printed printed;
}

-- the rest was printed, or a front of it
pub lines_end : {E : Type 0} (result : Result (Unit {0}) E) {whole rest : List ℕ} {old mid : Printing} (new : Printing) → LinesSoFar whole rest old mid → Prints rest result mid new → Prints whole result old new
lines_end result {rest = rest} new so_far prints = rw so_far.cut (prints_then so_far.text rest new result so_far.printed prints)

-- or a front of a part of it
pub lines_lost : (part later : List ℕ) {whole rest : List ℕ} {old mid new : Printing} → LinesSoFar whole rest old mid → rest ≡ part ++ later → Begun part mid new → Begun whole old new
lines_lost part later so_far is begun = rw (so_far.cut, is) (begun_after so_far.printed (begun_first later begun))

-- the lines of a region's uses, in two parts
pub text_parts : (first cut end : ℕ) → first ≤ cut → cut ≤ end → (uses : List DataUse) → uses_text (ordered_uses first end uses) ≡ uses_text (ordered_uses first cut uses) ++ uses_text (ordered_uses cut end uses)
text_parts first cut end least most uses = ap uses_text (cut_uses first cut end least most uses) ∙ flat_map-append use_line (ordered_uses first cut uses) (ordered_uses cut end uses)

-- What the lines of a sound pool's bytes come to: those of its meaning.

-- the lines of the uses of a block by a device
lines_of_mappings : (image : List (List ℕ)) (b : ℕ) (row : DeviceRow) (mappings : List Mapping)
    → uses_text (uses_of_block (map (use_by row.id) mappings) b) ≡ flat_map (mapping_line b (device_of image row)) (filter (λ (m : Mapping). nat_eq m.data_block b) mappings)
lines_of_mappings image b row [] = refl
lines_of_mappings image b row (m ∷ mappings) = elim (cases_Bool (nat_eq m.data_block b)) [
  | inl same ↦ rw (same, lines_of_mappings image b row mappings, eqb-true m.data_block b same) refl
  | inr other ↦ rw other (lines_of_mappings image b row mappings)
]

-- by each device
lines_of_rows : (image : List (List ℕ)) (b : ℕ) (rows : List DeviceRow) → uses_text (uses_of_block (rows_uses image rows) b) ≡ flat_map (mapping_lines b) (map (device_of image) rows)
lines_of_rows image b [] = refl
lines_of_rows image b (row ∷ rows) =
    ap uses_text (filter-append (λ (one : DataUse). nat_eq one.block b) (row_uses image row) (rows_uses image rows))
    ∙ (flat_map-append use_line (uses_of_block (row_uses image row) b) (uses_of_block (rows_uses image rows) b)
    ∙ rw (lines_of_mappings image b row (mappings_below image row.root), lines_of_rows image b rows) refl)

-- of each block
lines_of_blocks : (image : List (List ℕ)) (rows : List DeviceRow) (blocks : List ℕ)
    → uses_text (flat_map (uses_of_block (rows_uses image rows)) blocks) ≡ flat_map (λ block. flat_map (mapping_lines block) (map (device_of image) rows)) blocks
lines_of_blocks image rows [] = refl
lines_of_blocks image rows (b ∷ blocks) =
    flat_map-append use_line (uses_of_block (rows_uses image rows) b) (flat_map (uses_of_block (rows_uses image rows)) blocks)
    ∙ rw (lines_of_rows image b rows, lines_of_blocks image rows blocks) refl

-- the lines of a region's uses are those of the reverse map
pub rmap_is : (image : List (List ℕ)) (s : ThinSuper) (first end : ℕ) → s ≡ thin_fields (block_at image 0) → GivesPool image
    → uses_text (ordered_uses first end (super_uses image s)) ≡ rmap_lines first end (thin_meaning image)
unfolding rmap_lines
rmap_is image s first end is gives =
    rw (is, gives.devices) (lines_of_blocks image (pool_rows image) (range_with_len first (end - first)))

-- the line of a row is that of its device, where each row's tally stands at its place
module _ (image : List (List ℕ)) (pool : ThinPool) (size : ℕ) (all : List DeviceRow) (devices : pool.devices ≡ map (device_of image) all) where
  lines_are : (place : ℕ) (rows : List DeviceRow) (tallies : List ℕ)
      → ((k p : ℕ) → p ≡ place + k → get_or tallies k 0 ≡ number_at p (is_alone size (rows_placed image 0 all)) (rows_placed image place rows))
      → AllByRecursion (λ (row : DeviceRow). AllByRecursion (λ (m : Mapping). m.data_block < size) (mappings_below image row.root)) rows
      → tallied_rows tallies rows ≡ flat_map (device_of_list pool) (map (device_of image) rows)
  lines_are place [] tallies are within = refl
  lines_are place (row ∷ rows) tallies are within =
      let kind = is_alone size (rows_placed image 0 all) in
      let number = exclusive_number pool (device_of image row) in
      let first : get_or tallies 0 0 ≡ number = are 0 place (omega arith) ∙ (number_of_first image kind place row rows ∙ alone_are image pool size all devices row.id (mappings_below image row.root) within.0) in
      let later = lines_are (suc place) rows (drop 1 tallies)
      (λ k p is. get_or-drop 1 tallies k 0 ∙ (are (1 + k) p (omega (arith, is)) ∙ number_of_others image kind place p (omega (arith, is)) row rows)) within.1 in
      rw (first, later)
      (ap (λ (xs : List ℕ). xs ++ flat_map (device_of_list pool) (map (device_of image) rows))
      (parts_rest (codes "device ") (decimal row.id) (codes " mapped ") (decimal row.details.mapped) (codes " exclusive ") (decimal number) (codes " shared ") (decimal (row.details.mapped - number)) (details_part row)))

-- the lines of a pool's rows are the list of its devices
pub list_is : (image : List (List ℕ)) (s : ThinSuper) (tallies : List ℕ) → s ≡ thin_fields (block_at image 0) → AreExclusive image s tallies → GivesPool image
    → tallied_rows tallies (super_rows image s) ≡ device_list_lines (thin_meaning image)
unfolding device_list_lines
list_is image s tallies is are gives =
    let own = subst (λ (t : ThinSuper). AreExclusive image t tallies) is are in
    ap (λ (t : ThinSuper). tallied_rows tallies (super_rows image t)) is
    ∙ (lines_are image (thin_meaning image) (thin_fields (block_at image 0)).data_map.blocks (pool_rows image) gives.devices 0 (pool_rows image) tallies (λ k p same. ap (λ (q : ℕ). get_or tallies q 0) (at_zero k p same) ∙ own p) gives.within
    ∙ ap (flat_map (device_of_list (thin_meaning image))) (sym gives.devices))
  where
    at_zero : (k p : ℕ) → p ≡ 0 + k → k ≡ p
    at_zero k p same = omega (arith, same)
