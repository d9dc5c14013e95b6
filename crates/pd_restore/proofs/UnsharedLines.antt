-- The lines of a pool's text of version 1, and what they need.
use Rattle.std.proofs.Common.{◌≡◌, ℕ, suc, ◌+◌, ◌-◌, ◌<◌, ◌≤◌, ◌^◌, false, leb, eqb, List, [], ◌∷◌, length, sum, sum_by, refl, sym, ◌∙◌, subst, arith, min}
use Rattle.std.specs.List.{count_by, flat_map, range_with_len}
use Rattle.std.proofs.lemmas.Bool.{true≢false}
use Rattle.std.proofs.lemmas.List.FromFn.{length-range_with_len}
use Rattle.std.proofs.lemmas.List.Sums.{sum_by-cons, count_by-le-length}
use Rattle.pd_grammar.specs.Texts.{has_ended}
use Rattle.pd_grammar.proofs.GrammarLemmas.{is_read}
use Rattle.pd_grammar.specs.Need.{nodes_of_tree, need_tree, data_of_line, thin_need_so_far, need_of_devices, overflows_in}
use Rattle.pd_grammar.specs.ThinText.{Line, first_line, shared_first_line, pool_line, leaf_line, device_line, use_line, map_line, end_line, pool_format, data_blocks_of, is_shared, unmapped}
use Rattle.pd_grammar.proofs.ThinRead.{FitsLine, PlacedInPool, pool_grammar}
use Rattle.pd_grammar.specs.ThinText as d
use Rattle.pd_laid.specs.PoolText.{pool_need_so_far}
use Rattle.pd_value.specs.declared.thin.Details.{Details}
use Rattle.pd_draft.specs.Closed.{DraftState}
use Rattle.pd_texts.specs.declared.thin_text.ThinLine.{ThinLine}
use Rattle.pd_texts.specs.declared.thin_text.Run2.{Run2}
use Rattle.pd_texts.specs.Reader.{IsReadAfter, AreReadSoFar}
use Rattle.pd_texts.specs.ThinLine.{line_of, details_of, run_of}
use Rattle.pd_texts.proofs.ThinNextLemmas.{pool_read, leaf_read, device_read, use_read, run_read, end_read}
use Rattle.pd_texts.specs.ThinState.{IsEndLine}
use Rattle.pd_texts.specs.declared.thin_text.ThinLine.TheVariants as v
use Rattle.pd_devices.specs.declared.devices.Devices.{Devices}
use Rattle.pd_devices.proofs.GrowthLemmas.{sum_few}
use Rattle.pd_devices.proofs.DeviceLemmas.{trees_within, top}
use Rattle.pd_devices.specs.Devices.{MayFollow}
use Rattle.pd_devices.specs.Gathered.{HasGathered, mapped_in, Gathered}
use Rattle.pd_restoring.proofs.ReadingLemmas.{tree_most}
use Rattle.pd_restore.specs.Reading.{Follows, HasRoom, HasUnshared}

-- the first lines that a text may have
abbrev pub firsts : List Line
firsts = first_line ∷ shared_first_line ∷ []

-- what is needed of lines of version 1
pub need_is : (room : ℕ) (before : List Line) → is_shared before ≡ false → pool_need_so_far room before ≡ thin_need_so_far room before
need_is room before version = rw version refl

-- what the lines of a text say of each other
pub pool_after : (before : List Line) (line : ThinLine) (uuid : List ℕ) (time transaction block_size blocks : ℕ) → line ≡ v.Pool uuid time transaction block_size blocks → 2 ≤ length before
    → IsReadAfter pool_format before (line_of line) → ⊥
pool_after before line uuid time transaction block_size blocks is later after =
    let one = (pool_read firsts pool_grammar before (record { uuid = uuid; time = time; transaction = transaction; block_size = block_size; data_blocks = blocks }) (rw is at after)).second in omega arith

no_leaf : (before : List Line) (l : d.LeafHead) → is_shared before ≡ false → IsReadAfter pool_format before (leaf_line l) → ⊥
no_leaf before l version after = true≢false (sym (leaf_read firsts pool_grammar before l after).shared ∙ version)

no_use : (before : List Line) (number : ℕ) → is_shared before ≡ false → IsReadAfter pool_format before (use_line number) → ⊥
no_use before number version after = true≢false (sym (use_read firsts pool_grammar before number after).shared ∙ version)

pub leaf_after : (before : List Line) (line : ThinLine) (number entries : ℕ) → line ≡ v.Leaf number entries → is_shared before ≡ false → IsReadAfter pool_format before (line_of line) → ⊥
leaf_after before line number entries is version after =
    no_leaf before (record { number = number; entries = entries }) version (rw is at after)

pub use_after : (before : List Line) (line : ThinLine) (number : ℕ) → line ≡ v.UseLeaf number → is_shared before ≡ false → IsReadAfter pool_format before (line_of line) → ⊥
use_after before line number is version after = no_use before number version (rw is at after)

pub device_after : (before : List Line) (line : ThinLine) (id : ℕ) (details : Details) → line ≡ v.Device id details → IsReadAfter pool_format before (line_of line) → unmapped before ≡ 0
device_after before line id details is after = (device_read firsts pool_grammar before (details_of id details) (rw is at after)).complete

pub map_after : (before : List Line) (line : ThinLine) (run : Run2) → line ≡ v.Map run → IsReadAfter pool_format before (line_of line) → MayFollow before (run_of run)
map_after before line run is after =
    let m = run_read firsts pool_grammar before (run_of run) (rw is at after) in
    record { some = m.some; fits = m.virtual_fits; within = m.within; time = m.time_fits; above = m.above; enough = m.mapped }

mappings_most : (n : ℕ) → n < 2 ^ 64 → need_tree 8 n < 2 ^ 58
mappings_most n fits = let most = tree_most 252 n in omega arith

pub small_most : (n : ℕ) → n ≤ 2 ^ 41 → (need_tree 8 n < 2 ^ 58) × ((need_tree 24 n < 2 ^ 58) × (need_tree 4 n < 2 ^ 58))
small_most n few = (let most = tree_most 252 n in omega arith, (let most = tree_most 126 n in omega arith, let most = tree_most 336 n in omega arith))

pub overflows_most : (ns : List ℕ) (blocks : ℕ) → overflows_in ns blocks ≤ blocks
unfolding overflows_in
overflows_most ns blocks =
    omega (arith, count_by-le-length (λ d. leb 3 (count_by (λ b. eqb b d) ns)) (range_with_len 0 blocks), length-range_with_len 0 blocks)

some_tree : (n : ℕ) → 1 ≤ need_tree 8 n
unfolding nodes_of_tree
some_tree n = omega arith

trees_some : (mapped : List ℕ) → length mapped ≤ sum_by (need_tree 8) mapped
trees_some [] = omega arith
trees_some (n ∷ mapped) = omega (arith, trees_some mapped, some_tree n, sum_by-cons (need_tree 8) n mapped)

device_fits : (room : ℕ) (before : List Line) (d : d.Details) → d.mapped < 2 ^ 64 → thin_need_so_far room before ≤ room → room ≤ 4161600 → thin_need_so_far room (device_line d ∷ before) ≤ top
unfolding thin_need_so_far need_of_devices
device_fits room before d fits need most =
    let mapped = mapped_in before in
    let number = small_most (suc (length mapped)) (omega (arith, trees_some mapped)) in
    omega (arith, mappings_most d.mapped fits, number.0, number.1.0, sum_by-cons (need_tree 8) d.mapped mapped)

map_fits : (room : ℕ) (before : List Line) (run : d.Run) → data_blocks_of before ≤ 2 ^ 40 → thin_need_so_far room before ≤ room → room ≤ 4161600 → thin_need_so_far room (map_line run ∷ before) ≤ top
unfolding thin_need_so_far need_of_devices
map_fits room before run small need most =
    let over = overflows_most (flat_map data_of_line (map_line run ∷ before)) (data_blocks_of before) in
    let tree = (small_most (overflows_in (flat_map data_of_line (map_line run ∷ before)) (data_blocks_of before)) (omega arith)).1.1 in
    omega arith

-- what is needed after a line more is a number of its type
pub need_fits : (room : ℕ) (before : List Line) (line : ThinLine) → 2 ≤ length before → is_shared before ≡ false → IsReadAfter pool_format before (line_of line) → data_blocks_of before ≤ 2 ^ 40
    → thin_need_so_far room before ≤ room → room ≤ 4161600 → thin_need_so_far room (line_of line ∷ before) ≤ top
need_fits room before (v.Pool uuid time transaction block_size blocks) later version after small need most = absurd (pool_after before (v.Pool uuid time transaction block_size blocks) uuid time transaction block_size blocks refl later after)
need_fits room before (v.Leaf number entries) later version after small need most = absurd (no_leaf before (record { number = number; entries = entries }) version after)
need_fits room before (v.Device id details) later version after small need most = device_fits room before (details_of id details) (device_read firsts pool_grammar before (details_of id details) after).mapped_fits need most
need_fits room before (v.UseLeaf number) later version after small need most = absurd (no_use before number version after)
need_fits room before (v.Map run) later version after small need most = map_fits room before (run_of run) small need most

-- a line after these ones is of the same version
pub same_version : (before : List Line) (line : ThinLine) → is_shared (line_of line ∷ before) ≡ is_shared before
same_version before (v.Pool uuid time transaction block_size blocks) = refl
same_version before (v.Leaf number entries) = refl
same_version before (v.Device id details) = refl
same_version before (v.UseLeaf number) = refl
same_version before (v.Map run) = refl

-- the first line is the first
pub first_alone : (before : List Line) (line : Line) → IsReadAfter pool_format before line → PlacedInPool before line
first_alone before line one = (is_read pool_format FitsLine PlacedInPool pool_grammar before one.bytes line one.is).placed

-- each line but the first two gives a mapping or a device
count_lines : (before : List Line) → AreReadSoFar pool_format before → has_ended pool_format before ≡ false → is_shared before ≡ false
    → length before + unmapped before ≤ 2 + (length (mapped_in before) + sum (mapped_in before))
count_lines [] so_far going version = omega arith
count_lines (first_line ∷ before) so_far going version = let none = (first_alone before first_line so_far.0).0 in omega arith
count_lines (shared_first_line ∷ before) so_far going version = absurd (true≢false version)
count_lines (pool_line p ∷ before) so_far going version = let one = (pool_read firsts pool_grammar before p so_far.0).second in omega arith
count_lines (leaf_line l ∷ before) so_far going version = absurd (no_leaf before l version so_far.0)
count_lines (device_line e ∷ before) so_far going version =
    let is = device_read firsts pool_grammar before e so_far.0 in
    omega (arith, count_lines before so_far.1 so_far.0.going version, is.complete, sum_by-cons (λ (x : ℕ). x) e.mapped (mapped_in before))
count_lines (use_line n ∷ before) so_far going version = absurd (no_use before n version so_far.0)
count_lines (map_line m ∷ before) so_far going version =
    let is = run_read firsts pool_grammar before m so_far.0 in
    omega (arith, count_lines before so_far.1 so_far.0.going version, is.some, is.mapped)
count_lines (end_line ∷ before) so_far going version = absurd (true≢false going)

-- so a text that has room has few of them
pub few_lines : {s : Devices} {start now : DraftState} (room : ℕ) (before : List Line) → HasGathered before s start now → AreReadSoFar pool_format before → has_ended pool_format before ≡ false
    → pool_need_so_far room before ≤ room → room ≤ 4161600 → length before < 2 ^ 64 - 1
few_lines room before h lines going need most =
    let lacks : thin_need_so_far room before ≤ room = subst (λ (n : ℕ). n ≤ room) (need_is room before h.version) need in
    omega (arith, count_lines before lines going h.version, sum_few (mapped_in before), trees_some (mapped_in before), trees_within room before, lacks)

-- the last line needs nothing
pub end_need : (room : ℕ) (before : List Line) → is_shared before ≡ false → pool_need_so_far room (end_line ∷ before) ≡ pool_need_so_far room before
unfolding thin_need_so_far
end_need room before version = rw version refl

-- What is gathered of a pool's text of version 1.

-- what was gathered of lines that have room
abbrev pub as_gathered : {s : Devices} {start now : DraftState} (before : List Line) (room : ℕ) → HasRoom HasUnshared before room s start now → Gathered s now
as_gathered {s} {start} {now} before room h = record {
  before = before;
  start = start;
  gathered = h.gathered;
  room = room;
  need = subst (λ (n : ℕ). n ≤ room) (need_is room before h.gathered.version) h.need;
  most = h.most;
  there = h.there;
}

-- the last line after these ones
pub end_follows : (before : List Line) → IsReadAfter pool_format before end_line → IsEndLine before
end_follows before after = end_read (first_line ∷ shared_first_line ∷ []) pool_grammar before after

-- it needs nothing
pub end_fits : (room : ℕ) (before : List Line) → is_shared before ≡ false → pool_need_so_far room before ≤ room → pool_need_so_far room (end_line ∷ before) ≤ room
end_fits room before version need = subst (λ (n : ℕ). n ≤ room) (sym (end_need room before version)) need

-- what is needed after a line more is known
pub line_fits : {s : Devices} {start now : DraftState} (room : ℕ) (before : List Line) (line : ThinLine) → Follows HasUnshared before room s (line_of line) start now
    → min (thin_need_so_far room (line_of line ∷ before)) (2 ^ 64 - 1) ≡ pool_need_so_far room (line_of line ∷ before)
line_fits {s} {start} {now} room before line f =
    let version = f.so_far.gathered.version in
    let lacks : thin_need_so_far room before ≤ room = subst (λ (n : ℕ). n ≤ room) (need_is room before version) f.so_far.need in
    let most = need_fits room before line f.later version f.lines.0 f.so_far.gathered.small lacks f.so_far.most in
    capped most ∙ sym (need_is room (line_of line ∷ before) (same_version before line ∙ version))
  where
    capped : {n : ℕ} → n ≤ 2 ^ 64 - 1 → min n (2 ^ 64 - 1) ≡ n
    capped most = omega arith

-- a text that has room has few lines
pub few_after : {s : Devices} {start now : DraftState} (room : ℕ) (before : List Line) (line : ThinLine) → Follows HasUnshared before room s (line_of line) start now → length before < 2 ^ 64 - 1
few_after room before line f = few_lines room before f.so_far.gathered f.so_far.lines f.lines.0.going f.so_far.need f.so_far.most
