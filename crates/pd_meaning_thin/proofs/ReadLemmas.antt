-- How many reads are left, and the number that falls with each block that is met.
use Rattle.std.proofs.Common.{◌≡◌, ℕ, ◌+◌, ◌-◌, ◌<◌, ◌≤◌, Bool, true, false, List, ◌++◌, length, refl, arith}
use Rattle.std.specs.List.{slice_set}
use Rattle.std.proofs.lemmas.List.{length-append}
use Rattle.std.proofs.lemmas.List.FromFn.{length-map-range_with_len}
use Rattle.std.proofs.lemmas.List.Sums.{sum_by-set}
use Rattle.pd_kinds.specs.Node.{child_at, entry_count, is_inner_node}
use Rattle.pd_tree.specs.Below.{kids_from}
use Rattle.pd_tree.proofs.StackLemmas.{few_entries}
use Rattle.pd_meaning_thin.specs.declared.marks.Mark.{Mark}
use Rattle.pd_meaning_thin.specs.declared.marks.Mark.TheVariants.{Unseen, Inner, SharedInner, Leaf, SharedLeaf, OtherLeaf}
use Rattle.pd_meaning_thin.specs.Marks.{has_few_entries, is_followed, mark_after, mark_at, mark_of, mark_once, reads_left, reads_of}
use Rattle.pd_meaning_thin.specs.Walk.{walk_number}

-- a node has few children
few_by : (inner : Bool) (block : List ℕ) → is_inner_node block ≡ inner → length (kids_from 8 block 0) ≤ 508
unfolding kids_from
few_by true block inner =
    let few = few_entries 8 block in
    rw (inner, length-map-range_with_len (child_at block) 0 (entry_count 8 block - 0)) (omega arith)
few_by false block leaf = rw leaf (omega arith)

pub few_children : (block : List ℕ) → length (kids_from 8 block 0) ≤ 508
few_children block = few_by (is_inner_node block) block refl

-- a node that was met once can be read once more
reads_once : (inner few : Bool) → reads_of (mark_once inner few) ≤ 1
reads_once true few = omega arith
reads_once false true = omega arith
reads_once false false = omega arith

-- a read takes one of those that are left
read_one : (mark : Mark) (block : List ℕ) → is_followed mark ≡ true → reads_of (mark_after mark block) + 1 ≤ reads_of mark
unfolding mark_of
read_one Unseen block followed = let once = reads_once (is_inner_node block) (has_few_entries block) in omega arith
read_one Inner block followed = omega arith
read_one SharedInner block followed = absurd (cc)
read_one Leaf block followed = absurd (cc)
read_one SharedLeaf block followed = absurd (cc)
read_one OtherLeaf block followed = absurd (cc)

-- and where none is needed, as many are left
pass_one : (mark : Mark) (block : List ℕ) → is_followed mark ≡ false → reads_of (mark_after mark block) ≡ reads_of mark
pass_one Unseen block passed = absurd (cc)
pass_one Inner block passed = absurd (cc)
pass_one SharedInner block passed = refl
pass_one Leaf block passed = refl
pass_one SharedLeaf block passed = refl
pass_one OtherLeaf block passed = refl

pub one_read : (marks : List Mark) (b : ℕ) (block : List ℕ) → b < length marks → is_followed (mark_at marks b) ≡ true
    → reads_left (slice_set marks b (mark_after (mark_at marks b) block)) + 1 ≤ reads_left marks
one_read marks b block within followed =
    let change = sum_by-set reads_of marks b (mark_after (mark_at marks b) block) Unseen within in
    let falls = read_one (mark_at marks b) block followed in
    omega arith

pub no_read : (marks : List Mark) (b : ℕ) (block : List ℕ) → b < length marks → is_followed (mark_at marks b) ≡ false
    → reads_left (slice_set marks b (mark_after (mark_at marks b) block)) ≡ reads_left marks
no_read marks b block within passed =
    let change = sum_by-set reads_of marks b (mark_after (mark_at marks b) block) Unseen within in
    let same = pass_one (mark_at marks b) block passed in
    omega arith

-- so the number doesn't rise, though children wait
pub number_after : (marks : List Mark) (b : ℕ) (block waiting : List ℕ) → b < length marks → is_followed (mark_at marks b) ≡ true
    → walk_number (slice_set marks b (mark_after (mark_at marks b) block)) (waiting ++ kids_from 8 block 0) ≤ walk_number marks waiting
number_after marks b block waiting within followed =
    let falls = one_read marks b block within followed in
    let few = few_children block in
    omega (arith, length-append waiting (kids_from 8 block 0))
