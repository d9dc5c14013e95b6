-- Marks of blocks that stand one after another.
-- The marks of blocks that a walk shows.
use Rattle.std.proofs.Common.{◌≡◌, ℕ, ◌+◌, ◌*◌, Bool, true, ◌&&◌, nat_eq, List, [], ◌∷◌, ◌++◌, drop, length, sum, Option, Some, None, refl, sym, ap, ◌∙◌, arith, append_assoc, append-nil}
use Rattle.std.specs.List.{flat_map, slice_get, AllByRecursion}
use Rattle.std.proofs.Math.Bool.{and_assoc}
use Rattle.std.proofs.Math.Nat.{suc-mul}
use Rattle.std.proofs.lemmas.Bool.{and_parts, eqb-true}
use Rattle.std.proofs.lemmas.List.Sums.{sum_by-cons}
use Rattle.pd_kinds.specs.Graph.{Graph, is_reached}
use Rattle.pd_kinds.specs.Layout.{Layout}
use Rattle.pd_kinds.proofs.ListLemmas.{all_from}
use Rattle.pd_graph.specs.declared.audit.Audit.{Audit}
use Rattle.pd_graph.specs.Format.{no_pairs}
use Rattle.pd_settle.proofs.LookLemmas.{drop_at}
use Rattle.pd_check.specs.declared.array_marks.ArrayMark.{ArrayMark}
use Rattle.pd_check.specs.Arrays.{are_filled, last_of, mark_of, fits, later, join, joined, AreAllCounted, AreAllShown, AreCounted, HasWords}
use Rattle.pd_check.specs.Known.{IsKnown}
use Rattle.pd_check.specs.declared.array_rules.ArrayRoles.{ArrayRoles}
use Rattle.pd_check.specs.declared.array_marks.ArrayMarks.{ArrayMarks}

-- of blocks that there are, one is the last
pub last_some : (n : ℕ) (ns : List ℕ) → (k : ℕ) × (last_of (n ∷ ns) ≡ Some k)
last_some n [] = (n, refl)
last_some n (m ∷ ns) = last_some m ns

later_none : (behind : Option ℕ) → later None behind ≡ behind
later_none None = refl
later_none (Some n) = refl

last-append : (xs ys : List ℕ) → last_of (xs ++ ys) ≡ later (last_of xs) (last_of ys)
last-append [] ys = sym (later_none (last_of ys))
last-append (n ∷ []) [] = refl
last-append (n ∷ []) (m ∷ ms) = let some = last_some m ms in some.1 ∙ sym (rw some.1 refl)
last-append (n ∷ m ∷ ns) ys = last-append (m ∷ ns) ys

-- blocks before others are all full
filled_before : (most n : ℕ) (behind : Option ℕ) (k : ℕ) (filled : Bool) → behind ≡ Some k → (nat_eq n most && filled) ≡ ((true && fits most (Some n) behind) && filled)
filled_before most n behind k filled some = rw some refl

filled-append : (most : ℕ) (xs ys : List ℕ)
    → are_filled most (xs ++ ys) ≡ ((are_filled most xs && fits most (last_of xs) (last_of ys)) && are_filled most ys)
filled-append most [] ys = refl
filled-append most (n ∷ []) [] = refl
filled-append most (n ∷ []) (m ∷ ms) =
    let some = last_some m ms in
    filled_before most n (last_of (m ∷ ms)) some.0 (are_filled most (m ∷ ms)) some.1
filled-append most (n ∷ m ∷ ns) ys =
    let front = are_filled most (m ∷ ns) in
    let fit = fits most (last_of (m ∷ ns)) (last_of ys) in
    let behind = are_filled most ys in
    ap (λ (b : Bool). nat_eq n most && b) (filled-append most (m ∷ ns) ys)
    ∙ (sym (and_assoc (nat_eq n most) (front && fit) behind)
    ∙ ap (λ (b : Bool). b && behind) (sym (and_assoc (nat_eq n most) front fit)))

same_mark : (full full' : Bool) (last last' : Option ℕ) → full ≡ full' → last ≡ last'
    → ◌≡◌ {A = ArrayMark} (record { full = full; last = last }) (record { full = full'; last = last' })
same_mark full full' last last' e f = rw (e, f) refl

mark-append : (most : ℕ) (xs ys : List ℕ) → join most (mark_of most xs) (mark_of most ys) ≡ mark_of most (xs ++ ys)
mark-append most xs ys = same_mark _ _ _ _ (sym (filled-append most xs ys)) (sym (last-append xs ys))

-- so the marks below children are that of all blocks below them
pub joined_marks : (most : ℕ) (marks : ℕ → ArrayMark) (counts : ℕ → List ℕ) (cs xs : List ℕ) → AllByRecursion (λ c. marks c ≡ mark_of most (counts c)) cs
    → joined most marks (mark_of most xs) cs ≡ mark_of most (xs ++ flat_map counts cs)
joined_marks most marks counts [] xs each = ap (mark_of most) (sym (append-nil xs))
joined_marks most marks counts (c ∷ cs) xs each =
    ap (λ (m : ArrayMark). joined most marks m cs) (ap (join most (mark_of most xs)) each.0 ∙ mark-append most xs (counts c))
    ∙ (joined_marks most marks counts cs (xs ++ counts c) each.1
    ∙ ap (mark_of most) (append_assoc xs (counts c) (flat_map counts cs)))

-- one child more
pub joined_more : (most : ℕ) (marks : ℕ → ArrayMark) (sum all : ArrayMark) (cs : List ℕ) (i c : ℕ) → slice_get cs i ≡ Some c → joined most marks sum (drop i cs) ≡ all
    → joined most marks (join most sum (marks c)) (drop (i + 1) cs) ≡ all
joined_more most marks sum all cs i c is_child before =
    sym (ap (joined most marks sum) (drop_at cs i c is_child)) ∙ before

-- the words of blocks of which each but the last is full
pub filled_words : (most n : ℕ) (ns : List ℕ) (k : ℕ) → are_filled most (n ∷ ns) ≡ true → last_of (n ∷ ns) ≡ Some k → sum (n ∷ ns) ≡ length ns * most + k
filled_words most n [] k full last = let same : n ≡ k = cc in omega arith
filled_words most n (m ∷ ns) k full last =
    let parts = and_parts (nat_eq n most) (are_filled most (m ∷ ns)) full in
    let same = eqb-true n most parts.0 in
    let rest = filled_words most m ns k parts.1 last in
    omega (arith, sum_by-cons (λ (j : ℕ). j) n (m ∷ ns), suc-mul (length ns) most)

-- none
pub none_shown : (layout : ℕ → Layout) (image : List (List ℕ)) (marks : ArrayMarks) → AreAllShown layout image no_pairs marks
none_shown layout image marks kind has = record { blocks = λ b there alone. absurd (cc) }

-- all that is reached, where each block is reached in one role
pub shown_counted : (graph : Graph) (image : List (List ℕ)) (audit : Audit) (layout : ℕ → Layout) (kinds : List ArrayRoles) (marks : ArrayMarks) → IsKnown graph image audit
    → AllByRecursion (HasWords layout) kinds → AreAllShown layout image (is_reached graph image) marks → AreAllCounted kinds graph image marks
shown_counted graph image audit layout kinds marks known have shown =
    all_from (HasWords layout) (λ (kind : ArrayRoles). AreCounted graph image kind marks)
    (λ kind has. record {
      blocks = λ b there.
          (shown kind has).blocks b there.found (λ other low found. sym (known.alone b kind.blocks other there (record { block = there.block; within = low; found = found })));
    }) kinds have
