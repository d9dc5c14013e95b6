-- How often a check reads its image, from what the check of its kind says.
use Rattle.std.proofs.Common.{◌≡◌, ◌≢◌, ℕ, ◌+◌, ◌*◌, ◌≤◌, false, List, [], length, Option, Some, None, IfSome, arith}
use Rattle.std.proofs.lemmas.Option.{IfSome_then}
use Rattle.std.proofs.lemmas.Bool.{false_from_ne_true}
use Rattle.pd_kinds.specs.declared.kind.Flagged.{Flagged}
use Rattle.pd_kinds.specs.declared.kind.Passing.{Passing}
use Rattle.pd_kinds.specs.declared.kind.Kind.{Kind}
use Rattle.pd_kinds.specs.declared.kind.Stage.{Stage}
use Rattle.pd_kinds.specs.declared.kind.Stage.TheVariants.{Super, Walk, Order, Whole, Counts}
use Rattle.pd_kinds.specs.Graph.{block_at, nodes}
use Rattle.pd_kinds.specs.Stages.{faults}
use Rattle.pd_kinds.specs.Flagged.{kind_of}
use Rattle.pd_kinds.specs.Rule.{Reported, passes, report_of}
use Rattle.pd_kinds.proofs.LeakLemmas.{passing_super}
use Rattle.pd_answers.specs.Terms.{ReadsFew}
use Rattle.pd_check.specs.Check.{graph_of_super, reads_of}
use Rattle.pd_check.proofs.CheckLemmas.{same_graph}
use Rattle.pd_check.specs.Check as check

-- a check reads each pair at most six times, up to any stage
at_most_six : (until : Stage) (n : ℕ) → reads_of until * n ≤ 6 * n
at_most_six Super n = omega arith
at_most_six Walk n = omega arith
at_most_six Order n = omega arith
at_most_six Whole n = omega arith
at_most_six Counts n = omega arith

-- a check, and at most one read after it, where the superblock has no fault
pub few_then : (kind : Kind) (until : Stage) (held : Option (List (List ℕ))) (old read new : ℕ)
    → IfSome held (λ image. check.ReadsFew kind until image (old + 1) read) → new ≤ read + 1
    → IfSome held (λ image. (faults kind Super image ≢ []) → new ≤ read)
    → IfSome held (λ image. ReadsFew kind image old new)
few_then kind until None old read new few one same = tt
few_then kind until (Some image) old read new few one same =
    let n = length (nodes (graph_of_super kind (block_at image 0)) image) in
    let six = at_most_six until n in
    let most = few.nodes in
    record {
      pairs = rw (same_graph kind image) (omega arith);
      faulty = λ some. let none = few.none some in let again = same some in omega arith;
    }

-- a check alone
pub few : (kind : Kind) (until : Stage) (held : Option (List (List ℕ))) (old new : ℕ)
    → IfSome held (λ image. check.ReadsFew kind until image (old + 1) new) → IfSome held (λ image. ReadsFew kind image old new)
few kind until held old new reads = few_then kind until held old new new reads (omega arith) (IfSome_then held reads (λ image few some. omega arith))

-- no read
pub unread : (kind : Kind) (held : Option (List (List ℕ))) (old : ℕ) → IfSome held (λ image. ReadsFew kind image old old)
unread kind None old = tt
unread kind (Some image) old = record { pairs = omega arith; faulty = λ some. omega arith }

-- a check that clears the flag reads block 0 once more, where its report passes
pub few_clearing : (flagged : Flagged) (passing : Passing) (report : Reported) (held : Option (List (List ℕ))) (old read new : ℕ)
    → IfSome held (λ image. report ≡ report_of (faults (kind_of flagged) Counts image))
    → IfSome held (λ image. check.ReadsFew (kind_of flagged) Counts image (old + 1) read) → new ≤ read + 1 → (passes passing report ≡ false → new ≡ read)
    → IfSome held (λ image. ReadsFew (kind_of flagged) image old new)
few_clearing flagged passing report held old read new right few one same =
    few_then (kind_of flagged) Counts held old read new few one (IfSome_then held right (λ image is some.
    let again = same (false_from_ne_true (passes passing report) (λ passed. some (passing_super (kind_of flagged) passing image (rw is at passed)))) in omega arith))
