-- What the work of any request comes to, by how its objects stand at the end and by what was found.
use Rattle.std.proofs.Common.{◌≡◌, ◌≢◌, inl, inr, ℕ, ◌≤◌, Bool, true, false, IsTrue, if◌then◌else◌, List, [], sym, ap, subst, arith, lit≤}
use Rattle.pd_kinds.specs.declared.kind.Kind.{Kind}
use Rattle.pd_kinds.specs.declared.kind.Stage.{Stage}
use Rattle.pd_kinds.specs.Objects.{Appends, AppendsFront}
use Rattle.pd_kinds.specs.Stages.{CanWantMemory}
use Rattle.pd_kinds.proofs.ListLemmas.{appends_none, front_none}
use Rattle.pd_answers.specs.Terms.{Answer, Objects, IsOpen, Terms, AreKept, AreOpen, IsReadWhole, is_one_of, is_possible}
use Rattle.pd_answers.specs.Outputs.{IsWorkDone}
use Rattle.pd_tools.specs.declared.ending.Stop.{Stop}
use Rattle.pd_tools.specs.declared.ending.Stop.TheVariants.{Device, Stream, Memory}
use Rattle.pd_tools.specs.Query.{IsUnread}
use Rattle.pd_tools.specs.Stop.{stop_status}
use Rattle.pd_tools.specs.Task.{AreFollowed, AreInTurn, HasCause, IsFinished, IsStopped, IsWork}

-- one of two statuses
pub by_clean : (P : ℕ → Type 0) (clean : Bool) → P 0 → P 1 → P (if clean then 0 else 1)
by_clean P true zero one = zero
by_clean P false zero one = one

-- one of the statuses that say what failed
pub by_stop : (P : ℕ → Type 0) (stop : Stop) → P 5 → P 6 → P 7 → P (stop_status stop)
by_stop P Device device stream memory = device
by_stop P Stream device stream memory = stream
by_stop P Memory device stream memory = memory

-- while `out` is left alone, work isn't done but at status 0
pub not_done : (before after : Objects) (status : ℕ) → status ≢ 0 → after.out ≡ before.out → IsWorkDone before after status → ⊥
not_done before after status some unput (inl zero) = some zero
not_done before after status some unput (inr put) = put unput

-- work whose line is lost was done as before
pub still_done : (before after : Objects) (status : ℕ) → IsWorkDone before after 6 → IsWorkDone before after status
still_done before after status (inl zero) = absurd (omega arith)
still_done before after status (inr put) = inr put

-- how the objects stand, whatever was found
pub record Stands (terms : Terms) (before after : Objects) : Type 0 where
  pub followed : AreFollowed terms.uses after
  pub order : AreInTurn terms.uses after
  pub kept : AreKept terms.uses before after
  pub reads : terms.reads before after

module _ (terms : Terms) (before after : Objects) (stands : Stands terms before after) (finding : terms.Finding) (found : terms.finds before after finding) where
  work : (status : ℕ) → IsTrue (is_possible terms status) → (IsTrue (is_one_of terms.silent status) → after.out ≡ before.out)
      → (terms.spared finding → after.out ≡ before.out) → terms.leaves finding before after status → IsWork terms finding before after status
  work status possible silent spared left = record {
    found = found;
    possible = possible;
    followed = stands.followed;
    order = stands.order;
    kept = stands.kept;
    silent = silent;
    spared = spared;
    reads = stands.reads;
    leaves = left;
  }

  pub stopped_by : (stop : Stop) → IsTrue (is_possible terms (stop_status stop)) → (IsTrue (is_one_of terms.silent (stop_status stop)) → after.out ≡ before.out)
      → (terms.spared finding → after.out ≡ before.out) → HasCause terms before after stop
      → AppendsFront (terms.answer finding).out before.out.written after.out.written
      → terms.leaves finding before after (stop_status stop) → terms.leaves finding before after 6 → IsStopped terms before after stop
  stopped_by stop possible silent spared cause front left lost = record {
    finding = finding;
    work = work (stop_status stop) possible silent spared left;
    cause = cause;
    front = front;
    lost = lost;
  }

  pub finished_by : (status : ℕ) (bytes line : List ℕ) → status ≤ 4 → IsTrue (is_possible terms status)
      → (IsTrue (is_one_of terms.silent status) → after.out ≡ before.out) → (terms.spared finding → after.out ≡ before.out)
      → terms.answer finding ≡ record { status = status; out = bytes; notes = line } → Appends bytes before.out.written after.out.written
      → AreOpen terms.uses after → (status ≡ 0 → IsOpen terms.uses.out after.out.access)
      → (status ≡ 0 → IsReadWhole terms.uses.source before.source.left after.source.left)
      → terms.leaves finding before after status → IsFinished terms before after status line
  finished_by status bytes line low possible silent spared answer whole open_devices open_out read left = record {
    finding = finding;
    work = work status possible silent spared left;
    low = low;
    same_status = sym (ap (λ (a : Answer). a.status) answer);
    same_line = sym (ap (λ (a : Answer). a.notes) answer);
    out = subst (λ (a : Answer). Appends a.out before.out.written after.out.written) (sym answer) whole;
    open_devices = open_devices;
    open_out = open_out;
    read = read;
  }

  -- where `out` was left alone
  module _ (unput : after.out ≡ before.out) where
    pub stopped_early : (stop : Stop) → IsTrue (is_possible terms (stop_status stop)) → HasCause terms before after stop
        → terms.leaves finding before after (stop_status stop) → terms.leaves finding before after 6 → IsStopped terms before after stop
    stopped_early stop possible cause left lost =
        stopped_by stop possible (λ _. unput) (λ _. unput) cause (rw unput (front_none _ before.out.written)) left lost

    pub finished_early : (status : ℕ) (line : List ℕ) → status ≤ 4 → IsTrue (is_possible terms status)
        → terms.answer finding ≡ record { status = status; out = []; notes = line }
        → AreOpen terms.uses after → (status ≡ 0 → IsOpen terms.uses.out after.out.access)
        → (status ≡ 0 → IsReadWhole terms.uses.source before.source.left after.source.left)
        → terms.leaves finding before after status → IsFinished terms before after status line
    finished_early status line low possible answer open_devices open_out read left =
        finished_by status [] line low possible (λ _. unput) (λ _. unput) answer (rw unput (appends_none before.out.written)) open_devices open_out read left

    -- the image wasn't read to a report
    pub stopped_unread : (kind : Kind) (until : Stage) (stop : Stop) → IsUnread kind until before.input after.input stop → IsTrue (is_possible terms 5)
        → (CanWantMemory kind until before.input.held → IsTrue (is_possible terms 7) × terms.memory before)
        → ((status : ℕ) → 5 ≤ status → terms.leaves finding before after status) → IsStopped terms before after stop
    stopped_unread kind until Stream unread possible wanting left = absurd unread
    stopped_unread kind until Device unread possible wanting left = stopped_early Device possible (inl unread) (left 5 (lit≤ tt)) (left 6 (lit≤ tt))
    stopped_unread kind until Memory unread possible wanting left =
        let wants = wanting unread in stopped_early Memory wants.0 wants.1 (left 7 (lit≤ tt)) (left 6 (lit≤ tt))
