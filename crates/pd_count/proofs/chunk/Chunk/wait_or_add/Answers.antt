use Rattle.std.proofs.Common.{◌∙◌, ◌+◌, sym, ap, ℕ}
use Rattle.pd_count.specs.Counted.{form_numbers, waiting_number}
use Rattle.pd_count.proofs.FormLemmas.{kept_on_err, noted_more, noted_others, puts_on_ok, shown_waiting, shows_by}
use Rattle.pd_count.proofs.chunk.Chunk.wait_or_add.Goals as goal
use Rattle.pd_count.proofs.chunk.Chunk.wait_or_add.Goals.{Then-not-is_full}

pub returns-then-not-is_full-clause-others : goal.returns-then-not-is_full-clause-others
returns-then-not-is_full-clause-others c =
    let read = c.deref_mut.result.now in
    let before = shown_waiting c.args.self.now c.in-Waiting.waiting.value read (sym c.self.view_is ∙ ap form_numbers c.in-Waiting.is) c.deref_mut.ensures.value in
    noted_others c.wait.result c.args.at (waiting_number read c.args.at + 1) c.args.self.now _
    (puts_on_ok c.wait.result c.args.at (waiting_number read c.args.at + 1) c.args.self.now _ (waiting_number read) (waiting_number c.wait.new.self) c.requires before
    (shows_by 16320 (waiting_number c.wait.new.self)) c.wait.ensures.put)

pub returns-then-not-is_full-clause-added : goal.returns-then-not-is_full-clause-added
returns-then-not-is_full-clause-added c =
    let read = c.deref_mut.result.now in
    let before = shown_waiting c.args.self.now c.in-Waiting.waiting.value read (sym c.self.view_is ∙ ap form_numbers c.in-Waiting.is) c.deref_mut.ensures.value in
    noted_more c.wait.result c.args.at (waiting_number read c.args.at + 1) c.args.self.now _
    (puts_on_ok c.wait.result c.args.at (waiting_number read c.args.at + 1) c.args.self.now _ (waiting_number read) (waiting_number c.wait.new.self) c.requires before
    (shows_by 16320 (waiting_number c.wait.new.self)) c.wait.ensures.put) (λ few. ap (λ (n : ℕ). n + 1) (sym (before.within c.args.at c.requires)))

pub returns-then-not-is_full-clause-err : goal.returns-then-not-is_full-clause-err
returns-then-not-is_full-clause-err c =
    kept_on_err c.wait.result c.args.self.now c.in-Waiting.waiting.value c.deref_mut.result.now c.wait.new.self (sym c.self.view_is ∙ ap form_numbers c.in-Waiting.is)
    c.deref_mut.ensures.value c.wait.ensures.err
