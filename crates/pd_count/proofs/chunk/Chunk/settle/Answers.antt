use Rattle.std.proofs.Common.{◌≡◌, ◌∙◌, sym, ap}
use Rattle.pd_count.specs.declared.waiting.WaitingPlaces.{WaitingPlaces}
use Rattle.pd_count.specs.Counted.{digits_number, form_numbers, numbers_by, waiting_number}
use Rattle.pd_count.proofs.FormLemmas.{numbers_same, waiting_kept}
use Rattle.pd_count.proofs.chunk.Chunk.settle.Goals as goal
use Rattle.pd_count.proofs.chunk.Chunk.settle.Goals.{in-Few-1, in-Dense-1, in-Waiting-1}

pub returns-in-Ok : goal.returns-in-Ok
returns-in-Ok c =
    let all : numbers_by 16320 (digits_number c.in-Ok.digits.items) ≡ c.args.self.now =
    numbers_same 16320 (waiting_number c.deref.result.now) (digits_number c.in-Ok.digits.items) c.in-Ok.ensures.numbers
    ∙ (ap (λ (w : WaitingPlaces). numbers_by 16320 (waiting_number w)) c.deref.ensures
    ∙ waiting_kept c.args.self.now c.in-Waiting.waiting.value c.deref_mut.result.now c.count_where_room.new.self (sym c.self.view_is ∙ ap form_numbers c.in-Waiting.is)
    c.deref_mut.ensures.value c.count_where_room.ensures.same) in
    elim c.match-self-2.branch [ in-Few-1 w ↦ w.self-is ∙ all | in-Dense-1 w ↦ w.self-is ∙ all | in-Waiting-1 w ↦ w.self-is ∙ all ]

pub returns-in-Err : goal.returns-in-Err
returns-in-Err c =
    waiting_kept c.args.self.now c.in-Waiting.waiting.value c.deref_mut.result.now c.count_where_room.new.self (sym c.self.view_is ∙ ap form_numbers c.in-Waiting.is)
    c.deref_mut.ensures.value c.count_where_room.ensures.same
