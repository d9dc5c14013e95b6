use Rattle.std.proofs.Common.{◌∙◌, sym, ap}
use Rattle.pd_count.specs.Counted.{form_numbers}
use Rattle.pd_count.specs.contracts.chunk.Chunk.{the_view}
use Rattle.pd_count.proofs.FormLemmas.{waiting_kept}
use Rattle.pd_count.proofs.chunk.Chunk.make_room.Goals as goal
use Rattle.pd_count.proofs.chunk.Chunk.make_room.Goals.{then-is_full, else-is_full}

pub returns-in-Waiting : goal.returns-in-Waiting
returns-in-Waiting c = elim c.if-is_full.branch [
  | then-is_full w ↦
      ap the_view w.self-inside-is
      ∙ waiting_kept c.args.self.now c.in-Waiting.waiting.value w.deref_mut.result.now w.count_where_room.new.self (sym c.self.view_is ∙ ap form_numbers c.in-Waiting.is)
      w.deref_mut.ensures.value w.count_where_room.ensures.same
  | else-is_full w ↦ ap the_view w.self-inside-is ∙ sym (sym c.self.view_is ∙ ap form_numbers c.in-Waiting.is)
]
