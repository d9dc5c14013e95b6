use Rattle.std.proofs.Common.{sym}
use Rattle.std.proofs.lemmas.List.{append-nil}
use Rattle.pd_kinds.specs.Node.{key_at, value_at}
use Rattle.pd_salvage_shapes.proofs.NoteLemmas.{saved_none, saved_one}
use Rattle.pd_salvage_shapes.proofs.note.LeafGathering.take_entry.Goals as goal

pub returns-then-not-is_saved-clause-takes : goal.returns-then-not-is_saved-clause-takes
returns-then-not-is_saved-clause-takes c = λ ms is.
    rw (
      saved_none c.args.blocks c.args.range.now (key_at c.args.block.now.0 c.args.i) (value_at 8 c.args.block.now.0 c.args.i) c.value-mapping.result c.value-mapping.ensures.value
          (rw c.key-virt.ensures at (sym c.if-not-is_saved.ensures)),
      append-nil ms,
    ) is

pub returns-clause-takes : goal.returns-clause-takes
returns-clause-takes c = λ ms is.
    rw (
      saved_one c.args.blocks c.args.range.now (key_at c.args.block.now.0 c.args.i) (value_at 8 c.args.block.now.0 c.args.i) c.value-mapping.result c.value-mapping.ensures.value
          (rw c.key-virt.ensures at (sym c.if-not-is_saved.ensures)),
      ← c.key-virt.ensures,
    ) (c.in_ok-take.ensures ms is)
