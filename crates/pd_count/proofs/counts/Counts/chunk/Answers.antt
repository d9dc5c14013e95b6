use Rattle.std.proofs.Common.{[], refl, sym}
use Rattle.pd_count.specs.Counted.{no_group}
use Rattle.pd_count.proofs.CountLemmas.{chunk_made, chunk_absent}
use Rattle.pd_count.proofs.GroupLemmas.{group_counts}
use Rattle.pd_count.proofs.counts.Counts.chunk.Goals as goal

pub returns-in_err-chunk : goal.returns-in_err-chunk
returns-in_err-chunk c =
    let counted = group_counts c.args.self.now c.self.inside.size c.self.inside.groups.items c.deref.result.now c.args.i c.in_ok-group.group.now []
    c.self.view_is c.deref.ensures.value (c.in_ok-group.ensures.lookup.3.1 no_group) (sym c.in_err-chunk.ensures) in
    rw c.from_residual-in_err-chunk.ensures (chunk_absent c.args.self.now c.args.i [] counted refl)

pub returns-then-is_made : goal.returns-then-is_made
returns-then-is_made c =
    let counted = group_counts c.args.self.now c.self.inside.size c.self.inside.groups.items c.deref.result.now c.args.i c.in_ok-group.group.now c.in_ok-chunk.chunk.now
    c.self.view_is c.deref.ensures.value (c.in_ok-group.ensures.lookup.3.1 no_group) c.in_ok-chunk.ensures in
    chunk_made c.args.self.now c.args.i c.in_ok-chunk.chunk.now counted (c.is_made.ensures.made c.if-is_made.true)

pub returns-else-is_made : goal.returns-else-is_made
returns-else-is_made c =
    let counted = group_counts c.args.self.now c.self.inside.size c.self.inside.groups.items c.deref.result.now c.args.i c.in_ok-group.group.now c.in_ok-chunk.chunk.now
    c.self.view_is c.deref.ensures.value (c.in_ok-group.ensures.lookup.3.1 no_group) c.in_ok-chunk.ensures in
    chunk_absent c.args.self.now c.args.i c.in_ok-chunk.chunk.now counted (c.is_made.ensures.absent c.if-is_made.false)
