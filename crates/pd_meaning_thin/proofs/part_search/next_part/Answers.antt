use Rattle.std.proofs.Common.{refl}
use Rattle.std.proofs.lemmas.Option.{IfSome_then}
use Rattle.pd_meaning_thin.specs.Walk.{shared_blocks}
use Rattle.pd_meaning_thin.proofs.PieceLemmas.{parts_end}
use Rattle.pd_meaning_thin.proofs.part_search.next_part.Goals as goal

pub returns-clause-next : goal.returns-clause-next
returns-clause-next g c =
    IfSome_then (g.D.Device.state c.args.dev.now).held c.loop-stack.invariant.told (λ image told.
    parts_end (shared_blocks c.args.shared.now) image c.args.stack.now c.loop-stack.stack told.parts (c.loop-stack-test.ensures.0 refl))
