use Rattle.std.proofs.Common.{arith}
use Rattle.pd_graph.specs.Marks.{values_of}
use Rattle.pd_graph.proofs.BitLemmas.{all_read}
use Rattle.pd_graph.proofs.roles.any_unread.Goals as goal

pub returns-clause-none : goal.returns-clause-none
returns-clause-none c = all_read (values_of c.args.seen.now) (values_of c.args.read.now) (λ b role small within. c.loop-b.invariant b (omega (arith, c.places-b-end.ensures, c.loop-b-test.false)) role within)
