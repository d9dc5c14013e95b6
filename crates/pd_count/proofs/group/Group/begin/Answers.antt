use Rattle.std.proofs.Common.{◌∙◌, ap, arith}
use Rattle.std.specs.Int.{bit_at}
use Rattle.pd_count.specs.Counted.{Grouped}
use Rattle.pd_count.proofs.PlaceLemmas.{before_le, one_more_made, puts_in_new}
use Rattle.pd_count.proofs.group.Group.begin.Goals as goal

pub insert-requires : goal.insert-requires
insert-requires c = omega (arith, c.set_below.ensures, c.self.invariant, before_le c.self.inside.made c.args.i 64 (omega (arith, c.requires.chunk)))

pub invariant_of-self-2 : goal.invariant_of-self-2
invariant_of-self-2 c =
    one_more_made c.self.inside.made c.self.inside.chunks.items c.insert.new.self.items c.args.i c.args.at c.args.number c.set_below.result
    c.in_ok-chunk.chunk c.set.new.self (ap (λ (g : Grouped). bit_at g.made c.args.i) c.self.view_is ∙ c.requires.absent) c.requires.chunk c.self.invariant c.set_below.ensures (rw c.in_ok-reserve_exact.ensures.items at c.in_ok-insert.ensures.items)

pub returns-clause-put : goal.returns-clause-put
returns-clause-put c = rw (← c.self.view_is)
    (puts_in_new c.self.inside.made c.self.inside.chunks.items c.insert.new.self.items c.args.i c.args.at c.args.number c.set_below.result
    c.in_ok-chunk.chunk c.set.new.self (ap (λ (g : Grouped). bit_at g.made c.args.i) c.self.view_is ∙ c.requires.absent) c.requires.chunk c.self.invariant c.set_below.ensures (rw c.in_ok-reserve_exact.ensures.items at c.in_ok-insert.ensures.items)
    c.in_ok-chunk.ensures c.in_ok-set.ensures.put)
