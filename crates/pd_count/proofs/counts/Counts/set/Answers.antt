use Rattle.std.proofs.Common.{◌∙◌, ap, ◌/◌, arith, slice_set, length-set}
use Rattle.pd_count.specs.Counted.{Counted, PutsNumber}
use Rattle.pd_count.specs.Counted.{chunks_in}
use Rattle.pd_count.proofs.CountLemmas.{none_past}
use Rattle.pd_count.proofs.GroupLemmas.{group_puts}
use Rattle.pd_count.proofs.counts.Counts.set.Goals as goal
use Rattle.pd_count.proofs.counts.Counts.set.Goals.{In_ok-set}

-- the number was put in the fields
puts : (c : In_ok-set) → PutsNumber c.args.b c.args.number (record { size = c.self.inside.size; chunks = chunks_in c.self.inside.groups.items })
    (record { size = c.self.inside.size; chunks = chunks_in (slice_set c.self.inside.groups.items (c.args.b / 16320 / 64) c.set.new.self) })
puts c = group_puts c.self.inside.size c.self.inside.groups.items c.args.b c.args.number c.index_mut.result.now c.set.new.self
    (omega (arith, ap (λ (t : Counted). t.size) c.self.view_is, c.self.invariant.0, c.requires.within)) c.index_mut.ensures.value c.in_ok-set.ensures.put

pub invariant_of-self-2 : goal.invariant_of-self-2
invariant_of-self-2 c = (
  length-set c.self.inside.groups.items (c.args.b / 16320 / 64) c.set.new.self ∙ c.self.invariant.0,
  none_past c.args.b c.self.inside.size _ _ (omega (arith, ap (λ (t : Counted). t.size) c.self.view_is, c.requires.within)) (puts c).others c.self.invariant.1,
)

pub returns-clause-put : goal.returns-clause-put
returns-clause-put c = rw (← c.self.view_is) (puts c)
