use Rattle.std.proofs.Common.{◌∙◌, sym, ap, ◌+◌, ◌/◌, ◌<◌, min, arith, length, slice_set, length-set}
use Rattle.pd_count.specs.Counted.{Counted, PutsNumber, count_of}
use Rattle.pd_count.specs.Counted.{chunks_in}
use Rattle.pd_count.proofs.CountLemmas.{counts_listed, counts_one_more, none_past}
use Rattle.pd_count.proofs.GroupLemmas.{count_in_group, group_puts}
use Rattle.pd_count.proofs.counts.Counts.saturating_add.Goals as goal
use Rattle.pd_count.proofs.counts.Counts.saturating_add.Goals.{In_ok-before}

-- one more in the fields
puts : (c : In_ok-before) → (let old : Counted = record { size = c.self.inside.size; chunks = chunks_in c.self.inside.groups.items } in
    PutsNumber c.args.b (min (count_of old c.args.b + 1) 4294967295) old
    (record { size = c.self.inside.size; chunks = chunks_in (slice_set c.self.inside.groups.items (c.args.b / 16320 / 64) c.saturating_add.new.self) }))
puts c =
    let within : c.args.b / 16320 / 64 < length c.self.inside.groups.items = omega (arith, ap (λ (t : Counted). t.size) c.self.view_is, c.self.invariant.0, c.requires) in
    rw (count_in_group c.self.inside.size c.self.inside.groups.items c.args.b c.index_mut.result.now within c.index_mut.ensures.value)
    (group_puts c.self.inside.size c.self.inside.groups.items c.args.b _ c.index_mut.result.now c.saturating_add.new.self within c.index_mut.ensures.value
    c.in_ok-before.ensures.added)

pub invariant_of-self-2 : goal.invariant_of-self-2
invariant_of-self-2 c = (
  length-set c.self.inside.groups.items (c.args.b / 16320 / 64) c.saturating_add.new.self ∙ c.self.invariant.0,
  none_past c.args.b c.self.inside.size _ _ (omega (arith, ap (λ (t : Counted). t.size) c.self.view_is, c.requires)) (puts c).others c.self.invariant.1,
)

pub returns-clause-before : goal.returns-clause-before
returns-clause-before c =
    let within : c.args.b / 16320 / 64 < length c.self.inside.groups.items = omega (arith, ap (λ (t : Counted). t.size) c.self.view_is, c.self.invariant.0, c.requires) in
    c.in_ok-before.ensures.before ∙ sym (count_in_group c.self.inside.size c.self.inside.groups.items c.args.b c.index_mut.result.now within c.index_mut.ensures.value)
    ∙ ap (λ t. count_of t c.args.b) c.self.view_is

pub returns-clause-put : goal.returns-clause-put
returns-clause-put c = rw (← c.self.view_is) (puts c)

pub returns-clause-added : goal.returns-clause-added
returns-clause-added c = rw (← c.self.view_is) (λ few. counts_one_more c.args.b _ _ few (puts c))

pub returns-clause-listed : goal.returns-clause-listed
returns-clause-listed c = rw (← c.self.view_is) (λ few. counts_listed c.args.b _ _ (counts_one_more c.args.b _ _ few (puts c)))
