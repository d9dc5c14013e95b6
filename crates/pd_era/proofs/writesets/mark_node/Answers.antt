use Rattle.std.proofs.Common.{◌≡◌, ℕ, ◌<◌, ◌+◌, List, [], Option, cond, ap, sym, ◌∙◌, arith}
use Rattle.std.specs.Option.{unwrap_or}
use Rattle.pd_kinds.specs.Graph.{block_at}
use Rattle.pd_kinds.specs.Stages.{IsReached}
use Rattle.pd_kinds.proofs.ResultLemmas.{if_all, if_maps}
use Rattle.pd_graph.specs.Marks.{has_bit}
use Rattle.pd_check.specs.Refs.{number_in}
use Rattle.pd_check.proofs.RefsLemmas.{number_more}
use Rattle.pd_era.proofs.SetLemmas.{sets_lead, sets_none}
use Rattle.pd_era.proofs.writesets.mark_node.Goals as goal

pub returns-in_err-read-clause-reads : goal.returns-in_err-read-clause-reads
returns-in_err-read-clause-reads g c =
    let met = ap (λ n. has_bit n 2) (sym c.roles.ensures) ∙ sym c.has_role.ensures ∙ c.if-has_role.true in
    omega (arith, c.in_err-read.ensures.reads, number_more c.args.audit.now 2 c.args.b ∙ ap (λ t. number_in c.args.audit.now 2 c.args.b + cond t 1 0) met)

pub returns-in_ok-read-clause-reads : goal.returns-in_ok-read-clause-reads
returns-in_ok-read-clause-reads g c =
    let met = ap (λ n. has_bit n 2) (sym c.roles.ensures) ∙ sym c.has_role.ensures ∙ c.if-has_role.true in
    omega (arith, c.in_ok-read.ensures.reads, number_more c.args.audit.now 2 c.args.b ∙ ap (λ t. number_in c.args.audit.now 2 c.args.b + cond t 1 0) met)

pub returns-else-has_role-clause-reads : goal.returns-else-has_role-clause-reads
returns-else-has_role-clause-reads g c = omega (arith, number_more c.args.audit.now 2 c.args.b)

pub returns-in_ok-read-clause-charges : goal.returns-in_ok-read-clause-charges
returns-in_ok-read-clause-charges g c =
    let b = c.args.b in
    let met = ap (λ n. has_bit n 2) (sym c.roles.ensures) ∙ sym c.has_role.ensures ∙ c.if-has_role.true in
    if_maps (g.D.Device.state c.args.dev.now).held _ _ (λ image told graph has trees marked.
    let within : b < graph.nr = omega (arith, c.requires.block, has.known.number) in
    let found = sym (has.known.roles b 2 within (omega arith)) ∙ met in
    let reached : IsReached graph image b 2 = record { block = within; within = omega arith; found = found } in
    let here : block_at image b ≡ c.read.new.into.0 = ap (λ (o : Option (List ℕ)). unwrap_or o []) told in
    let leads = sets_lead graph image b trees has.ordered reached (c.edges_lead_to_reached_pairs.ensures.edges graph image b 2 has.known.lawful reached) in
    rw (found, here) (c.check_leaf.ensures.charges graph image has marked (rw here at leads))) c.in_ok-read.ensures.content

pub returns-else-has_role-clause-charges : goal.returns-else-has_role-clause-charges
returns-else-has_role-clause-charges g c =
    let b = c.args.b in
    let unmet = ap (λ n. has_bit n 2) (sym c.roles.ensures) ∙ sym c.has_role.ensures ∙ c.if-has_role.false in
    if_all (g.D.Device.state c.args.dev.now).held _ (λ image graph has trees marked.
    let within : b < graph.nr = omega (arith, c.requires.block, has.known.number) in
    rw (sym (has.known.roles b 2 within (omega arith)) ∙ unmet) (sets_none graph image c.args.audit.now))
