use Rattle.std.proofs.Common.{◌≡◌, [], refl, ◌∙◌, arith, rules}
use Rattle.std.proofs.lemmas.Grind.{common_steps}
use Rattle.pd_kinds.proofs.ResultLemmas.{if_any, if_maps, if_then}
use Rattle.pd_meaning_era.specs.Notes.{AddsSet}
use Rattle.pd_meaning_era.specs.Notes.{Knows}
use Rattle.pd_meaning_era.proofs.SetLemmas.{WillHave, last_set, no_set}
use Rattle.pd_meaning_era.proofs.rows.add_from_last.Goals as goal

pub loop-key-init : goal.loop-key-init
loop-key-init g c = record {
  told = if_any (g.D.Device.state c.args.dev.now).held (λ image knows. (record { each = λ b x within. refl }, knows));
  kept = search rules;
  faults = search rules;
}

pub loop-key-preserved : goal.loop-key-preserved
loop-key-preserved g c =
    let so_far = c.loop-key.invariant in
    let sets = c.args.sets.now.items in
    let start = c.args.walk.now in
    let before = c.loop-key.walk in
    let after = c.add_rows.new.walk in
    let set = c.in-Some.set in
    record {
      told =
          if_then (g.D.Device.state c.args.dev.now).held (g.D.Device.state c.loop-key.dev).held
          (λ image. Knows image start → WillHave image c.args.blocks sets start.rows.items c.loop-key.sets.items before.rows.items × Knows image before)
          (λ image. Knows image before → AddsSet image c.args.blocks set c.era_of_key.result before after)
          _ so_far.kept.held
          (λ image will adds knows.
          let sofar = will knows in
          let added = adds sofar.1 in
          (last_set image c.args.blocks sets c.loop-key.sets.items c.pop.new.self.items start.rows.items c.in-Some.key set c.era_of_key.result before after c.in-Some.ensures.items c.era_of_key.ensures added sofar.0, added.knows))
          so_far.told c.in_ok-add_rows.ensures.adds;
      kept = search rules;
      faults = c.in_ok-add_rows.ensures.faults ∙ so_far.faults;
    }

pub returns-clause-sets : goal.returns-clause-sets
returns-clause-sets g c =
    let none : c.loop-key.sets.items ≡ [] = grind (arith, common_steps, c.in_default.ensures.cases, c.in_default.ensures.items) in
    if_maps (g.D.Device.state c.args.dev.now).held _ _
    (λ image will knows. no_set image c.args.blocks c.args.sets.now.items c.loop-key.sets.items c.args.walk.now.rows.items c.loop-key.walk.rows.items none (will knows).0) c.loop-key.invariant.told
