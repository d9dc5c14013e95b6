use Rattle.std.proofs.Common.{[], ◌∷◌, ◌++◌, ◌+◌, map, drop, ap, ◌∙◌}
use Rattle.pd_kept.specs.declared.kept.KeptDevice.{KeptDevice}
use Rattle.pd_kept.specs.Kept.{saved_pair}
use Rattle.pd_kept.specs.Kept.{pair_of}
use Rattle.pd_kept.proofs.TellingLemmas.{from_here, tells_both, tells_saved}
use Rattle.pd_kept.proofs.merging.add_device.Goals as goal

pub returns-in_ok-push-in-Some : goal.returns-in_ok-push-in-Some
returns-in_ok-push-in-Some c = λ all saved tells.
    let d = c.args.device.now in
    let stored = c.args.stored.now in
    let old = c.args.merged.now.items in
    let at = c.in_ok-at.at in
    let told = c.add_lost.new.merged.items in
    let after = c.in_ok-at.ensures all (saved_pair d ∷ saved) tells (from_here all old d.id d.details.mapped saved (map pair_of (drop c.args.from stored)) tells) in
    tells_both all told c.push.new.self.items d.id d.details.mapped c.in-Some.mapped saved (map pair_of (drop at stored)) (map pair_of (drop (at + 1) stored)) after.tells c.in-Some.ensures.stored
    (c.in_ok-push-in-Some.ensures.items ∙ ap (λ (k : KeptDevice). told ++ k ∷ []) c.kept_device.ensures)

pub returns-in_ok-push-in-None : goal.returns-in_ok-push-in-None
returns-in_ok-push-in-None c = λ all saved tells.
    let d = c.args.device.now in
    let stored = c.args.stored.now in
    let old = c.args.merged.now.items in
    let at = c.in_ok-at.at in
    let told = c.add_lost.new.merged.items in
    let after = c.in_ok-at.ensures all (saved_pair d ∷ saved) tells (from_here all old d.id d.details.mapped saved (map pair_of (drop c.args.from stored)) tells) in
    tells_saved all told c.push-in-None.new.self.items d.id d.details.mapped saved (map pair_of (drop at stored)) after.tells (c.in-None.ensures.stored after.behind)
    (c.in_ok-push-in-None.ensures.items ∙ ap (λ (k : KeptDevice). told ++ k ∷ []) c.kept_device-in-None.ensures)
