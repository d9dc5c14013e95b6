use Rattle.std.proofs.Common.{List, max, ap, ◌∙◌}
use Rattle.std.specs.List.{flat_map}
use Rattle.std.specs.Prelude.{fold}
use Rattle.pd_meaning_thin.specs.declared.joined.Run.{Run}
use Rattle.pd_salvage.specs.declared.saved_shape.ShapedDevice.{ShapedDevice}
use Rattle.pd_kept.specs.Kept.{own_times, times_of_runs}
use Rattle.pd_kept.proofs.LatestLemmas.{latest_is}
use Rattle.pd_kept.proofs.latest.latest_time.Goals as goal

pub returns : goal.returns
returns c =
    c.max-2.ensures
    ∙ (ap (λ most. max most c.latest_of_runs-own.result) c.max.ensures
    ∙ latest_is c.args.saved.now c.head.ensures.sound c.latest_of_devices-devices.result c.latest_of_runs-leaves.result c.latest_of_runs-own.result
    (c.latest_of_devices-devices.ensures ∙ ap (λ (ds : List ShapedDevice). fold max 0 (flat_map own_times ds)) c.devices.ensures)
    (c.latest_of_runs-leaves.ensures ∙ ap (λ (runs : List Run). fold max 0 (times_of_runs runs)) c.leaf_runs.ensures)
    (c.latest_of_runs-own.ensures ∙ ap (λ (runs : List Run). fold max 0 (times_of_runs runs)) c.runs.ensures))
