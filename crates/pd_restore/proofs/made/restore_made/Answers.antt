use Rattle.std.proofs.Common.{◌≤◌, arith, sym, ◌∙◌}
use Rattle.pd_laid.specs.PoolText.{shape_need}
use Rattle.pd_laid.specs.Shape.{shape_of}
use Rattle.pd_salvage.specs.Saved.{pool_of}
use Rattle.pd_restoring.specs.Made.{ending_of, lacking}
use Rattle.pd_restoring.proofs.EndingLemmas.{resting}
use Rattle.pd_restore.specs.Pools.{pool_content}
use Rattle.pd_restore.proofs.BeginLemmas.{pool_made}
use Rattle.pd_restore.proofs.made.restore_made.Goals as goal

pub restore_fitting-requires-clause-some : goal.restore_fitting-requires-clause-some
restore_fitting-requires-clause-some g c =
    let begun = c.begun_of.ensures in
    let fits = c.surely_fits_saved.ensures c.if-surely_fits_saved.true in
    record { shape = shape_of (pool_of c.args.saved); gives = begun.gives; fits = omega (arith, begun.need c.min-room.result, fits) }

pub returns-then-surely_fits_saved-clause-made : goal.returns-then-surely_fits_saved-clause-made
returns-then-surely_fits_saved-clause-made g c =
    let begun = c.begun_of.ensures in
    let pool = pool_of c.args.saved in
    let known = c.surely_fits_saved.ensures c.if-surely_fits_saved.true in
    let fits : shape_need (shape_of pool) c.min-room.result ≤ c.min-room.result = omega (arith, begun.need c.min-room.result, known) in
    pool_made pool (ending_of c.restore_fitting.result) (g.D.Device.state c.args.dev.now) (g.D.Device.state c.restore_fitting.new.dev) begun.lawful begun.need
    (c.restore_fitting.ensures.made (shape_of pool) begun.gives fits)

pub returns-in_default-clause-made : goal.returns-in_default-clause-made
returns-in_default-clause-made g c = resting (pool_content (pool_of c.args.saved)) lacking (g.D.Device.state c.args.dev.now) (λ none. none) tt

pub restore_known-requires-clause-some : goal.restore_known-requires-clause-some
restore_known-requires-clause-some g c =
    let begun = c.begun_of-2.ensures in
    record { shape = shape_of (pool_of c.args.saved); gives = begun.gives; needs = c.in-Some.ensures ∙ sym (begun.need c.min-room.result) }

pub returns-clause-made : goal.returns-clause-made
returns-clause-made g c =
    let begun = c.begun_of-2.ensures in
    let pool = pool_of c.args.saved in
    pool_made pool (ending_of c.restore_known.result) (g.D.Device.state c.args.dev.now) (g.D.Device.state c.restore_known.new.dev) begun.lawful begun.need
    (c.restore_known.ensures.made (shape_of pool) begun.gives (c.in-Some.ensures ∙ sym (begun.need c.min-room.result)))
