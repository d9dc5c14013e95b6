use Rattle.pd_salvage.specs.SavedShape.{held_shape}
use Rattle.pd_restoring.proofs.EndingLemmas.{resting}
use Rattle.pd_restore.specs.Pools.{lacking, shape_content}
use Rattle.pd_restore.proofs.shape_made.restore_shape.Goals as goal

pub restore_fitting-requires-clause-some : goal.restore_fitting-requires-clause-some
restore_fitting-requires-clause-some g c = record {
  shape = held_shape c.args.saved;
  gives = c.begun_of_shape.ensures.gives;
  fits = c.surely_fits.ensures c.if-surely_fits.true;
}

pub returns-then-surely_fits-clause-made : goal.returns-then-surely_fits-clause-made
returns-then-surely_fits-clause-made g c =
    c.restore_fitting.ensures.made (held_shape c.args.saved) c.begun_of_shape.ensures.gives (c.surely_fits.ensures c.if-surely_fits.true)

pub returns-in_default-clause-made : goal.returns-in_default-clause-made
returns-in_default-clause-made g c = resting (shape_content (held_shape c.args.saved)) lacking (g.D.Device.state c.args.dev.now) (λ none. none) tt

pub restore_known-requires-clause-some : goal.restore_known-requires-clause-some
restore_known-requires-clause-some g c = record { shape = held_shape c.args.saved; gives = c.begun_of_shape-2.ensures.gives; needs = c.in-Some.ensures }

pub returns-clause-made : goal.returns-clause-made
returns-clause-made g c = c.restore_known.ensures.made (held_shape c.args.saved) c.begun_of_shape-2.ensures.gives c.in-Some.ensures
