use Rattle.std.proofs.Common.{◌∙◌}
use Rattle.pd_salvage_shapes.proofs.TreeLemmas.{seen_tree}
use Rattle.pd_salvage_shapes.proofs.visiting.Visiting.see.Goals as goal

pub returns-clause-sees : goal.returns-clause-sees
returns-clause-sees g c =
    seen_tree (g.D.Device.state c.args.dev.now).held c.args.root _ c.args.self.now c.meet_tree.new.self c.in_ok-meet_tree.ensures.met (c.in_ok-met.ensures ∙ c.as_slice.ensures.value) c.mapped_now-mapped.ensures.is c.mapped_now-mapped.ensures.fits
