use Rattle.pd_uses.proofs.RunLemmas.{one_run}
use Rattle.pd_uses.proofs.hit_runs.run_of.Goals as goal

pub returns : goal.returns
returns c = one_run c.args.hit c.fits.ensures.block c.fits.ensures.virt
