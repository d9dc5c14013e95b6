use Rattle.pd_scan.proofs.LostLemmas.{leads_nowhere}
use Rattle.pd_scan.proofs.laws.lost_leaves_lead_nowhere.Goals as goal

pub returns : goal.returns
returns c image data_blocks role b which = leads_nowhere image data_blocks role b which
