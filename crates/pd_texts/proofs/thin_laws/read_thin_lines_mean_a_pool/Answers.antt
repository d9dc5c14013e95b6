use Rattle.pd_texts.proofs.ThinNextLemmas.{read_lines_mean}
use Rattle.pd_texts.proofs.thin_laws.read_thin_lines_mean_a_pool.Goals as goal

pub returns : goal.returns
returns c = read_lines_mean
