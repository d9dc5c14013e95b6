use Rattle.pd_texts_kinds.proofs.EraLemmas.{era_read, run_read, end_read}
use Rattle.pd_texts_kinds.proofs.era_lines.read_era_lines_are_in_range.Goals as goal

pub returns : goal.returns
returns c = record { era = era_read; run = run_read; end = end_read }
