use Rattle.std.proofs.Common.{◌∷◌, []}
use Rattle.pd_grammar.specs.ThinText.{first_line}
use Rattle.pd_grammar.proofs.ThinRead.{thin_grammar}
use Rattle.pd_texts.proofs.ThinNextLemmas.{pool_read, device_read, map_read, end_read}
use Rattle.pd_texts.proofs.thin_laws.read_thin_lines_are_in_range.Goals as goal

pub returns : goal.returns
returns c =
    let firsts = first_line ∷ [] in
    record { pool = pool_read firsts thin_grammar; device = device_read firsts thin_grammar; map = map_read; end = end_read firsts thin_grammar }
