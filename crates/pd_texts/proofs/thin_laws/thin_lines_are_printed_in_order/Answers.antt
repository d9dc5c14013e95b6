use Rattle.std.proofs.Common.{refl}
use Rattle.pd_grammar.specs.ThinText.{thin}
use Rattle.pd_texts.proofs.LawLemmas.{printed_more}
use Rattle.pd_texts.proofs.thin_laws.thin_lines_are_printed_in_order.Goals as goal

pub returns : goal.returns
returns c = record { more = printed_more thin; first = refl; shared = refl; last = refl }
