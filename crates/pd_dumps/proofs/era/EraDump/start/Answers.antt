use Rattle.std.proofs.Common.{◌≡◌, IfSome, subst}
use Rattle.pd_meaning_era.specs.Eras.{eras_below}
use Rattle.pd_meaning_era.specs.Parts.{eras_left}
use Rattle.pd_dumps.specs.EraLines.{era_dump_text}
use Rattle.pd_dumps.proofs.EraLemmas.{text_given, text_means}
use Rattle.pd_dumps.proofs.era.EraDump.start.Goals as goal

pub returns-clause-text : goal.returns-clause-text
returns-clause-text g c =
    text_given (g.D.Device.state c.args.dev.now).held c.in-Ok.s (λ image. eras_left image c.in_ok-eras.eras) c.in-Ok.ensures.fields
    (subst (λ o. IfSome o (λ image. eras_left image c.in_ok-eras.eras ≡ eras_below image c.in-Ok.s)) c.in-Ok.ensures.kept.held c.in_ok-eras.ensures.eras)

pub returns-clause-means : goal.returns-clause-means
returns-clause-means g c =
    text_means (g.D.Device.state c.args.dev.now).held (λ image. era_dump_text c.in-Ok.s (eras_left image c.in_ok-eras.eras))
    (text_given (g.D.Device.state c.args.dev.now).held c.in-Ok.s (λ image. eras_left image c.in_ok-eras.eras) c.in-Ok.ensures.fields
    (subst (λ o. IfSome o (λ image. eras_left image c.in_ok-eras.eras ≡ eras_below image c.in-Ok.s)) c.in-Ok.ensures.kept.held c.in_ok-eras.ensures.eras))
    c.given_era_lines_are_the_text.ensures
