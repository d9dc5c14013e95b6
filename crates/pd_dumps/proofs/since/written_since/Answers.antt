use Rattle.std.proofs.Common.{List, ℕ, refl, ◌∙◌, subst, sym}
use Rattle.std.proofs.lemmas.Result.{err_from_is_err_and}
use Rattle.pd_kinds.specs.Meaning.{era_meaning}
use Rattle.pd_answers.specs.QueryLines.{since_lines}
use Rattle.pd_query.proofs.QueryLemmas.{one_told}
use Rattle.pd_query.proofs.QueryLemmas.{puts_as, puts_none}
use Rattle.pd_query.specs.Query.{PutsText}
use Rattle.pd_meaning_era.specs.Eras.{eras_below}
use Rattle.pd_meaning_era.specs.Parts.{eras_left}
use Rattle.pd_dumps.specs.SinceLines.{since_text}
use Rattle.pd_dumps.proofs.SinceLemmas.{lines_are}
use Rattle.pd_dumps.proofs.since.written_since.Goals as goal

pub returns-in_err-eras-clause-text : goal.returns-in_err-eras-clause-text
returns-in_err-eras-clause-text g c =
    let p = err_from_is_err_and c.from_residual.result c.from_residual.ensures.1 in
    rw (p.1, p.2) (puts_none (g.D.Device.state c.args.dev.now).held (λ image. since_text c.args.era (eras_below image c.args.s.now)) c.in_err-eras.field-0.0 refl (λ image. refl))

pub returns-in_err-eras-clause-lines : goal.returns-in_err-eras-clause-lines
returns-in_err-eras-clause-lines g c =
    let p = err_from_is_err_and c.from_residual.result c.from_residual.ensures.1 in
    rw (p.1, p.2) (puts_none (g.D.Device.state c.args.dev.now).held (λ image. since_lines c.args.era (era_meaning image)) c.in_err-eras.field-0.0 refl (λ image own none. refl))

pub returns-clause-text : goal.returns-clause-text
returns-clause-text g c =
    let state = g.K.Sink.state in
    let text_of = λ (image : List (List ℕ)). since_text c.args.era (eras_left image c.in_ok-eras.eras) in
    puts_as (one_told (g.D.Device.state c.args.dev.now).held (λ image is text told. told ∙ is) c.in_ok-eras.ensures.text)
    (subst (λ held. PutsText held text_of c.put_since.result (state c.args.out.now).written (state c.put_since.new.out).written) c.in_ok-eras.ensures.kept.held c.put_since.ensures.text)

pub returns-clause-lines : goal.returns-clause-lines
returns-clause-lines g c =
    let state = g.K.Sink.state in
    let text_of = λ (image : List (List ℕ)). since_text c.args.era (eras_left image c.in_ok-eras.eras) in
    puts_as
    (one_told (g.D.Device.state c.args.dev.now).held
    (λ image is text told own none. told ∙ (is ∙ lines_are c.args.era c.args.s.now image own (sym (c.lists_are_the_eras.ensures image none).eras))) c.in_ok-eras.ensures.text)
    (subst (λ held. PutsText held text_of c.put_since.result (state c.args.out.now).written (state c.put_since.new.out).written) c.in_ok-eras.ensures.kept.held c.put_since.ensures.text)
