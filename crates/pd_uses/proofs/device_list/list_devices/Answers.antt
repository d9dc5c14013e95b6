use Rattle.std.proofs.Common.{refl, ◌∙◌}
use Rattle.std.proofs.lemmas.Result.{err_from_is_err_and}
use Rattle.pd_kinds.specs.Meaning.{thin_meaning}
use Rattle.pd_answers.specs.QueryLines.{device_list_lines}
use Rattle.pd_query.proofs.QueryLemmas.{one_told}
use Rattle.pd_query.proofs.QueryLemmas.{puts_as, puts_none}
use Rattle.pd_uses.proofs.LineLemmas.{list_is}
use Rattle.pd_uses.proofs.device_list.list_devices.Goals as goal

pub returns-in_err-exclusive-clause-lines : goal.returns-in_err-exclusive-clause-lines
returns-in_err-exclusive-clause-lines g c =
    let p = err_from_is_err_and c.from_residual.result c.from_residual.ensures.1 in
    rw (p.1, p.2) (puts_none (g.D.Device.state c.args.dev.now).held (λ image. device_list_lines (thin_meaning image)) c.in_err-exclusive.field-0.0 refl (λ image own none. refl))

pub returns-clause-lines : goal.returns-clause-lines
returns-clause-lines g c =
    puts_as
    (one_told (g.D.Device.state c.args.dev.now).held
    (λ image right text is own none. is ∙ list_is image c.args.s.now c.in_ok-exclusive.exclusive.items own (right none own) (c.rows_are_the_devices.ensures image none)) c.in_ok-exclusive.ensures.exclusive)
    (rw (c.in_ok-exclusive.ensures.kept.held, c.deref.ensures.value) at c.put_devices.ensures.text)
