use Rattle.std.proofs.Common.{◌≤◌, ◌∙◌, length, ap, arith}
use Rattle.pd_kinds.specs.declared.superblocks.ThinSuper.{ThinSuper}
use Rattle.pd_pool_dumps.specs.ThinText.{dump_text}
use Rattle.pd_query.proofs.QueryLemmas.{one_told}
use Rattle.pd_pool_dumps.proofs.thin_dump.ThinDump.start.Goals as goal

pub returns-clause-means : goal.returns-clause-means
returns-clause-means g c =
    one_told (g.D.Device.state c.args.dev.now).held
    (λ image read none.
    let root = (c.rows_are_the_devices.ensures image none).mapping_root in
    let some : 1 ≤ length image = omega arith in
    c.in_ok-dump.ensures.text image ∙ (ap (λ (s : ThinSuper). dump_text image s) (read some) ∙ c.given_lines_are_the_text.ensures image none))
    c.in-Ok.ensures.fields
