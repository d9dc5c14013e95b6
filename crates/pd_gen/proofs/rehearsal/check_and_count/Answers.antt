use Rattle.std.proofs.Common.{◌∙◌}
use Rattle.pd_kinds.specs.declared.kind.Kind.TheVariants.{Thin}
use Rattle.pd_gen.proofs.GeneratedShape.{counted_pool, none_whole}
use Rattle.pd_gen.proofs.rehearsal.check_and_count.Goals as goal

pub returns-clause-counted : goal.returns-clause-counted
returns-clause-counted g c m image held clean =
    let none = (c.faults_are_none_where_clean.ensures Thin image).1 clean.clean in
    counted_pool c.count_dump.result (g.D.Device.state c.check_thin.new.dev).held image m (c.in-Ok.ensures.kept.held ∙ held)
    (c.rows_are_the_devices.ensures image (none_whole image none)) clean.means c.count_dump.ensures.counted c.count_dump.ensures.found
