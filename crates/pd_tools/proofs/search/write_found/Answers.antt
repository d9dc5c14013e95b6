use Rattle.std.proofs.Common.{refl}
use Rattle.pd_scan.specs.Pairs.{roots_of}
use Rattle.pd_tools.specs.Opened.{devices}
use Rattle.pd_tools.proofs.Searches.{search_done, search_unmade}
use Rattle.pd_tools.proofs.search.write_found.Goals as goal

pub returns-in-Err-clause-works : goal.returns-in-Err-clause-works
returns-in-Err-clause-works g c from to others notes first third fresh was =
    rw c.ended_of.ensures
    (search_unmade c.args.shared c.args.given.now from to (record others { input = first.input; output = first.output; third = first.third })
    (record others { notes = notes; input = g.A.Device.state c.repair_lost.new.input; output = g.B.Device.state c.repair_lost.new.output; third = third })
    (devices (g.A.Device.state c.args.input.now) (g.B.Device.state c.args.output.now) third) fresh refl was (g.met.B.Device.measured c.args.output.now) c.repair_lost.ensures.place c.found_pools_are_saved_whole.ensures.saved
    (g.met.A.Device.bytes c.args.input.now) (g.met.A.Device.measured c.args.input.now) (roots_of c.args.roots.now) c.requires.best c.repair_lost.result
    (rw (c.lost_super-lost.ensures, c.usable_blocks-meta_blocks.ensures) at c.repair_lost.ensures.repaired)
    c.in-Err.fault c.in-Err.is c.in-Err.ensures.sound c.in-Err.ensures.causes)

pub returns-in-Ok-clause-works : goal.returns-in-Ok-clause-works
returns-in-Ok-clause-works g c from to others notes first third fresh was =
    rw c.roots_text.ensures
    (search_done c.args.shared c.args.given.now from to (record others { input = first.input; output = first.output; third = first.third })
    (record others { notes = notes; input = g.A.Device.state c.repair_lost.new.input; output = g.B.Device.state c.repair_lost.new.output; third = third })
    (devices (g.A.Device.state c.args.input.now) (g.B.Device.state c.args.output.now) third) fresh refl was (g.met.B.Device.measured c.args.output.now) c.repair_lost.ensures.place c.found_pools_are_saved_whole.ensures.saved
    (g.met.A.Device.bytes c.args.input.now) (g.met.A.Device.measured c.args.input.now) (roots_of c.args.roots.now) c.requires.best c.repair_lost.result
    (rw (c.lost_super-lost.ensures, c.usable_blocks-meta_blocks.ensures) at c.repair_lost.ensures.repaired)
    c.in-Ok.is)
