use Rattle.std.proofs.Common.{◌+◌, drop, refl}
use Rattle.pd_restore.specs.declared.saved_lines.RunSpan.{RunSpan}
use Rattle.pd_restore.specs.SavedLines.{behind_runs, in_runs}
use Rattle.pd_restore.proofs.SavedTextLemmas.{device_first, no_device, drop_there, drop_past}
use Rattle.pd_restore.proofs.ShapeLineLemmas.{begun_behind_runs, begun_in_runs, none_in_runs}
use Rattle.pd_restore.proofs.saved_lines.SavedLines.next_device.Goals as goal

pub returns-in-Some-clause-some : goal.returns-in-Some-clause-some
returns-in-Some-clause-some c =
    let made = c.args.self.now in
    let runs = made.saved.runs in
    let d = c.in-Some.next.now in
    let looked = rw c.devices.ensures at c.in-Some.ensures.lookup in
    let begun : RunSpan = record { at = made.runs.at; left = d.runs } in
    device_first (in_runs made.runs runs) (drop made.device made.saved.devices) (behind_runs made.runs runs) (none_in_runs made.runs runs c.requires)
    d (drop (made.device + 1) made.saved.devices) (in_runs begun runs) (behind_runs begun runs) (drop_there made.saved.devices made.device d looked.0 looked.1)
    (begun_in_runs made.runs begun runs c.requires refl) (begun_behind_runs made.runs begun runs c.requires refl)

pub returns-in-None-clause-none : goal.returns-in-None-clause-none
returns-in-None-clause-none c =
    let made = c.args.self.now in
    let runs = made.saved.runs in
    let looked = rw c.devices.ensures at c.in-None.ensures.lookup in
    no_device (in_runs made.runs runs) (drop made.device made.saved.devices) (behind_runs made.runs runs) (none_in_runs made.runs runs c.requires)
    (drop_past made.saved.devices made.device looked.0)
