use Rattle.std.proofs.Common.{◌≡◌, ◌-◌, length, Some, ap, ◌∙◌, arith}
use Rattle.std.proofs.lemmas.List.{length-append}
use Rattle.pd_salvage.specs.declared.saving.Saving.{Saving}
use Rattle.pd_salvage.proofs.SavingLemmas.{saves_device}
use Rattle.pd_salvage.proofs.saving.Saving.save_device.Goals as goal

pub returns-clause-saves : goal.returns-clause-saves
returns-clause-saves g c =
    let now = c.gather_device.new.self in
    let same = c.gather_device.ensures.same in
    let gathered = rw c.in_ok-details.ensures.kept.held at c.in_ok-mapped.ensures.gathered in
    let count = ap length gathered.runs_are ∙ length-append c.args.self.now.runs gathered.given in
    let number : c.len.result - c.len-first.result ≡ length gathered.given =
    rw (c.len.ensures, c.len-first.ensures) (omega (arith, count)) in
    saves_device (g.D.Device.state c.args.dev.now).held c.args.id c.args.root c.in_ok-mapped.mapped (c.len.result - c.len-first.result) c.in_ok-details.details c.args.self.now
    (record {
      alloc = now.alloc;
      s = now.s;
      tops = now.tops;
      details = now.details;
      mappings = now.mappings;
      last = Some (record { root = c.args.root; place = c.end-place.result; mappings = c.in_ok-mapped.mapped });
      devices = c.add_device.new.devices;
      runs = now.runs;
    })
    c.lost_details-lost.ensures.fits (ap (λ (saving : Saving). saving.s) same)
    (rw (ap (λ (saving : Saving). saving.details) same) (rw c.lost_details-lost.ensures.lost at c.in_ok-details.ensures.found))
    gathered number (rw (ap (λ (saving : Saving). saving.devices) same) at c.in_ok-add_device.ensures.added) c.in_ok-add_device.ensures.fits
