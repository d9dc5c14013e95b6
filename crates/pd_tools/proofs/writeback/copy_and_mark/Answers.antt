use Rattle.std.proofs.Common.{◌≡◌, inl, inr, refl}
use Rattle.pd_kinds.proofs.CrashLemmas.{stays, still_tells}
use Rattle.pd_answers.specs.Writebacks.{settled}
use Rattle.pd_tools.proofs.Restores.{here}
use Rattle.pd_tools.proofs.Writebacks.{copying_rose, marking_rose}
use Rattle.pd_tools.proofs.writeback.copy_and_mark.Goals as goal

pub returns-in-Ok-mark-clause-written : goal.returns-in-Ok-mark-clause-written
returns-in-Ok-mark-clause-written g c =
    let copy = c.in-Ok.ensures in
    let mark = c.in-Ok-mark.ensures in
    record {
      origin_crash = copy.crash;
      meta_crash = mark.crash;
      origin_told = copy.told;
      meta_told = mark.told;
      order = inr copy.copied;
      copies = inl copy.copied;
      marks = inr (inl mark.done);
      unchanged = mark.unchanged;
      has_copied = copy.copied;
      marked = mark.done;
      cold = λ none. (mark.cold none, copy.cold none);
      meta_place = mark.kept;
      origin_place = copy.place;
      fast_kept = copy.kept;
      faults = tt;
    }

pub returns-in-Err-mark-clause-written : goal.returns-in-Err-mark-clause-written
returns-in-Err-mark-clause-written g c =
    let copy = c.in-Ok.ensures in
    let mark = c.in-Err-mark.ensures in
    record {
      origin_crash = copy.crash;
      meta_crash = mark.crash;
      origin_told = copy.told;
      meta_told = mark.told;
      order = inr copy.copied;
      copies = inl copy.copied;
      marks = inr (inr (marking_rose _ _ c.in-Err-mark.field-0 mark.faults));
      unchanged = mark.unchanged;
      has_copied = tt;
      marked = tt;
      cold = λ none. (mark.cold none, copy.cold none);
      meta_place = mark.kept;
      origin_place = copy.place;
      fast_kept = copy.kept;
      faults = inl (marking_rose _ _ c.in-Err-mark.field-0 mark.faults);
    }

pub returns-in-Err-clause-written : goal.returns-in-Err-clause-written
returns-in-Err-clause-written g c =
    let copy = c.in-Err.ensures in
    record {
      origin_crash = copy.crash;
      meta_crash = λ image of s. stays refl refl (here image (λ made. made ≡ settled image) (g.A.Device.state c.args.input.now) s);
      origin_told = copy.told;
      meta_told = still_tells (g.A.Device.state c.args.input.now) (g.A.Device.state c.args.input.now) refl;
      order = inl (record { held = refl; history = refl });
      copies = inr (copying_rose _ _ _ _ c.in-Err.field-0 copy.faults);
      marks = inl (record { held = refl; history = refl });
      unchanged = λ image of held same. record { held = refl; history = refl };
      has_copied = tt;
      marked = tt;
      cold = λ none. (record { held = refl; history = refl }, copy.cold none);
      meta_place = record { access = refl; path = refl; blocks = refl };
      origin_place = copy.place;
      fast_kept = copy.kept;
      faults = inr (copying_rose _ _ _ _ c.in-Err.field-0 copy.faults);
    }
