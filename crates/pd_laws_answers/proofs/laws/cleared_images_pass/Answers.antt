use Rattle.std.proofs.Common.{sym, subst, List}
use Rattle.pd_kinds.specs.declared.rule.Fault.{Fault}
use Rattle.pd_kinds.specs.declared.kind.Stage.TheVariants.{Counts, Whole}
use Rattle.pd_kinds.specs.Flagged.{kind_of}
use Rattle.pd_kinds.specs.Leaks.{AreLeaks}
use Rattle.pd_answers.specs.Flag.{cleared}
use Rattle.pd_laws_answers.proofs.Cleared.{only_leaks, passes_too}
use Rattle.pd_laws_answers.proofs.laws.cleared_images_pass.Goals as goal

pub returns : goal.returns
returns c = λ flagged passing image is passed.
    let law = c.cleared_images_stay_clean.ensures in
    let clean = c.faults_are_none_where_clean.ensures in
    let lossless = c.leaks_alone_lose_nothing.ensures in
    let left = cleared flagged image in
    let leaks = only_leaks clean passing (kind_of flagged) image passed in
    let none = lossless.sound (kind_of flagged) image leaks in
    let same = law.same flagged Whole Counts image is none in
    let still = subst (λ (found : List Fault). AreLeaks found) (sym same) leaks in
    record {
      passed = passes_too clean passing (kind_of flagged) image left same passed;
      kept = record { sound = lossless.sound (kind_of flagged) left still; counts = lossless.counts (kind_of flagged) left still };
      same_faults = λ until. law.same flagged Whole until image is none;
      same = law.meaning flagged Whole image is tt none;
      unset = law.unset flagged image is;
    }
