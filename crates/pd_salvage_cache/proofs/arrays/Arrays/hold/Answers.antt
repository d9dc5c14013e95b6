use Rattle.std.proofs.Common.{◌∙◌}
use Rattle.pd_array.specs.declared.array.Word.TheVariants.{Eight, Four}
use Rattle.pd_salvage_cache.proofs.HeldLemmas.{same_kind}
use Rattle.pd_salvage_cache.proofs.arrays.Arrays.hold.Goals as goal

pub invariant_of-self-in-Break-branch-2 : goal.invariant_of-self-in-Break-branch-2
invariant_of-self-in-Break-branch-2 g c =
    let self = c.args.self.now in
    let same = c.hold.ensures.same in
    record {
      words_are = (same.0 ∙ self.words_are.0, same.1 ∙ self.words_are.1);
      hints_are = same_kind Four self.nr self.hints c.hold_some.new.array c.hold_some.ensures.same self.hints_are;
      bits_are = self.bits_are;
    }

pub invariant_of-self-2 : goal.invariant_of-self-2
invariant_of-self-2 g c =
    let self = c.args.self.now in
    let same = c.hold.ensures.same in
    record {
      words_are = (same.0 ∙ self.words_are.0, same.1 ∙ self.words_are.1);
      hints_are = same_kind Four self.nr self.hints c.hold_some.new.array c.hold_some.ensures.same self.hints_are;
      bits_are = same_kind Eight self.nr self.bits c.hold_some-2.new.array c.hold_some-2.ensures.same self.bits_are;
    }
