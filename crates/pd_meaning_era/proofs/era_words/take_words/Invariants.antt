use Rattle.std.proofs.Common.{◌≡◌, ◌≤◌, ◌-◌, ◌++◌, IfSome, length}
use Rattle.pd_image.specs.Device.{OnlyReads}
use Rattle.pd_meaning_era.specs.EraWords.{era_words}
use Rattle.pd_meaning_era.proofs.era_words.take_words.Given as goal

-- the words of the part, and then those that are left
abbrev pub invariant-loop-words : goal.invariant-loop-words
invariant-loop-words g l = record {
  cut : IfSome (g.D.Device.state l.initial.dev).held (λ image. era_words image l.initial.words ≡ l.part.items ++ era_words image l.words);
  most : length l.part.items ≤ l.count;
  kept : OnlyReads (g.D.Device.state l.initial.dev) (g.D.Device.state l.dev);
  faults : (g.D.Device.state l.dev).faults ≡ (g.D.Device.state l.initial.dev).faults;
}

abbrev pub decreases-loop-words : goal.decreases-loop-words
decreases-loop-words g l = l.count - length l.part.items
