use Rattle.std.proofs.Common.{◌≡◌, IfSome}
use Rattle.pd_image.specs.Device.{OnlyReads}
use Rattle.pd_tree.specs.Cursor.{cursor_number}
use Rattle.pd_meaning_cache.specs.SkippedWords.{KnowsLengths, Skips}
use Rattle.pd_meaning_cache.proofs.skipped_words.SkippedWords.first.Given as goal

abbrev pub invariant-loop-self : goal.invariant-loop-self
invariant-loop-self g l = record {
  told : IfSome (g.D.Device.state l.initial.dev).held (λ image. KnowsLengths image l.initial.self → Skips image 0 l.initial.self l.self);
  size : l.self.word ≡ l.initial.self.word;
  kept : OnlyReads (g.D.Device.state l.initial.dev) (g.D.Device.state l.dev);
  faults : (g.D.Device.state l.dev).faults ≡ (g.D.Device.state l.initial.dev).faults;
}

abbrev pub decreases-loop-self : goal.decreases-loop-self
decreases-loop-self g l = cursor_number 8 l.self.entries
