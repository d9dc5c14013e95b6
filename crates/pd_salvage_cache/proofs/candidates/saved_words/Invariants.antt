use Rattle.std.proofs.Common.{◌≡◌, ◌+◌, ◌/◌, ◌≤◌, IfSome}
use Rattle.pd_image.specs.Device.{OnlyReads}
use Rattle.pd_laid.specs.Salvage.{salvaged_entries}
use Rattle.pd_array.specs.declared.array.Word.TheVariants.{Eight}
use Rattle.pd_salvage_cache.specs.Arrays.{Knows}
use Rattle.pd_salvage_cache.specs.Fuller.{words_at}
use Rattle.pd_salvage_cache.proofs.candidates.saved_words.Given as goal

-- the words of the cache blocks before this one were looked at
abbrev pub invariant-loop-block : goal.invariant-loop-block
invariant-loop-block g l = record {
  told : IfSome (g.D.Device.state l.initial.dev).held (λ image. (l.words ≡ words_at l.s image l.root l.block) × Knows image (salvaged_entries 8 l.s.meta_map.blocks image l.root) l.array);
  few : l.words.number ≤ l.block;
  ready : l.array.next ≤ l.block / 509 + 1;
  word : l.array.word ≡ Eight;
  nr : l.array.nr ≡ l.s.meta_map.blocks;
  kept : OnlyReads (g.D.Device.state l.initial.dev) (g.D.Device.state l.dev);
  faults : (g.D.Device.state l.dev).faults ≡ (g.D.Device.state l.initial.dev).faults;
}
