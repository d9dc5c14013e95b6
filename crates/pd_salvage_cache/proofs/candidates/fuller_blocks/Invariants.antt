use Rattle.std.proofs.Common.{◌≡◌, length, map, IfSome}
use Rattle.std.specs.List.{range_with_len}
use Rattle.pd_image.specs.Device.{OnlyReads}
use Rattle.pd_salvage_cache.specs.Fuller.{fuller_words}
use Rattle.pd_salvage_cache.proofs.candidates.fuller_blocks.Given as goal

-- the blocks before this one were looked at
abbrev pub invariant-loop-root : goal.invariant-loop-root
invariant-loop-root g l = record {
  told : IfSome (g.D.Device.state l.fn.dev).held (λ image. l.found.items ≡ map (fuller_words l.s image) (range_with_len 0 l.root));
  number : length l.found.items ≡ l.root;
  kept : OnlyReads (g.D.Device.state l.fn.dev) (g.D.Device.state l.dev);
  faults : (g.D.Device.state l.dev).faults ≡ (g.D.Device.state l.fn.dev).faults;
}
