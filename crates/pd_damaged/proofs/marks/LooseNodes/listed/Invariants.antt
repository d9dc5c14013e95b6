use Rattle.std.proofs.Common.{◌≡◌, ◌<◌, filter}
use Rattle.std.specs.List.{AllByRecursion, range_with_len}
use Rattle.pd_graph.specs.Notes.{size_of}
use Rattle.pd_damaged.specs.Loose.{is_listed}
use Rattle.pd_damaged.proofs.marks.LooseNodes.listed.Given as goal

-- those before this block
abbrev pub invariant-loop-b : goal.invariant-loop-b
invariant-loop-b l = record {
  listed : l.found.items ≡ filter (is_listed l.self l.notes l.sound_too) (range_with_len 0 l.b);
  inside : AllByRecursion (λ b. b < size_of l.notes) l.found.items;
}
