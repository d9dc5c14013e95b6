use Rattle.std.proofs.Common.{◌≡◌, ℕ, ◌+◌, ◌-◌, ◌*◌, ◌≤◌, IfSome}
use Rattle.pd_image.specs.Device.{OnlyReads}
use Rattle.pd_graph.specs.Marks.{is_in}
use Rattle.pd_graph.specs.Notes.{size_of, note_in}
use Rattle.pd_graph.specs.Marks.{read_of}
use Rattle.pd_graph.specs.Walk.{IsSafe, IsTold, AreLeavesNoted, read_number}
use Rattle.pd_graph.proofs.walking.read_all.Given as goal

abbrev pub invariant-loop-b : goal.invariant-loop-b
invariant-loop-b g l = record {
  safe : IsSafe (g.F.Format.graph l.format) l.marks;
  told : IfSome (g.D.Device.state l.initial.dev).held (λ image. IsTold (g.F.Format.graph l.format) image l.marks);
  leaves : IfSome (g.D.Device.state l.initial.dev).held
      (λ image. AreLeavesNoted (g.F.Format.graph l.format) image (is_in (read_of l.marks)) (note_in l.notes));
  notes : (b : ℕ) → (note_in l.notes b).height ≤ 1;
  seen : IfSome (g.D.Device.state l.initial.dev).held (λ image. g.W.Watch.has_seen l.watch (g.F.Format.graph l.format) image (is_in (read_of l.marks)));
  room : g.W.Watch.has_room l.watch (g.F.Format.graph l.format);
  number : size_of l.notes ≡ size_of l.initial.notes;
  reads : (g.D.Device.state l.dev).reads ≤ (g.D.Device.state l.initial.dev).reads + read_number (g.F.Format.graph l.format).nr l.marks;
  kept : OnlyReads (g.D.Device.state l.initial.dev) (g.D.Device.state l.dev);
  faults : (g.D.Device.state l.dev).faults ≡ (g.D.Device.state l.initial.dev).faults;
}

abbrev pub decreases-loop-b : goal.decreases-loop-b
decreases-loop-b g l = 16 * (g.F.Format.graph l.format).nr - read_number (g.F.Format.graph l.format).nr l.marks
