use Rattle.std.proofs.Common.{◌≡◌, ◌++◌, map, IfSome}
use Rattle.pd_image.specs.Device.{OnlyReads}
use Rattle.pd_tree.specs.Cursor.{cursor_items, cursor_number}
use Rattle.pd_measures.specs.Counts.{key_and_told}
use Rattle.pd_measures.proofs.listing.gather.Given as goal

-- what is listed and what is left are what was left
abbrev pub invariant-entries : goal.invariant-entries
invariant-entries g l = record {
  list : IfSome (g.D.Device.state l.initial.dev).held (λ image.
      l.list.items ++ map (key_and_told (g.V.TellsMappings.told l.fn.notes)) (cursor_items g.V.Value.SIZE g.V.Value.decoded image l.entries)
      ≡ map (key_and_told (g.V.TellsMappings.told l.fn.notes)) (cursor_items g.V.Value.SIZE g.V.Value.decoded image l.initial.entries));
  kept : OnlyReads (g.D.Device.state l.initial.dev) (g.D.Device.state l.dev);
  faults : (g.D.Device.state l.dev).faults ≡ (g.D.Device.state l.initial.dev).faults;
}

abbrev pub decreases-entries : goal.decreases-entries
decreases-entries g l = cursor_number g.V.Value.SIZE l.entries
