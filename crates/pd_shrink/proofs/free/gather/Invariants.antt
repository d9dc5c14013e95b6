use Rattle.std.proofs.Common.{◌≡◌, ℕ, ◌+◌, ◌-◌, ◌*◌, min, length, IfSome}
use Rattle.pd_kinds.specs.Bitmap.{bitmaps_for}
use Rattle.pd_tree.specs.Cursor.{cursor_items, cursor_nodes}
use Rattle.pd_smap.specs.Overflow.{index_from, place_in}
use Rattle.pd_smap.specs.Steps.{bits_by}
use Rattle.pd_shrink.specs.Gathered.{Searched, standing, with_reads}
use Rattle.pd_shrink.proofs.free.gather.Given as goal

-- the blocks of the bitmaps before this one were searched, and the places of the others are left
abbrev pub invariant-loop-i : goal.invariant-loop-i
invariant-loop-i g l = record {
  searched :
      Searched l.wanted (bits_by (λ image. place_in (cursor_items 16 index_from image l.initial.index))) 0 (min (16320 * l.i) l.end)
      (with_reads (λ image. length (cursor_nodes 16 image l.initial.index) + bitmaps_for l.end) (standing (g.A.Device.state l.initial.meta) l.initial.free l.initial.overflow))
      (with_reads (λ image. length (cursor_nodes 16 image l.index) + (bitmaps_for l.end - l.i)) (standing (g.A.Device.state l.meta) l.free l.overflow));
  places : IfSome (g.A.Device.state l.initial.meta).held (λ image. (j : ℕ)
      → place_in (cursor_items 16 index_from image l.initial.index) (l.i + j) ≡ place_in (cursor_items 16 index_from image l.index) j);
}
