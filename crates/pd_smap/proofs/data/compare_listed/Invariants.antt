use Rattle.std.proofs.Common.{◌≡◌, ℕ, ◌+◌, ◌-◌, ◌*◌, min, length, IfSome}
use Rattle.pd_kinds.specs.declared.rule.Space.TheVariants.{DataBlock}
use Rattle.pd_kinds.specs.Bitmap.{bitmaps_for}
use Rattle.pd_count.specs.Counted.{count_of}
use Rattle.pd_tree.specs.Cursor.{cursor_items, cursor_nodes}
use Rattle.pd_smap.specs.Overflow.{index_from, place_in}
use Rattle.pd_smap.specs.Overflow.{comparison_state}
use Rattle.pd_smap.specs.Steps.{ComparesRange, bits_by, with_nodes}
use Rattle.pd_smap.proofs.data.compare_listed.Given as goal

-- the blocks of the bitmaps before this one were compared, and the places of the others are left
abbrev pub invariant-loop-i : goal.invariant-loop-i
invariant-loop-i g l = record {
  went :
      ComparesRange (record { space = DataBlock; refs = count_of l.fn.counts; bits = bits_by (λ image. place_in (cursor_items 16 index_from image l.initial.index)) }) 0 (min (16320 * l.i) l.blocks)
      (with_nodes (λ image. length (cursor_nodes 16 image l.initial.index) + bitmaps_for l.blocks) (comparison_state (g.D.Device.state l.initial.dev) l.initial.overflow l.initial.report))
      (with_nodes (λ image. length (cursor_nodes 16 image l.index) + (bitmaps_for l.blocks - l.i)) (comparison_state (g.D.Device.state l.dev) l.overflow l.report));
  places : IfSome (g.D.Device.state l.initial.dev).held (λ image. (j : ℕ)
      → place_in (cursor_items 16 index_from image l.initial.index) (l.i + j) ≡ place_in (cursor_items 16 index_from image l.index) j);
}
