use Rattle.std.proofs.Common.{◌-◌, ◌*◌, min}
use Rattle.pd_kinds.specs.declared.rule.Space.TheVariants.{Meta}
use Rattle.pd_kinds.specs.Bitmap.{bitmaps_for, index_block_at}
use Rattle.pd_graph.specs.Audit.{count_at}
use Rattle.pd_smap.specs.Overflow.{comparison_state}
use Rattle.pd_smap.specs.Steps.{ComparesRange, bits_by, with_reads}
use Rattle.pd_smap.proofs.meta.compare_indexed.Given as goal

-- the blocks of the bitmaps before this one were compared
abbrev pub invariant-loop-i : goal.invariant-loop-i
invariant-loop-i g l =
    ComparesRange (record { space = Meta; refs = count_at l.fn.audit; bits = bits_by (λ image. index_block_at l.fn.index.0) }) 0 (min (16320 * l.i) l.blocks)
    (with_reads (bitmaps_for l.blocks) (comparison_state (g.D.Device.state l.initial.dev) l.initial.overflow l.initial.report))
    (with_reads (bitmaps_for l.blocks - l.i) (comparison_state (g.D.Device.state l.dev) l.overflow l.report))
