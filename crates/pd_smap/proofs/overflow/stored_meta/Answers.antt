use Rattle.std.proofs.Common.{◌∙◌, ◌%◌, sym, Some, ap}
use Rattle.pd_kinds.specs.Trees.{stored_meta_in, value_of_key}
use Rattle.pd_kinds.proofs.ResultLemmas.{if_then}
use Rattle.pd_smap.specs.Overflow.{IsOverflow, overflow_of}
use Rattle.pd_smap.proofs.MapLemmas.{few_bits, many_bits, ok_same, stored_meta_found}
use Rattle.pd_smap.proofs.overflow.stored_meta.Goals as goal

pub returns-then-bits-lt3-clause-stored : goal.returns-then-bits-lt3-clause-stored
returns-then-bits-lt3-clause-stored g c =
    if_then (g.D.Device.state c.args.dev.now).held (g.D.Device.state c.read.new.self).held _ _ _ c.in_ok-read.ensures.kept.held
    (λ image content counts searchable.
    ap Some c.from.ensures ∙ sym (stored_meta_found image c.args.root.now.bitmap_root c.args.b c.index_entry-bitmap.result.block c.two_bits-bits.result c.read.new.into.0 (overflow_of image c.args.root.now.overflow_root) content
    c.index_entry-bitmap.ensures.block (c.two_bits-bits.ensures.count ∙ counts (c.args.b % 16320)) ∙ few_bits c.two_bits-bits.result _ c.if-bits-lt3.true))
    c.in_ok-read.ensures.content c.in_ok-read_bitmap.ensures.counts

pub returns-else-bits-lt3-clause-stored : goal.returns-else-bits-lt3-clause-stored
returns-else-bits-lt3-clause-stored g c =
    ok_same c.overflow_count.result (g.D.Device.state c.args.dev.now).held (g.D.Device.state c.read_bitmap.new.dev).held (λ image. IsOverflow image c.args.root.now.overflow_root)
    (λ image. stored_meta_in image c.args.root.now.bitmap_root (overflow_of image c.args.root.now.overflow_root) c.args.b) (λ image. value_of_key (overflow_of image c.args.root.now.overflow_root) c.args.b)
    (c.in_ok-read_bitmap.ensures.kept.held ∙ c.in_ok-read.ensures.kept.held)
    (if_then (g.D.Device.state c.args.dev.now).held (g.D.Device.state c.read.new.self).held _ _ _ c.in_ok-read.ensures.kept.held
    (λ image content counts.
    stored_meta_found image c.args.root.now.bitmap_root c.args.b c.index_entry-bitmap.result.block c.two_bits-bits.result c.read.new.into.0 (overflow_of image c.args.root.now.overflow_root) content
    c.index_entry-bitmap.ensures.block (c.two_bits-bits.ensures.count ∙ counts (c.args.b % 16320)) ∙ many_bits c.two_bits-bits.result _ c.if-bits-lt3.false)
    c.in_ok-read.ensures.content c.in_ok-read_bitmap.ensures.counts)
    c.overflow_count.ensures.count
