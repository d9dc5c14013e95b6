use Rattle.std.proofs.Common.{◌∙◌, arith, sym}
use Rattle.pd_kinds.proofs.ResultLemmas.{if_maps}
use Rattle.pd_smap.proofs.CountLemmas.{outside_bits}
use Rattle.pd_smap.proofs.bitmaps.read_bitmap.Goals as goal

pub returns-else-place-blocks-clause-counts : goal.returns-else-place-blocks-clause-counts
returns-else-place-blocks-clause-counts g c =
    if_maps (g.D.Device.state c.args.dev.now).held _ _ (λ image honest e.
    c.new_bitmap.ensures.counts e ∙ sym (outside_bits image c.args.place e (omega (arith, honest, c.if-place-blocks.false)))) c.blocks-2.ensures.honest
