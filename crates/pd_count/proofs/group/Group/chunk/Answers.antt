use Rattle.std.proofs.Common.{◌∙◌, length, sym, ap, subst}
use Rattle.pd_count.specs.Counted.{Grouped, IsPlace, chunk_of}
use Rattle.pd_count.proofs.PlaceLemmas.{chunk_missing, chunk_read}
use Rattle.pd_count.proofs.group.Group.chunk.Goals as goal

pub returns-in_err-place : goal.returns-in_err-place
returns-in_err-place c = rw c.from_residual.ensures (chunk_missing c.args.self.now c.args.i c.in_err-place.ensures)

pub returns : goal.returns
returns c =
    let stands = subst (λ (g : Grouped). IsPlace g.made (length g.chunks) c.args.i c.in_ok-place.place) (sym c.self.view_is) c.in_ok-place.ensures in
    sym (chunk_read c.self.inside.made c.self.inside.chunks.items c.args.i c.in_ok-place.place c.index.result.now stands c.index.ensures)
    ∙ ap (λ (g : Grouped). chunk_of g c.args.i) c.self.view_is
