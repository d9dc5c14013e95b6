use Rattle.std.proofs.Common.{◌∙◌, List, ℕ, drop, length, sym, subst}
use Rattle.std.proofs.lemmas.List.{take_at}
use Rattle.pd_kinds.proofs.ResultLemmas.{if_maps}
use Rattle.pd_meaning_era.specs.Notes.{RaisesRows}
use Rattle.pd_meaning_era.proofs.PartLemmas.{ok_maps}
use Rattle.pd_meaning_era.proofs.part.raise_part.Goals as goal

pub returns-clause-raised : goal.returns-clause-raised
returns-clause-raised g c =
    let last = c.raise_fresh_part.new.part in
    let items = c.args.part.now.items in
    let same = take_at last (drop (length last) items) c.args.part.now.len (c.raise_fresh_part.ensures.number ∙ c.as_mut_slice.ensures.len) in
    ok_maps c.raise_fresh_part.result _ _ (λ told.
    if_maps (g.D.Device.state c.args.dev.now).held _ _ (λ image raised.
    subst (λ (xs : List ℕ). RaisesRows image c.args.base c.args.rows.now items xs) (sym same)
    (subst (λ (xs : List ℕ). RaisesRows image c.args.base c.args.rows.now xs last) c.as_mut_slice.ensures.value raised)) told) c.raise_fresh_part.ensures.raised
