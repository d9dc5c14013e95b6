use Rattle.std.proofs.Common.{ℕ, List, ap, ◌∙◌, map}
use Rattle.pd_grammar.specs.Need.{overflows_in}
use Rattle.pd_salvage.specs.declared.saved.SavedDevice.{SavedDevice}
use Rattle.pd_restore.proofs.SavedNeedLemmas.{data_is, need_exact}
use Rattle.pd_restore.proofs.saved_need.need_of_saved.Goals as goal

pub returns-then-need-lt18446744073709551615 : goal.returns-then-need-lt18446744073709551615
returns-then-need-lt18446744073709551615 c =
    let saved = c.args.saved.now in
    need_exact saved c.head.ensures.sound c.head.result.now c.deref.result.now c.in-Ok.over c.args.room c.need_thin-need.result c.head.ensures.head
    (c.deref.ensures.value ∙ c.in-Ok-mapped_of.ensures ∙ ap (map (λ (d : SavedDevice). d.details.mapped)) c.devices.ensures)
    (c.in-Ok.ensures ∙ ap (λ (blocks : List ℕ). overflows_in blocks saved.head.blocks) (data_is saved c.head.ensures.sound)) c.need_thin-need.ensures c.if-need-lt18446744073709551615.true
