use Rattle.std.proofs.Common.{ap, map, ◌∙◌}
use Rattle.pd_salvage.specs.declared.saved.SavedHead.{SavedHead}
use Rattle.pd_salvage.specs.declared.saved_shape.ShapedDevice.{ShapedDevice}
use Rattle.pd_restore.proofs.PlainDataLemmas.{plain_exact}
use Rattle.pd_restore.proofs.plain_need.plain_need_of_shape.Goals as goal

pub returns-then-need-lt18446744073709551615 : goal.returns-then-need-lt18446744073709551615
returns-then-need-lt18446744073709551615 c =
    plain_exact c.args.saved.now c.deref.result.now c.head.result.now.blocks c.in-Ok.over c.args.room c.need_thin-need.result
    (c.deref.ensures.value ∙ (c.in-Ok-mapped_of.ensures ∙ ap (map (λ (d : ShapedDevice). d.details.mapped)) c.devices.ensures))
    (ap (λ (head : SavedHead). head.blocks) c.head.ensures.head) c.in-Ok.ensures c.need_thin-need.ensures c.if-need-lt18446744073709551615.true
