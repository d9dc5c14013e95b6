use Rattle.std.proofs.Common.{◌≡◌, ◌+◌, ◌-◌, arith}
use Rattle.std.proofs.lemmas.List.{drop-drop}
use Rattle.pd_kinds.proofs.FieldLemmas.{put_part}
use Rattle.pd_value.proofs.value.put_value.Goals as goal

pub returns : goal.returns
returns g c =
    let at = c.args.at in
    let size = g.V.Value.SIZE in
    let end : at + c.SIZE.result - at ≡ size = omega (arith, c.SIZE.ensures) in
    let place : at + 0 ≡ at = omega arith in
    let part = rw place at (put_part c.args.bytes.now at size 0 size (g.V.Value.code c.args.value.now) c.requires.size (omega arith)) in
    rw (c.write.ensures, end, drop-drop size at c.args.bytes.now) part
