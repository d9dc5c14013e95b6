use Rattle.std.proofs.Common.{◌≡◌, ℕ, ◌+◌, ◌-◌, ◌<◌, refl, arith, get_or}
use Rattle.pd_kinds.specs.Field.{le}
use Rattle.pd_kinds.proofs.FieldLemmas.{le-lt, le_part}
use Rattle.pd_value.proofs.value.value_at.Goals as goal

pub returns-clause-value : goal.returns-clause-value
returns-clause-value g c =
    let at = c.args.at in
    let size = g.V.Value.SIZE in
    let end : at + c.SIZE.result - at ≡ size = omega (arith, c.SIZE.ensures) in
    let place : at + 0 ≡ at = omega arith in
    let part = rw place at (le_part c.args.bytes.now at size 0 size (omega arith)) in
    rw (c.read.ensures, end, part) refl

pub returns-clause-fits : goal.returns-clause-fits
returns-clause-fits g c =
    let size = g.V.Value.SIZE in
    let bytes : (i : ℕ) → get_or c.args.bytes.now i 0 < 256 = λ i. omega (arith, c.type_inv.bytes i) in
    rw (returns-clause-value g c) (g.met.V.Value.read_fits (le c.args.bytes.now c.args.at size) (le-lt c.args.bytes.now c.args.at size bytes))
