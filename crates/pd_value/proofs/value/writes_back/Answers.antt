use Rattle.std.proofs.Common.{ℕ, ◌<◌, arith, get_or}
use Rattle.pd_kinds.specs.Field.{le}
use Rattle.pd_kinds.proofs.FieldLemmas.{le-lt, put-le}
use Rattle.pd_value.proofs.value.writes_back.Goals as goal

pub returns-clause-fits : goal.returns-clause-fits
returns-clause-fits g c =
    let size = g.V.Value.SIZE in
    let bytes : (i : ℕ) → get_or c.args.bytes.now i 0 < 256 = λ i. omega (arith, c.type_inv.bytes i) in
    g.met.V.Value.read_fits (le c.args.bytes.now 0 size) (le-lt c.args.bytes.now 0 size bytes)

pub returns-clause-same : goal.returns-clause-same
returns-clause-same g c =
    let size = g.V.Value.SIZE in
    let bytes : (i : ℕ) → get_or c.args.bytes.now i 0 < 256 = λ i. omega (arith, c.type_inv.bytes i) in
    let same = g.met.V.Value.writes_back (le c.args.bytes.now 0 size) (le-lt c.args.bytes.now 0 size bytes) in
    rw same (put-le c.args.bytes.now 0 size bytes)
