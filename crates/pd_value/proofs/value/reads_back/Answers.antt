use Rattle.pd_kinds.proofs.FieldLemmas.{le-put}
use Rattle.std.proofs.Common.{arith}
use Rattle.pd_value.proofs.value.reads_back.Goals as goal

pub returns : goal.returns
returns g c = λ value bytes fits len.
    let below = g.met.V.Value.code_below value fits in
    let same = le-put bytes 0 g.V.Value.SIZE (g.V.Value.code value) (omega arith) below in
    rw same (g.met.V.Value.reads_back value fits)
