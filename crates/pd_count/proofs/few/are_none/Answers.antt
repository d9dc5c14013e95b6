use Rattle.std.proofs.Common.{◌+◌, ◌≤◌, arith}
use Rattle.std.proofs.lemmas.Bool.{leb-true}
use Rattle.pd_count.proofs.few.are_none.Goals as goal

pub returns-in-Some : goal.returns-in-Some
returns-in-Some c = λ all k below.
    let far : c.args.at + c.args.len ≤ c.in-Some.place = leb-true (c.args.at + c.args.len) c.in-Some.place all in
    let less = c.in-Some.ensures.1.1.1 (c.args.at + k) (omega arith) (omega arith) in
    omega arith

pub returns-in-None : goal.returns-in-None
returns-in-None c = λ all k below. let less = c.in-None.ensures (c.args.at + k) (omega arith) (omega arith) in omega arith
