use Rattle.std.proofs.Common.{◌<◌, ◌^◌, sym, arith}
use Rattle.pd_uses.proofs.ListWalkLemmas.{takes_first, takes_past, takes_second, takes_several}
use Rattle.pd_uses.proofs.tallies.Tallies.take.Goals as goal

pub returns-then-one-size : goal.returns-then-one-size
returns-then-one-size c = takes_past c.args.one c.args.self.now (omega (arith, c.if-one-size.true, c.size.ensures.size))

pub returns-then-user-eq-NOBODY : goal.returns-then-user-eq-NOBODY
returns-then-user-eq-NOBODY c =
    let inside : c.args.one.block < c.args.self.now.users.size = omega (arith, c.if-one-size.false, c.size.ensures.size) in
    let few : c.args.self.now.users.size < 2 ^ 64 = omega (arith, c.size.ensures.size, c.size.type_inv) in
    takes_first c.args.one c.args.self.now c.first_use.new.self c.first_use.result inside few (omega (arith, c.get-user.ensures, c.if-user-eq-NOBODY.true)) c.first_use.ensures.few c.first_use.ensures.some c.first_use.ensures.user c.first_use.ensures.tally

pub returns-then-user-lt-SEVERAL : goal.returns-then-user-lt-SEVERAL
returns-then-user-lt-SEVERAL c =
    let inside : c.args.one.block < c.args.self.now.users.size = omega (arith, c.if-one-size.false, c.size.ensures.size) in
    takes_second c.args.one c.args.self.now c.second_use.new.self c.second_use.result inside c.get-user.result (sym c.get-user.ensures) (omega (arith, c.if-user-eq-NOBODY.false)) c.if-user-lt-SEVERAL.true c.second_use.ensures.user c.second_use.ensures.tally

pub returns-else-user-lt-SEVERAL : goal.returns-else-user-lt-SEVERAL
returns-else-user-lt-SEVERAL c = takes_several c.args.one c.args.self.now (omega (arith, c.if-one-size.false, c.size.ensures.size)) (omega (arith, c.get-user.ensures, c.get-user.type_inv, c.if-user-lt-SEVERAL.false))
