use Rattle.std.proofs.Common.{arith, refl}
use Rattle.pd_meaning_thin.specs.declared.marks.Mark.TheVariants.{Unseen}
use Rattle.pd_meaning_thin.proofs.FoundLemmas.{number_is}
use Rattle.pd_meaning_thin.proofs.find.SharedLeaves.number.Goals as goal

pub returns-in-Some : goal.returns-in-Some
returns-in-Some c =
    let mark = rw c.deref.ensures.value at c.in-Some.ensures.lookup.3.1 Unseen in
    let shared = rw (c.is_shared.ensures, mark) at c.if-is_shared.true in
    rw (number_is c.args.self.now.marks.items c.args.b, shared, c.rank.ensures, c.as_slice.ensures.value) refl

pub returns-in_default : goal.returns-in_default
returns-in_default c =
    let mark = rw c.deref.ensures.value at c.in-Some.ensures.lookup.3.1 Unseen in
    let other = rw (c.is_shared.ensures, mark) at c.if-is_shared.false in
    rw (number_is c.args.self.now.marks.items c.args.b, other) refl

pub returns-in_default-2 : goal.returns-in_default-2
returns-in_default-2 c =
    let mark = rw (c.in_default.is, c.deref.ensures.value) at c.get.ensures.lookup.4 (omega arith) Unseen in
    rw (number_is c.args.self.now.marks.items c.args.b, ← mark) refl
