use Rattle.std.proofs.Common.{◌≡◌, length, sym, rules}
use Rattle.pd_meaning_thin.proofs.FoundLemmas.{marked_number}
use Rattle.pd_meaning_thin.proofs.find.SharedLeaves.len.Goals as goal

pub returns : goal.returns
returns c =
    let len : c.len.result ≡ length c.args.self.now.marks.items = search rules in
    rw (c.rank.ensures, c.as_slice.ensures.value, len) (sym (marked_number c.args.self.now.marks.items))
