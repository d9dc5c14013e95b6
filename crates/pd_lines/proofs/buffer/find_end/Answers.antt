use Rattle.std.proofs.Common.{◌≡◌, subst, ℕ, List, min, length, arith}
use Rattle.pd_lines.specs.Front.{IsUnbroken}
use Rattle.pd_lines.proofs.ReaderLemmas.{take_most}
use Rattle.pd_lines.proofs.buffer.find_end.Goals as goal

pub returns-clause-none : goal.returns-clause-none
returns-clause-none c = λ none.
    let i : c.loop-i.i ≡ min (length c.args.bytes.now) 161 = omega arith in
    let P : List ℕ → Type 0 = IsUnbroken in
    subst P (take_most c.args.bytes.now c.loop-i.i 161 i) c.loop-i.invariant
