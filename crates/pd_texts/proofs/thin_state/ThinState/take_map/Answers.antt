use Rattle.std.proofs.Common.{get_or, refl, arith, ◌^◌, ◌≤◌, ◌+◌}
use Rattle.std.proofs.lemmas.Bool.Decides.{nat_tests}
use Rattle.pd_texts.specs.declared.thin_text.Run2.{Run2}
use Rattle.pd_texts.proofs.StateLemmas.{map_passed}
use Rattle.pd_texts.proofs.thin_state.ThinState.take_map.Goals as goal

pub returns-clause-after : goal.returns-clause-after
returns-clause-after c = λ before stands some.
    let virt = get_or c.args.numbers.now 0 0 in
    let length = get_or c.args.numbers.now 2 0 in
    let run : Run2 = record { virt = virt; target = get_or c.args.numbers.now 1 0; length = length; time = get_or c.args.numbers.now 3 0 } in
    let any : 1 ≤ length = grind (arith, nat_tests, c.if-not-fits.false) in
    let fits : virt + length ≤ 2 ^ 64 = grind (arith, nat_tests, c.if-not-fits.false) in
    map_passed c.args.self.now _ c.pass_run.new.self before stands some run refl (omega arith)
    (λ few. c.pass_run.ensures before stands.leaves stands.has_device any fits few)
