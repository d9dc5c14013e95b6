use Rattle.std.proofs.Common.{sym, ◌∙◌}
use Rattle.pd_texts.proofs.StateLemmas.{device_run}
use Rattle.pd_texts.proofs.leaves.Leaves.pass_run.Goals as goal

pub returns-then-not-in_device : goal.returns-then-not-in_device
returns-then-not-in_device c = λ before are is some fits few.
    let none = sym is ∙ c.if-not-in_device.true in
    c.add.ensures before are none some fits (few none)

pub returns-else-not-in_device : goal.returns-else-not-in_device
returns-else-not-in_device c = λ before are is some fits few. device_run c.args.self.now before c.args.run.now (sym is ∙ c.if-not-in_device.false) are
