use Rattle.std.proofs.Common.{refl, ◌∙◌, ap, ◌+◌, ℕ}
use Rattle.pd_devices.proofs.map.add_times.Goals as goal

pub loop-init : goal.loop-init
loop-init c = record { size = refl; counted = c.requires.none; others = λ b other. refl }

pub loop-preserved : goal.loop-preserved
loop-preserved c =
    let added = c.in_ok-add.ensures.added in
    record {
      size = added.size ∙ c.loop.invariant.size;
      counted = added.counted ∙ ap (λ (n : ℕ). n + 1) c.loop.invariant.counted;
      others = λ b other. added.others b other ∙ c.loop.invariant.others b other;
    }
