use Rattle.std.proofs.Common.{◌≡◌, ◌≤◌, ℕ, max, ap, arith, ◌∙◌, sym}
use Rattle.std.specs.Prelude.{fold}
use Rattle.pd_kept.proofs.LatestLemmas.{empty_run, filled_run}
use Rattle.pd_kept.proofs.latest.later_of.Goals as goal

pub returns-then-run-eq0 : goal.returns-then-run-eq0
returns-then-run-eq0 c times = empty_run c.args.latest c.args.run times c.if-run-eq0.true

pub returns : goal.returns
returns c times =
    let some = c.if-run-eq0.false in
    filled_run c.args.latest c.args.run times (positive c.args.run.length some) ∙ ap (λ (latest : ℕ). fold max latest times) (sym c.max.ensures)
  where
    positive : (n : ℕ) → (n ≡ 0 → ⊥) → 1 ≤ n
    positive n some = omega (arith, some)
