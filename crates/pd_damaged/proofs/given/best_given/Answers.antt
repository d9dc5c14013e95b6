use Rattle.std.proofs.Common.{◌≡◌, ℕ, ◌+◌, ◌<◌, ◌≤◌, length, get_or, IfSome, refl, sym, ◌∙◌, ap, subst, arith}
use Rattle.std.proofs.lemmas.Option.{IfSome_then}
use Rattle.pd_kinds.specs.Graph.{Graph}
use Rattle.pd_kinds.proofs.ResultLemmas.{if_any, if_both}
use Rattle.pd_image.proofs.CrashLemmas.{only_reads_both}
use Rattle.pd_damaged.specs.declared.given.Given.{Given}
use Rattle.pd_damaged.specs.Given.{given_at, ids_below}
use Rattle.pd_damaged.proofs.GivenLemmas.{IsBestSoFar, all_at, all_better, better_below, none_first, one_better}
use Rattle.pd_damaged.proofs.given.best_given.Goals as goal

pub loop-i-init : goal.loop-i-init
loop-i-init g c =
    let roots = c.args.roots.now in
    let none = ap (λ (given : Given). given.details) c.none-best.ensures in
    record {
      given = if_any (g.D.Device.state c.args.dev.now).held (λ image graph top number few below.
          subst (IsBestSoFar graph image top roots 0) (sym c.none-best.ensures) (none_first graph image top roots));
      among = λ limit some all. subst (λ (n : ℕ). n < limit) (sym none) some;
      kept = record { held = refl; access = refl; path = refl; blocks = refl; history = refl };
      faults = refl;
    }

pub loop-i-preserved : goal.loop-i-preserved
loop-i-preserved g c =
    let roots = c.args.roots.now in
    let i = c.loop-i.i in
    let best = c.loop-i.best in
    let given = c.in_ok-given.given in
    let inv = c.loop-i.invariant in
    let within : i < length roots = omega arith in
    record {
      given = if_both (g.D.Device.state c.args.dev.now).held
          (λ image is before graph top number few below.
          subst (IsBestSoFar graph image top roots (i + 1)) (sym c.better-best.ensures)
          (one_better graph image top roots i best given (omega (arith, number, few)) within (is graph top number below) (before graph top number few below)))
          (subst (λ o. IfSome o (λ image. (graph : Graph) (top : ℕ) → graph.nr ≡ c.args.nr → c.args.ids.now ≡ ids_below c.args.nr image top
          → given ≡ given_at graph image top (get_or roots i 0))) inv.kept.held c.in_ok-given.ensures.given)
          inv.given;
      among = λ limit some all.
          subst (λ (b : Given). b.details < limit) (sym c.better-best.ensures)
          (better_below limit best given (inv.among limit some all)
          (subst (λ (n : ℕ). n < limit) (sym c.in_ok-given.ensures.root) (all_at (λ (r : ℕ). r < limit) roots i all within)));
      kept = only_reads_both inv.kept c.in_ok-given.ensures.kept;
      faults = c.in_ok-given.ensures.faults ∙ inv.faults;
    }

pub returns-clause-given : goal.returns-clause-given
returns-clause-given g c =
    let roots = c.args.roots.now in
    let all : length roots ≤ c.loop-i.i = omega arith in
    IfSome_then (g.D.Device.state c.args.dev.now).held c.loop-i.invariant.given
    (λ image before graph top number few below.
    all_better graph image top roots c.loop-i.i c.loop-i.best all (before graph top number few below))
