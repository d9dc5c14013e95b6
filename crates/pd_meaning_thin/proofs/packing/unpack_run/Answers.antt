use Rattle.std.proofs.Common.{◌≡◌, ◌∙◌, ℕ, List, Option, Some, None, drop, sym, subst, arith}
use Rattle.std.specs.Option.{MatchOption}
use Rattle.pd_meaning_thin.specs.declared.joined.Run.{Run}
use Rattle.pd_meaning_thin.proofs.PackedLemmas.{first-other, first-single, run_at-first, run_at-no_first}
use Rattle.pd_meaning_thin.proofs.packing.unpack_run.Goals as goal

pub returns-in_err-first : goal.returns-in_err-first
returns-in_err-first c =
    rw c.from_residual.ensures
    (run_at-no_first c.args.before (drop c.args.at c.args.bytes.now) c.in_err-first.ensures)

pub returns-then-first-eq1 : goal.returns-then-first-eq1
returns-then-first-eq1 c =
    let s = c.args.bytes.now in
    let first = c.in_ok-first.first in
    let rest = drop c.in_ok-first.behind s in
    subst (λ (o : Option (Run × List ℕ)). MatchOption c.unpack_single.result (o ≡ None) (λ got. o ≡ Some (got.0, drop got.1 s)))
    (sym (run_at-first c.args.before (drop c.args.at s) (first, rest) c.in_ok-first.ensures ∙ first-single c.args.before first rest c.if-first-eq1.true))
    c.unpack_single.ensures

pub returns : goal.returns
returns c =
    let s = c.args.bytes.now in
    let first = c.in_ok-first.first in
    let rest = drop c.in_ok-first.behind s in
    subst (λ (o : Option (Run × List ℕ)). MatchOption c.unpack_other.result (o ≡ None) (λ got. o ≡ Some (got.0, drop got.1 s)))
    (sym (run_at-first c.args.before (drop c.args.at s) (first, rest) c.in_ok-first.ensures ∙ first-other c.args.before first rest (let other = c.if-first-eq1.false in omega arith)))
    c.unpack_other.ensures
