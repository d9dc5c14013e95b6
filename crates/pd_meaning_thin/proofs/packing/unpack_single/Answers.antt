use Rattle.std.proofs.Common.{◌∙◌, Some, drop, ap, sym}
use Rattle.pd_meaning_thin.specs.declared.joined.Run.{Run}
use Rattle.pd_meaning_thin.specs.Packed.{changed_at}
use Rattle.pd_meaning_thin.proofs.PackedLemmas.{single-changed, single-same}
use Rattle.pd_meaning_thin.proofs.packing.unpack_single.Goals as goal

pub returns-then-first-eq1 : goal.returns-then-first-eq1
returns-then-first-eq1 c =
    let s = c.args.bytes.now in
    single-same c.args.before c.args.first (drop c.args.at s) c.if-first-eq1.true
    ∙ ap (λ (run : Run). Some (run, drop c.args.at s)) (sym c.run_behind.ensures)

pub returns-in_err-change : goal.returns-in_err-change
returns-in_err-change c =
    rw c.from_residual.ensures
    (single-changed c.args.before c.args.first (drop c.args.at c.args.bytes.now) c.if-first-eq1.false
    ∙ ap (changed_at c.args.before _) c.in_err-change.ensures)

pub returns : goal.returns
returns c =
    let s = c.args.bytes.now in
    single-changed c.args.before c.args.first (drop c.args.at s) c.if-first-eq1.false
    ∙ ap (changed_at c.args.before _) c.in_ok-change.ensures
    ∙ ap (λ (run : Run). Some (run, drop c.in_ok-change.behind s)) (sym c.run_behind-2.ensures)
