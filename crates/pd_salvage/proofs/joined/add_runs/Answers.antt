use Rattle.std.proofs.Common.{◌++◌, ◌∷◌, [], List, sym, ap, ◌∙◌, append_assoc, arith}
use Rattle.pd_meaning_thin.specs.declared.joined.Run.{Run}
use Rattle.pd_meaning_thin.specs.Packed.{runs_from}
use Rattle.pd_salvage.proofs.joined.add_runs.Goals as goal

pub loop-run-smaller : goal.loop-run-smaller
loop-run-smaller c = rw c.in-Some.ensures (omega arith)

pub loop-run-preserved : goal.loop-run-preserved
loop-run-preserved c =
    let l = c.loop-run in
    let left = runs_from c.args.more.now c.next.new.place in
    ap (λ (runs : List Run). runs ++ left) c.in_ok-push.ensures.pushed
    ∙ append_assoc l.runs (c.in-Some.run' ∷ []) left
    ∙ ap (λ (more : List Run). l.runs ++ more) (sym c.in-Some.ensures)
    ∙ l.invariant
