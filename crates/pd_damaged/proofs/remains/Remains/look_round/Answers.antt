use Rattle.std.proofs.Common.{◌≤◌, IfSome, subst, ◌∙◌, arith}
use Rattle.std.proofs.lemmas.Bool.{or_parts}
use Rattle.std.proofs.lemmas.Option.{IfSome_then}
use Rattle.pd_image.proofs.CrashLemmas.{only_reads_both}
use Rattle.pd_damaged.specs.Known.{AreRight, IsLookedAt}
use Rattle.pd_damaged.proofs.RoundLemmas.{all_looked_at, looked_more, right_more, still_knows_all}
use Rattle.pd_damaged.proofs.remains.Remains.look_round.Goals as goal

pub loop-b-preserved : goal.loop-b-preserved
loop-b-preserved g c =
    let held = (g.D.Device.state c.args.dev.now).held in
    let start = c.args.self.now in
    let old = c.loop-b.self in
    let new = c.look_again.new.self in
    let inv = c.loop-b.invariant in
    let done = c.in_ok-found.ensures in
    record {
      right =
          right_more held start old new inv.right
          (subst (λ o. IfSome o (λ image. AreRight image old → AreRight image new)) inv.kept.held done.right);
      looks =
          looked_more held start old new c.loop-b.b inv.number inv.keeps done.keeps inv.right inv.looks
          (subst (λ o. IfSome o (λ image. AreRight image old → IsLookedAt image old new c.loop-b.b)) inv.kept.held done.looks);
      keeps = λ b known. done.keeps b (inv.keeps b known);
      still = λ none. let parts = or_parts c.loop-b.found c.in_ok-found.field-0 none in done.still parts.1 ∙ inv.still parts.0;
      number = done.number ∙ inv.number;
      pool = done.pool ∙ inv.pool;
      kept = only_reads_both inv.kept done.kept;
      faults = done.faults ∙ inv.faults;
    }

pub returns-clause-all : goal.returns-clause-all
returns-clause-all g c =
    let start = c.args.self.now in
    let new = c.loop-b.self in
    let inv = c.loop-b.invariant in
    let all : new.table.nr ≤ c.loop-b.b = omega (arith, inv.number, c.loop-b-test.false) in
    IfSome_then (g.D.Device.state c.args.dev.now).held inv.looks (λ image looks right still.
    still_knows_all image start new (inv.still still) (λ height few. all_looked_at image start new c.loop-b.b inv.number all (looks right) height few))
