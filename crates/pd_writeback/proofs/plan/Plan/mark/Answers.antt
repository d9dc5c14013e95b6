use Rattle.std.proofs.Common.{◌≡◌, ℕ, List, length, true, false, refl, sym, ap, ◌∙◌, subst, arith}
use Rattle.std.proofs.lemmas.Bool.{eqb-true, eqb-false, true≢false}
use Rattle.std.proofs.lemmas.Result.{on_ok_weaker}
use Rattle.std.specs.Option.{is_some}
use Rattle.pd_kinds.specs.Crash.{HoldsSynced}
use Rattle.pd_kinds.specs.Image.{HasBytes, HasWholeBlocks}
use Rattle.pd_kinds.specs.Meaning.{cache_meaning}
use Rattle.pd_kinds.proofs.CrashLemmas.{and_then, still_tells}
use Rattle.pd_image.proofs.CrashLemmas.{at_some}
use Rattle.pd_answers.specs.Writebacks.{hot_blocks, settled}
use Rattle.pd_writeback.specs.Copied.{are_settled}
use Rattle.pd_writeback.proofs.MarkedLemmas.{still_synced, unwritten_marking}
use Rattle.pd_writeback.proofs.PlanLemmas.{cold_blocks, cold_settled, marked_plan, no_cached, unmarked_plan}
use Rattle.pd_writeback.proofs.plan.Plan.mark.Goals as goal

pub returns-then-is_empty-clause-done : goal.returns-then-is_empty-clause-done
returns-then-is_empty-clause-done g c image of synced =
    let cold = cold_blocks (hot_blocks (cache_meaning image)) c.args.self.now.hot.items of.hot (let empty = eqb-true _ 0 (sym c.is_empty.ensures ∙ c.if-is_empty.true) in omega (arith, c.args.self.now.hot.ok.0)) in
    subst (λ (i : List (List ℕ)). HoldsSynced i (g.A.Device.state c.args.meta.now)) (sym (cold_settled image cold)) synced

pub returns-then-is_empty-clause-crash : goal.returns-then-is_empty-clause-crash
returns-then-is_empty-clause-crash g c image of synced = unwritten_marking image (settled image) refl refl synced

pub returns-in-Err-clause-crash : goal.returns-in-Err-clause-crash
returns-in-Err-clause-crash g c image of synced = unwritten_marking image (settled image) c.in-Err.ensures.kept.held c.in-Err.ensures.kept.history synced

pub returns-then-is_marked-clause-done : goal.returns-then-is_marked-clause-done
returns-then-is_marked-clause-done g c image of synced =
    let plan = c.args.self.now in
    let kept = c.in-Ok.ensures.kept in
    let told = at_some (g.A.Device.state c.args.meta.now).held (λ (i : List (List ℕ)). c.in-Ok.is_marked ≡ are_settled plan.version i c.as_slice.result.now) image synced.held c.in-Ok.ensures.settled in
    subst (λ (i : List (List ℕ)). HoldsSynced i (g.A.Device.state c.are_settled.new.meta))
    (sym (marked_plan image plan c.as_slice.result.now of c.as_slice.ensures.value (sym told ∙ c.if-is_marked.true))) (still_synced image kept.held kept.history synced)

pub returns-then-is_marked-clause-crash : goal.returns-then-is_marked-clause-crash
returns-then-is_marked-clause-crash g c image of synced = unwritten_marking image (settled image) c.in-Ok.ensures.kept.held c.in-Ok.ensures.kept.history synced

pub write_marks-requires-clause-hot : goal.write_marks-requires-clause-hot
write_marks-requires-clause-hot g c none = eqb-false _ 0 (sym c.is_empty.ensures ∙ c.if-is_empty.false) (omega (arith, none, c.args.self.now.hot.ok.0))

pub returns-else-is_marked-clause-done : goal.returns-else-is_marked-clause-done
returns-else-is_marked-clause-done g c =
    let kept = c.in-Ok.ensures.kept in
    on_ok_weaker c.write_marks.result (λ done image of synced. done image of (still_synced image kept.held kept.history synced)) c.write_marks.ensures.done

pub returns-else-is_marked-clause-crash : goal.returns-else-is_marked-clause-crash
returns-else-is_marked-clause-crash g c image of synced =
    let kept = c.in-Ok.ensures.kept in
    and_then (unwritten_marking image (settled image) kept.held kept.history synced) (c.write_marks.ensures.crash image of (still_synced image kept.held kept.history synced))

pub returns-else-is_marked-clause-told : goal.returns-else-is_marked-clause-told
returns-else-is_marked-clause-told g c =
    still_tells (g.A.Device.state c.args.meta.now) (g.A.Device.state c.write_marks.new.meta) (c.write_marks.ensures.told ∙ ap is_some c.in-Ok.ensures.kept.held)

pub returns-else-is_marked-clause-cold : goal.returns-else-is_marked-clause-cold
returns-else-is_marked-clause-cold g c none =
    absurd (eqb-false _ 0 (sym c.is_empty.ensures ∙ c.if-is_empty.false) (no_cached c.args.self.now.hot.items c.args.self.now.hot.ok.0 none))

pub returns-else-is_marked-clause-unchanged : goal.returns-else-is_marked-clause-unchanged
returns-else-is_marked-clause-unchanged g c image of held same =
    let plan = c.args.self.now in
    let old = g.A.Device.state c.args.meta.now in
    let told = at_some old.held (λ (i : List (List ℕ)). c.in-Ok.is_marked ≡ are_settled plan.version i c.as_slice.result.now) image held c.in-Ok.ensures.settled in
    let number = at_some old.held (λ (i : List (List ℕ)). length i ≡ old.blocks) image held (g.met.A.Device.measured c.args.meta.now) in
    let all = unmarked_plan image plan c.as_slice.result.now of c.as_slice.ensures.value (number ∙ c.requires.blocks)
    (at_some old.held HasBytes image held (g.met.A.Device.bytes c.args.meta.now)) (at_some old.held HasWholeBlocks image held (g.met.A.Device.whole c.args.meta.now))
    (λ none. eqb-false _ 0 (sym c.is_empty.ensures ∙ c.if-is_empty.false) (omega (arith, none, plan.hot.ok.0))) same in
    absurd (true≢false (sym all ∙ (sym told ∙ c.if-is_marked.false)))
