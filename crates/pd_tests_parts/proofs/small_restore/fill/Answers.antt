use Rattle.std.proofs.Common.{rules, ◌≡◌, List, ℕ, Some, map, take, sym, ◌∙◌, ap, subst, arith}
use Rattle.std.specs.Prelude.{IfSome}
use Rattle.std.proofs.lemmas.List.{take_all}
use Rattle.pd_kinds.specs.declared.block.Block.{Block}
use Rattle.pd_kinds.specs.Crash.{LeavesOnly, IsNoneOrNew}
use Rattle.pd_image.proofs.CrashLemmas.{at_some}
use Rattle.pd_draft.specs.Closed.{StaysClosed}
use Rattle.pd_draft.specs.Closed.{placed, DraftState, Wrote}
use Rattle.pd_draft.proofs.DraftLemmas.{closed_then}
use Rattle.pd_draft.proofs.DraftLemmas.{wrote_none, wrote_then}
use Rattle.pd_tests_parts.specs.Restored.{filled}
use Rattle.pd_tests_parts.proofs.RestoreLemmas.{none_yet, then_super, bytes_more, done_since}
use Rattle.pd_tests_parts.proofs.small_restore.fill.Goals as goal

pub loop-block-preserved : goal.loop-block-preserved
loop-block-preserved g c =
    let state = g.D.Device.state in
    let start : DraftState = record { device = state c.args.dev.now; place = 1 } in
    let before : DraftState = record { device = state c.loop-block.draft.dev.now; place = c.loop-block.draft.next } in
    let after : DraftState = record { device = state c.put.new.self.dev.now; place = c.put.new.self.next } in
    record {
      same_reference = search rules;
      wrote = subst (λ (blocks : List (List ℕ)). Wrote blocks start after) (sym (bytes_more c.args.blocks.now c.loop-block.block-index _ c.loop-block-test.true))
          (wrote_then {a = start} {b = before} {c = after} c.loop-block.invariant.wrote c.in_ok-put.ensures.wrote);
    }

pub loop-block-init : goal.loop-block-init
loop-block-init g c = record {
  same_reference = search rules;
  wrote =
      let none = wrote_none (record { device = g.D.Device.state c.args.dev.now; place = 1 }) c.requires.closed in
      let same = c.on_closed-draft.ensures.same in
      let next = c.on_closed-draft.ensures.next in
      search rules;
}

pub returns-in_err-put-clause-crash : goal.returns-in_err-put-clause-crash
returns-in_err-put-clause-crash g c image held =
    let state = g.D.Device.state in
    let made = filled image c.args.blocks.now c.args.super_block.now in
    let so_far : StaysClosed (state c.args.dev.now) (state c.put.new.self.dev.now) = closed_then c.loop-block.invariant.wrote.stays c.put.ensures.crash in
    let leaves : LeavesOnly (IsNoneOrNew made) (state c.args.dev.now) (state c.put.new.self.dev.now) = none_yet made so_far in
    search rules

pub returns-clause-crash : goal.returns-clause-crash
returns-clause-crash g c image held =
    let state = g.D.Device.state in
    let blocks = c.args.blocks.now in
    let bytes = λ (block : Block). block.0 in
    let all : take c.loop-block.block-index blocks ≡ blocks = take_all c.loop-block.block-index blocks (omega arith) in
    let wrote = c.loop-block.invariant.wrote in
    let holds : (state c.loop-block.draft.dev.now).held ≡ Some (placed image 1 (map bytes blocks)) =
    at_some (state c.args.dev.now).held (λ (i : List (List ℕ)). (state c.loop-block.draft.dev.now).held ≡ Some (placed i 1 (map bytes (take c.loop-block.block-index blocks)))) image held wrote.content
    ∙ ap (λ (bs : List Block). Some (placed image 1 (map bytes bs))) all in
    let leaves : LeavesOnly (IsNoneOrNew (filled image blocks c.args.super_block.now)) (state c.args.dev.now) (state c.commit.new.self.0) =
    then_super (filled image blocks c.args.super_block.now) wrote.stays (c.commit.ensures.crash (placed image 1 (map bytes blocks)) holds) in
    search rules

pub returns-clause-done : goal.returns-clause-done
returns-clause-done g c =
    let state = g.D.Device.state in
    let blocks = c.args.blocks.now in
    let bytes = λ (block : Block). block.0 in
    let all : take c.loop-block.block-index blocks ≡ blocks = take_all c.loop-block.block-index blocks (omega arith) in
    let content = subst (λ (bs : List Block). IfSome (state c.args.dev.now).held (λ i. (state c.loop-block.draft.dev.now).held ≡ Some (placed i 1 (map bytes bs)))) all c.loop-block.invariant.wrote.content in
    let done = done_since c.commit.result (state c.args.dev.now).held (state c.loop-block.draft.dev.now).held (map bytes blocks) c.args.super_block.now.0 (state c.commit.new.self.0) content c.commit.ensures.done in
    search rules
