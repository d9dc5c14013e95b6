use Rattle.std.proofs.Common.{◌∙◌, ◌≤◌, ℕ, List, sym, arith, subst}
use Rattle.pd_kinds.specs.Array.{max_words}
use Rattle.pd_array.specs.Word.{size_of}
use Rattle.pd_draft.specs.Closed.{Wrote}
use Rattle.pd_draft.specs.DraftState.{draft_state}
use Rattle.pd_build.proofs.TreeLemmas.{on_ok, on_ok_value}
use Rattle.pd_build.proofs.ArrayLemmas.{array_done, root_done, done_number}
use Rattle.pd_build.proofs.array.ArrayBuilder.finish.Goals as goal

pub write_index-requires-clause-room : goal.write_index-requires-clause-room
write_index-requires-clause-room g c =
    let done = rw (← c.self.view_is) at c.requires.done in
    let room = rw (← c.self.view_is) at c.requires.room in
    let some : 1 ≤ max_words (size_of c.self.inside.word) = omega (arith, c.self.invariant.0) in
    let is = done_number (size_of c.self.inside.word) (record { begun = c.self.inside.begun.items; left = c.self.inside.left; made = c.self.inside.made }) some (c.self.invariant.1 done) done in
    omega arith

pub returns-clause-wrote : goal.returns-clause-wrote
returns-clause-wrote g c =
    let done = rw (← c.self.view_is) at c.requires.done in
    let some : 1 ≤ max_words (size_of c.self.inside.word) = omega (arith, c.self.invariant.0) in
    let is = array_done (size_of c.self.inside.word) c.args.draft.now.next (record { begun = c.self.inside.begun.items; left = c.self.inside.left; made = c.self.inside.made }) some (c.self.invariant.1 done) in
    rw (← c.self.view_is)
    (on_ok c.write_index.result (λ wrote. subst (λ (blocks : List (List ℕ)). Wrote blocks (draft_state c.args.draft.now) (draft_state c.write_index.new.draft)) (sym is) wrote) c.write_index.ensures.wrote)

pub returns-clause-root : goal.returns-clause-root
returns-clause-root g c =
    let done = rw (← c.self.view_is) at c.requires.done in
    let some : 1 ≤ max_words (size_of c.self.inside.word) = omega (arith, c.self.invariant.0) in
    let is = root_done (size_of c.self.inside.word) c.args.draft.now.next (record { begun = c.self.inside.begun.items; left = c.self.inside.left; made = c.self.inside.made }) some (c.self.invariant.1 done) in
    rw (← c.self.view_is) (on_ok_value c.write_index.result (λ root e. e ∙ sym is) c.write_index.ensures.root)
