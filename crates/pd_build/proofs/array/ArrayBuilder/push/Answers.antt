use Rattle.std.proofs.Common.{◌≡◌, ◌+◌, ◌-◌, ◌∷◌, ◌++◌, ℕ, List, [], length, refl, ◌∙◌, ap, arith, subst, ◌⊎◌, inl, inr, ⊎_elim}
use Rattle.pd_kinds.specs.Array.{array_block, max_words}
use Rattle.pd_array.specs.Word.{size_of}
use Rattle.pd_draft.specs.Closed.{Wrote}
use Rattle.pd_draft.specs.DraftState.{draft_state}
use Rattle.pd_build.proofs.TreeLemmas.{on_ok}
use Rattle.pd_build.proofs.ArrayLemmas.{push_none, push_end, array_some}
use Rattle.pd_build.proofs.array.ArrayBuilder.push.Goals as goal

pub returns-clause-pushes : goal.returns-clause-pushes
returns-clause-pushes g c =
    let size = size_of c.self.inside.word in
    let more = rw (← c.self.view_is) at c.requires.more in
    let count : c.self.inside.begun.len ≡ length c.self.inside.begun.items = c.self.inside.begun.ok.0 in
    let len = c.in_ok-push_word.ensures.len in
    let ends : (length c.self.inside.begun.items + 1 ≡ max_words size) ⊎ (c.self.inside.left - 1 ≡ 0) =
    ⊎_elim (λ full. inl (omega (arith, c.len.ensures, c.max_words.ensures, full))) (λ last. inr last) (c.if-not-is_full.ensures.0 refl) in
    let block : array_block size c.args.draft.now.next c.deref.result.now ∷ [] ≡ array_block size c.args.draft.now.next (c.self.inside.begun.items ++ c.args.value ∷ []) ∷ [] =
    ap (λ (words : List ℕ). array_block size c.args.draft.now.next words ∷ []) (c.deref.ensures.value ∙ c.in_ok-push_word.ensures.items) in
    rw (← c.self.view_is)
    (on_ok c.put_words-put.result
    (λ wrote. push_end size c.args.value (record { begun = c.self.inside.begun.items; left = c.self.inside.left; made = c.self.inside.made })
    (record { begun = c.clear.new.self.items; left = c.self.inside.left - 1; made = c.self.inside.made + 1 }) (draft_state c.args.draft.now) (draft_state c.put_words-put.new.draft)
    c.clear.ensures.items (omega arith) refl (omega (arith, c.self.invariant.0)) ends
    (subst (λ (blocks : List (List ℕ)). Wrote blocks (draft_state c.args.draft.now) (draft_state c.put_words-put.new.draft)) block wrote))
    c.put_words-put.ensures.wrote)

pub returns-then-not-is_full-clause-pushes : goal.returns-then-not-is_full-clause-pushes
returns-then-not-is_full-clause-pushes g c =
    rw (← c.self.view_is)
    (push_none (size_of c.self.inside.word) c.args.value (record { begun = c.self.inside.begun.items; left = c.self.inside.left; made = c.self.inside.made })
    (record { begun = c.push_word.new.words.items; left = c.self.inside.left - 1; made = c.self.inside.made }) (draft_state c.args.draft.now) c.requires.closed
    c.in_ok-push_word.ensures.items (let more = rw (← c.self.view_is) at c.requires.more in omega arith) refl)

pub put_words-put-requires-clause-room : goal.put_words-put-requires-clause-room
put_words-put-requires-clause-room g c =
    let more = rw (← c.self.view_is) at c.requires.more in
    let room = rw (← c.self.view_is) at c.requires.room in
    let least = array_some (size_of c.self.inside.word) (record { begun = c.self.inside.begun.items; left = c.self.inside.left; made = c.self.inside.made })
    (omega (arith, c.self.invariant.0)) (omega arith) in
    omega arith

pub overflow_add-self : goal.overflow_add-self
overflow_add-self g c =
    let more = rw (← c.self.view_is) at c.requires.more in
    let room = rw (← c.self.view_is) at c.requires.room in
    let stood = rw (← c.self.view_is) at c.requires.stood in
    let least = array_some (size_of c.self.inside.word) (record { begun = c.self.inside.begun.items; left = c.self.inside.left; made = c.self.inside.made })
    (omega (arith, c.self.invariant.0)) (omega arith) in
    omega (arith, c.blocks-blocks.ensures, c.blocks-blocks.type_inv)
