use Rattle.std.proofs.Common.{◌≡◌, ◌∷◌, ℕ, List, [], length, refl, sym, ◌∙◌, ap, arith, subst}
use Rattle.pd_kinds.specs.Node.{Entry, is_ascending, leaf_block}
use Rattle.pd_kinds.proofs.KindLemmas.{asc_left}
use Rattle.pd_kinds.specs.Trees.{keys_of}
use Rattle.pd_draft.specs.Closed.{Wrote}
use Rattle.pd_draft.specs.DraftState.{draft_state}
use Rattle.std.proofs.lemmas.List.{map-append}
use Rattle.pd_build.specs.Tree.{TreeLeft, blocks_left, number_left}
use Rattle.pd_build.proofs.TreeLemmas.{none_is, some_is, empty_blocks, empty_root, empty_number, done_blocks, done_root, done_number, on_ok, on_ok_value}
use Rattle.pd_build.proofs.build.Builder.finish.Goals as goal

pub write_leaf-block-requires-clause-ascend : goal.write_leaf-block-requires-clause-ascend
unfolding is_ascending
write_leaf-block-requires-clause-ascend g c = refl

pub put_block-requires-clause-room : goal.put_block-requires-clause-room
put_block-requires-clause-room g c =
    let t : TreeLeft = record { leaves = c.self.inside.leaves; heads = c.self.inside.upper } in
    let one = empty_number t (none_is (length c.self.inside.upper) (sym c.if-is_empty.ensures)) (c.is_done-done.ensures.sizes (rw (← c.self.view_is) at c.requires.done)) in
    let is : number_left t ≡ number_left c.args.self = ap number_left c.self.view_is in
    omega (arith, c.requires.room)

pub returns-then-is_empty-clause-wrote : goal.returns-then-is_empty-clause-wrote
returns-then-is_empty-clause-wrote g c =
    let t : TreeLeft = record { leaves = c.self.inside.leaves; heads = c.self.inside.upper } in
    let size = g.V.Value.SIZE in
    let place = c.args.draft.now.next in
    let is : blocks_left size place t [] ≡ leaf_block size place [] ∷ [] =
    empty_blocks size place t (none_is (length c.self.inside.upper) (sym c.if-is_empty.ensures)) (c.is_done-done.ensures.sizes (rw (← c.self.view_is) at c.requires.done)) in
    let block : c.write_leaf-block.result.0 ∷ [] ≡ leaf_block size place [] ∷ [] =
    ap (λ (b : List ℕ). b ∷ []) (c.write_leaf-block.ensures.block ∙ ap (λ (p : ℕ). leaf_block size p []) c.next-place.ensures) in
    rw (← c.self.view_is) (subst (λ (blocks : List (List ℕ)). Wrote blocks (draft_state c.args.draft.now) (draft_state c.put_block.new.draft)) (block ∙ sym is) c.in_ok-put_block.ensures.wrote)

pub returns-then-is_empty-clause-root : goal.returns-then-is_empty-clause-root
returns-then-is_empty-clause-root g c =
    let t : TreeLeft = record { leaves = c.self.inside.leaves; heads = c.self.inside.upper } in
    rw (← c.self.view_is) (c.next-place.ensures
    ∙ sym (empty_root c.args.draft.now.next t (none_is (length c.self.inside.upper) (sym c.if-is_empty.ensures)) (c.is_done-done.ensures.sizes (rw (← c.self.view_is) at c.requires.done))))

pub finish-requires-clause-ascend : goal.finish-requires-clause-ascend
finish-requires-clause-ascend g c =
    asc_left (keys_of c.self.inside.upper) (keys_of c.self.inside.leaves.begun)
    (rw (map-append (λ (e : Entry). e.key) c.self.inside.upper c.self.inside.leaves.begun) at c.self.invariant.ascending)

pub finish-requires-clause-room : goal.finish-requires-clause-room
finish-requires-clause-room g c =
    let t : TreeLeft = record { leaves = c.self.inside.leaves; heads = c.self.inside.upper } in
    let number = done_number t (some_is (length c.self.inside.upper) (sym c.if-is_empty.ensures)) (c.is_done-done.ensures.sizes (rw (← c.self.view_is) at c.requires.done)) in
    let is : number_left t ≡ number_left c.args.self = ap number_left c.self.view_is in
    omega (arith, c.requires.room)

pub returns-clause-wrote : goal.returns-clause-wrote
returns-clause-wrote g c =
    let t : TreeLeft = record { leaves = c.self.inside.leaves; heads = c.self.inside.upper } in
    let is = done_blocks g.V.Value.SIZE c.args.draft.now.next t (some_is (length c.self.inside.upper) (sym c.if-is_empty.ensures)) (c.is_done-done.ensures.sizes (rw (← c.self.view_is) at c.requires.done)) in
    rw (← c.self.view_is)
    (on_ok c.finish.result (λ wrote. subst (λ (blocks : List (List ℕ)). Wrote blocks (draft_state c.args.draft.now) (draft_state c.finish.new.draft)) (sym is) wrote) c.finish.ensures.wrote)

pub returns-clause-root : goal.returns-clause-root
returns-clause-root g c =
    let t : TreeLeft = record { leaves = c.self.inside.leaves; heads = c.self.inside.upper } in
    let is = done_root c.args.draft.now.next t (some_is (length c.self.inside.upper) (sym c.if-is_empty.ensures)) (c.is_done-done.ensures.sizes (rw (← c.self.view_is) at c.requires.done)) in
    rw (← c.self.view_is) (on_ok_value c.finish.result (λ root e. e ∙ sym is) c.finish.ensures.root)
