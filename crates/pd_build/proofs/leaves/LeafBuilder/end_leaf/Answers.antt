use Rattle.std.proofs.Common.{◌≡◌, ◌≤◌, ◌+◌, ◌-◌, ◌∷◌, [], ℕ, zero, suc, List, refl, sym, subst, ◌∙◌, ap, arith}
use Rattle.pd_kinds.specs.Node.{Entry, key_at, leaf_block, max_entries}
use Rattle.pd_draft.specs.Closed.{Wrote}
use Rattle.pd_draft.specs.DraftState.{draft_state}
use Rattle.pd_laid.specs.Laid.{first_key}
use Rattle.pd_grammar.specs.Need.{nodes_for}
use Rattle.pd_node.specs.Items.{HasMore, IsBegun, entries_in}
use Rattle.pd_build.specs.Tree.{LeavesLeft, AreCounts, low_of, low_after}
use Rattle.pd_build.specs.Tree.{even_sizes}
use Rattle.pd_node.proofs.Begun.{length-entries_in}
use Rattle.pd_build.proofs.TakesLemmas.{counts_end, IsEndOf, end_of}
use Rattle.pd_build.proofs.TakesLemmas.{takes_one, some_left, first_is}
use Rattle.pd_build.proofs.leaves.LeafBuilder.end_leaf.Goals.{After-self, After-put_entry}
use Rattle.pd_build.proofs.leaves.LeafBuilder.end_leaf.Goals as goal
use Rattle.pd_build.proofs.leaves.LeafBuilder.end_leaf.Given as given

-- the key in the first place is that of the first entry
least_in : (size : ℕ) (block : List ℕ) (n : ℕ) → 1 ≤ n → key_at block 0 ≡ first_key (entries_in size block n)
least_in size block zero some = absurd (omega arith)
least_in size block (suc n) some = refl

some_leaf : (g : given.Over) (c : After-self g) → 1 ≤ c.self.inside.leaves
some_leaf g c = some_left c.self.inside.leaves c.self.inside.items c.args.self.now (ap (λ (b : LeavesLeft). b.sizes) (sym c.self.view_is)) c.requires.more

end : (g : given.Over) (c : After-self g) → IsEndOf (max_entries g.V.Value.SIZE) c.self.inside.leaves c.self.inside.items c.self.inside.size
end g c = end_of c.self.invariant.0 (some_leaf g c)

is_last : (g : given.Over) (c : After-self g) → c.self.inside.count + 1 ≡ c.self.inside.size
is_last g c =
    let count = length-entries_in g.V.Value.SIZE c.self.inside.block.value.0 c.self.inside.count in
    let sized = first_is c.self.invariant.0 (some_leaf g c) in
    let last = rw (← c.self.view_is) at c.requires.last in
    omega arith

more : (g : given.Over) (c : After-put_entry g)
    → HasMore g.V.Value.SIZE c.self.inside.block.value.0 c.self.inside.count (record { key = c.args.key; value = g.V.Value.code c.args.value }) c.put_entry.new.block.0
more g c = let lent = c.deref_mut.ensures.value in rw lent at c.put_entry.ensures

next_counts : (g : given.Over) (c : After-self g) (size : ℕ)
    → (1 ≤ c.self.inside.leaves - 1 → size ≡ nodes_for (c.self.inside.leaves - 1) (c.self.inside.items - c.self.inside.size))
    → AreCounts (max_entries g.V.Value.SIZE) (c.self.inside.leaves - 1) (c.self.inside.items - c.self.inside.size) size 0
next_counts g c size is = counts_end c.self.invariant.0 (some_leaf g c) size is

pub put_entry-requires-clause-within : goal.put_entry-requires-clause-within
put_entry-requires-clause-within g c =
    let b = (goal.at.put_entry-requires-clause-within g c).After-self in
    let last = is_last g b in
    omega (arith, (end g b).room)

pub put_entry-requires-clause-begun : goal.put_entry-requires-clause-begun
put_entry-requires-clause-begun g c = let lent = c.deref_mut.ensures.value in rw lent c.self.invariant.1

pub seal_leaf-requires-clause-begun : goal.seal_leaf-requires-clause-begun
seal_leaf-requires-clause-begun g c =
    let lent = c.deref_mut-2.ensures.value in
    rw lent
    (subst (λ (n : ℕ). IsBegun g.V.Value.SIZE c.put_entry.new.block.0 n) (is_last g (goal.at.seal_leaf-requires-clause-begun g c).After-self)
    (more g (goal.at.seal_leaf-requires-clause-begun g c).After-put_entry).begun)

pub seal_leaf-requires-clause-room : goal.seal_leaf-requires-clause-room
seal_leaf-requires-clause-room g c = (end g (goal.at.seal_leaf-requires-clause-room g c).After-self).room

pub overflow_sub-self : goal.overflow_sub-self
overflow_sub-self g c = some_leaf g (goal.at.overflow_sub-self g c).After-self

pub overflow_sub-self-2 : goal.overflow_sub-self-2
overflow_sub-self-2 g c = (end g (goal.at.overflow_sub-self-2 g c).After-self).within

pub invariant_of-self : goal.invariant_of-self
invariant_of-self g c = (
  next_counts g (goal.at.invariant_of-self g c).After-self c.first_of-self-inside.result c.first_of-self-inside.ensures,
  c.new_leaf.ensures.begun g.V.Value.SIZE,
)

pub invariant_of-self-2 : goal.invariant_of-self-2
invariant_of-self-2 g c = (
  next_counts g (goal.at.invariant_of-self-2 g c).After-self c.first_of-self-inside.result c.first_of-self-inside.ensures,
  c.new_leaf.ensures.begun g.V.Value.SIZE,
)

pub returns-clause-takes : goal.returns-clause-takes
returns-clause-takes g c =
    let b = (goal.at.returns-clause-takes g c).After-self in
    let m = more g (goal.at.returns-clause-takes g c).After-put_entry in
    let size = g.V.Value.SIZE in
    let e : Entry = record { key = c.args.key; value = g.V.Value.code c.args.value } in
    let before = entries_in size c.self.inside.block.value.0 c.self.inside.count in
    let low = low_of c.self.inside.last in
    let place = c.next-place.ensures in
    let lent = c.deref_mut-2.ensures.value in
    let given = c.deref.ensures in
    let shown = c.deref-2.ensures in
    let leaf =
    rw (lent, place) at c.seal_leaf.ensures
    ∙ (ap (λ (n : ℕ). leaf_block size c.args.draft.now.next (entries_in size c.put_entry.new.block.0 n)) (sym (is_last g b))
    ∙ ap (leaf_block size c.args.draft.now.next) m.entries) in
    rw (← c.self.view_is)
    (takes_one size e (c.first_key-least.result, c.next-place.result)
    (record { sizes = even_sizes c.self.inside.leaves c.self.inside.items; begun = before; low = low_after low before })
    (record { sizes = even_sizes (c.self.inside.leaves - 1) (c.self.inside.items - c.self.inside.size); begun = []; low = c.args.key + 1 })
    (draft_state c.args.draft.now) (draft_state c.put_block-written.new.draft)
    c.self.invariant.0 (some_leaf g b) refl (length-entries_in size c.self.inside.block.value.0 c.self.inside.count) (is_last g b) refl refl refl
    (subst (λ (block : List ℕ). Wrote (block ∷ []) (draft_state c.args.draft.now) (draft_state c.put_block-written.new.draft)) leaf (rw shown at c.in_ok-written.ensures.wrote))
    ((rw given at c.first_key-least.ensures) ∙ (least_in size c.put_entry.new.block.0 (c.self.inside.count + 1) (omega arith) ∙ ap first_key m.entries)) c.next-place.ensures)
