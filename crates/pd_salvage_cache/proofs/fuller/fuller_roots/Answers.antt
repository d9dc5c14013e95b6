use Rattle.std.proofs.Common.{◌≡◌, ℕ, List, Bool, IfSome, length, map, subst, ◌∙◌}
use Rattle.std.specs.List.{range_with_len}
use Rattle.std.proofs.lemmas.Result.{IfOk-weaker}
use Rattle.pd_tree.proofs.NextLemmas.{if_both}
use Rattle.pd_salvage_cache.specs.Fuller.{AreFirst, AreMarked, root_as, told_root}
use Rattle.pd_salvage_cache.proofs.OrderLemmas.{first_are}
use Rattle.pd_salvage_cache.proofs.fuller.fuller_roots.Goals as goal

pub returns-clause-roots : goal.returns-clause-roots
returns-clause-roots g c =
    let s = c.args.s.now in
    let nr = s.meta_map.blocks in
    let words : List ℕ = c.in_ok-words.words.items in
    let children : List Bool = c.in_ok-children.children.items in
    let choices = c.in_ok-choices.choices.items in
    let number = c.in_ok-words.ensures.number in
    let seen = c.in_ok-words.ensures.kept.held in
    let all = c.in_ok-children.ensures.kept.held ∙ seen in
    let held = (g.D.Device.state c.args.dev.now).held in
    let marked = subst (λ o. IfSome o (λ image. AreMarked image words nr children)) seen (rw (c.deref.ensures.value, number) at c.in_ok-children.ensures.marks) in
    let long : length children ≡ nr = (rw c.deref.ensures.value at c.in_ok-children.ensures.number) ∙ number in
    let first : (image : List (List ℕ)) → AreFirst s image words children (range_with_len 0 nr) choices =
    λ image. rw (c.deref-2.ensures.value, c.deref-3.ensures.value, number) at (c.in_ok-choices.ensures s image) in
    IfOk-weaker c.with_entries.result _ _
    (λ roots told.
    if_both held
    (λ image held_is same both. same ∙ both)
    (subst (λ o. IfSome o (λ image. map root_as roots.items ≡ map (told_root s image) choices)) all (rw c.deref-4.ensures.value at told))
    (if_both held (λ image held_is table marks. first_are s image words children table marks long choices (first image)) c.in_ok-words.ensures.words marked))
    c.with_entries.ensures.roots
