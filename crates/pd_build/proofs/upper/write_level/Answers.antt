use Rattle.std.proofs.Common.{◌≡◌, ◌+◌, ◌-◌, ◌<◌, ℕ, List, length, take, drop, get_or, refl, sym, ◌∙◌, ap, arith, subst}
use Rattle.std.proofs.lemmas.List.{drop-set-lt, length-set, drop-drop}
use Rattle.pd_kinds.specs.Node.{Entry, inner_block}
use Rattle.pd_draft.specs.Closed.{Wrote}
use Rattle.pd_draft.specs.DraftState.{draft_state}
use Rattle.pd_laid.specs.Laid.{heads, blocks_from}
use Rattle.pd_grammar.specs.Need.{nodes_for}
use Rattle.pd_build.specs.Tree.{link_entries}
use Rattle.pd_build.proofs.UpperLemmas.{IsPart, half_start, half_next, length-links, part_ascends, heads_next, wrote_next, half_moved, all_parts_taken}
use Rattle.pd_build.proofs.RowLemmas.{wrote_nothing}
use Rattle.pd_build.proofs.upper.write_level.Goals as goal

pub loop-i-init : goal.loop-i-init
unfolding heads
loop-i-init g c =
    let count = length-links c.args.level.now in
    record {
      same_reference = refl;
      half = half_start c.args.nodes (link_entries c.args.level.now) (omega (arith, c.requires.some)) (omega (arith, c.requires.few));
      below = refl;
      heads_are = refl;
      wrote = wrote_nothing inner_block (draft_state c.args.draft.now) c.requires.closed;
      same_length = refl;
    }

pub returns-clause-heads_are : goal.returns-clause-heads_are
returns-clause-heads_are g c =
    let last : c.loop-i.i ≡ c.args.nodes = omega arith in
    let all = all_parts_taken c.args.nodes (link_entries c.args.level.now) in
    rw last at c.loop-i.invariant.heads_are ∙ ap (heads c.args.draft.now.next) all

pub returns-clause-wrote : goal.returns-clause-wrote
returns-clause-wrote g c =
    let last : c.loop-i.i ≡ c.args.nodes = omega arith in
    let all = all_parts_taken c.args.nodes (link_entries c.args.level.now) in
    subst (λ (nodes : List (List Entry)). Wrote (blocks_from inner_block c.args.draft.now.next nodes) (draft_state c.args.draft.now) (draft_state c.loop-i.draft)) all
    (rw last at c.loop-i.invariant.wrote)

pub write_node-requires-clause-room : goal.write_node-requires-clause-room
write_node-requires-clause-room g c =
    let at = half_moved c.args.nodes c.loop-i.i (link_entries c.args.level.now) (draft_state c.args.draft.now) (draft_state c.loop-i.draft) (omega arith) c.loop-i.invariant.wrote in
    let kept = c.loop-i.invariant.wrote.stays.kept.blocks in
    omega (arith, c.requires.room)

pub write_node-requires-clause-ascend : goal.write_node-requires-clause-ascend
write_node-requires-clause-ascend g c =
    part_ascends c.loop-i.used _ c.args.level.now c.loop-i.level c.loop-i.invariant.below c.requires.ascend

pub loop-i-preserved : goal.loop-i-preserved
loop-i-preserved g c =
    let l = c.loop-i in
    let inv = l.invariant in
    let was = c.args.level.now in
    let size = c.parts-size.result in
    let place = c.in_ok-place.place in
    let more : l.i < c.args.nodes = omega arith in
    let count = length-links was in
    let size_is : size ≡ nodes_for (c.args.nodes - l.i) (length (link_entries was) - l.used) =
    c.parts-size.ensures ∙ ap (λ (n : ℕ). nodes_for (c.args.nodes - l.i) (n - l.used)) (inv.same_length ∙ sym count) in
    let part : IsPart c.args.nodes (link_entries was) l.i l.used size = half_next size inv.half more size_is in
    let cut : l.used + size - l.used ≡ size = omega arith in
    let at : l.draft.next ≡ c.args.draft.now.next + l.i =
    half_moved c.args.nodes l.i (link_entries was) (draft_state c.args.draft.now) (draft_state l.draft) (omega arith) inv.wrote in
    let below : drop (l.used + size) l.level ≡ drop (l.used + size) was =
    sym (drop-drop size l.used l.level) ∙ (ap (drop size) inv.below ∙ drop-drop size l.used was) in
    let head : ℕ × ℕ = ((get_or l.level l.used (0, 0)).0, place) in
    let block = inner_block l.draft.next (link_entries (take (l.used + size - l.used) (drop l.used l.level))) in
    record {
      same_reference = c.write_node.ensures.same_reference ∙ inv.same_reference;
      half = part.next;
      below = drop-set-lt (l.used + size) l.level l.i head (omega (arith, part.some, inv.half.behind)) ∙ below;
      heads_are = heads_next c.args.nodes l.i l.used size place (get_or l.level l.used (0, 0)).0 c.args.draft.now.next was l.level (0, 0)
          part more inv.half inv.same_length inv.below inv.heads_are (c.in_ok-place.ensures.place ∙ at) refl;
      wrote = wrote_next c.args.nodes l.i l.used size place block was l.level (draft_state c.args.draft.now) (draft_state l.draft) (draft_state c.write_node.new.draft)
          part inv.below inv.wrote
          (rw c.in_ok-place.ensures.place (ap (λ (n : ℕ). inner_block l.draft.next (link_entries (take n (drop l.used l.level)))) cut))
          c.in_ok-place.ensures.place c.in_ok-place.ensures.wrote;
      same_length = length-set l.level l.i head ∙ inv.same_length;
    }
