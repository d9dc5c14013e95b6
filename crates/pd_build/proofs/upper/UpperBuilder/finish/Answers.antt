use Rattle.std.proofs.Common.{◌≡◌, ◌≤◌, ◌<◌, ◌^◌, List, length, take, drop, ◌++◌, refl, sym, ◌∙◌, ap, arith, subst}
use Rattle.pd_kinds.specs.Node.{Entry, inner_block}
use Rattle.pd_draft.specs.Closed.{Wrote}
use Rattle.pd_draft.specs.DraftState.{draft_state}
use Rattle.pd_laid.specs.Laid.{even_parts, heads, blocks_from}
use Rattle.pd_grammar.specs.Need.{nodes_for, need_above}
use Rattle.pd_build.specs.Tree.{link_entries}
use Rattle.pd_build.proofs.UpperLemmas.{length-links, keys-links, rising_start, rising_next, rising_room, rising_end, lent_whole}
use Rattle.pd_build.proofs.upper.UpperBuilder.finish.Goals as goal

pub loop-level-init : goal.loop-level-init
loop-level-init g c =
    let all = link_entries c.self.inside.level.items in
    let count : length all ≡ length c.args.self = ap length c.self.view_is in
    let few : length all ≤ 252 ^ 10 = omega (arith, length-links c.self.inside.level.items, c.self.inside.level.ok.0, c.self.inside.level.small) in
    record {
      same_reference = refl;
      rising = rising_start all (draft_state c.args.draft.now) (omega (arith, c.requires.some)) few
          (rw (← c.self.view_is) at c.requires.ascend) c.requires.closed;
    }

pub write_level-requires-clause-room : goal.write_level-requires-clause-room
write_level-requires-clause-room g c =
    let inv = c.loop-level.invariant.rising in
    let count = length-links c.loop-level.level.items in
    let is = c.loop-level.level.ok.0 in
    let many : 1 < length (link_entries c.loop-level.level.items) = omega arith in
    let room = rising_room inv many in
    let kept = inv.wrote.stays.kept.blocks in
    let all : length (link_entries c.self.inside.level.items) ≡ length c.args.self = ap length c.self.view_is in
    let nodes : c.parts-nodes.result ≡ nodes_for 252 (length (link_entries c.loop-level.level.items)) =
    c.parts-nodes.ensures ∙ ap (nodes_for 252) (c.len-in-loop-level.ensures ∙ (is ∙ sym count)) in
    let need : need_above 10 (length (link_entries c.self.inside.level.items)) ≡ need_above 10 (length c.args.self) = ap (need_above 10) all in
    omega (arith, c.requires.room)

pub write_level-requires-clause-ascend : goal.write_level-requires-clause-ascend
write_level-requires-clause-ascend g c =
    let is = c.deref_mut.ensures.value in
    rw is (rw (keys-links c.loop-level.level.items) at c.loop-level.invariant.rising.ascending)

pub loop-level-preserved : goal.loop-level-preserved
loop-level-preserved g c =
    let inv = c.loop-level.invariant.rising in
    let items = c.loop-level.level.items in
    let count = length-links items in
    let many : 1 < length (link_entries items) = omega (arith, c.loop-level.level.ok.0) in
    let nodes : c.parts-nodes.result ≡ nodes_for 252 (length (link_entries items)) =
    c.parts-nodes.ensures ∙ ap (nodes_for 252) (c.len-in-loop-level.ensures ∙ (c.loop-level.level.ok.0 ∙ sym count)) in
    let was = c.deref_mut.ensures.value in
    let row : even_parts c.parts-nodes.result (link_entries c.deref_mut.result.now) ≡ even_parts (nodes_for 252 (length (link_entries items))) (link_entries items) =
    rw (was, nodes) refl in
    let size : length c.write_level.new.level ≡ c.loop-level.level.len = c.write_level.auto.level ∙ (ap length was ∙ sym c.loop-level.level.ok.0) in
    let lent : take c.loop-level.level.len (c.write_level.new.level ++ drop (length c.write_level.new.level) items) ≡ c.write_level.new.level =
    lent_whole c.loop-level.level.len c.write_level.new.level (drop (length c.write_level.new.level) items) size in
    record {
      same_reference = c.write_level.ensures.same_reference ∙ c.loop-level.invariant.same_reference;
      rising = rising_next {all = link_entries c.self.inside.level.items} {level = link_entries items} {next = link_entries c.truncate.new.self.items}
          {from = draft_state c.args.draft.now} {mid = draft_state c.loop-level.draft} {to = draft_state c.write_level.new.draft} inv many
          (ap link_entries (c.truncate.ensures.items ∙ ap (take c.parts-nodes.result) lent) ∙ (c.in_ok-write_level.ensures.heads_are ∙ ap (heads c.loop-level.draft.next) row))
          (subst (λ (nodes : List (List Entry)). Wrote (blocks_from inner_block c.loop-level.draft.next nodes) (draft_state c.loop-level.draft) (draft_state c.write_level.new.draft)) row
          c.in_ok-write_level.ensures.wrote);
    }

pub returns-clause-wrote : goal.returns-clause-wrote
returns-clause-wrote g c =
    let count = length-links c.loop-level.level.items in
    let is = c.loop-level.level.ok.0 in
    rw (← c.self.view_is) (rising_end c.loop-level.invariant.rising (omega arith))
