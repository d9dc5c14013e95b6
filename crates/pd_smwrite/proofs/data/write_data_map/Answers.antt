use Rattle.std.proofs.Common.{◌≡◌, ◌+◌, ◌≤◌, ℕ, length, ◌∙◌, ap, subst, arith}
use Rattle.pd_kinds.specs.Bitmap.{bitmaps_for}
use Rattle.pd_draft.specs.Closed.{Wrote}
use Rattle.pd_draft.specs.DraftState.{draft_state}
use Rattle.pd_grammar.specs.Need.{need_tree}
use Rattle.pd_laid.specs.Laid.{index_items, overflow_items}
use Rattle.pd_laid.specs.Laid.{tree_blocks, tree_root}
use Rattle.pd_count.specs.Counted.{count_of}
use Rattle.pd_smwrite.specs.Map.{data_map_need, index_at, overflow_at}
use Rattle.pd_smwrite.proofs.MapLemmas.{bitmaps_moved, index_moved, data_map_then, root_is}
use Rattle.pd_smwrite.proofs.data.write_data_map.Goals as goal

pub write_bitmaps-requires-clause-room : goal.write_bitmaps-requires-clause-room
unfolding data_map_need
write_bitmaps-requires-clause-room g c =
    let n = c.args.counts.now.size in
    let room : c.args.draft.now.next + (bitmaps_for n + (need_tree 16 (bitmaps_for n) + need_tree 4 (length (overflow_items (count_of c.args.counts.now) n)))) ≤ (draft_state c.args.draft.now).device.blocks = c.requires.room in
    omega arith

pub write_index_tree-requires-clause-behind : goal.write_index_tree-requires-clause-behind
write_index_tree-requires-clause-behind g c =
    let n = c.args.counts.now.size in
    let moved = bitmaps_moved (count_of c.args.counts.now) n {from = draft_state c.args.draft.now} {to = draft_state c.write_bitmaps.new.draft} c.in_ok-write_bitmaps.ensures.wrote in
    omega (arith, moved, c.next-first.ensures)

pub write_index_tree-requires-clause-room : goal.write_index_tree-requires-clause-room
unfolding data_map_need
write_index_tree-requires-clause-room g c =
    let n = c.args.counts.now.size in
    let room : c.args.draft.now.next + (bitmaps_for n + (need_tree 16 (bitmaps_for n) + need_tree 4 (length (overflow_items (count_of c.args.counts.now) n)))) ≤ (draft_state c.args.draft.now).device.blocks = c.requires.room in
    let wrote = c.in_ok-write_bitmaps.ensures.wrote in
    let moved = bitmaps_moved (count_of c.args.counts.now) n {from = draft_state c.args.draft.now} {to = draft_state c.write_bitmaps.new.draft} wrote in
    omega (arith, moved, wrote.stays.kept.blocks)

pub write_overflow-requires-clause-room : goal.write_overflow-requires-clause-room
unfolding data_map_need
write_overflow-requires-clause-room g c =
    let n = c.args.counts.now.size in
    let room : c.args.draft.now.next + (bitmaps_for n + (need_tree 16 (bitmaps_for n) + need_tree 4 (length (overflow_items (count_of c.args.counts.now) n)))) ≤ (draft_state c.args.draft.now).device.blocks = c.requires.room in
    let maps = c.in_ok-write_bitmaps.ensures.wrote in
    let index = c.in_ok-bitmap_root.ensures.wrote in
    let first = bitmaps_moved (count_of c.args.counts.now) n {from = draft_state c.args.draft.now} {to = draft_state c.write_bitmaps.new.draft} maps in
    let second = index_moved (count_of c.args.counts.now) n c.next-first.result {from = draft_state c.write_bitmaps.new.draft} {to = draft_state c.write_index_tree.new.draft} index in
    omega (arith, first, second, maps.stays.kept.blocks, index.stays.kept.blocks)

pub returns-clause-wrote : goal.returns-clause-wrote
returns-clause-wrote g c =
    let n = c.args.counts.now.size in
    let counts = count_of c.args.counts.now in
    data_map_then counts n {a = draft_state c.args.draft.now} {b = draft_state c.write_bitmaps.new.draft} {c = draft_state c.write_index_tree.new.draft} {d = draft_state c.write_overflow.new.draft}
    c.in_ok-write_bitmaps.ensures.wrote
    (subst (λ (first : ℕ). Wrote (tree_blocks 16 c.write_bitmaps.new.draft.next (index_items counts n first)) (draft_state c.write_bitmaps.new.draft) (draft_state c.write_index_tree.new.draft))
    c.next-first.ensures c.in_ok-bitmap_root.ensures.wrote)
    c.in_ok-overflow_root.ensures.wrote

pub returns-clause-root : goal.returns-clause-root
returns-clause-root g c =
    let n = c.args.counts.now.size in
    let counts = count_of c.args.counts.now in
    let place = c.args.draft.now.next in
    let index : c.write_bitmaps.new.draft.next ≡ index_at n place =
    bitmaps_moved counts n {from = draft_state c.args.draft.now} {to = draft_state c.write_bitmaps.new.draft} c.in_ok-write_bitmaps.ensures.wrote in
    let over : c.write_index_tree.new.draft.next ≡ overflow_at n place =
    index_moved counts n c.next-first.result {from = draft_state c.write_bitmaps.new.draft} {to = draft_state c.write_index_tree.new.draft} c.in_ok-bitmap_root.ensures.wrote
    ∙ ap (λ (p : ℕ). p + need_tree 16 (bitmaps_for n)) index in
    root_is c.size.ensures.size c.allocated.ensures
    (c.in_ok-bitmap_root.ensures.root
    ∙ (ap (λ (p : ℕ). tree_root 16 p (index_items counts n c.next-first.result)) index ∙ ap (λ (first : ℕ). tree_root 16 (index_at n place) (index_items counts n first)) c.next-first.ensures))
    (c.in_ok-overflow_root.ensures.root ∙ ap (λ (p : ℕ). tree_root 4 p (overflow_items counts n)) over)
