use Rattle.std.proofs.Common.{◌≡◌, ◌+◌, ◌≤◌, ℕ, length, ◌∙◌, ap, arith}
use Rattle.pd_kinds.specs.Bitmap.{bitmaps_for}
use Rattle.pd_draft.specs.DraftState.{draft_state}
use Rattle.pd_grammar.specs.Need.{need_tree}
use Rattle.pd_laid.specs.Laid.{overflow_items}
use Rattle.pd_laid.specs.Laid.{tree_root}
use Rattle.pd_count.specs.Counted.{count_of}
use Rattle.pd_smwrite.specs.Map.{meta_map_need, meta_overflow_at}
use Rattle.pd_smwrite.proofs.MapLemmas.{bitmaps_moved, meta_map_then, root_is}
use Rattle.pd_smwrite.proofs.meta.write_counted.Goals as goal

pub put_index-requires-clause-room : goal.put_index-requires-clause-room
unfolding meta_map_need
put_index-requires-clause-room g c =
    let n = c.args.counts.now.size in
    let room : c.args.draft.now.next + (1 + (bitmaps_for n + need_tree 4 (length (overflow_items (count_of c.args.counts.now) n)))) ≤ (draft_state c.args.draft.now).device.blocks = c.requires.room in
    omega arith

pub write_bitmaps-requires-clause-room : goal.write_bitmaps-requires-clause-room
unfolding meta_map_need
write_bitmaps-requires-clause-room g c =
    let n = c.args.counts.now.size in
    let room : c.args.draft.now.next + (1 + (bitmaps_for n + need_tree 4 (length (overflow_items (count_of c.args.counts.now) n)))) ≤ (draft_state c.args.draft.now).device.blocks = c.requires.room in
    let index = c.in_ok-put_index.ensures.wrote in
    let moved : c.put_index.new.draft.next ≡ c.args.draft.now.next + 1 = index.moved in
    omega (arith, moved, index.stays.kept.blocks)

pub write_overflow-requires-clause-room : goal.write_overflow-requires-clause-room
unfolding meta_map_need
write_overflow-requires-clause-room g c =
    let n = c.args.counts.now.size in
    let room : c.args.draft.now.next + (1 + (bitmaps_for n + need_tree 4 (length (overflow_items (count_of c.args.counts.now) n)))) ≤ (draft_state c.args.draft.now).device.blocks = c.requires.room in
    let index = c.in_ok-put_index.ensures.wrote in
    let maps = c.in_ok-write_bitmaps.ensures.wrote in
    let first : c.put_index.new.draft.next ≡ c.args.draft.now.next + 1 = index.moved in
    let second = bitmaps_moved (count_of c.args.counts.now) n {from = draft_state c.put_index.new.draft} {to = draft_state c.write_bitmaps.new.draft} maps in
    omega (arith, first, second, index.stays.kept.blocks, maps.stays.kept.blocks)

pub returns-clause-wrote : goal.returns-clause-wrote
returns-clause-wrote g c =
    meta_map_then (count_of c.args.counts.now) c.args.counts.now.size {a = draft_state c.args.draft.now} {b = draft_state c.put_index.new.draft} {c = draft_state c.write_bitmaps.new.draft}
    {d = draft_state c.write_overflow.new.draft} c.in_ok-put_index.ensures.wrote c.in_ok-write_bitmaps.ensures.wrote c.in_ok-overflow_root.ensures.wrote

pub returns-clause-root : goal.returns-clause-root
returns-clause-root g c =
    let n = c.args.counts.now.size in
    let counts = count_of c.args.counts.now in
    let place = c.args.draft.now.next in
    let first : c.put_index.new.draft.next ≡ place + 1 = c.in_ok-put_index.ensures.wrote.moved in
    let over : c.write_bitmaps.new.draft.next ≡ meta_overflow_at n place =
    bitmaps_moved counts n {from = draft_state c.put_index.new.draft} {to = draft_state c.write_bitmaps.new.draft} c.in_ok-write_bitmaps.ensures.wrote
    ∙ ap (λ (p : ℕ). p + bitmaps_for n) first in
    root_is c.size.ensures.size c.allocated.ensures c.next-place.ensures
    (c.in_ok-overflow_root.ensures.root ∙ ap (λ (p : ℕ). tree_root 4 p (overflow_items counts n)) over)
