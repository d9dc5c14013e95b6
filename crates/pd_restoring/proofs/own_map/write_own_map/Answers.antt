use Rattle.std.proofs.Common.{◌≡◌, ap, ◌∙◌, arith}
use Rattle.pd_kinds.proofs.ResultLemmas.{if_ok_with, on_ok_both}
use Rattle.pd_draft.specs.DraftState.{draft_state}
use Rattle.pd_count.specs.Counted.{count_of}
use Rattle.pd_grammar.specs.Need.{need_meta_map}
use Rattle.pd_smwrite.specs.Map.{meta_map_need}
use Rattle.pd_restoring.proofs.MapLemmas.{ones_need, none_own, stored_blocks, stored_root}
use Rattle.pd_restoring.proofs.own_map.write_own_map.Goals as goal
use Rattle.pd_restoring.proofs.own_map.write_own_map.Given as given

number : (g : given.Over) (c : goal.After-counts-2-1 g) → meta_map_need (count_of c.in_ok-counts.counts) c.in_ok-counts.counts.size ≡ need_meta_map c.args.room
number g c = ones_need c.in_ok-counts.counts c.next.result c.in_ok-counts.counts.size c.in_ok-counts.ensures.ones ∙ ap need_meta_map c.in_ok-counts.ensures.size

pub write_meta_map-requires-clause-within : goal.write_meta_map-requires-clause-within
write_meta_map-requires-clause-within g c = omega (arith, number g c, c.in_ok-counts.ensures.size)

pub write_meta_map-requires-clause-none : goal.write_meta_map-requires-clause-none
write_meta_map-requires-clause-none g c b above below =
    none_own c.in_ok-counts.counts c.next.result (meta_map_need (count_of c.in_ok-counts.counts) c.in_ok-counts.counts.size) c.in_ok-counts.ensures.ones b (omega (arith, c.next.ensures)) (omega (arith, c.next.ensures))

pub write_meta_map-requires-clause-room : goal.write_meta_map-requires-clause-room
write_meta_map-requires-clause-room g c = omega (arith, number g c)

pub returns-clause-wrote : goal.returns-clause-wrote
returns-clause-wrote g c =
    let from = draft_state c.args.draft.now in
    let to = draft_state c.write_meta_map.new.draft in
    let place = c.args.draft.now.next in
    let ones = c.in_ok-counts.ensures.ones in
    let number = ones_need c.in_ok-counts.counts c.next.result c.in_ok-counts.counts.size ones ∙ ap need_meta_map c.in_ok-counts.ensures.size in
    on_ok_both c.write_meta_map.result c.write_meta_map.ensures.counted c.write_meta_map.ensures.wrote
    (λ own wrote. stored_blocks c.in_ok-counts.counts c.write_meta_map.new.counts c.next.result place (meta_map_need (count_of c.in_ok-counts.counts) c.in_ok-counts.counts.size) c.args.room from to
    c.next.ensures number c.in_ok-counts.ensures.size own ones wrote)

pub returns-clause-root : goal.returns-clause-root
returns-clause-root g c =
    let place = c.args.draft.now.next in
    let ones = c.in_ok-counts.ensures.ones in
    let number = ones_need c.in_ok-counts.counts c.next.result c.in_ok-counts.counts.size ones ∙ ap need_meta_map c.in_ok-counts.ensures.size in
    if_ok_with c.write_meta_map.result c.write_meta_map.ensures.counted c.write_meta_map.ensures.root
    (λ root own is. is ∙ stored_root c.in_ok-counts.counts c.write_meta_map.new.counts c.next.result place (meta_map_need (count_of c.in_ok-counts.counts) c.in_ok-counts.counts.size) c.args.room
    c.next.ensures number c.in_ok-counts.ensures.size own ones)
