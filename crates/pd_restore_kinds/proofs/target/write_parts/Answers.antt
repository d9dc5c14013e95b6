use Rattle.std.proofs.Common.{refl, ◌∙◌, arith}
use Rattle.pd_kinds.specs.Node.{is_ascending}
use Rattle.pd_restore_kinds.proofs.EraPartLemmas.{have_room, array_step, tree_step, behind_written, array_end, writesets_root_is, meta_map_is}
use Rattle.pd_restore_kinds.proofs.target.write_parts.Goals as goal

pub finish-requires-clause-room : goal.finish-requires-clause-room
finish-requires-clause-room g c =
    let r = c.requires.room in
    let f = r.eras.filling in
    let at = have_room r.target c.args.room r.eras.one_each in
    rw f.sized (omega (arith, f.room, at.writesets, at.meta_map, at.whole, r.need, r.there, r.eras.begin))

pub write_tree-requires-clause-room : goal.write_tree-requires-clause-room
write_tree-requires-clause-room g c =
    let r = c.requires.room in
    let at = have_room r.target c.args.room r.eras.one_each in
    let first = array_step r.target c.args.array r.eras c.in_ok-array_root.ensures.wrote in
    omega (arith, first.1, at.meta_map, at.whole, r.need, r.there, c.finish.ensures.closed.kept.blocks)

pub write_own_map-requires-clause-within : goal.write_own_map-requires-clause-within
write_own_map-requires-clause-within g c =
    let r = c.requires.room in
    let at = have_room r.target c.args.room r.eras.one_each in
    let first = array_step r.target c.args.array r.eras c.in_ok-array_root.ensures.wrote in
    let second = tree_step r.target first.1 c.in_ok-writesets_root.ensures.wrote in
    omega (arith, second.1, at.whole, r.need)

pub returns-clause-wrote : goal.returns-clause-wrote
returns-clause-wrote g c m start h =
    let r = c.requires.room in
    let own1 = array_step r.target c.args.array r.eras c.in_ok-array_root.ensures.wrote in
    let own2 = tree_step r.target own1.1 c.in_ok-writesets_root.ensures.wrote in
    let first = array_step m c.args.array h c.in_ok-array_root.ensures.wrote in
    let second = tree_step m first.1 c.in_ok-writesets_root.ensures.wrote in
    let whole = (have_room r.target c.args.room r.eras.one_each).whole in
    behind_written m c.args.room second.1 (omega (arith, second.1, own2.1, whole, r.need, r.most)) first.0 second.0 c.in_ok-meta_map.ensures.wrote

pub returns-clause-parts : goal.returns-clause-parts
returns-clause-parts g c m start h =
    let r = c.requires.room in
    let own1 = array_step r.target c.args.array r.eras c.in_ok-array_root.ensures.wrote in
    let own2 = tree_step r.target own1.1 c.in_ok-writesets_root.ensures.wrote in
    let first = array_step m c.args.array h c.in_ok-array_root.ensures.wrote in
    let second = tree_step m first.1 c.in_ok-writesets_root.ensures.wrote in
    let whole = (have_room r.target c.args.room r.eras.one_each).whole in
    record {
      array_root = c.in_ok-array_root.ensures.root ∙ array_end m c.args.room c.args.array h;
      writesets_root = c.in_ok-writesets_root.ensures.root ∙ writesets_root_is m c.args.room c.finish.new.draft.next first.1;
      meta_map = c.in_ok-meta_map.ensures.root ∙ meta_map_is m c.args.room c.write_tree.new.draft.next second.1 (omega (arith, second.1, own2.1, whole, r.need, r.most)) (omega (arith, own2.1, whole, r.need));
    }

pub write_tree-requires-clause-ascend : goal.write_tree-requires-clause-ascend
unfolding is_ascending
write_tree-requires-clause-ascend g c = refl
