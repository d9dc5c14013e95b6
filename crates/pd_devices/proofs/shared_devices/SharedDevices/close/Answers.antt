use Rattle.std.proofs.Common.{◌≡◌, ◌<◌, ◌^◌, None, Some, refl, sym, ◌∙◌, arith}
use Rattle.pd_devices.proofs.GatherLemmas.{can_end_tree, can_write_leaf, device_case, device_held, leaf_case}
use Rattle.pd_devices.proofs.EndedLemmas.{ended_with_leaf, ended_with_device}
use Rattle.pd_devices.specs.Told.{leaf_items, whole_leaves}
use Rattle.pd_grammar.specs.ThinText.{data_blocks_of, piece_end}
use Rattle.pd_devices.proofs.DeviceLemmas.{on_ok}
use Rattle.pd_devices.proofs.shared_devices.SharedDevices.close.Goals as goal

pub end_tree-requires-clause-can : goal.end_tree-requires-clause-can
end_tree-requires-clause-can g c = can_end_tree c.requires.gathered.so_far c.in-Some.growing (sym c.take.ensures.value ∙ c.in-Some.is)

pub write_shared_leaf-requires-clause-room : goal.write_shared_leaf-requires-clause-room
write_shared_leaf-requires-clause-room g c =
    (can_write_leaf c.requires.gathered.so_far (sym c.take.ensures.value ∙ c.in-None.is) (omega arith)).room

pub returns-in_ok-tree-in-Some-clause-gathered : goal.returns-in_ok-tree-in-Some-clause-gathered
returns-in_ok-tree-in-Some-clause-gathered g c room before start h full =
    let o = c.in-Some.growing in
    let growing : c.args.self.now.growing ≡ Some o = sym c.take.ensures.value ∙ c.in-Some.is in
    let found = device_case o h growing in
    let tree = c.in_ok-tree-in-Some.tree in
    let did = c.in_ok-tree-in-Some.ensures in
    let held = device_held h found in
    let fits : tree.root < 2 ^ 64 = omega arith in
    let items = leaf_items (whole_leaves before) in
    on_ok c.append.result c.append.ensures.items
    (λ listed. ended_with_device before c.args.self.now _ found.device found.runs o tree.id tree.root tree.blocks h found.opens found.is
    refl refl refl refl c.saturating_add-self.ensures listed refl did.none c.take.ensures.after did.id fits did.blocks
    (did.wrote items found.device (data_blocks_of before) found.is.low (piece_end before) h.behind found.is.grown held)
    (did.root items found.device (data_blocks_of before) found.is.low (piece_end before) h.behind found.is.grown held))

pub returns-in_ok-least-in-None-clause-gathered : goal.returns-in_ok-least-in-None-clause-gathered
returns-in_ok-least-in-None-clause-gathered g c room before start h full =
    let growing : c.args.self.now.growing ≡ None = sym c.take.ensures.value ∙ c.in-None.is in
    let found = leaf_case h growing (omega arith) in
    let did = c.in_ok-least-in-None.ensures in
    on_ok c.push.result c.push.ensures.items
    (λ firsts. ended_with_leaf before c.args.self.now _ c.in_ok-least-in-None.least found.runs h found.opens found.same found.is full
    refl refl refl firsts did.least refl refl refl did.none c.take.ensures.after did.wrote)
