use Rattle.std.proofs.Common.{◌≡◌, ◌<◌, ◌^◌, inr, lit<, refl, sym, ◌∙◌, arith, length, slice_index_or}
use Rattle.std.specs.List.{All}
use Rattle.pd_kinds.specs.Node.{entry_count, leaf_block}
use Rattle.pd_node.specs.Items.{entries_of}
use Rattle.pd_node.proofs.Written.{CanWrite}
use Rattle.pd_node.proofs.Written.{IsKind, count_written, is_inner_written, keys_written, sound_written}
use Rattle.pd_node.proofs.FromItems.{can_write, codes_below, count_kept, keys_kept, node_is, values_kept}
use Rattle.pd_node.proofs.write.write_leaf.Goals as goal
use Rattle.pd_node.proofs.write.write_leaf.Given as given

pub returns-clause-block : goal.returns-clause-block
returns-clause-block g c =
    rw (c.seal_node.ensures.sealed, c.put_values.ensures, c.max_entries_of.ensures, c.SIZE.ensures, c.SIZE-2.ensures, c.put_keys.ensures.row, c.zeros-block.ensures)
    (node_is g.V.Value.code c.args.items.now 2 g.V.Value.SIZE c.args.place)

can : (g : given.Over) (c : goal.After-seal_node g) → CanWrite 2 g.V.Value.SIZE c.args.place (entries_of g.V.Value.code c.args.items.now)
can g c =
    let items = c.args.items.now in
    let below : All (λ item. g.V.Value.code item.1 < 256 ^ g.V.Value.SIZE) items = λ k d h. g.met.V.Value.code_below (slice_index_or items k d).1 (c.requires.fit k d h) in
    can_write g.V.Value.code items 2 g.V.Value.SIZE c.args.place (lit< tt) g.met.V.Value.size_most (omega arith) c.requires.room c.put_keys.ensures.below
    (codes_below g.V.Value.code items (256 ^ g.V.Value.SIZE) (g.V.Value.decoded 0) below)

kind : (g : given.Over) (c : goal.After-seal_node g) → IsKind 2 g.V.Value.SIZE g.V.Value.SIZE (length (entries_of g.V.Value.code c.args.items.now))
kind g c = record {
  flags_known = inr refl;
  size_known = refl;
  some = λ inner. absurd (omega arith);
}

counted : (g : given.Over) (c : goal.After-seal_node g) → entry_count g.V.Value.SIZE (leaf_block g.V.Value.SIZE c.args.place (entries_of g.V.Value.code c.args.items.now)) ≡ length c.args.items.now
counted g c =
    count_written 2 g.V.Value.SIZE c.args.place g.V.Value.SIZE (entries_of g.V.Value.code c.args.items.now) (can g c) (kind g c) ∙ count_kept g.V.Value.code c.args.items.now

pub returns-clause-sound : goal.returns-clause-sound
returns-clause-sound g c = λ rule.
    let is = returns-clause-block g c in
    let valid = rw is at c.seal_node.ensures.valid in
    let ascend = rw (sym (keys_kept g.V.Value.code c.args.items.now)) at c.requires.ascend in
    rw is (sound_written 2 g.V.Value.SIZE c.args.place g.V.Value.SIZE (entries_of g.V.Value.code c.args.items.now) (can g c) (kind g c) ascend valid rule)

pub returns-clause-leaf : goal.returns-clause-leaf
returns-clause-leaf g c = rw (returns-clause-block g c) (is_inner_written 2 g.V.Value.SIZE c.args.place (entries_of g.V.Value.code c.args.items.now) (can g c))

pub returns-clause-count : goal.returns-clause-count
returns-clause-count g c = rw (returns-clause-block g c) (counted g c)

pub returns-clause-keys : goal.returns-clause-keys
returns-clause-keys g c =
    rw (returns-clause-block g c)
    (keys_written 2 g.V.Value.SIZE c.args.place g.V.Value.SIZE (entries_of g.V.Value.code c.args.items.now) (can g c) (kind g c) ∙ keys_kept g.V.Value.code c.args.items.now)

pub returns-clause-values : goal.returns-clause-values
returns-clause-values g c =
    let items = c.args.items.now in
    let back : All (λ item. g.V.Value.decoded (g.V.Value.code item.1) ≡ item.1) items = λ k d h. g.met.V.Value.reads_back (slice_index_or items k d).1 (c.requires.fit k d h) in
    rw (returns-clause-block g c) (values_kept g.V.Value.code g.V.Value.decoded items 2 g.V.Value.SIZE c.args.place (can g c) (counted g c) back)
