use Rattle.std.proofs.Common.{ℕ, inl, lit<, lit≤, refl, sym, ◌∙◌, arith, length}
use Rattle.pd_node.specs.Items.{entries_of}
use Rattle.pd_node.specs.Items.{node_children}
use Rattle.pd_node.proofs.Written.{CanWrite}
use Rattle.pd_node.proofs.Written.{IsKind, count_written, is_inner_written, keys_written, sound_written, values_written}
use Rattle.pd_node.proofs.FromItems.{can_write, codes_kept, count_kept, keys_kept, node_is}
use Rattle.pd_node.proofs.write.write_inner.Goals as goal

abbrev child : ℕ → ℕ
child number = number

pub returns-clause-block : goal.returns-clause-block
returns-clause-block c =
    rw (c.seal_node.ensures.sealed, c.put_children.ensures.row, c.max_entries_of.ensures, c.put_keys.ensures.row, c.zeros-block.ensures) (node_is child c.args.items.now 1 8 c.args.place)

can : (c : goal.After-seal_node) → CanWrite 1 8 c.args.place (entries_of child c.args.items.now)
can c = can_write child c.args.items.now 1 8 c.args.place (lit< tt) (lit≤ tt) (omega arith) c.requires.room c.put_keys.ensures.below c.put_children.ensures.below

kind : (c : goal.After-seal_node) (size : ℕ) → IsKind 1 8 size (length (entries_of child c.args.items.now))
kind c size = record {
  flags_known = inl refl;
  size_known = refl;
  some = λ _. rw (count_kept child c.args.items.now) c.requires.some;
}

pub returns-clause-sound : goal.returns-clause-sound
returns-clause-sound c = λ size rule.
    let is = returns-clause-block c in
    let valid = rw is at c.seal_node.ensures.valid in
    let ascend = rw (sym (keys_kept child c.args.items.now)) at c.requires.ascend in
    rw is (sound_written 1 8 c.args.place size (entries_of child c.args.items.now) (can c) (kind c size) ascend valid rule)

pub returns-clause-inner : goal.returns-clause-inner
returns-clause-inner c = rw (returns-clause-block c) (is_inner_written 1 8 c.args.place (entries_of child c.args.items.now) (can c))

pub returns-clause-count : goal.returns-clause-count
returns-clause-count c = λ size.
    rw (returns-clause-block c) (count_written 1 8 c.args.place size (entries_of child c.args.items.now) (can c) (kind c size) ∙ count_kept child c.args.items.now)

pub returns-clause-keys : goal.returns-clause-keys
returns-clause-keys c = λ size.
    rw (returns-clause-block c) (keys_written 1 8 c.args.place size (entries_of child c.args.items.now) (can c) (kind c size) ∙ keys_kept child c.args.items.now)

pub returns-clause-children : goal.returns-clause-children
unfolding node_children
returns-clause-children c = λ size.
    rw (returns-clause-block c) (values_written 1 8 c.args.place size (entries_of child c.args.items.now) (can c) (kind c size) ∙ codes_kept child c.args.items.now)
