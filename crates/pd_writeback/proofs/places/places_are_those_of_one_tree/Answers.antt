use Rattle.std.proofs.Common.{◌≡◌, inl, inr, Bool, cond, nat_eq, length, sym, subst, ◌∙◌, arith}
use Rattle.std.specs.List.{list_any}
use Rattle.std.proofs.lemmas.Bool.{cases_Bool, eqb-true}
use Rattle.pd_kinds.specs.declared.kind.Kind.TheVariants.{Cache}
use Rattle.pd_kinds.specs.declared.kind.Stage.TheVariants.{Whole}
use Rattle.pd_kinds.specs.CacheFormat.{cache_fields, cache_graph, has_dirty_bits}
use Rattle.pd_kinds.specs.Graph.{block_at}
use Rattle.pd_kinds.specs.Image.{room_of}
use Rattle.pd_kinds.specs.Node.{Entry}
use Rattle.pd_kinds.specs.Trees.{entries_below}
use Rattle.pd_writeback.specs.Room.{places_named, tree_names}
use Rattle.pd_writeback.proofs.PlacesLemmas.{all_inside, found_are_named, in_room, reached_past}
use Rattle.pd_writeback.proofs.places.places_are_those_of_one_tree.Goals as goal

pub returns : goal.returns
returns c = λ image b none.
    let block = block_at image 0 in
    let fields = cache_fields block in
    let graph = cache_graph block in
    let n = room_of (length image) in
    let lawful = c.trees_are_in_order.ensures.lawful Cache Whole image none in
    let ordered = c.trees_are_in_order.ensures.in_order Cache Whole image tt none in
    let past = reached_past graph image lawful (c.reached_by_paths.ensures.super_block graph image) in
    let trees = c.formats_have_trees.ensures.cache block in
    let roots = c.superblocks_lead_to_reached_roots.ensures.cache Whole image tt none in
    let room = in_room image none lawful in
    let Same : Bool → Type 0 = λ second.
    list_any (λ place. nat_eq place b) (places_named n (tree_names image (cond second fields.dirty_root fields.mapping_root)))
    ≡ list_any (λ (e : Entry). nat_eq e.value b) (entries_below graph image 8 (cond second 10 1) (cond second fields.dirty_root fields.mapping_root)) in
    let named : Same (has_dirty_bits fields.version) = elim (cases_Bool (has_dirty_bits fields.version)) [
      | inl bits ↦
          let there = roots.dirty_bits (eqb-true fields.version 2 bits) in
          let entries = entries_below graph image 8 10 fields.dirty_root in
          subst Same (sym bits) (found_are_named image fields.dirty_root n entries
          (c.cursors_give_entries.ensures.entries graph image fields.dirty_root 10 trees.dirty_bits.is_role (c.reached_trees_are_sound.ensures.in_order graph image fields.dirty_root 10 lawful ordered there))
          (all_inside graph image 11 n entries (λ x is. past x 11 (omega arith) is) room (c.entries_lead_to_reached_pairs.ensures graph image fields.dirty_root 10 8 11 (λ v. v) trees.dirty_bits lawful ordered there)) b)
      | inr words ↦
          let there = roots.mappings in
          let entries = entries_below graph image 8 1 fields.mapping_root in
          subst Same (sym words) (found_are_named image fields.mapping_root n entries
          (c.cursors_give_entries.ensures.entries graph image fields.mapping_root 1 trees.mappings.is_role (c.reached_trees_are_sound.ensures.in_order graph image fields.mapping_root 1 lawful ordered there))
          (all_inside graph image 2 n entries (λ x is. past x 2 (omega arith) is) room (c.entries_lead_to_reached_pairs.ensures graph image fields.mapping_root 1 8 2 (λ v. v) trees.mappings lawful ordered there)) b)
    ] in
    named ∙ sym (c.dirty_places_are_named.ensures Whole image b tt none)
