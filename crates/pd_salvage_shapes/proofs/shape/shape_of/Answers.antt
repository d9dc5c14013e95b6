use Rattle.std.proofs.Common.{List, length, subst, sym, ◌∙◌}
use Rattle.pd_salvage_shapes.specs.declared.note.LeafNote.{LeafNote}
use Rattle.pd_salvage_shapes.specs.SeenShape.{AreShaped, AreSized}
use Rattle.pd_salvage_shapes.proofs.TableLemmas.{all_counted, all_named, all_sized, all_within, as_many, numbers_sized, own_shaped, own_sharing, parts_are, parts_sound}
use Rattle.pd_salvage_shapes.proofs.shape.shape_of.Goals as goal

pub count_all-requires : goal.count_all-requires
count_all-requires c =
    let v = c.args.visiting in
    let seen = c.args.seen.now in
    let notes = c.as_slice-notes.result.now in
    record {
      few = c.requires.few;
      sized = all_sized v c.requires.data c.requires.table seen c.requires.seen notes c.as_slice-notes.ensures.value;
      within = all_within v c.requires.data c.requires.table seen c.requires.seen notes c.as_slice-notes.ensures.value;
    }

pub share-requires : goal.share-requires
share-requires c =
    let v = c.args.visiting in
    let seen = c.args.seen.now in
    let notes = c.as_slice-notes.result.now in
    let uses = c.in_ok-uses.uses.items in
    let number = c.in_ok-uses.ensures.number in
    let counted = c.in_ok-uses.ensures.counted in
    record {
      places =
          as_many v c.requires.data c.requires.table seen c.requires.seen notes c.as_slice-notes.ensures.value uses number counted c.as_slice-places.result.now c.as_slice-places.ensures.value
          c.as_slice.result.now c.as_slice.ensures.value;
      named =
          all_named v c.requires.data c.requires.table seen c.requires.seen notes c.as_slice-notes.ensures.value uses number counted c.as_slice-places.result.now c.as_slice-places.ensures.value
          c.as_slice.result.now c.as_slice.ensures.value;
      counted = all_counted v c.requires.data c.requires.table seen c.requires.seen notes c.as_slice-notes.ensures.value;
    }

pub shape_devices-requires : goal.shape_devices-requires
shape_devices-requires c =
    let v = c.args.visiting in
    let seen = c.args.seen.now in
    let notes = c.as_slice-notes.result.now in
    let uses = c.in_ok-uses.uses.items in
    let number = c.in_ok-uses.ensures.number in
    let counted = c.in_ok-uses.ensures.counted in
    let shared = c.in_ok-shared.shared in
    let sharing =
    own_sharing v c.requires.data c.requires.table seen c.requires.seen notes c.as_slice-notes.ensures.value uses number counted c.as_slice-places.result.now c.as_slice-places.ensures.value
    c.as_slice.result.now c.as_slice.ensures.value shared c.in_ok-shared.ensures in
    let given = c.as_mut_slice-notes.ensures.value in
    let numbers = c.as_slice-2.result.now in
    record {
      sized =
          subst (λ (ns : List LeafNote). AreSized (length numbers) ns) (c.as_slice-notes.ensures.value ∙ sym given)
          (numbers_sized v c.requires.data c.requires.table seen c.requires.seen notes c.as_slice-notes.ensures.value uses number counted shared sharing numbers c.as_slice-2.ensures.value);
      within = all_within v c.requires.data c.requires.table seen c.requires.seen c.as_mut_slice-notes.result.now given;
      each = c.requires.each;
    }

pub of_parts-requires : goal.of_parts-requires
of_parts-requires c =
    let v = c.args.visiting in
    let seen = c.args.seen.now in
    let tops = c.args.tops.now in
    let notes = c.as_slice-notes.result.now in
    let uses = c.in_ok-uses.uses.items in
    let number = c.in_ok-uses.ensures.number in
    let counted = c.in_ok-uses.ensures.counted in
    let shared = c.in_ok-shared.shared in
    let shaped = c.in_ok-shaped.shaped in
    let sharing =
    own_sharing v c.requires.data c.requires.table seen c.requires.seen notes c.as_slice-notes.ensures.value uses number counted c.as_slice-places.result.now c.as_slice-places.ensures.value
    c.as_slice.result.now c.as_slice.ensures.value shared c.in_ok-shared.ensures in
    let same = c.as_mut_slice-notes.ensures.value ∙ sym c.as_slice-notes.ensures.value in
    let shapes =
    own_shaped v c.requires.data c.requires.table seen c.requires.seen notes c.as_slice-notes.ensures.value uses number counted shared sharing tops shaped c.as_slice-2.result.now
    c.as_slice-2.ensures.value (λ ones are. subst (λ (ns : List LeafNote). AreShaped ones ns tops seen shaped) same (c.in_ok-shaped.ensures ones are)) in
    parts_sound v c.requires.data c.requires.table seen c.requires.seen notes c.as_slice-notes.ensures.value uses number counted shared sharing c.requires.few tops c.requires.each c.requires.tops
    shaped shapes c.head_of.result c.head_of.ensures.head c.head_of.ensures.fits

pub returns : goal.returns
returns c =
    let v = c.args.visiting in
    let seen = c.args.seen.now in
    let tops = c.args.tops.now in
    let notes = c.as_slice-notes.result.now in
    let uses = c.in_ok-uses.uses.items in
    let number = c.in_ok-uses.ensures.number in
    let counted = c.in_ok-uses.ensures.counted in
    let shared = c.in_ok-shared.shared in
    let shaped = c.in_ok-shaped.shaped in
    let sharing =
    own_sharing v c.requires.data c.requires.table seen c.requires.seen notes c.as_slice-notes.ensures.value uses number counted c.as_slice-places.result.now c.as_slice-places.ensures.value
    c.as_slice.result.now c.as_slice.ensures.value shared c.in_ok-shared.ensures in
    let same = c.as_mut_slice-notes.ensures.value ∙ sym c.as_slice-notes.ensures.value in
    let shapes =
    own_shaped v c.requires.data c.requires.table seen c.requires.seen notes c.as_slice-notes.ensures.value uses number counted shared sharing tops shaped c.as_slice-2.result.now
    c.as_slice-2.ensures.value (λ ones are. subst (λ (ns : List LeafNote). AreShaped ones ns tops seen shaped) same (c.in_ok-shaped.ensures ones are)) in
    parts_are v c.requires.data c.requires.table seen c.requires.seen notes c.as_slice-notes.ensures.value uses number counted shared sharing c.requires.few tops c.requires.each c.requires.tops
    shaped shapes c.head_of.result c.head_of.ensures.head c.of_parts.result c.of_parts.ensures
