use Rattle.std.proofs.Common.{◌≡◌, false, List, [], map, refl, subst, sym, ◌∙◌}
use Rattle.std.specs.List.{range_with_len}
use Rattle.std.proofs.lemmas.Bool.{both_ways, not-false, not-true}
use Rattle.pd_kinds.specs.Node.{entry_count, is_inner_node}
use Rattle.pd_laid.specs.Salvage.{is_damaged}
use Rattle.pd_meaning_thin.specs.declared.joined.Run.{Run}
use Rattle.pd_salvage.specs.Gather.{HasRuns}
use Rattle.pd_salvage_shapes.specs.Note.{saved_in}
use Rattle.pd_salvage_shapes.proofs.NoteLemmas.{entry_at, gathered_mappings, gathered_note, inner_none, leaf_number, none_all, saved_lawful, sized_is, sound_saved}
use Rattle.pd_salvage_shapes.proofs.note.note_of.Goals as goal

pub returns-then-not-is_sound-clause-notes : goal.returns-then-not-is_sound-clause-notes
returns-then-not-is_sound-clause-notes c =
    let none = c.no_note.ensures.none in
    let damaged = not-false (is_damaged 8 c.args.place c.args.block.now.0) (sym c.if-not-is_sound.ensures) in
    record {
      at = c.no_note.ensures.at;
      mappings = rw damaged none;
      full = c.no_note.ensures.part ∙ rw none (sym (none_all c.args.block.now.0));
      fits = λ sound leaf. absurd (both_ways (is_damaged 8 c.args.place c.args.block.now.0) sound damaged);
    }

pub returns-then-not-is_sound-clause-sound : goal.returns-then-not-is_sound-clause-sound
returns-then-not-is_sound-clause-sound c = c.no_note.ensures.sound c.args.blocks

pub returns-then-is_inner-clause-notes : goal.returns-then-is_inner-clause-notes
returns-then-is_inner-clause-notes c =
    let none = c.no_note-then-is_inner.ensures.none in
    record {
      at = c.no_note-then-is_inner.ensures.at;
      mappings = none ∙ sym (inner_none c.args.blocks c.args.place c.args.block.now.0 c.args.range.now (sym c.if-is_inner.ensures));
      full = c.no_note-then-is_inner.ensures.part ∙ rw none (sym (none_all c.args.block.now.0));
      fits = λ sound leaf. absurd (both_ways (is_inner_node c.args.block.now.0) leaf (sym c.if-is_inner.ensures));
    }

pub returns-then-is_inner-clause-sound : goal.returns-then-is_inner-clause-sound
returns-then-is_inner-clause-sound c = c.no_note-then-is_inner.ensures.sound c.args.blocks

pub returns-clause-notes : goal.returns-clause-notes
returns-clause-notes c =
    let block = c.args.block.now.0 in
    let ms = saved_in c.args.blocks c.args.range.now (map (entry_at block) (range_with_len 0 (entry_count 8 block))) in
    let gathered = c.in_ok-gathering.ensures.gathered in
    let ended = subst (λ (runs : List Run). HasRuns [] runs ms) (sym c.trim.ensures) (c.in_ok-end.ensures [] ms gathered.joining) in
    let sound = not-true (is_damaged 8 c.args.place block) (sym c.if-not-is_sound.ensures) in
    let leaf : is_inner_node block ≡ false = sym c.if-is_inner.ensures in
    let mappings = gathered_mappings c.trim.new.self c.in_ok-gathering.gathering ms c.gather_leaf.new.runs gathered ended in
    record {
      at = refl;
      mappings = mappings ∙ sym (sound_saved c.args.blocks c.args.place block c.args.range.now sound leaf);
      full = c.is_all-full.ensures ∙ rw (c.entries.ensures, gathered.mapped, leaf_number block leaf, mappings) refl;
      fits = λ undamaged is_leaf. c.in_ok-gathering.ensures.fits;
    }

pub returns-clause-sound : goal.returns-clause-sound
returns-clause-sound c =
    let block = c.args.block.now.0 in
    let ms = saved_in c.args.blocks c.args.range.now (map (entry_at block) (range_with_len 0 (entry_count 8 block))) in
    let gathered = c.in_ok-gathering.ensures.gathered in
    let ended = subst (λ (runs : List Run). HasRuns [] runs ms) (sym c.trim.ensures) (c.in_ok-end.ensures [] ms gathered.joining) in
    let sound = not-true (is_damaged 8 c.args.place block) (sym c.if-not-is_sound.ensures) in
    gathered_note c.trim.new.self c.in_ok-gathering.gathering ms c.gather_leaf.new.runs gathered ended
    c.args.blocks _ refl refl refl refl (λ full. sized_is c.in_ok-gathering.gathering.mapped c.entries.result (sym c.is_all-full.ensures ∙ full))
    (saved_lawful c.args.blocks c.args.place block c.args.range.now sound c.in_ok-gathering.ensures.fits)
