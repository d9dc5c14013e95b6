use Rattle.std.proofs.Common.{ap, sym, subst, refl, ◌∙◌, []}
use Rattle.pd_grammar.specs.Texts.{whole}
use Rattle.pd_grammar.specs.Spelling.{accepted}
use Rattle.pd_grammar.proofs.GrammarLemmas.{AreRead}
use Rattle.pd_salvage.specs.SavedShape.{held_shape}
use Rattle.pd_grammar.specs.ThinText.{pool_format}
use Rattle.pd_restore.specs.ShapeLines.{lines_left, shape_text}
use Rattle.pd_restore.proofs.ShapeTextLemmas.{all_shape_lines, shape_lawful, shape_read, shape_reading, shape_spells}
use Rattle.pd_restore.proofs.shape_made.begun_of_shape.Goals as goal

pub returns-clause-stands : goal.returns-clause-stands
returns-clause-stands c =
    let saved = c.args.saved in
    let sound = c.head-pool.ensures.sound in
    let lines = all_shape_lines saved sound c.head-pool.result.now (lines_left c.new.result) c.head-pool.ensures.head c.new.ensures in
    subst (AreRead pool_format []) (sym lines) (shape_read saved sound)

pub returns-clause-gives : goal.returns-clause-gives
returns-clause-gives c =
    let saved = c.args.saved in
    let sound = c.head-pool.ensures.sound in
    let lines = all_shape_lines saved sound c.head-pool.result.now (lines_left c.new.result) c.head-pool.ensures.head c.new.ensures in
    record {
      text = shape_text saved;
      leaves = (shape_reading saved sound ∙ ap whole (sym lines), refl);
      lawful = shape_lawful saved sound;
      only = λ room verdict fits right.
          c.pool_text_has_one_verdict.ensures.one (shape_text saved) room verdict (accepted (held_shape saved)) right
          (c.pool_text_is_accepted_where_there_is_room.ensures.accepted (shape_text saved) (held_shape saved) room (shape_spells saved sound) fits);
    }
