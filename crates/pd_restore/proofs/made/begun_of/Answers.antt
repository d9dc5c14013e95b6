use Rattle.std.proofs.Common.{ap, sym, subst, refl, ◌∙◌, []}
use Rattle.pd_grammar.specs.Texts.{whole}
use Rattle.pd_grammar.specs.Spelling.{accepted}
use Rattle.pd_grammar.proofs.GrammarLemmas.{AreRead}
use Rattle.pd_salvage.specs.Saved.{pool_of}
use Rattle.pd_laid.specs.Shape.{shape_of}
use Rattle.pd_grammar.specs.ThinText.{pool_format}
use Rattle.pd_restore.specs.SavedLines.{saved_text}
use Rattle.pd_restore.proofs.SavedTextLemmas.{all_lines, saved_lawful, saved_read, saved_reading, saved_spells}
use Rattle.pd_restore.proofs.made.begun_of.Goals as goal

pub returns-clause-stands : goal.returns-clause-stands
returns-clause-stands c =
    let saved = c.args.saved in
    let lines = all_lines saved c.head-pool.result.now c.new.result c.head-pool.ensures.head c.new.ensures in
    subst (AreRead pool_format []) (sym lines) (saved_read saved c.head-pool.ensures.sound)

pub returns-clause-gives : goal.returns-clause-gives
returns-clause-gives c =
    let saved = c.args.saved in
    let sound = c.head-pool.ensures.sound in
    let lines = all_lines saved c.head-pool.result.now c.new.result c.head-pool.ensures.head c.new.ensures in
    record {
      text = saved_text saved;
      leaves = (saved_reading saved sound ∙ ap whole (sym lines), refl);
      lawful = saved_lawful saved sound;
      only = λ room verdict fits right.
          c.pool_text_has_one_verdict.ensures.one (saved_text saved) room verdict (accepted (shape_of (pool_of saved))) right
          (c.pool_text_is_accepted_where_there_is_room.ensures.accepted (saved_text saved) (shape_of (pool_of saved)) room (saved_spells saved sound) fits);
    }

pub returns-clause-lawful : goal.returns-clause-lawful
returns-clause-lawful c = c.head-pool.ensures.sound.lawful

pub returns-clause-need : goal.returns-clause-need
returns-clause-need c room =
    c.pool_text_is_accepted_where_there_is_room.ensures.unshared (pool_of c.args.saved) room c.head-pool.ensures.sound.lawful
