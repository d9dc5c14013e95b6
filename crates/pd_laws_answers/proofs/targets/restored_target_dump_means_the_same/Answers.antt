use Rattle.std.proofs.lemmas.Option.{IfSome_then}
use Rattle.pd_kinds.specs.Meaning.{era_meaning}
use Rattle.pd_grammar.specs.Early.{is_era_early}
use Rattle.pd_grammar.specs.EraText.{era_need, IsEraVerdict}
use Rattle.pd_grammar.specs.EraText.{SpellsEra, text_of_era}
use Rattle.pd_laid.specs.LaidEra.{laid_era}
use Rattle.pd_laws_laid.specs.Clean.{IsCleanEra}
use Rattle.pd_laws_answers.proofs.Restored.{target_laws}
use Rattle.pd_laws_answers.proofs.Restored.{dump_restored, dump_same}
use Rattle.pd_laws_answers.proofs.targets.restored_target_dump_means_the_same.Goals as goal

pub returns-clause-restored : goal.returns-clause-restored
returns-clause-restored c image base file path before after status dump answered none =
    let m = era_meaning image in
    let spells = c.era_text_spells.ensures m (c.sound_targets_are_lawful.ensures image dump.is dump.sound) in
    let accepted = c.era_text_is_accepted_where_there_is_room.ensures in
    dump_restored IsEraVerdict is_era_early laid_era SpellsEra era_need IsCleanEra
    (target_laws c.era_text_has_one_verdict.ensures.one accepted.no_room c.laid_era_is_clean.ensures.clean)
    file path before after (text_of_era m) m base dump.text dump.held spells accepted.accepted dump.room status answered none

pub returns-clause-same : goal.returns-clause-same
returns-clause-same c image base file path before after dump answered =
    let m = era_meaning image in
    let spells = c.era_text_spells.ensures m (c.sound_targets_are_lawful.ensures image dump.is dump.sound) in
    IfSome_then after.output.held
    (dump_same SpellsEra IsCleanEra before after (text_of_era m) m base dump.text dump.held spells c.era_text_has_one_meaning.ensures
    (c.restored_target_is_clean.ensures file path before after answered))
    (λ restored is. is.means)
