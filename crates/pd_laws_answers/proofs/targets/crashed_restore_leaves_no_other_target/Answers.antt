use Rattle.pd_grammar.specs.Early.{is_era_early}
use Rattle.pd_grammar.specs.EraText.{era_need, IsEraVerdict}
use Rattle.pd_grammar.specs.EraText.{SpellsEra}
use Rattle.pd_laid.specs.LaidEra.{laid_era}
use Rattle.pd_laws_laid.specs.Clean.{IsCleanEra}
use Rattle.pd_laws_answers.proofs.Restored.{target_laws}
use Rattle.pd_laws_answers.proofs.Restored.{leaves_of_text}
use Rattle.pd_laws_answers.proofs.targets.crashed_restore_leaves_no_other_target.Goals as goal

pub returns : goal.returns
returns c =
    leaves_of_text IsEraVerdict is_era_early laid_era SpellsEra era_need IsCleanEra
    (target_laws c.era_text_has_one_verdict.ensures.one c.era_text_is_accepted_where_there_is_room.ensures.no_room c.laid_era_is_clean.ensures.clean)
