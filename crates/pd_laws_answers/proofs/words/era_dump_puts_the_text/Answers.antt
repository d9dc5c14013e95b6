use Rattle.std.proofs.Common.{refl, ◌≡◌, ℕ, List, [], ◌∷◌, ◌++◌, Option, Some, None, IfSome}
use Rattle.pd_kinds.specs.declared.kind.Kind.TheVariants.{Era}
use Rattle.pd_kinds.specs.Meaning.{era_meaning}
use Rattle.pd_grammar.specs.EraText.{SpellsEra}
use Rattle.pd_answers.specs.declared.request.Asked.TheVariants.{Text}
use Rattle.pd_answers.specs.QueryLines.{image_text}
use Rattle.pd_laws_answers.proofs.Asked.{answered_for, puts, puts_text}
use Rattle.std.specs.Prelude.{codes}
use Rattle.pd_answers.specs.declared.request.Request.TheVariants.{Query}
use Rattle.pd_answers.specs.Words.{is_flag, items_of, given, version_of, tool_in, request_of, asked}
use Rattle.pd_laws_answers.specs.Words.{IsName, to_file}
use Rattle.pd_laws_answers.proofs.words.era_dump_puts_the_text.Goals as goal

era_dump_asked : (file : Option (List ℕ)) (image : List ℕ) → IfSome file IsName → IsName image → asked (codes "era_dump" ∷ (to_file file ++ (image ∷ []))) ≡ Some (Query (Text Era) file image)
unfolding is_flag items_of given version_of tool_in request_of asked
era_dump_asked None image is_file is_image = rw (is_image) refl
era_dump_asked (Some file) image is_file is_image = rw (is_file, is_image) refl

pub returns : goal.returns
returns c = λ file image before after is_file is_image ends.
    puts_text Era SpellsEra era_meaning (image_text Era) (λ held is none. c.era_text_spells.ensures (era_meaning held) (c.sound_targets_are_lawful.ensures held is none)) before after
    (puts (Text Era) file image before after refl (answered_for _ _ 0 before after (era_dump_asked file image is_file is_image) ends))
