use Rattle.std.proofs.Common.{refl, ◌≡◌, ℕ, List, [], ◌∷◌, ◌++◌, Option, Some, None, IfSome}
use Rattle.pd_kinds.specs.declared.kind.Kind.TheVariants.{Thin}
use Rattle.pd_kinds.specs.Meaning.{thin_meaning}
use Rattle.pd_grammar.specs.ThinText.{SpellsPool}
use Rattle.pd_answers.specs.declared.request.Asked.TheVariants.{Text}
use Rattle.pd_answers.specs.QueryLines.{image_text}
use Rattle.pd_laws_answers.proofs.Asked.{answered_for, puts, puts_text}
use Rattle.std.specs.Prelude.{codes}
use Rattle.pd_answers.specs.declared.request.Request.TheVariants.{Query}
use Rattle.pd_answers.specs.Words.{is_flag, items_of, given, version_of, tool_in, request_of, asked}
use Rattle.pd_laws_answers.specs.Words.{IsName, to_file}
use Rattle.pd_laws_answers.proofs.words.thin_dump_puts_the_text.Goals as goal

thin_dump_asked : (file : Option (List ℕ)) (image : List ℕ) → IfSome file IsName → IsName image → asked (codes "thin_dump" ∷ (to_file file ++ (image ∷ []))) ≡ Some (Query (Text Thin) file image)
unfolding is_flag items_of given version_of tool_in request_of asked
thin_dump_asked None image is_file is_image = rw (is_image) refl
thin_dump_asked (Some file) image is_file is_image = rw (is_file, is_image) refl

pub returns : goal.returns
returns c = λ file image before after is_file is_image ends.
    puts_text Thin SpellsPool thin_meaning (image_text Thin) (λ held is none. c.thin_text_spells.ensures (thin_meaning held) (c.sound_pools_are_lawful.ensures held is none)) before after
    (puts (Text Thin) file image before after refl (answered_for _ _ 0 before after (thin_dump_asked file image is_file is_image) ends))
