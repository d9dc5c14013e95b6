use Rattle.std.proofs.Common.{ℕ, List, refl, ◌≡◌, [], ◌∷◌, ◌++◌, Option, Some, None, IfSome}
use Rattle.pd_kinds.specs.declared.kind.Kind.TheVariants.{Thin}
use Rattle.pd_laid.specs.Shape.{image_shape}
use Rattle.pd_laid.specs.PoolText.{SpellsPoolShape}
use Rattle.pd_laid.specs.PoolText.{text_of_shape}
use Rattle.pd_answers.specs.declared.request.Asked.TheVariants.{SharedText}
use Rattle.pd_laws_answers.proofs.Asked.{answered_for, puts, puts_text}
use Rattle.std.specs.Prelude.{codes}
use Rattle.pd_answers.specs.declared.request.Request.TheVariants.{Query}
use Rattle.pd_answers.specs.Words.{is_flag, items_of, given, version_of, tool_in, request_of, asked}
use Rattle.pd_laws_answers.specs.Words.{IsName, to_file}
use Rattle.pd_laws_answers.proofs.words.thin_shared_dump_puts_the_shape.Goals as goal

thin_shared_dump_asked : (file : Option (List ℕ)) (image : List ℕ) → IfSome file IsName → IsName image
    → asked (codes "thin_dump" ∷ codes "--shared" ∷ (to_file file ++ (image ∷ []))) ≡ Some (Query SharedText file image)
unfolding is_flag items_of given version_of tool_in request_of asked
thin_shared_dump_asked None image is_file is_image = rw (is_image) refl
thin_shared_dump_asked (Some file) image is_file is_image = rw (is_file, is_image) refl

pub returns : goal.returns
returns c = λ file image before after is_file is_image ends.
    let text_of = λ (held : List (List ℕ)). text_of_shape (image_shape held) in
    puts_text Thin SpellsPoolShape image_shape text_of
    (λ held is none. c.either_version_spells_a_shape.ensures.second (text_of held) (image_shape held) (c.sound_pools_have_a_shape.ensures.spelled held is none)) before after
    (puts SharedText file image before after refl (answered_for _ _ 0 before after (thin_shared_dump_asked file image is_file is_image) ends))
