use Rattle.std.proofs.Common.{refl, ◌≡◌, ℕ, ◌^◌, List, [], ◌∷◌, ◌++◌, Option, Some, None, IfSome}
use Rattle.pd_answers.specs.declared.request.Asked.TheVariants.{Since}
use Rattle.pd_laws_answers.proofs.Asked.{answered_for, puts}
use Rattle.std.specs.Prelude.{codes}
use Rattle.pd_answers.specs.declared.request.Request.TheVariants.{Query}
use Rattle.pd_answers.specs.Words.{is_flag, items_of, given, version_of, number_below, tool_in, request_of, asked}
use Rattle.pd_laws_answers.specs.Words.{IsName, to_file}
use Rattle.pd_laws_answers.proofs.words.era_invalidate_puts_the_written_blocks.Goals as goal

era_invalidate_asked : (word : List ℕ) (era : ℕ) (file : Option (List ℕ)) (image : List ℕ) → IsName word → number_below (2 ^ 32) word ≡ Some era → IfSome file IsName → IsName image
    → asked (codes "era_invalidate" ∷ codes "--written-since" ∷ word ∷ (to_file file ++ (image ∷ []))) ≡ Some (Query (Since era) file image)
unfolding is_flag items_of given version_of tool_in request_of asked
era_invalidate_asked word era None image is_word is is_file is_image = rw (is_word, is_image, is) refl
era_invalidate_asked word era (Some file) image is_word is is_file is_image = rw (is_word, is_file, is_image, is) refl

pub returns : goal.returns
returns c = λ word era file image before after is_word is is_file is_image ends.
    puts (Since era) file image before after refl
    (answered_for _ _ 0 before after (era_invalidate_asked word era file image is_word is is_file is_image) ends)
