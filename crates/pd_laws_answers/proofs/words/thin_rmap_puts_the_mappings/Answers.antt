use Rattle.std.proofs.Common.{refl, ◌≡◌, ℕ, List, [], ◌∷◌, ◌++◌, Option, Some, None, IfSome}
use Rattle.pd_answers.specs.declared.request.Asked.TheVariants.{ReverseMap}
use Rattle.pd_laws_answers.proofs.Asked.{answered_for, puts}
use Rattle.std.specs.Prelude.{codes}
use Rattle.pd_answers.specs.declared.request.Request.TheVariants.{Query}
use Rattle.pd_answers.specs.Words.{Region, is_flag, items_of, given, version_of, region_of, tool_in, request_of, asked}
use Rattle.pd_laws_answers.specs.Words.{IsName, to_file}
use Rattle.pd_laws_answers.proofs.words.thin_rmap_puts_the_mappings.Goals as goal

thin_rmap_asked : (word : List ℕ) (region : Region) (file : Option (List ℕ)) (image : List ℕ) → IsName word → region_of word ≡ Some region → IfSome file IsName → IsName image
    → asked (codes "thin_rmap" ∷ codes "--region" ∷ word ∷ (to_file file ++ (image ∷ []))) ≡ Some (Query (ReverseMap region.first region.end) file image)
unfolding is_flag items_of given version_of tool_in request_of asked
thin_rmap_asked word region None image is_word is is_file is_image = rw (is_word, is_image, is) refl
thin_rmap_asked word region (Some file) image is_word is is_file is_image = rw (is_word, is_file, is_image, is) refl

pub returns : goal.returns
returns c = λ word region file image before after is_word is is_file is_image ends.
    puts (ReverseMap region.first region.end) file image before after refl
    (answered_for _ _ 0 before after (thin_rmap_asked word region file image is_word is is_file is_image) ends)
