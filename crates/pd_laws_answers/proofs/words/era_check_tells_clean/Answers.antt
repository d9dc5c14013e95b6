use Rattle.pd_kinds.specs.declared.kind.Kind.TheVariants.{Era}
use Rattle.pd_laws_answers.proofs.Asked.{answered_for}
use Rattle.std.proofs.Common.{◌≡◌, ℕ, List, [], ◌∷◌, Some, refl}
use Rattle.std.specs.Prelude.{codes}
use Rattle.pd_kinds.specs.declared.kind.Stage.TheVariants.{Counts}
use Rattle.pd_answers.specs.declared.request.Request.TheVariants.{Check}
use Rattle.pd_answers.specs.Words.{is_flag, items_of, given, version_of, tool_in, request_of, asked}
use Rattle.pd_laws_answers.specs.Words.{IsName}
use Rattle.pd_laws_answers.proofs.words.era_check_tells_clean.Goals as goal

era_check_asked : (image : List ℕ) → IsName image → asked (codes "era_check" ∷ image ∷ []) ≡ Some (Check Era Counts image)
unfolding is_flag items_of given version_of tool_in request_of asked
era_check_asked image is_image = rw is_image refl

pub returns : goal.returns
returns c = λ image before after status is_image ends.
    c.checks_tell_clean_images.ensures Era image before after status (answered_for _ _ status before after (era_check_asked image is_image) ends)
