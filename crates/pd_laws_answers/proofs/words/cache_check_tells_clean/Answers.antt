use Rattle.pd_kinds.specs.declared.kind.Kind.TheVariants.{Cache}
use Rattle.pd_laws_answers.proofs.Asked.{answered_for}
use Rattle.std.proofs.Common.{◌≡◌, ℕ, List, [], ◌∷◌, Some, refl}
use Rattle.std.specs.Prelude.{codes}
use Rattle.pd_kinds.specs.declared.kind.Stage.TheVariants.{Counts}
use Rattle.pd_answers.specs.declared.request.Request.TheVariants.{Check}
use Rattle.pd_answers.specs.Words.{is_flag, items_of, given, version_of, tool_in, request_of, asked}
use Rattle.pd_laws_answers.specs.Words.{IsName}
use Rattle.pd_laws_answers.proofs.words.cache_check_tells_clean.Goals as goal

cache_check_asked : (image : List ℕ) → IsName image → asked (codes "cache_check" ∷ image ∷ []) ≡ Some (Check Cache Counts image)
unfolding is_flag items_of given version_of tool_in request_of asked
cache_check_asked image is_image = rw is_image refl

pub returns : goal.returns
returns c = λ image before after status is_image ends.
    c.checks_tell_clean_images.ensures Cache image before after status (answered_for _ _ status before after (cache_check_asked image is_image) ends)
