use Rattle.pd_laws_answers.proofs.Asked.{answered_for}
use Rattle.std.proofs.Common.{◌≡◌, ℕ, List, [], ◌∷◌, Some, refl}
use Rattle.std.specs.Prelude.{codes}
use Rattle.pd_kinds.specs.declared.kind.Kind.{Kind}
use Rattle.pd_kinds.specs.declared.kind.Kind.TheVariants.{Thin, Cache, Era}
use Rattle.pd_answers.specs.declared.request.Request.TheVariants.{PassingCheck}
use Rattle.pd_answers.specs.Words.{is_flag, items_of, given, version_of, tool_in, request_of, asked}
use Rattle.pd_laws_answers.specs.Words.{IsName, check_name}
use Rattle.pd_laws_answers.proofs.words.checks_let_leaks_pass.Goals as goal

passing_asked : (kind : Kind) (image : List ℕ) → IsName image → asked (check_name kind ∷ codes "--ignore-non-fatal-errors" ∷ image ∷ []) ≡ Some (PassingCheck kind image)
unfolding is_flag items_of given version_of tool_in request_of asked
passing_asked Thin image is_image = rw is_image refl
passing_asked Cache image is_image = rw is_image refl
passing_asked Era image is_image = rw is_image refl

pub returns-clause-tells : goal.returns-clause-tells
returns-clause-tells c = λ kind image before after status is_image ends.
    c.passing_checks_tell_leaks.ensures.tells kind image before after status (answered_for _ _ status before after (passing_asked kind image is_image) ends)

pub returns-clause-nothing_lost : goal.returns-clause-nothing_lost
returns-clause-nothing_lost c = λ kind image before after is_image ends.
    c.passing_checks_tell_leaks.ensures.nothing_lost kind image before after (answered_for _ _ 0 before after (passing_asked kind image is_image) ends)
