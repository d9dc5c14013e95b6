use Rattle.std.proofs.Common.{None, Some, ◌≡◌, ℕ, Bool, true, false, List, ◌∷◌, ◌++◌, refl}
use Rattle.pd_laws_answers.proofs.Asked.{answered_for}
use Rattle.pd_laws_answers.proofs.NamedTold.{named_put, no_states, states_put}
use Rattle.std.specs.Prelude.{codes}
use Rattle.pd_answers.specs.declared.request.Request.TheVariants.{DrySearch}
use Rattle.pd_answers.specs.Words.{is_flag, items_of, given, given_super, version_of, tool_in, request_of, asked, named_roots}
use Rattle.pd_laws_answers.specs.Search.{NumberWords, SayNumbers, with_numbers}
use Rattle.pd_laws_answers.specs.Words.{IsName, with_sharing}
use Rattle.pd_answers.specs.declared.request.GivenSuper.{GivenSuper}
use Rattle.pd_answers.specs.declared.request.NamedRoots.{NamedRoots}
use Rattle.pd_laws_answers.specs.Search.{RootWords, SayRoots, with_roots}
use Rattle.pd_laws_answers.proofs.words.thin_repair_tells_the_states.Goals as goal

dry_search_asked : (shared : Bool) (image : List ℕ) (words : NumberWords) (given : GivenSuper) → IsName image → SayNumbers words given
    → asked (codes "thin_repair" ∷ codes "--dry-run" ∷ (with_sharing shared ++ (codes "-i" ∷ image ∷ with_numbers words)))
    ≡ Some (DrySearch image given None)
unfolding is_flag items_of given version_of tool_in request_of asked given_super
dry_search_asked false image words given is_image say =
    rw (is_image, say.names.0, say.names.1.0, say.names.1.1, say.transaction_is, say.block_size_is, say.blocks_is) refl
dry_search_asked true image words given is_image say =
    rw (is_image, say.names.0, say.names.1.0, say.names.1.1, say.transaction_is, say.block_size_is, say.blocks_is) refl

dry_named_asked : (shared : Bool) (image : List ℕ) (roots : RootWords) (words : NumberWords) (named : NamedRoots) (given : GivenSuper) → IsName image → SayRoots roots named
    → SayNumbers words given
    → asked (codes "thin_repair" ∷ codes "--dry-run" ∷ (with_sharing shared ++ (codes "-i" ∷ image ∷ with_roots roots (with_numbers words))))
    ≡ Some (DrySearch image given (Some named))
unfolding is_flag items_of given version_of tool_in request_of asked given_super named_roots
dry_named_asked false image roots words named given is_image roots_say say =
    rw (is_image, roots_say.names.0, roots_say.names.1, say.names.0, say.names.1.0, say.names.1.1, roots_say.top_is, roots_say.details_is, say.transaction_is, say.block_size_is, say.blocks_is) refl
dry_named_asked true image roots words named given is_image roots_say say =
    rw (is_image, roots_say.names.0, roots_say.names.1, say.names.0, say.names.1.0, say.names.1.1, roots_say.top_is, roots_say.details_is, say.transaction_is, say.block_size_is, say.blocks_is) refl

pub returns-clause-told : goal.returns-clause-told
returns-clause-told c shared image words given before after is_image say ends =
    states_put image _ before after (answered_for _ _ 0 before after (dry_search_asked shared image words given is_image say) ends)

pub returns-clause-none : goal.returns-clause-none
returns-clause-none c shared image words given before after is_image say ends =
    no_states c.first_state_is_the_best.ensures image _ before after (answered_for _ _ 1 before after (dry_search_asked shared image words given is_image say) ends)

pub returns-clause-named : goal.returns-clause-named
returns-clause-named c shared image roots words named given before after is_image roots_say say ends =
    named_put image _ named before after (answered_for _ _ 0 before after (dry_named_asked shared image roots words named given is_image roots_say say) ends)

pub returns-clause-never : goal.returns-clause-never
returns-clause-never c shared image roots words named given before after is_image roots_say say ends =
    let answered = answered_for _ _ 1 before after (dry_named_asked shared image roots words named given is_image roots_say say) ends in
    let possible = answered.possible in
    absurd cc
