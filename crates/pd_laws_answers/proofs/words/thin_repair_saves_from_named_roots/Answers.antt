use Rattle.pd_laws_answers.proofs.Asked.{answered_for}
use Rattle.pd_laws_answers.proofs.Asked.{said_numbers_fit}
use Rattle.std.proofs.Common.{◌≡◌, ℕ, Bool, true, false, List, ◌∷◌, ◌++◌, Some, refl}
use Rattle.std.specs.Prelude.{codes}
use Rattle.pd_answers.specs.declared.request.Request.TheVariants.{RepairNamed}
use Rattle.pd_answers.specs.declared.request.GivenSuper.{GivenSuper}
use Rattle.pd_answers.specs.declared.request.NamedRoots.{NamedRoots}
use Rattle.pd_answers.specs.Words.{is_flag, items_of, given, given_super, named_roots, version_of, tool_in, request_of, asked}
use Rattle.pd_laws_answers.specs.Search.{RootWords, SayRoots, with_roots}
use Rattle.pd_laws_answers.specs.Search.{NumberWords, SayNumbers, with_numbers}
use Rattle.pd_laws_answers.specs.Words.{IsName, with_sharing}
use Rattle.pd_laws_answers.proofs.words.thin_repair_saves_from_named_roots.Goals as goal

named_repair_asked : (shared : Bool) (from to : List ℕ) (roots : RootWords) (words : NumberWords) (named : NamedRoots) (given : GivenSuper) → IsName from → IsName to → SayRoots roots named
    → SayNumbers words given
    → asked (codes "thin_repair" ∷ (with_sharing shared ++ (codes "-i" ∷ from ∷ codes "-o" ∷ to ∷ with_roots roots (with_numbers words))))
    ≡ Some (RepairNamed shared from to given named)
unfolding is_flag items_of given version_of tool_in request_of asked given_super named_roots
named_repair_asked false from to roots words named given is_from is_to roots_say say =
    rw (is_from, is_to, roots_say.names.0, roots_say.names.1, say.names.0, say.names.1.0, say.names.1.1, roots_say.top_is, roots_say.details_is, say.transaction_is, say.block_size_is, say.blocks_is) refl
named_repair_asked true from to roots words named given is_from is_to roots_say say =
    rw (is_from, is_to, roots_say.names.0, roots_say.names.1, say.names.0, say.names.1.0, say.names.1.1, roots_say.top_is, roots_say.details_is, say.transaction_is, say.block_size_is, say.blocks_is) refl

pub returns-clause-made : goal.returns-clause-made
returns-clause-made c shared from to roots words named given before after is_from is_to roots_say say ends =
    c.named_repair_is_clean.ensures.holds shared from to given named before after (said_numbers_fit words given say)
    (answered_for _ _ 0 before after (named_repair_asked shared from to roots words named given is_from is_to roots_say say) ends)

pub returns-clause-never : goal.returns-clause-never
returns-clause-never c shared from to roots words named given before after is_from is_to roots_say say ends =
    let answered = answered_for _ _ 1 before after (named_repair_asked shared from to roots words named given is_from is_to roots_say say) ends in
    let possible = answered.possible in
    absurd cc

pub returns-clause-seen : goal.returns-clause-seen
returns-clause-seen c shared from to roots words named given before after is_from is_to roots_say say ends =
    c.named_pool_sees_sharing.ensures shared from to given named before after (said_numbers_fit words given say)
    (answered_for _ _ 0 before after (named_repair_asked shared from to roots words named given is_from is_to roots_say say) ends)
