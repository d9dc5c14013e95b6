-- What an answered dry run without a superblock has told.
use Rattle.std.proofs.Common.{◌≡◌, ℕ, List, [], ◌∷◌, Option, Some, None, refl, sym, ◌∙◌, subst, arith}
use Rattle.std.proofs.lemmas.Option.{IfSome_then, same_Some}
use Rattle.pd_kinds.specs.Objects.{Appends}
use Rattle.pd_laid.specs.FoundRoots.{FoundRoots, IsFound, lost_graph}
use Rattle.pd_answers.specs.Terms.{IsGiven, Objects, IsAnswered}
use Rattle.pd_answers.specs.KeptLines.{told_from, told_text}
use Rattle.pd_answers.specs.DamagedStates.{damaged_states}
use Rattle.pd_answers.specs.FoundStates.{states}
use Rattle.pd_answers.specs.NamedRepairs.{dry_search, dry_search_answer, text_of_states, named_fields}
use Rattle.pd_answers.specs.declared.request.GivenSuper.{GivenSuper}
use Rattle.pd_answers.specs.declared.request.NamedRoots.{NamedRoots}
use Rattle.pd_scan.specs.Pairs.{first_of}
use Rattle.pd_laws_answers.specs.Search.{HasNoStates, TellsNamed, TellsStates}

abbrev Image : Type 0
Image = List (List ℕ)

-- at status 0 there is a text, and it was put
record IsPutText (found : Option (List ℕ)) (before after : Objects) : Type 0 where
  text : List ℕ
  is : found ≡ Some text
  put : Appends text before.out.written after.out.written

text_put : (found : Option (List ℕ)) (before after : Objects) → IsGiven before after 0 (dry_search_answer found) → IsPutText found before after
text_put None before after given = let zero = given.status in absurd (omega arith)
text_put (Some text) before after given = record { text = text; is = refl; put = given.out }

pub states_put : (path : List ℕ) (given : GivenSuper) (before after : Objects) → IsAnswered (dry_search path given None) before after 0 → TellsStates given before after
states_put path given before after answered =
    let put = text_put answered.finding before after (answered.sound (omega arith)) in
    IfSome_then before.input.held answered.found (λ image found. record { text = put.text; is = sym found ∙ put.is; put = put.put })

pub named_put : (path : List ℕ) (given : GivenSuper) (named : NamedRoots) (before after : Objects) → IsAnswered (dry_search path given (Some named)) before after 0 → TellsNamed given named before after
named_put path given named before after answered =
    let put = text_put answered.finding before after (answered.sound (omega arith)) in
    IfSome_then before.input.held answered.found (λ image found.
    subst (λ (text : List ℕ). Appends text before.out.written after.out.written) (same_Some put.text (told_text (told_from (named_fields image given named) image)) (sym put.is ∙ found)) put.put)

-- at status 1 there is none
none_found : (found : Option (List ℕ)) (before after : Objects) → IsGiven before after 1 (dry_search_answer found) → found ≡ None
none_found None before after given = refl
none_found (Some text) before after given = let one = given.status in absurd (omega arith)

without_text : (image : Image) (given : GivenSuper) (sound damaged : List FoundRoots) → text_of_states image given sound damaged ≡ None → (sound ≡ []) × (damaged ≡ [])
without_text image given [] [] none = (refl, refl)
without_text image given [] (best ∷ others) none = absurd cc
without_text image given (best ∷ others) damaged none = absurd cc

pub no_states : ((image : Image) (data_blocks : ℕ) → IsFound (lost_graph image data_blocks) image (first_of (states (lost_graph image data_blocks) image)))
    → (path : List ℕ) (given : GivenSuper) (before after : Objects) → IsAnswered (dry_search path given None) before after 1 → HasNoStates given before
no_states best path given before after answered =
    let none = none_found answered.finding before after (answered.sound (omega arith)) in
    IfSome_then before.input.held answered.found (λ image found.
    let graph = lost_graph image given.blocks in
    let without = without_text image given (states graph image) (damaged_states graph image) (sym found ∙ none) in
    (subst (λ (some : List FoundRoots). IsFound graph image (first_of some)) without.0 (best image given.blocks), without.1))
