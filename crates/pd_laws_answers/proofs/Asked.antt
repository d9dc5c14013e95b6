-- What an answered call at status 0 comes to, by the request that its words ask.
use Rattle.std.proofs.Common.{◌≡◌, inl, inr, ℕ, List, [], length, nat_eq, Option, IfSome, refl, sym, ap, subst, ◌∙◌, arith, ◌⊎◌, ◌+◌, ◌^◌, ◌<◌, ◌≤◌, ◌==◌, ◌&&◌, if◌then◌else◌, Bool, true, false, nat_lt, ◌∷◌, ◌++◌, Some, None, option_and_then}
use Rattle.std.proofs.lemmas.Bool.{cases_Bool, eqb-true, and_parts, ltb-true}
use Rattle.std.proofs.lemmas.Option.{IfSome_then, same_Some}
use Rattle.std.specs.Prelude.{codes, decimal}
use Rattle.std.specs.Str.Parse.{digits_value}
use Rattle.std.specs.Str.{bytes_eq}
use Rattle.pd_kinds.specs.declared.kind.Kind.{Kind}
use Rattle.pd_kinds.specs.declared.kind.Stage.{Stage}
use Rattle.pd_kinds.specs.declared.kind.Stage.TheVariants.{Whole}
use Rattle.pd_kinds.specs.Image.{IsImage, room_of}
use Rattle.pd_kinds.specs.Objects.{Appends}
use Rattle.pd_kinds.specs.Rule.{Reported}
use Rattle.pd_kinds.specs.Stages.{faults}
use Rattle.pd_kinds.specs.Crash.{HoldsSynced}
use Rattle.pd_kinds.specs.Meaning.{ThinPool}
use Rattle.pd_kinds.specs.declared.kind.Flagged.{Flagged}
use Rattle.pd_kinds.specs.declared.kind.Passing.{Passing}
use Rattle.pd_kinds.specs.declared.kind.Passing.TheVariants.{Nothing, Leaks}
use Rattle.pd_kinds.specs.Flagged.{kind_of}
use Rattle.pd_kinds.specs.declared.kind.Flagged.TheVariants as flagged
use Rattle.pd_grammar.specs.ThinText.{SpellsPool}
use Rattle.pd_laid.specs.LaidThin.{laid_shape}
use Rattle.pd_laid.specs.Laid.{Makes}
use Rattle.pd_laid.specs.Shape.{ThinShape, shape_of}
use Rattle.pd_laid.specs.PoolText.{IsPoolTextVerdict, SpellsPoolShape, is_pool_text_early, shape_need}
use Rattle.pd_answers.specs.Terms.{Objects, IsAnswered}
use Rattle.pd_answers.specs.Promises.{Queried, query, query_answer, terms_of}
use Rattle.pd_answers.specs.declared.request.Asked.{Asked}
use Rattle.pd_answers.specs.QueryLines.{asked_kind, asked_stage, asked_text}
use Rattle.pd_answers.specs.Requests.{Request}
use Rattle.pd_answers.specs.Words.{asked, is_flag, items_of, given, given_super, version_of, generated_number, number_below, tool_in, request_of}
use Rattle.pd_answers.specs.Rehearsals.{generated_text, rehearse}
use Rattle.pd_answers.specs.Outputs.{IsWorkDone}
use Rattle.pd_answers.specs.declared.request.GivenSuper.{GivenSuper}
use Rattle.pd_answers.specs.declared.request.Request.TheVariants.{CheckAndClear, Repair, Search, Shrink}
use Rattle.pd_laws_answers.proofs.Restored.{AreLaws, both_told, made_of_text, none_counted, unshared_of_text}
use Rattle.pd_laws_answers.specs.Exact.{IsCleanShape}
use Rattle.pd_laws_answers.specs.Words.{CallEnds, HoldsGenerated, PutsOfInput, PutsSpelled, IsName, IsVersionSaid, check_name, letting_pass, with_sharing}
use Rattle.pd_laws_answers.specs.Saved.{IsVersionAsked}
use Rattle.pd_laws_answers.specs.Search.{DoNumbersFit, NumberWords, SayNumbers, with_numbers}

abbrev Image : Type 0
Image = List (List ℕ)

-- a call was answered for the request that its words ask
pub answered_for : (words : List (List ℕ)) (request : Option Request) (status : ℕ) (before after : Objects) → asked words ≡ request → CallEnds words status before after
    → IsAnswered (terms_of request) before after status
answered_for words request status before after is ends = subst (λ (r : Option Request). IsAnswered (terms_of r) before after status) is ends

-- a query's answer is of status 0 where nothing was reported, and then its text is put
is_queried : (queried : Queried) → (let zero : ℕ = 0 in zero ≡ (query_answer queried).status)
    → (queried.report.total ≡ 0) × ((query_answer queried).out ≡ queried.text)
is_queried queried zero = elim (cases_Bool (nat_eq queried.report.total 0)) [
  | inl none ↦ (eqb-true queried.report.total 0 none, rw none refl)
  | inr some ↦ absurd (zero_one (rw some at zero))
]
  where
    zero_one : (let zero : ℕ = 0 in zero ≡ 1) → ⊥
    zero_one e = omega arith

module _ (q : Asked) (file : Option (List ℕ)) (path : List ℕ) (before after : Objects) where
  pub answers : IsAnswered (query q file path) before after 0
      → IfSome before.input.held (λ image. (faults (asked_kind q) (asked_stage q) image ≡ []) × Appends (asked_text q image) before.out.written after.out.written)
  answers answered =
      let given = answered.sound (omega arith) in
      let is = is_queried answered.finding given.status in
      IfSome_then before.input.held answered.found (λ image right. (
        none_counted (faults (asked_kind q) (asked_stage q) image) (sym (ap (λ (r : Reported). r.total) right.0) ∙ is.0),
        subst (λ (bytes : List ℕ). Appends bytes before.out.written after.out.written) (is.1 ∙ right.1) given.out,
      ))

  pub puts : asked_stage q ≡ Whole → IsAnswered (query q file path) before after 0 → PutsOfInput (asked_kind q) (asked_text q) before after
  puts whole answered = IfSome_then before.input.held (answers answered) (λ image is. record {
    sound = subst (λ (stage : Stage). faults (asked_kind q) stage image ≡ []) whole is.0;
    put = is.1;
  })

-- what a dump puts spells what the image means
module _ {M : Type 0} (kind : Kind) (Spells : List ℕ → M → Type 0) (meaning_of : Image → M) (text_of : Image → List ℕ)
    (spells : (image : Image) → IsImage image → faults kind Whole image ≡ [] → Spells (text_of image) (meaning_of image)) where
  pub puts_text : (before after : Objects) → PutsOfInput kind text_of before after
      → IfSome before.input.held (λ image. PutsSpelled kind Spells (meaning_of image) (text_of image) image before after)
  puts_text before after put = IfSome_then before.input.held put (λ image is. record { text = is; spells = λ image_is. spells image image_is is.sound })

-- what a rehearsal's output holds
pub holds_generated : AreLaws IsPoolTextVerdict laid_shape SpellsPoolShape shape_need IsCleanShape
    → ((text : List ℕ) (w x : ThinShape) → SpellsPoolShape text w → SpellsPoolShape text x → w ≡ x)
    → (number : ℕ) (m : ThinPool) → SpellsPool (generated_text number) m → SpellsPoolShape (generated_text number) (shape_of m)
    → (path : List ℕ) (before after : Objects) (status : ℕ) → IsAnswered (rehearse number path) before after status → IsWorkDone before after status → HoldsGenerated number before after
holds_generated laws one number m pool shape path before after status answered done =
    let found = answered.finding in
    let text = generated_text number in
    IfSome_then before.output.held (both_told before.output.held (λ (base : Image). found.room ≡ room_of (length base))
    (λ (base : Image). IfSome after.output.held (λ (image : Image). Makes laid_shape found.room found.verdict base image × HoldsSynced image after.output))
    answered.found.0.told (answered.leaves.made done)) (λ base told.
    IfSome_then after.output.held told.1 (λ image held.
    let made = made_of_text IsPoolTextVerdict is_pool_text_early laid_shape SpellsPoolShape shape_need IsCleanShape laws text base image found.room found.verdict answered.found.1.0 told.0 held.0 in
    (unshared_of_text one text m image pool shape made, held.1)))

-- What the words of tools ask, where more than one law cites it, and which numbers they say.

pub clearing_asked : (flagged : Flagged) (passing : Passing) (image : List ℕ) → IsName image
    → asked (check_name (kind_of flagged) ∷ (letting_pass passing ++ (codes "--clear-needs-check-flag" ∷ image ∷ []))) ≡ Some (CheckAndClear flagged passing image)
unfolding is_flag items_of given version_of tool_in request_of asked
clearing_asked flagged.Pool Nothing image is_image = rw is_image refl
clearing_asked flagged.Pool Leaks image is_image = rw is_image refl
clearing_asked flagged.Cache Nothing image is_image = rw is_image refl
clearing_asked flagged.Cache Leaks image is_image = rw is_image refl

pub thin_repair_asked : (shared : Bool) (from to : List ℕ) → IsName from → IsName to
    → asked (codes "thin_repair" ∷ (with_sharing shared ++ (codes "-i" ∷ from ∷ codes "-o" ∷ to ∷ []))) ≡ Some (Repair shared from to)
unfolding is_flag items_of given version_of tool_in request_of asked
thin_repair_asked false from to is_from is_to = rw (is_from, is_to) refl
thin_repair_asked true from to is_from is_to = rw (is_from, is_to) refl

pub thin_search_asked : (shared : Bool) (from to : List ℕ) (words : NumberWords) (numbers : GivenSuper) → IsName from → IsName to → SayNumbers words numbers
    → asked (codes "thin_repair" ∷ (with_sharing shared ++ (codes "-i" ∷ from ∷ codes "-o" ∷ to ∷ with_numbers words))) ≡ Some (Search shared from to numbers)
unfolding is_flag items_of given version_of tool_in request_of asked given_super
thin_search_asked false from to words numbers is_from is_to say =
    rw (is_from, is_to, say.names.0, say.names.1.0, say.names.1.1, say.transaction_is, say.block_size_is, say.blocks_is) refl
thin_search_asked true from to words numbers is_from is_to say =
    rw (is_from, is_to, say.names.0, say.names.1.0, say.names.1.1, say.transaction_is, say.block_size_is, say.blocks_is) refl

-- the numbers that words say fit a superblock
below_bound : (bound : ℕ) (word : List ℕ) (number : ℕ) → number_below bound word ≡ Some number → number < bound
unfolding number_below
below_bound bound word number is = elim (cases_Bool (nat_lt (digits_value 10 word) bound && bytes_eq word (decimal (digits_value 10 word)))) [
  | inl small ↦
      let same = same_Some (digits_value 10 word) number (rw small at is) in
      let below = ltb-true (digits_value 10 word) bound (and_parts _ _ small).0 in
      omega arith
  | inr other ↦ absurd (nothing number (rw other at is))
]
  where
    nothing : (number : ℕ) → (let none : Option ℕ = None in none ≡ Some number) → ⊥
    nothing number is = cc

-- a generator's number is at most 10000
above_zero : (o : Option ℕ) (number : ℕ) → option_and_then (λ (n : ℕ). if n == 0 then None else Some n) o ≡ Some number → o ≡ Some number
above_zero None number is = is
above_zero (Some n) number is = elim (cases_Bool (nat_eq n 0)) [
  | inl none ↦ absurd (nothing number (rw none at is))
  | inr some ↦ rw some at is
]
  where
    nothing : (number : ℕ) → (let none : Option ℕ = None in none ≡ Some number) → ⊥
    nothing number is = cc

pub generated_few : (word : List ℕ) (number : ℕ) → generated_number word ≡ Some number → number ≤ 10000
unfolding generated_number
generated_few word number is =
    let below = below_bound 10001 word number (above_zero (number_below 10001 word) number is) in
    omega arith

pub said_numbers_fit : (words : NumberWords) (given : GivenSuper) → SayNumbers words given → DoNumbersFit given.transaction given.block_size given.blocks
said_numbers_fit words given say =
    let few = below_bound (2 ^ 40 + 1) words.blocks given.blocks say.blocks_is in
    record {
      transaction_fits = below_bound (2 ^ 64) words.transaction given.transaction say.transaction_is;
      block_size_fits = below_bound (2 ^ 32) words.block_size given.block_size say.block_size_is;
      blocks_fit = omega arith;
    }

pub thin_shrink_asked : (shared : Bool) (from to pool word : List ℕ) (blocks : ℕ) → IsName from → IsName to → IsName pool → IsName word → number_below (2 ^ 64) word ≡ Some blocks
    → asked (codes "thin_shrink" ∷ (with_sharing shared ++ (codes "-i" ∷ from ∷ codes "-o" ∷ to ∷ codes "--data" ∷ pool ∷ codes "--nr-blocks" ∷ word ∷ []))) ≡ Some (Shrink shared from to pool blocks)
unfolding is_flag items_of given version_of tool_in request_of asked
thin_shrink_asked false from to pool word blocks is_from is_to is_pool is_word is = rw (is_from, is_to, is_pool, is_word, is) refl
thin_shrink_asked true from to pool word blocks is_from is_to is_pool is_word is = rw (is_from, is_to, is_pool, is_word, is) refl

-- a word names version 1 or 2, and without one it is 1
pub known_version : (word : Option (List ℕ)) (version : ℕ) → version_of word ≡ Some version → (version ≡ 1) ⊎ (version ≡ 2)
unfolding version_of
known_version None version is = inl (sym (same_Some 1 version is))
known_version (Some word) version is = elim (cases_Bool (bytes_eq word (codes "1"))) [
  | inl one ↦ inl (sym (same_Some 1 version (rw one at is)))
  | inr other ↦ elim (cases_Bool (bytes_eq word (codes "2"))) [
    | inl two ↦ inr (sym (same_Some 2 version (rw (other, two) at is)))
    | inr none ↦ absurd (nothing version (rw (other, none) at is))
  ]
]
  where
    nothing : (version : ℕ) → (let none : Option ℕ = None in none ≡ Some version) → ⊥
    nothing version is = cc

-- so does one that may be left out
pub version_asked : (word : Option (List ℕ)) (version : Option ℕ) → IsVersionSaid word version → IsVersionAsked version
version_asked None None is = tt
version_asked None (Some version) is = absurd is
version_asked (Some word) None is = absurd is
version_asked (Some word) (Some version) is = known_version (Some word) version is.1
