-- What an answered search comes to, where what is laid of what is found is so.
use Rattle.std.proofs.Common.{◌≡◌, inl, inr, ⊎_elim, ℕ, ◌≤◌, Bool, false, List, length, Option, Some, None, IfSome, refl, sym, subst, arith}
use Rattle.std.proofs.lemmas.Bool.{cases_Bool, ltb-false}
use Rattle.std.proofs.lemmas.Option.{IfSome_then}
use Rattle.pd_kinds.specs.Crash.{HoldsSynced, LeavesOnly, IsOldNoneOrMade}
use Rattle.pd_kinds.specs.Image.{IsImage, room_of}
use Rattle.pd_kinds.specs.Meaning.{ThinPool}
use Rattle.pd_kinds.specs.Objects.{Appends}
use Rattle.pd_kinds.proofs.CrashLemmas.{weaken}
use Rattle.pd_grammar.specs.Lawful.{IsLawfulPool}
use Rattle.pd_grammar.specs.Need.{thin_need}
use Rattle.pd_laid.specs.FoundRoots.{AreBest, FoundRoots, IsFound, found_pool, lost_graph}
use Rattle.pd_laid.specs.Laid.{IsLaid}
use Rattle.pd_laid.specs.LaidThin.{laid_pool}
use Rattle.pd_answers.specs.Terms.{Objects, IsAnswered}
use Rattle.pd_answers.specs.Outputs.{Lays, Making, is_too_small, IsWorkDone}
use Rattle.pd_answers.specs.Promises.{terms_of}
use Rattle.pd_answers.specs.Repairs.{Saved, saved_making}
use Rattle.pd_answers.specs.declared.request.Request.TheVariants.{Search}
use Rattle.pd_answers.specs.DamagedStates.{damaged_states}
use Rattle.pd_answers.specs.Searches.{Searched, are_some, saved_from, search_answer, searched_answer, roots_line, seen_pool}
use Rattle.pd_laws_laid.specs.Clean.{IsCleanPool}
use Rattle.pd_laws_answers.specs.Search.{HasNoRoots, HoldsBest, HoldsFound, IsOfBest, IsPoolOf, LeavesFound, OfRoots}
use Rattle.pd_laws_answers.proofs.Restored.{Image, both_told, given_once_done}
use Rattle.pd_laws_answers.proofs.SeenLemmas.{seen_pool_lawful}

-- at the answer's status 0 there are roots, whose line it has, and there is room
record AreAnswered (making : Making) (found : Option FoundRoots) (are_damaged : Bool) (room : ℕ) : Type 0 where
  roots : FoundRoots
  same : found ≡ Some roots
  line : (search_answer making found are_damaged room).out ≡ roots_line roots
  enough : making.need room ≤ room

answered_at_zero : (making : Making) (found : Option FoundRoots) (are_damaged : Bool) (room : ℕ) → (search_answer making found are_damaged room).status ≡ 0
    → AreAnswered making found are_damaged room
answered_at_zero making None are_damaged room given = absurd (omega (arith, given))
answered_at_zero making (Some roots) are_damaged room given = elim (cases_Bool (is_too_small making room)) [
  | inl small ↦ absurd (four_zero (rw small at given))
  | inr enough ↦ record { roots = roots; same = refl; line = rw enough refl; enough = ltb-false room (making.need room) enough }
]
  where
    four_zero : (let four : ℕ = 4 in four ≡ 0) → ⊥
    four_zero e = omega arith

-- at its status 1 there are none
none_at_one : (making : Making) (found : Option FoundRoots) (are_damaged : Bool) (room : ℕ) → (search_answer making found are_damaged room).status ≡ 1 → found ≡ None
none_at_one making None are_damaged room given = refl
none_at_one making (Some roots) are_damaged room given = elim (cases_Bool (is_too_small making room)) [
  | inl small ↦ absurd (four_one (rw small at given))
  | inr enough ↦ absurd (zero_one (rw enough at given))
]
  where
    four_one : (let four : ℕ = 4 in four ≡ 1) → ⊥
    four_one e = omega arith

    zero_one : (let zero : ℕ = 0 in zero ≡ 1) → ⊥
    zero_one e = omega arith

-- what was found in an image
abbrev IsRight : (shared : Bool) → ℕ → ℕ → ℕ → Option FoundRoots → Bool → Saved shared → Image → Type 0
IsRight shared transaction block_size blocks found are_damaged saved image = IsFound (lost_graph image blocks) image found
    × (IfSome found (λ roots. saved ≡ saved_from shared (lost_graph image blocks) image transaction block_size roots)
    × (found ≡ None → are_damaged ≡ are_some (damaged_states (lost_graph image blocks) image)))

-- what holds of an image that is laid of what is saved from the best roots of another one
abbrev pub IsFoundSo : Bool → ℕ → ℕ → ℕ → OfRoots → Type 0
IsFoundSo shared transaction block_size blocks Made = (image base made : Image) (roots : FoundRoots) → IsImage image → AreBest (lost_graph image blocks) image roots
    → (saved_making shared (saved_from shared (lost_graph image blocks) image transaction block_size roots)).need (room_of (length base)) ≤ room_of (length base)
    → IsLaid ((saved_making shared (saved_from shared (lost_graph image blocks) image transaction block_size roots)).laid (room_of (length base))) base made → Made image roots made

module _ (shared : Bool) (transaction block_size blocks : ℕ) (Made : OfRoots) (so : IsFoundSo shared transaction block_size blocks Made) where
  abbrev Laid : Searched (Saved shared) → Image → Image → Type 0
  Laid searched = Lays (searched_answer (saved_making shared) searched) (saved_making shared searched.saved) searched.room

  -- what is laid of what was found
  of_roots : (image base made : Image) (searched : Searched (Saved shared)) (are : AreAnswered (saved_making shared searched.saved) searched.roots searched.are_damaged searched.room) → IsImage image
      → IsRight shared transaction block_size blocks searched.roots searched.are_damaged searched.saved image → searched.room ≡ room_of (length base)
      → Laid searched base made → IsOfBest blocks Made image made
  of_roots image base made searched are is right room laid =
      let told = rw are.same at right in
      record {
        roots = are.roots;
        best = told.0;
        pool = so image base made are.roots is told.0 (rw (told.1.0, room) at are.enough) (rw (told.1.0, room) at laid.1);
      }

  module _ (from to : List ℕ) (before after : Objects) where
    abbrev IsAnsweredSo : ℕ → Type 0
    IsAnsweredSo = IsAnswered (terms_of (Some (Search shared from to (record { transaction = transaction; block_size = block_size; blocks = blocks })))) before after

    -- what the output holds once the work is done
    pub holds_best : (status : ℕ) → IsAnsweredSo status → IsWorkDone before after status → HoldsBest blocks Made before after
    holds_best status answered done =
        let searched = answered.finding in
        let given = given_once_done (searched_answer (saved_making shared) searched).status status before after (λ low. (answered.sound low).status) answered.spared done in
        let are = answered_at_zero (saved_making shared searched.saved) searched.roots searched.are_damaged searched.room given in
        IfSome_then before.input.held answered.found.1 (λ image right is.
        IfSome_then before.output.held (both_told before.output.held (λ (base : Image). searched.room ≡ room_of (length base))
        (λ (base : Image). IfSome after.output.held (λ (made : Image). Laid searched base made × HoldsSynced made after.output))
        answered.found.0.told (answered.leaves.made done)) (λ base told.
        IfSome_then after.output.held told.1 (λ made held. (of_roots image base made searched are is right told.0 held.0, held.1))))

    -- and at status 0
    pub holds_found : IsAnsweredSo 0 → HoldsFound blocks Made before after
    unfolding of_roots
    holds_found answered =
        let searched = answered.finding in
        let given = answered.sound (omega arith) in
        let are = answered_at_zero (saved_making shared searched.saved) searched.roots searched.are_damaged searched.room (sym given.status) in
        IfSome_then before.input.held answered.found.1 (λ image right is.
        IfSome_then before.output.held (both_told before.output.held (λ (base : Image). searched.room ≡ room_of (length base))
        (λ (base : Image). IfSome after.output.held (λ (made : Image). Laid searched base made × HoldsSynced made after.output))
        answered.found.0.told (answered.leaves.output.output.made refl)) (λ base told.
        IfSome_then after.output.held told.1 (λ made held. record {
          found = of_roots image base made searched are is right told.0 held.0;
          synced = held.1;
          line = subst (λ (bytes : List ℕ). Appends bytes before.out.written after.out.written) are.line given.out;
        })))

    -- what a crash leaves
    pub leaves_found : (status : ℕ) → IsAnsweredSo status → LeavesFound blocks Made before after
    leaves_found status answered =
        let searched = answered.finding in
        IfSome_then before.input.held answered.found.1 (λ image right is.
        IfSome_then before.output.held (both_told before.output.held (λ (base : Image). searched.room ≡ room_of (length base))
        (λ (base : Image). LeavesOnly (IsOldNoneOrMade base (Laid searched base)) before.output after.output)
        answered.found.0.told answered.leaves.output.output.crash) (λ base told.
        weaken told.1 (λ left firsts outcome chance.
        ⊎_elim (λ old. inl old)
        (λ other. inr (⊎_elim (λ none. inl none)
        (λ laid. inr (of_roots image base left searched (answered_at_zero (saved_making shared searched.saved) searched.roots searched.are_damaged searched.room laid.0) is right told.0 laid)) other)) (outcome chance))))

-- and what status 1 says
pub says_none : (shared : Bool) (from to : List ℕ) (transaction block_size blocks : ℕ) (before after : Objects)
    → IsAnswered (terms_of (Some (Search shared from to (record { transaction = transaction; block_size = block_size; blocks = blocks })))) before after 1 → HasNoRoots blocks before after
says_none shared from to transaction block_size blocks before after answered =
    let searched = answered.finding in
    let none = none_at_one (saved_making shared searched.saved) searched.roots searched.are_damaged searched.room (sym (answered.sound (omega arith)).status) in (
      IfSome_then before.input.held answered.found.1 (λ image right. (rw none at right).0),
      answered.leaves.output.untouched (rw none refl),
    )

-- what is laid of a lawful pool is a clean image of it
module _ (transaction block_size blocks : ℕ)
    (lawful : (image : Image) (roots : FoundRoots) → IsImage image → AreBest (lost_graph image blocks) image roots
    → IsLawfulPool (found_pool (lost_graph image blocks) image transaction block_size roots))
    (clean : (m : ThinPool) (base image : Image) → IsLawfulPool m → thin_need m (room_of (length base)) ≤ room_of (length base)
    → IsLaid (laid_pool m (room_of (length base))) base image → IsCleanPool image m) where
  pub pools_found_so : IsFoundSo false transaction block_size blocks (IsPoolOf transaction block_size blocks)
  pools_found_so image base made roots is best enough laid =
      let found = found_pool (lost_graph image blocks) image transaction block_size roots in
      clean (seen_pool found) base made (seen_pool_lawful found (lawful image roots is best)) enough laid
