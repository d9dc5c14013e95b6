-- A pool or a cache whose flag "needs check" was cleared is alike to the one that it was.
use Rattle.std.proofs.Common.{◌≡◌, ◌↔◌, ◌⊎◌, ℕ, ◌≤◌, Bool, true, false, cond, List, [], length, IfSome, refl, sym, ap, subst, ◌∙◌, arith, eq-eqb, inl, inr, ⊎_elim, ◌^◌, ◌<◌, ◌%◌, ◌==◌, ◌∷◌, drop, get_or, Option}
use Rattle.std.proofs.lemmas.Bool.{eqb-true, cases_Bool, ne_eqb}
use Rattle.std.proofs.lemmas.Option.{IfSome_then}
use Rattle.std.specs.Int.{bit_at}
use Rattle.std.proofs.lemmas.List.Elements.{All-head}
use Rattle.pd_kinds.specs.declared.rule.Fault.{Fault}
use Rattle.pd_kinds.specs.declared.kind.Flagged.{Flagged}
use Rattle.pd_kinds.specs.declared.kind.Kind.{Kind}
use Rattle.pd_kinds.specs.declared.kind.Passing.{Passing}
use Rattle.pd_kinds.specs.declared.kind.Passing.TheVariants.{Nothing, Leaks}
use Rattle.pd_kinds.specs.declared.kind.Stage.TheVariants.{Counts}
use Rattle.pd_kinds.specs.Flagged.{kind_of}
use Rattle.pd_kinds.specs.Leaks.{AreLeaks, OnlyLeaks}
use Rattle.pd_kinds.specs.Rule.{Reported, passes, report_of}
use Rattle.pd_kinds.specs.Stages.{IsClean, faults}
use Rattle.pd_kinds.specs.declared.kind.Flagged.TheVariants.{Pool, Cache}
use Rattle.pd_kinds.specs.Field.{has_checksum, le, put}
use Rattle.pd_kinds.specs.Crash.{HoldsSynced, LeavesOnly}
use Rattle.pd_kinds.specs.Image.{IsImage}
use Rattle.pd_kinds.specs.Meaning.{cache_meaning}
use Rattle.pd_kinds.specs.Super.{salt_of}
use Rattle.pd_kinds.proofs.CrashLemmas.{weaken}
use Rattle.pd_kinds.proofs.FieldLemmas.{drop-put, le-lt, le-put, length-put}
use Rattle.pd_kinds.proofs.WrittenLemmas.{drop-sealed, le-sealed_other}
use Rattle.pd_kinds.proofs.ListLemmas.{all_from}
use Rattle.pd_answers.specs.Terms.{IsGiven, NoFaults, Objects}
use Rattle.pd_answers.specs.Promises.{check_answer}
use Rattle.pd_answers.specs.Flag.{IsOldOrCleared, IsOldOrClearedSuper, cleared, cleared_super, flag_bit, flags_without, is_flag_set, needs_check}
use Rattle.pd_laws_laid.proofs.Bytes.{bytes_put, valid_sealed}
use Rattle.pd_laws_changed.specs.Known.{AreAlike}
use Rattle.pd_laws_answers.specs.Exact.{IsCheckAnswered, IsClearingAnswered, IsPassed, IsPassingAnswered, TellsClean, TellsPassed, HoldsCleared, IsCleared, IsOldOrPassedSuper, LeavesOldOrCleared, LeavesTornAtMost}
use Rattle.pd_laws_answers.proofs.Restored.{none_counted, both_told}

-- What an answered check to its end says of the image.

-- the status of a report that passes
zero_if : (b : Bool) → (let zero : ℕ = 0 in zero ≡ cond b 0 1) → b ≡ true
zero_if true zero = refl
zero_if false zero = absurd (omega (arith, zero))

-- what a report to the end says, where the answer is that of a check
tells : (passing : Passing) (kind : Kind) → ((image : List (List ℕ)) → (passes passing (report_of (faults kind Counts image)) ≡ true) ↔ IsPassed passing kind image)
    → (before after : Objects) (status : ℕ) (report : Reported) → IfSome before.input.held (λ image. report ≡ report_of (faults kind Counts image))
    → (status ≤ 4 → IsGiven before after status (check_answer passing report)) → (NoFaults before after → (status ≡ (check_answer passing report).status) ⊎ (status ≡ 7))
    → IfSome before.input.held (TellsPassed passing kind before after status)
tells passing kind law before after status report found sound complete = IfSome_then before.input.held found (λ image is.
    let passed = passes passing (report_of (faults kind Counts image)) in
    let answer : (check_answer passing report).status ≡ cond passed 0 1 = ap (λ (r : Reported). cond {A = ℕ} (passes passing r) 0 1) is in
    let good : passed ≡ true → (check_answer passing report).status ≡ 0 = λ passes. answer ∙ ap (λ (b : Bool). cond {A = ℕ} b 0 1) passes in
    record {
      passed = λ zero.
          let given = (sound (omega (arith, zero))).status in
          (law image).0 (zero_if passed (sym zero ∙ (given ∙ answer)));
      failed = λ one passes.
          let given = (sound (omega (arith, one))).status in
          let zero : status ≡ 0 = given ∙ good ((law image).1 passes) in
          absurd (omega (arith, zero, one));
      found = λ passes nothing. subst (λ (s : ℕ). (status ≡ s) ⊎ (status ≡ 7)) (good ((law image).1 passes)) (complete nothing);
    })

module _ (clean : (kind : Kind) (image : List (List ℕ)) → (faults kind Counts image ≡ []) ↔ IsClean kind image) where
  -- a report passes where nothing does just where the image is clean
  clean_law : (kind : Kind) (image : List (List ℕ)) → (passes Nothing (report_of (faults kind Counts image)) ≡ true) ↔ IsClean kind image
  clean_law kind image = (
    (λ passed. (clean kind image).0 (none_counted (faults kind Counts image) (eqb-true _ 0 passed))),
    λ is. eq-eqb (length (faults kind Counts image)) 0 (ap (λ (found : List Fault). length found) ((clean kind image).1 is)),
  )

  pub tells_clean : (kind : Kind) (path : List ℕ) (before after : Objects) (status : ℕ) → IsCheckAnswered kind path before after status
      → IfSome before.input.held (TellsClean kind before after status)
  tells_clean kind path before after status answered =
      tells Nothing kind (clean_law kind) before after status answered.finding answered.found answered.sound answered.complete

  module _ (leaks : (found : List Fault) → (passes Leaks (report_of found) ≡ true) ↔ AreLeaks found) where
    pub law_of : (passing : Passing) (kind : Kind) (image : List (List ℕ)) → (passes passing (report_of (faults kind Counts image)) ≡ true) ↔ IsPassed passing kind image
    law_of Nothing kind image = clean_law kind image
    law_of Leaks kind image = leaks (faults kind Counts image)

    -- the same, where the flag is cleared
    pub clearing_tells : (flagged : Flagged) (passing : Passing) (path : List ℕ) (before after : Objects) (status : ℕ) → IsClearingAnswered flagged passing path before after status
        → IfSome before.input.held (TellsPassed passing (kind_of flagged) before after status)
    clearing_tells flagged passing path before after status answered =
        tells passing (kind_of flagged) (law_of passing (kind_of flagged)) before after status answered.finding answered.found answered.sound answered.complete

-- where leaks pass
pub passing_tells : ((found : List Fault) → (passes Leaks (report_of found) ≡ true) ↔ AreLeaks found)
    → (kind : Kind) (path : List ℕ) (before after : Objects) (status : ℕ) → IsPassingAnswered kind path before after status
    → IfSome before.input.held (TellsPassed Leaks kind before after status)
passing_tells leaks kind path before after status answered =
    tells Leaks kind (λ image. leaks (faults kind Counts image)) before after status answered.finding answered.found answered.sound answered.complete

module _ (flagged : Flagged) (block : List ℕ) (len : length block ≡ 4096) (bytes : (i : ℕ) → get_or block i 0 < 256) where
  abbrev flags : ℕ
  flags = le block 4 4

  -- the superblock, before it is sealed again
  abbrev unsealed : List ℕ
  unsealed = put block 4 4 (flags_without flagged flags)

  super_bytes : drop 8 (cleared_super flagged block) ≡ drop 8 block
  unfolding cleared_super
  super_bytes = drop-sealed unsealed (salt_of (kind_of flagged)) 8 (omega arith) ∙ drop-put block 4 4 (flags_without flagged flags) 8 (omega arith)

  super_checksum : has_checksum (cleared_super flagged block) (salt_of (kind_of flagged)) ≡ true
  unfolding cleared_super
  super_checksum = valid_sealed unsealed (salt_of (kind_of flagged)) (rw (length-put, len) (omega arith)) (salt_fits flagged) (bytes_put block 4 4 (flags_without flagged flags) (record { at = bytes }))
    where
      salt_fits : (which : Flagged) → salt_of (kind_of which) < 2 ^ 32
      salt_fits Pool = omega arith
      salt_fits Cache = omega arith

  -- the flags of it
  pub flags_are : le (cleared_super flagged block) 4 4 ≡ flags_without flagged flags
  unfolding cleared_super
  flags_are =
      let fits = le-lt block 4 4 bytes in
      le-sealed_other unsealed (salt_of (kind_of flagged)) 4 4 (omega arith) ∙ le-put block 4 4 (flags_without flagged flags) (rw len (omega arith)) (omega arith)

  super_flag : is_flag_set flagged (cleared_super flagged block) ≡ false
  super_flag = ap (λ (n : ℕ). bit_at n (flag_bit flagged) == 1) flags_are ∙ without_bit flagged flags
    where
      without_bit : (which : Flagged) (n : ℕ) → (bit_at (flags_without which n) (flag_bit which) == 1) ≡ false
      without_bit Pool n = ne_eqb _ 1 (λ odd. omega arith)
      without_bit Cache n = ne_eqb _ 1 (λ odd. omega arith)

-- block 0 of an image has the size of a block
whole : (block : List ℕ) (blocks : List (List ℕ)) → IsImage (block ∷ blocks) → length block ≡ 4096
whole block blocks is = All-head (λ (b : List ℕ). length b ≡ 4096) block blocks is.blocks

-- an image is as it was, or alike
pub cleared_alike : (flagged : Flagged) (image : List (List ℕ)) → IsImage image → (cleared flagged image ≡ image) ⊎ AreAlike (kind_of flagged) image (cleared flagged image)
unfolding cleared
cleared_alike flagged [] is = inl refl
cleared_alike flagged (block ∷ blocks) is = elim (cases_Bool (needs_check flagged (block ∷ blocks))) [
  | inl found ↦ inr (rw found (record {
    size = refl;
    blocks = refl;
    bytes = super_bytes flagged block (whole block blocks is) (is.bytes 0);
    checksum = super_checksum flagged block (whole block blocks is) (is.bytes 0);
  }))
  | inr unset ↦ inl (rw unset refl)
]

-- a cache says as before whether it was shut down
pub cleared_clean : (image : List (List ℕ)) → IsImage image → (cache_meaning (cleared Cache image)).clean ≡ (cache_meaning image).clean
unfolding cleared cache_meaning
cleared_clean [] is = refl
cleared_clean (block ∷ blocks) is = elim (cases_Bool (needs_check Cache (block ∷ blocks))) [
  | inl found ↦ rw found (ap (λ (n : ℕ). n % 2 == 1) (flags_are Cache block (whole block blocks is) (is.bytes 0)) ∙ low_bit (le block 4 4))
  | inr unset ↦ rw unset refl
]
  where
    low_bit : (n : ℕ) → (flags_without Cache n % 2 == 1) ≡ (n % 2 == 1)
    low_bit n = let same : flags_without Cache n % 2 ≡ n % 2 = omega arith in rw same refl

-- its flag isn't set
pub cleared_unset : (flagged : Flagged) (image : List (List ℕ)) → IsImage image → needs_check flagged (cleared flagged image) ≡ false
unfolding cleared needs_check le
cleared_unset Pool [] is = refl
cleared_unset Cache [] is = refl
cleared_unset flagged (block ∷ blocks) is = elim (cases_Bool (needs_check flagged (block ∷ blocks))) [
  | inl found ↦ rw found (super_flag flagged block (whole block blocks is) (is.bytes 0))
  | inr unset ↦ rw unset unset
]

-- so a law of alike images is one of the cleared image
pub on_cleared : (flagged : Flagged) (P : List (List ℕ) → Type 0) (image : List (List ℕ)) → IsImage image → P image
    → (AreAlike (kind_of flagged) image (cleared flagged image) → P (cleared flagged image)) → P (cleared flagged image)
on_cleared flagged P image is same alike = ⊎_elim (λ equal. rw equal same) alike (cleared_alike flagged image is)

-- an image that passes has leaks alone, and one of the same faults passes
module _ (clean : (kind : Kind) (image : List (List ℕ)) → (faults kind Counts image ≡ []) ↔ IsClean kind image) where
  pub only_leaks : (passing : Passing) (kind : Kind) (image : List (List ℕ)) → IsPassed passing kind image → OnlyLeaks kind image
  only_leaks Nothing kind image passed = subst (λ (found : List Fault). AreLeaks found) (sym ((clean kind image).1 passed)) tt
  only_leaks Leaks kind image passed = passed

  pub passes_too : (passing : Passing) (kind : Kind) (image other : List (List ℕ)) → faults kind Counts other ≡ faults kind Counts image → IsPassed passing kind image → IsPassed passing kind other
  passes_too Nothing kind image other same passed = (clean kind other).0 (same ∙ (clean kind image).1 passed)
  passes_too Leaks kind image other same passed = subst (λ (found : List Fault). AreLeaks found) (sym same) passed

module _ (flagged : Flagged) (passing : Passing) where
  -- what a crash leaves, by what was reported
  crash_told : (path : List ℕ) (before after : Objects) (status : ℕ) (answered : IsClearingAnswered flagged passing path before after status)
      → IfSome before.input.held (λ image. (answered.finding ≡ report_of (faults (kind_of flagged) Counts image))
      × LeavesOnly (IsOldOrCleared flagged (passes passing answered.finding) image) before.input after.input)
  crash_told path before after status answered =
      both_told before.input.held (λ image. answered.finding ≡ report_of (faults (kind_of flagged) Counts image))
      (λ image. LeavesOnly (IsOldOrCleared flagged (passes passing answered.finding) image) before.input after.input)
      answered.found answered.leaves.crash

  module _ (clean : (kind : Kind) (image : List (List ℕ)) → (faults kind Counts image ≡ []) ↔ IsClean kind image)
      (leaks : (found : List Fault) → (passes Leaks (report_of found) ≡ true) ↔ AreLeaks found) where
    -- an image whose report passes does
    has_passed : (report : Reported) (image : List (List ℕ)) → report ≡ report_of (faults (kind_of flagged) Counts image) → passes passing report ≡ true → IsPassed passing (kind_of flagged) image
    has_passed report image is passed = (law_of clean leaks passing (kind_of flagged) image).0 (ap (passes passing) (sym is) ∙ passed)

    -- block 0 has had the old content alone, or that with the flag cleared where the image passes
    pub leaves_torn : (path : List ℕ) (before after : Objects) (status : ℕ) → IsClearingAnswered flagged passing path before after status → LeavesTornAtMost flagged passing before after
    leaves_torn path before after status answered =
        IfSome_then before.input.held (crash_told path before after status answered)
        (λ image both. weaken both.1 (λ left firsts was. record {
          contents = all_from (IsOldOrClearedSuper flagged (passes passing answered.finding) image) (IsOldOrPassedSuper flagged passing image)
              (λ block had. ⊎_elim (λ old. inl old) (λ made. inr (has_passed answered.finding image both.0 made.0, made.1)) had) firsts was.contents;
          others = was.others;
        }))

module _ (flagged : Flagged) (passing : Passing)
    (law : (image : List (List ℕ)) → IsImage image → IsPassed passing (kind_of flagged) image → IsCleared flagged passing image (cleared flagged image)) where
  -- what the device holds after an answered check that cleared the flag
  pub holds_cleared : (path : List ℕ) (before after : Objects) → IsClearingAnswered flagged passing path before after 0
      → IfSome before.input.held (TellsPassed passing (kind_of flagged) before after 0) → HoldsCleared flagged passing before after
  holds_cleared path before after answered told =
      IfSome_then before.input.held
      (both_told before.input.held (TellsPassed passing (kind_of flagged) before after 0) (λ image. HoldsSynced (cleared flagged image) after.input) told (answered.leaves.done refl))
      (λ image both is.
      subst (λ (o : Option (List (List ℕ))). IfSome o (λ left. IsCleared flagged passing image left × HoldsSynced left after.input)) (sym both.1.held)
      (law image is (both.0.passed refl), both.1))

  -- and what a crash leaves
  pub leaves_cleared : ((kind : Kind) (image : List (List ℕ)) → (faults kind Counts image ≡ []) ↔ IsClean kind image) → ((found : List Fault) → (passes Leaks (report_of found) ≡ true) ↔ AreLeaks found)
      → (path : List ℕ) (before after : Objects) (status : ℕ) → IsClearingAnswered flagged passing path before after status → LeavesOldOrCleared flagged passing before after
  leaves_cleared clean leaks path before after status answered =
      IfSome_then before.input.held (crash_told flagged passing path before after status answered)
      (λ image both is. weaken both.1 (λ left firsts outcome chance. ⊎_elim (λ old. inl old) (λ other. inr (⊎_elim
      (λ made. inr (rw made.1 (law image is (has_passed flagged passing clean leaks answered.finding image both.0 made.0))))
      (λ none. inl none.0) other)) (outcome.outcome chance)))
