-- What an answered repair comes to, where what is laid of what is saved is so.
use Rattle.std.proofs.Common.{◌≡◌, ◌⊎◌, inl, inr, ⊎_elim, ℕ, ◌≤◌, nat_eq, false, Bool, List, [], ◌∷◌, length, Some, IfSome, refl, sym, ap, ◌∙◌, subst, ◌^◌, true, arith}
use Rattle.std.proofs.lemmas.Bool.{cases_Bool, eq-eqb, eqb-true, le-ltb, ltb-false}
use Rattle.std.proofs.lemmas.Option.{IfSome_then}
use Rattle.pd_kinds.specs.declared.rule.Fault.{Fault}
use Rattle.pd_kinds.specs.declared.kind.Kind.TheVariants.{Thin}
use Rattle.pd_kinds.specs.Crash.{HoldsSynced, IsOldNoneOrMade, LeavesOnly}
use Rattle.pd_kinds.specs.Image.{room_of, HasBytes, IsImage}
use Rattle.pd_kinds.specs.Meaning.{ThinPool, thin_meaning}
use Rattle.pd_kinds.specs.Rule.{Reported, report_of}
use Rattle.pd_kinds.specs.Stages.{faults}
use Rattle.pd_kinds.proofs.CrashLemmas.{weaken}
use Rattle.pd_kinds.specs.Graph.{block_at}
use Rattle.pd_kinds.specs.Layout.{graph_of}
use Rattle.pd_kinds.specs.ThinFormat.{ThinFields, thin_fields}
use Rattle.pd_kinds.specs.declared.kind.Stage.TheVariants as stages
use Rattle.pd_grammar.specs.Lawful.{IsLawfulPool}
use Rattle.pd_grammar.specs.Need.{thin_need}
use Rattle.pd_laid.specs.Laid.{IsLaid}
use Rattle.pd_laid.specs.LaidThin.{laid_pool, laid_shape}
use Rattle.pd_laid.specs.Salvage.{salvage, salvage_from, saved_shape, saved_shape_from}
use Rattle.pd_laid.specs.FoundRoots.{AreBest, FoundRoots, found_pool, lost_graph}
use Rattle.pd_laid.specs.Shape.{IsShape, ThinShape, pool_of}
use Rattle.pd_laid.specs.PoolText.{IsLawfulShape, shape_need}
use Rattle.pd_answers.specs.Terms.{NoFaults, Objects, IsAnswered}
use Rattle.pd_answers.specs.Outputs.{Lays, Making, is_too_small, HoldsMade}
use Rattle.pd_answers.specs.Promises.{terms_of}
use Rattle.pd_answers.specs.Repairs.{FindsSaved, Salvaged, Saved, repair_by, saved_answer, saved_making, saved_of}
use Rattle.pd_answers.specs.declared.request.Request.TheVariants.{Repair}
use Rattle.pd_answers.specs.FoundStates.{found_fields}
use Rattle.pd_answers.specs.Searches.{found_shape, seen_pool, seen_shape}
use Rattle.pd_scan.specs.Pairs.{lost_fields}
use Rattle.pd_laws_laid.specs.Clean.{IsCleanPool}
use Rattle.pd_laws_shapes.specs.Counts.{IsSharedTwice}
use Rattle.pd_laws_answers.specs.Exact.{HoldsSalvage, IsRepairAnswered, IsSoundRepair, LeavesSalvage, IsCleanShape}
use Rattle.pd_laws_answers.proofs.Restored.{Image, at_told, both_told, none_of_super, four_zero, none_counted, one_zero}
use Rattle.pd_laws_answers.specs.Saved.{KeepsShape}
use Rattle.pd_laws_answers.specs.Search.{IsShapeOf}
use Rattle.pd_laws_answers.proofs.SalvageLawful.{SavesFound, sizes_are}
use Rattle.pd_laws_answers.proofs.Searched.{IsFoundSo}
use Rattle.pd_laws_answers.proofs.SeenLemmas.{seen_shape_lawful, shape_means, shared_twice}

-- at the answer's status 0 nothing was refused: the report is empty, and there is room
module _ {S : Type 0} (making : S → Making) (line : S → List ℕ) (found : Salvaged S) where
  record IsNotRefused : Type 0 where
    none : found.report.total ≡ 0
    room : (making found.saved).need found.room ≤ found.room

  not_refused : (saved_answer making line found).status ≡ 0 → IsNotRefused
  not_refused given = elim (cases_Bool (nat_eq found.report.total 0)) [
    | inr some ↦ absurd (one_zero (rw some at given))
    | inl none ↦ elim (cases_Bool (is_too_small (making found.saved) found.room)) [
      | inl small ↦ absurd (four_zero (rw (none, small) at given))
      | inr enough ↦ record { none = eqb-true found.report.total 0 none; room = ltb-false found.room ((making found.saved).need found.room) enough }
    ]
  ]

  -- so it has the line of what is made
  pub line_at_zero : (saved_answer making line found).status ≡ 0 → (saved_answer making line found).out ≡ line found.saved
  line_at_zero given =
      let are = not_refused given in
      rw (eq-eqb found.report.total 0 are.none, le-ltb found.room ((making found.saved).need found.room) are.room) refl

  -- where the superblock has no fault, and there is room, nothing is refused
  answers_zero : found.report.total ≡ 0 → (making found.saved).need found.room ≤ found.room → (saved_answer making line found).status ≡ 0
  answers_zero none enough = rw (eq-eqb found.report.total 0 none, le-ltb found.room ((making found.saved).need found.room) enough) refl

-- what holds of an image that is laid of what is saved of another one, and of that superblock
abbrev pub IsMadeSo : {S : Type 0} → (Image → List Fault) → (S → Making) → (Image → S) → (Image → Image → Type 0) → Type 0
IsMadeSo broken making all_of Made = (image base made : Image) → IsImage image → broken image ≡ []
    → (making (all_of image)).need (room_of (length base)) ≤ room_of (length base) → IsLaid ((making (all_of image)).laid (room_of (length base))) base made → Made image made

-- what a repair comes to by what it leaves
module _ {S : Type 0} (broken : Image → List Fault) (making : S → Making) (line : S → List ℕ) (all_of : Image → S) (Made : Image → Image → Type 0) (so : IsMadeSo broken making all_of Made)
    (before after : Objects) (found : Salvaged S) (finds : FindsSaved broken all_of before after found) where
  abbrev LaysHere : Image → Image → Type 0
  LaysHere = Lays (saved_answer making line found) (making found.saved) found.room

  made_of_saved : (image base made : Image) → IsImage image → (found.report ≡ report_of (broken image)) × (found.saved ≡ all_of image)
      → found.room ≡ room_of (length base) → LaysHere base made → Made image made
  made_of_saved image base made is right room laid =
      let given = not_refused making line found laid.0 in
      let none = none_counted (broken image) (sym (ap (λ (r : Reported). r.total) right.0) ∙ given.none) in
      so image base made is none (rw (right.1, room) at given.room) (rw (right.1, room) at laid.1)

  -- what the output holds
  pub holds_made : HoldsMade LaysHere before.output after.output
      → IfSome before.input.held (λ image. IsImage image → IfSome before.output.held (λ base. IfSome after.output.held (λ made. Made image made × HoldsSynced made after.output)))
  holds_made holds =
      IfSome_then before.input.held finds.1 (λ image right is.
      IfSome_then before.output.held (both_told before.output.held (λ (base : Image). found.room ≡ room_of (length base))
      (λ (base : Image). IfSome after.output.held (λ (made : Image). LaysHere base made × HoldsSynced made after.output))
      finds.0.told holds) (λ base told.
      IfSome_then after.output.held told.1 (λ made held. (made_of_saved image base made is right told.0 held.0, held.1))))

  -- what a crash leaves
  pub leaves_made : IfSome before.output.held (λ base. LeavesOnly (IsOldNoneOrMade base (LaysHere base)) before.output after.output)
      → IfSome before.input.held (λ image. IsImage image → IfSome before.output.held (λ base. LeavesOnly (IsOldNoneOrMade base (Made image)) before.output after.output))
  leaves_made leaves =
      IfSome_then before.input.held finds.1 (λ image right is.
      IfSome_then before.output.held (both_told before.output.held (λ (base : Image). found.room ≡ room_of (length base))
      (λ (base : Image). LeavesOnly (IsOldNoneOrMade base (LaysHere base)) before.output after.output)
      finds.0.told leaves) (λ base told.
      weaken told.1 (λ left firsts outcome chance.
      ⊎_elim (λ old. inl old) (λ other. inr (⊎_elim (λ none. inl none) (λ made. inr (made_of_saved image base left is right told.0 made)) other)) (outcome chance))))

-- nothing is refused of an input whose superblock has no fault, where there is room
module _ {S : Type 0} (broken : Image → List Fault) (making : S → Making) (line : S → List ℕ) (all_of : Image → S) (before after : Objects) (found : Salvaged S)
    (finds : FindsSaved broken all_of before after found) (image base : Image) (read : before.input.held ≡ Some image) (held : before.output.held ≡ Some base)
    (none : broken image ≡ []) where
  pub saved_is : found.saved ≡ all_of image
  saved_is = (at_told before.input.held image (λ (i : Image). (found.report ≡ report_of (broken i)) × (found.saved ≡ all_of i)) read finds.1).1

  pub answered_at_zero : (making (all_of image)).need (room_of (length base)) ≤ room_of (length base) → (saved_answer making line found).status ≡ 0
  answered_at_zero enough =
      let right = at_told before.input.held image (λ (i : Image). (found.report ≡ report_of (broken i)) × (found.saved ≡ all_of i)) read finds.1 in
      let room = at_told before.output.held base (λ (i : Image). found.room ≡ room_of (length i)) held finds.0.told in
      let empty : found.report.total ≡ 0 = ap (λ (r : Reported). r.total) right.0 ∙ ap (λ (list : List Fault). length list) none in
      answers_zero making line found empty (rw (saved_is, room) enough)

-- what holds of an output that is told, and of an input
pub at_both : (before after : Objects) (image base : Image) (Q : Image → Image → Type 0) → before.input.held ≡ Some image → before.output.held ≡ Some base → IsImage image
    → IfSome before.input.held (λ (i : Image). IsImage i → IfSome before.output.held (λ (b : Image). IfSome after.output.held (Q i))) → IfSome after.output.held (Q image)
at_both before after image base Q read held is holds =
    at_told before.output.held base (λ (b : Image). IfSome after.output.held (Q image)) held
    (at_told before.input.held image (λ (i : Image). IsImage i → IfSome before.output.held (λ (b : Image). IfSome after.output.held (Q i))) read holds is)

-- a repair that looks at these faults, with shared leaves or without
module _ (broken : Image → List Fault) (statuses : List ℕ) (shared : Bool) (all_of : Image → Saved shared) (Made : Image → Image → Type 0) (so : IsMadeSo broken (saved_making shared) all_of Made)
    (from to : List ℕ) (before after : Objects) where
  abbrev IsAnsweredSo : ℕ → Type 0
  IsAnsweredSo = IsAnswered (repair_by broken statuses shared all_of from to) before after

  pub repair_holds : IsAnsweredSo 0
      → IfSome before.input.held (λ image. IsImage image → IfSome before.output.held (λ base. IfSome after.output.held (λ made. Made image made × HoldsSynced made after.output)))
  repair_holds answered =
      holds_made broken (saved_making shared) (λ _. []) all_of Made so before after answered.finding answered.found (answered.leaves.output.made.output.made refl)

  pub repair_leaves : (status : ℕ) → IsAnsweredSo status
      → IfSome before.input.held (λ image. IsImage image → IfSome before.output.held (λ base. LeavesOnly (IsOldNoneOrMade base (Made image)) before.output after.output))
  repair_leaves status answered =
      leaves_made broken (saved_making shared) (λ _. []) all_of Made so before after answered.finding answered.found answered.leaves.output.made.output.crash

-- the statuses of one that looks at the superblock
abbrev pub super_statuses : List ℕ
super_statuses = 0 ∷ 1 ∷ 4 ∷ 5 ∷ 7 ∷ []

pub repair_done : (shared : Bool) (image base : Image) (from to : List ℕ) (before after : Objects) → IsSoundRepair image base before → (status : ℕ)
    → (saved_making shared (saved_of shared image)).need (room_of (length base)) ≤ room_of (length base)
    → IsAnswered (terms_of (Some (Repair shared from to))) before after status → NoFaults before after → (status ≡ 0) ⊎ (status ≡ 7)
repair_done shared image base from to before after sound status enough answered nothing =
    let zero = answered_at_zero (faults Thin stages.Super) (saved_making shared) (λ _. []) (saved_of shared) before after answered.finding answered.found image base sound.read sound.held
    (none_of_super Thin image sound.sound) enough in
    subst (λ (n : ℕ). (status ≡ n) ⊎ (status ≡ 7)) zero (answered.complete nothing)

-- what is laid of a lawful pool is a clean image of it
module _ (lawful : (image : Image) → IsImage image → faults Thin stages.Super image ≡ [] → IsLawfulPool (salvage image))
    (clean : (m : ThinPool) (base image : Image) → IsLawfulPool m → thin_need m (room_of (length base)) ≤ room_of (length base)
    → IsLaid (laid_pool m (room_of (length base))) base image → IsCleanPool image m) where
  pub pools_made_so : IsMadeSo (faults Thin stages.Super) (saved_making false) (saved_of false) (λ image made. IsCleanPool made (salvage image))
  pools_made_so image base made is none enough laid = clean (salvage image) base made (lawful image is none) enough laid

  pub holds_salvage : (from to : List ℕ) (before after : Objects) → IsRepairAnswered from to before after 0 → HoldsSalvage before after
  holds_salvage = repair_holds (faults Thin stages.Super) super_statuses false (saved_of false) (λ image made. IsCleanPool made (salvage image)) pools_made_so

  pub leaves_salvage : (from to : List ℕ) (before after : Objects) (status : ℕ) → IsRepairAnswered from to before after status → LeavesSalvage before after
  leaves_salvage = repair_leaves (faults Thin stages.Super) super_statuses false (saved_of false) (λ image made. IsCleanPool made (salvage image)) pools_made_so

module _ (all_saved : (image : Image) → HasBytes image → faults Thin stages.Whole image ≡ [] → salvage image ≡ thin_meaning image)
    (image base : Image) (from to : List ℕ) (before after : Objects) (sound : IsSoundRepair image base before) where
  -- a sound pool is repaired
  pub repaired : (status : ℕ) → thin_need (thin_meaning image) (room_of (length base)) ≤ room_of (length base)
      → IsRepairAnswered from to before after status → NoFaults before after → (status ≡ 0) ⊎ (status ≡ 7)
  repaired status enough = repair_done false image base from to before after sound status (rw (all_saved image sound.is.bytes sound.sound) enough)

  -- and means the same
  pub repaired_same : HoldsSalvage before after → IfSome after.output.held (λ (repaired : Image). thin_meaning repaired ≡ thin_meaning image)
  repaired_same holds =
      IfSome_then after.output.held
      (at_both before after image base (λ (i made : Image). IsCleanPool made (salvage i) × HoldsSynced made after.output) sound.read sound.held sound.is holds)
      (λ repaired is. is.0.means ∙ all_saved image sound.is.bytes sound.sound)

-- What is laid of a saved shape, and of a found one, is clean and keeps it.

-- what is known of saved shapes, and of laid ones
abbrev pub MeanSaved : Type 0
MeanSaved = (fields : ThinFields) (image : List (List ℕ)) → pool_of (saved_shape_from fields image) ≡ salvage_from fields image

abbrev pub AreShapes : Type 0
AreShapes = (fields : ThinFields) (image : List (List ℕ)) → fields.meta_map.blocks ≤ 2 ^ 64 → IsShape (saved_shape_from fields image)

abbrev pub AreTwice : Type 0
AreTwice = (fields : ThinFields) (image : List (List ℕ)) → IsSharedTwice (saved_shape_from fields image)

abbrev pub AreLaidClean : Type 0
AreLaidClean = (w : ThinShape) (base image : List (List ℕ)) → IsLawfulShape w → shape_need w (room_of (length base)) ≤ room_of (length base)
    → IsLaid (laid_shape w (room_of (length base))) base image → IsCleanShape image w

-- what is saved with its shape is lawful
pub shape_lawful : MeanSaved → AreShapes → (image : List (List ℕ)) → faults Thin stages.Super image ≡ [] → IsLawfulPool (salvage image) → IsLawfulShape (saved_shape image)
shape_lawful mean are image none lawful =
    let few = (sizes_are image none).few in
    record {
      shape = are (thin_fields (block_at image 0)) image (omega arith);
      pool = subst IsLawfulPool (sym (mean (thin_fields (block_at image 0)) image)) lawful;
    }

-- a clean image of a shape whose leaves are used twice keeps it
pub keeps : (image : List (List ℕ)) (w : ThinShape) (m : ThinPool) → IsCleanShape image w → IsSharedTwice w → pool_of w ≡ m → KeepsShape image m w
keeps image w m clean twice means = record { pool = subst (IsCleanPool image) means clean.pool; shape = clean.shared twice; counts = clean.counts }

module _ (mean : MeanSaved) (twice : AreTwice) (clean : AreLaidClean) where
  pub shapes_made_so : ((image : Image) → IsImage image → faults Thin stages.Super image ≡ [] → IsLawfulShape (saved_shape image))
      → IsMadeSo (faults Thin stages.Super) (saved_making true) (saved_of true) (λ image made. KeepsShape made (salvage image) (saved_shape image))
  shapes_made_so lawful image base made is none enough laid =
      keeps made (saved_shape image) (salvage image) (clean (saved_shape image) base made (lawful image is none) enough laid)
      (twice (thin_fields (block_at image 0)) image) (mean (thin_fields (block_at image 0)) image)

-- the superblock of found roots, in the format of their pool
pub found_are_lost : (image : List (List ℕ)) (transaction block_size blocks : ℕ) (roots : FoundRoots)
    → found_fields (lost_graph image blocks) transaction block_size roots ≡ lost_fields roots transaction block_size (lost_graph image blocks).nr blocks
unfolding lost_graph graph_of
found_are_lost image transaction block_size blocks roots = refl

few_blocks : (image : List (List ℕ)) (transaction block_size blocks : ℕ) (roots : FoundRoots) → (found_fields (lost_graph image blocks) transaction block_size roots).meta_map.blocks ≤ 2 ^ 64
unfolding lost_graph graph_of
few_blocks image transaction block_size blocks roots = omega arith

module _ (saved : SavesFound) (mean : MeanSaved) (transaction block_size blocks : ℕ) (image : List (List ℕ)) (roots : FoundRoots) (is : IsImage image)
    (best : AreBest (lost_graph image blocks) image roots) where
  found_means : pool_of (found_shape (lost_graph image blocks) image transaction block_size roots) ≡ found_pool (lost_graph image blocks) image transaction block_size roots
  unfolding found_shape
  found_means =
      mean (found_fields (lost_graph image blocks) transaction block_size roots) image
      ∙ subst (λ (fields : ThinFields). salvage_from fields image ≡ found_pool (lost_graph image blocks) image transaction block_size roots)
      (sym (found_are_lost image transaction block_size blocks roots)) (saved image blocks transaction block_size roots is.bytes best.fitting)

  pub found_shape_lawful : AreShapes → IsLawfulPool (found_pool (lost_graph image blocks) image transaction block_size roots)
      → IsLawfulShape (found_shape (lost_graph image blocks) image transaction block_size roots)
  unfolding found_shape found_means
  found_shape_lawful are lawful = record {
    shape = are (found_fields (lost_graph image blocks) transaction block_size roots) image (few_blocks image transaction block_size blocks roots);
    pool = subst IsLawfulPool (sym found_means) lawful;
  }

  found_twice : AreTwice → IsSharedTwice (found_shape (lost_graph image blocks) image transaction block_size roots)
  unfolding found_shape
  found_twice twice = twice (found_fields (lost_graph image blocks) transaction block_size roots) image

  found_kept : AreTwice → (made : Image) → IsCleanShape made (seen_shape (found_shape (lost_graph image blocks) image transaction block_size roots)) → IsShapeOf transaction block_size blocks image roots made
  found_kept twice made clean =
      let found = found_shape (lost_graph image blocks) image transaction block_size roots in
      keeps made (seen_shape found) (seen_pool (found_pool (lost_graph image blocks) image transaction block_size roots)) clean (shared_twice found (found_twice twice))
      (shape_means found ∙ ap seen_pool found_means)

module _ (saved : SavesFound) (mean : MeanSaved) (twice : AreTwice) (clean : AreLaidClean) (transaction block_size blocks : ℕ)
    (lawful : (image : Image) (roots : FoundRoots) → IsImage image → AreBest (lost_graph image blocks) image roots
    → IsLawfulShape (found_shape (lost_graph image blocks) image transaction block_size roots)) where
  pub shapes_found_so : IsFoundSo true transaction block_size blocks (IsShapeOf transaction block_size blocks)
  shapes_found_so image base made roots is best enough laid =
      found_kept saved mean transaction block_size blocks image roots is best twice made
      (clean (seen_shape (found_shape (lost_graph image blocks) image transaction block_size roots)) base made
      (seen_shape_lawful (found_shape (lost_graph image blocks) image transaction block_size roots) (lawful image roots is best)) enough laid)
