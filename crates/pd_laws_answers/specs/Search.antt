-- Trusted base.
-- What a search for the roots of a pool leaves, where the objects tell what they hold.
-- What a repair from named roots leaves, and what a dry run without a superblock tells, where the objects tell what they hold.
use Rattle.std.specs.Prelude.{◌≡◌, ℕ, ◌+◌, ◌<◌, ◌≤◌, ◌^◌, max, true, false, List, [], ◌∷◌, length, drop, map, fold, sum_by, Option, Some, IfSome, codes, Bool}
use Rattle.std.specs.List.{flat_map}
use Rattle.pd_kinds.specs.declared.kind.Kind.TheVariants.{Thin}
use Rattle.pd_kinds.specs.declared.kind.Stage.TheVariants.{Whole}
use Rattle.pd_kinds.specs.Crash.{HoldsSynced, IsOldNoneOrMade, IsUntouched, LeavesOnly}
use Rattle.pd_kinds.specs.Image.{IsImage}
use Rattle.pd_kinds.specs.Meaning.{Mapping, ThinDevice, ThinPool, thin_meaning}
use Rattle.pd_kinds.specs.Objects.{Appends}
use Rattle.pd_kinds.specs.Stages.{faults}
use Rattle.pd_kinds.specs.ThinFormat.{ThinFields}
use Rattle.pd_laid.specs.FoundRoots.{FoundRoots, AreBest, IsFound, are_fitting, found_pool, is_greater, lost_graph, times_of}
use Rattle.pd_answers.specs.Terms.{Objects, IsAnswered}
use Rattle.pd_answers.specs.Promises.{terms_of}
use Rattle.pd_answers.specs.declared.request.GivenSuper.{GivenSuper}
use Rattle.pd_answers.specs.declared.request.Request.TheVariants.{Search, RepairNamed}
use Rattle.pd_answers.specs.Searches.{found_shape, roots_line, seen_pool, seen_shape}
use Rattle.pd_answers.specs.Words.{number_below}
use Rattle.pd_answers.specs.KeptLines.{told_from, told_text}
use Rattle.pd_answers.specs.DamagedStates.{damaged_states, kept_devices}
use Rattle.pd_answers.specs.FoundStates.{states}
use Rattle.pd_answers.specs.NamedRepairs.{named_pool, named_shape, saved_from_named, text_of_states, named_fields}
use Rattle.pd_answers.specs.declared.request.NamedRoots.{NamedRoots}
use Rattle.pd_laws_laid.specs.Clean.{IsCleanPool}
use Rattle.pd_laws_answers.specs.Saved.{KeepsShape}
use Rattle.pd_laws_answers.specs.Words.{IsName}

-- the numbers that are given in place of a superblock's fit its fields
pub record DoNumbersFit (transaction block_size blocks : ℕ) : Type 0 where
  pub transaction_fits : transaction < 2 ^ 64
  pub block_size_fits : block_size < 2 ^ 32
  pub blocks_fit : blocks ≤ 2 ^ 40

-- a search in one image for a pool with these numbers, which is laid onto another, was asked, and was answered with this status;
-- and one that keeps the leaves that the pool's devices share
abbrev pub IsSearchAnswered : List ℕ → List ℕ → ℕ → ℕ → ℕ → Objects → Objects → ℕ → Type 0
IsSearchAnswered from to transaction block_size blocks = IsAnswered (terms_of (Some (Search false from to (record { transaction = transaction; block_size = block_size; blocks = blocks }))))

abbrev pub IsSharedSearchAnswered : List ℕ → List ℕ → ℕ → ℕ → ℕ → Objects → Objects → ℕ → Type 0
IsSharedSearchAnswered from to transaction block_size blocks = IsAnswered (terms_of (Some (Search true from to (record { transaction = transaction; block_size = block_size; blocks = blocks }))))

-- what an image is of roots of another one
abbrev pub OfRoots : Type 1
OfRoots = List (List ℕ) → FoundRoots → List (List ℕ) → Type 0

-- it is clean, and means their pool, in which sharing is seen
abbrev pub IsPoolOf : ℕ → ℕ → ℕ → OfRoots
IsPoolOf transaction block_size blocks image roots made =
    IsCleanPool made (seen_pool (found_pool (lost_graph image blocks) image transaction block_size roots))

-- and it has its shape too: the leaves that the devices share
abbrev pub IsShapeOf : ℕ → ℕ → ℕ → OfRoots
IsShapeOf transaction block_size blocks image roots made =
    KeepsShape made (seen_pool (found_pool (lost_graph image blocks) image transaction block_size roots))
    (seen_shape (found_shape (lost_graph image blocks) image transaction block_size roots))

-- the second image is so of the best roots of the first one
pub record IsOfBest (blocks : ℕ) (Made : OfRoots) (image made : List (List ℕ)) : Type 0 where
  pub roots : FoundRoots
  pub best : AreBest (lost_graph image blocks) image roots
  pub pool : Made image roots made

-- the output holds such an image, nothing of it is unsynced, and the line of its roots was put to `out`
pub record HoldsOfRoots (blocks : ℕ) (Made : OfRoots) (image made : List (List ℕ)) (before after : Objects) : Type 0 where
  pub found : IsOfBest blocks Made image made
  pub synced : HoldsSynced made after.output
  pub line : Appends (roots_line found.roots) before.out.written after.out.written

abbrev pub HoldsFound : ℕ → OfRoots → Objects → Objects → Type 0
HoldsFound blocks Made before after =
    IfSome before.input.held (λ image. IsImage image → IfSome before.output.held (λ base.
    IfSome after.output.held (λ made. HoldsOfRoots blocks Made image made before after)))

-- the output holds such an image, with nothing unsynced, whatever was put
abbrev pub HoldsBest : ℕ → OfRoots → Objects → Objects → Type 0
HoldsBest blocks Made before after =
    IfSome before.input.held (λ image. IsImage image → IfSome before.output.held (λ base.
    IfSome after.output.held (λ made. IsOfBest blocks Made image made × HoldsSynced made after.output)))

-- a crash at any moment leaves, by no chance, the old image, no valid superblock, or such an image
abbrev pub LeavesFound : ℕ → OfRoots → Objects → Objects → Type 0
LeavesFound blocks Made before after =
    IfSome before.input.held (λ image. IsImage image → IfSome before.output.held (λ base.
    LeavesOnly (IsOldNoneOrMade base (IsOfBest blocks Made image)) before.output after.output))

-- of a pool, and of one with its shared leaves
abbrev pub HoldsFoundPool : ℕ → ℕ → ℕ → Objects → Objects → Type 0
HoldsFoundPool transaction block_size blocks = HoldsFound blocks (IsPoolOf transaction block_size blocks)

abbrev pub HoldsBestPool : ℕ → ℕ → ℕ → Objects → Objects → Type 0
HoldsBestPool transaction block_size blocks = HoldsBest blocks (IsPoolOf transaction block_size blocks)

abbrev pub LeavesFoundPool : ℕ → ℕ → ℕ → Objects → Objects → Type 0
LeavesFoundPool transaction block_size blocks = LeavesFound blocks (IsPoolOf transaction block_size blocks)

abbrev pub HoldsFoundShape : ℕ → ℕ → ℕ → Objects → Objects → Type 0
HoldsFoundShape transaction block_size blocks = HoldsFound blocks (IsShapeOf transaction block_size blocks)

abbrev pub HoldsBestShape : ℕ → ℕ → ℕ → Objects → Objects → Type 0
HoldsBestShape transaction block_size blocks = HoldsBest blocks (IsShapeOf transaction block_size blocks)

abbrev pub LeavesFoundShape : ℕ → ℕ → ℕ → Objects → Objects → Type 0
LeavesFoundShape transaction block_size blocks = LeavesFound blocks (IsShapeOf transaction block_size blocks)

-- no two trees of the input fit each other, and the output wasn't written
abbrev pub HasNoRoots : ℕ → Objects → Objects → Type 0
HasNoRoots blocks before after =
    IfSome before.input.held (λ image. (top details : ℕ) → are_fitting (lost_graph image blocks) image top details ≡ false) × IsUntouched before.output after.output

-- the words of the three numbers, each the value of its option
pub record NumberWords : Type 0 where
  pub transaction : List ℕ
  pub block_size : List ℕ
  pub blocks : List ℕ

-- they are these numbers in decimal
pub record SayNumbers (words : NumberWords) (given : GivenSuper) : Type 0 where
  pub names : IsName words.transaction × (IsName words.block_size × IsName words.blocks)
  pub transaction_is : number_below (2 ^ 64) words.transaction ≡ Some given.transaction
  pub block_size_is : number_below (2 ^ 32) words.block_size ≡ Some given.block_size
  pub blocks_is : number_below (2 ^ 40 + 1) words.blocks ≡ Some given.blocks

-- `--transaction-id TRANSACTION --data-block-size SIZE --nr-data-blocks BLOCKS`
abbrev pub with_numbers : NumberWords → List (List ℕ)
with_numbers words =
    codes "--transaction-id" ∷ words.transaction ∷ codes "--data-block-size" ∷ words.block_size ∷ codes "--nr-data-blocks" ∷ words.blocks ∷ []

-- another image has the same blocks, but for block 0
pub record IsLostOf (image lost : List (List ℕ)) : Type 0 where
  pub size : length lost ≡ length image
  pub rest : drop 1 lost ≡ drop 1 image

-- how late the state of a pool is, as roots are compared but for their places: the latest time of its devices and mappings,
-- the latest transaction of a device, the sum of the mappings' times, and the number of mappings that the details say
abbrev pub state_of : ThinPool → List ℕ
state_of pool =
    fold max 0 (flat_map times_of pool.devices)
    ∷ fold max 0 (map (λ (d : ThinDevice). d.transaction) pool.devices)
    ∷ sum_by (λ (d : ThinDevice). sum_by (λ (m : Mapping). m.time) d.mappings) pool.devices
    ∷ sum_by (λ (d : ThinDevice). d.mapped) pool.devices
    ∷ []

abbrev pub state_of_roots : FoundRoots → List ℕ
state_of_roots roots = roots.time ∷ roots.transaction ∷ roots.times ∷ roots.mappings ∷ []

-- a search finds roots, and no state is later than theirs
pub record FindsNoEarlier (state : List ℕ) (found : Option FoundRoots) : Type 0 where
  pub roots : FoundRoots
  pub some : found ≡ Some roots
  pub no_earlier : is_greater state (state_of_roots roots) ≡ false

-- the roots that block 0 of an image named fit each other where it is lost, and a pool that is found by them has the devices
-- that it had, with their details and mappings; so a search finds these roots, or better ones
pub record KeepsRoots (image lost : List (List ℕ)) (fields : ThinFields) : Type 0 where
  pub fitting : are_fitting (lost_graph lost fields.data_map.blocks) lost fields.mapping_root fields.details_root ≡ true
  pub devices : (transaction block_size : ℕ) (roots : FoundRoots) → roots.top ≡ fields.mapping_root → roots.details ≡ fields.details_root
      → (found_pool (lost_graph lost fields.data_map.blocks) lost transaction block_size roots).devices ≡ (thin_meaning image).devices
  pub found : (found : Option FoundRoots) → IsFound (lost_graph lost fields.data_map.blocks) lost found → FindsNoEarlier (state_of (thin_meaning image)) found

-- a search is to read an image whose block 0 was lost, and that had no faults up to the stage Whole before
pub record IsLostPool (image lost : List (List ℕ)) (before : Objects) : Type 0 where
  pub is : IsImage image
  pub sound : faults Thin Whole image ≡ []
  pub lost_of : IsLostOf image lost
  pub lost_is : IsImage lost
  pub read : before.input.held ≡ Some lost

-- what is made means a pool whose state is no earlier than the image's
abbrev pub HoldsNoEarlier : List (List ℕ) → Objects → Objects → Type 0
HoldsNoEarlier image before after = IfSome before.output.held (λ base.
    IfSome after.output.held (λ made. is_greater (state_of (thin_meaning image)) (state_of (thin_meaning made)) ≡ false))

-- a repair from these roots of one image onto another, with shared leaves or without, was asked, and was answered with this status
abbrev pub IsNamedRepairAnswered : Bool → List ℕ → List ℕ → GivenSuper → NamedRoots → Objects → Objects → ℕ → Type 0
IsNamedRepairAnswered shared from to given named = IsAnswered (terms_of (Some (RepairNamed shared from to given named)))

-- an image is clean and means what is saved of another one from the roots, and sharing is seen in it; with shared leaves it has the
-- shape of that too
abbrev pub IsSavedFrom : Bool → GivenSuper → NamedRoots → List (List ℕ) → List (List ℕ) → Type 0
IsSavedFrom false given named image made = IsCleanPool made (seen_pool (named_pool image given named))
IsSavedFrom true given named image made = KeepsShape made (seen_pool (named_pool image given named)) (seen_shape (named_shape image given named))

-- the output holds such an image, and nothing of it is unsynced
abbrev pub HoldsNamed : Bool → GivenSuper → NamedRoots → Objects → Objects → Type 0
HoldsNamed shared given named before after =
    IfSome before.input.held (λ image. IsImage image → IfSome before.output.held (λ base.
    IfSome after.output.held (λ made. IsSavedFrom shared given named image made × HoldsSynced made after.output)))

-- a crash at any moment leaves, by no chance, the old image, no valid superblock, or such an image
abbrev pub LeavesNamed : Bool → GivenSuper → NamedRoots → Objects → Objects → Type 0
LeavesNamed shared given named before after =
    IfSome before.input.held (λ image. IsImage image → IfSome before.output.held (λ base.
    LeavesOnly (IsOldNoneOrMade base (IsSavedFrom shared given named image)) before.output after.output))

-- the words of the two roots, each the value of its option
pub record RootWords : Type 0 where
  pub top : List ℕ
  pub details : List ℕ

-- they are these roots in decimal
pub record SayRoots (words : RootWords) (named : NamedRoots) : Type 0 where
  pub names : IsName words.top × IsName words.details
  pub top_is : number_below (2 ^ 64) words.top ≡ Some named.top
  pub details_is : number_below (2 ^ 64) words.details ≡ Some named.details

-- `--mapping-root TOP --details-root DETAILS`
abbrev pub with_roots : RootWords → List (List ℕ) → List (List ℕ)
with_roots words others = codes "--mapping-root" ∷ words.top ∷ codes "--details-root" ∷ words.details ∷ others

-- what is kept from the roots was told
abbrev pub TellsNamed : GivenSuper → NamedRoots → Objects → Objects → Type 0
TellsNamed given named before after =
    IfSome before.input.held (λ image. Appends (told_text (told_from (named_fields image given named) image)) before.out.written after.out.written)

-- the states of an image were told, the sound ones and the damaged ones, and what is kept of the best one
pub record TellsStatesOf (image : List (List ℕ)) (given : GivenSuper) (before after : Objects) : Type 0 where
  pub text : List ℕ
  pub is : text_of_states image given (states (lost_graph image given.blocks) image) (damaged_states (lost_graph image given.blocks) image)
      ≡ Some text
  pub put : Appends text before.out.written after.out.written

abbrev pub TellsStates : GivenSuper → Objects → Objects → Type 0
TellsStates given before after = IfSome before.input.held (λ image. TellsStatesOf image given before after)

-- no two trees fit each other, and there is no damaged state
abbrev pub HasNoStates : GivenSuper → Objects → Type 0
HasNoStates given before =
    IfSome before.input.held (λ image. ((top details : ℕ) → are_fitting (lost_graph image given.blocks) image top details ≡ false)
    × (damaged_states (lost_graph image given.blocks) image ≡ []))

-- what is kept of a device: its number, and its mappings
abbrev pub kept_of_device : ThinDevice → ℕ × (ℕ × List Mapping)
kept_of_device d = (d.id, (d.mapped, d.mappings))

-- the roots of a state, where they are named
abbrev pub named_of : FoundRoots → NamedRoots
named_of roots = record { top = roots.top; details = roots.details }

-- a repair from the roots of a damaged state saves the devices and mappings that its line counts, and a dry run tells as many
pub record KeepsListed (image : List (List ℕ)) (given : GivenSuper) (listed : FoundRoots) : Type 0 where
  pub devices : map kept_of_device (saved_from_named false image given (named_of listed)).devices
      ≡ map kept_of_device (kept_devices (lost_graph image given.blocks) image listed.top listed.details)
  pub mappings : sum_by (λ (d : ThinDevice). d.mapped) (saved_from_named false image given (named_of listed)).devices ≡ listed.mappings
  pub told_devices : (told_from (named_fields image given (named_of listed)) image).devices
      ≡ length (kept_devices (lost_graph image given.blocks) image listed.top listed.details)
  pub told_mappings : (told_from (named_fields image given (named_of listed)) image).mappings ≡ listed.mappings
