-- What is left of the details of devices.
use Rattle.std.specs.Prelude.{◌≡◌, ℕ, ◌<◌, ◌≤◌, List, [], ◌∷◌, ◌++◌, Option, Some, None}
use Rattle.std.specs.Option.{unwrap_or}
use Rattle.pd_value.specs.declared.thin.Details.{Details}
use Rattle.pd_tree.specs.Search.{lookup}
use Rattle.pd_meaning_thin.specs.Runs.{details_of}
use Rattle.pd_salvage.specs.declared.details.SavedDetails.{SavedDetails}
use Rattle.pd_salvage.specs.declared.details.Known.{Known}
use Rattle.pd_salvage.specs.Cursor.{saved_left, saved_room}
use Rattle.pd_salvage.specs.declared.details.Known.TheVariants as k

-- the entry that was read last
abbrev pub ahead_items : Option (ℕ × Details) → List (ℕ × Details)
ahead_items None = []
ahead_items (Some item) = item ∷ []

-- the entries that can be found
abbrev pub details_left : List (List ℕ) → SavedDetails → List (ℕ × Details)
details_left image details = ahead_items details.ahead ++ saved_left 24 details_of image details.entries

-- how many blocks the device must have
abbrev pub details_room : SavedDetails → ℕ
details_room details = saved_room details.entries

-- an answer is what the key has, and greater keys have what they had
pub record IsFound {X : Type 0} (id : ℕ) (found : Option X) (old new : List (ℕ × X)) : Type 0 where
  pub here : found ≡ lookup id old
  pub later : (key : ℕ) → id < key → lookup key new ≡ lookup key old

-- from an id on the same is found in what is left after as before
abbrev pub FindsSame : {X : Type 0} → ℕ → List (ℕ × X) → List (ℕ × X) → Type 0
FindsSame {X} id old new = (key : ℕ) → id ≤ key → lookup key new ≡ lookup key old

-- what is known of a device is what is found of it, whatever the device tells
pub record KnowsHere (id : ℕ) (known : Option Details) (old new : SavedDetails) : Type 0 where
  pub same : new ≡ old
  pub found : (image : List (List ℕ)) → IsFound id known (details_left image old) (details_left image old)

pub record KnowsNothing (id : ℕ) (old new : SavedDetails) : Type 0 where
  pub none : new.ahead ≡ None
  pub same : new.entries ≡ old.entries
  pub finds : (image : List (List ℕ)) → FindsSame id (details_left image old) (details_left image new)

abbrev pub IsKnown : ℕ → Known → SavedDetails → SavedDetails → Type 0
IsKnown id (k.Here details) old new = KnowsHere id (Some details) old new
IsKnown id k.Past old new = KnowsHere id None old new
IsKnown id k.Unread old new = KnowsNothing id old new

-- an answer is what the key has, or what stands for lost details, and greater keys have what they had
pub record IsFoundOr (lost : Details) (id : ℕ) (details : Details) (old new : List (ℕ × Details)) : Type 0 where
  pub here : details ≡ unwrap_or (lookup id old) lost
  pub later : (key : ℕ) → id < key → lookup key new ≡ lookup key old
