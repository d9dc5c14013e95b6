-- What is left of the blocks of an array.
use Rattle.std.specs.Prelude.{◌≡◌, ℕ, List, [], ◌∷◌, ◌++◌, Option, Some, None}
use Rattle.pd_value.specs.declared.thin.Root.{Root}
use Rattle.pd_tree.specs.Cursor.{root_of}
use Rattle.pd_salvage_cache.specs.declared.places.Places.{Places}
use Rattle.pd_salvage_cache.specs.declared.places.Known.{Known}
use Rattle.pd_salvage_cache.specs.declared.places.Known.TheVariants as k
use Rattle.pd_salvage.specs.Cursor.{saved_left, saved_room}
use Rattle.pd_salvage.specs.Details.{FindsSame, IsFound}

-- the entry that was read last
abbrev pub ahead_items : Option (ℕ × Root) → List (ℕ × Root)
ahead_items None = []
ahead_items (Some item) = item ∷ []

-- the entries that can be found
abbrev pub places_left : List (List ℕ) → Places → List (ℕ × Root)
places_left image places = ahead_items places.ahead ++ saved_left 8 root_of image places.entries

-- how many blocks the device must have
abbrev pub places_room : Places → ℕ
places_room places = saved_room places.entries

-- what is known of a key is what is found of it, whatever the device tells
pub record KnowsHere (key : ℕ) (known : Option Root) (old new : Places) : Type 0 where
  pub same : new ≡ old
  pub found : (image : List (List ℕ)) → IsFound key known (places_left image old) (places_left image old)

pub record KnowsNothing (key : ℕ) (old new : Places) : Type 0 where
  pub none : new.ahead ≡ None
  pub same : new.entries ≡ old.entries
  pub finds : (image : List (List ℕ)) → FindsSame key (places_left image old) (places_left image new)

abbrev pub IsKnown : ℕ → Known → Places → Places → Type 0
IsKnown key (k.Here root) old new = KnowsHere key (Some root) old new
IsKnown key k.Past old new = KnowsHere key None old new
IsKnown key k.Unread old new = KnowsNothing key old new
