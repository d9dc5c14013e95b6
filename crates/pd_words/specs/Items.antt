-- What was read of the words, as the definitions speak of it.
-- The numbers and regions that were read of words.
use Rattle.std.specs.Prelude.{◌≡◌, ℕ, ◌<◌, ◌≤◌, List, [], ◌∷◌, drop, Option, Some, None, IfSome, ◌^◌, nat_lt, if◌then◌else◌}
use Rattle.std.specs.List.{filter_map}
use Rattle.std.specs.Option.{option_map, unwrap_or, option_and_then}
use Rattle.pd_answers.specs.Words.{number_below}
use Rattle.pd_answers.specs.Words as asked
use Rattle.pd_words.specs.declared.items.Item.{Item}
use Rattle.pd_words.specs.declared.items.FoundWord.{FoundWord}
use Rattle.pd_words.specs.declared.items.Given.{Given}
use Rattle.pd_words.specs.declared.items.Given.TheVariants.{Never, Once, Often}
use Rattle.pd_words.specs.declared.values.Region.{Region}

-- the items that begin with this one
abbrev pub with_item : List (List ℕ) → Option Item → Option (List asked.Item)
with_item words None = None
with_item words (Some item) = asked.more item.purpose.now item.value.now (asked.items_of (drop item.next words))

-- the items of the words after the first one, which is the tool's name
unfoldable pub items_in : List (List ℕ) → List asked.Item
items_in words = unwrap_or (asked.items_of (drop 1 words)) []

-- these words are items
abbrev pub AreItems : List (List ℕ) → Type 0
AreItems words = asked.items_of (drop 1 words) ≡ Some (items_in words)

-- an item from this index on, of so many words
pub record IsItemWithin (begin number : ℕ) (item : Item) : Type 0 where
  pub next : begin < item.next
  pub end : item.next ≤ number

-- the values that the words from this one on give for something
abbrev pub values_in : List ℕ → Option (List asked.Item) → Option (List (List ℕ))
values_in purpose items = option_map (filter_map (asked.value_of purpose)) items

unfoldable pub values_from : List (List ℕ) → List ℕ → ℕ → Option (List (List ℕ))
values_from words purpose at = values_in purpose (asked.items_of (drop at words))

-- the values begin with the one that was found; where none was found, there are none
abbrev pub with_found : List (List ℕ) → List ℕ → Option (List (List ℕ)) → Option FoundWord → Type 0
with_found words purpose values None = IfSome values (λ vs. vs ≡ [])
with_found words purpose values (Some found) =
    values ≡ option_map (λ (vs : List (List ℕ)). found.value.now ∷ vs) (values_from words purpose found.next)

-- how often something was given, with the word that gives it
abbrev pub given_as : Given → asked.Given
given_as Never = asked.never
given_as (Once word) = asked.once word.now
given_as Often = asked.often

-- the region as the definitions speak of it
abbrev pub region_as : Option Region → Option asked.Region
region_as None = None
region_as (Some region) = Some (record { first = region.first; end = region.end })

-- the region between two words
abbrev pub region_from : List ℕ → List ℕ → Option asked.Region
region_from begin end =
    option_and_then (λ first. option_and_then (λ last. if nat_lt last first then None else Some (record { first = first; end = last })) (number_below (2 ^ 64) end)) (number_below (2 ^ 64) begin)
