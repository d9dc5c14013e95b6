-- The details that a details tree gives for the devices of a mapping tree, and the best details tree.
use Rattle.std.specs.Prelude.{ℕ, ◌+◌, ◌/◌, ◌%◌, ◌^◌, ◌≤◌, ◌<◌, max, ◌==◌, ◌&&◌, Bool, not, nat_lt, if◌then◌else◌, List, [], ◌∷◌, length, map, filter, fold}
use Rattle.std.specs.List.{AllByRecursion, flat_map, list_any}
use Rattle.pd_kinds.specs.Node.{Entry}
use Rattle.pd_kinds.specs.Graph.{Graph, is_outside}
use Rattle.pd_laid.specs.FoundRoots.{is_greater}
use Rattle.pd_laid.specs.Salvage.{salvaged_entries}
use Rattle.pd_value.specs.declared.thin.Details.{Details}
use Rattle.pd_value.specs.declared.thin.Root.{Root}
use Rattle.pd_measures.specs.Counts.{latest}
use Rattle.pd_measures.specs.Measured.{capped}
use Rattle.pd_answers.specs.DamagedStates.{better_details, given_details}
use Rattle.pd_damaged.specs.declared.given.Given.{Given}

-- the devices of a mapping tree whose roots are inside, and their ids
abbrev pub inside_tops : ℕ → List (List ℕ) → ℕ → List Entry
inside_tops nr image top = filter (λ (e : Entry). not (is_outside nr e.value)) (salvaged_entries 8 nr image top)

abbrev pub ids_below : ℕ → List (List ℕ) → ℕ → List ℕ
ids_below nr image top = map (λ (e : Entry). e.key) (inside_tops nr image top)

-- an id is one of some
abbrev pub is_id : List ℕ → ℕ → Bool
is_id ids id = list_any (λ other. other == id) ids

-- ids ascend, from one on
abbrev pub AscendFrom : ℕ → List ℕ → Type 0
AscendFrom least [] = Unit {0}
AscendFrom least (id ∷ ids) = (least ≤ id) × AscendFrom (id + 1) ids

-- what details trees are compared by, where a tree gives these details: the times, and the transactions
abbrev pub times_given : List ℕ → List ℕ
times_given values = flat_map (λ (v : ℕ). (v / 2 ^ 128 % 2 ^ 32) ∷ (v / 2 ^ 160) ∷ []) values

abbrev pub transactions_given : List ℕ → List ℕ
transactions_given values = map (λ (v : ℕ). v / 2 ^ 64 % 2 ^ 64) values

unfoldable pub given_of : ℕ → List ℕ → Given
given_of details values = record {
  number = capped (length values);
  time = latest (times_given values);
  transaction = latest (transactions_given values);
  details = details;
}

-- a tree that gives none, and one that gives one more
abbrev pub none_given : ℕ → Given
none_given details = record { number = 0; time = 0; transaction = 0; details = details }

abbrev pub given_more : Given → Details → Given
given_more given d = record {
  number = capped (given.number + 1);
  time = max given.time (max d.created d.snapped);
  transaction = max given.transaction d.transaction;
  details = given.details;
}

-- by an entry of the tree
abbrev pub given_counted : List ℕ → Given → ℕ × Details → Given
given_counted ids given item = if is_id ids item.0 then given_more given item.1 else given

-- the numbers that they are compared by, the first one first
abbrev pub given_score : Given → List ℕ
given_score given = given.number ∷ given.time ∷ given.transaction ∷ given.details ∷ []

-- what a details tree gives for a mapping tree
abbrev pub given_at : Graph → List (List ℕ) → ℕ → ℕ → Given
given_at graph image top d = given_of d (given_details graph image top d)

-- the best of some roots of details trees, after one that was the best so far
abbrev pub best_after : Graph → List (List ℕ) → ℕ → ℕ → List ℕ → ℕ
best_after graph image top best ds =
    fold (better_details graph image top) best (filter (λ d. nat_lt 0 (length (given_details graph image top d))) ds)

-- the better of two, where the other gives any
abbrev pub better_given : Given → Given → Given
better_given best given = if nat_lt 0 given.number && not (is_greater (given_score best) (given_score given)) then given else best

-- a block is one of some, or block 0
abbrev pub IsOneOf : List ℕ → ℕ → Type 0
IsOneOf roots b = (limit : ℕ) → 0 < limit → AllByRecursion (λ r. r < limit) roots → b < limit

-- the ids of entries of a mapping tree whose roots are inside
abbrev pub ids_left : ℕ → List (ℕ × Root) → List ℕ
ids_left nr items = map (λ (item : ℕ × Root). item.0) (filter (λ (item : ℕ × Root). not (is_outside nr item.1.0)) items)
