-- Tests of the elements of a list, one after another.
-- What bytes that are appended to a sink, or a front of them, come to.
-- What holds of each element of a list, by recursion.
use Rattle.std.proofs.Common.{◌≡◌, ℕ, ◌+◌, ◌||◌, Bool, List, [], ◌∷◌, ◌++◌, Some, take, refl, length, min, Option, ◌∙◌, ◌*◌, ◌≤◌, false, map, arith}
use Rattle.std.specs.List.{slice_get, list_any, AllByRecursion, flat_map}
use Rattle.std.proofs.lemmas.List.{take_more, append-nil, take_min, take-append-le, length-append}
use Rattle.std.proofs.lemmas.Option.{slice_get_within, get_or_from_slice_get}
use Rattle.std.proofs.lemmas.List.Folds.{list_any-append}
use Rattle.std.proofs.Math.Bool.{or-false}
use Rattle.std.proofs.Math.Nat.{min-le_right, suc-mul}
use Rattle.std.proofs.Math.Seq.{take-length}
use Rattle.std.proofs.lemmas.Bool.{or_parts}
use Rattle.pd_kinds.specs.Objects.{Appends, AppendsFront}

-- a loop's step: one element more of a list is tested
pub any_more : {X : Type 0} → (p : X → Bool) (xs : List X) (i : ℕ) (x : X) (before here : Bool) → slice_get xs i ≡ Some x
    → before ≡ list_any p (take i xs) → here ≡ p x → (before || here) ≡ list_any p (take (i + 1) xs)
any_more p xs i x before here found so_far last =
    let more : take (i + 1) xs ≡ take i xs ++ x ∷ [] =
    rw (get_or_from_slice_get xs i x x found) at (take_more xs i x (slice_get_within xs i x found)) in
    rw (more, list_any-append p (take i xs) (x ∷ []), or-false (p x), so_far, last) refl

-- nothing was appended
pub appends_none : (now : Option (List ℕ)) → Appends [] now now
appends_none now = record { told = λ before e. rw (append-nil before) e }

-- a front of any bytes, where nothing was appended
pub front_none : (bytes : List ℕ) (now : Option (List ℕ)) → AppendsFront bytes now now
front_none bytes now = record { told = λ before e. (0, rw (append-nil before) e) }

-- all is a front
pub front_from_whole : (bytes : List ℕ) (old new : Option (List ℕ)) → Appends bytes old new → AppendsFront bytes old new
front_from_whole bytes old new all =
    record { told = λ before e. (length bytes, rw (take-length bytes) (all.told before e)) }

-- a front of the bytes is one of more bytes
pub front_of_more : (bytes more : List ℕ) (old new : Option (List ℕ)) → AppendsFront bytes old new → AppendsFront (bytes ++ more) old new
front_of_more bytes more old new front =
    record {
      told = λ before e.
          let given = front.told before e in
          let same : take (min given.0 (length bytes)) (bytes ++ more) ≡ take given.0 bytes =
          take-append-le (min given.0 (length bytes)) bytes more (min-le_right given.0 (length bytes)) ∙ take_min given.0 bytes in
          (min given.0 (length bytes), rw same given.1);
    }

-- what follows from a fact holds of each element
pub all_from : {X : Type 0} → (P Q : X → Type 0) → ((x : X) → P x → Q x) → (xs : List X) → AllByRecursion P xs → AllByRecursion Q xs
all_from P Q follows [] all = tt
all_from P Q follows (x ∷ xs) all = (follows x all.0, all_from P Q follows xs all.1)

-- and what follows from two facts
pub all_from_two : {X : Type 0} → (P Q R : X → Type 0) → ((x : X) → P x → Q x → R x) → (xs : List X)
    → AllByRecursion P xs → AllByRecursion Q xs → AllByRecursion R xs
all_from_two P Q R follows [] ps qs = tt
all_from_two P Q R follows (x ∷ xs) ps qs = (follows x ps.0 qs.0, all_from_two P Q R follows xs ps.1 qs.1)

-- two lists in a row
pub all_append : {X : Type 0} → (P : X → Type 0) (xs ys : List X) → AllByRecursion P xs → AllByRecursion P ys → AllByRecursion P (xs ++ ys)
all_append P [] ys front back = back
all_append P (x ∷ xs) ys front back = (front.0, all_append P xs ys front.1 back)

-- a list of values, where it holds of any value
pub all_map : {X Y : Type 0} → (f : X → Y) (P : Y → Type 0) → ((x : X) → P (f x)) → (xs : List X) → AllByRecursion P (map f xs)
all_map f P holds [] = tt
all_map f P holds (x ∷ xs) = (holds x, all_map f P holds xs)

-- a fact on the elements holds of the mapped list
pub all_mapped : {X Y : Type 0} → (f : X → Y) (P : Y → Type 0) (xs : List X) → AllByRecursion (λ x. P (f x)) xs → AllByRecursion P (map f xs)
all_mapped f P [] all = tt
all_mapped f P (x ∷ xs) all = (all.0, all_mapped f P xs all.1)

-- lists in a row, one for each element
pub all_flat_map : {X Y : Type 0} → (f : X → List Y) (P : Y → Type 0) (xs : List X) → AllByRecursion (λ x. AllByRecursion P (f x)) xs
    → AllByRecursion P (flat_map f xs)
all_flat_map f P [] all = tt
all_flat_map f P (x ∷ xs) all = all_append P (f x) (flat_map f xs) all.0 (all_flat_map f P xs all.1)

-- what holds of anything
pub all_of : {X : Type 0} → (P : X → Type 0) → ((x : X) → P x) → (xs : List X) → AllByRecursion P xs
all_of P holds [] = tt
all_of P holds (x ∷ xs) = (holds x, all_of P holds xs)

-- no element passes
pub none_passes : {X : Type 0} → (p : X → Bool) (xs : List X) → list_any p xs ≡ false → AllByRecursion (λ x. p x ≡ false) xs
none_passes p [] none = tt
none_passes p (x ∷ xs) none =
    let parts = or_parts (p x) (list_any p xs) none in
    (parts.0, none_passes p xs parts.1)

-- each element gives a few others
pub length-flat_map : {X Y : Type 0} → (f : X → List Y) (few : ℕ) → ((x : X) → length (f x) ≤ few) → (xs : List X) → length (flat_map f xs) ≤ length xs * few
length-flat_map f few each [] = omega arith
length-flat_map f few each (x ∷ xs) =
    omega (arith, length-append (f x) (flat_map f xs), each x, length-flat_map f few each xs, suc-mul (length xs) few)
