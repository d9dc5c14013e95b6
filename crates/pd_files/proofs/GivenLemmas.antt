-- What a file gave, after one more of its calls.
use Rattle.std.proofs.Common.{◌≡◌, ℕ, zero, suc, ◌+◌, ◌-◌, ◌*◌, ◌<◌, ◌≤◌, ◌⊎◌, inl, inr, true, false, List, [], ◌∷◌, ◌++◌, length, take, append_assoc, length-append, refl, sym, ap, ◌∙◌, arith}
use Rattle.std.specs.Prelude.{slice_get, nat_lt, Option, Some, None}
use Rattle.std.proofs.lemmas.Bool.Decides.{nat_tests}
use Rattle.std.proofs.lemmas.Bool.{cases_lt, false≢true}
use Rattle.std.proofs.lemmas.List.{length-take}
use Rattle.std.proofs.lemmas.List.Elements.{All-nil, All-cons, All-append}
use Rattle.std.proofs.lemmas.Option.{slice_get_past, slice_get-get_or}
use Rattle.pd_files.specs.FileDevice.{is_at}
use Rattle.pd_files.specs.FileCall.{FileCall, gave, place, given, or_else, IsGivenAt, only_looks, LooksMore}

-- the elements of the front of a list
slice_get-take : (n : ℕ) (xs : List ℕ) (i : ℕ) → i < n → slice_get (take n xs) i ≡ slice_get xs i
slice_get-take zero xs i h = absurd (omega arith)
slice_get-take (suc n) [] i h = refl
slice_get-take (suc n) (x ∷ xs) zero h = refl
slice_get-take (suc n) (x ∷ xs) (suc i) h = slice_get-take n xs i (omega arith)

-- an element that is there comes first
or_else-within : (xs : List ℕ) (i : ℕ) (other : Option ℕ) → i < length xs → or_else (slice_get xs i) other ≡ slice_get xs i
or_else-within xs i other h = rw (slice_get-get_or xs i 0 h) refl

-- what a read gave is what the file gave there
pub given_by_read : (bytes : List ℕ) (calls : List FileCall) (at : ℕ) → place calls ≡ Some at → IsGivenAt (gave bytes true ∷ calls) at bytes
given_by_read bytes calls at stands i within =
    let here : nat_lt (at + i) at ≡ false = grind (arith, nat_tests) in
    let offset : (at + i) - at ≡ i = omega arith in
    rw (stands, here, offset) (or_else-within bytes i (given calls (at + i)) within)

-- what is kept of a read that filled a part of the room is what the file gave there
pub given_front_of_read : (room : List ℕ) (calls : List FileCall) (at came kept : ℕ)
    → place calls ≡ Some at → kept ≤ came → came ≤ length room → IsGivenAt (gave (take came room) true ∷ calls) at (take kept room)
given_front_of_read room calls at came kept stands few most i within =
    let short : i < kept = omega (arith, length-take kept room) in
    given_by_read (take came room) calls at stands i (omega (arith, length-take came room))
    ∙ (slice_get-take came room i (omega arith) ∙ sym (slice_get-take kept room i short))

-- what was given elsewhere stays so after a read
pub given_beside_read : (bytes kept : List ℕ) (calls : List FileCall) (at from : ℕ)
    → place calls ≡ Some from → (at + length kept ≤ from) ⊎ (from + length bytes ≤ at)
    → IsGivenAt calls at kept → IsGivenAt (gave bytes true ∷ calls) at kept
given_beside_read bytes kept calls at from stands (inl before) told i within =
    let low : nat_lt (at + i) from ≡ true = grind (arith, nat_tests) in
    rw (stands, low) (told i within)
given_beside_read bytes kept calls at from stands (inr behind) told i within =
    let high : nat_lt (at + i) from ≡ false = grind (arith, nat_tests) in
    let past : slice_get bytes ((at + i) - from) ≡ None = slice_get_past bytes _ (omega arith) in
    rw (stands, high, past) (told i within)

-- whatever a file gave, where no call of it but a move, or a read that failed, was made
pub IsGivenAt-same : (old new : List FileCall) (at : ℕ) (bytes : List ℕ) → ((i : ℕ) → given new i ≡ given old i) → IsGivenAt old at bytes → IsGivenAt new at bytes
IsGivenAt-same old new at bytes same told i within = same (at + i) ∙ told i within

-- where the position is known to be a block, it is that block
pub is_at-same : (position : Option ℕ) (b : ℕ) → is_at position b ≡ true → position ≡ Some b
is_at-same None b at = absurd (false≢true at)
is_at-same (Some c) b at = let same : c ≡ b = grind (arith, nat_tests) in ap Some same

-- one call more
pub one_look : (call : FileCall) (calls : List FileCall) → only_looks call ≡ true → LooksMore 1 calls (call ∷ calls)
one_look call calls looks = record { later = call ∷ []; before = refl; looks = All-cons (λ other. only_looks other ≡ true) call [] looks (All-nil (λ other. only_looks other ≡ true)); few = omega arith }

-- some calls more, and then others
pub looks_then : (m n most : ℕ) (first second third : List FileCall) → m + n ≤ most → LooksMore m first second → LooksMore n second third → LooksMore most first third
looks_then m n most first second third bound some others = record {
  later = others.later ++ some.later;
  before = others.before ∙ ap (λ (calls : List FileCall). others.later ++ calls) some.before ∙ sym (append_assoc others.later some.later first);
  looks = All-append (λ call. only_looks call ≡ true) others.later some.later others.looks some.looks;
  few = omega (arith, length-append others.later some.later, some.few, others.few);
}

-- where a block isn't one of a run, it stands before the run or behind it
pub beside_run : (b first count : ℕ) → ((first ≤ b) × (b < first + count) → ⊥) → (4096 * first + 4096 * count ≤ 4096 * b) ⊎ (4096 * b + 4096 ≤ 4096 * first)
beside_run b first count outside = elim (cases_lt b first) [
  | inl low ↦ inr (omega arith)
  | inr high ↦ elim (cases_lt b (first + count)) [
    | inl within ↦ absurd (outside (high, within))
    | inr past ↦ inl (omega arith)
  ]
]
