-- Numbers come back from their bytes, whatever follows.
use Rattle.std.proofs.Common.{◌≡◌, ℕ, zero, suc, ◌+◌, ◌*◌, ◌/◌, ◌%◌, ◌^◌, ◌<◌, ◌≤◌, List, [], ◌∷◌, ◌++◌, length, drop, get_or, Option, Some, None, refl, sym, ap, ◌∙◌, inl, inr, append_assoc, arith, ◌-◌}
use Rattle.std.proofs.lemmas.Bool.Decides.{nat_tests}
use Rattle.std.proofs.lemmas.Bool.{cases_lt}
use Rattle.std.proofs.lemmas.List.{at_drop_more, at_drop_all}
use Rattle.std.proofs.lemmas.Nat.{mul-mod_first}
use Rattle.std.proofs.Math.Nat.{add-mod-mod, mod-add-mod, mod-eq_of_lt, mod-lt, mul-add, mul_assoc, mul_comm, add-mod_right}
use Rattle.pd_meaning_thin.specs.Packed.{groups_at, number_at, packed_number, packed_within, raised, reduced, distance, folded, moved, unfolded}

-- ---- the bytes of a number

packed_within-small : (steps number : ℕ) → number < 128 → packed_within steps number ≡ number ∷ []
unfolding packed_within
packed_within-small zero number small = refl
packed_within-small (suc steps) number small = grind (arith, nat_tests)

packed_within-large : (steps number : ℕ) → 128 ≤ number → packed_within (suc steps) number ≡ (number % 128 + 128) ∷ packed_within steps (number / 128)
unfolding packed_within
packed_within-large steps number large = grind (arith, nat_tests)

-- further steps change nothing
packed_within-more : (steps others number : ℕ) → number ≤ steps → number ≤ others → packed_within steps number ≡ packed_within others number
packed_within-more zero others number few many =
    packed_within-small zero number (omega arith) ∙ sym (packed_within-small others number (omega arith))
packed_within-more (suc steps) zero number few many =
    packed_within-small (suc steps) number (omega arith) ∙ sym (packed_within-small zero number (omega arith))
packed_within-more (suc steps) (suc others) number few many = elim (cases_lt number 128) [
  | inl small ↦ packed_within-small (suc steps) number small ∙ sym (packed_within-small (suc others) number small)
  | inr large ↦
      packed_within-large steps number large
      ∙ ap (λ (rest : List ℕ). (number % 128 + 128) ∷ rest) (packed_within-more steps others (number / 128) (omega arith) (omega arith))
      ∙ sym (packed_within-large others number large)
]

pub packed_number-small : (number : ℕ) → number < 128 → packed_number number ≡ number ∷ []
unfolding packed_number
packed_number-small number small = packed_within-small number number small

pub packed_number-large : (number : ℕ) → 128 ≤ number → packed_number number ≡ (number % 128 + 128) ∷ packed_number (number / 128)
unfolding packed_number
packed_number-large zero large = absurd (omega arith)
packed_number-large (suc below) large =
    packed_within-large below (suc below) large
    ∙ ap (λ (rest : List ℕ). (suc below % 128 + 128) ∷ rest)
    (packed_within-more below (suc below / 128) (suc below / 128) (omega arith) (omega arith))

-- it takes a byte at least
pub length-packed_number : (number : ℕ) → 1 ≤ length (packed_number number)
length-packed_number number = elim (cases_lt number 128) [
  | inl small ↦ rw (packed_number-small number small) (omega arith)
  | inr large ↦ rw (packed_number-large number large) (omega arith)
]

-- a byte more of it
pub packed_number-step : (front whole : List ℕ) (rest : ℕ) → 128 ≤ rest → front ++ packed_number rest ≡ whole
    → (front ++ (rest % 128 + 128) ∷ []) ++ packed_number (rest / 128) ≡ whole
packed_number-step front whole rest large is =
    append_assoc front ((rest % 128 + 128) ∷ []) (packed_number (rest / 128))
    ∙ ap (λ (more : List ℕ). front ++ more) (sym (packed_number-large rest large))
    ∙ is

pub packed_number-end : (front whole : List ℕ) (rest : ℕ) → rest < 128 → front ++ packed_number rest ≡ whole → front ++ rest ∷ [] ≡ whole
packed_number-end front whole rest small is = ap (λ (more : List ℕ). front ++ more) (sym (packed_number-small rest small)) ∙ is

-- ---- the number that bytes begin with

groups_at-last : (byte : ℕ) (bytes : List ℕ) → byte < 128 → groups_at (byte ∷ bytes) ≡ Some (byte, bytes)
unfolding groups_at
groups_at-last byte bytes small = grind (arith, nat_tests)

groups_at-more : (byte : ℕ) (bytes : List ℕ) → 128 ≤ byte → groups_at (byte ∷ bytes) ≡ raised (byte % 128) 128 (groups_at bytes)
unfolding groups_at
groups_at-more byte bytes large = grind (arith, nat_tests)

groups_at-none : groups_at [] ≡ None
unfolding groups_at
groups_at-none = refl

groups_at-within : (steps number : ℕ) (bytes : List ℕ) → number ≤ steps → groups_at (packed_within steps number ++ bytes) ≡ Some (number, bytes)
groups_at-within zero number bytes few =
    ap (λ (front : List ℕ). groups_at (front ++ bytes)) (packed_within-small zero number (omega arith))
    ∙ groups_at-last number bytes (omega arith)
groups_at-within (suc steps) number bytes few = elim (cases_lt number 128) [
  | inl small ↦
      ap (λ (front : List ℕ). groups_at (front ++ bytes)) (packed_within-small (suc steps) number small)
      ∙ groups_at-last number bytes small
  | inr large ↦
      ap (λ (front : List ℕ). groups_at (front ++ bytes)) (packed_within-large steps number large)
      ∙ groups_at-more (number % 128 + 128) (packed_within steps (number / 128) ++ bytes) (omega arith)
      ∙ ap (λ (high : Option (ℕ × List ℕ)). raised ((number % 128 + 128) % 128) 128 high)
      (groups_at-within steps (number / 128) bytes (omega arith))
      ∙ ap (λ (whole : ℕ). Some (whole, bytes)) (omega arith)
]

-- a number comes back
pub number_at-packed : (number : ℕ) (bytes : List ℕ) → number < 2 ^ 64 → number_at (packed_number number ++ bytes) ≡ Some (number, bytes)
unfolding number_at packed_number
number_at-packed number bytes fits =
    ap reduced (groups_at-within number number bytes (omega arith))
    ∙ ap (λ (whole : ℕ). Some (whole, bytes)) (mod-eq_of_lt fits)

pub number_at-none : number_at [] ≡ None
unfolding number_at
number_at-none = ap reduced groups_at-none

-- ---- what is left behind a number

raised-some : (value scale : ℕ) (high : Option (ℕ × List ℕ)) (got : ℕ × List ℕ) → raised value scale high ≡ Some got
    → (one : ℕ × List ℕ) × (high ≡ Some one) × (one.1 ≡ got.1)
raised-some value scale None got is = absurd (cc)
raised-some value scale (Some one) got is = (one, refl, cc)

groups_at-shorter : (bytes : List ℕ) (got : ℕ × List ℕ) → groups_at bytes ≡ Some got → length got.1 < length bytes
groups_at-shorter [] got is = absurd (let e : None ≡ Some got = sym groups_at-none ∙ is in cc)
groups_at-shorter (byte ∷ bytes) got is = elim (cases_lt byte 128) [
  | inl small ↦
      let e : Some (byte, bytes) ≡ Some got = sym (groups_at-last byte bytes small) ∙ is in
      let rest : got.1 ≡ bytes = cc in
      rw rest (omega arith)
  | inr large ↦
      let one = raised-some (byte % 128) 128 (groups_at bytes) got (sym (groups_at-more byte bytes large) ∙ is) in
      let shorter : length one.0.1 < length bytes = groups_at-shorter bytes one.0 one.1 in
      omega (arith, ap length one.2)
]

reduced-some : (o : Option (ℕ × List ℕ)) (got : ℕ × List ℕ) → reduced o ≡ Some got
    → (one : ℕ × List ℕ) × (o ≡ Some one) × (one.0 % 2 ^ 64 ≡ got.0) × (one.1 ≡ got.1)
reduced-some None got is = absurd (cc)
reduced-some (Some one) got is = (one, refl, cc, cc)

pub number_at-shorter : (bytes : List ℕ) (got : ℕ × List ℕ) → number_at bytes ≡ Some got → length got.1 < length bytes
unfolding number_at
number_at-shorter bytes got is =
    let one = reduced-some (groups_at bytes) got is in
    omega (arith, ap length one.3, groups_at-shorter bytes one.0 one.1)

pub number_at-fits : (bytes : List ℕ) (got : ℕ × List ℕ) → number_at bytes ≡ Some got → got.0 < 2 ^ 64
unfolding number_at
number_at-fits bytes got is =
    let one = reduced-some (groups_at bytes) got is in
    rw (← one.2) (mod-lt one.0.0 (omega arith))

-- ---- a number byte by byte, modulo 2^64

-- the number that begins with what was read, of which the next group has this scale
abbrev pub number_with : List ℕ → ℕ → ℕ → ℕ → Option (ℕ × List ℕ)
number_with bytes i value scale = reduced (raised value scale (groups_at (drop i bytes)))

raised-nothing : (high : Option (ℕ × List ℕ)) → raised 0 1 high ≡ high
raised-nothing None = refl
raised-nothing (Some high) = ap (λ (whole : ℕ). Some (whole, high.1)) (omega arith)

pub number_with-nothing : (bytes : List ℕ) (at : ℕ) → number_at (drop at bytes) ≡ number_with bytes at 0 1
unfolding number_at
number_with-nothing bytes at = ap reduced (sym (raised-nothing (groups_at (drop at bytes))))

pub number_with-none : (bytes : List ℕ) (i value scale : ℕ) → length bytes ≤ i → number_with bytes i value scale ≡ None
number_with-none bytes i value scale past =
    ap (λ (high : Option (ℕ × List ℕ)). reduced (raised value scale high)) (at_drop_all groups_at bytes i past ∙ groups_at-none)

pub number_with-last : (bytes : List ℕ) (i value scale : ℕ) → i < length bytes → get_or bytes i 0 < 128
    → number_with bytes i value scale ≡ Some ((value + ((get_or bytes i 0 % 128) * scale) % 2 ^ 64) % 2 ^ 64, drop (i + 1) bytes)
number_with-last bytes i value scale within small =
    ap (λ (high : Option (ℕ × List ℕ)). reduced (raised value scale high))
    (at_drop_more groups_at bytes i 0 within ∙ groups_at-last (get_or bytes i 0) (drop (i + 1) bytes) small)
    ∙ ap (λ (whole : ℕ). Some (whole, drop (i + 1) bytes))
    (ap (λ (low : ℕ). (value + low) % 2 ^ 64)
    (mul_comm scale (get_or bytes i 0) ∙ ap (λ (byte : ℕ). byte * scale) (sym (mod-eq_of_lt small)))
    ∙ sym (add-mod-mod value ((get_or bytes i 0 % 128) * scale) (2 ^ 64)))

wrapped : (value scale low high m : ℕ)
    → (value + scale * (low + 128 * high)) % m ≡ ((value + (low * scale) % m) % m + ((scale * 128) % m) * high) % m
wrapped value scale low high m = sym
    (mod-add-mod (value + (low * scale) % m) m (((scale * 128) % m) * high)
    ∙ sym (add-mod-mod (value + (low * scale) % m) (((scale * 128) % m) * high) m)
    ∙ ap (λ (more : ℕ). (value + (low * scale) % m + more) % m) (mul-mod_first (scale * 128) high m)
    ∙ add-mod-mod (value + (low * scale) % m) (scale * 128 * high) m
    ∙ ap (λ (whole : ℕ). whole % m) (omega arith)
    ∙ add-mod-mod (value + scale * 128 * high) (low * scale) m
    ∙ ap (λ (whole : ℕ). whole % m)
    (omega (arith, mul-add scale low (128 * high), mul_comm low scale, mul_assoc scale 128 high)))

reduced-raised : (value scale low : ℕ) (high : Option (ℕ × List ℕ))
    → reduced (raised value scale (raised low 128 high))
    ≡ reduced (raised ((value + (low * scale) % 2 ^ 64) % 2 ^ 64) ((scale * 128) % 2 ^ 64) high)
reduced-raised value scale low None = refl
reduced-raised value scale low (Some high) =
    ap (λ (whole : ℕ). Some (whole, high.1)) (wrapped value scale low high.0 (2 ^ 64))

pub number_with-more : (bytes : List ℕ) (i value scale : ℕ) → i < length bytes → 128 ≤ get_or bytes i 0
    → number_with bytes i value scale
    ≡ number_with bytes (i + 1) ((value + ((get_or bytes i 0 % 128) * scale) % 2 ^ 64) % 2 ^ 64) ((scale * 128) % 2 ^ 64)
number_with-more bytes i value scale within large =
    ap (λ (high : Option (ℕ × List ℕ)). reduced (raised value scale high))
    (at_drop_more groups_at bytes i 0 within ∙ groups_at-more (get_or bytes i 0) (drop (i + 1) bytes) large)
    ∙ reduced-raised value scale (get_or bytes i 0 % 128) (groups_at (drop (i + 1) bytes))

-- Differences come back.

pub moved-distance : (from to : ℕ) → from < 2 ^ 64 → to < 2 ^ 64 → moved from (distance from to) ≡ to
moved-distance from to here there =
    add-mod-mod from (to + (2 ^ 64 - from)) (2 ^ 64)
    ∙ ap (λ (whole : ℕ). whole % 2 ^ 64) (omega arith)
    ∙ add-mod_right to (2 ^ 64)
    ∙ mod-eq_of_lt there

pub distance-fits : (from to : ℕ) → distance from to < 2 ^ 64
distance-fits from to = mod-lt (to + (2 ^ 64 - from)) (omega arith)

pub moved-fits : (from by : ℕ) → moved from by < 2 ^ 64
moved-fits from by = mod-lt (from + by) (omega arith)

pub folded-fits : (difference : ℕ) → difference < 2 ^ 64 → folded difference < 2 ^ 64
unfolding folded
folded-fits difference fits = grind (arith, nat_tests)

pub unfolded-folded : (difference : ℕ) → difference < 2 ^ 64 → unfolded (folded difference) ≡ difference
unfolding folded unfolded
unfolded-folded difference fits = elim (cases_lt difference (2 ^ 63)) [
  | inl up ↦ grind (arith, nat_tests)
  | inr down ↦ grind (arith, nat_tests)
]
