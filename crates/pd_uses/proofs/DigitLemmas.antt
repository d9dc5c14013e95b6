-- Lines whose numbers differ in the last two digits alone.
use Rattle.std.proofs.Common.{◌≡◌, ℕ, zero, suc, ◌+◌, ◌-◌, ◌/◌, ◌%◌, ◌^◌, ◌<◌, ◌≤◌, List, [], ◌∷◌, ◌++◌, length, length-append, length-take-le, set, take, refl, sym, ap, ap₂, ◌∙◌, arith, append_assoc, codes, decimal}
use Rattle.std.proofs.lemmas.Fmt.{decimal_step, length-decimal-le}
use Rattle.pd_uses.specs.declared.hits.DataUse.{DataUse}
use Rattle.pd_uses.specs.UseLine.{IsNear, set_two}
use Rattle.pd_uses.specs.Uses.{use_line}

-- two numbers of a list are set
set_pair : (front rest : List ℕ) (a b v w n : ℕ) → n ≡ length front → set (set (front ++ (a ∷ (b ∷ rest))) n v) (n + 1) w ≡ front ++ (v ∷ (w ∷ rest))
set_pair [] rest a b v w zero is = refl
set_pair [] rest a b v w (suc n) is = absurd (omega arith)
set_pair (x ∷ front) rest a b v w zero is = absurd (omega arith)
set_pair (x ∷ front) rest a b v w (suc n) is =
    let next : suc n + 1 ≡ suc (n + 1) = omega arith in
    rw next (ap (λ (xs : List ℕ). x ∷ xs) (set_pair front rest a b v w n (omega arith)))

-- so are those of its front
take_set : (xs : List ℕ) (n i v : ℕ) → i < n → take n (set xs i v) ≡ set (take n xs) i v
take_set [] zero i v within = refl
take_set [] (suc n) i v within = refl
take_set (x ∷ xs) zero i v within = absurd (omega arith)
take_set (x ∷ xs) (suc n) zero v within = refl
take_set (x ∷ xs) (suc n) (suc i) v within = ap (λ (ys : List ℕ). x ∷ ys) (take_set xs n i v (omega arith))

pub take_two : (xs : List ℕ) (n at number : ℕ) → at + 1 < n → take n (set_two xs at number) ≡ set_two (take n xs) at number
take_two xs n at number within =
    take_set (set xs at (48 + number / 10 % 10)) n (at + 1) (48 + number % 10) within
    ∙ ap (λ (ys : List ℕ). set ys (at + 1) (48 + number % 10)) (take_set xs n at (48 + number / 10 % 10) (omega arith))

-- a number is its hundreds and two digits
two_digits : (n : ℕ) → n < 2 ^ 64 → 100 ≤ n → decimal n ≡ decimal (n / 100) ++ ((48 + n / 10 % 10) ∷ ((48 + n % 10) ∷ []))
two_digits n small long =
    let tens : n / 10 / 10 ≡ n / 100 = omega arith in
    decimal_step n (omega arith) small
    ∙ (ap (λ (ds : List ℕ). ds ++ ((48 + n % 10) ∷ [])) (decimal_step (n / 10) (omega arith) (omega arith))
    ∙ (append_assoc (decimal (n / 10 / 10)) ((48 + n / 10 % 10) ∷ []) ((48 + n % 10) ∷ [])
    ∙ ap (λ (m : ℕ). decimal m ++ ((48 + n / 10 % 10) ∷ ((48 + n % 10) ∷ []))) tens))

-- a line is a front, two digits, a middle part, and two digits before its end
regrouped : (p q c i v w : List ℕ) (a b x y : ℕ) → p ++ ((q ++ (a ∷ (b ∷ []))) ++ (c ++ (i ++ (v ++ ((w ++ (x ∷ (y ∷ []))) ++ (10 ∷ []))))))
    ≡ (p ++ q) ++ (a ∷ (b ∷ ((c ++ (i ++ (v ++ w))) ++ (x ∷ (y ∷ (10 ∷ []))))))
regrouped p q c i v w a b x y = simp append_assoc

abbrev front_of : DataUse → List ℕ
front_of one = codes "block " ++ decimal (one.block / 100)

abbrev middle_of : DataUse → List ℕ
middle_of one = codes " device " ++ (decimal one.id ++ (codes " virtual " ++ decimal (one.virt / 100)))

abbrev digits_at : List ℕ → List ℕ → ℕ → ℕ → List ℕ
digits_at front middle block virt =
    front ++ ((48 + block / 10 % 10) ∷ ((48 + block % 10) ∷ (middle ++ ((48 + virt / 10 % 10) ∷ ((48 + virt % 10) ∷ (10 ∷ []))))))

line_is : (one : DataUse) → one.block < 2 ^ 64 → one.virt < 2 ^ 64 → 100 ≤ one.block → 100 ≤ one.virt → use_line one ≡ digits_at (front_of one) (middle_of one) one.block one.virt
line_is one small_block small_virt long_block long_virt =
    rw (two_digits one.block small_block long_block, two_digits one.virt small_virt long_virt)
    (regrouped (codes "block ") (decimal (one.block / 100)) (codes " device ") (decimal one.id) (codes " virtual ") (decimal (one.virt / 100))
    (48 + one.block / 10 % 10) (48 + one.block % 10) (48 + one.virt / 10 % 10) (48 + one.virt % 10))

-- digits are put in place of others
digits_put : (front middle : List ℕ) (block virt new_block new_virt at last : ℕ) → at ≡ length front → last ≡ length front + 2 + length middle
    → set_two (set_two (digits_at front middle block virt) at new_block) last new_virt ≡ digits_at front middle new_block new_virt
digits_put front middle block virt new_block new_virt at last is_at is_last =
    let tail : List ℕ = (48 + virt / 10 % 10) ∷ ((48 + virt % 10) ∷ (10 ∷ [])) in
    let a = 48 + new_block / 10 % 10 in
    let b = 48 + new_block % 10 in
    let v = 48 + new_virt / 10 % 10 in
    let w = 48 + new_virt % 10 in
    let whole = front ++ (a ∷ (b ∷ middle)) in
    let long : last ≡ length whole = omega (arith, is_last, length-append front (a ∷ (b ∷ middle))) in
    ap (λ (xs : List ℕ). set_two xs last new_virt) (set_pair front (middle ++ tail) (48 + block / 10 % 10) (48 + block % 10) a b at is_at)
    ∙ (ap (λ (xs : List ℕ). set_two xs last new_virt) (sym (append_assoc front (a ∷ (b ∷ middle)) tail))
    ∙ (set_pair whole (10 ∷ []) (48 + virt / 10 % 10) (48 + virt % 10) v w last long
    ∙ append_assoc front (a ∷ (b ∷ middle)) (v ∷ (w ∷ (10 ∷ [])))))

-- where the last digits stand in a line, and that it has room
module _ (one : DataUse) (head len : ℕ) (small_block : one.block < 2 ^ 64) (small_virt : one.virt < 2 ^ 64) (long_block : 100 ≤ one.block) (long_virt : 100 ≤ one.virt)
    (is_head : head ≡ length (codes "block " ++ decimal one.block)) (is_len : len ≡ length (use_line one)) where
  pub head_at : head - 2 ≡ length (front_of one)
  head_at =
      let number = ap length (two_digits one.block small_block long_block) in
      omega (
        arith,
        is_head,
        number,
        length-append (decimal (one.block / 100)) ((48 + one.block / 10 % 10) ∷ ((48 + one.block % 10) ∷ [])),
        length-append (codes "block ") (decimal one.block),
        length-append (codes "block ") (decimal (one.block / 100)),
      )

  pub last_at : len - 3 ≡ length (front_of one) + 2 + length (middle_of one)
  last_at =
      let tail : List ℕ = (48 + one.virt / 10 % 10) ∷ ((48 + one.virt % 10) ∷ (10 ∷ [])) in
      let whole = ap length (line_is one small_block small_virt long_block long_virt) in
      omega (arith, is_len, whole, length-append (front_of one) ((48 + one.block / 10 % 10) ∷ ((48 + one.block % 10) ∷ (middle_of one ++ tail))), length-append (middle_of one) tail)

  pub head_within : head - 2 + 1 < len
  head_within = omega (arith, head_at, last_at)

  pub last_within : len - 3 + 1 < len
  last_within = omega (arith, last_at)

  pub line_near : (new : DataUse) → new.block < 2 ^ 64 → new.virt < 2 ^ 64 → IsNear one new → set_two (set_two (use_line one) (head - 2) new.block) (len - 3) new.virt ≡ use_line new
  line_near new small_new_block small_new_virt near =
      let same_block = near.block in
      let same_virt = near.virt in
      let new_long_block : 100 ≤ new.block = omega arith in
      let new_long_virt : 100 ≤ new.virt = omega arith in
      let front : front_of one ≡ front_of new = ap (λ (n : ℕ). codes "block " ++ decimal n) near.block in
      let middle : middle_of one ≡ middle_of new =
      ap₂ (λ (i n : ℕ). codes " device " ++ (decimal i ++ (codes " virtual " ++ decimal n))) near.id near.virt in
      ap (λ (xs : List ℕ). set_two (set_two xs (head - 2) new.block) (len - 3) new.virt) (line_is one small_block small_virt long_block long_virt)
      ∙ (digits_put (front_of one) (middle_of one) one.block one.virt new.block new.virt (head - 2) (len - 3) head_at last_at
      ∙ (ap₂ (λ (f m : List ℕ). digits_at f m new.block new.virt) front middle ∙ sym (line_is new small_new_block small_new_virt new_long_block new_long_virt)))

  pub head_near : (new : DataUse) → new.block < 2 ^ 64 → IsNear one new → head ≡ length (codes "block " ++ decimal new.block)
  head_near new small near =
      let same = near.block in
      let long : 100 ≤ new.block = omega arith in
      let old_number = ap length (two_digits one.block small_block long_block) in
      let new_number = ap length (two_digits new.block small long) in
      let fronts = ap (λ (n : ℕ). length (decimal n)) near.block in
      omega (
        arith,
        is_head,
        old_number,
        new_number,
        fronts,
        length-append (decimal (one.block / 100)) ((48 + one.block / 10 % 10) ∷ ((48 + one.block % 10) ∷ [])),
        length-append (decimal (new.block / 100)) ((48 + new.block / 10 % 10) ∷ ((48 + new.block % 10) ∷ [])),
        length-append (codes "block ") (decimal one.block),
        length-append (codes "block ") (decimal new.block),
      )

-- the room that a line's front takes, and how long a line is
pub head_short : (block head : ℕ) → block < 2 ^ 64 → head ≡ length (codes "block " ++ decimal block) → head ≤ 26
head_short block head small is =
    let number = length-decimal-le 20 block (omega arith) (omega arith) small in
    omega (arith, is, number, length-append (codes "block ") (decimal block))

pub whole_length : (bytes line : List ℕ) (len : ℕ) → len ≤ length bytes → take len bytes ≡ line → len ≡ length line
whole_length bytes line len within is = sym (length-take-le len bytes within) ∙ ap (length {A = ℕ}) is
