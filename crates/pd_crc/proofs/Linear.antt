-- The steps of the checksum are linear over exclusive or, and halve an even number.
use Rattle.std.proofs.Common.{◌≡◌, ℕ, zero, suc, ◌+◌, ◌*◌, ◌/◌, ◌%◌, ◌^◌, ◌<◌, ◌==◌, if◌then◌else◌, refl, ap, ap₂, sym, ◌∙◌, arith, add_comm, zero-add, List, map, get_or}
use Rattle.std.proofs.Math.Nat.{pow-suc, suc-add}
use Rattle.std.specs.Int.Bits.{bit_xor, xor_zero_r, xor_assoc, xor_shifted}
use Rattle.std.proofs.lemmas.Nat.{xor_comm, xor_shr, xor_mod, pow-add, shr-shr}
use Rattle.std.specs.List.{range_with_len}
use Rattle.std.proofs.lemmas.List.FromFn.{get_or-map-range_with_len}
use Rattle.pd_kinds.specs.Field.{crc_bit}
use Rattle.pd_crc.specs.Steps.{byte_step, byte_steps}
use Rattle.pd_crc.specs.declared.tables.TheConstants.{AFTER_ONE, AFTER_TWO, AFTER_THREE, AFTER_FOUR, AFTER_THIRTEEN, AFTER_FOURTEEN, AFTER_FIFTEEN, AFTER_SIXTEEN}

-- what an odd number's step adds
abbrev polynomial_if : ℕ → ℕ
polynomial_if zero = 0
polynomial_if (suc n) = 0x82F63B78

by_low_bit : (half low : ℕ) → low < 2 → (if low == 0 then half else bit_xor half 0x82F63B78) ≡ bit_xor half (polynomial_if low)
by_low_bit half zero _ = sym (xor_zero_r half)
by_low_bit half (suc zero) _ = refl
by_low_bit half (suc (suc low)) h = absurd (omega arith)

crc_bit-halves : (x : ℕ) → crc_bit x ≡ bit_xor (x / 2) (polynomial_if (x % 2))
unfolding crc_bit
crc_bit-halves x = by_low_bit (x / 2) (x % 2) (omega arith)

polynomial_if-xor : (a b : ℕ) → a < 2 → b < 2 → polynomial_if (bit_xor a b) ≡ bit_xor (polynomial_if a) (polynomial_if b)
polynomial_if-xor zero zero _ _ = refl
polynomial_if-xor zero (suc zero) _ _ = refl
polynomial_if-xor (suc zero) zero _ _ = refl
polynomial_if-xor (suc zero) (suc zero) _ _ = refl
polynomial_if-xor zero (suc (suc b)) _ h = absurd (omega arith)
polynomial_if-xor (suc zero) (suc (suc b)) _ h = absurd (omega arith)
polynomial_if-xor (suc (suc a)) b h _ = absurd (omega arith)

pub xor_regroup : (a b c d : ℕ) → bit_xor (bit_xor a b) (bit_xor c d) ≡ bit_xor (bit_xor a c) (bit_xor b d)
xor_regroup a b c d =
    xor_assoc a b (bit_xor c d)
    ∙ ap (λ (x : ℕ). bit_xor a x) (sym (xor_assoc b c d) ∙ ap (λ (x : ℕ). bit_xor x d) (xor_comm b c) ∙ xor_assoc c b d)
    ∙ sym (xor_assoc a c (bit_xor b d))

crc_bit-xor : (a b : ℕ) → crc_bit (bit_xor a b) ≡ bit_xor (crc_bit a) (crc_bit b)
crc_bit-xor a b =
    let low : polynomial_if (bit_xor a b % 2) ≡ bit_xor (polynomial_if (a % 2)) (polynomial_if (b % 2)) =
    ap polynomial_if (xor_mod a b 1) ∙ polynomial_if-xor (a % 2) (b % 2) (omega arith) (omega arith) in
    crc_bit-halves (bit_xor a b)
    ∙ ap₂ bit_xor (xor_shr a b 1) low
    ∙ xor_regroup (a / 2) (b / 2) (polynomial_if (a % 2)) (polynomial_if (b % 2))
    ∙ sym (ap₂ bit_xor (crc_bit-halves a) (crc_bit-halves b))

crc_bit-double : (x : ℕ) → crc_bit (x * 2) ≡ x
crc_bit-double x =
    let half : x * 2 / 2 ≡ x = omega arith in
    let low : x * 2 % 2 ≡ 0 = omega arith in
    crc_bit-halves (x * 2) ∙ ap₂ bit_xor half (ap polynomial_if low) ∙ xor_zero_r x

byte_step-xor : (a b : ℕ) → byte_step (bit_xor a b) ≡ bit_xor (byte_step a) (byte_step b)
unfolding byte_step
byte_step-xor a b = simp crc_bit-xor

byte_step-shift : (x : ℕ) → byte_step (x * 256) ≡ x
unfolding byte_step
byte_step-shift x =
    let doubled : x * 256 ≡ x * 2 * 2 * 2 * 2 * 2 * 2 * 2 * 2 = omega arith in
    rw doubled (simp crc_bit-double)

pub byte_steps-xor : (count a b : ℕ) → byte_steps count (bit_xor a b) ≡ bit_xor (byte_steps count a) (byte_steps count b)
unfolding byte_steps
byte_steps-xor zero a b = refl
byte_steps-xor (suc count) a b = ap byte_step (byte_steps-xor count a b) ∙ byte_step-xor (byte_steps count a) (byte_steps count b)

-- one byte fewer left to do
byte_steps-shift_one : (count x : ℕ) → byte_steps (suc count) (x * 256) ≡ byte_steps count x
unfolding byte_steps
byte_steps-shift_one zero x = byte_step-shift x
byte_steps-shift_one (suc count) x = ap byte_step (byte_steps-shift_one count x)

pub byte_steps-shift : (count x : ℕ) → byte_steps count (x * 256 ^ count) ≡ x
unfolding byte_steps
byte_steps-shift zero x = omega arith
byte_steps-shift (suc count) x =
    let grouped : x * 256 ^ suc count ≡ x * 256 ^ count * 256 = ap (λ (y : ℕ). x * y) (pow-suc 256 count) ∙ omega arith in
    ap (byte_steps (suc count)) grouped ∙ byte_steps-shift_one count (x * 256 ^ count) ∙ byte_steps-shift count x

power_of_bytes : (count : ℕ) → 256 ^ count ≡ 2 ^ (count * 8)
power_of_bytes zero = refl
power_of_bytes (suc count) =
    let more : suc count * 8 ≡ 8 + count * 8 = omega arith in
    let parts : 2 ^ (8 + count * 8) ≡ 256 * 2 ^ (count * 8) = pow-add 2 8 (count * 8) in
    let whole : 256 ^ suc count ≡ 256 * 256 ^ count = omega (arith, pow-suc 256 count) in
    whole ∙ ap (λ (x : ℕ). 256 * x) (power_of_bytes count) ∙ sym parts ∙ ap (λ (x : ℕ). 2 ^ x) (sym more)

-- above the bytes of a number, a sum is an exclusive or
pub xor_above : (count low high : ℕ) → low < 256 ^ count → bit_xor low (high * 256 ^ count) ≡ low + high * 256 ^ count
xor_above count low high below =
    let power = power_of_bytes count in
    let small : low < 2 ^ (count * 8) = omega arith in
    let joined : bit_xor (high * 2 ^ (count * 8)) low ≡ high * 2 ^ (count * 8) + low = xor_shifted high (count * 8) low small in
    rw power (xor_comm low (high * 2 ^ (count * 8)) ∙ joined ∙ add_comm (high * 2 ^ (count * 8)) low)

-- a number is its low byte and the rest
split_byte : (x : ℕ) → x ≡ bit_xor (x % 256) (x / 256 * 256)
split_byte x =
    let below : x % 256 < 256 ^ 1 = omega arith in
    let joined : bit_xor (x % 256) (x / 256 * 256) ≡ x % 256 + x / 256 * 256 = xor_above 1 (x % 256) (x / 256) below in
    omega (arith, joined)

pub byte_steps-split : (count x : ℕ) → byte_steps (suc count) x ≡ bit_xor (byte_steps (suc count) (x % 256)) (byte_steps count (x / 256))
byte_steps-split count x =
    ap (byte_steps (suc count)) (split_byte x)
    ∙ byte_steps-xor (suc count) (x % 256) (x / 256 * 256)
    ∙ ap (λ (y : ℕ). bit_xor (byte_steps (suc count) (x % 256)) y) (byte_steps-shift_one count (x / 256))

-- so many steps, and then so many more
pub byte_steps-add : (more count x : ℕ) → byte_steps (more + count) x ≡ byte_steps more (byte_steps count x)
unfolding byte_steps
byte_steps-add zero count x = ap (λ (n : ℕ). byte_steps n x) (zero-add count)
byte_steps-add (suc more) count x = ap (λ (n : ℕ). byte_steps n x) (suc-add more count) ∙ ap byte_step (byte_steps-add more count x)

none_of_none : byte_step 0 ≡ 0
unfolding byte_step crc_bit
none_of_none = refl

pub byte_steps-none : (count : ℕ) → byte_steps count 0 ≡ 0
unfolding byte_steps
byte_steps-none zero = refl
byte_steps-none (suc count) = ap byte_step (byte_steps-none count) ∙ none_of_none

-- Each table of the steps, computed entry by entry.

-- each of the 256 entries of a table that is computed from the index
entry_of : (f : ℕ → ℕ) (table : List ℕ) → table ≡ map f (range_with_len 0 256) → (i : ℕ) → i < 256 → get_or table i 0 ≡ f i
entry_of f table computed i h = rw computed (get_or-map-range_with_len f 0 256 i i 0 h (omega arith))

pub after_one : (i : ℕ) → i < 256 → get_or AFTER_ONE i 0 ≡ byte_steps 1 i
unfolding byte_steps byte_step crc_bit
after_one = entry_of (byte_steps 1) AFTER_ONE refl

pub after_two : (i : ℕ) → i < 256 → get_or AFTER_TWO i 0 ≡ byte_steps 2 i
unfolding byte_steps byte_step crc_bit
after_two = entry_of (byte_steps 2) AFTER_TWO refl

pub after_three : (i : ℕ) → i < 256 → get_or AFTER_THREE i 0 ≡ byte_steps 3 i
unfolding byte_steps byte_step crc_bit
after_three = entry_of (byte_steps 3) AFTER_THREE refl

pub after_four : (i : ℕ) → i < 256 → get_or AFTER_FOUR i 0 ≡ byte_steps 4 i
unfolding byte_steps byte_step crc_bit
after_four = entry_of (byte_steps 4) AFTER_FOUR refl

pub after_thirteen : (i : ℕ) → i < 256 → get_or AFTER_THIRTEEN i 0 ≡ byte_steps 13 i
unfolding byte_steps byte_step crc_bit
after_thirteen = entry_of (byte_steps 13) AFTER_THIRTEEN refl

pub after_fourteen : (i : ℕ) → i < 256 → get_or AFTER_FOURTEEN i 0 ≡ byte_steps 14 i
unfolding byte_steps byte_step crc_bit
after_fourteen = entry_of (byte_steps 14) AFTER_FOURTEEN refl

pub after_fifteen : (i : ℕ) → i < 256 → get_or AFTER_FIFTEEN i 0 ≡ byte_steps 15 i
unfolding byte_steps byte_step crc_bit
after_fifteen = entry_of (byte_steps 15) AFTER_FIFTEEN refl

pub after_sixteen : (i : ℕ) → i < 256 → get_or AFTER_SIXTEEN i 0 ≡ byte_steps 16 i
unfolding byte_steps byte_step crc_bit
after_sixteen = entry_of (byte_steps 16) AFTER_SIXTEEN refl

-- One, four or sixteen bytes' steps of four bytes are a look-up for each byte.

none_left : (x : ℕ) → byte_steps 0 x ≡ x
unfolding byte_steps
none_left x = refl

-- the low byte's steps by its table, and then those of the rest
look_up : (table : List ℕ) (count x : ℕ) {rest : ℕ} → ((i : ℕ) → i < 256 → get_or table i 0 ≡ byte_steps (suc count) i) → byte_steps count (x / 256) ≡ rest → byte_steps (suc count) x ≡ bit_xor (get_or table (x % 256) 0) rest
look_up table count x entry next =
    let low = entry (x % 256) (omega arith) in
    byte_steps-split count x ∙ ap₂ bit_xor (sym low) next

-- the same in the bytes from a place on
look_up_at : (place : ℕ) (table : List ℕ) (count x : ℕ) {rest : ℕ} → ((i : ℕ) → i < 256 → get_or table i 0 ≡ byte_steps (suc count) i) → byte_steps count (x / 2 ^ (place + 8)) ≡ rest → byte_steps (suc count) (x / 2 ^ place) ≡ bit_xor (get_or table (x / 2 ^ place % 256) 0) rest
look_up_at place table count x entry next =
    look_up table count (x / 2 ^ place) entry (ap (byte_steps count) (shr-shr x place 8) ∙ next)

pub one_byte : (x : ℕ) → bit_xor (get_or AFTER_ONE (x % 256) 0) (x / 256) ≡ byte_steps 1 x
one_byte x = sym (look_up AFTER_ONE 0 x after_one (none_left (x / 256)))

-- no bytes are left above four
above_four : (count x : ℕ) → x < 2 ^ 32 → byte_steps count (x / 2 ^ 32) ≡ 0
above_four count x h =
    let nothing : x / 2 ^ 32 ≡ 0 = omega arith in
    ap (byte_steps count) nothing ∙ byte_steps-none count

pub four_bytes : (x : ℕ) → x < 2 ^ 32 → bit_xor (bit_xor (bit_xor (get_or AFTER_FOUR (x % 256) 0) (get_or AFTER_THREE (x / 2 ^ 8 % 256) 0)) (get_or AFTER_TWO (x / 2 ^ 16 % 256) 0)) (get_or AFTER_ONE (x / 2 ^ 24 % 256) 0) ≡ byte_steps 4 x
four_bytes x h =
    let top = look_up_at 24 AFTER_ONE 0 x after_one (above_four 0 x h) ∙ xor_zero_r (get_or AFTER_ONE (x / 2 ^ 24 % 256) 0) in
    let from_two = look_up_at 16 AFTER_TWO 1 x after_two top in
    let from_three = look_up_at 8 AFTER_THREE 2 x after_three from_two in
    simp xor_assoc (sym (look_up AFTER_FOUR 3 x after_four from_three))

pub sixteen_bytes : (x : ℕ) → x < 2 ^ 32 → bit_xor (bit_xor (bit_xor (get_or AFTER_SIXTEEN (x % 256) 0) (get_or AFTER_FIFTEEN (x / 2 ^ 8 % 256) 0)) (get_or AFTER_FOURTEEN (x / 2 ^ 16 % 256) 0)) (get_or AFTER_THIRTEEN (x / 2 ^ 24 % 256) 0) ≡ byte_steps 16 x
sixteen_bytes x h =
    let top = look_up_at 24 AFTER_THIRTEEN 12 x after_thirteen (above_four 12 x h) ∙ xor_zero_r (get_or AFTER_THIRTEEN (x / 2 ^ 24 % 256) 0) in
    let from_fourteen = look_up_at 16 AFTER_FOURTEEN 13 x after_fourteen top in
    let from_fifteen = look_up_at 8 AFTER_FIFTEEN 14 x after_fifteen from_fourteen in
    simp xor_assoc (sym (look_up AFTER_SIXTEEN 15 x after_sixteen from_fifteen))
