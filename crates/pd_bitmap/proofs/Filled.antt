-- A bitmap that is filled with counts.
use Rattle.std.proofs.Common.{◌≡◌, ℕ, zero, suc, ◌+◌, ◌*◌, ◌<◌, ◌≤◌, List, [], ◌∷◌, ◌++◌, length, map, take, set, replicate, refl, sym, ◌∙◌, ap, ap₂, arith, ◌≢◌, ◌-◌, ◌/◌, ◌%◌, ◌^◌, Bool, true, nat_eq, eq-eqb, cond, get_or, bit_or}
use Rattle.std.specs.List.{range_with_len}
use Rattle.std.proofs.Math.Seq.{take-suc-set}
use Rattle.std.proofs.lemmas.List.{append_assoc, append-nil, replicate-append-replicate, take-replicate, take_all}
use Rattle.std.proofs.lemmas.List.FromFn.{fill_by_all, get_or-map-range_with_len, length-map-range_with_len, map-range_with_len_more}
use Rattle.std.specs.Int.Bits.{bit_and}
use Rattle.std.proofs.lemmas.Bool.{agree_below, agree_below_at, eqb-true, ne_eqb}
use Rattle.std.proofs.lemmas.Nat.Bits.{bit_at-zero}
use Rattle.std.specs.Int.{bit_at}
use Rattle.pd_kinds.specs.Field.{zeros, le}
use Rattle.pd_kinds.specs.Bitmap.{two_bits_of}
use Rattle.pd_kinds.proofs.WrittenLemmas.{get_or-zeros}
use Rattle.pd_kinds.proofs.FieldLemmas.{put-le, get_or-put_same}
use Rattle.pd_bitmap.specs.Counts.{stored_all, stored_four, count_at, AreAll}

-- counts that agree
byte_same : (f g : ℕ → ℕ) (j : ℕ) → f (4 * j) ≡ g (4 * j) → f (4 * j + 1) ≡ g (4 * j + 1) → f (4 * j + 2) ≡ g (4 * j + 2) → f (4 * j + 3) ≡ g (4 * j + 3)
    → stored_four f j ≡ stored_four g j
unfolding stored_four
byte_same f g j first second third fourth = rw (first, second, third, fourth) refl

rows_same : (head : List ℕ) (f g : ℕ → ℕ) (n : ℕ) → ((k : ℕ) → k < 4 * n → f k ≡ g k)
    → head ++ map (stored_four f) (range_with_len 0 n) ≡ head ++ map (stored_four g) (range_with_len 0 n)
rows_same head f g n same =
    ap (λ (row : List ℕ). head ++ row)
    (fill_by_all (stored_four g) (map (stored_four f) (range_with_len 0 n)) n 0 (length-map-range_with_len (stored_four f) 0 n)
    (λ k h. get_or-map-range_with_len (stored_four f) 0 n k k 0 h (omega arith)
    ∙ byte_same f g k (same (4 * k) (omega arith)) (same (4 * k + 1) (omega arith)) (same (4 * k + 2) (omega arith)) (same (4 * k + 3) (omega arith))))

pub stored_same : (f g : ℕ → ℕ) → ((k : ℕ) → k < 16320 → f k ≡ g k) → stored_all f ≡ stored_all g
unfolding stored_all
stored_same f g same = rows_same (replicate 16 0) f g 4080 same

-- no counts
no_byte : (j : ℕ) → stored_four (λ e. 0) j ≡ 0
unfolding stored_four
no_byte j = refl

no_row : (a n : ℕ) → map (stored_four (λ e. 0)) (range_with_len a n) ≡ replicate n 0
no_row a zero = refl
no_row a (suc n) = ap₂ (λ (x : ℕ) (xs : List ℕ). x ∷ xs) (no_byte a) (no_row (a + 1) n)

zeros_behind : (m n whole : ℕ) (row : List ℕ) → row ≡ replicate n 0 → m + n ≡ whole → replicate m 0 ++ row ≡ replicate whole 0
zeros_behind m n whole row is sum =
    ap (λ (row : List ℕ). replicate m 0 ++ row) is ∙ (replicate-append-replicate m n 0 ∙ ap (λ (k : ℕ). replicate k 0) sum)

pub stored_none : (f : ℕ → ℕ) → ((k : ℕ) → k < 16320 → f k ≡ 0) → stored_all f ≡ zeros
unfolding stored_all zeros
stored_none f none = stored_same f (λ e. 0) none ∙ zeros_behind 16 4080 4096 _ (no_row 0 4080) refl

-- a bitmap that is half filled: the counts of its first bytes stand behind the header
pub record IsFilled (f : ℕ → ℕ) (i : ℕ) (block : List ℕ) : Type 0 where
  pub front : take (16 + i) block ≡ replicate 16 0 ++ map (stored_four f) (range_with_len 0 i)
  pub size : length block ≡ 4096

front_of_zeros : (m n whole : ℕ) → m + 0 ≤ whole → n ≡ whole → take {A = ℕ} (m + 0) (replicate {A = ℕ} n 0) ≡ replicate {A = ℕ} m 0 ++ []
front_of_zeros m n whole room is =
    let none : m + 0 ≡ m = omega arith in
    let front : take {A = ℕ} m (replicate {A = ℕ} n 0) ≡ replicate {A = ℕ} m 0 = take-replicate m n 0 (omega arith) in
    rw none (front ∙ sym (append-nil (replicate {A = ℕ} m 0)))

pub filled_start : (f : ℕ → ℕ) (block : List ℕ) → block ≡ zeros → length block ≡ 4096 → IsFilled f 0 block
unfolding zeros
filled_start f block is size = record { front = ap (take 16) is ∙ front_of_zeros 16 4096 4096 (omega arith) refl; size = size }

filled_by : (head : List ℕ) (f : ℕ → ℕ) (m i v : ℕ) (block : List ℕ) → take (m + i) block ≡ head ++ map f (range_with_len 0 i) → m + i < length block → v ≡ f i
    → take (m + (i + 1)) (set block (m + i) v) ≡ head ++ map f (range_with_len 0 (i + 1))
filled_by head f m i v block front within is =
    let next : m + (i + 1) ≡ suc (m + i) = omega arith in
    ap (λ (k : ℕ). take k (set block (m + i) v)) next
    ∙ (take-suc-set block (m + i) v within
    ∙ (ap₂ (λ (front : List ℕ) (x : ℕ). front ++ x ∷ []) front is
    ∙ (append_assoc head (map f (range_with_len 0 i)) (f i ∷ [])
    ∙ ap (λ (row : List ℕ). head ++ row) (sym (map-range_with_len_more f 0 i i (omega arith))))))

pub filled_next : (f : ℕ → ℕ) (i v : ℕ) (block after : List ℕ) → IsFilled f i block → i < 4080 → v ≡ stored_four f i
    → after ≡ set block (16 + i) v → length after ≡ length block → IsFilled f (i + 1) after
filled_next f i v block after filled more is set_is same = record {
  front = ap (take (16 + (i + 1))) set_is ∙ filled_by (replicate 16 0) (stored_four f) 16 i v block filled.front (omega (arith, filled.size)) is;
  size = same ∙ filled.size;
}

pub filled_end : (f : ℕ → ℕ) (i : ℕ) (block : List ℕ) → IsFilled f i block → i ≡ 4080 → block ≡ stored_all f
unfolding stored_all
filled_end f i block filled all =
    sym (take_all (16 + i) block (omega (arith, filled.size)))
    ∙ (filled.front ∙ ap (λ (n : ℕ). replicate 16 0 ++ map (stored_four f) (range_with_len 0 n)) all)

-- Reading and writing the count at a place of a byte, over all bytes, places and counts.

-- a test that holds of each number below n
abbrev all_below : ℕ → (ℕ → Bool) → Bool
all_below n p = agree_below p (λ _. true) n

below_all : (n : ℕ) (p : ℕ → Bool) (i : ℕ) → all_below n p ≡ true → i < n → p i ≡ true
below_all n p i all within = agree_below_at p (λ _. true) n i all within

-- what the code computes: two bits in the other order, the count that it reads, the byte that it writes
abbrev pub swapped : ℕ → ℕ
swapped bits = 2 * (bits % 2) + bits / 2

abbrev pub read_of : ℕ → ℕ → ℕ
read_of byte place = swapped (bit_and (byte / 2 ^ (2 * place)) 3)

abbrev pub written_of : ℕ → ℕ → ℕ → ℕ
written_of byte place count =
    bit_or (bit_and byte (255 - 3 * 2 ^ (2 * place) % 256)) (swapped count * 2 ^ (2 * place) % 256)

abbrev is_read : ℕ → ℕ → Bool
is_read byte place = nat_eq (read_of byte place) (count_at byte place)

abbrev is_written : ℕ → ℕ → ℕ → ℕ → Bool
is_written byte place count other =
    nat_eq (count_at (written_of byte place count) other) (cond (nat_eq other place) count (count_at byte other))

abbrev all_read : Bool
all_read = all_below 256 (λ byte. all_below 4 (is_read byte))

abbrev all_written : Bool
all_written = all_below 256 (λ byte. all_below 4 (λ place. all_below 4 (λ count. all_below 4 (is_written byte place count))))

-- the count that is read
pub count_read : (byte place : ℕ) → byte < 256 → place < 4 → read_of byte place ≡ count_at byte place
count_read byte place small within =
    let all : all_read ≡ true = refl in
    eqb-true (read_of byte place) (count_at byte place)
    (below_all 4 (is_read byte) place (below_all 256 (λ b. all_below 4 (is_read b)) byte all small) within)

counts_written : (byte place count other : ℕ) → byte < 256 → place < 4 → count < 4 → other < 4
    → count_at (written_of byte place count) other ≡ cond (nat_eq other place) count (count_at byte other)
counts_written byte place count other small within few within_other =
    let all : all_written ≡ true = refl in
    let of_byte = below_all 256 (λ b. all_below 4 (λ p. all_below 4 (λ c. all_below 4 (is_written b p c)))) byte all small in
    let of_place = below_all 4 (λ p. all_below 4 (λ c. all_below 4 (is_written byte p c))) place of_byte within in
    let of_count = below_all 4 (λ c. all_below 4 (is_written byte place c)) count of_place few in
    eqb-true (count_at (written_of byte place count) other) (cond (nat_eq other place) count (count_at byte other))
    (below_all 4 (is_written byte place count) other of_count within_other)

-- the count that is read after it was written
pub count_written : (byte place count : ℕ) → byte < 256 → place < 4 → count < 4 → count_at (written_of byte place count) place ≡ count
count_written byte place count small within few =
    let all = counts_written byte place count place small within few within in
    let same = eq-eqb place place refl in
    rw same at all

-- the other counts stay
pub count_kept : (byte place count other : ℕ) → byte < 256 → place < 4 → count < 4 → other < 4 → other ≢ place
    → count_at (written_of byte place count) other ≡ count_at byte other
count_kept byte place count other small within few within_other apart =
    let all = counts_written byte place count other small within few within_other in
    let differ = ne_eqb other place apart in
    rw differ at all

-- each count of a block of zeros is 0
pub two_bits-zeros : (i : ℕ) → two_bits_of zeros i ≡ 0
unfolding two_bits_of
two_bits-zeros i =
    let byte : get_or zeros (16 + i / 4) 0 ≡ 0 = get_or-zeros (16 + i / 4) in
    rw (byte, bit_at-zero (2 * (i % 4)), bit_at-zero (2 * (i % 4) + 1)) refl

-- The counts that eight bytes of a bitmap say.

-- a byte of a field
byte_of : (block : List ℕ) (o k i : ℕ) → ((j : ℕ) → get_or block j 0 < 256) → o + k ≤ length block → i < k
    → get_or block (o + i) 0 ≡ le block o k / 256 ^ i % 256
byte_of block o k i bytes within below =
    ap (λ (xs : List ℕ). get_or xs (o + i) 0) (sym (put-le block o k bytes)) ∙ get_or-put_same block o k (le block o k) i within below

-- the two bits by the byte that they stand in
by_byte : (block : List ℕ) (g k byte : ℕ) → get_or block (16 + 8 * g + k / 4) 0 ≡ byte
    → two_bits_of block (32 * g + k) ≡ 2 * bit_at byte (2 * (k % 4)) + bit_at byte (2 * (k % 4) + 1)
unfolding two_bits_of
by_byte block g k byte is =
    let place : 16 + (32 * g + k) / 4 ≡ 16 + 8 * g + k / 4 = omega arith in
    let bit : (32 * g + k) % 4 ≡ k % 4 = omega arith in
    ap (λ r. 2 * bit_at (get_or block (16 + (32 * g + k) / 4) 0) (2 * r) + bit_at (get_or block (16 + (32 * g + k) / 4) 0) (2 * r + 1)) bit
    ∙ ap (λ b. 2 * bit_at b (2 * (k % 4)) + bit_at b (2 * (k % 4) + 1)) (ap (λ p. get_or block p 0) place ∙ is)

-- a field of zeros
zero_digit : (i : ℕ) → 0 / 256 ^ i % 256 ≡ 0
zero_digit i = bit_zero (256 ^ i)
  where
    bit_zero : (n : ℕ) → 0 / n % 256 ≡ 0
    bit_zero n = grind arith

pub all_zero : (block : List ℕ) (g word : ℕ) → g < 510 → length block ≡ 4096 → ((j : ℕ) → get_or block j 0 < 256) → word ≡ le block (16 + 8 * g) 8 → word ≡ 0 → AreAll block g 0
all_zero block g word group size bytes is none = record {
  held = omega arith;
  counts = λ k below.
      let byte : get_or block (16 + 8 * g + k / 4) 0 ≡ 0 =
      byte_of block (16 + 8 * g) 8 (k / 4) bytes (omega arith) (omega arith) ∙ ap (λ w. w / 256 ^ (k / 4) % 256) (sym is ∙ none) ∙ zero_digit (k / 4) in
      by_byte block g k 0 byte ∙ ap (λ n. 2 * n + bit_at 0 (2 * (k % 4) + 1)) (bit_at-zero (2 * (k % 4))) ∙ ap (λ n. 2 * 0 + n) (bit_at-zero (2 * (k % 4) + 1));
}

-- a field of ones, each the second of its two bits
one_digit : (i : ℕ) → i < 8 → 12297829382473034410 / 256 ^ i % 256 ≡ 170
one_digit zero below = refl
one_digit (suc zero) below = refl
one_digit (suc (suc zero)) below = refl
one_digit (suc (suc (suc zero))) below = refl
one_digit (suc (suc (suc (suc zero)))) below = refl
one_digit (suc (suc (suc (suc (suc zero))))) below = refl
one_digit (suc (suc (suc (suc (suc (suc zero)))))) below = refl
one_digit (suc (suc (suc (suc (suc (suc (suc zero))))))) below = refl
one_digit (suc (suc (suc (suc (suc (suc (suc (suc i)))))))) below = absurd (omega arith)

one_bits : (r : ℕ) → r < 4 → 2 * bit_at 170 (2 * r) + bit_at 170 (2 * r + 1) ≡ 1
one_bits zero below = refl
one_bits (suc zero) below = refl
one_bits (suc (suc zero)) below = refl
one_bits (suc (suc (suc zero))) below = refl
one_bits (suc (suc (suc (suc r)))) below = absurd (omega arith)

pub all_ones : (block : List ℕ) (g word : ℕ) → g < 510 → length block ≡ 4096 → ((j : ℕ) → get_or block j 0 < 256) → word ≡ le block (16 + 8 * g) 8 → word ≡ 12297829382473034410 → AreAll block g 1
all_ones block g word group size bytes is ones = record {
  held = omega arith;
  counts = λ k below.
      let byte : get_or block (16 + 8 * g + k / 4) 0 ≡ 170 =
      byte_of block (16 + 8 * g) 8 (k / 4) bytes (omega arith) (omega arith) ∙ ap (λ w. w / 256 ^ (k / 4) % 256) (sym is ∙ ones) ∙ one_digit (k / 4) (omega arith) in
      by_byte block g k 170 byte ∙ one_bits (k % 4) (omega arith);
}
