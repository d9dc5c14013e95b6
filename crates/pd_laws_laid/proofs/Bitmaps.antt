-- Laid bitmaps break no rule, and fit where they are named.
use Rattle.std.proofs.Common.{◌≡◌, inl, inr, ℕ, zero, suc, ◌+◌, ◌-◌, ◌*◌, ◌/◌, ◌%◌, ◌^◌, ◌<◌, ◌≤◌, min, Bool, true, not, nat_eq, nat_lt, List, ◌++◌, length, map, filter, replicate, get_or, refl, sym, ◌∙◌, ap, arith, zero-le, eq-eqb, false, ap₂}
use Rattle.std.specs.declared.option.Option.TheVariants.{Some}
use Rattle.std.specs.List.{find, range_with_len, AllByRecursion}
use Rattle.std.proofs.lemmas.Bool.{cases_Bool, cases_lt, cases_eq, lt-ltb, le-ltb, ne_eqb}
use Rattle.std.proofs.lemmas.List.{get_or-append_right, length-replicate, get_or_append_left, get_or-replicate, get_or_past, length-append}
use Rattle.std.proofs.lemmas.List.FromFn.{get_or-map-range_with_len, length-map-range_with_len}
use Rattle.pd_kinds.specs.Node.{Entry}
use Rattle.pd_kinds.specs.Bitmap.{two_bits_of, placed_block, bitmap_salt, bitmap_bad, bitmaps_for}
use Rattle.pd_kinds.specs.Trees.{value_of_key, count_of_bits, stored_in}
use Rattle.pd_kinds.specs.Graph.{block_at, Graph}
use Rattle.pd_kinds.specs.declared.rule.Rule.{Rule}
use Rattle.pd_kinds.specs.Field.{put, has_checksum}
use Rattle.pd_kinds.specs.Layout.{Layout, bitmap, graph_of}
use Rattle.pd_kinds.proofs.FieldLemmas.{length-put}
use Rattle.pd_laid.specs.Laid.{coded, count_byte, bitmap_of, overflow_items, LaidBlock, laid_bitmap, laid_bitmaps}
use Rattle.pd_bitmap.proofs.Placed.{two_bits-placed, place-placed, bitmap_met}
use Rattle.pd_laws_laid.specs.LaidOut.{AllFrom, IsFitting, IsInPlace, IsNamed}
use Rattle.pd_laws_laid.proofs.Bytes.{AreBytes, bytes_put, valid_sealed}
use Rattle.pd_laws_laid.proofs.Plain.{plain_seen}

-- The counts of a laid map are read back.

-- the two bits at each place of a byte
bits_0 : (a b c d : ℕ) → a < 4 → 2 * ((a / 2 + 2 * (a % 2) + 4 * b + 16 * c + 64 * d) / 1 % 2) + (a / 2 + 2 * (a % 2) + 4 * b + 16 * c + 64 * d) / 2 % 2 ≡ a
bits_0 a b c d small = omega arith

bits_1 : (a b c d : ℕ) → a < 4 → b < 4 → 2 * ((a + 4 * (b / 2 + 2 * (b % 2)) + 16 * c + 64 * d) / 4 % 2) + (a + 4 * (b / 2 + 2 * (b % 2)) + 16 * c + 64 * d) / 8 % 2 ≡ b
bits_1 a b c d low small = omega arith

bits_2 : (a b c d : ℕ) → a < 4 → b < 4 → c < 4
    → 2 * ((a + 4 * b + 16 * (c / 2 + 2 * (c % 2)) + 64 * d) / 16 % 2) + (a + 4 * b + 16 * (c / 2 + 2 * (c % 2)) + 64 * d) / 32 % 2 ≡ c
bits_2 a b c d low next small = omega arith

bits_3 : (a b c d : ℕ) → a < 4 → b < 4 → c < 4 → d < 4
    → 2 * ((a + 4 * b + 16 * c + 64 * (d / 2 + 2 * (d % 2))) / 64 % 2) + (a + 4 * b + 16 * c + 64 * (d / 2 + 2 * (d % 2))) / 128 % 2 ≡ d
bits_3 a b c d low next third small = omega arith

pub coded_small : (count : ℕ) → coded count < 4
coded_small count = omega arith

-- the byte of an entry
row_at : (front : List ℕ) (f : ℕ → ℕ) (m n j : ℕ) → length front ≡ m → j < n → get_or (front ++ map f (range_with_len 0 n)) (m + j) 0 ≡ f j
row_at front f m n j size within =
    let e : m + j - m ≡ j = omega arith in
    get_or-append_right front (map f (range_with_len 0 n)) m (m + j) 0 size (omega arith)
    ∙ (ap (λ (i : ℕ). get_or (map f (range_with_len 0 n)) i 0) e ∙ get_or-map-range_with_len f 0 n j j 0 within (omega arith))

byte_at : (counts : ℕ → ℕ) (j : ℕ) → j < 4080 → get_or (bitmap_of counts) (16 + j) 0 ≡ count_byte counts j
unfolding bitmap_of
byte_at counts j within = row_at (replicate 16 0) (count_byte counts) 16 4080 j (length-replicate {A = ℕ} 16 0) within

-- each count in its two bits
count_of_byte : (counts : ℕ → ℕ) (j e p : ℕ) → p < 4 → e ≡ 4 * j + p
    → 2 * (count_byte counts j / 2 ^ (2 * p) % 2) + count_byte counts j / 2 ^ (2 * p + 1) % 2 ≡ min 3 (counts e)
unfolding count_byte
count_of_byte counts j e zero small is =
    let at : 4 * j ≡ e = omega arith in
    bits_0 (min 3 (counts (4 * j))) (coded (counts (4 * j + 1))) (coded (counts (4 * j + 2))) (coded (counts (4 * j + 3))) (omega arith) ∙ ap (λ (x : ℕ). min 3 (counts x)) at
count_of_byte counts j e (suc zero) small is =
    bits_1 (coded (counts (4 * j))) (min 3 (counts (4 * j + 1))) (coded (counts (4 * j + 2))) (coded (counts (4 * j + 3)))
    (coded_small (counts (4 * j))) (omega arith) ∙ ap (λ (x : ℕ). min 3 (counts x)) (sym is)
count_of_byte counts j e (suc (suc zero)) small is =
    bits_2 (coded (counts (4 * j))) (coded (counts (4 * j + 1))) (min 3 (counts (4 * j + 2))) (coded (counts (4 * j + 3)))
    (coded_small (counts (4 * j))) (coded_small (counts (4 * j + 1))) (omega arith) ∙ ap (λ (x : ℕ). min 3 (counts x)) (sym is)
count_of_byte counts j e (suc (suc (suc zero))) small is =
    bits_3 (coded (counts (4 * j))) (coded (counts (4 * j + 1))) (coded (counts (4 * j + 2))) (min 3 (counts (4 * j + 3)))
    (coded_small (counts (4 * j))) (coded_small (counts (4 * j + 1))) (coded_small (counts (4 * j + 2))) (omega arith) ∙ ap (λ (x : ℕ). min 3 (counts x)) (sym is)
count_of_byte counts j e (suc (suc (suc (suc p)))) small is = absurd (omega arith)

two_bits_made : (counts : ℕ → ℕ) (e : ℕ) → e < 16320 → two_bits_of (bitmap_of counts) e ≡ min 3 (counts e)
unfolding two_bits_of
two_bits_made counts e within =
    ap (λ (byte : ℕ). 2 * (byte / 2 ^ (2 * (e % 4)) % 2) + byte / 2 ^ (2 * (e % 4) + 1) % 2) (byte_at counts (e / 4) (omega arith))
    ∙ count_of_byte counts (e / 4) e (e % 4) (omega arith) (omega arith)

-- the entry of a number that a range's filter finds
entry_found : (counts : ℕ → ℕ) (q : ℕ → Bool) (a n b : ℕ) → a ≤ b → b < a + n → q b ≡ true
    → find (λ (e : Entry). nat_eq e.key b) (map (λ (c : ℕ). record { key = c; value = counts c }) (filter q (range_with_len a n)))
    ≡ Some (record { key = b; value = counts b })
entry_found counts q a zero b low high passes = absurd (omega arith)
entry_found counts q a (suc n) b low high passes = elim (cases_eq a b) [
  | inl same ↦
      let here : q a ≡ true = rw same passes in
      rw (here, eq-eqb a b same) (ap (λ (c : ℕ). Some (record { key = c; value = counts c })) same)
  | inr other ↦
      let rest = entry_found counts q (a + 1) n b (omega arith) (omega arith) passes in
      elim (cases_Bool (q a)) [
        | inl here ↦ rw (here, ne_eqb a b other) rest
        | inr missed ↦ rw missed rest
      ]
]

-- Stored counts are read back; those that two bits don't hold may be stored from counts that agree there
pub count_found : (counts over : ℕ → ℕ) (n b : ℕ) → b < n → (3 ≤ counts b → over b ≡ counts b) → count_of_bits (min 3 (counts b)) (overflow_items over n) b ≡ Some (counts b)
unfolding count_of_bits value_of_key overflow_items
count_found counts over n b within agree = elim (cases_lt (counts b) 3) [
  | inl few ↦
      let whole : min 3 (counts b) ≡ counts b = omega arith in
      rw (whole, lt-ltb (counts b) 3 few) refl
  | inr many ↦
      let three : min 3 (counts b) ≡ 3 = omega arith in
      let same = agree many in
      let passes : not (nat_lt (over b) 3) ≡ true = rw (le-ltb (over b) 3 (omega arith)) refl in
      rw (three, entry_found over (λ c. not (nat_lt (over c) 3)) 0 n b zero-le (omega (arith, within)) passes) (ap (λ (c : ℕ). Some c) same)
]

-- so the stored count of a block is its count, by the bitmap that covers it
pub stored_laid : (image : List (List ℕ)) (counts over : ℕ → ℕ) (n place b : ℕ) → b < n → (3 ≤ counts b → over b ≡ counts b)
    → block_at image place ≡ placed_block bitmap_salt place (bitmap_of (λ e. counts (16320 * (b / 16320) + e)))
    → stored_in image (Some place) (overflow_items over n) b ≡ Some (counts b)
unfolding stored_in
stored_laid image counts over n place b within agree stands =
    let i = b / 16320 in
    let split : 16320 * (b / 16320) + b % 16320 ≡ b = omega arith in
    let bits : two_bits_of (block_at image place) (b % 16320) ≡ min 3 (counts b) =
    ap (λ (block : List ℕ). two_bits_of block (b % 16320)) stands
    ∙ (two_bits-placed bitmap_salt place (bitmap_of (λ e. counts (16320 * i + e))) (b % 16320)
    ∙ (two_bits_made (λ e. counts (16320 * i + e)) (b % 16320) (omega arith) ∙ ap (λ (c : ℕ). min 3 (counts c)) split)) in
    ap (λ (two : ℕ). count_of_bits two (overflow_items over n) b) bits ∙ count_found counts over n b within agree

-- a bitmap consists of bytes
byte_small : (counts : ℕ → ℕ) (j : ℕ) → count_byte counts j < 256
unfolding count_byte
byte_small counts j =
    sum_small (coded (counts (4 * j))) (coded (counts (4 * j + 1))) (coded (counts (4 * j + 2))) (coded (counts (4 * j + 3)))
    (coded_small (counts (4 * j))) (coded_small (counts (4 * j + 1))) (coded_small (counts (4 * j + 2))) (coded_small (counts (4 * j + 3)))
  where
    sum_small : (a b c d : ℕ) → a < 4 → b < 4 → c < 4 → d < 4 → a + 4 * b + 16 * c + 64 * d < 256
    sum_small a b c d la lb lc ld = omega arith

row_bytes : (m n : ℕ) (f : ℕ → ℕ) → ((j : ℕ) → f j < 256) → AreBytes (replicate m 0 ++ map f (range_with_len 0 n))
row_bytes m n f small = record {
  at = λ j.
      let size = length-replicate {A = ℕ} m 0 in
      let row = length-map-range_with_len f 0 n in
      elim (cases_lt j m) [
        | inl front ↦ rw (get_or_append_left (replicate m 0) (map f (range_with_len 0 n)) 0 j (omega arith), get_or-replicate {A = ℕ} m j 0 0 front) (omega arith)
        | inr back ↦
            rw (get_or-append_right (replicate m 0) (map f (range_with_len 0 n)) m j 0 size back)
            (elim (cases_lt (j - m) n) [
              | inl within ↦ rw (get_or-map-range_with_len f 0 n (j - m) (j - m) 0 within (omega arith)) (small (j - m))
              | inr past ↦ rw (get_or_past (map f (range_with_len 0 n)) (j - m) 0 (omega arith)) (omega arith)
            ])
      ];
}

bitmap_bytes : (counts : ℕ → ℕ) → AreBytes (bitmap_of counts)
unfolding bitmap_of
bitmap_bytes counts = row_bytes 16 4080 (count_byte counts) (byte_small counts)

row_length : (m n : ℕ) (f : ℕ → ℕ) → length (replicate {A = ℕ} m 0 ++ map f (range_with_len 0 n)) ≡ m + n
row_length m n f =
    length-append (replicate m 0) (map f (range_with_len 0 n))
    ∙ ap₂ (λ (a b : ℕ). a + b) (length-replicate {A = ℕ} m 0) (length-map-range_with_len f 0 n)

length-bitmap_of : (counts : ℕ → ℕ) → length (bitmap_of counts) ≡ 4096
unfolding bitmap_of
length-bitmap_of counts = row_length 16 4080 (count_byte counts)

-- a block that is sealed in its place has its checksum
pub valid_placed : (salt place : ℕ) (b : List ℕ) → 4 ≤ length b → salt < 2 ^ 32 → AreBytes b → has_checksum (placed_block salt place b) salt ≡ true
unfolding placed_block
valid_placed salt place b within small bytes =
    valid_sealed (put b 8 8 place) salt (rw (length-put b 8 8 place) within) small (bytes_put b 8 8 place bytes)

-- a laid bitmap breaks no rule
bitmap_sound : (counts : ℕ → ℕ) (place : ℕ) → place < 2 ^ 64 → (rule : Rule) → bitmap_bad place (placed_block bitmap_salt place (bitmap_of counts)) rule ≡ false
bitmap_sound counts place fits rule =
    let size = length-bitmap_of counts in
    bitmap_met place (placed_block bitmap_salt place (bitmap_of counts)) rule
    (valid_placed bitmap_salt place (bitmap_of counts) (omega arith) (omega arith) (bitmap_bytes counts))
    (place-placed bitmap_salt place (bitmap_of counts) (omega arith) (omega arith))

module _ (roles nr data_blocks : ℕ) (table : ℕ → Layout) (image : List (List ℕ)) (blocks : List LaidBlock) (limit role : ℕ) (counts : ℕ → ℕ)
    (is : table role ≡ bitmap) (known : role < roles) (few_roles : roles ≤ 16) (few : nr ≤ 4161600) where
  abbrev this : Graph
  this = graph_of roles nr data_blocks table

  rest_fit : (place a k : ℕ) → place + k ≤ nr → AllFrom (IsInPlace image blocks) place (map (laid_bitmap role counts) (range_with_len a k))
      → AllByRecursion (IsNamed blocks) (range_with_len place k) → AllFrom (IsFitting this image blocks limit) place (map (laid_bitmap role counts) (range_with_len a k))
  rest_fit place a zero room stand named = tt
  rest_fit place a (suc k) room stand named = (
    record {
      seen = plain_seen roles nr data_blocks table image bitmap place (placed_block bitmap_salt place (bitmap_of (λ e. counts (16320 * a + e)))) (laid_bitmap role counts a)
          known few_roles is refl refl refl stand.0.stands (bitmap_sound (λ e. counts (16320 * a + e)) place (omega arith));
      leads = tt;
      named = λ from. named.0;
    },
    rest_fit (place + 1) (a + 1) k (omega arith) stand.1 named.1,
  )

  -- bitmaps that are named fit
  pub bitmaps_fit : (place n : ℕ) → place + bitmaps_for n ≤ nr → AllFrom (IsInPlace image blocks) place (laid_bitmaps role counts n)
      → AllByRecursion (IsNamed blocks) (range_with_len place (bitmaps_for n)) → AllFrom (IsFitting this image blocks limit) place (laid_bitmaps role counts n)
  unfolding laid_bitmaps
  bitmaps_fit place n room stand named = rest_fit place 0 (bitmaps_for n) room stand named

module _ (P : ℕ → LaidBlock → Type 0) (role : ℕ) (counts : ℕ → ℕ) where
  rest_at : (place a k i : ℕ) → i < k → AllFrom P place (map (laid_bitmap role counts) (range_with_len a k)) → P (place + i) (laid_bitmap role counts (a + i))
  rest_at place a zero i within all = absurd (omega arith)
  rest_at place a (suc k) zero within all = let e : place + 0 ≡ place = omega arith in let f : a + 0 ≡ a = omega arith in rw (e, f) all.0
  rest_at place a (suc k) (suc i) within all =
      let e : place + suc i ≡ (place + 1) + i = omega arith in
      let f : a + suc i ≡ (a + 1) + i = omega arith in
      rw (e, f) (rest_at (place + 1) (a + 1) k i (omega arith) all.1)

  -- what holds of bitmaps from a place on holds of each of them
  pub bitmap_at : (place n i : ℕ) → i < bitmaps_for n → AllFrom P place (laid_bitmaps role counts n) → P (place + i) (laid_bitmap role counts i)
  unfolding laid_bitmaps
  bitmap_at place n i within all =
      let e : 0 + i ≡ i = omega arith in
      rw e at (rest_at place 0 (bitmaps_for n) i within all)
