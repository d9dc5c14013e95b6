-- What is written into zeros are bytes, so a sealed block has its checksum.
use Rattle.std.proofs.Common.{◌≡◌, inl, inr, ℕ, zero, suc, ◌+◌, ◌-◌, ◌*◌, ◌/◌, ◌%◌, ◌^◌, ◌<◌, ◌≤◌, true, nat_eq, List, [], ◌∷◌, length, drop, get_or, set, fold, arith, ◌++◌, take, refl}
use Rattle.std.specs.Int.Bits.{bit_xor}
use Rattle.std.proofs.lemmas.Bool.{cases_lt, cases_eq, cond_both}
use Rattle.std.proofs.lemmas.List.{get_or-set_same, get_or-set_other, set_past, get_or-drop, get_or-append_right, get_or-take, get_or_append_left, get_or_past, length-take}
use Rattle.std.proofs.lemmas.Nat.{xor_of_32}
use Rattle.std.specs.Prelude.{All}
use Rattle.std.proofs.lemmas.List.Elements.{All-get_or}
use Rattle.pd_kinds.specs.Field.{Row, put, written, zeros, crc_bit, crc_byte, crc32c, checksum, has_checksum, sealed, put_bytes}
use Rattle.pd_kinds.specs.Node.{Entry, puts, node_block, node_rows, node_salt, max_entries}
use Rattle.pd_kinds.proofs.WrittenLemmas.{has_checksum-sealed, get_or-zeros, length-written_zeros, length-put_bytes, length-written}
use Rattle.pd_kinds.proofs.FieldLemmas.{length-puts}
use Rattle.pd_kinds.specs.declared.kind.Kind.{Kind}
use Rattle.pd_kinds.specs.declared.kind.Kind.TheVariants.{Cache, Era, Thin}
use Rattle.pd_kinds.specs.Super.{head_rows, is_super_of, salt_of, super_block}
use Rattle.pd_kinds.proofs.SuperLemmas.{is_super}

-- each is a byte
pub record AreBytes (b : List ℕ) : Type 0 where
  pub at : (j : ℕ) → get_or b j 0 < 256

bytes_set : (b : List ℕ) (i v : ℕ) → v < 256 → AreBytes b → AreBytes (set b i v)
bytes_set b i v fits all = record {
  at = λ j. elim (cases_eq j i) [
    | inr other ↦ rw (get_or-set_other b i j v 0 other) (all.at j)
    | inl same ↦ elim (cases_lt i (length b)) [
      | inl within ↦ rw (same, get_or-set_same b i v 0 within) fits
      | inr past ↦ rw (set_past b i v past) (all.at j)
    ]
  ];
}

pub bytes_put : (b : List ℕ) (o k v : ℕ) → AreBytes b → AreBytes (put b o k v)
unfolding put
bytes_put b o zero v all = all
bytes_put b o (suc k) v all = bytes_set (put b o k v) (o + k) (v / 256 ^ k % 256) (omega arith) (bytes_put b o k v all)

pub bytes_puts : (b : List ℕ) (o width : ℕ) (xs : List ℕ) → AreBytes b → AreBytes (puts b o width xs)
unfolding puts
bytes_puts b o width [] all = all
bytes_puts b o width (x ∷ xs) all = bytes_puts (put b o width x) (o + width) width xs (bytes_put b o width x all)

pub bytes_written : (b : List ℕ) (rows : List Row) → AreBytes b → AreBytes (written b rows)
unfolding written
bytes_written b [] all = all
bytes_written b (row ∷ rows) all = bytes_written (put b row.offset row.size row.value) rows (bytes_put b row.offset row.size row.value all)

pub bytes_zeros : AreBytes zeros
bytes_zeros = record { at = λ j. rw (get_or-zeros j) (omega arith) }

-- the steps of the checksum keep to four bytes
bit_fits : (crc : ℕ) → crc < 2 ^ 32 → crc_bit crc < 2 ^ 32
unfolding crc_bit
bit_fits crc fits =
    cond_both (nat_eq (crc % 2) 0) (crc / 2) (bit_xor (crc / 2) 0x82F63B78) (λ n. n < 2 ^ 32) (λ _. omega arith) (λ _. xor_of_32 (crc / 2) 0x82F63B78 (omega arith) (omega arith))

byte_fits : (crc byte : ℕ) → crc < 2 ^ 32 → byte < 256 → crc_byte crc byte < 2 ^ 32
unfolding crc_byte
byte_fits crc byte fits small =
    bit_fits _ (bit_fits _ (bit_fits _ (bit_fits _ (bit_fits _ (bit_fits _ (bit_fits _ (bit_fits _ (xor_of_32 crc byte fits (omega arith)))))))))

fold_fits : (crc : ℕ) (b : List ℕ) → crc < 2 ^ 32 → AreBytes b → fold crc_byte crc b < 2 ^ 32
fold_fits crc [] fits all = fits
fold_fits crc (x ∷ b) fits all = fold_fits (crc_byte crc x) b (byte_fits crc x fits (all.at 0)) (record { at = λ j. all.at (suc j) })

pub checksum_fits : (b : List ℕ) (salt : ℕ) → salt < 2 ^ 32 → AreBytes b → checksum b salt < 2 ^ 32
unfolding checksum
checksum_fits b salt small all =
    xor_of_32 (crc32c (drop 4 b)) salt (fold_fits (2 ^ 32 - 1) (drop 4 b) (omega arith) (record { at = λ j. rw (get_or-drop 4 b j 0) (all.at (4 + j)) })) small

pub valid_sealed : (b : List ℕ) (salt : ℕ) → 4 ≤ length b → salt < 2 ^ 32 → AreBytes b → has_checksum (sealed b salt) salt ≡ true
valid_sealed b salt within small all = has_checksum-sealed b salt within (checksum_fits b salt small all)

-- so a written node has its checksum
pub valid_node : (flags size place : ℕ) (entries : List Entry) → has_checksum (node_block flags size place entries) node_salt ≡ true
unfolding node_block
valid_node flags size place entries =
    let header = written zeros (node_rows flags size place (length entries)) in
    let whole = length-written_zeros (node_rows flags size place (length entries)) in
    valid_sealed _ node_salt
    (rw (length-puts, length-puts, whole) (omega arith)) (omega arith)
    (bytes_puts _ (32 + 8 * max_entries size) size _ (bytes_puts header 32 8 _ (bytes_written zeros _ bytes_zeros)))

-- A written superblock has its checksum.

-- bytes in a row
bytes_both : (xs ys : List ℕ) → AreBytes xs → AreBytes ys → AreBytes (xs ++ ys)
bytes_both xs ys front back = record {
  at = λ j. elim (cases_lt j (length xs)) [
    | inl here ↦ rw (get_or_append_left xs ys 0 j here) (front.at j)
    | inr later ↦ rw (get_or-append_right xs ys (length xs) j 0 refl later) (back.at (j - length xs))
  ];
}

pub bytes_put_bytes : (b : List ℕ) (o : ℕ) (bytes : List ℕ) → AreBytes b → AreBytes bytes → AreBytes (put_bytes b o bytes)
unfolding put_bytes
bytes_put_bytes b o bytes whole small =
    bytes_both (take o b) (bytes ++ drop (o + length bytes) b)
    (record {
      at = λ j. elim (cases_lt j o) [
        | inl here ↦ rw (get_or-take o b j 0 here) (whole.at j)
        | inr past ↦ rw (get_or_past (take o b) j 0 (omega (arith, length-take o b))) (omega arith)
      ];
    })
    (bytes_both bytes (drop (o + length bytes) b) small (record { at = λ j. rw (get_or-drop (o + length bytes) b j 0) (whole.at ((o + length bytes) + j)) }))

pub all_bytes : (xs : List ℕ) → All (λ b. b < 256) xs → AreBytes xs
all_bytes xs all = record {
  at = λ j. elim (cases_lt j (length xs)) [
    | inl within ↦ All-get_or (λ b. b < 256) xs j 0 within all
    | inr past ↦ rw (get_or_past xs j 0 past) (omega arith)
  ];
}

salt_small : (kind : Kind) → salt_of kind < 2 ^ 32
salt_small Thin = omega arith
salt_small Cache = omega arith
salt_small Era = omega arith

-- so it is a superblock of its kind
pub is_super_written : (kind : Kind) (uuid b : List ℕ) → length b ≡ 4096 → AreBytes b → length uuid ≡ 16 → All (λ b. b < 256) uuid
    → is_super_of kind (super_block kind uuid b) ≡ true
unfolding super_block
is_super_written kind uuid b whole bytes len small =
    let headed = written b (head_rows kind) in
    let size = length-written b (head_rows kind) in
    let put_size = length-put_bytes headed 16 uuid (omega arith) in
    is_super kind uuid b whole len
    (valid_sealed (put_bytes headed 16 uuid) (salt_of kind) (omega arith) (salt_small kind)
    (bytes_put_bytes headed 16 uuid (bytes_written b (head_rows kind) bytes) (all_bytes uuid small)))

-- and so is one that is written over zeros
pub is_super_of_rows : (kind : Kind) (uuid : List ℕ) (rows : List Row) → length uuid ≡ 16 → All (λ b. b < 256) uuid
    → is_super_of kind (super_block kind uuid (written zeros rows)) ≡ true
is_super_of_rows kind uuid rows len small =
    is_super_written kind uuid (written zeros rows) (length-written_zeros rows) (bytes_written zeros rows bytes_zeros) len small
