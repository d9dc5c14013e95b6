-- Laws of written blocks: what is read of a block that a table, bytes or a checksum were written into.
use Rattle.std.proofs.Common.{◌≡◌, ◌⊎◌, inl, inr, ℕ, zero, suc, ◌+◌, ◌-◌, ◌%◌, ◌^◌, ◌<◌, ◌≤◌, Bool, true, ◌&&◌, ◌||◌, ◌==◌, nat_le, cond, List, [], ◌∷◌, ◌++◌, length, take, drop, get_or, replicate, append_assoc, length-append, refl, ap, sym, ◌∙◌, arith, eq-eqb, nat_eq}
use Rattle.std.proofs.Math.Nat.{mod-eq_of_lt}
use Rattle.std.proofs.Math.Seq.{take-append_seam, drop-append_seam}
use Rattle.std.proofs.lemmas.List.{length-replicate, get_or-replicate, get_or_past, length-take-le, length-drop, get_or_append_left, get_or-append_right, get_or-take, get_or-drop}
use Rattle.std.proofs.lemmas.Slice.{drop-append-drop}
use Rattle.std.proofs.lemmas.Bool.Decides.{nat_tests}
use Rattle.std.proofs.lemmas.Bool.{cases_lt, and_parts}
use Rattle.std.specs.Int.Bits.{bit_xor}
use Rattle.pd_kinds.specs.Field.{Row, le, put, put_bytes, written, zeros, crc32c, checksum, has_checksum, sealed, DoFit}
use Rattle.pd_kinds.proofs.FieldLemmas.{le_same, length-put, le-put, le-put_same, le-put_other, drop-put}

-- the row is the field of n bytes at offset p
abbrev pub is_row : ℕ → ℕ → Row → Bool
is_row p n row = (row.offset == p) && (row.size == n)

-- the row lies outside that field
abbrev pub is_beside : ℕ → ℕ → Row → Bool
is_beside p n row = nat_le (p + n) row.offset || nat_le (row.offset + row.size) p

-- in a block of this length each row is the field or lies beside it, so the field can be looked up
abbrev pub is_looked_up : ℕ → ℕ → ℕ → List Row → Bool
is_looked_up len p n [] = true
is_looked_up len p n (row ∷ rows) = cond (is_row p n row) (nat_le (p + n) len) (is_beside p n row) && is_looked_up len p n rows

-- the number of the field after the table is written, over the one before
abbrev pub looked_up : ℕ → ℕ → List Row → ℕ → ℕ
looked_up p n [] before = before
looked_up p n (row ∷ rows) before = looked_up p n rows (cond (is_row p n row) (row.value % 256 ^ n) before)

-- writing a table keeps the length
pub length-written : (b : List ℕ) (rows : List Row) → length (written b rows) ≡ length b
unfolding written
length-written b [] = refl
length-written b (row ∷ rows) =
    length-written (put b row.offset row.size row.value) rows ∙ length-put b row.offset row.size row.value

-- one row of a table
le-row : (b : List ℕ) (p n o k v : ℕ)
    → cond (nat_eq o p && nat_eq k n) (nat_le (p + n) (length b)) (nat_le (p + n) o || nat_le (o + k) p) ≡ true
    → le (put b o k v) p n ≡ cond (nat_eq o p && nat_eq k n) (v % 256 ^ n) (le b p n)
le-row b p n o k v fits = grind (arith, nat_tests, le-put_same, le-put_other)

-- reading a field of a written table
pub le-written : (b : List ℕ) (rows : List Row) (p n : ℕ) → is_looked_up (length b) p n rows ≡ true → le (written b rows) p n ≡ looked_up p n rows (le b p n)
unfolding written
le-written b [] p n fits = refl
le-written b (row ∷ rows) p n fits =
    let split = and_parts (cond (is_row p n row) (nat_le (p + n) (length b)) (is_beside p n row)) (is_looked_up (length b) p n rows) fits in
    let here = le-row b p n row.offset row.size row.value split.0 in
    let len = length-put b row.offset row.size row.value in
    let later = le-written (put b row.offset row.size row.value) rows p n (rw len split.1) in
    rw (later, here) refl

-- a byte outside the written ones stays
pub get_or-put_bytes_other : (b : List ℕ) (o : ℕ) (bytes : List ℕ) (j : ℕ) → o + length bytes ≤ length b → ((j < o) ⊎ (o + length bytes ≤ j)) → get_or (put_bytes b o bytes) j 0 ≡ get_or b j 0
unfolding put_bytes
get_or-put_bytes_other b o bytes j within apart =
    let front = length-take-le o b (omega arith) in
    elim apart [
      | inl before ↦ get_or_append_left (take o b) (bytes ++ drop (o + length bytes) b) 0 j (omega arith) ∙ get_or-take o b j 0 before
      | inr after ↦
          let place : o + length bytes + (j - o - length bytes) ≡ j = omega arith in
          get_or-append_right (take o b) (bytes ++ drop (o + length bytes) b) o j 0 front (omega arith)
          ∙ (get_or-append_right bytes (drop (o + length bytes) b) (length bytes) (j - o) 0 refl (omega arith)
          ∙ (get_or-drop (o + length bytes) b (j - o - length bytes) 0 ∙ ap (λ (i : ℕ). get_or b i 0) place))
    ]

-- written bytes keep the length
pub length-put_bytes : (b : List ℕ) (o : ℕ) (bytes : List ℕ) → o + length bytes ≤ length b → length (put_bytes b o bytes) ≡ length b
unfolding put_bytes
length-put_bytes b o bytes within =
    rw (length-append, length-append, length-take-le o b (omega arith), length-drop) (omega arith)

-- the written bytes are read back
pub put_bytes_read : (b : List ℕ) (o : ℕ) (bytes : List ℕ) → o ≤ length b → take (length bytes) (drop o (put_bytes b o bytes)) ≡ bytes
unfolding put_bytes
put_bytes_read b o bytes within =
    let front = length-take-le o b within in
    let behind : drop o (take o b ++ (bytes ++ drop (o + length bytes) b)) ≡ bytes ++ drop (o + length bytes) b =
    ap (λ (n : ℕ). drop n (take o b ++ (bytes ++ drop (o + length bytes) b))) (sym front) ∙ drop-append_seam (take o b) (bytes ++ drop (o + length bytes) b) in
    rw behind (take-append_seam bytes (drop (o + length bytes) b))

-- reading a field beside written bytes
pub le-put_bytes_other : (b : List ℕ) (o : ℕ) (bytes : List ℕ) (p n : ℕ) → o + length bytes ≤ length b → ((p + n ≤ o) ⊎ (o + length bytes ≤ p)) → le (put_bytes b o bytes) p n ≡ le b p n
le-put_bytes_other b o bytes p n within apart = le_same (put_bytes b o bytes) b p p n
    (λ i h. get_or-put_bytes_other b o bytes (p + i) within (elim apart [ inl before ↦ inl (omega arith) | inr after ↦ inr (omega arith) ]))

-- what stands behind written bytes stays
pub drop-put_bytes : (b : List ℕ) (o : ℕ) (bytes : List ℕ) (n : ℕ) → o ≤ length b → o + length bytes ≤ n → drop n (put_bytes b o bytes) ≡ drop n b
unfolding put_bytes
drop-put_bytes b o bytes n within behind =
    let front : length (take o b ++ bytes) ≡ o + length bytes = rw (length-append, length-take-le o b within) refl in
    ap (λ (xs : List ℕ). drop n xs) (sym (append_assoc (take o b) bytes (drop (o + length bytes) b)))
    ∙ drop-append-drop (o + length bytes) b (take o b ++ bytes) n behind front

-- a checksum changes nothing behind it
pub drop-sealed : (b : List ℕ) (salt n : ℕ) → 4 ≤ n → drop n (sealed b salt) ≡ drop n b
unfolding sealed
drop-sealed b salt n behind = drop-put b 0 4 (checksum b salt) n behind

-- reading a field of a sealed block
pub le-sealed_other : (b : List ℕ) (salt p n : ℕ) → 4 ≤ p → le (sealed b salt) p n ≡ le b p n
unfolding sealed
le-sealed_other b salt p n behind = le-put_other b 0 4 (checksum b salt) p n (inr behind)

-- a block's checksum doesn't look at the checksum in it
pub checksum-sealed : (b : List ℕ) (salt other : ℕ) → checksum (sealed b salt) other ≡ checksum b other
unfolding checksum
checksum-sealed b salt other = ap (λ (xs : List ℕ). bit_xor (crc32c xs) other) (drop-sealed b salt 4 (omega arith))

-- a sealed block has its checksum, where that is a number of four bytes
pub has_checksum-sealed : (b : List ℕ) (salt : ℕ) → 4 ≤ length b → checksum b salt < 2 ^ 32 → has_checksum (sealed b salt) salt ≡ true
unfolding has_checksum sealed
has_checksum-sealed b salt within fits =
    eq-eqb (le (sealed b salt) 0 4) (checksum (sealed b salt) salt)
    (le-put b 0 4 (checksum b salt) within fits ∙ sym (checksum-sealed b salt salt))

-- each byte of a block of zeros is 0, and so is what lies past it
pub get_or-zeros : (i : ℕ) → get_or zeros i 0 ≡ 0
unfolding zeros
get_or-zeros i = elim (cases_lt i 4096) [
  | inl inside ↦ get_or-replicate {A = ℕ} 4096 i 0 0 inside
  | inr past ↦ get_or_past (replicate {A = ℕ} 4096 0) i 0 (rw (length-replicate {A = ℕ} 4096 0) past)
]

-- each field of a block of zeros is 0
pub le-zeros : (p n : ℕ) → le zeros p n ≡ 0
unfolding le
le-zeros p zero = refl
le-zeros p (suc n) =
    let before = le-zeros p n in
    let last = get_or-zeros (p + n) in
    rw (before, last) (omega arith)

-- a block of zeros has the size of a block
pub length-zeros : length zeros ≡ 4096
unfolding zeros
length-zeros = length-replicate {A = ℕ} 4096 0

-- and so has one that a table was written into
pub length-written_zeros : (rows : List Row) → length (written zeros rows) ≡ 4096
length-written_zeros rows = length-written zeros rows ∙ length-zeros

-- reading a field of a table that was written over zeros
pub le-written_zeros : (rows : List Row) (p n : ℕ) → is_looked_up 4096 p n rows ≡ true → le (written zeros rows) p n ≡ looked_up p n rows 0
le-written_zeros rows p n found =
    let stored : is_looked_up (length zeros) p n rows ≡ true = rw length-zeros found in
    le-written zeros rows p n stored ∙ ap (λ (before : ℕ). looked_up p n rows before) (le-zeros p n)

-- so a number of the table reads back where it fits
pub row_read : (rows : List Row) (p n v : ℕ) → is_looked_up 4096 p n rows ≡ true → looked_up p n rows 0 ≡ v % 256 ^ n → v < 256 ^ n
    → le (written zeros rows) p n ≡ v
row_read rows p n v found row fits = le-written_zeros rows p n found ∙ (row ∙ mod-eq_of_lt fits)

-- Tables whose fields lie apart: what was written reads back.

-- the numbers that a block has in the fields of a table, and those of the table
abbrev pub numbers_at : List ℕ → List Row → List ℕ
numbers_at b [] = []
numbers_at b (row ∷ rows) = le b row.offset row.size ∷ numbers_at b rows

abbrev pub values_of : List Row → List ℕ
values_of [] = []
values_of (row ∷ rows) = row.value ∷ values_of rows

-- the number of a table at an offset
abbrev pub value_at : List Row → ℕ → ℕ
value_at [] p = 0
value_at (row ∷ rows) p = cond (row.offset == p) row.value (value_at rows p)

-- each field of the table lies beside the one of n bytes at offset p
abbrev pub are_beside : ℕ → ℕ → List Row → Bool
are_beside p n [] = true
are_beside p n (row ∷ rows) = is_beside p n row && are_beside p n rows

-- the fields of a table lie within a block, and apart from each other
abbrev pub are_apart : List Row → Bool
are_apart [] = true
are_apart (row ∷ rows) = nat_le (row.offset + row.size) 4096 && (are_beside row.offset row.size rows && are_apart rows)

-- what the tests mean
pub within_block : (n m : ℕ) → nat_le n m ≡ true → n ≤ m
within_block n m test = grind (arith, nat_tests)

pub on_a_side : (p n o k : ℕ) → (nat_le (p + n) o || nat_le (o + k) p) ≡ true → ((p + n ≤ o) ⊎ (o + k ≤ p))
on_a_side p n o k test = grind (arith, nat_tests)

-- a field beside a table stays where the table is written
pub le-written_beside : (b : List ℕ) (rows : List Row) (p n : ℕ) → are_beside p n rows ≡ true → le (written b rows) p n ≡ le b p n
unfolding written
le-written_beside b [] p n beside = refl
le-written_beside b (row ∷ rows) p n beside =
    let split = and_parts (is_beside p n row) (are_beside p n rows) beside in
    le-written_beside (put b row.offset row.size row.value) rows p n split.1
    ∙ le-put_other b row.offset row.size row.value p n (on_a_side p n row.offset row.size split.0)

-- a table whose fields lie apart reads back
pub table_read : (b : List ℕ) (rows : List Row) → length b ≡ 4096 → are_apart rows ≡ true → DoFit rows
    → numbers_at (written b rows) rows ≡ values_of rows
unfolding written
table_read b [] whole apart fit = refl
table_read b (row ∷ rows) whole apart fit =
    let outer = and_parts (nat_le (row.offset + row.size) 4096) (are_beside row.offset row.size rows && are_apart rows) apart in
    let inner = and_parts (are_beside row.offset row.size rows) (are_apart rows) outer.1 in
    let within = within_block (row.offset + row.size) 4096 outer.0 in
    let after = put b row.offset row.size row.value in
    let here : le (written after rows) row.offset row.size ≡ row.value =
    le-written_beside after rows row.offset row.size inner.0 ∙ le-put b row.offset row.size row.value (omega arith) fit.0 in
    let rest = table_read after rows (length-put b row.offset row.size row.value ∙ whole) inner.1 fit.1 in
    rw (here, rest) refl
