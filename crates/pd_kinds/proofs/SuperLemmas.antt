-- Laws of written superblocks: the head reads back, and each field beside it stays.
use Rattle.std.proofs.Common.{◌≡◌, ◌⊎◌, inl, inr, ℕ, ◌+◌, ◌≤◌, Bool, true, false, ◌&&◌, ◌==◌, List, [], ◌∷◌, length, take, drop, refl, ap, sym, ◌∙◌, arith, lit<, eq-eqb, zero, suc, ◌<◌, Some, slice_set, add-one}
use Rattle.std.proofs.lemmas.Bool.{and_parts}
use Rattle.std.specs.List.{slice_get}
use Rattle.std.proofs.lemmas.List.{get_or-set_other}
use Rattle.std.proofs.lemmas.Grind.{get_or-set_at}
use Rattle.pd_kinds.specs.declared.kind.Kind.{Kind}
use Rattle.pd_kinds.specs.declared.kind.Kind.TheVariants.{Thin, Cache, Era}
use Rattle.pd_kinds.specs.declared.rule.Rule.{Rule}
use Rattle.pd_kinds.specs.Rule.{Test, failing, alone}
use Rattle.pd_kinds.specs.Field.{Row, DoFit, bytes_at, le, put, put_bytes, written, zeros, checksum, has_checksum, sealed}
use Rattle.pd_kinds.specs.Super.{head_rows, is_super_of, magic_of, salt_of, super_block, super_rules}
use Rattle.pd_kinds.proofs.FieldLemmas.{drop-put, le-put_other}
use Rattle.pd_kinds.proofs.WrittenLemmas.{is_beside, length-written, length-zeros, length-written_zeros, drop-put_bytes, drop-sealed, le-put_bytes_other, put_bytes_read, are_apart, are_beside, numbers_at, values_of, le-written_beside, on_a_side, table_read}
use Rattle.pd_kinds.specs.Graph.{edge_of}
use Rattle.pd_kinds.specs.Edges.{edge_in, edges_down}

-- a field as a row, whatever its number
abbrev place_of : ℕ → ℕ → Row
place_of offset size = record { offset = offset; size = size; value = 0 }

-- the fields of a superblock's head: the checksum, the place, the uuid and the magic
abbrev pub head_places : List Row
head_places = place_of 0 4 ∷ place_of 8 8 ∷ place_of 16 16 ∷ place_of 32 8 ∷ []

-- each field of a table lies beside the head
abbrev pub are_behind_head : List Row → Bool
are_behind_head [] = true
are_behind_head (row ∷ rows) = are_beside row.offset row.size head_places && are_behind_head rows

-- a field beside the checksum and the uuid is that of the block under them
le-covered : (kind : Kind) (uuid b : List ℕ) (p n : ℕ) → length b ≡ 4096 → length uuid ≡ 16
    → ((p + n ≤ 0) ⊎ (4 ≤ p)) → ((p + n ≤ 16) ⊎ (32 ≤ p)) → le (super_block kind uuid b) p n ≡ le (written b (head_rows kind)) p n
unfolding super_block sealed
le-covered kind uuid b p n whole len behind apart =
    let headed = written b (head_rows kind) in
    let size = length-written b (head_rows kind) in
    let beside : ((p + n ≤ 16) ⊎ (16 + length uuid ≤ p)) = elim apart [ inl before ↦ inl before | inr after ↦ inr (omega arith) ] in
    le-put_other (put_bytes headed 16 uuid) 0 4 (checksum (put_bytes headed 16 uuid) (salt_of kind)) p n behind
    ∙ le-put_bytes_other headed 16 uuid p n (omega arith) beside

-- a field beside the head stays
le-super_block : (kind : Kind) (uuid b : List ℕ) (p n : ℕ) → length b ≡ 4096 → length uuid ≡ 16
    → are_beside p n head_places ≡ true → le (super_block kind uuid b) p n ≡ le b p n
le-super_block kind uuid b p n whole len beside =
    let checksums = and_parts (is_beside p n (place_of 0 4)) (are_beside p n (place_of 8 8 ∷ place_of 16 16 ∷ place_of 32 8 ∷ [])) beside in
    let places = and_parts (is_beside p n (place_of 8 8)) (are_beside p n (place_of 16 16 ∷ place_of 32 8 ∷ [])) checksums.1 in
    let uuids = and_parts (is_beside p n (place_of 16 16)) (are_beside p n (place_of 32 8 ∷ [])) places.1 in
    let magics = and_parts (is_beside p n (place_of 32 8)) true uuids.1 in
    let rows : are_beside p n (head_rows kind) ≡ true = rw (places.0, magics.0) refl in
    le-covered kind uuid b p n whole len (on_a_side p n 0 4 checksums.0) (on_a_side p n 16 16 uuids.0)
    ∙ le-written_beside b (head_rows kind) p n rows

-- and so do the numbers of a table beside it
pub numbers-super_block : (kind : Kind) (uuid b : List ℕ) (rows : List Row) → length b ≡ 4096 → length uuid ≡ 16
    → are_behind_head rows ≡ true → numbers_at (super_block kind uuid b) rows ≡ numbers_at b rows
numbers-super_block kind uuid b [] whole len behind = refl
numbers-super_block kind uuid b (row ∷ rows) whole len behind =
    let split = and_parts (are_beside row.offset row.size head_places) (are_behind_head rows) behind in
    let here = le-super_block kind uuid b row.offset row.size whole len split.0 in
    let rest = numbers-super_block kind uuid b rows whole len split.1 in
    rw (here, rest) refl

-- the numbers of the head fit
head_fits : (kind : Kind) → DoFit (head_rows kind)
head_fits Thin = (lit< tt, (lit< tt, tt))
head_fits Cache = (lit< tt, (lit< tt, tt))
head_fits Era = (lit< tt, (lit< tt, tt))

-- the place is 0, and the magic is that of the kind
place_read : (kind : Kind) (uuid b : List ℕ) → length b ≡ 4096 → length uuid ≡ 16 → le (super_block kind uuid b) 8 8 ≡ 0
place_read kind uuid b whole len =
    let covered = le-covered kind uuid b 8 8 whole len (inr (omega arith)) (inl (omega arith)) in
    let read = table_read b (head_rows kind) whole refl (head_fits kind) in
    covered ∙ cc

magic_read : (kind : Kind) (uuid b : List ℕ) → length b ≡ 4096 → length uuid ≡ 16 → le (super_block kind uuid b) 32 8 ≡ magic_of kind
magic_read kind uuid b whole len =
    let covered = le-covered kind uuid b 32 8 whole len (inr (omega arith)) (inr (omega arith)) in
    let read = table_read b (head_rows kind) whole refl (head_fits kind) in
    covered ∙ cc

-- so with its checksum it is a superblock of the kind
pub is_super : (kind : Kind) (uuid b : List ℕ) → length b ≡ 4096 → length uuid ≡ 16
    → has_checksum (super_block kind uuid b) (salt_of kind) ≡ true → is_super_of kind (super_block kind uuid b) ≡ true
unfolding is_super_of
is_super kind uuid b whole len valid =
    let place = eq-eqb (le (super_block kind uuid b) 8 8) 0 (place_read kind uuid b whole len) in
    let magic = eq-eqb (le (super_block kind uuid b) 32 8) (magic_of kind) (magic_read kind uuid b whole len) in
    rw (valid, magic, place) refl

-- the uuid reads back
pub uuid_read : (kind : Kind) (uuid b : List ℕ) → length b ≡ 4096 → length uuid ≡ 16 → bytes_at (super_block kind uuid b) 16 16 ≡ uuid
unfolding super_block
uuid_read kind uuid b whole len =
    let headed = written b (head_rows kind) in
    let size = length-written b (head_rows kind) in
    let behind = drop-sealed (put_bytes headed 16 uuid) (salt_of kind) 16 (omega arith) in
    let read = put_bytes_read headed 16 uuid (omega arith) in
    rw behind (ap (λ (n : ℕ). take n (drop 16 (put_bytes headed 16 uuid))) (sym len) ∙ read)

-- bytes behind the head stay
pub bytes-super_block : (kind : Kind) (uuid b : List ℕ) (o n : ℕ) → length b ≡ 4096 → length uuid ≡ 16 → 40 ≤ o
    → bytes_at (super_block kind uuid b) o n ≡ bytes_at b o n
unfolding super_block written
bytes-super_block kind uuid b o n whole len behind =
    let placed = put b 8 8 0 in
    let headed = written b (head_rows kind) in
    let size = length-written b (head_rows kind) in
    let sum = drop-sealed (put_bytes headed 16 uuid) (salt_of kind) o (omega arith) in
    let text = drop-put_bytes headed 16 uuid o (omega arith) (omega arith) in
    let rows = drop-put placed 32 8 (magic_of kind) o (omega arith) ∙ drop-put b 8 8 0 o (omega arith) in
    ap (λ (xs : List ℕ). take n xs) (sum ∙ (text ∙ rows))

-- the numbers of a table that lies beside written bytes stay
pub numbers-put_bytes : (b : List ℕ) (o n : ℕ) (bytes : List ℕ) (rows : List Row) → length bytes ≡ n → o + n ≤ length b → are_beside o n rows ≡ true
    → numbers_at (put_bytes b o bytes) rows ≡ numbers_at b rows
numbers-put_bytes b o n bytes [] len within beside = refl
numbers-put_bytes b o n bytes (row ∷ rows) len within beside =
    let split = and_parts (is_beside o n row) (are_beside o n rows) beside in
    let apart : ((row.offset + row.size ≤ o) ⊎ (o + length bytes ≤ row.offset)) =
    elim (on_a_side o n row.offset row.size split.0) [ inl before ↦ inr (omega arith) | inr after ↦ inl after ] in
    let here = le-put_bytes_other b o bytes row.offset row.size (omega arith) apart in
    let rest = numbers-put_bytes b o n bytes rows len within split.1 in
    rw (here, rest) refl

-- a superblock of the kind breaks a rule only by the tests
pub met_by_tests : (kind : Kind) (b : List ℕ) (tests : List Test) (asked : Rule) → is_super_of kind b ≡ true → failing tests asked ≡ false
    → super_rules kind b tests asked ≡ false
unfolding is_super_of alone
met_by_tests kind b tests asked valid met =
    let sums = and_parts (has_checksum b (salt_of kind)) ((le b 32 8 == magic_of kind) && (le b 8 8 == 0)) valid in
    let magics = and_parts (le b 32 8 == magic_of kind) (le b 8 8 == 0) sums.1 in
    rw (sums.0, magics.0) met

-- and its place is 0
pub place_tested : (kind : Kind) (b : List ℕ) → is_super_of kind b ≡ true → (le b 8 8 == 0) ≡ true
unfolding is_super_of
place_tested kind b valid =
    (and_parts (le b 32 8 == magic_of kind) (le b 8 8 == 0)
    (and_parts (has_checksum b (salt_of kind)) ((le b 32 8 == magic_of kind) && (le b 8 8 == 0)) valid).1).1

-- the numbers of a table that lies beside the head, and whose fields lie apart, read back
pub fields_read : (kind : Kind) (uuid : List ℕ) (rows : List Row) → length uuid ≡ 16 → are_behind_head rows ≡ true → are_apart rows ≡ true → DoFit rows
    → numbers_at (super_block kind uuid (written zeros rows)) rows ≡ values_of rows
fields_read kind uuid rows len behind apart fit =
    numbers-super_block kind uuid (written zeros rows) rows (length-written_zeros rows) len behind
    ∙ table_read zeros rows length-zeros apart fit

-- Edges kept with the last one first.

-- their number
pub length-down : (items : List (ℕ × ℕ)) (n : ℕ) → n ≡ length (edges_down items n)
length-down items zero = refl
length-down items (suc n) = ap suc (length-down items n)

-- one more
down_before : (items : List (ℕ × ℕ)) (n k : ℕ) (item : ℕ × ℕ) → n ≤ k → edges_down (slice_set items k item) n ≡ edges_down items n
down_before items zero k item small = refl
down_before items (suc n) k item small =
    rw (get_or-set_other items k n item (0, 0) (λ same. omega arith), down_before items n k item (omega arith)) refl

pub down_more : (items : List (ℕ × ℕ)) (n : ℕ) (item : ℕ × ℕ) → n < length items
    → edges_down (slice_set items n item) (n + 1) ≡ edge_of item.0 item.1 ∷ edges_down items n
down_more items n item room =
    rw (add-one, get_or-set_at items n n item (0, 0) refl room, down_before items n n item (omega arith)) refl

-- each of them
pub down_found : (items : List (ℕ × ℕ)) (n i k : ℕ) → k + (i + 1) ≡ n → slice_get (edges_down items n) i ≡ Some (edge_in items k)
down_found items zero i k same = absurd (omega arith)
down_found items (suc n) zero k same = let e : n ≡ k = omega arith in rw e refl
down_found items (suc n) (suc i) k same = down_found items n i k (omega arith)
