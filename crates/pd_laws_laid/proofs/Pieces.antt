-- The blocks of a laid array, and how its words are cut.
use Rattle.std.proofs.Common.{◌≡◌, ◌⊎◌, inl, inr, ℕ, zero, suc, ◌+◌, ◌-◌, ◌*◌, ◌/◌, ◌^◌, ◌<◌, ◌≤◌, true, false, List, [], ◌∷◌, ◌++◌, length, take, drop, get_or, refl, sym, ◌∙◌, ap, arith}
use Rattle.std.specs.List.{AllByRecursion, flat_map}
use Rattle.std.proofs.Math.Nat.{div-le_self, div-mul-le_self, mul-le-mul_left, mul_comm, suc-mul}
use Rattle.std.proofs.lemmas.List.{length-drop, length-take, length-take-le, nil_from_length, take-append-drop}
use Rattle.pd_kinds.specs.declared.rule.Rule.{Rule}
use Rattle.pd_kinds.specs.Array.{array_bad, array_block, array_rows, array_salt, is_array_shape_bad, max_words, word_at, word_count}
use Rattle.pd_kinds.specs.Field.{has_checksum, written, zeros}
use Rattle.pd_kinds.specs.Node.{puts}
use Rattle.pd_kinds.specs.Trees.{block_words}
use Rattle.pd_kinds.proofs.FieldLemmas.{length-puts}
use Rattle.pd_kinds.proofs.WrittenLemmas.{length-written_zeros}
use Rattle.pd_laid.specs.Laid.{pieces}
use Rattle.pd_node.proofs.Written.{read_back}
use Rattle.pd_array.proofs.ArrayWritten.{count_met, entries_read, max_read, place_read, rules_met, shape_met, size_read, word_read}
use Rattle.pd_laws_laid.proofs.Bytes.{bytes_puts, bytes_written, bytes_zeros, valid_sealed}

-- what fits an array's block
pub record IsPiece (size : ℕ) (words : List ℕ) : Type 0 where
  pub most : length words ≤ max_words size
  pub small : AllByRecursion (λ word. word < 256 ^ size) words

pub record IsWordSize (size : ℕ) : Type 0 where
  pub some : 1 ≤ size
  pub fits : size ≤ 4072

-- a word of a list below a limit
pub at_index : (limit : ℕ) (words : List ℕ) → AllByRecursion (λ w. w < limit) words → (i : ℕ) → i < length words → get_or words i 0 < limit
at_index limit [] all i h = absurd (omega arith)
at_index limit (w ∷ words) all zero h = all.0
at_index limit (w ∷ words) all (suc i) h = at_index limit words all.1 i (omega arith)

module _ (size place : ℕ) (words : List ℕ) (wide : IsWordSize size) (is : IsPiece size words) where
  room : size * max_words size ≤ 4072
  room = omega (arith, div-mul-le_self 4072 size, mul_comm (4072 / size) size)

  max_small : max_words size ≤ 4072
  max_small = div-le_self 4072 size

  array_shape : is_array_shape_bad size (array_block size place words) ≡ false
  array_shape =
      let few = is.most in
      let top = max_small in
      let entries = entries_read size place words (omega arith) in
      let wide_fits = wide.fits in
      shape_met size (array_block size place words) (size_read size place words (omega arith)) (max_read size place words (omega arith)) (rw entries few)

  pub count_read : word_count size (array_block size place words) ≡ length words
  count_read =
      let few = is.most in
      let top = max_small in
      count_met size (array_block size place words) array_shape ∙ entries_read size place words (omega arith)

  pub words_read : block_words size (array_block size place words) ≡ words
  unfolding block_words
  words_read =
      let fill : size * length words ≤ size * max_words size = mul-le-mul_left size is.most in
      let top = room in
      rw count_read
      (read_back (word_at size (array_block size place words)) words (length words) 0 refl
      (λ i h. word_read size place words i (omega arith) h (at_index (256 ^ size) words is.small i h)))

  valid : has_checksum (array_block size place words) array_salt ≡ true
  unfolding array_block
  valid =
      let header = written zeros (array_rows size place (length words)) in
      let whole = length-written_zeros (array_rows size place (length words)) in
      valid_sealed (puts header 24 size words) array_salt (rw (length-puts header 24 size words, whole) (omega arith)) (omega arith)
      (bytes_puts header 24 size words (bytes_written zeros _ bytes_zeros))

  pub array_sound : place < 2 ^ 64 → (rule : Rule) → array_bad size place (array_block size place words) rule ≡ false
  array_sound fits rule = rules_met size place (array_block size place words) rule valid array_shape (place_read size place words (omega arith))

-- the pieces in a row are the words, and each but the last is full
pub pieces_joined : (most k : ℕ) (words : List ℕ) → length words ≤ k * most → flat_map (λ (ws : List ℕ). ws) (pieces most k words) ≡ words
unfolding pieces
pieces_joined most zero words few = sym (nil_from_length words (omega arith))
pieces_joined most (suc k) words few =
    let split : suc k * most ≡ k * most + most = suc-mul k most in
    let left = length-drop most words in
    ap (λ (rest : List ℕ). take most words ++ rest) (pieces_joined most k (drop most words) (omega arith)) ∙ take-append-drop most words

pub pieces_fit : (size k : ℕ) (words : List ℕ) → AllByRecursion (λ w. w < 256 ^ size) words → AllByRecursion (IsPiece size) (pieces (max_words size) k words)
unfolding pieces
pieces_fit size zero words small = tt
pieces_fit size (suc k) words small = (
  record { most = omega (arith, length-take (max_words size) words); small = taken (max_words size) words small },
  pieces_fit size k (drop (max_words size) words) (dropped (max_words size) words small),
)
  where
    taken : (n : ℕ) (ws : List ℕ) → AllByRecursion (λ w. w < 256 ^ size) ws → AllByRecursion (λ w. w < 256 ^ size) (take n ws)
    taken zero ws all = tt
    taken (suc n) [] all = tt
    taken (suc n) (w ∷ ws) all = (all.0, taken n ws all.1)

    dropped : (n : ℕ) (ws : List ℕ) → AllByRecursion (λ w. w < 256 ^ size) ws → AllByRecursion (λ w. w < 256 ^ size) (drop n ws)
    dropped zero ws all = all
    dropped (suc n) [] all = tt
    dropped (suc n) (w ∷ ws) all = dropped n ws all.1

-- each piece but the last is full
abbrev pub AreFilled : ℕ → List (List ℕ) → Type 0
AreFilled most (first ∷ second ∷ rest) = (length first ≡ most) × AreFilled most (second ∷ rest)
AreFilled most _ = Unit {0}

pub pieces_filled : (most k : ℕ) (words : List ℕ) → k * most < length words → AreFilled most (pieces most (suc k) words)
unfolding pieces
pieces_filled most zero words many = tt
pieces_filled most (suc k) words many =
    let split : suc k * most ≡ k * most + most = suc-mul k most in
    let left = length-drop most words in
    (length-take-le most words (omega arith), pieces_filled most k (drop most words) (omega arith))

-- so many as are needed
pub filled_by : (most k : ℕ) (words : List ℕ) → (k ≡ 0) ⊎ ((k - 1) * most < length words) → AreFilled most (pieces most k words)
unfolding pieces
filled_by most zero words cases = tt
filled_by most (suc k) words cases = elim cases [
  | inl none ↦ absurd (omega arith)
  | inr many ↦ let e : suc k - 1 ≡ k = omega arith in pieces_filled most k words (rw e at many)
]
