-- Four streams of words, and the checksum that they are joined to.
use Rattle.std.proofs.Common.{◌≡◌, ℕ, zero, suc, ◌+◌, ◌*◌, ◌^◌, ◌-◌, ◌<◌, ◌≤◌, List, length, take, drop, get_or, refl, ap, ap₂, sym, ◌∙◌, arith, add-one, length-drop}
use Rattle.std.specs.List.{fold}
use Rattle.std.specs.Int.Bits.{bit_xor, xor_zero_r, xor_assoc}
use Rattle.std.proofs.Math.Seq.{take-add}
use Rattle.std.proofs.lemmas.List.{get_or-drop, take-append-drop, take_rest}
use Rattle.std.proofs.lemmas.List.Sums.{fold_more, fold-append}
use Rattle.std.proofs.lemmas.Nat.{xor_comm}
use Rattle.pd_kinds.specs.Field.{le, crc_byte}
use Rattle.pd_kinds.proofs.FieldLemmas.{le-lt}
use Rattle.pd_crc.specs.Steps.{byte_step, byte_steps, joined}
use Rattle.pd_crc.proofs.Linear.{byte_steps-xor, byte_steps-shift, xor_above, byte_steps-add, xor_regroup}

-- The checksum over the bytes of a little-endian number is the steps of that number.

pub byte_taken : (crc byte : ℕ) → byte_steps 1 (bit_xor crc byte) ≡ crc_byte crc byte
unfolding byte_steps crc_byte byte_step
byte_taken crc byte = refl

-- one more byte, above those of a number
byte_step-above : (count low byte : ℕ) → low < 256 ^ count → (crc : ℕ) → crc_byte (byte_steps count (bit_xor crc low)) byte ≡ byte_steps (suc count) (bit_xor crc (low + 256 ^ count * byte))
unfolding byte_steps
byte_step-above count low byte below crc =
    let high : 256 ^ count * byte ≡ byte * 256 ^ count = omega arith in
    let joined : bit_xor (bit_xor crc low) (byte * 256 ^ count) ≡ bit_xor crc (low + 256 ^ count * byte) =
    xor_assoc crc low (byte * 256 ^ count)
    ∙ ap (λ (x : ℕ). bit_xor crc x) (xor_above count low byte below ∙ ap (λ (x : ℕ). low + x) (sym high)) in
    sym (byte_taken (byte_steps count (bit_xor crc low)) byte)
    ∙ ap (λ (x : ℕ). byte_step (bit_xor (byte_steps count (bit_xor crc low)) x)) (sym (byte_steps-shift count byte))
    ∙ ap byte_step (sym (byte_steps-xor count (bit_xor crc low) (byte * 256 ^ count)) ∙ ap (byte_steps count) joined)

fold-le : (bytes : List ℕ) → ((i : ℕ) → get_or bytes i 0 < 256) → (at count : ℕ) → at + count ≤ length bytes → (crc : ℕ) → fold crc_byte crc (take count (drop at bytes)) ≡ byte_steps count (bit_xor crc (le bytes at count))
unfolding le byte_steps
fold-le bytes below at zero h crc = sym (xor_zero_r crc)
fold-le bytes below at (suc count) h crc =
    let inside : count < length (drop at bytes) = simp length-drop (omega arith) in
    let byte = get_or-drop at bytes count 0 in
    let before = fold-le bytes below at count (omega arith) crc in
    let more = fold_more crc_byte crc (drop at bytes) count 0 inside in
    rw (← add-one count) more
    ∙ ap₂ crc_byte before byte
    ∙ byte_step-above count (le bytes at count) (get_or bytes (at + count) 0) (le-lt bytes at count below) crc

-- the checksum over so many bytes more
pub fold-more : (bytes : List ℕ) → ((i : ℕ) → get_or bytes i 0 < 256) → (count at next start crc : ℕ) → at + count ≡ next → next ≤ length bytes → crc ≡ fold crc_byte start (take at bytes) → byte_steps count (bit_xor crc (le bytes at count)) ≡ fold crc_byte start (take next bytes)
fold-more bytes below count at next start crc is_next h e =
    sym (fold-le bytes below at count (omega arith) crc)
    ∙ ap (λ (x : ℕ). fold crc_byte x (take count (drop at bytes))) e
    ∙ sym (fold-append crc_byte start (take at bytes) (take count (drop at bytes)))
    ∙ ap (fold crc_byte start) (sym (take-add at count bytes) ∙ ap (λ (n : ℕ). take n bytes) is_next)

-- the checksum over the rest
pub fold-rest : (bytes : List ℕ) (at start crc : ℕ) → crc ≡ fold crc_byte start (take at bytes) → fold crc_byte crc (take (length bytes - at) (drop at bytes)) ≡ fold crc_byte start bytes
fold-rest bytes at start crc e =
    ap₂ (fold crc_byte) e (take_rest bytes at)
    ∙ sym (fold-append crc_byte start (take at bytes) (drop at bytes))
    ∙ ap (fold crc_byte start) (take-append-drop at bytes)

-- word by word, each from what the words before it left
pub word_by_word : (first second third fourth : ℕ) → byte_steps 4 (bit_xor (byte_steps 4 (bit_xor (byte_steps 4 (bit_xor (byte_steps 4 first) second)) third)) fourth) ≡ joined first second third fourth
unfolding joined
word_by_word first second third fourth =
    let eight : (x : ℕ) → byte_steps 4 (byte_steps 4 x) ≡ byte_steps 8 x = λ (x : ℕ). sym (byte_steps-add 4 4 x) in
    let twelve : (x : ℕ) → byte_steps 4 (byte_steps 8 x) ≡ byte_steps 12 x = λ (x : ℕ). sym (byte_steps-add 4 8 x) in
    let sixteen : (x : ℕ) → byte_steps 4 (byte_steps 12 x) ≡ byte_steps 16 x = λ (x : ℕ). sym (byte_steps-add 4 12 x) in
    simp (byte_steps-xor 4, eight, twelve, sixteen)

-- the order of steps does not matter
steps_swap : (m n x : ℕ) → byte_steps m (byte_steps n x) ≡ byte_steps n (byte_steps m x)
steps_swap m n x =
    let same : m + n ≡ n + m = omega arith in
    sym (byte_steps-add m n x) ∙ ap (λ (k : ℕ). byte_steps k x) same ∙ byte_steps-add n m x

-- a word that is taken into a stream, apart from what the stream was
one_stream : (count word stream : ℕ) → byte_steps count (bit_xor word (byte_steps 16 stream)) ≡ bit_xor (byte_steps count word) (byte_steps 16 (byte_steps count stream))
one_stream count word stream =
    byte_steps-xor count word (byte_steps 16 stream) ∙ ap (λ (x : ℕ). bit_xor (byte_steps count word) x) (steps_swap count 16 stream)

-- words a to d that are taken into streams p to s
joined-xor : (a b c d p q r s : ℕ) → joined (bit_xor a (byte_steps 16 p)) (bit_xor b (byte_steps 16 q)) (bit_xor c (byte_steps 16 r)) (bit_xor d (byte_steps 16 s)) ≡ bit_xor (joined a b c d) (byte_steps 16 (joined p q r s))
unfolding joined
joined-xor a b c d p q r s =
    let a' = byte_steps 16 a in
    let b' = byte_steps 12 b in
    let c' = byte_steps 8 c in
    let d' = byte_steps 4 d in
    let p' = byte_steps 16 (byte_steps 16 p) in
    let q' = byte_steps 16 (byte_steps 12 q) in
    let r' = byte_steps 16 (byte_steps 8 r) in
    let s' = byte_steps 16 (byte_steps 4 s) in
    ap₂ bit_xor (ap₂ bit_xor (ap₂ bit_xor (one_stream 16 a p) (one_stream 12 b q)) (one_stream 8 c r)) (one_stream 4 d s)
    ∙ ap (λ (x : ℕ). bit_xor (bit_xor x (bit_xor c' r')) (bit_xor d' s')) (xor_regroup a' p' b' q')
    ∙ ap (λ (x : ℕ). bit_xor x (bit_xor d' s')) (xor_regroup (bit_xor a' b') (bit_xor p' q') c' r')
    ∙ xor_regroup (bit_xor (bit_xor a' b') c') (bit_xor (bit_xor p' q') r') d' s'
    ∙ ap (λ (x : ℕ). bit_xor (bit_xor (bit_xor (bit_xor a' b') c') d') x) (sym (simp (byte_steps-xor 16)))

-- a checksum that is XORed into the first word
joined-first : (crc a b c d : ℕ) → joined (bit_xor crc a) b c d ≡ bit_xor (joined a b c d) (byte_steps 16 crc)
unfolding joined
joined-first crc a b c d =
    let apart : joined (bit_xor crc a) b c d ≡ bit_xor (byte_steps 16 crc) (joined a b c d) = simp (byte_steps-xor 16, xor_assoc) in
    apart ∙ xor_comm (byte_steps 16 crc) (joined a b c d)

-- the checksum over four words more
fold-four_words : (bytes : List ℕ) → ((i : ℕ) → get_or bytes i 0 < 256) → (at start crc : ℕ) → at + 16 ≤ length bytes → crc ≡ fold crc_byte start (take at bytes) → joined (bit_xor crc (le bytes at 4)) (le bytes (at + 4) 4) (le bytes (at + 8) 4) (le bytes (at + 12) 4) ≡ fold crc_byte start (take (at + 16) bytes)
fold-four_words bytes below at start crc h e =
    let after_one = fold-more bytes below 4 at (at + 4) start crc refl (omega arith) e in
    let after_two = fold-more bytes below 4 (at + 4) (at + 8) start (byte_steps 4 (bit_xor crc (le bytes at 4))) (omega arith) (omega arith) after_one in
    let after_three = fold-more bytes below 4 (at + 8) (at + 12) start (byte_steps 4 (bit_xor (byte_steps 4 (bit_xor crc (le bytes at 4))) (le bytes (at + 4) 4))) (omega arith) (omega arith) after_two in
    let after_four = fold-more bytes below 4 (at + 12) (at + 16) start (byte_steps 4 (bit_xor (byte_steps 4 (bit_xor (byte_steps 4 (bit_xor crc (le bytes at 4))) (le bytes (at + 4) 4))) (le bytes (at + 8) 4))) (omega arith) h after_three in
    sym (word_by_word (bit_xor crc (le bytes at 4)) (le bytes (at + 4) 4) (le bytes (at + 8) 4) (le bytes (at + 12) 4)) ∙ after_four

-- the streams after a word more in each
pub fold-streams : (bytes : List ℕ) → ((i : ℕ) → get_or bytes i 0 < 256) → (at start first second third fourth : ℕ) → at + 16 ≤ length bytes → joined first second third fourth ≡ fold crc_byte start (take at bytes) → joined (bit_xor (le bytes at 4) (byte_steps 16 first)) (bit_xor (le bytes (at + 4) 4) (byte_steps 16 second)) (bit_xor (le bytes (at + 8) 4) (byte_steps 16 third)) (bit_xor (le bytes (at + 12) 4) (byte_steps 16 fourth)) ≡ fold crc_byte start (take (at + 16) bytes)
fold-streams bytes below at start first second third fourth h e =
    joined-xor (le bytes at 4) (le bytes (at + 4) 4) (le bytes (at + 8) 4) (le bytes (at + 12) 4) first second third fourth
    ∙ sym (joined-first (joined first second third fourth) (le bytes at 4) (le bytes (at + 4) 4) (le bytes (at + 8) 4) (le bytes (at + 12) 4))
    ∙ fold-four_words bytes below at start (joined first second third fourth) h e

-- the streams after their first words
pub fold-first : (bytes : List ℕ) → ((i : ℕ) → get_or bytes i 0 < 256) → (start : ℕ) → 16 ≤ length bytes → joined (bit_xor start (le bytes 0 4)) (le bytes 4 4) (le bytes 8 4) (le bytes 12 4) ≡ fold crc_byte start (take 16 bytes)
fold-first bytes below start h = fold-four_words bytes below 0 start start h refl
