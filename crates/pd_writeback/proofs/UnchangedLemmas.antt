-- When the marking of a cache changes nothing.
use Rattle.std.proofs.Common.{◌≡◌, ℕ, zero, suc, ◌+◌, ◌*◌, ◌<◌, Bool, true, false, ◌&&◌, nat_eq, List, map, take, refl, sym, ap, ◌∙◌, arith, inl, inr, cond, [], ◌∷◌, length, get_or, eq-eqb}
use Rattle.std.specs.List.{list_all, range_with_len, list_any}
use Rattle.std.proofs.lemmas.List.FromFn.{length-map-range_with_len, get_or-map-range_with_len}
use Rattle.std.proofs.lemmas.Bool.{cases_Bool, cases_lt, cond_both, true≢false}
use Rattle.std.proofs.lemmas.List.{ext_get_or}
use Rattle.std.proofs.lemmas.List.Elements.{All-get_or}
use Rattle.std.proofs.lemmas.List.Folds.{list_all_at, list_any_at}
use Rattle.std.proofs.lemmas.Option.{unwrap_or-slice_get}
use Rattle.pd_kinds.specs.Array.{array_salt, word_at, word_count}
use Rattle.pd_kinds.specs.Field.{sealed, put}
use Rattle.pd_kinds.specs.Node.{puts}
use Rattle.pd_kinds.proofs.FieldLemmas.{row_more}
use Rattle.pd_kinds.specs.CacheFormat.{cache_fields}
use Rattle.pd_kinds.specs.Graph.{block_at}
use Rattle.pd_kinds.specs.Image.{HasBytes, HasWholeBlocks}
use Rattle.pd_kinds.specs.Meaning.{cache_meaning}
use Rattle.pd_kinds.proofs.CrashLemmas.{Image}
use Rattle.pd_answers.specs.Writebacks.{long_words, settled_block, settled_word, dirty_places, hot_blocks, settled}
use Rattle.pd_laws_laid.proofs.Bytes.{AreBytes}
use Rattle.pd_laws_changed.proofs.Resealed.{settled_words}
use Rattle.pd_writeback.specs.Copied.{are_settled, is_block_settled}
use Rattle.pd_writeback.specs.Room.{ArePlaces}
use Rattle.pd_writeback.proofs.MarkedLemmas.{any_at}

-- The words of a block, and a row of them written.

-- each of a row passes a test
pub all_pass : (p : ℕ → Bool) (f : ℕ → ℕ) (a n : ℕ) → ((k : ℕ) → k < n → p (f (a + k)) ≡ true) → list_all p (map f (range_with_len a n)) ≡ true
all_pass p f a zero each = refl
all_pass p f a (suc n) each =
    let here : a + 0 ≡ a = omega arith in
    rw (rw here at (each 0 (omega arith)))
    (all_pass p f (a + 1) n (λ k within. let there : a + suc k ≡ a + 1 + k = omega arith in rw there at (each (suc k) (omega arith))))

-- one of a row fails it
pub one_fails : (p : ℕ → Bool) (f : ℕ → ℕ) (a n k : ℕ) → k < n → p (f (a + k)) ≡ false → list_all p (map f (range_with_len a n)) ≡ false
one_fails p f a zero k within fails = absurd (omega arith)
one_fails p f a (suc n) zero within fails = let here : a + 0 ≡ a = omega arith in rw (rw here at fails) refl
one_fails p f a (suc n) (suc k) within fails =
    let there : a + suc k ≡ a + 1 + k = omega arith in
    by_first (p (f a)) (one_fails p f (a + 1) n k (omega arith) (rw there at fails))
  where
    by_first : (t : Bool) → list_all p (map f (range_with_len (a + 1) n)) ≡ false → (t && list_all p (map f (range_with_len (a + 1) n))) ≡ false
    by_first true rest = rest
    by_first false rest = refl

-- a row of settled words goes on by one
pub settled_more : (version : ℕ) (block made : List ℕ) (i : ℕ) → i < word_count 8 block
    → put (puts made 24 8 (map (settled_word version) (take i (long_words block)))) (24 + 8 * i) 8 (settled_word version (word_at 8 block i))
    ≡ puts made 24 8 (map (settled_word version) (take (i + 1) (long_words block)))
settled_more version block made i within =
    let number = length-map-range_with_len (word_at 8 block) 0 (word_count 8 block) in
    let word = get_or-map-range_with_len (word_at 8 block) 0 (word_count 8 block) i i 0 within (omega arith) in
    ap (λ (w : ℕ). put (puts made 24 8 (map (settled_word version) (take i (long_words block)))) (24 + 8 * i) 8 (settled_word version w)) (sym word)
    ∙ sym (row_more (settled_word version) made 24 8 (long_words block) i 0 (omega arith))

-- a block with settled words
pub settled_is : (version : ℕ) (block : List ℕ) → list_all (λ word. nat_eq (settled_word version word) word) (long_words block) ≡ true → settled_block version block ≡ block
unfolding settled_block
settled_is version block all = rw all refl

pub settled_not : (version : ℕ) (block : List ℕ) → list_all (λ word. nat_eq (settled_word version word) word) (long_words block) ≡ false
    → sealed (puts block 24 8 (map (settled_word version) (long_words block))) array_salt ≡ settled_block version block
unfolding settled_block
settled_not version block some = rw some refl

-- each of a list passes a test
pub all_if : (test : ℕ → Bool) (xs : List ℕ) → ((k : ℕ) → k < length xs → test (get_or xs k 0) ≡ true) → list_all test xs ≡ true
all_if test [] each = refl
all_if test (x ∷ xs) each = rw (each 0 (omega arith)) (all_if test xs (λ k within. each (suc k) (omega arith)))

-- where all pass, so does one that is among them
passes : (test : ℕ → Bool) (xs : List ℕ) (b : ℕ) → list_all test xs ≡ true → list_any (λ x. nat_eq x b) xs ≡ true → test b ≡ true
passes test xs b all any =
    let found = any_at b xs any in
    let at : get_or xs found.0 0 ≡ b = found.2 in
    elim (cases_Bool (test b)) [
      | inl passes_it ↦ passes_it
      | inr fails ↦ absurd (true≢false (sym all ∙ list_all_at test xs found.0 0 found.1 (rw at fails)))
    ]

-- one more block says so
pub so_far : (version : ℕ) (image : Image) (places : List ℕ) (i : ℕ) (block : List ℕ) → block_at image (get_or places i 0) ≡ block → is_block_settled version block ≡ true
    → ((k : ℕ) → k < i → is_block_settled version (block_at image (get_or places k 0)) ≡ true) → (k : ℕ) → k < i + 1 → is_block_settled version (block_at image (get_or places k 0)) ≡ true
so_far version image places i block at is before k less = elim (cases_lt k i) [
  | inl below ↦ before k below
  | inr past ↦ let last : k ≡ i = omega arith in rw (last, at) is
]

-- a block that settling leaves as it is says already that nothing is dirty
unchanged_block : (version : ℕ) (block : List ℕ) → length block ≡ 4096 → AreBytes block → settled_block version block ≡ block → is_block_settled version block ≡ true
unchanged_block version block size bytes same =
    all_pass (λ word. nat_eq (settled_word version word) word) (word_at 8 block) 0 (word_count 8 block)
    (λ k within.
    eq-eqb (settled_word version (word_at 8 block (0 + k))) (word_at 8 block (0 + k))
    (sym (settled_words version block size bytes (0 + k) (omega arith)) ∙ ap (λ (b : List ℕ). word_at 8 b (0 + k)) same))

-- an image with the blocks at these places that say what is dirty
module _ (image : Image) (places : List ℕ) (version : ℕ) (of_version : version ≡ (cache_fields (block_at image 0)).version)
    (named : (b : ℕ) → list_any (λ p. nat_eq p b) places ≡ list_any (λ p. nat_eq p b) (dirty_places image)) where
  abbrev settled_at : ℕ → List ℕ
  settled_at b = cond (list_any (λ place. nat_eq place b) (dirty_places image)) (settled_block (cache_fields (block_at image 0)).version (block_at image b)) (block_at image b)

  -- where all of them say that nothing is, nothing changes
  stays_at : are_settled version image places ≡ true → (b : ℕ) → settled_at b ≡ block_at image b
  stays_at all b =
      cond_both (list_any (λ place. nat_eq place b) (dirty_places image)) (settled_block (cache_fields (block_at image 0)).version (block_at image b)) (block_at image b)
      (λ (x : List ℕ). x ≡ block_at image b)
      (λ is. ap (λ (v : ℕ). settled_block v (block_at image b)) (sym of_version)
      ∙ settled_is version (block_at image b) (passes (λ p. is_block_settled version (block_at image p)) places b all (named b ∙ is)))
      (λ _. refl)

  pub same_if_settled : are_settled version image places ≡ true → settled image ≡ image
  unfolding settled
  same_if_settled all =
      cond_both (nat_eq (length (hot_blocks (cache_meaning image))) 0) image (map settled_at (range_with_len 0 (length image))) (λ (i : Image). i ≡ image)
      (λ _. refl)
      (λ _. ext_get_or [] (map settled_at (range_with_len 0 (length image))) image (length-map-range_with_len settled_at 0 (length image))
      (λ b within.
      let within' : b < length image = rw (← length-map-range_with_len settled_at 0 (length image)) within in
      get_or-map-range_with_len settled_at 0 (length image) b b [] within' (omega arith) ∙ (stays_at all b ∙ unwrap_or-slice_get image b [])))

  -- where nothing changes, they all say so
  module _ (blocks : ℕ) (are : ArePlaces blocks places) (number : length image ≡ blocks) (bytes : HasBytes image) (whole : HasWholeBlocks image)
      (some_hot : nat_eq (length (hot_blocks (cache_meaning image))) 0 ≡ false) (same : settled image ≡ image) where
    same_at : (b : ℕ) → b < length image → list_any (λ p. nat_eq p b) places ≡ true → settled_block version (block_at image b) ≡ block_at image b
    unfolding settled
    same_at b within is =
        let all : map settled_at (range_with_len 0 (length image)) ≡ image = rw some_hot at same in
        ap (λ (v : ℕ). settled_block v (block_at image b)) of_version
        ∙ (ap (λ (t : Bool). cond t (settled_block (cache_fields (block_at image 0)).version (block_at image b)) (block_at image b)) (sym (sym (named b) ∙ is))
        ∙ (sym (get_or-map-range_with_len settled_at 0 (length image) b b [] within (omega arith))
        ∙ (ap (λ (i : Image). get_or i b []) all ∙ sym (unwrap_or-slice_get image b []))))

    pub settled_if_same : are_settled version image places ≡ true
    settled_if_same =
        all_if (λ p. is_block_settled version (block_at image p)) places
        (λ k within.
        let p = get_or places k 0 in
        let below : p < length image = rw number (are.each k within).1 in
        let size : length (block_at image p) ≡ 4096 = rw (unwrap_or-slice_get image p []) (All-get_or (λ (b : List ℕ). length b ≡ 4096) image p [] below whole) in
        unchanged_block version (block_at image p) size (record { at = bytes p }) (same_at p below (list_any_at (λ q. nat_eq q p) places k 0 within (eq-eqb p p refl))))
