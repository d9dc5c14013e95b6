-- The entries that a cache's words mean are those that were laid, and no two of them have one origin.
use Rattle.std.proofs.Common.{◌≡◌, ◌⊎◌, inl, inr, ℕ, zero, suc, ◌+◌, ◌*◌, ◌/◌, ◌%◌, ◌^◌, ◌<◌, ◌≤◌, Bool, true, false, ◌&&◌, nat_eq, eq-eqb, cond, get_or, List, [], ◌∷◌, length, map, filter, Option, refl, sym, ◌∙◌, ap, arith}
use Rattle.std.specs.declared.option.Option.TheVariants.{None, Some}
use Rattle.std.specs.List.{find, list_any, range_with_len}
use Rattle.std.proofs.lemmas.Bool.{cases_Bool, cases_eq, ne_eqb, or_from, or_parts, true≢false}
use Rattle.std.proofs.lemmas.List.FromFn.{fill_by_all, get_or-map-range_with_len, length-map-range_with_len}
use Rattle.pd_kinds.specs.CacheFormat.{has_dirty_bits}
use Rattle.pd_kinds.specs.Meaning.{CacheEntry, CacheMeaning, cache_entry, is_dirty_block}
use Rattle.pd_kinds.specs.Whole.{has_repeat, is_valid_word, origin_of_word}
use Rattle.pd_grammar.specs.Lawful.{AreEntries, IsLawfulCache}
use Rattle.pd_laid.specs.LaidCache.{dirty_word, dirty_words, entry_of, has_hints, hint_word, hint_words, is_dirty, mapping_word, mapping_words}
use Rattle.pd_laid.proofs.NodeFacts.{map-map}
use Rattle.pd_laws_laid.proofs.CacheWords.{by_entry, dirty_bits}

-- what a cache block's words are read as: nothing where it has no entry, else that entry
abbrev Reads : (ℕ → Bool) → (ℕ → CacheEntry) → ℕ → Option CacheEntry → Type 0
Reads valid entry i None = valid i ≡ false
Reads valid entry i (Some e) = (valid i ≡ true) × (entry i ≡ e)

-- a cache block below those of all entries has none
none_below : (blocks hint_size least i : ℕ) (earlier : List ℕ) (es : List CacheEntry) → AreEntries blocks hint_size least earlier es → i < least
    → find (λ (e : CacheEntry). nat_eq e.block i) es ≡ None
none_below blocks hint_size least i earlier [] are below = refl
none_below blocks hint_size least i earlier (e ∷ es) are below =
    let low = are.0.above in
    rw (ne_eqb e.block i (λ same. omega arith)) (none_below blocks hint_size (e.block + 1) i (e.origin ∷ earlier) es are.1 (omega arith))

-- So where each cache block is read as its entry, the entries of all of them are the entries in a row
module _ (valid : ℕ → Bool) (entry : ℕ → CacheEntry) (blocks hint_size : ℕ) where
  abbrev AreRead : ℕ → List CacheEntry → Type 0
  AreRead a es = (i : ℕ) → a ≤ i → i < blocks → Reads valid entry i (find (λ (e : CacheEntry). nat_eq e.block i) es)

  entries_back : (a k : ℕ) (earlier : List ℕ) (es : List CacheEntry) → a + k ≡ blocks → AreEntries blocks hint_size a earlier es → AreRead a es
      → map entry (filter valid (range_with_len a k)) ≡ es
  entries_back a zero earlier [] sum are read = refl
  entries_back a zero earlier (e ∷ es) sum are read =
      let low = are.0.above in
      let high = are.0.within in
      absurd (omega arith)
  entries_back a (suc k) earlier [] sum are read =
      rw (read a (omega arith) (omega arith)) (entries_back (a + 1) k earlier [] (omega arith) tt (λ i low high. read i (omega arith) high))
  entries_back a (suc k) earlier (e ∷ es) sum are read =
      let low = are.0.above in
      elim (cases_eq e.block a) [
        | inl same ↦
            let is = eq-eqb e.block a same in
            let first : Reads valid entry a (Some e) = rw is at (read a (omega arith) (omega arith)) in
            let rest : AreEntries blocks hint_size (a + 1) (e.origin ∷ earlier) es = rw same at are.1 in
            rw (first.0, first.1)
            (ap (λ (es : List CacheEntry). e ∷ es) (entries_back (a + 1) k (e.origin ∷ earlier) es (omega arith) rest (λ i low high.
            let other = ne_eqb e.block i (λ at. omega arith) in rw other at (read i (omega arith) high))))
        | inr later ↦
            let raised : AreEntries blocks hint_size (a + 1) earlier (e ∷ es) = (
              record {
                above = omega arith;
                within = are.0.within;
                origin_fits = are.0.origin_fits;
                hint_fits = are.0.hint_fits;
                no_hint = are.0.no_hint;
                new = are.0.new;
              },
              are.1,
            ) in
            let none = none_below blocks hint_size (a + 1) a earlier (e ∷ es) raised (omega arith) in
            let missed : valid a ≡ false = rw none at (read a (omega arith) (omega arith)) in
            rw missed (entries_back (a + 1) k earlier (e ∷ es) (omega arith) raised (λ i low high. read i (omega arith) high))
      ]

-- no test that passes over the origins before passes one of these
abbrev IsAmong : ℕ → List ℕ → Type 0
IsAmong x origins = (test : ℕ → Bool) → list_any test origins ≡ false → test x ≡ false

later_differ : (blocks hint_size least x : ℕ) (earlier : List ℕ) (es : List CacheEntry) → IsAmong x earlier → AreEntries blocks hint_size least earlier es
    → list_any (λ y. nat_eq y x) (map (λ (e : CacheEntry). e.origin) es) ≡ false
later_differ blocks hint_size least x earlier [] among are = refl
later_differ blocks hint_size least x earlier (e ∷ es) among are =
    let other = among (λ origin. nat_eq origin e.origin) are.0.new in
    or_from _ _ (ne_eqb e.origin x (λ same. true≢false (sym (eq-eqb x e.origin (sym same)) ∙ other)))
    (later_differ blocks hint_size (e.block + 1) x (e.origin ∷ earlier) es (λ test none. among test (or_parts _ _ none).1) are.1)

-- no origin comes twice
no_repeat : (blocks hint_size least : ℕ) (earlier : List ℕ) (es : List CacheEntry) → AreEntries blocks hint_size least earlier es
    → has_repeat (map (λ (e : CacheEntry). e.origin) es) ≡ false
unfolding has_repeat
no_repeat blocks hint_size least earlier [] are = refl
no_repeat blocks hint_size least earlier (e ∷ es) are =
    or_from _ _ (later_differ blocks hint_size (e.block + 1) e.origin (e.origin ∷ earlier) es (λ test none. (or_parts _ _ none).0) are.1)
    (no_repeat blocks hint_size (e.block + 1) (e.origin ∷ earlier) es are.1)

-- a filter of made elements
filter_made : {X Y : Type 0} → (test : Y → Bool) (f : X → Y) (xs : List X) → filter test (map f xs) ≡ map f (filter (λ x. test (f x)) xs)
filter_made test f [] = refl
filter_made test f (x ∷ xs) = elim (cases_Bool (test (f x))) [
  | inl here ↦ rw here (ap (λ rest. f x ∷ rest) (filter_made test f xs))
  | inr missed ↦ rw missed (filter_made test f xs)
]

module _ (m : CacheMeaning) (lawful : IsLawfulCache m) (version : ℕ) where
  abbrev hints : List ℕ
  hints = cond (has_hints m) (hint_words m) []

  abbrev bits : List ℕ
  bits = cond (has_dirty_bits version) (dirty_words m) []

  word_is : (i : ℕ) → i < m.blocks → get_or (mapping_words m version) i 0 ≡ mapping_word version (entry_of m i)
  unfolding mapping_words
  word_is i within = get_or-map-range_with_len (λ i. mapping_word version (entry_of m i)) 0 m.blocks i i 0 within (omega arith)

  -- without hints those of all entries are 0
  hint_is : (i : ℕ) → i < m.blocks → get_or (cond (has_hints m) (hint_words m) []) i 0 ≡ hint_word (entry_of m i)
  unfolding hint_words
  hint_is i within = elim (cases_Bool (nat_eq m.hint_size 4)) [
    | inl there ↦ rw there (get_or-map-range_with_len (λ i. hint_word (entry_of m i)) 0 m.blocks i i 0 within (omega arith))
    | inr none ↦
        let size : m.hint_size ≡ 0 = elim lawful.hint_size_is [ inl zero_is ↦ zero_is | inr four ↦ absurd (true≢false (sym (eq-eqb m.hint_size 4 four) ∙ none)) ] in
        rw none (by_entry m lawful (λ entry. 0 ≡ hint_word entry) i refl (λ e fits same. sym (fits.no_hint size)))
  ]

  -- a dirty bit is told in the way of the version
  dirty_is : (version ≡ 1) ⊎ (version ≡ 2) → (i : ℕ) → i < m.blocks
      → is_dirty_block version (mapping_words m version) (cond (has_dirty_bits version) (dirty_words m) []) i ≡ is_dirty (entry_of m i)
  unfolding dirty_words
  dirty_is which i within = elim which [
    | inl one ↦
        let none : has_dirty_bits version ≡ false = rw one refl in
        rw (none, word_is i within)
        (by_entry m lawful (λ entry. nat_eq (mapping_word version entry / 2 % 2) 1 ≡ is_dirty entry) i refl (λ e fits same. rw one (own e.dirty e.origin)))
    | inr two ↦
        let there : has_dirty_bits version ≡ true = rw two refl in
        let j = i / 64 in
        let word = get_or-map-range_with_len (dirty_word m) 0 ((m.blocks + 63) / 64) (i / 64) (i / 64) 0 (omega arith) (omega arith) in
        let whole : 64 * (i / 64) + i % 64 ≡ i = omega arith in
        rw (there, word) ((dirty_bits m lawful (i / 64)).bits_are (i % 64) (omega arith) ∙ ap (λ (k : ℕ). is_dirty (entry_of m k)) whole)
  ]
    where
      own : (dirty : Bool) (origin : ℕ) → nat_eq ((origin * 2 ^ 16 + cond (dirty && nat_eq 1 1) 3 1) / 2 % 2) 1 ≡ dirty
      own true origin = let bit : (origin * 2 ^ 16 + 3) / 2 % 2 ≡ 1 = omega arith in rw bit refl
      own false origin = let bit : (origin * 2 ^ 16 + 1) / 2 % 2 ≡ 0 = omega arith in rw bit refl

  abbrev entry_at : ℕ → CacheEntry
  entry_at i = cache_entry version (mapping_words m version) hints bits i

  abbrev is_valid : ℕ → Bool
  is_valid i = is_valid_word (get_or (mapping_words m version) i 0)

  abbrev made : ℕ → ℕ → Bool → ℕ → CacheEntry
  made block origin dirty hint = record { block = block; origin = origin; dirty = dirty; hint = hint }

  abbrev dirty_at : ℕ → Bool
  dirty_at i = is_dirty_block version (mapping_words m version) bits i

  -- what is known of the words of a cache block that has this entry, and what they are read as
  abbrev Says : ℕ → Option CacheEntry → Type 0
  Says i entry =
      get_or (mapping_words m version) i 0 ≡ mapping_word version entry → get_or hints i 0 ≡ hint_word entry → dirty_at i ≡ is_dirty entry → Reads is_valid entry_at i entry

  -- so each cache block is read as its entry
  read_as : (version ≡ 1) ⊎ (version ≡ 2) → (i : ℕ) → i < m.blocks → Reads is_valid entry_at i (entry_of m i)
  read_as which i within =
      by_entry m lawful (Says i) i
      (λ word hint dirty. rw word refl)
      (λ e fits same word hint dirty.
      let low = few (e.dirty && nat_eq version 1) in
      let valid : get_or (mapping_words m version) i 0 % 2 ≡ 1 = rw word (odd (e.dirty && nat_eq version 1) e.origin) in
      let origin : get_or (mapping_words m version) i 0 / 2 ^ 16 ≡ e.origin = rw word (omega arith) in (
        eq-eqb _ 1 valid,
        ap (λ (block : ℕ). made block (get_or (mapping_words m version) i 0 / 2 ^ 16) (dirty_at i) (get_or hints i 0)) (sym same)
            ∙ (ap (λ (origin : ℕ). made e.block origin (dirty_at i) (get_or hints i 0)) origin
            ∙ (ap (λ (is_dirty : Bool). made e.block e.origin is_dirty (get_or hints i 0)) dirty ∙ ap (made e.block e.origin e.dirty) hint)),
      ))
      (word_is i within) (hint_is i within) (dirty_is which i within)
    where
      few : (dirty : Bool) → cond dirty 3 1 ≤ 3
      few true = omega arith
      few false = omega arith

      odd : (dirty : Bool) (origin : ℕ) → (origin * 2 ^ 16 + cond dirty 3 1) % 2 ≡ 1
      odd true origin = omega arith
      odd false origin = omega arith

  -- and the entries that are read are those that were laid
  pub entries_are : (version ≡ 1) ⊎ (version ≡ 2) → map entry_at (filter is_valid (range_with_len 0 (length (mapping_words m version)))) ≡ m.entries
  unfolding mapping_words entry_of
  entries_are which =
      let number = length-map-range_with_len (λ i. mapping_word version (entry_of m i)) 0 m.blocks in
      rw number (entries_back is_valid entry_at m.blocks m.hint_size 0 m.blocks [] m.entries (omega arith) lawful.entries (λ i low high. read_as which i high))

  -- no two of them have one origin
  pub origins_differ : (version ≡ 1) ⊎ (version ≡ 2) → has_repeat (map origin_of_word (filter is_valid_word (mapping_words m version))) ≡ false
  origins_differ which =
      let words = mapping_words m version in
      let at = λ (i : ℕ). get_or words i 0 in
      let n = length words in
      let same : words ≡ map at (range_with_len 0 n) = fill_by_all at words n 0 refl (λ k h. refl) in
      let origin = λ (e : CacheEntry). e.origin in
      let kept = filter is_valid (range_with_len 0 n) in
      let origins : map origin_of_word (filter is_valid_word words) ≡ map origin m.entries =
      ap (λ (words : List ℕ). map origin_of_word (filter is_valid_word words)) same
      ∙ (ap (map origin_of_word) (filter_made is_valid_word at (range_with_len 0 n))
      ∙ (map-map origin_of_word at kept ∙ (sym (map-map origin entry_at kept) ∙ ap (map origin) (entries_are which)))) in
      rw origins (no_repeat m.blocks m.hint_size 0 [] m.entries lawful.entries)
