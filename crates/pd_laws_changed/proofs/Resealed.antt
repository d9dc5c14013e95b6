-- A cache's format sees the same in a block of an array that was sealed again with its old header, in whatever role it is looked at.
use Rattle.std.proofs.Common.{◌≡◌, inl, inr, ℕ, zero, suc, ◌+◌, ◌-◌, ◌*◌, ◌^◌, ◌<◌, ◌≤◌, Bool, true, not, ◌&&◌, ◌||◌, nat_eq, nat_lt, cond, List, length, get_or, map, refl, sym, ap, ◌∙◌, arith}
use Rattle.std.specs.List.{list_all, range_with_len, list_any}
use Rattle.std.proofs.lemmas.Bool.{and_parts, cases_Bool, cond_both, eqb-false, eqb-true, ltb-false, not-false, or_parts}
use Rattle.std.proofs.lemmas.List.{get_or-map, length-map}
use Rattle.std.proofs.lemmas.List.FromFn.{get_or-map-range_with_len, length-map-range_with_len}
use Rattle.std.proofs.lemmas.Simd.{map-map}
use Rattle.pd_kinds.specs.Array.{array_entries, array_max, array_salt, array_value_size, is_array_shape_bad, max_words, word_at, word_count, array_bad, array_tests}
use Rattle.pd_kinds.specs.Field.{has_checksum, sealed, le}
use Rattle.pd_kinds.specs.CacheFormat.{has_dirty_bits, cache_fields, cache_graph, cache_layout, cache_super_bad}
use Rattle.pd_kinds.specs.Node.{puts, node_salt}
use Rattle.pd_kinds.specs.Trees.{block_words}
use Rattle.pd_kinds.specs.Whole.{is_dirty_word, is_valid_word}
use Rattle.pd_kinds.proofs.FieldLemmas.{le-lt, length-put, le-puts, le-puts_other, length-puts}
use Rattle.pd_kinds.proofs.WrittenLemmas.{le-sealed_other}
use Rattle.pd_kinds.specs.declared.kind.Kind.TheVariants.{Cache}
use Rattle.pd_kinds.specs.declared.rule.Rule.{Rule}
use Rattle.pd_kinds.specs.Bitmap.{bitmap_bad, bitmap_salt, index_bad, index_salt}
use Rattle.pd_kinds.specs.Graph.{Edge}
use Rattle.pd_kinds.specs.Layout.{Layout, Tree, copy, tree, bitmap, index, array, graph_of, is_bad, layout_bad, tree_bad}
use Rattle.pd_kinds.specs.Rule.{all_rules, same_rule, alone}
use Rattle.pd_kinds.specs.Super.{salt_of}
use Rattle.pd_kinds.proofs.SoundLemmas.{some_broken}
use Rattle.pd_kinds.specs.declared.rule.Rule.TheVariants as r
use Rattle.pd_answers.specs.Writebacks.{long_words, settled_block, settled_word}
use Rattle.pd_laws_laid.proofs.Bytes.{AreBytes, bytes_puts, valid_sealed, bytes_put}
use Rattle.pd_laws_changed.proofs.ViewLemmas.{range_same}
use Rattle.pd_laws_changed.proofs.Seen.{IsSameIn, other_salt}

-- A block of an array of words of eight bytes, once nothing is dirty: its header is as it was, each word is settled, and it is sealed.

-- the other block has the same header, and a checksum that holds, as the first one had
pub record IsResealed (block other : List ℕ) : Type 0 where
  pub had : has_checksum block array_salt ≡ true
  pub has : has_checksum other array_salt ≡ true
  pub header : (p n : ℕ) → 4 ≤ p → p + n ≤ 24 → le other p n ≡ le block p n

-- so it has as many words, of whatever size
pub same_shape : (block other : List ℕ) (size : ℕ) → IsResealed block other → is_array_shape_bad size other ≡ is_array_shape_bad size block
unfolding is_array_shape_bad
same_shape block other size is = rw (is.header 4 4 (omega arith) (omega arith), is.header 8 4 (omega arith) (omega arith), is.header 12 4 (omega arith) (omega arith)) refl

pub same_count : (block other : List ℕ) (size : ℕ) → IsResealed block other → word_count size other ≡ word_count size block
unfolding word_count
same_count block other size is = rw (same_shape block other size is, is.header 8 4 (omega arith) (omega arith)) refl

-- a word isn't made greater
settled_below : (version word limit : ℕ) → word < limit → settled_word version word < limit
settled_below version word limit below =
    cond_both (has_dirty_bits version) 0 (cond (is_valid_word word && is_dirty_word word) (word - 2) word) (λ w. w < limit)
    (λ _. omega arith)
    (λ _. cond_both (is_valid_word word && is_dirty_word word) (word - 2) word (λ w. w < limit) (λ _. omega arith) (λ _. below))

-- a test that all words pass, at one of them
all_words : (test : ℕ → Bool) (f : ℕ → ℕ) (a n i : ℕ) → list_all test (map f (range_with_len a n)) ≡ true → a ≤ i → i < a + n → test (f i) ≡ true
all_words test f a zero i all from below = absurd (omega arith)
all_words test f a (suc n) i all from below =
    let parts = and_parts (test (f a)) (list_all test (map f (range_with_len (a + 1) n))) all in
    elim (cases_Bool (nat_eq a i)) [
      | inl first ↦ rw (← eqb-true a i first) parts.0
      | inr other ↦ let apart = eqb-false a i other in all_words test f (a + 1) n i parts.1 (omega arith) (omega arith)
    ]

-- what is known of the settled block
pub record IsSettledBlock (version : ℕ) (block other : List ℕ) : Type 0 where
  pub resealed : IsResealed block other
  pub words : (i : ℕ) → i < word_count 8 block → word_at 8 other i ≡ settled_word version (word_at 8 block i)

module _ (version : ℕ) (block : List ℕ) (size : length block ≡ 4096) (bytes : AreBytes block) where
  -- the words fit
  few : word_count 8 block ≤ 509
  unfolding word_count is_array_shape_bad
  few =
      cond_both (is_array_shape_bad 8 block) 0 (array_entries block) (λ n. n ≤ 509) (λ _. omega arith)
      (λ sound.
      let parts = or_parts (not (nat_eq (array_value_size block) 8)) (not (nat_eq (array_max block) (max_words 8)) || nat_lt (array_max block) (array_entries block)) sound in
      let more = or_parts (not (nat_eq (array_max block) (max_words 8))) (nat_lt (array_max block) (array_entries block)) parts.1 in
      let most = eqb-true (array_max block) 509 (not-false (nat_eq (array_max block) (max_words 8)) more.0) in
      let entries = ltb-false (array_max block) (array_entries block) more.1 in
      omega arith)

  abbrev new_words : List ℕ
  new_words = map (settled_word version) (long_words block)

  number : length new_words ≡ word_count 8 block
  number = length-map (long_words block) (settled_word version) ∙ length-map-range_with_len (word_at 8 block) 0 (word_count 8 block)

  word_there : (i : ℕ) → i < word_count 8 block → get_or new_words i 0 ≡ settled_word version (word_at 8 block i)
  word_there i within =
      let count = length-map-range_with_len (word_at 8 block) 0 (word_count 8 block) in
      get_or-map (settled_word version) (long_words block) i 0 0 (omega arith)
      ∙ ap (settled_word version) (get_or-map-range_with_len (word_at 8 block) 0 (word_count 8 block) i i 0 within (omega arith))

  abbrev written : List ℕ
  written = puts block 24 8 new_words

  word_read : (i : ℕ) → i < word_count 8 block → word_at 8 (sealed written array_salt) i ≡ settled_word version (word_at 8 block i)
  word_read i within =
      let many = few in
      let count = number in
      let there = word_there i within in
      let fits = settled_below version (word_at 8 block i) (256 ^ 8) (le-lt block (24 + 8 * i) 8 bytes.at) in
      le-sealed_other written array_salt (24 + 8 * i) 8 (omega arith)
      ∙ (le-puts block 24 8 new_words i (omega arith) (omega arith) (rw there fits) ∙ there)

  word_kept : list_all (λ word. nat_eq (settled_word version word) word) (long_words block) ≡ true → (i : ℕ) → i < word_count 8 block
      → word_at 8 block i ≡ settled_word version (word_at 8 block i)
  word_kept all i within = sym (eqb-true (settled_word version (word_at 8 block i)) (word_at 8 block i)
      (all_words (λ word. nat_eq (settled_word version word) word) (word_at 8 block) 0 (word_count 8 block) i all (omega arith) (omega arith)))

  pub settled_words : (i : ℕ) → i < word_count 8 block → word_at 8 (settled_block version block) i ≡ settled_word version (word_at 8 block i)
  unfolding settled_block
  settled_words i within =
      cond_both (list_all (λ word. nat_eq (settled_word version word) word) (long_words block)) block (sealed written array_salt)
      (λ other. word_at 8 other i ≡ settled_word version (word_at 8 block i))
      (λ all. word_kept all i within) (λ _. word_read i within)

  -- and it has a checksum that holds
  module _ (has : has_checksum block array_salt ≡ true) where
    changed : IsResealed block (sealed written array_salt)
    changed = record {
      had = has;
      has = valid_sealed written array_salt (rw (length-puts block 24 8 new_words, size) (omega arith)) (omega arith) (bytes_puts block 24 8 new_words bytes);
      header = λ p n behind before. le-sealed_other written array_salt p n behind ∙ le-puts_other block 24 8 new_words p n (inl before);
    }

    settled_resealed : IsResealed block (settled_block version block)
    unfolding settled_block
    settled_resealed =
        cond_both (list_all (λ word. nat_eq (settled_word version word) word) (long_words block)) block (sealed written array_salt) (IsResealed block)
        (λ _. record { had = has; has = has; header = λ p n behind before. refl }) (λ _. changed)

    pub settled_is : IsSettledBlock version block (settled_block version block)
    settled_is = record { resealed = settled_resealed; words = settled_words }

-- it has the size of a block, and bytes
pub settled_size : (version : ℕ) (block : List ℕ) → length (settled_block version block) ≡ length block
unfolding settled_block sealed
settled_size version block =
    cond_both (list_all (λ word. nat_eq (settled_word version word) word) (long_words block)) block (sealed (puts block 24 8 (map (settled_word version) (long_words block))) array_salt)
    (λ (other : List ℕ). length other ≡ length block)
    (λ _. refl)
    (λ _. length-put (puts block 24 8 (map (settled_word version) (long_words block))) 0 4 _ ∙ length-puts block 24 8 (map (settled_word version) (long_words block)))

pub settled_bytes : (version : ℕ) (block : List ℕ) → AreBytes block → AreBytes (settled_block version block)
unfolding settled_block sealed
settled_bytes version block bytes =
    cond_both (list_all (λ word. nat_eq (settled_word version word) word) (long_words block)) block (sealed (puts block 24 8 (map (settled_word version) (long_words block))) array_salt)
    AreBytes
    (λ _. bytes)
    (λ _. bytes_put (puts block 24 8 (map (settled_word version) (long_words block))) 0 4 _ (bytes_puts block 24 8 (map (settled_word version) (long_words block)) bytes))

-- its words are the settled ones
pub words_settled : (version : ℕ) (block other : List ℕ) → IsSettledBlock version block other → block_words 8 other ≡ map (settled_word version) (block_words 8 block)
unfolding block_words
words_settled version block other is =
    rw (same_count block other 8 is.resealed)
    (range_same (word_at 8 other) (λ i. settled_word version (word_at 8 block i)) 0 (word_count 8 block) (λ i below. is.words i (omega arith))
    ∙ sym (map-map (settled_word version) (word_at 8 block) (range_with_len 0 (word_count 8 block))))

-- with this layout a block with the checksum of an array breaks the rule on checksums, and no other
pub record BreaksChecksum (nr role : ℕ) (layout : Layout) : Type 0 where
  pub alone : (place : ℕ) (block : List ℕ) (broken : Rule) → has_checksum block array_salt ≡ true → layout_bad nr role layout place block broken ≡ same_rule r.Checksum broken

copy_breaks : (nr role blocks : ℕ) (edges : List ℕ → List Edge) → BreaksChecksum nr role (copy (λ place block. cache_super_bad blocks block) edges)
unfolding cache_super_bad alone
copy_breaks nr role blocks edges = record { alone = λ place block broken has. rw (other_salt block array_salt (salt_of Cache) (λ same. omega arith) has) refl }

pub tree_breaks : (nr role : ℕ) (t : Tree) → BreaksChecksum nr role (tree t)
unfolding tree_bad alone
tree_breaks nr role t = record { alone = λ place block broken has. rw (other_salt block array_salt node_salt (λ same. omega arith) has) refl }

pub bitmap_breaks : (nr role : ℕ) → BreaksChecksum nr role bitmap
unfolding bitmap_bad alone
bitmap_breaks nr role = record { alone = λ place block broken has. rw (other_salt block array_salt bitmap_salt (λ same. omega arith) has) refl }

pub index_breaks : (nr role target : ℕ) → BreaksChecksum nr role (index target)
unfolding index_bad alone
index_breaks nr role target = record { alone = λ place block broken has. rw (other_salt block array_salt index_salt (λ same. omega arith) has) refl }

-- a role is that of an array's blocks, or such blocks break it
pub data IsRoleOf (nr role : ℕ) (layout : Layout) : Type 0 where
  of_array : (size : ℕ) → layout ≡ array size → IsRoleOf nr role layout
  of_other : BreaksChecksum nr role layout → IsRoleOf nr role layout

pub role_of_cache : (nr role : ℕ) → IsRoleOf nr role (cache_layout nr role)
unfolding cache_layout
role_of_cache nr zero = of_other (copy_breaks nr 0 nr _)
role_of_cache nr (suc zero) = of_other (tree_breaks nr 1 _)
role_of_cache nr (suc (suc zero)) = of_array 8 refl
role_of_cache nr (suc (suc (suc zero))) = of_other (tree_breaks nr 3 _)
role_of_cache nr (suc (suc (suc (suc zero)))) = of_array 4 refl
role_of_cache nr (suc (suc (suc (suc (suc zero))))) = of_other (tree_breaks nr 5 _)
role_of_cache nr (suc (suc (suc (suc (suc (suc zero)))))) = of_array 8 refl
role_of_cache nr (suc (suc (suc (suc (suc (suc (suc zero))))))) = of_other (index_breaks nr 7 8)
role_of_cache nr (suc (suc (suc (suc (suc (suc (suc (suc zero)))))))) = of_other (bitmap_breaks nr 8)
role_of_cache nr (suc (suc (suc (suc (suc (suc (suc (suc (suc zero))))))))) = of_other (tree_breaks nr 9 _)
role_of_cache nr (suc (suc (suc (suc (suc (suc (suc (suc (suc (suc zero)))))))))) = of_other (tree_breaks nr 10 _)
role_of_cache nr (suc (suc (suc (suc (suc (suc (suc (suc (suc (suc (suc zero))))))))))) = of_array 8 refl
role_of_cache nr (suc (suc (suc (suc (suc (suc (suc (suc (suc (suc (suc (suc role)))))))))))) = of_other (bitmap_breaks nr _)

module _ (roles nr data_blocks : ℕ) (table : ℕ → Layout) (role place : ℕ) (block other : List ℕ) (is : IsResealed block other) where
  broken_in : (b : List ℕ) → BreaksChecksum nr role (table role) → has_checksum b array_salt ≡ true → is_bad nr role (table role) place b ≡ true
  unfolding is_bad
  broken_in b breaks has = some_broken _ r.Checksum (breaks.alone place b r.Checksum has)

  same_broken : BreaksChecksum nr role (table role) → IsSameIn (graph_of roles nr data_blocks table) role place block other
  unfolding graph_of
  same_broken breaks =
      let first = broken_in block breaks is.had in
      let second = broken_in other breaks is.has in
      record {
        bad = λ broken. breaks.alone place other broken is.has ∙ sym (breaks.alone place block broken is.had);
        is_inner = rw (first, second) refl;
        edges = rw (first, second) refl;
        keys = rw (first, second) refl;
        data_refs = rw (first, second) refl;
      }

  same_array_bad : (size : ℕ) (broken : Rule) → array_bad size place other broken ≡ array_bad size place block broken
  unfolding array_bad array_tests
  same_array_bad size broken = rw (is.had, is.has, same_shape block other size is, is.header 16 8 (omega arith) (omega arith)) refl

  same_array : (size : ℕ) → table role ≡ array size → IsSameIn (graph_of roles nr data_blocks table) role place block other
  unfolding graph_of is_bad
  same_array size at =
      let any : list_any (array_bad size place other) all_rules ≡ list_any (array_bad size place block) all_rules = λ i. list_any (λ broken. same_array_bad size broken i) all_rules in
      record {
        bad = λ broken. rw at (same_array_bad size broken);
        is_inner = rw at refl;
        edges = rw (at, any) refl;
        keys = rw (at, any) refl;
        data_refs = rw (at, any) refl;
      }

  pub same_in : IsRoleOf nr role (table role) → IsSameIn (graph_of roles nr data_blocks table) role place block other
  same_in which = elim which [
    | of_array size at ↦ same_array size at
    | of_other breaks ↦ same_broken breaks
  ]

-- so it is for a cache's format
pub resealed_same : (super : List ℕ) (role place : ℕ) (block other : List ℕ) → IsResealed block other → IsSameIn (cache_graph super) role place block other
unfolding cache_graph
resealed_same super role place block other is =
    let nr = (cache_fields super).meta_map.blocks in
    same_in 12 nr 0 (cache_layout nr) role place block other is (role_of_cache nr role)
