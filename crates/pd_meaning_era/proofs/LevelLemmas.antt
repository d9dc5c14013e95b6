-- The words of a level's blocks, and the number of the next word.
use Rattle.std.proofs.Common.{◌≡◌, inl, inr, ℕ, zero, suc, ◌+◌, ◌-◌, ◌*◌, ◌≤◌, ◌<◌, true, false, List, [], ◌∷◌, ◌++◌, map, length, length-append, refl, sym, ap, ◌∙◌, arith, ◌/◌, ◌%◌, Bool, not, ◌&&◌, ◌||◌, nat_eq, nat_lt, get_or}
use Rattle.std.specs.List.{flat_map, range_with_len}
use Rattle.std.proofs.lemmas.List.{append-nil, get_or_past, get_or_append_left, get_or-append_right}
use Rattle.std.proofs.lemmas.Grind.{flat_map-append}
use Rattle.std.proofs.lemmas.Simd.{map-map}
use Rattle.std.specs.Int.{bit_at}
use Rattle.std.proofs.lemmas.Bool.{cases_lt, lt-ltb, le-ltb, ltb-true}
use Rattle.std.proofs.lemmas.Nat.Bits.{bit_at-zero}
use Rattle.pd_kinds.specs.Graph.{block_at}
use Rattle.pd_kinds.specs.Node.{entry_count, is_inner_node, key_at, value_at}
use Rattle.pd_value.specs.declared.thin.Root.{Root}
use Rattle.pd_array.specs.declared.array.Word.TheVariants.{Eight}
use Rattle.pd_tree.specs.Below.{each_below, items_below, items_from, kids_from}
use Rattle.pd_tree.specs.Cursor.{root_of, words_from, words_of_items}
use Rattle.pd_tree.proofs.StackLemmas.{each_none, items_below_is, items_inner, kids_leaf}
use Rattle.pd_tree.proofs.NextLemmas.{items_outside, words_outside}
use Rattle.pd_meaning_era.specs.Notes.{IsAfter, arrays_of, words_at, words_at_each}
use Rattle.pd_meaning_era.specs.Eras.{holds, holds_from}

module _ (image : List (List ℕ)) where
  -- those of one block more
  pub each_none_at : (level : ℕ) → words_at_each image level [] ≡ []
  unfolding words_at_each
  each_none_at level = refl

  pub each_more : (level : ℕ) (bs : List ℕ) (b : ℕ) → words_at_each image level (bs ++ b ∷ []) ≡ words_at_each image level bs ++ words_at image level b
  unfolding words_at_each
  each_more level bs b = flat_map-append (words_at image level) bs (b ∷ []) ∙ ap (λ (ws : List ℕ). flat_map (words_at image level) bs ++ ws) (append-nil (words_at image level b))

  -- on a level
  pub words_at_zero : (b : ℕ) → words_at image 0 b ≡ words_from 8 (block_at image b) 0
  unfolding words_at
  words_at_zero b = refl

  pub words_at_suc : (level j b : ℕ) → level ≡ suc j → words_at image level b ≡ words_of_items 8 image (items_below 8 root_of image j b)
  unfolding words_at
  words_at_suc level j b is = rw is refl

  -- a block outside of the device has none
  pub level_outside : (level b : ℕ) → length image ≤ b → words_at image level b ≡ []
  unfolding words_at words_of_items
  level_outside zero b outside = words_outside Eight image b outside
  level_outside (suc j) b outside = rw (items_outside 8 root_of image j b outside) refl

  -- a leaf stands above the array blocks that it names
  words_of_arrays : (items : List (ℕ × Root)) → words_of_items 8 image items ≡ words_at_each image 0 (map (λ (item : ℕ × Root). item.1.0) items)
  unfolding words_of_items words_at_each words_at
  words_of_arrays [] = refl
  words_of_arrays (item ∷ items) = ap (λ (ws : List ℕ). words_from 8 (block_at image item.1.0) 0 ++ ws) (words_of_arrays items)

  leaf_items : (j b : ℕ) → is_inner_node (block_at image b) ≡ false → items_below 8 root_of image j b ≡ items_from 8 root_of (block_at image b) 0
  leaf_items j b leaf =
      rw (items_below_is 8 root_of image j b, kids_leaf 8 (block_at image b) 0 leaf, each_none (items_below 8 root_of image) j) (append-nil (items_from 8 root_of (block_at image b) 0))

  pub above_arrays : (level b : ℕ) (block : List ℕ) → 0 < level → block_at image b ≡ block → is_inner_node block ≡ false → words_at image level b ≡ words_at_each image 0 (arrays_of block)
  above_arrays zero b block some is leaf = absurd (omega arith)
  above_arrays (suc j) b block some is leaf =
      let here : is_inner_node (block_at image b) ≡ false = ap is_inner_node is ∙ leaf in
      words_at_suc (suc j) j b refl
      ∙ (ap (words_of_items 8 image) (leaf_items j b here)
      ∙ (words_of_arrays (items_from 8 root_of (block_at image b) 0) ∙ ap (λ (block : List ℕ). words_at_each image 0 (arrays_of block)) is))

  -- an inner node stands above its children
  words_append : (xs ys : List (ℕ × Root)) → words_of_items 8 image (xs ++ ys) ≡ words_of_items 8 image xs ++ words_of_items 8 image ys
  unfolding words_of_items
  words_append xs ys = flat_map-append (λ (item : ℕ × Root). words_from 8 (block_at image item.1.0) 0) xs ys

  no_words : words_of_items 8 image [] ≡ []
  unfolding words_of_items
  no_words = refl

  words_of_kids : (i : ℕ) (bs : List ℕ) → words_of_items 8 image (flat_map (items_below 8 root_of image i) bs) ≡ words_at_each image (suc i) bs
  unfolding words_at_each words_at
  words_of_kids i [] = no_words
  words_of_kids i (b ∷ bs) =
      words_append (items_below 8 root_of image i b) (flat_map (items_below 8 root_of image i) bs)
      ∙ ap (λ (ws : List ℕ). words_of_items 8 image (items_below 8 root_of image i b) ++ ws) (words_of_kids i bs)

  inner_items : (j b : ℕ) → is_inner_node (block_at image b) ≡ true → items_below 8 root_of image j b ≡ each_below (items_below 8 root_of image) j (kids_from 8 (block_at image b) 0)
  inner_items j b inner = rw (items_below_is 8 root_of image j b, items_inner 8 root_of (block_at image b) 0 inner) refl

  pub above_none : (level b : ℕ) (block : List ℕ) → level ≡ 1 → block_at image b ≡ block → is_inner_node block ≡ true → words_at image level b ≡ words_at_each image 0 []
  unfolding each_below
  above_none level b block last is inner =
      let here : is_inner_node (block_at image b) ≡ true = ap is_inner_node is ∙ inner in
      words_at_suc level 0 b last ∙ (ap (words_of_items 8 image) (inner_items 0 b here) ∙ (no_words ∙ sym (each_none_at 0)))

  pub above_kids : (level lower b : ℕ) (block : List ℕ) → level ≡ suc lower → 0 < lower → block_at image b ≡ block → is_inner_node block ≡ true → words_at image level b ≡ words_at_each image lower (kids_from 8 block 0)
  unfolding each_below
  above_kids level zero b block above some is inner = absurd (omega arith)
  above_kids level (suc i) b block above some is inner =
      let here : is_inner_node (block_at image b) ≡ true = ap is_inner_node is ∙ inner in
      words_at_suc level (suc i) b above
      ∙ (ap (words_of_items 8 image) (inner_items (suc i) b here)
      ∙ (words_of_kids i (kids_from 8 (block_at image b) 0) ∙ ap (λ (block : List ℕ). words_at_each image (suc i) (kids_from 8 block 0)) is))

-- the word after some, and then the one after others
pub after_then : (end at mid next : ℕ) (xs ys : List ℕ) → IsAfter end at xs mid → IsAfter end mid ys next → IsAfter end at (xs ++ ys) next
after_then end at mid next xs ys first second =
    let both = length-append xs ys in
    let a = first.least in
    let b = second.least in
    let c = first.most in
    let d = second.most in
    record {
      least = omega arith;
      most = omega arith;
      all = elim first.all [
        | inl here ↦ elim second.all [
          | inl there ↦ inl (omega arith)
          | inr past ↦ inr past
        ]
        | inr past ↦ inr (omega arith)
      ];
    }

pub after_none : (end at : ℕ) → IsAfter end at [] at
after_none end at = record { least = omega arith; most = omega arith; all = inl (omega arith) }

pub after_past : (end at : ℕ) (words : List ℕ) → end ≤ 64 * at → IsAfter end at words at
after_past end at words past = record { least = omega arith; most = omega arith; all = inr past }

pub after_all : (end at : ℕ) (words : List ℕ) (next : ℕ) → next ≡ at + length words → IsAfter end at words next
after_all end at words next is = record { least = omega arith; most = omega arith; all = inl is }

-- the word after is so up to an earlier end
pub after_earlier : (end later at : ℕ) (words : List ℕ) (next : ℕ) → end ≤ later → IsAfter later at words next → IsAfter end at words next
after_earlier end later at words next less after = record {
  least = after.least;
  most = after.most;
  all = elim after.all [ inl is ↦ inl is | inr past ↦ inr (omega arith) ];
}

-- the array blocks that a leaf names, by its entries
pub arrays_named : (leaf : List ℕ) → is_inner_node leaf ≡ false → arrays_of leaf ≡ map (value_at 8 leaf) (range_with_len 0 (entry_count 8 leaf))
unfolding items_from
arrays_named leaf plain =
    let same : entry_count 8 leaf - 0 ≡ entry_count 8 leaf = omega arith in
    rw (plain, same) (map-map (λ (item : ℕ × Root). item.1.0) (λ (i : ℕ). (key_at leaf i, root_of (value_at 8 leaf i))) (range_with_len 0 (entry_count 8 leaf)))

-- Which blocks words hold, the first of which has a number.

-- whether word q of those from one number on has a bit
abbrev has_bit : ℕ → List ℕ → ℕ → ℕ → Bool
has_bit first words q k = not (nat_lt q first) && nat_eq (bit_at (get_or words (q - first) 0) k) 1

or_none : (t : Bool) → t ≡ (t || false)
or_none true = refl
or_none false = refl

bit_append : (first : ℕ) (xs ys : List ℕ) (q k : ℕ) → has_bit first (xs ++ ys) q k ≡ (has_bit first xs q k || has_bit (first + length xs) ys q k)
bit_append first xs ys q k = elim (cases_lt q first) [
  | inl before ↦ rw (lt-ltb q first before, lt-ltb q (first + length xs) (omega arith)) refl
  | inr after ↦ elim (cases_lt q (first + length xs)) [
    | inl within ↦
        let inside : q - first < length xs = omega arith in
        rw (le-ltb q first after, lt-ltb q (first + length xs) within, get_or_append_left xs ys 0 (q - first) inside) (or_none (nat_eq (bit_at (get_or xs (q - first) 0) k) 1))
    | inr past ↦
        let behind : length xs ≤ q - first = omega arith in
        let place : q - first - length xs ≡ q - (first + length xs) = omega arith in
        rw (le-ltb q first after, le-ltb q (first + length xs) past, get_or-append_right xs ys (length xs) (q - first) 0 refl behind, get_or_past xs (q - first) 0 behind, bit_at-zero k, place) refl
  ]
]

spread : (below s t : Bool) → (below && (s || t)) ≡ ((below && s) || (below && t))
spread true s t = refl
spread false s t = refl

pub from_append : (end first : ℕ) (xs ys : List ℕ) (b : ℕ) → holds_from end first (xs ++ ys) b ≡ (holds_from end first xs b || holds_from end (first + length xs) ys b)
from_append end first xs ys b =
    ap (λ (t : Bool). nat_lt b end && t) (bit_append first xs ys (b / 64) (b % 64))
    ∙ spread (nat_lt b end) (has_bit first xs (b / 64) (b % 64)) (has_bit (first + length xs) ys (b / 64) (b % 64))

-- no words hold none
ands_false : (s t : Bool) → (s && (t && false)) ≡ false
ands_false true true = refl
ands_false true false = refl
ands_false false t = refl

pub from_nothing : (end first b : ℕ) → holds_from end first [] b ≡ false
from_nothing end first b = rw (get_or_past {X = ℕ} [] (b / 64 - first) 0 (omega arith), bit_at-zero (b % 64)) (ands_false (nat_lt b end) (not (nat_lt (b / 64) first)))

-- nor do those past the end
pub from_past : (end first : ℕ) (words : List ℕ) (b : ℕ) → end ≤ 64 * first → holds_from end first words b ≡ false
from_past end first words b past = elim (cases_lt b end) [
  | inl below ↦ rw (lt-ltb (b / 64) first (omega arith)) (none (nat_lt b end))
  | inr above ↦ rw (le-ltb b end above) refl
]
  where
    none : (t : Bool) → (t && false) ≡ false
    none true = refl
    none false = refl

-- from the first word on
pub from_first : (end : ℕ) (words : List ℕ) (b : ℕ) → holds_from end 0 words b ≡ holds end words b
from_first end words b = let same : b / 64 - 0 ≡ b / 64 = omega arith in rw (le-ltb (b / 64) 0 (omega arith), same) refl

-- the bits that count, up to their number and to the last block
pub same_end : (bits end number : ℕ) (words : List ℕ) (b : ℕ) → end ≤ bits → (b < bits → b < number → b < end) → b < number → holds end words b ≡ holds bits words b
same_end bits end number words b fewer most inside = elim (cases_lt b bits) [
  | inl below ↦ rw (lt-ltb b bits below, lt-ltb b end (most below inside)) refl
  | inr past ↦ rw (le-ltb b bits past, le-ltb b end (omega arith)) refl
]

-- blocks before an end stand before a later one
fewer : (a b s : Bool) → (a ≡ true → b ≡ true) → (a && s) ≡ true → (b && s) ≡ true
fewer true b s more is = rw (more refl) is
fewer false b s more is = cc

pub from_later : (end later first : ℕ) (words : List ℕ) (b : ℕ) → end ≤ later → holds_from end first words b ≡ true → holds_from later first words b ≡ true
from_later end later first words b less is =
    fewer (nat_lt b end) (nat_lt b later) (has_bit first words (b / 64) (b % 64)) (λ inside. lt-ltb b later (let below = ltb-true b end inside in omega arith)) is

-- where all words stand before an end, their blocks count whatever later end is asked for
pub reaches : (end later first : ℕ) (words : List ℕ) (b : ℕ) → 64 * (first + length words) ≤ end → holds_from later first words b ≡ true → holds_from end first words b ≡ true
reaches end later first words b whole is = elim (cases_lt (b / 64) (first + length words)) [
  | inl inside ↦
      let below : b < end = omega arith in
      fewer (nat_lt b later) (nat_lt b end) (has_bit first words (b / 64) (b % 64)) (λ _. lt-ltb b end below) is
  | inr past ↦
      let none : get_or words (b / 64 - first) 0 ≡ 0 = get_or_past words (b / 64 - first) 0 (omega arith) in
      absurd (never (nat_lt b later) (not (nat_lt (b / 64) first)) (rw (none, bit_at-zero (b % 64)) at is))
]
  where
    never : (s t : Bool) → (s && (t && false)) ≡ true → ⊥
    never true true is = cc
    never true false is = cc
    never false t is = cc
