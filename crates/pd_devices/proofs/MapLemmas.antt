-- What is counted where leaves are shared, and the map that stores it.
use Rattle.std.proofs.Common.{◌≡◌, ◌≢◌, ◌⊎◌, inl, inr, ℕ, ◌+◌, ◌-◌, ◌<◌, ◌≤◌, eqb, not, List, ◌++◌, length, refl, sym, ◌∙◌, ap, arith}
use Rattle.std.specs.List.{count_by, range_with_len}
use Rattle.std.proofs.Math.Path.{fun_ext}
use Rattle.std.proofs.lemmas.Bool.{cases_eq, cases_lt, lt-ltb, le-ltb, le-leb, lt-leb}
use Rattle.pd_kinds.specs.Node.{Entry}
use Rattle.pd_kinds.specs.Layout.{plain_tree}
use Rattle.pd_kinds.specs.declared.superblocks.SmRoot.{SmRoot}
use Rattle.pd_grammar.specs.Need.{need_tree}
use Rattle.pd_laid.specs.Laid.{count_in, tree_of, tree_root, meta_counts, meta_map_number, meta_overflow, meta_overflow_at, meta_overflow_blocks, meta_overflow_root, overflow_items}
use Rattle.pd_laid.proofs.NeedLemmas.{length-tree}
use Rattle.pd_count.specs.Counted.{Counted, count_of, HasCounted}
use Rattle.pd_smwrite.specs.Map.{allocated_of, meta_map_need, meta_map_root, CountsOwn, HasNone}
use Rattle.pd_smwrite.proofs.MapLemmas.{root_is}
use Rattle.pd_smwrite.proofs.OverflowLemmas.{overflow_agrees}
use Rattle.pd_smwrite.proofs.OwnLemmas.{own_agrees}
use Rattle.pd_laws_laid.specs.Once.{ones_below}
use Rattle.pd_laws_laid.specs.Shared.{named_times}

-- a leaf is named as often as it is used, and each other block below the end once
pub named_leaf : (uses : ℕ → ℕ) (leaves end b : ℕ) → 1 ≤ b → b ≤ leaves → named_times uses leaves end b ≡ uses (b - 1)
unfolding named_times
named_leaf uses leaves end b from within = rw (le-leb 1 b from, le-leb b leaves within) refl

other_named : (uses : ℕ → ℕ) (leaves end b : ℕ) → (b ≡ 0) ⊎ (leaves < b) → named_times uses leaves end b ≡ ones_below end b
unfolding named_times
other_named uses leaves end b outside = elim outside [
  | inl none ↦ rw (lt-leb 1 b (omega (arith, none))) refl
  | inr above ↦ rw (le-leb 1 b (omega (arith, above)), lt-leb b leaves above) refl
]

one_below : (end b : ℕ) → b < end → ones_below end b ≡ 1
unfolding ones_below
one_below end b below = rw (lt-ltb b end below) refl

none_from : (end b : ℕ) → end ≤ b → ones_below end b ≡ 0
unfolding ones_below
none_from end b above = rw (le-ltb b end above) refl

pub named_once : (uses : ℕ → ℕ) (leaves end b : ℕ) → (b ≡ 0) ⊎ (leaves < b) → b < end → named_times uses leaves end b ≡ 1
named_once uses leaves end b outside below = other_named uses leaves end b outside ∙ one_below end b below

pub named_past : (uses : ℕ → ℕ) (leaves end b : ℕ) → leaves < end → end ≤ b → named_times uses leaves end b ≡ 0
named_past uses leaves end b few past = other_named uses leaves end b (inr (omega arith)) ∙ none_from end b past

-- the next block was counted so often
pub below_more : (old new : Counted) (times : ℕ → ℕ) (b : ℕ) → count_of new b ≡ times b → ((c : ℕ) → c ≢ b → count_of new c ≡ count_of old c)
    → ((c : ℕ) → c < b → count_of old c ≡ times c) → (c : ℕ) → c < b + 1 → count_of new c ≡ times c
below_more old new times b is others below c within = elim (cases_eq c b) [
  | inl same ↦ ap (count_of new) same ∙ (is ∙ ap times (sym same))
  | inr other ↦ others c other ∙ below c (omega (arith, within, other))
]

pub past_more : (old new : Counted) (b : ℕ) → ((c : ℕ) → c ≢ b → count_of new c ≡ count_of old c) → ((c : ℕ) → b ≤ c → count_of old c ≡ 0)
    → (c : ℕ) → b + 1 ≤ c → count_of new c ≡ 0
past_more old new b others none c past = others c (λ same. omega (arith, same, past)) ∙ none c (omega (arith, past))

pub counted_all : (counts : Counted) (uses : ℕ → ℕ) (leaves end : ℕ) → leaves < end → ((b : ℕ) → b < end → count_of counts b ≡ named_times uses leaves end b)
    → ((b : ℕ) → end ≤ b → count_of counts b ≡ 0) → (b : ℕ) → count_of counts b ≡ named_times uses leaves end b
counted_all counts uses leaves end few below past b = elim (cases_lt b end) [
  | inl within ↦ below b within
  | inr from ↦ past b from ∙ sym (named_past uses leaves end b few from)
]

-- what was counted, for the map
module _ (counts : Counted) (uses : ℕ → ℕ) (leaves end place room : ℕ) (at : end ≡ place) (size : counts.size ≡ room)
    (counted : (b : ℕ) → count_of counts b ≡ named_times uses leaves end b) where
  counted_at : (b : ℕ) → count_of counts b ≡ named_times uses leaves place b
  counted_at b = counted b ∙ ap (λ (e : ℕ). named_times uses leaves e b) at

  pub none_own : leaves < place → (number : ℕ) → HasNone counts place number
  none_own few number b from below = counted_at b ∙ named_past uses leaves place b few from

  pub counted_listed : (named : List ℕ) → ((b : ℕ) → count_in named b ≡ named_times uses leaves place b) → HasCounted counts named
  counted_listed named is b = counted_at b ∙ sym (is b)

-- the root of the map that is laid
abbrev pub root_laid : ℕ → ℕ → ℕ → List ℕ → SmRoot
root_laid role n place named = record {
  blocks = n;
  allocated = count_by (λ b. not (eqb (meta_counts role n place named b) 0)) (range_with_len 0 n);
  bitmap_root = place;
  overflow_root = meta_overflow_root n place named;
}

-- the counts and the root that the map stores
module _ (role n place : ℕ) (named : List ℕ) (old new : Counted) (own : CountsOwn place (meta_map_need (count_of old) n) old new)
    (none : HasNone old place (meta_map_need (count_of old) n)) (listed : HasCounted old named) where
  over_is : meta_overflow n named ≡ overflow_items (count_of old) n
  over_is = ap (λ (f : ℕ → ℕ). overflow_items f n) (sym (fun_ext listed))

  number_is : meta_map_number role n place named ≡ meta_map_need (count_of old) n
  unfolding meta_overflow_blocks meta_map_need
  number_is =
      let over = length-tree (role + 2) (tree_of (plain_tree 4)) (meta_overflow_at n place) (meta_overflow n named) in
      let items = ap (λ (entries : List Entry). need_tree 4 (length entries)) over_is in
      omega (arith, over, items)

  counts_are : meta_counts role n place named ≡ count_of new
  unfolding meta_counts
  counts_are = fun_ext (λ b. ap (λ (k : ℕ). count_in (named ++ range_with_len place k) b) number_is ∙ sym (own.listed named listed b))

  over_same : overflow_items (count_of new) n ≡ overflow_items (count_of old) n
  over_same = overflow_agrees (count_of new) (count_of old) n (λ b within. own_agrees place (meta_map_need (count_of old) n) own none b)

  pub stored_root : meta_map_root (count_of new) n place ≡ root_laid role n place named
  unfolding allocated_of
  stored_root =
      root_is refl (ap (λ (f : ℕ → ℕ). count_by (λ b. not (eqb (f b) 0)) (range_with_len 0 n)) (sym counts_are)) refl
      (ap (λ (items : List Entry). tree_root 4 (meta_overflow_at n place) items) (over_same ∙ sym over_is))

pub root_stored : (role room place : ℕ) (named : List ℕ) (old new : Counted) → old.size ≡ room → CountsOwn place (meta_map_need (count_of old) old.size) old new
    → HasNone old place (meta_map_need (count_of old) old.size) → HasCounted old named → meta_map_root (count_of new) old.size place ≡ root_laid role room place named
root_stored role room place named old new size own none listed =
    stored_root role old.size place named old new own none listed ∙ ap (λ (n : ℕ). root_laid role n place named) size
