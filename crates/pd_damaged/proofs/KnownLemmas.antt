-- What is known of a block is right: where nothing is kept, of a leaf, of an inner node by its children, and in a table.
use Rattle.std.proofs.Common.{◌≡◌, inl, inr, ℕ, zero, suc, ◌+◌, ◌^◌, ◌<◌, ◌≤◌, Bool, true, false, ◌||◌, cond, nat_eq, List, map, filter, get_or, Option, Some, None, IfSome, IsSome, refl, sym, ◌∙◌, ap, subst, arith, eq-eqb, below_more}
use Rattle.std.specs.List.{range_with_len}
use Rattle.std.proofs.lemmas.Bool.{both_ways, cases_Bool, cases_eq, le-ltb, lt-ltb, ne_eqb}
use Rattle.pd_kinds.proofs.FieldLemmas.{le-lt}
use Rattle.pd_kinds.specs.Graph.{block_at, is_outside}
use Rattle.pd_kinds.specs.Image.{HasBytes}
use Rattle.pd_kinds.specs.Layout.{node_entries_of}
use Rattle.pd_kinds.specs.Node.{Entry, child_at, entry_count, is_inner_node, key_at, value_at}
use Rattle.pd_laid.specs.Salvage.{child_high, child_low, is_damaged}
use Rattle.pd_damaged.specs.declared.kept.Kept.{Kept}
use Rattle.pd_damaged.specs.declared.known.Known.{Known}
use Rattle.pd_damaged.specs.declared.table.KnownTable.{KnownTable}
use Rattle.pd_damaged.specs.Kept.{is_kept, kept_below, measure_of}
use Rattle.pd_damaged.specs.Known.{AreKnown, AreUnder, KnowsBelow, IsHeightOf, IsKnownOf, IsLow, IsOver, IsUnder, LieInRange, is_lost, joined_kept, kept_at, kept_of, known_at, note_at, nothing_known}
use Rattle.pd_damaged.proofs.BelowLemmas.{kept_inner, kept_leaf, kept_lost, stays_low}
use Rattle.pd_damaged.proofs.KeptLemmas.{all_between, greatest_is, is_between, joined_all, least_is, measure-nil}

or_both : (a b : Bool) → a ≡ false → b ≡ false → (a || b) ≡ false
or_both a b first second = rw (first, second) refl

or_first : (a b : Bool) → a ≡ true → (a || b) ≡ true
or_first a b first = rw first refl

or_second : (a b : Bool) → b ≡ true → (a || b) ≡ true
or_second true b second = refl
or_second false b second = second

-- keys of bytes are below the end of all keys
keys_in : (block : List ℕ) → ((i : ℕ) → get_or block i 0 < 256) → (a n : ℕ)
    → filter (is_between 0 (2 ^ 64)) (map (λ i. record { key = key_at block i; value = value_at 8 block i }) (range_with_len a n))
    ≡ map (λ i. record { key = key_at block i; value = value_at 8 block i }) (range_with_len a n)
keys_in block bytes a zero = refl
keys_in block bytes a (suc n) =
    let below : key_at block a < 2 ^ 64 = le-lt block _ 8 bytes in
    rw (le-ltb (key_at block a) 0 (omega arith), lt-ltb (key_at block a) (2 ^ 64) below, keys_in block bytes (a + 1) n) refl

entries_in : (block : List ℕ) → ((i : ℕ) → get_or block i 0 < 256) → filter (is_between 0 (2 ^ 64)) (node_entries_of 8 block) ≡ node_entries_of 8 block
unfolding node_entries_of
entries_in block bytes = keys_in block bytes 0 (entry_count 8 block)

module _ (nr data_blocks : ℕ) (image : List (List ℕ)) where
  pub nothing_right : (b : ℕ) → is_lost nr image b ≡ true → IsKnownOf nr data_blocks image b nothing_known
  unfolding IsLow
  nothing_right b lost = record {
    low = lost;
    least = λ h low. omega arith;
    few = omega arith;
    kept = sym (ap measure_of (kept_lost nr image data_blocks b lost) ∙ measure-nil);
  }

  pub damaged_right : (b : ℕ) (block : List ℕ) → block_at image b ≡ block → is_damaged 8 b block ≡ true → IsKnownOf nr data_blocks image b nothing_known
  damaged_right b block here damaged =
      nothing_right b (or_second (is_outside nr b) (is_damaged 8 b (block_at image b)) (ap (is_damaged 8 b) here ∙ damaged))

  pub outside_right : (b : ℕ) → is_outside nr b ≡ true → IsKnownOf nr data_blocks image b nothing_known
  outside_right b outside = nothing_right b (or_first (is_outside nr b) (is_damaged 8 b (block_at image b)) outside)

  module _ (b : ℕ) (inside : is_outside nr b ≡ false) where
    sound_here : is_damaged 8 b (block_at image b) ≡ false → is_lost nr image b ≡ false
    sound_here sound = or_both (is_outside nr b) (is_damaged 8 b (block_at image b)) inside sound

    some_nodes : is_lost nr image b ≡ false → (h : ℕ) → IsLow nr image h b → 1 ≤ h
    unfolding IsLow
    some_nodes sound zero lost = absurd (both_ways (is_lost nr image b) sound lost)
    some_nodes sound (suc h) low = omega arith

    leaf_here : (kept : Kept) → HasBytes image → is_damaged 8 b (block_at image b) ≡ false → is_inner_node (block_at image b) ≡ false
        → kept ≡ measure_of (filter (is_kept data_blocks) (node_entries_of 8 (block_at image b))) → IsKnownOf nr data_blocks image b (record { height = 1; kept = kept })
    unfolding IsLow
    leaf_here kept bytes sound leaf is = record {
      low = inr (inl leaf);
      least = some_nodes (sound_here sound);
      few = omega arith;
      kept = is ∙ ap measure_of (sym (kept_leaf nr image data_blocks b (sound_here sound) leaf (entries_in (block_at image b) (bytes b))));
    }

    pub leaf_right : (kept : Kept) (block : List ℕ) → HasBytes image → block_at image b ≡ block → is_damaged 8 b block ≡ false → is_inner_node block ≡ false
        → kept ≡ measure_of (filter (is_kept data_blocks) (node_entries_of 8 block)) → IsKnownOf nr data_blocks image b (record { height = 1; kept = kept })
    leaf_right kept block bytes here =
        let P : List ℕ → Type 0 = λ x. is_damaged 8 b x ≡ false → is_inner_node x ≡ false
        → kept ≡ measure_of (filter (is_kept data_blocks) (node_entries_of 8 x)) → IsKnownOf nr data_blocks image b (record { height = 1; kept = kept }) in
        subst P here (leaf_here kept bytes)

-- a child that is known, and lower than a node
module _ (nr data_blocks : ℕ) (image : List (List ℕ)) (c : ℕ) where
  under_low : (h : ℕ) (o : Option Known) → IfSome o (IsKnownOf nr data_blocks image c) → IsUnder (suc h) o → IsLow nr image h c
  under_low h None right under = absurd under
  under_low h (Some known) right under = stays_low nr image known.height h c (omega arith) right.low

  -- its height is the least that it can have
  under_least : (height h : ℕ) (o : Option Known) → IfSome o (IsKnownOf nr data_blocks image c) → IsUnder height o → IsLow nr image h c → IsUnder (suc h) o
  under_least height h None right under low = absurd under
  under_least height h (Some known) right under low = let least = right.least h low in omega arith

  under_most : (h : ℕ) (o : Option Known) → IfSome o (IsKnownOf nr data_blocks image c) → IsSome o → h < 64 → IsLow nr image h c → IsUnder 64 o
  under_most h None right is few low = absurd (both_ways false refl is)
  under_most h (Some known) right is few low = let least = right.least h low in omega arith

  under_kept : (h : ℕ) (o : Option Known) → IfSome o (IsKnownOf nr data_blocks image c) → IsUnder h o → kept_of o ≡ measure_of (kept_below nr data_blocks image c)
  under_kept h None right under = absurd under
  under_kept h (Some known) right under = right.kept

module _ (table : KnownTable) (image : List (List ℕ)) (are : AreKnown image table) (b : ℕ) (inside : is_outside table.nr b ≡ false) where
  abbrev kept_here : ℕ → List Entry
  kept_here c = kept_below table.nr table.data_blocks image c

  module _ (block : List ℕ) where
    abbrev count : ℕ
    count = entry_count 8 block

    abbrev child : ℕ → ℕ
    child i = child_at block i

    children_low : (h : ℕ) → IsHeightOf table block count (suc h) → (i : ℕ) → i < count → IsLow table.nr image h (child i)
    children_low h heights i within =
        under_low table.nr table.data_blocks image (child i) h (known_at table (child i)) (are.each (child i)) (heights.above i within)

    children_kept : (h : ℕ) → IsHeightOf table block count h → (i : ℕ) → i < count → kept_at table (child i) ≡ measure_of (kept_here (child i))
    children_kept h heights i within =
        under_kept table.nr table.data_blocks image (child i) h (known_at table (child i)) (are.each (child i)) (heights.above i within)

    all_in : (h : ℕ) → IsHeightOf table block count h → LieInRange table block count → (i : ℕ) → i < count
        → filter (is_between (child_low block 0 i) (child_high 8 block (2 ^ 64) i)) (kept_here (child i)) ≡ kept_here (child i)
    all_in h heights lie i within =
        let lies = lie.each i within in
        let is = children_kept h heights i within in
        all_between (child_low block 0 i) (child_high 8 block (2 ^ 64) i) (kept_here (child i))
        (subst (λ n. child_low block 0 i ≤ n) (ap (λ (k : Kept). k.least) is ∙ least_is (kept_here (child i))) lies.low)
        (subst (λ n. n < child_high 8 block (2 ^ 64) i) (ap (λ (k : Kept). k.greatest) is ∙ greatest_is (kept_here (child i))) lies.high)

  at_height : (height : ℕ) → is_inner_node (block_at image b) ≡ true → IsHeightOf table (block_at image b) (entry_count 8 (block_at image b)) height
      → IsLow table.nr image height b
  unfolding IsLow
  at_height zero inner heights = absurd (let some = heights.some in omega arith)
  at_height (suc h) inner heights = inr (inr (children_low (block_at image b) h heights))

  least_height : (height : ℕ) → is_damaged 8 b (block_at image b) ≡ false → is_inner_node (block_at image b) ≡ true
      → IsHeightOf table (block_at image b) (entry_count 8 (block_at image b)) height → (h : ℕ) → IsLow table.nr image h b → height ≤ h
  unfolding IsLow
  least_height height sound inner heights zero lost =
      absurd (both_ways (is_lost table.nr image b) (or_both (is_outside table.nr b) (is_damaged 8 b (block_at image b)) inside sound) lost)
  least_height height sound inner heights (suc h) (inl lost) =
      absurd (both_ways (is_lost table.nr image b) (or_both (is_outside table.nr b) (is_damaged 8 b (block_at image b)) inside sound) lost)
  least_height height sound inner heights (suc h) (inr (inl leaf)) = absurd (both_ways (is_inner_node (block_at image b)) leaf inner)
  least_height height sound inner heights (suc h) (inr (inr each)) =
      heights.least (suc h) (omega arith) (λ i within.
      let c = child_at (block_at image b) i in
      under_least table.nr table.data_blocks image c height h (known_at table c) (are.each c) (heights.above i within) (each i within))

  joined_here : (height : ℕ) → is_damaged 8 b (block_at image b) ≡ false → is_inner_node (block_at image b) ≡ true
      → IsHeightOf table (block_at image b) (entry_count 8 (block_at image b)) height → LieInRange table (block_at image b) (entry_count 8 (block_at image b))
      → joined_kept table (block_at image b) (entry_count 8 (block_at image b)) ≡ measure_of (kept_here b)
  joined_here zero sound inner heights lie = absurd (let some = heights.some in omega arith)
  joined_here (suc h) sound inner heights lie =
      let block = block_at image b in
      joined_all (λ i. kept_at table (child_at block i)) (λ i. kept_here (child_at block i)) (entry_count 8 block) (children_kept block (suc h) heights)
      ∙ ap measure_of
      (sym (kept_inner table.nr image table.data_blocks b (or_both (is_outside table.nr b) (is_damaged 8 b block) inside sound) inner
      (λ i within. let few = heights.few in stays_low table.nr image h 63 (child_at block i) (omega arith) (children_low block h heights i within))
      (all_in block (suc h) heights lie)))

  -- an inner node, whose measure is that of its children or was found otherwise
  pub joined_right : (height : ℕ) (kept : Kept) (block : List ℕ) → block_at image b ≡ block → is_damaged 8 b block ≡ false → is_inner_node block ≡ true
      → IsHeightOf table block (entry_count 8 block) height → LieInRange table block (entry_count 8 block) → kept ≡ joined_kept table block (entry_count 8 block)
      → kept ≡ measure_of (kept_here b)
  joined_right height kept block here =
      let P : List ℕ → Type 0 = λ x. is_damaged 8 b x ≡ false → is_inner_node x ≡ true
      → IsHeightOf table x (entry_count 8 x) height → LieInRange table x (entry_count 8 x) → kept ≡ joined_kept table x (entry_count 8 x)
      → kept ≡ measure_of (kept_here b) in
      subst P here (λ sound inner heights lie is. is ∙ joined_here height sound inner heights lie)

  pub inner_right : (height : ℕ) (kept : Kept) (block : List ℕ) → block_at image b ≡ block → is_damaged 8 b block ≡ false → is_inner_node block ≡ true
      → IsHeightOf table block (entry_count 8 block) height → kept ≡ measure_of (kept_here b)
      → IsKnownOf table.nr table.data_blocks image b (record { height = height; kept = kept })
  inner_right height kept block here =
      let P : List ℕ → Type 0 = λ x. is_damaged 8 b x ≡ false → is_inner_node x ≡ true → IsHeightOf table x (entry_count 8 x) height
      → kept ≡ measure_of (kept_here b) → IsKnownOf table.nr table.data_blocks image b (record { height = height; kept = kept }) in
      subst P here (λ sound inner heights is. record {
        low = at_height height inner heights;
        least = least_height height sound inner heights;
        few = heights.few;
        kept = is;
      })

  -- the children of a low node are known, where all lower blocks are
  children_known : (h : ℕ) → h ≤ 64 → IsLow table.nr image h b → KnowsBelow image h table → is_damaged 8 b (block_at image b) ≡ false
      → is_inner_node (block_at image b) ≡ true → AreUnder 64 table (block_at image b) (entry_count 8 (block_at image b))
  unfolding IsLow
  children_known zero few lost knows sound inner =
      absurd (both_ways (is_lost table.nr image b) (or_both (is_outside table.nr b) (is_damaged 8 b (block_at image b)) inside sound) lost)
  children_known (suc h) few (inl lost) knows sound inner =
      absurd (both_ways (is_lost table.nr image b) (or_both (is_outside table.nr b) (is_damaged 8 b (block_at image b)) inside sound) lost)
  children_known (suc h) few (inr (inl leaf)) knows sound inner = absurd (both_ways (is_inner_node (block_at image b)) leaf inner)
  children_known (suc h) few (inr (inr each)) knows sound inner = λ i within.
      let c = child_at (block_at image b) i in
      under_most table.nr table.data_blocks image c h (known_at table c) (are.each c) (knows.each c h (omega arith) (each i within)) (omega arith) (each i within)

  pub low_children : (h : ℕ) (block : List ℕ) → block_at image b ≡ block → h ≤ 64 → IsLow table.nr image h b → KnowsBelow image h table
      → is_damaged 8 b block ≡ false → is_inner_node block ≡ true → AreUnder 64 table block (entry_count 8 block)
  low_children h block here few low knows =
      let P : List ℕ → Type 0 = λ x. is_damaged 8 b x ≡ false → is_inner_node x ≡ true → AreUnder 64 table x (entry_count 8 x) in
      subst P here (children_known h few low knows)

-- The height of a node, by one child more.

under_more : (height over : ℕ) (o : Option Known) → height ≤ over → IsUnder height o → IsUnder over o
under_more height over None more under = absurd under
under_more height over (Some known) more under = omega arith

pub height_more : (table : KnownTable) (block : List ℕ) (i height over : ℕ) (child : Option Known) → child ≡ known_at table (child_at block i)
    → IsHeightOf table block i height → IsOver height child over → IsHeightOf table block (i + 1) over
height_more table block i height over child is heights more = record {
  some = let some = heights.some in let from = more.from in omega arith;
  few = more.few;
  above = below_more _ _ (λ k within. under_more height over (known_at table (child_at block k)) more.from (heights.above k within))
      (subst (IsUnder over) is more.above);
  least = λ h some all.
      more.least h (heights.least h some (λ k within. all k (omega arith))) (subst (IsUnder h) (sym is) (all i (omega arith)));
}

-- Tables.

-- what is known of a block inside is what the table has of it
known_inside : (table : KnownTable) (b : ℕ) → is_outside table.nr b ≡ false → known_at table b ≡ note_at table b
known_inside table b inside = rw inside refl

pub known_outside : (table : KnownTable) (b : ℕ) → is_outside table.nr b ≡ true → known_at table b ≡ Some nothing_known
known_outside table b outside = rw outside refl

-- a table is right where each block inside has nothing, or what is right
pub right_inside : (table : KnownTable) (image : List (List ℕ))
    → ((b : ℕ) → is_outside table.nr b ≡ false → IfSome (note_at table b) (IsKnownOf table.nr table.data_blocks image b)) → AreKnown image table
right_inside table image each = record {
  each = λ b. elim (cases_Bool (is_outside table.nr b)) [
    | inl outside ↦
        subst (λ (o : Option Known). IfSome o (IsKnownOf table.nr table.data_blocks image b)) (sym (known_outside table b outside))
        (outside_right table.nr table.data_blocks image b outside)
    | inr inside ↦
        subst (λ (o : Option Known). IfSome o (IsKnownOf table.nr table.data_blocks image b)) (sym (known_inside table b inside)) (each b inside)
  ];
}

-- nothing is known yet
pub none_right : (table : KnownTable) (image : List (List ℕ)) → ((b : ℕ) → note_at table b ≡ None) → AreKnown image table
none_right table image none =
    right_inside table image (λ b inside. subst (λ (o : Option Known). IfSome o (IsKnownOf table.nr table.data_blocks image b)) (sym (none b)) tt)

-- one block more is known
pub set_right : (old new : KnownTable) (image : List (List ℕ)) (b : ℕ) (known : Known) → new.nr ≡ old.nr → new.data_blocks ≡ old.data_blocks
    → ((c : ℕ) → note_at new c ≡ cond (nat_eq c b) (Some known) (note_at old c))
    → IsKnownOf old.nr old.data_blocks image b known → AreKnown image old → AreKnown image new
set_right old new image b known number pool sets right are =
    right_inside new image (λ c inside.
    let inside_old : is_outside old.nr c ≡ false = ap (λ (n : ℕ). is_outside n c) (sym number) ∙ inside in
    let at : ℕ → ℕ → Option Known → Type 0 = λ n d o. IfSome o (IsKnownOf n d image c) in
    subst (λ (n : ℕ). at n new.data_blocks (note_at new c)) (sym number)
    (subst (λ (d : ℕ). at old.nr d (note_at new c)) (sym pool)
    (elim (cases_eq c b) [
      | inl same ↦
          subst (at old.nr old.data_blocks) (sym (sets c ∙ ap (λ (t : Bool). cond t (Some known) (note_at old c)) (eq-eqb c b same)))
          (subst (λ (x : ℕ). IsKnownOf old.nr old.data_blocks image x known) (sym same) right)
      | inr ne ↦
          subst (at old.nr old.data_blocks) (sym (sets c ∙ ap (λ (t : Bool). cond t (Some known) (note_at old c)) (ne_eqb c b ne)))
          (subst (at old.nr old.data_blocks) (known_inside old c inside_old) (are.each c))
    ])))

-- it is, and what was known still is
pub set_knows : (old new : KnownTable) (b : ℕ) (known : Known) → is_outside new.nr b ≡ false
    → ((c : ℕ) → note_at new c ≡ cond (nat_eq c b) (Some known) (note_at old c)) → known_at new b ≡ Some known
set_knows old new b known inside sets =
    known_inside new b inside ∙ (sets b ∙ ap (λ (t : Bool). cond t (Some known) (note_at old b)) (eq-eqb b b refl))

pub set_keeps : (old new : KnownTable) (b : ℕ) (known : Known) → new.nr ≡ old.nr
    → ((c : ℕ) → note_at new c ≡ cond (nat_eq c b) (Some known) (note_at old c)) → (c : ℕ) → IsSome (known_at old c) → IsSome (known_at new c)
set_keeps old new b known number sets c is = elim (cases_Bool (is_outside new.nr c)) [
  | inl outside ↦ subst (λ (o : Option Known). IsSome o) (sym (known_outside new c outside)) refl
  | inr inside ↦
      let inside_old : is_outside old.nr c ≡ false = ap (λ (n : ℕ). is_outside n c) (sym number) ∙ inside in
      subst (λ (o : Option Known). IsSome o) (sym (known_inside new c inside ∙ sets c))
      (either (nat_eq c b) (note_at old c) (subst (λ (o : Option Known). IsSome o) (known_inside old c inside_old) is))
]
  where
    either : (t : Bool) (o : Option Known) → IsSome o → IsSome (cond t (Some known) o)
    either true o is = refl
    either false o is = is
