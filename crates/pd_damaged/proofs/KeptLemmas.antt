-- Measures of entries in a row.
use Rattle.std.proofs.Common.{◌≡◌, inl, inr, ℕ, zero, suc, ◌+◌, ◌-◌, ◌^◌, ◌<◌, ◌≤◌, max, min, Bool, not, ◌&&◌, nat_lt, cond, List, [], ◌∷◌, ◌++◌, map, filter, fold, sum_by, refl, sym, ◌∙◌, ap, ap₂, append_assoc, arith, add-one}
use Rattle.std.specs.List.{flat_map, range_with_len}
use Rattle.std.proofs.lemmas.Bool.{cases_Bool, le-ltb, lt-ltb}
use Rattle.std.proofs.lemmas.List.{append-nil, length-append, map-append}
use Rattle.std.proofs.lemmas.List.Sums.{fold_push, sum_by-append, sum_by-cons}
use Rattle.pd_kinds.specs.Layout.{node_entries_of}
use Rattle.pd_kinds.specs.Node.{Entry, entry_count}
use Rattle.pd_kinds.specs.ThinFormat.{mapped_time}
use Rattle.pd_laid.specs.Salvage.{salvaged_entries}
use Rattle.pd_value.specs.declared.thin.BlockTime.{BlockTime}
use Rattle.pd_graph.proofs.BitLemmas.{range_more}
use Rattle.pd_meaning_thin.specs.Runs.{block_time_of}
use Rattle.pd_tree.specs.Cursor.{item_of}
use Rattle.pd_measures.specs.Counts.{latest}
use Rattle.pd_measures.specs.Measured.{capped, capped_sum, entry_of}
use Rattle.pd_measures.proofs.MeasureLemmas.{latest-append, latest-cons, latest-nil}
use Rattle.pd_damaged.specs.declared.kept.Kept.{Kept}
use Rattle.pd_damaged.specs.Kept.{counted, is_kept, join, kept_below, leaf_items, least_key, measure_of, no_kept, one_kept}

unfoldable pub the_kept : ℕ → ℕ → ℕ → ℕ → ℕ → Kept
the_kept number time times least greatest = record { number = number; time = time; times = times; least = least; greatest = greatest }

same_kept : (a b c d e f g h i j : ℕ) → a ≡ f → b ≡ g → c ≡ h → d ≡ i → e ≡ j → the_kept a b c d e ≡ the_kept f g h i j
same_kept a b c d e f g h i j number time times least greatest =
    ap₂ (λ (x y : ℕ). the_kept x y c d e) number time
    ∙ (ap₂ (λ (x y : ℕ). the_kept f g x y e) times least ∙ ap (λ (x : ℕ). the_kept f g h i x) greatest)

capped_both : (a b : ℕ) → capped (a + b) ≡ capped (capped a + capped b)
capped_both a b = omega arith

capped_one : (a : ℕ) → capped (a + 1) ≡ capped (capped a + 1)
capped_one a = omega arith

summed_both : (a b : ℕ) → capped_sum (a + b) ≡ capped_sum (capped_sum a + capped_sum b)
summed_both a b = omega arith

summed_one : (a b : ℕ) → capped_sum (a + b) ≡ capped_sum (capped_sum a + b)
summed_one a b = omega arith

least_small : (es : List Entry) → least_key es ≤ 2 ^ 64 - 1
least_small [] = omega arith
least_small (e ∷ es) = let rest = least_small es in omega arith

least_both : (xs ys : List Entry) → least_key (xs ++ ys) ≡ min (least_key xs) (least_key ys)
least_both [] ys = let small = least_small ys in omega arith
least_both (x ∷ xs) ys = let rest = least_both xs ys in omega arith

least_one : (xs : List Entry) (x : Entry) → least_key (xs ++ (x ∷ [])) ≡ min (least_key xs) x.key
least_one xs x =
    let both = least_both xs (x ∷ []) in
    let small = least_small xs in
    omega arith

latest_both : (f : Entry → ℕ) (xs ys : List Entry) → latest (map f (xs ++ ys)) ≡ max (latest (map f xs)) (latest (map f ys))
latest_both f xs ys = ap latest (map-append f xs ys) ∙ latest-append (map f xs) (map f ys)

latest_one : (f : Entry → ℕ) (xs : List Entry) (x : Entry) → latest (map f (xs ++ (x ∷ []))) ≡ max (latest (map f xs)) (f x)
latest_one f xs x =
    let both = latest_both f xs (x ∷ []) in
    let one = latest-cons (f x) [] in
    let none = latest-nil in
    omega arith

sum_one : (f : Entry → ℕ) (xs : List Entry) (x : Entry) → sum_by f (xs ++ (x ∷ [])) ≡ sum_by f xs + f x
sum_one f xs x = sum_by-append f xs (x ∷ []) ∙ (ap (λ (n : ℕ). sum_by f xs + n) (sum_by-cons f x []) ∙ none (sum_by f xs) (f x))
  where
    none : (a b : ℕ) → a + (b + 0) ≡ a + b
    none a b = omega arith

pub measure-nil : measure_of [] ≡ no_kept
unfolding measure_of latest
measure-nil = refl

pub measure-append : (xs ys : List Entry) → measure_of (xs ++ ys) ≡ join (measure_of xs) (measure_of ys)
unfolding measure_of the_kept
measure-append xs ys =
    same_kept _ _ _ _ _ _ _ _ _ _
    (ap capped (length-append xs ys) ∙ capped_both _ _)
    (latest_both (λ (e : Entry). mapped_time e.value) xs ys)
    (ap capped_sum (sum_by-append (λ (e : Entry). mapped_time e.value) xs ys) ∙ summed_both _ _)
    (least_both xs ys)
    (latest_both (λ (e : Entry). e.key) xs ys)

measure-push : (xs : List Entry) (x : Entry) → measure_of (xs ++ (x ∷ [])) ≡ join (measure_of xs) (one_kept x.key (mapped_time x.value))
unfolding measure_of the_kept
measure-push xs x =
    same_kept _ _ _ _ _ _ _ _ _ _
    (ap capped (length-append xs (x ∷ [])) ∙ capped_one _)
    (latest_one (λ (e : Entry). mapped_time e.value) xs x)
    (ap capped_sum (sum_one (λ (e : Entry). mapped_time e.value) xs x) ∙ summed_one _ _)
    (least_one xs x)
    (latest_one (λ (e : Entry). e.key) xs x)

-- Entries that are counted one after another.

counted_from : (data_blocks : ℕ) (before es : List Entry)
    → fold (counted data_blocks) (measure_of before) (map (item_of block_time_of) es) ≡ measure_of (before ++ filter (is_kept data_blocks) es)
counted_from data_blocks before [] = ap measure_of (sym (append-nil before))
counted_from data_blocks before (e ∷ es) = elim (cases_Bool (is_kept data_blocks e)) [
  | inl here ↦
      counts here
      ∙ (ap (λ (sum : Kept). fold (counted data_blocks) sum (map (item_of block_time_of) es)) (sym (measure-push before e))
      ∙ (counted_from data_blocks (before ++ (e ∷ [])) es
      ∙ (ap measure_of (append_assoc before (e ∷ []) (filter (is_kept data_blocks) es)) ∙ sym (keeps here))))
  | inr out ↦ counts out ∙ (counted_from data_blocks before es ∙ sym (keeps out))
]
  where
    counts : {t : Bool} → is_kept data_blocks e ≡ t → fold (counted data_blocks) (measure_of before) (map (item_of block_time_of) (e ∷ es))
        ≡ fold (counted data_blocks) (cond t (join (measure_of before) (one_kept e.key (mapped_time e.value))) (measure_of before)) (map (item_of block_time_of) es)
    counts is =
        ap (λ (t : Bool). fold (counted data_blocks) (cond t (join (measure_of before) (one_kept e.key (mapped_time e.value))) (measure_of before)) (map (item_of block_time_of) es)) is

    keeps : {t : Bool} → is_kept data_blocks e ≡ t
        → measure_of (before ++ filter (is_kept data_blocks) (e ∷ es)) ≡ measure_of (before ++ cond t (e ∷ filter (is_kept data_blocks) es) (filter (is_kept data_blocks) es))
    keeps is = ap (λ (t : Bool). measure_of (before ++ cond t (e ∷ filter (is_kept data_blocks) es) (filter (is_kept data_blocks) es))) is

pub all_counted : (data_blocks : ℕ) (es : List Entry)
    → fold (counted data_blocks) no_kept (map (item_of block_time_of) es) ≡ measure_of (filter (is_kept data_blocks) es)
all_counted data_blocks es =
    ap (λ (sum : Kept). fold (counted data_blocks) sum (map (item_of block_time_of) es)) (sym measure-nil) ∙ counted_from data_blocks [] es

-- what is kept below a root, as a cursor gives its entries
pub tree_counted : (nr data_blocks : ℕ) (image : List (List ℕ)) (root : ℕ)
    → fold (counted data_blocks) no_kept (map (item_of block_time_of) (salvaged_entries 8 nr image root)) ≡ measure_of (kept_below nr data_blocks image root)
unfolding kept_below
tree_counted nr data_blocks image root = all_counted data_blocks (salvaged_entries 8 nr image root)

pub range_push : (n : ℕ) → range_with_len 0 (n + 1) ≡ range_with_len 0 n ++ (n ∷ [])
range_push n = rw (add-one n) (range_more 0 n n (omega arith))

-- one entry of a leaf more, and all of them
pub leaf_more : (data_blocks : ℕ) (block : List ℕ) (i : ℕ) (sum : Kept) (item : ℕ × BlockTime)
    → sum ≡ fold (counted data_blocks) no_kept (leaf_items block i) → item ≡ item_of block_time_of (entry_of 8 block i)
    → counted data_blocks sum item ≡ fold (counted data_blocks) no_kept (leaf_items block (i + 1))
leaf_more data_blocks block i sum item before is =
    let one : Entry → ℕ × BlockTime = item_of block_time_of in
    let at : ℕ → Entry = entry_of 8 block in
    ap (λ (s : Kept). counted data_blocks s item) before
    ∙ (ap (counted data_blocks (fold (counted data_blocks) no_kept (leaf_items block i))) is
    ∙ (sym (fold_push (counted data_blocks) no_kept (leaf_items block i) (one (at i)))
    ∙ ap (fold (counted data_blocks) no_kept)
    (sym (ap (λ (ns : List ℕ). map one (map at ns)) (range_push i)
    ∙ (ap (map one) (map-append at (range_with_len 0 i) (i ∷ [])) ∙ map-append one (map at (range_with_len 0 i)) (at i ∷ []))))))

pub leaf_all : (data_blocks : ℕ) (block : List ℕ) (n : ℕ) (sum : Kept) → sum ≡ fold (counted data_blocks) no_kept (leaf_items block n) → n ≡ entry_count 8 block
    → sum ≡ measure_of (filter (is_kept data_blocks) (node_entries_of 8 block))
unfolding node_entries_of
leaf_all data_blocks block n sum before last =
    before
    ∙ (ap (λ (m : ℕ). fold (counted data_blocks) no_kept (leaf_items block m)) last
    ∙ all_counted data_blocks (map (entry_of 8 block) (range_with_len 0 (entry_count 8 block))))

-- The measures below children, one after another.

abbrev pub joined_by : (ℕ → Kept) → Kept → List ℕ → Kept
joined_by kept sum ns = fold (λ (s : Kept) (i : ℕ). join s (kept i)) sum ns

joined_from : (kept : ℕ → Kept) (list : ℕ → List Entry) (before : List Entry) (a n : ℕ) → ((i : ℕ) → a ≤ i → i < a + n → kept i ≡ measure_of (list i))
    → joined_by kept (measure_of before) (range_with_len a n) ≡ measure_of (before ++ flat_map list (range_with_len a n))
joined_from kept list before a zero each = ap measure_of (sym (append-nil before))
joined_from kept list before a (suc n) each =
    ap (λ (s : Kept). joined_by kept s (range_with_len (a + 1) n))
    (ap (join (measure_of before)) (each a (omega arith) (omega arith)) ∙ sym (measure-append before (list a)))
    ∙ (joined_from kept list (before ++ list a) (a + 1) n (λ i from within. each i (omega arith) (omega arith))
    ∙ ap measure_of (append_assoc before (list a) (flat_map list (range_with_len (a + 1) n))))

pub joined_all : (kept : ℕ → Kept) (list : ℕ → List Entry) (n : ℕ) → ((i : ℕ) → i < n → kept i ≡ measure_of (list i))
    → joined_by kept no_kept (range_with_len 0 n) ≡ measure_of (flat_map list (range_with_len 0 n))
joined_all kept list n each =
    ap (λ (s : Kept). joined_by kept s (range_with_len 0 n)) (sym measure-nil)
    ∙ joined_from kept list [] 0 n (λ i from within. each i (omega arith))

-- one child more
pub joined_more : (kept : ℕ → Kept) (i : ℕ) (sum one : Kept) → sum ≡ joined_by kept no_kept (range_with_len 0 i) → one ≡ kept i
    → join sum one ≡ joined_by kept no_kept (range_with_len 0 (i + 1))
joined_more kept i sum one before is =
    ap (λ (s : Kept). join s one) before
    ∙ (ap (join (joined_by kept no_kept (range_with_len 0 i))) is
    ∙ (sym (fold_push (λ (s : Kept) (k : ℕ). join s (kept k)) no_kept (range_with_len 0 i) i)
    ∙ ap (joined_by kept no_kept) (sym (range_push i))))

-- Keys in a range.

abbrev pub is_between : ℕ → ℕ → Entry → Bool
is_between low high e = not (nat_lt e.key low) && nat_lt e.key high

-- entries whose least and greatest keys lie in a range are all in it
pub all_between : (low high : ℕ) (es : List Entry) → low ≤ least_key es → latest (map (λ (e : Entry). e.key) es) < high
    → filter (is_between low high) es ≡ es
all_between low high [] from below = refl
all_between low high (e ∷ es) from below =
    let last = latest-cons e.key (map (λ (e : Entry). e.key) es) in
    rw (le-ltb e.key low (omega arith), lt-ltb e.key high (omega arith), all_between low high es (omega arith) (omega arith)) refl

pub least_is : (es : List Entry) → (measure_of es).least ≡ least_key es
unfolding measure_of
least_is es = refl

pub greatest_is : (es : List Entry) → (measure_of es).greatest ≡ latest (map (λ (e : Entry). e.key) es)
unfolding measure_of
greatest_is es = refl
