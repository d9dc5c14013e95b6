-- Measures of lists in a row.
use Rattle.std.proofs.Common.{◌≡◌, ℕ, max, List, [], ◌∷◌, ◌++◌, fold, refl, arith, ◌+◌, ◌%◌, ◌^◌, sum_by, map, sym, ◌∙◌, ap, ap₂, append_assoc, ◌/◌}
use Rattle.std.specs.List.{flat_map, AllByRecursion}
use Rattle.std.proofs.lemmas.List.{append-nil, map-append}
use Rattle.std.proofs.lemmas.List.Sums.{sum_by-append, sum_by-cons}
use Rattle.pd_kinds.specs.Node.{Entry}
use Rattle.pd_kinds.specs.Graph.{Graph}
use Rattle.pd_kinds.specs.Whole.{mapped_number}
use Rattle.pd_graph.specs.declared.notes.Notes.{Notes}
use Rattle.pd_measures.specs.Counts.{latest, DeviceCount, counts_by_details, counts_by_roots, details_times, details_transaction_of, mapping_times, mappings_below, times_below}
use Rattle.pd_measures.specs.declared.measures.Measured.{Measured}
use Rattle.pd_measures.specs.Measured.{capped, capped_sum, join, joined, measured, no_measure, details_gauge, list_measure, print_of, top_gauge, AreToldOf}
use Rattle.pd_measures.specs.declared.measures.Measures.{Measures}

-- The greatest of lists of times in a row.

from : (a : ℕ) (xs : List ℕ) → fold max a xs ≡ max a (fold max 0 xs)
from a [] = omega arith
from a (x ∷ xs) =
    let first = from (max a x) xs in
    let other = from (max 0 x) xs in
    omega arith

pub latest-cons : (x : ℕ) (xs : List ℕ) → latest (x ∷ xs) ≡ max x (latest xs)
unfolding latest
latest-cons x xs = let e = from (max 0 x) xs in omega arith

pub latest-nil : latest [] ≡ 0
unfolding latest
latest-nil = refl

pub latest-append : (xs ys : List ℕ) → latest (xs ++ ys) ≡ max (latest xs) (latest ys)
latest-append [] ys = let none = latest-nil in omega arith
latest-append (x ∷ xs) ys =
    let first = latest-cons x (xs ++ ys) in
    let rest = latest-append xs ys in
    let other = latest-cons x xs in
    omega arith

unfoldable pub the_measure : ℕ → ℕ → ℕ → ℕ → ℕ → Measured
the_measure total time transaction times print = record { total = total; time = time; transaction = transaction; times = times; print = print }

pub same_measure : (a b c d e f g h i j : ℕ) → a ≡ f → b ≡ g → c ≡ h → d ≡ i → e ≡ j → the_measure a b c d e ≡ the_measure f g h i j
same_measure a b c d e f g h i j total time transaction times print =
    ap₂ (λ (x y : ℕ). the_measure x y c d e) total time
    ∙ (ap₂ (λ (x y : ℕ). the_measure f g x y e) transaction times ∙ ap (λ (x : ℕ). the_measure f g h i x) print)

capped_both : (a b : ℕ) → capped (a + b) ≡ capped (capped a + capped b)
capped_both a b = omega arith

capped_one : (a b : ℕ) → capped (a + b) ≡ capped (capped a + b)
capped_one a b = omega arith

summed_both : (a b : ℕ) → capped_sum (a + b) ≡ capped_sum (capped_sum a + capped_sum b)
summed_both a b = omega arith

summed_one : (a b : ℕ) → capped_sum (a + b) ≡ capped_sum (capped_sum a + b)
summed_one a b = omega arith

wrapped_both : (a b : ℕ) → (a + b) % 2 ^ 64 ≡ (a % 2 ^ 64 + b % 2 ^ 64) % 2 ^ 64
wrapped_both a b = omega arith

wrapped_one : (a b : ℕ) → (a + b) % 2 ^ 64 ≡ (a % 2 ^ 64 + b) % 2 ^ 64
wrapped_one a b = omega arith

module _ (gauge : Entry → Measured) where
  pub measured-nil : measured gauge [] ≡ no_measure
  unfolding measured latest
  measured-nil = refl

  latest_both : (f : Entry → ℕ) (xs ys : List Entry) → latest (map f (xs ++ ys)) ≡ max (latest (map f xs)) (latest (map f ys))
  latest_both f xs ys = ap latest (map-append f xs ys) ∙ latest-append (map f xs) (map f ys)

  pub measured-append : (xs ys : List Entry) → measured gauge (xs ++ ys) ≡ join (measured gauge xs) (measured gauge ys)
  unfolding measured the_measure
  measured-append xs ys =
      same_measure _ _ _ _ _ _ _ _ _ _
      (ap capped (sum_by-append (λ (e : Entry). (gauge e).total) xs ys) ∙ capped_both _ _)
      (latest_both (λ (e : Entry). (gauge e).time) xs ys)
      (latest_both (λ (e : Entry). (gauge e).transaction) xs ys)
      (ap capped_sum (sum_by-append (λ (e : Entry). (gauge e).times) xs ys) ∙ summed_both _ _)
      (ap (λ (n : ℕ). n % 2 ^ 64) (sum_by-append (λ (e : Entry). (gauge e).print) xs ys) ∙ wrapped_both _ _)

  one_sum : (f : Entry → ℕ) (xs : List Entry) (x : Entry) → sum_by f (xs ++ (x ∷ [])) ≡ sum_by f xs + f x
  one_sum f xs x = sum_by-append f xs (x ∷ []) ∙ (ap (λ (n : ℕ). sum_by f xs + n) (sum_by-cons f x []) ∙ none (sum_by f xs) (f x))
    where
      none : (a b : ℕ) → a + (b + 0) ≡ a + b
      none a b = omega arith

  one_latest : (f : Entry → ℕ) (xs : List Entry) (x : Entry) → latest (map f (xs ++ (x ∷ []))) ≡ max (latest (map f xs)) (f x)
  one_latest f xs x =
      let both = latest_both f xs (x ∷ []) in
      let one = latest-cons (f x) [] in
      let none = latest-nil in
      omega arith

  pub measured-push : (xs : List Entry) (x : Entry) → measured gauge (xs ++ (x ∷ [])) ≡ join (measured gauge xs) (gauge x)
  unfolding measured the_measure
  measured-push xs x =
      same_measure _ _ _ _ _ _ _ _ _ _
      (ap capped (one_sum (λ (e : Entry). (gauge e).total) xs x) ∙ capped_one _ _)
      (one_latest (λ (e : Entry). (gauge e).time) xs x)
      (one_latest (λ (e : Entry). (gauge e).transaction) xs x)
      (ap capped_sum (one_sum (λ (e : Entry). (gauge e).times) xs x) ∙ summed_one _ _)
      (ap (λ (n : ℕ). n % 2 ^ 64) (one_sum (λ (e : Entry). (gauge e).print) xs x) ∙ wrapped_one _ _)

  -- the measures of children whose entries stand one after another
  joined_from : (measures : ℕ → Measured) (list : ℕ → List Entry) (sum : Measured) (before : List Entry) (cs : List ℕ) → sum ≡ measured gauge before
      → AllByRecursion (λ c. measures c ≡ measured gauge (list c)) cs → joined measures sum cs ≡ measured gauge (before ++ flat_map list cs)
  joined_from measures list sum before [] same all = same ∙ ap (measured gauge) (sym (append-nil before))
  joined_from measures list sum before (c ∷ cs) same all =
      joined_from measures list (join sum (measures c)) (before ++ list c) cs
      (ap (λ (m : Measured). join m (measures c)) same ∙ (ap (join (measured gauge before)) all.0 ∙ sym (measured-append before (list c)))) all.1
      ∙ ap (measured gauge) (append_assoc before (list c) (flat_map list cs))

  pub joined_is : (measures : ℕ → Measured) (list : ℕ → List Entry) (cs : List ℕ) → AllByRecursion (λ c. measures c ≡ measured gauge (list c)) cs
      → joined measures no_measure cs ≡ measured gauge (flat_map list cs)
  joined_is measures list cs all = joined_from measures list no_measure [] cs (sym measured-nil) all

pub joined-push : (measures : ℕ → Measured) (sum : Measured) (cs : List ℕ) (c : ℕ) → joined measures sum (cs ++ (c ∷ [])) ≡ join (joined measures sum cs) (measures c)
joined-push measures sum [] c = refl
joined-push measures sum (x ∷ xs) c = joined-push measures (join sum (measures x)) xs c

-- The measures of trees by their lists of devices.

-- a number of each entry, and of each device of a list
record IsSame (f : Entry → ℕ) (g : DeviceCount → ℕ) (count : Entry → DeviceCount) (e : Entry) : Type 0 where
  same : f e ≡ g (count e)

pub two : (a b c d : ℕ) → a ≡ b → c ≡ d → a + c ≡ b + d
two a b c d x y = omega arith

sums_agree : (f : Entry → ℕ) (g : DeviceCount → ℕ) (count : Entry → DeviceCount) (es : List Entry) → AllByRecursion (IsSame f g count) es
    → sum_by f es ≡ sum_by g (map count es)
sums_agree f g count [] all = refl
sums_agree f g count (e ∷ es) all =
    sum_by-cons f e es ∙ (two (f e) (g (count e)) (sum_by f es) (sum_by g (map count es)) all.0.same (sums_agree f g count es all.1) ∙ sym (sum_by-cons g (count e) (map count es)))

-- entries that count for nothing
zeros : (es : List Entry) → sum_by (λ (e : Entry). 0) es ≡ 0
zeros [] = refl
zeros (e ∷ es) =
    let first = sum_by-cons (λ (e : Entry). 0) e es in
    let rest = zeros es in
    omega (arith, first, rest)

none_latest : (es : List Entry) → latest (map (λ (e : Entry). 0) es) ≡ 0
none_latest [] = latest-nil
none_latest (e ∷ es) =
    let rest = none_latest es in
    let both = latest-cons 0 (map (λ (e : Entry). 0) es) in
    omega arith

record IsLatest (f : Entry → ℕ) (times : Entry → List ℕ) (e : Entry) : Type 0 where
  is : f e ≡ latest (times e)

times_agree : (f : Entry → ℕ) (times : Entry → List ℕ) (es : List Entry) → AllByRecursion (IsLatest f times) es → latest (map f es) ≡ latest (flat_map times es)
times_agree f times [] all = refl
times_agree f times (e ∷ es) all =
    latest-cons (f e) (map f es)
    ∙ (ap (λ (n : ℕ). max n (latest (map f es))) all.0.is ∙ (ap (max (latest (times e))) (times_agree f times es all.1) ∙ sym (latest-append (times e) (flat_map times es))))

all_same : (P : Entry → Type 0) (es : List Entry) → ((e : Entry) → P e) → AllByRecursion P es
all_same P [] each = tt
all_same P (e ∷ es) each = (each e, all_same P es each)

all_by : (P Q : Entry → Type 0) (es : List Entry) → ((e : Entry) → P e → Q e) → AllByRecursion P es → AllByRecursion Q es
all_by P Q [] each all = tt
all_by P Q (e ∷ es) each all = (each e all.0, all_by P Q es each all.1)

later_one : (a b : ℕ) → max a b ≡ latest (a ∷ b ∷ [])
later_one a b =
    let first = latest-cons a (b ∷ []) in
    let second = latest-cons b [] in
    let none = latest-nil in
    omega arith

count_details : Entry → DeviceCount
count_details e = record { id = e.key; mapped = mapped_number e.value }

pub details_are : (es : List Entry) → measured details_gauge es ≡ list_measure (counts_by_details es) (latest (flat_map (λ (e : Entry). details_times e.value) es))
    (latest (map (λ (e : Entry). details_transaction_of e.value) es)) 0
unfolding measured list_measure count_details the_measure
details_are es =
    same_measure _ _ _ _ _ _ _ _ _ _
    (ap capped (sums_agree (λ (e : Entry). (details_gauge e).total) (λ (c : DeviceCount). c.mapped) count_details es (all_same _ es (λ e. record { same = refl }))))
    (times_agree (λ (e : Entry). (details_gauge e).time) (λ (e : Entry). details_times e.value) es
    (all_same _ es (λ e. record { is = later_one (e.value / 2 ^ 128 % 2 ^ 32) (e.value / 2 ^ 160) })))
    refl
    (ap capped_sum (zeros es))
    (ap (λ (n : ℕ). n % 2 ^ 64)
    (sums_agree (λ (e : Entry). (details_gauge e).print) (λ (c : DeviceCount). print_of c.id c.mapped) count_details es (all_same _ es (λ e. record { same = refl }))))

module _ (graph : Graph) (image : List (List ℕ)) (notes : Notes) (times : Measures) where
  count_root : Entry → DeviceCount
  count_root e = record { id = e.key; mapped = mappings_below graph image e.value }

  tops_sum : (es : List Entry) → AllByRecursion (λ (e : Entry). AreToldOf graph image notes times e.value) es
      → sum_by (λ (e : Entry). (top_gauge notes times e).times) es ≡ sum_by (λ (e : Entry). times_below graph image e.value) es
  tops_sum [] all = refl
  tops_sum (e ∷ es) all =
      sum_by-cons (λ (e : Entry). (top_gauge notes times e).times) e es
      ∙ (two _ _ _ _ all.0.sum (tops_sum es all.1) ∙ sym (sum_by-cons (λ (e : Entry). times_below graph image e.value) e es))

  pub tops_are : (es : List Entry) → AllByRecursion (λ (e : Entry). AreToldOf graph image notes times e.value) es
      → measured (top_gauge notes times) es
      ≡ list_measure (counts_by_roots (mappings_below graph image) es) (latest (flat_map (λ (e : Entry). mapping_times graph image e.value) es)) 0
      (sum_by (λ (e : Entry). times_below graph image e.value) es)
  unfolding measured list_measure count_root the_measure
  tops_are es all =
      same_measure _ _ _ _ _ _ _ _ _ _
      (ap capped
      (sums_agree (λ (e : Entry). (top_gauge notes times e).total) (λ (c : DeviceCount). c.mapped) count_root es
      (all_by (λ (e : Entry). AreToldOf graph image notes times e.value) _ es (λ e told. record { same = told.number }) all)))
      (times_agree (λ (e : Entry). (top_gauge notes times e).time) (λ (e : Entry). mapping_times graph image e.value) es
      (all_by (λ (e : Entry). AreToldOf graph image notes times e.value) _ es (λ e told. record { is = told.time }) all))
      (none_latest es)
      (ap capped_sum (tops_sum es all))
      (ap (λ (n : ℕ). n % 2 ^ 64)
      (sums_agree (λ (e : Entry). (top_gauge notes times e).print) (λ (c : DeviceCount). print_of c.id c.mapped) count_root es
      (all_by (λ (e : Entry). AreToldOf graph image notes times e.value) _ es (λ e told. record { same = ap (print_of e.key) told.number }) all)))
