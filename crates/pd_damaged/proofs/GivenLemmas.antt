-- What details trees give, entry by entry, and the best of them.
use Rattle.std.proofs.Common.{◌≡◌, inl, inr, ℕ, zero, suc, ◌+◌, ◌/◌, ◌%◌, ◌^◌, ◌<◌, ◌≤◌, max, Bool, true, false, ◌&&◌, ◌||◌, not, nat_eq, nat_lt, cond, is_ok, List, [], ◌∷◌, ◌++◌, length, get_or, map, filter, fold, drop, Option, Some, None, Result, Ok, Err, refl, sym, ◌∙◌, ap, ap₂, append_assoc, subst, eq-eqb, add-one, arith, nat_cmp, option_map}
use Rattle.std.specs.List.{AllByRecursion, cons_option, filter_map, find}
use Rattle.std.specs.List.Sorted.{IsBinarySearchResult}
use Rattle.std.proofs.Math.Seq.{drop-cons}
use Rattle.std.proofs.lemmas.Bool.{cases_Bool, cases_lt, lt-ltb, ne_eqb}
use Rattle.std.proofs.lemmas.Grind.{flat_map-append}
use Rattle.std.proofs.lemmas.List.{append-nil, length-append, map-append}
use Rattle.std.proofs.lemmas.List.Sorted.{searched}
use Rattle.pd_kinds.specs.declared.limits.TheConstants.{MAX_META_BLOCKS}
use Rattle.pd_kinds.specs.Graph.{Graph, is_outside}
use Rattle.pd_kinds.specs.Node.{Entry}
use Rattle.pd_kinds.specs.Trees.{value_of_key}
use Rattle.pd_laid.specs.FoundRoots.{is_greater}
use Rattle.pd_laid.specs.Salvage.{salvaged_below, salvaged_entries}
use Rattle.pd_meaning_thin.specs.Runs.{details_of}
use Rattle.pd_tree.specs.Cursor.{item_of}
use Rattle.pd_measures.specs.Counts.{latest}
use Rattle.pd_measures.specs.Measured.{capped}
use Rattle.pd_measures.proofs.MeasureLemmas.{latest-append, latest-cons, latest-nil}
use Rattle.pd_salvage.proofs.AscendLemmas.{AreAscending, give_ascends}
use Rattle.pd_damaged.specs.declared.given.Given.{Given}
use Rattle.pd_answers.specs.DamagedStates.{better_details, details_score, given_details}
use Rattle.pd_damaged.specs.Given.{AscendFrom, best_after, better_given, given_at, given_counted, given_more, given_of, given_score, ids_below, inside_tops, is_id, none_given, times_given, transactions_given}
use Rattle.pd_damaged.proofs.FewLemmas.{few_saved, no_more_kept}

-- Ids that ascend, and whether one is among them.

ids_over : (least : ℕ) (ids : List ℕ) (i : ℕ) → AscendFrom least ids → i < length ids → least ≤ get_or ids i 0
ids_over least [] i are within = absurd (omega arith)
ids_over least (id ∷ ids) zero are within = are.0
ids_over least (id ∷ ids) (suc i) are within = let rest = ids_over (id + 1) ids i are.1 (omega arith) in let first = are.0 in omega arith

ids_rise : (least : ℕ) (ids : List ℕ) → AscendFrom least ids → (i j : ℕ) → i ≤ j → j < length ids → get_or ids i 0 ≤ get_or ids j 0
ids_rise least [] are i j order within = absurd (omega arith)
ids_rise least (id ∷ ids) are zero zero order within = omega arith
ids_rise least (id ∷ ids) are zero (suc j) order within = let rest = ids_over (id + 1) ids j are.1 (omega arith) in omega arith
ids_rise least (id ∷ ids) are (suc i) zero order within = absurd (omega arith)
ids_rise least (id ∷ ids) are (suc i) (suc j) order within = ids_rise (id + 1) ids are.1 i j (omega arith) (omega arith)

id_at : (ids : List ℕ) (i id : ℕ) → i < length ids → get_or ids i 0 ≡ id → is_id ids id ≡ true
id_at [] i id within is = absurd (omega arith)
id_at (first ∷ ids) zero id within is = ap (λ (b : Bool). b || is_id ids id) (eq-eqb first id is)
id_at (first ∷ ids) (suc i) id within is = ap (λ (b : Bool). nat_eq first id || b) (id_at ids i id (omega arith) is) ∙ either (nat_eq first id)
  where
    either : (b : Bool) → (b || true) ≡ true
    either true = refl
    either false = refl

no_id : (ids : List ℕ) (id : ℕ) → ((k : ℕ) → k < length ids → get_or ids k 0 ≡ id → ⊥) → is_id ids id ≡ false
no_id [] id other = refl
no_id (first ∷ ids) id other =
    ap₂ (λ (a b : Bool). a || b) (ne_eqb first id (λ same. other 0 (omega arith) same)) (no_id ids id (λ k within same. other (suc k) (omega arith) same))

pub search_is : (ids : List ℕ) (id : ℕ) (found : Result ℕ ℕ) → AscendFrom 0 ids → IsBinarySearchResult (λ y. nat_cmp y id) ids found → is_ok found ≡ is_id ids id
search_is ids id (Ok i) are is =
    let at = searched ids id (Ok i) is (ids_rise 0 ids are) in
    sym (id_at ids i id at.0 at.1)
search_is ids id (Err i) are is =
    let at = searched ids id (Err i) is (ids_rise 0 ids are) in
    sym (no_id ids id (λ k within same. elim (cases_lt k i) [
      | inl before ↦ let less = at.1 k before in absurd (omega arith)
      | inr after ↦ let more = at.2 k after within in absurd (omega arith)
    ]))

-- What is given, with one more.

unfoldable the_given : ℕ → ℕ → ℕ → ℕ → Given
the_given number time transaction details = record { number = number; time = time; transaction = transaction; details = details }

same_given : (a b c d e f g : ℕ) → a ≡ e → b ≡ f → c ≡ g → the_given a b c d ≡ the_given e f g d
same_given a b c d e f g number time transaction =
    ap₂ (λ (x y : ℕ). the_given x y c d) number time ∙ ap (λ (x : ℕ). the_given e f x d) transaction

more_given : (root : ℕ) (vs : List ℕ) (v : ℕ) → given_more (given_of root vs) (details_of v) ≡ given_of root (vs ++ (v ∷ []))
unfolding given_of the_given
more_given root vs v =
    same_given _ _ _ root _ _ _ number time transaction
  where
    number : capped (capped (length vs) + 1) ≡ capped (length (vs ++ (v ∷ [])))
    number = let all = length-append vs (v ∷ []) in omega arith

    created : ℕ
    created = v / 2 ^ 128 % 2 ^ 32

    snapped : ℕ
    snapped = v / 2 ^ 160

    time : max (latest (times_given vs)) (max (v / 2 ^ 128 % 2 ^ 32) (v / 2 ^ 160)) ≡ latest (times_given (vs ++ (v ∷ [])))
    time =
        let parts = ap latest (flat_map-append (λ (w : ℕ). (w / 2 ^ 128 % 2 ^ 32) ∷ (w / 2 ^ 160) ∷ []) vs (v ∷ []))
        ∙ latest-append (times_given vs) ((v / 2 ^ 128 % 2 ^ 32) ∷ (v / 2 ^ 160) ∷ []) in
        let first = latest-cons (v / 2 ^ 128 % 2 ^ 32) ((v / 2 ^ 160) ∷ []) in
        let second = latest-cons (v / 2 ^ 160) [] in
        let none = latest-nil in
        omega arith

    transaction : max (latest (transactions_given vs)) (v / 2 ^ 64 % 2 ^ 64) ≡ latest (transactions_given (vs ++ (v ∷ [])))
    transaction =
        let parts = ap latest (map-append (λ (w : ℕ). w / 2 ^ 64 % 2 ^ 64) vs (v ∷ []))
        ∙ latest-append (transactions_given vs) ((v / 2 ^ 64 % 2 ^ 64) ∷ []) in
        let first = latest-cons (v / 2 ^ 64 % 2 ^ 64) [] in
        let none = latest-nil in
        omega arith

pub nothing_given : (root : ℕ) → given_of root [] ≡ none_given root
unfolding given_of latest
nothing_given root = refl

abbrev given_values : List ℕ → List Entry → List ℕ
given_values ids es = map (λ (e : Entry). e.value) (filter (λ (e : Entry). is_id ids e.key) es)

counted_from : (root : ℕ) (ids before : List ℕ) (es : List Entry)
    → fold (given_counted ids) (given_of root before) (map (item_of details_of) es) ≡ given_of root (before ++ given_values ids es)
counted_from root ids before [] = ap (given_of root) (sym (append-nil before))
counted_from root ids before (e ∷ es) = elim (cases_Bool (is_id ids e.key)) [
  | inl here ↦
      counts here
      ∙ (ap (λ (g : Given). fold (given_counted ids) g (map (item_of details_of) es)) (more_given root before e.value)
      ∙ (counted_from root ids (before ++ (e.value ∷ [])) es
      ∙ (ap (given_of root) (append_assoc before (e.value ∷ []) (given_values ids es)) ∙ sym (keeps here))))
  | inr out ↦ counts out ∙ (counted_from root ids before es ∙ sym (keeps out))
]
  where
    counts : {t : Bool} → is_id ids e.key ≡ t → fold (given_counted ids) (given_of root before) (map (item_of details_of) (e ∷ es))
        ≡ fold (given_counted ids) (cond t (given_more (given_of root before) (details_of e.value)) (given_of root before)) (map (item_of details_of) es)
    counts is =
        ap (λ (t : Bool). fold (given_counted ids) (cond t (given_more (given_of root before) (details_of e.value)) (given_of root before)) (map (item_of details_of) es)) is

    keeps : {t : Bool} → is_id ids e.key ≡ t → given_of root (before ++ given_values ids (e ∷ es))
        ≡ given_of root (before ++ map (λ (x : Entry). x.value) (cond t (e ∷ filter (λ (x : Entry). is_id ids x.key) es) (filter (λ (x : Entry). is_id ids x.key) es)))
    keeps is =
        ap (λ (t : Bool). given_of root (before ++ map (λ (x : Entry). x.value) (cond t (e ∷ filter (λ (x : Entry). is_id ids x.key) es) (filter (λ (x : Entry). is_id ids x.key) es)))) is

-- What the entries give by the ids is what the ids are given.

none_valued : (low high id : ℕ) (es : List Entry) → AreAscending low high es → id < low → value_of_key es id ≡ None
unfolding value_of_key
none_valued low high id [] are less = refl
none_valued low high id (e ∷ es) are less =
    let first = are.0 in
    let other : nat_eq e.key id ≡ false = ne_eqb e.key id (λ same. omega arith) in
    rw other (none_valued (e.key + 1) high id es are.2 (omega arith))

value_first : (e : Entry) (es : List Entry) (id : ℕ) → value_of_key (e ∷ es) id ≡ cond (nat_eq e.key id) (Some e.value) (value_of_key es id)
unfolding value_of_key
value_first e es id = chosen (nat_eq e.key id)
  where
    chosen : (b : Bool) → option_map (λ (x : Entry). x.value) (cond b (Some e) (find (λ (x : Entry). nat_eq x.key id) es))
        ≡ cond b (Some e.value) (option_map (λ (x : Entry). x.value) (find (λ (x : Entry). nat_eq x.key id) es))
    chosen true = refl
    chosen false = refl

none_of_none : (ids : List ℕ) → filter_map (value_of_key []) ids ≡ []
unfolding value_of_key
none_of_none [] = refl
none_of_none (id ∷ ids) = none_of_none ids

absent : (low key : ℕ) (ids : List ℕ) → AscendFrom low ids → key < low → is_id ids key ≡ false
absent low key [] are less = refl
absent low key (id ∷ ids) are less =
    let first = are.0 in
    ap₂ (λ (a b : Bool). a || b) (ne_eqb id key (λ same. omega arith)) (absent (id + 1) key ids are.1 (omega arith))

module _ (key v : ℕ) (h : ℕ → Option ℕ) where
  abbrev with_first : ℕ → Option ℕ
  with_first id = cond (nat_eq key id) (Some v) (h id)

  apart : (low : ℕ) (ids : List ℕ) → AscendFrom low ids → key < low → filter_map with_first ids ≡ filter_map h ids
  apart low [] are less = refl
  apart low (id ∷ ids) are less =
      let first = are.0 in
      ap₂ (λ (b : Bool) (xs : List ℕ). cons_option (cond b (Some v) (h id)) xs) (ne_eqb key id (λ same. omega arith)) (apart (id + 1) ids are.1 (omega arith))

  inserted : (low : ℕ) (ids : List ℕ) → AscendFrom low ids → ((id : ℕ) → id ≤ key → h id ≡ None)
      → filter_map with_first ids ≡ cond (is_id ids key) (v ∷ filter_map h ids) (filter_map h ids)
  inserted low [] are none = refl
  inserted low (id ∷ ids) are none = elim (cases_lt id key) [
    | inl less ↦
        let other : nat_eq key id ≡ false = ne_eqb key id (λ same. omega arith) in
        let apart_too : nat_eq id key ≡ false = ne_eqb id key (λ same. omega arith) in
        let nothing : h id ≡ None = none id (omega arith) in
        ap (λ (b : Bool). cons_option (cond b (Some v) (h id)) (filter_map with_first ids)) other
        ∙ (ap (λ (o : Option ℕ). cons_option o (filter_map with_first ids)) nothing
        ∙ (inserted (id + 1) ids are.1 none
        ∙ ap₂ (λ (b : Bool) (o : Option ℕ). cond (b || is_id ids key) (v ∷ cons_option o (filter_map h ids)) (cons_option o (filter_map h ids))) (sym apart_too) (sym nothing)))
    | inr from ↦ elim (cases_lt key id) [
      | inl more ↦
          let first = are.0 in
          apart id (id ∷ ids) (omega arith, are.1) more
          ∙ ap (λ (b : Bool). cond b (v ∷ filter_map h (id ∷ ids)) (filter_map h (id ∷ ids))) (sym (absent id key (id ∷ ids) (omega arith, are.1) more))
      | inr to ↦
          let same : key ≡ id = omega arith in
          let nothing : h id ≡ None = none id (omega arith) in
          ap₂ (λ (b : Bool) (xs : List ℕ). cons_option (cond b (Some v) (h id)) xs) (eq-eqb key id same) (apart (id + 1) ids are.1 (omega arith))
          ∙ ap₂ (λ (b : Bool) (o : Option ℕ). cond (b || is_id ids key) (v ∷ cons_option o (filter_map h ids)) (cons_option o (filter_map h ids)))
          (sym (eq-eqb id key (sym same))) (sym nothing)
    ]
  ]

values_are : (low high least : ℕ) (ids : List ℕ) (es : List Entry) → AscendFrom least ids → AreAscending low high es → given_values ids es ≡ filter_map (value_of_key es) ids
values_are low high least ids [] ascend are = sym (none_of_none ids)
values_are low high least ids (e ∷ es) ascend are =
    chosen (is_id ids e.key)
    ∙ (ap (λ (xs : List ℕ). cond (is_id ids e.key) (e.value ∷ xs) xs) (values_are (e.key + 1) high least ids es ascend are.2)
    ∙ (sym (inserted e.key e.value (value_of_key es) least ids ascend (λ id order. none_valued (e.key + 1) high id es are.2 (omega arith)))
    ∙ same ids))
  where
    chosen : (b : Bool) → map (λ (x : Entry). x.value) (cond b (e ∷ filter (λ (x : Entry). is_id ids x.key) es) (filter (λ (x : Entry). is_id ids x.key) es))
        ≡ cond b (e.value ∷ given_values ids es) (given_values ids es)
    chosen true = refl
    chosen false = refl

    same : (ks : List ℕ) → filter_map (with_first e.key e.value (value_of_key es)) ks ≡ filter_map (value_of_key (e ∷ es)) ks
    same [] = refl
    same (id ∷ ks) = ap₂ (λ (o : Option ℕ) (xs : List ℕ). cons_option o xs) (sym (value_first e es id)) (same ks)

keys_mapped : (h : ℕ → Option ℕ) (es : List Entry) → filter_map h (map (λ (e : Entry). e.key) es) ≡ filter_map (λ (e : Entry). h e.key) es
keys_mapped h [] = refl
keys_mapped h (e ∷ es) = ap (λ (xs : List ℕ). cons_option (h e.key) xs) (keys_mapped h es)

saved_ascend : (image : List (List ℕ)) (root nr : ℕ) → AreAscending 0 (2 ^ 64) (salvaged_entries 24 nr image root)
unfolding salvaged_entries
saved_ascend image root nr = give_ascends 24 nr image 64 root 0 (2 ^ 64)

-- so that is what the tree gives
pub given_is : (graph : Graph) (image : List (List ℕ)) (nr top root : ℕ) (ids : List ℕ) → AscendFrom 0 ids → graph.nr ≡ nr → ids ≡ ids_below nr image top
    → fold (given_counted ids) (none_given root) (map (item_of details_of) (salvaged_entries 24 nr image root)) ≡ given_at graph image top root
unfolding given_details
given_is graph image nr top root ids ascend number is =
    let es = salvaged_entries 24 nr image root in
    ap (λ (g : Given). fold (given_counted ids) g (map (item_of details_of) es)) (sym (nothing_given root))
    ∙ (counted_from root ids [] es
    ∙ (ap (given_of root)
    (values_are 0 (2 ^ 64) 0 ids es ascend (saved_ascend image root nr)
    ∙ (ap (filter_map (value_of_key es)) is ∙ keys_mapped (value_of_key es) (inside_tops nr image top)))
    ∙ ap (λ (n : ℕ). given_of root (filter_map (λ (e : Entry). value_of_key (salvaged_entries 24 n image root) e.key) (inside_tops n image top))) (sym number)))

-- The best of some trees.

one_given : (o : Option ℕ) (xs : List ℕ) (n : ℕ) → length xs ≤ n → length (cons_option o xs) ≤ n + 1
one_given None xs n rest = omega arith
one_given (Some v) xs n rest = omega arith

no_more_given : (h : Entry → Option ℕ) (es : List Entry) → length (filter_map h es) ≤ length es
no_more_given h [] = omega arith
no_more_given h (e ∷ es) = let more = one_given (h e) (filter_map h es) (length es) (no_more_given h es) in omega arith

given_few : (graph : Graph) (image : List (List ℕ)) (top d : ℕ) → graph.nr ≤ MAX_META_BLOCKS → length (given_details graph image top d) ≤ 2114092800
unfolding given_details
given_few graph image top d few =
    let tops = inside_tops graph.nr image top in
    let all = few_saved 8 graph.nr image top few in
    let kept = no_more_kept (λ (e : Entry). not (is_outside graph.nr e.value)) (salvaged_entries 8 graph.nr image top) in
    let given = no_more_given (λ (e : Entry). value_of_key (salvaged_entries 24 graph.nr image d) e.key) tops in
    omega arith

score_is : (graph : Graph) (image : List (List ℕ)) (top d : ℕ) → graph.nr ≤ MAX_META_BLOCKS → given_score (given_at graph image top d) ≡ details_score graph image top d
unfolding given_of latest
score_is graph image top d few =
    let number = given_few graph image top d few in
    let whole : capped (length (given_details graph image top d)) ≡ length (given_details graph image top d) = omega arith in
    ap (λ (n : ℕ). n ∷ latest (times_given (given_details graph image top d)) ∷ latest (transactions_given (given_details graph image top d)) ∷ d ∷ []) whole

number_is : (graph : Graph) (image : List (List ℕ)) (top d : ℕ) → nat_lt 0 (given_at graph image top d).number ≡ nat_lt 0 (length (given_details graph image top d))
unfolding given_of
number_is graph image top d = some (length (given_details graph image top d))
  where
    some : (n : ℕ) → nat_lt 0 (capped n) ≡ nat_lt 0 n
    some zero = refl
    some (suc n) = lt-ltb 0 (capped (suc n)) (omega arith) ∙ sym (lt-ltb 0 (suc n) (omega arith))

details_is : (graph : Graph) (image : List (List ℕ)) (top d : ℕ) → (given_at graph image top d).details ≡ d
unfolding given_of
details_is graph image top d = refl

-- what the best of the first roots gives, from which the rest goes on
pub record IsBestSoFar (graph : Graph) (image : List (List ℕ)) (top : ℕ) (roots : List ℕ) (i : ℕ) (best : Given) : Type 0 where
  pub is : best ≡ given_at graph image top best.details
  pub rest : best_after graph image top best.details (drop i roots) ≡ best_after graph image top 0 roots

-- block 0 gives nothing
nothing_saved : (nr : ℕ) (image : List (List ℕ)) → salvaged_entries 24 nr image 0 ≡ []
unfolding salvaged_entries salvaged_below
nothing_saved nr image = refl

pub none_first : (graph : Graph) (image : List (List ℕ)) (top : ℕ) (roots : List ℕ) → IsBestSoFar graph image top roots 0 (none_given 0)
unfolding given_details value_of_key
none_first graph image top roots = record {
  is = sym (nothing_given 0) ∙ ap (given_of 0) (sym (ap (λ (es : List Entry). filter_map (λ (e : Entry). value_of_key es e.key) tops) (nothing_saved graph.nr image) ∙ none tops));
  rest = refl;
}
  where
    tops : List Entry
    tops = inside_tops graph.nr image top

    none : (es : List Entry) → filter_map (λ (e : Entry). value_of_key [] e.key) es ≡ []
    none [] = refl
    none (e ∷ es) = none es

-- with one tree more
after_one : (P : ℕ → Bool) (f : ℕ → ℕ → ℕ) (b d : ℕ) (xs : List ℕ) → fold f b (filter P (d ∷ xs)) ≡ fold f (cond (P d) (f b d) b) (filter P xs)
after_one P f b d xs = chosen (P d)
  where
    chosen : (p : Bool) → fold f b (cond p (d ∷ filter P xs) (filter P xs)) ≡ fold f (cond p (f b d) b) (filter P xs)
    chosen true = refl
    chosen false = refl

module _ (graph : Graph) (image : List (List ℕ)) (top : ℕ) (roots : List ℕ) (i : ℕ) (best : Given) (before : IsBestSoFar graph image top roots i best) where
  abbrev gives : ℕ → Bool
  gives d = nat_lt 0 (length (given_details graph image top d))

  abbrev the_rest : ℕ → ℕ
  the_rest b = fold (better_details graph image top) b (filter gives (drop (i + 1) roots))

  picked : (d : ℕ) (p t : Bool) → the_rest (cond p (cond t best.details d) best.details) ≡ best_after graph image top 0 roots
      → IsBestSoFar graph image top roots (i + 1) (cond (p && not t) (given_at graph image top d) best)
  unfolding given_of
  picked d true true rest = record { is = before.is; rest = rest }
  picked d true false rest = record { is = refl; rest = rest }
  picked d false t rest = record { is = before.is; rest = rest }

  its_better : (d : ℕ) → graph.nr ≤ MAX_META_BLOCKS → i < length roots → get_or roots i 0 ≡ d
      → IsBestSoFar graph image top roots (i + 1) (better_given best (given_at graph image top d))
  its_better d few within here =
      let greater : is_greater (given_score best) (given_score (given_at graph image top d)) ≡ is_greater (details_score graph image top best.details) (details_score graph image top d) =
      ap₂ (λ (xs ys : List ℕ). is_greater xs ys) (ap (λ (g : Given). given_score g) before.is ∙ score_is graph image top best.details few) (score_is graph image top d few) in
      let next : drop i roots ≡ d ∷ drop (i + 1) roots =
      drop-cons roots i 0 within ∙ ap₂ (λ (x j : ℕ). x ∷ drop j roots) here (sym (add-one i)) in
      let rest = sym (after_one gives (better_details graph image top) best.details d (drop (i + 1) roots))
      ∙ (ap (λ (xs : List ℕ). best_after graph image top best.details xs) (sym next) ∙ before.rest) in
      subst (IsBestSoFar graph image top roots (i + 1))
      (ap₂ (λ (p t : Bool). cond (p && not t) (given_at graph image top d) best) (sym (number_is graph image top d)) (sym greater))
      (picked d (gives d) (is_greater (details_score graph image top best.details) (details_score graph image top d)) rest)

pub one_better : (graph : Graph) (image : List (List ℕ)) (top : ℕ) (roots : List ℕ) (i : ℕ) (best given : Given) → graph.nr ≤ MAX_META_BLOCKS → i < length roots
    → given ≡ given_at graph image top (get_or roots i 0) → IsBestSoFar graph image top roots i best → IsBestSoFar graph image top roots (i + 1) (better_given best given)
one_better graph image top roots i best given few within is before =
    subst (λ (g : Given). IsBestSoFar graph image top roots (i + 1) (better_given best g)) (sym is)
    (its_better graph image top roots i best before (get_or roots i 0) few within refl)

-- the last of all roots
pub all_better : (graph : Graph) (image : List (List ℕ)) (top : ℕ) (roots : List ℕ) (i : ℕ) (best : Given) → length roots ≤ i → IsBestSoFar graph image top roots i best
    → best ≡ given_at graph image top (best_after graph image top 0 roots)
all_better graph image top roots i best all before =
    before.is ∙ ap (given_at graph image top) (ap (λ (xs : List ℕ). best_after graph image top best.details xs) (sym (nothing roots i all)) ∙ before.rest)
  where
    nothing : (xs : List ℕ) (n : ℕ) → length xs ≤ n → drop n xs ≡ []
    nothing [] zero past = refl
    nothing [] (suc n) past = refl
    nothing (x ∷ xs) zero past = absurd (omega arith)
    nothing (x ∷ xs) (suc n) past = nothing xs n (omega arith)

-- its root is one of them
pub all_at : (P : ℕ → Type 0) (xs : List ℕ) (i : ℕ) → AllByRecursion P xs → i < length xs → P (get_or xs i 0)
all_at P [] i all within = absurd (omega arith)
all_at P (x ∷ xs) zero all within = all.0
all_at P (x ∷ xs) (suc i) all within = all_at P xs i all.1 (omega arith)

pub better_below : (limit : ℕ) (best given : Given) → best.details < limit → given.details < limit → (better_given best given).details < limit
better_below limit best given first second = chosen (nat_lt 0 given.number && not (is_greater (given_score best) (given_score given)))
  where
    chosen : (b : Bool) → (cond b given best).details < limit
    chosen true = second
    chosen false = first
