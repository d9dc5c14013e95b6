-- The states of mapping trees, put in their places one after another.
use Rattle.std.proofs.Common.{◌≡◌, ℕ, ◌+◌, ◌-◌, ◌/◌, ◌%◌, ◌^◌, ◌<◌, ◌≤◌, max, Bool, true, false, ◌&&◌, not, cond, List, [], ◌∷◌, ◌++◌, length, map, filter, sum_by, Option, Some, None, refl, sym, ◌∙◌, ap, append_assoc, arith, unwrap_or}
use Rattle.std.specs.List.{AllByRecursion, cons_option, filter_map, flat_map}
use Rattle.std.proofs.lemmas.List.{append-nil, length-map}
use Rattle.pd_kinds.specs.declared.limits.TheConstants.{MAX_META_BLOCKS}
use Rattle.pd_kinds.specs.Graph.{Graph, is_outside}
use Rattle.pd_kinds.specs.Meaning.{Mapping, ThinDevice}
use Rattle.pd_kinds.specs.Node.{Entry}
use Rattle.pd_kinds.specs.Trees.{value_of_key}
use Rattle.pd_kinds.proofs.ListLemmas.{length-flat_map}
use Rattle.pd_laid.specs.FoundRoots.{times_of}
use Rattle.pd_laid.specs.Salvage.{salvaged_device, salvaged_entries}
use Rattle.pd_value.specs.declared.thin.Root.{Root}
use Rattle.pd_tree.specs.Cursor.{item_of, root_of}
use Rattle.pd_measures.specs.Counts.{latest}
use Rattle.pd_measures.proofs.MeasureLemmas.{latest-append, latest-cons, latest-nil}
use Rattle.pd_answers.specs.DamagedStates.{bare_fields, kept_devices, kept_number, kept_roots}
use Rattle.pd_damaged.specs.Given.{AscendFrom, ids_below, ids_left, inside_tops, times_given, transactions_given}
use Rattle.pd_damaged.specs.Kept.{is_kept, kept_below}
use Rattle.pd_damaged.proofs.FewLemmas.{few_saved, few_times, no_more_kept}
use Rattle.pd_damaged.proofs.TopLemmas.{devices_number, devices_of, devices_times}

-- The ids of devices, as a cursor gives them.

-- with one entry more
pub ids_more : (nr : ℕ) (ids new : List ℕ) (item : ℕ × Root) (left later : List (ℕ × Root)) (all : List ℕ) → left ≡ item ∷ later
    → new ≡ ids ++ cond (not (is_outside nr item.1.0)) (item.0 ∷ []) [] → ids ++ ids_left nr left ≡ all → new ++ ids_left nr later ≡ all
ids_more nr ids new item left later all next more before =
    ap (λ (xs : List ℕ). xs ++ ids_left nr later) more
    ∙ (chosen (not (is_outside nr item.1.0)) ∙ (ap (λ (xs : List (ℕ × Root)). ids ++ ids_left nr xs) (sym next) ∙ before))
  where
    chosen : (b : Bool) → (ids ++ cond b (item.0 ∷ []) []) ++ ids_left nr later
        ≡ ids ++ map (λ (i : ℕ × Root). i.0) (cond b (item ∷ filter (λ (i : ℕ × Root). not (is_outside nr i.1.0)) later) (filter (λ (i : ℕ × Root). not (is_outside nr i.1.0)) later))
    chosen true = append_assoc ids (item.0 ∷ []) (ids_left nr later)
    chosen false = ap (λ (xs : List ℕ). xs ++ ids_left nr later) (append-nil ids)

pub ids_ascend : (low least id : ℕ) (ids : List ℕ) (b : Bool) → low ≤ id → least ≤ id → AscendFrom low ids → AllByRecursion (λ (x : ℕ). x < least) ids
    → AscendFrom low (ids ++ cond b (id ∷ []) [])
ids_ascend low least id [] true from order are below = (from, tt)
ids_ascend low least id [] false from order are below = tt
ids_ascend low least id (x ∷ ids) b from order are below =
    let first = below.0 in
    (are.0, ids_ascend (x + 1) least id ids b (omega arith) order are.1 below.1)

pub ids_below_next : (least id next : ℕ) (ids : List ℕ) (b : Bool) → least ≤ id → next ≡ id + 1 → AllByRecursion (λ (x : ℕ). x < least) ids
    → AllByRecursion (λ (x : ℕ). x < next) (ids ++ cond b (id ∷ []) [])
ids_below_next least id next [] true order is below = (omega arith, tt)
ids_below_next least id next [] false order is below = tt
ids_below_next least id next (x ∷ ids) b order is below =
    let first = below.0 in
    (omega arith, ids_below_next least id next ids b order is below.1)

pub ids_mapped : (nr : ℕ) (image : List (List ℕ)) (top : ℕ) → ids_left nr (map (item_of root_of) (salvaged_entries 8 nr image top)) ≡ ids_below nr image top
ids_mapped nr image top = each (salvaged_entries 8 nr image top)
  where
    each : (es : List Entry) → ids_left nr (map (item_of root_of) es) ≡ map (λ (e : Entry). e.key) (filter (λ (e : Entry). not (is_outside nr e.value)) es)
    each [] = refl
    each (e ∷ es) = chosen (not (is_outside nr e.value)) (each es)
      where
        chosen : (b : Bool) → ids_left nr (map (item_of root_of) es) ≡ map (λ (x : Entry). x.key) (filter (λ (x : Entry). not (is_outside nr x.value)) es)
            → map (λ (i : ℕ × Root). i.0) (cond b (item_of root_of e ∷ filter (λ (i : ℕ × Root). not (is_outside nr i.1.0)) (map (item_of root_of) es))
            (filter (λ (i : ℕ × Root). not (is_outside nr i.1.0)) (map (item_of root_of) es)))
            ≡ map (λ (x : Entry). x.key) (cond b (e ∷ filter (λ (x : Entry). not (is_outside nr x.value)) es) (filter (λ (x : Entry). not (is_outside nr x.value)) es))
        chosen true rest = ap (λ (xs : List ℕ). e.key ∷ xs) rest
        chosen false rest = rest

-- What is kept of a mapping tree is few.

pub filter_both : (p q : ℕ → Bool) (xs : List ℕ) → filter q (filter p xs) ≡ filter (λ x. p x && q x) xs
filter_both p q [] = refl
filter_both p q (x ∷ xs) = chosen (p x) (q x) refl (filter_both p q xs)
  where
    chosen : (a b : Bool) → q x ≡ b → filter q (filter p xs) ≡ filter (λ y. p y && q y) xs
        → filter q (cond a (x ∷ filter p xs) (filter p xs)) ≡ cond (a && q x) (x ∷ filter (λ y. p y && q y) xs) (filter (λ y. p y && q y) xs)
    chosen true true is rest = rw is (ap (λ (ys : List ℕ). x ∷ ys) rest)
    chosen true false is rest = rw is rest
    chosen false b is rest = rest

module _ (graph : Graph) (image : List (List ℕ)) (top details : ℕ) (few : graph.nr ≤ MAX_META_BLOCKS) where
  abbrev tops : List Entry
  tops = inside_tops graph.nr image top

  abbrev below : Entry → List Entry
  below e = kept_below graph.nr graph.data_blocks image e.value

  few_tops : length tops ≤ 2114092800
  few_tops =
      let all = few_saved 8 graph.nr image top few in
      let kept = no_more_kept (λ (e : Entry). not (is_outside graph.nr e.value)) (salvaged_entries 8 graph.nr image top) in
      omega arith

  few_below : (e : Entry) → length (below e) ≤ 2114092800
  unfolding kept_below
  few_below e =
      let all = few_saved 8 graph.nr image e.value few in
      let kept = no_more_kept (is_kept graph.data_blocks) (salvaged_entries 8 graph.nr image e.value) in
      omega (arith, all, kept)

  few_all : length (flat_map below tops) ≤ 4469388367011840000
  few_all =
      let all = length-flat_map below 2114092800 few_below tops in
      let number = few_tops in
      omega arith

  pub devices_few : length (kept_devices graph image top details) < 2 ^ 64 - 1
  devices_few =
      let is = ap (λ (ds : List ThinDevice). length ds) (devices_of graph image top details tops refl) ∙ length-map tops (salvaged_device (bare_fields graph top details) image) in
      let number = few_tops in
      omega arith

  pub number_few : kept_number (kept_devices graph image top details) < 2 ^ 64 - 1
  number_few =
      let is = ap kept_number (devices_of graph image top details tops refl) ∙ devices_number graph image top details tops in
      let number = few_all in
      omega arith

  pub times_few : (kept_roots graph image top details).times < 2 ^ 128 - 1
  times_few =
      let is = ap (λ (ds : List ThinDevice). sum_by (λ (d : ThinDevice). sum_by (λ (m : Mapping). m.time) d.mappings) ds) (devices_of graph image top details tops refl)
      ∙ devices_times graph image top details tops in
      let most = few_times (flat_map below tops) in
      let number = few_all in
      omega arith

-- The times and transactions of what is kept, with the details that are given.

abbrev mapping_times_of : ThinDevice → List ℕ
mapping_times_of d = map (λ (m : Mapping). m.time) d.mappings

module _ (graph : Graph) (image : List (List ℕ)) (top details : ℕ) where
  abbrev device : Entry → ThinDevice
  device e = salvaged_device (bare_fields graph top details) image e

  abbrev value : Entry → Option ℕ
  value e = value_of_key (salvaged_entries 24 graph.nr image details) e.key

  -- one device's times, by what is given for it
  own_times : (e : Entry) → latest (times_of (device e)) ≡ max (latest (mapping_times_of (device e))) (latest (times_given (cons_option (value e) [])))
  unfolding salvaged_device
  own_times e = chosen (value e)
    where
      chosen : (o : Option ℕ) → latest ((unwrap_or o 0 / 2 ^ 128 % 2 ^ 32) ∷ (unwrap_or o 0 / 2 ^ 160) ∷ mapping_times_of (device e))
          ≡ max (latest (mapping_times_of (device e))) (latest (times_given (cons_option o [])))
      chosen None =
          let first = latest-cons (0 / 2 ^ 128 % 2 ^ 32) ((0 / 2 ^ 160) ∷ mapping_times_of (device e)) in
          let second = latest-cons (0 / 2 ^ 160) (mapping_times_of (device e)) in
          let none = latest-nil in
          omega arith
      chosen (Some v) =
          let first = latest-cons (v / 2 ^ 128 % 2 ^ 32) ((v / 2 ^ 160) ∷ mapping_times_of (device e)) in
          let second = latest-cons (v / 2 ^ 160) (mapping_times_of (device e)) in
          let third = latest-cons (v / 2 ^ 128 % 2 ^ 32) ((v / 2 ^ 160) ∷ []) in
          let last = latest-cons (v / 2 ^ 160) [] in
          let none = latest-nil in
          omega arith

  one_time : (o : Option ℕ) (vs : List ℕ) → latest (times_given (cons_option o vs)) ≡ max (latest (times_given (cons_option o []))) (latest (times_given vs))
  one_time None vs = let none = latest-nil in omega arith
  one_time (Some v) vs =
      let first = latest-cons (v / 2 ^ 128 % 2 ^ 32) ((v / 2 ^ 160) ∷ times_given vs) in
      let second = latest-cons (v / 2 ^ 160) (times_given vs) in
      let third = latest-cons (v / 2 ^ 128 % 2 ^ 32) ((v / 2 ^ 160) ∷ []) in
      let last = latest-cons (v / 2 ^ 160) [] in
      let none = latest-nil in
      omega arith

  pub all_times : (es : List Entry) → latest (flat_map times_of (map device es))
      ≡ max (latest (flat_map mapping_times_of (map device es))) (latest (times_given (filter_map value es)))
  all_times [] = let none = latest-nil in omega arith
  all_times (e ∷ es) =
      let own = own_times e in
      let rest = all_times es in
      let all = latest-append (times_of (device e)) (flat_map times_of (map device es)) in
      let mapped = latest-append (mapping_times_of (device e)) (flat_map mapping_times_of (map device es)) in
      let given = one_time (value e) (filter_map value es) in
      omega arith

  own_transaction : (e : Entry) (vs : List ℕ) → latest (transactions_given (cons_option (value e) vs)) ≡ max (device e).transaction (latest (transactions_given vs))
  unfolding salvaged_device
  own_transaction e vs = chosen (value e)
    where
      chosen : (o : Option ℕ) → latest (transactions_given (cons_option o vs)) ≡ max (unwrap_or o 0 / 2 ^ 64 % 2 ^ 64) (latest (transactions_given vs))
      chosen None = omega arith
      chosen (Some v) = latest-cons (v / 2 ^ 64 % 2 ^ 64) (transactions_given vs)

  pub all_transactions : (es : List Entry) → latest (map (λ (d : ThinDevice). d.transaction) (map device es)) ≡ latest (transactions_given (filter_map value es))
  all_transactions [] = refl
  all_transactions (e ∷ es) =
      let rest = all_transactions es in
      let all = latest-cons (device e).transaction (map (λ (d : ThinDevice). d.transaction) (map device es)) in
      let given = own_transaction e (filter_map value es) in
      omega arith
