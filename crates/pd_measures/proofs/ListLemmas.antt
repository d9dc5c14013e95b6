-- Two trees fit each other exactly where their lists of devices are one: over plain lists of entries.
use Rattle.std.proofs.Common.{◌≡◌, ℕ, suc, ◌/◌, ◌%◌, ◌^◌, ◌<◌, Bool, true, ◌&&◌, nat_eq, max, fold, sum_by, List, [], ◌∷◌, ◌++◌, length, map, Option, Some, refl, sym, ◌∙◌, ap, subst, arith, eq-eqb, false, None, Result, Ok, Err, IfOk, IfSome, ap₂}
use Rattle.std.specs.List.{list_all, flat_map, AllByRecursion}
use Rattle.std.specs.Option.{unwrap_or}
use Rattle.std.specs.Str.{bytes_eq}
use Rattle.std.proofs.lemmas.Bool.{ne_eqb, eqb-true, and_parts, and_from, both_ways}
use Rattle.std.proofs.lemmas.List.{length-map}
use Rattle.std.proofs.lemmas.List.Sums.{sum_by-cons}
use Rattle.std.proofs.lemmas.Slice.Eq.{bytes_eq-Decides}
use Rattle.pd_kinds.specs.Node.{Entry}
use Rattle.pd_kinds.specs.Graph.{Graph}
use Rattle.pd_kinds.specs.Meaning.{Mapping, ThinDevice, thin_device}
use Rattle.pd_kinds.specs.ThinFormat.{mapped_block, mapped_time}
use Rattle.pd_kinds.specs.Trees.{keys_of, value_of_key}
use Rattle.pd_kinds.specs.Whole.{mapping_entries, mapped_number}
use Rattle.pd_kinds.proofs.KindLemmas.{the_mapping}
use Rattle.pd_laid.specs.FoundRoots.{times_of}
use Rattle.pd_value.specs.declared.thin.Root.{Root}
use Rattle.pd_value.specs.declared.thin.Details.{Details}
use Rattle.pd_tree.specs.Cursor.{item_of, root_of}
use Rattle.pd_check.specs.Known.{IsUp}
use Rattle.pd_measures.specs.Counts.{DeviceCount, counts_by_details, counts_by_roots, details_times, details_transaction_of, latest, mapping_times, mappings_below, times_below, total_of, are_one, details_of, is_one, pairs_of, key_and_told}
use Rattle.pd_measures.proofs.MeasureLemmas.{latest-append, latest-cons, two}

-- the value at the first key, and at a later one
value_first : (key : ℕ) (d : Entry) (ds : List Entry) → d.key ≡ key → value_of_key (d ∷ ds) key ≡ Some d.value
unfolding value_of_key
value_first key d ds same = rw (eq-eqb d.key key same) refl

value_later : (key : ℕ) (d : Entry) (ds : List Entry) → d.key < key → value_of_key (d ∷ ds) key ≡ value_of_key ds key
unfolding value_of_key
value_later key d ds less = rw (ne_eqb d.key key (λ same. omega arith)) refl

-- a device with a number of mappings
abbrev pub the_count : ℕ → ℕ → DeviceCount
the_count id mapped = record { id = id; mapped = mapped }

module _ (graph : Graph) (image : List (List ℕ)) where
  -- a device by its root and the number of its details
  pub device : Entry → ℕ → ThinDevice
  device top value = record {
    id = top.key;
    mapped = mapped_number value;
    transaction = value / 2 ^ 64 % 2 ^ 64;
    created = value / 2 ^ 128 % 2 ^ 32;
    snapped = value / 2 ^ 160;
    mappings = map (λ (e : Entry). record { virtual_block = e.key; data_block = mapped_block e.value; time = mapped_time e.value })
        (mapping_entries graph image top.value);
  }

  device_is : (ds : List Entry) (top : Entry) → thin_device graph image ds top ≡ device top (unwrap_or (value_of_key ds top.key) 0)
  unfolding thin_device device
  device_is ds top = refl

  -- the devices of two lists with the same keys
  pub zipped : List Entry → List Entry → List ThinDevice
  zipped [] ds = []
  zipped (t ∷ ts) [] = []
  zipped (t ∷ ts) (d ∷ ds) = device t d.value ∷ zipped ts ds

  -- details with a lesser key aren't those of any device
  passed : (d : Entry) (ds ts : List Entry) (low : ℕ) → d.key < low → IsUp low (keys_of ts) → map (thin_device graph image (d ∷ ds)) ts ≡ map (thin_device graph image ds) ts
  passed d ds [] low less up = refl
  passed d ds (t ∷ ts) low less up =
      let first = up.0 in
      let one : thin_device graph image (d ∷ ds) t ≡ thin_device graph image ds t =
      device_is (d ∷ ds) t ∙ (ap (λ (v : Option ℕ). device t (unwrap_or v 0)) (value_later t.key d ds (omega arith)) ∙ sym (device_is ds t)) in
      ap (λ (x : ThinDevice). x ∷ map (thin_device graph image (d ∷ ds)) ts) one
      ∙ ap (λ (xs : List ThinDevice). thin_device graph image ds t ∷ xs) (passed d ds ts (suc t.key) (omega arith) up.1)

  pub devices_are : (ts ds : List Entry) (low : ℕ) → keys_of ts ≡ keys_of ds → IsUp low (keys_of ds) → map (thin_device graph image ds) ts ≡ zipped ts ds
  unfolding zipped
  devices_are [] ds low same up = refl
  devices_are (t ∷ ts) [] low same up = absurd (cc)
  devices_are (t ∷ ts) (d ∷ ds) low same up =
      let key : d.key ≡ t.key = cc in
      let rest : keys_of ts ≡ keys_of ds = cc in
      let one : thin_device graph image (d ∷ ds) t ≡ device t d.value =
      device_is (d ∷ ds) t ∙ ap (λ (v : Option ℕ). device t (unwrap_or v 0)) (value_first t.key d ds key) in
      ap (λ (x : ThinDevice). x ∷ map (thin_device graph image (d ∷ ds)) ts) one
      ∙ ap (λ (xs : List ThinDevice). device t d.value ∷ xs)
      (passed d ds ts (suc d.key) (omega arith) (subst (IsUp (suc d.key)) (sym rest) up.1) ∙ devices_are ts ds (suc d.key) rest up.1)

  -- whether each device has as many mappings as its details say
  abbrev is_counted : ThinDevice → Bool
  is_counted d = nat_eq d.mapped (length d.mappings)

  number_of : (t : Entry) (value : ℕ) → length (device t value).mappings ≡ mappings_below graph image t.value
  unfolding device mappings_below
  number_of t value = length-map {A = Entry} {B = Mapping} (mapping_entries graph image t.value) _

  one_list : (ts ds : List Entry) → keys_of ts ≡ keys_of ds → list_all is_counted (zipped ts ds) ≡ true
      → counts_by_roots (mappings_below graph image) ts ≡ counts_by_details ds
  unfolding zipped device
  one_list [] [] same all = refl
  one_list [] (d ∷ ds) same all = absurd (cc)
  one_list (t ∷ ts) [] same all = absurd (cc)
  one_list (t ∷ ts) (d ∷ ds) same all =
      let key : t.key ≡ d.key = cc in
      let rest : keys_of ts ≡ keys_of ds = cc in
      let parts = and_parts (is_counted (device t d.value)) (list_all is_counted (zipped ts ds)) all in
      let number : mapped_number d.value ≡ mappings_below graph image t.value = eqb-true (mapped_number d.value) (length (device t d.value).mappings) parts.0 ∙ number_of t d.value in
      let later = one_list ts ds rest parts.1 in
      let one : the_count t.key (mappings_below graph image t.value) ≡ the_count d.key (mapped_number d.value) =
      ap (λ (k : ℕ). the_count k (mappings_below graph image t.value)) key ∙ ap (λ (n : ℕ). the_count d.key n) (sym number) in
      ap (λ (c : DeviceCount). c ∷ counts_by_roots (mappings_below graph image) ts) one
      ∙ ap (λ (cs : List DeviceCount). the_count d.key (mapped_number d.value) ∷ cs) later

  -- and the other way round
  same_keys : (below : ℕ → ℕ) (ts ds : List Entry) → counts_by_roots below ts ≡ counts_by_details ds → keys_of ts ≡ keys_of ds
  same_keys below [] [] same = refl
  same_keys below [] (d ∷ ds) same = absurd (cc)
  same_keys below (t ∷ ts) [] same = absurd (cc)
  same_keys below (t ∷ ts) (d ∷ ds) same =
      let head : the_count t.key (below t.value) ≡ the_count d.key (mapped_number d.value) = cc in
      let one : t.key ≡ d.key = ap (λ (c : DeviceCount). c.id) head in
      let rest : counts_by_roots below ts ≡ counts_by_details ds = cc in
      ap (λ (k : ℕ). k ∷ keys_of ts) one ∙ ap (λ (ks : List ℕ). d.key ∷ ks) (same_keys below ts ds rest)

  all_counted : (ts ds : List Entry) → counts_by_roots (mappings_below graph image) ts ≡ counts_by_details ds → list_all is_counted (zipped ts ds) ≡ true
  unfolding zipped device
  all_counted [] ds same = refl
  all_counted (t ∷ ts) [] same = refl
  all_counted (t ∷ ts) (d ∷ ds) same =
      let head : the_count t.key (mappings_below graph image t.value) ≡ the_count d.key (mapped_number d.value) = cc in
      let number : mappings_below graph image t.value ≡ mapped_number d.value = ap (λ (c : DeviceCount). c.mapped) head in
      let rest : counts_by_roots (mappings_below graph image) ts ≡ counts_by_details ds = cc in
      and_from (is_counted (device t d.value)) (list_all is_counted (zipped ts ds))
      (eq-eqb (mapped_number d.value) (length (device t d.value).mappings) (sym number ∙ sym (number_of t d.value)))
      (all_counted ts ds rest)

  -- so their numbers and their times
  total_is : (ts ds : List Entry) → counts_by_roots (mappings_below graph image) ts ≡ counts_by_details ds
      → sum_by (λ (d : ThinDevice). d.mapped) (zipped ts ds) ≡ total_of (counts_by_roots (mappings_below graph image) ts)
  unfolding zipped device
  total_is [] ds same = refl
  total_is (t ∷ ts) [] same = absurd (cc)
  total_is (t ∷ ts) (d ∷ ds) same =
      let head : the_count t.key (mappings_below graph image t.value) ≡ the_count d.key (mapped_number d.value) = cc in
      let number : mappings_below graph image t.value ≡ mapped_number d.value = ap (λ (c : DeviceCount). c.mapped) head in
      let rest : counts_by_roots (mappings_below graph image) ts ≡ counts_by_details ds = cc in
      let later = total_is ts ds rest in
      let here = sum_by-cons (λ (x : ThinDevice). x.mapped) (device t d.value) (zipped ts ds) in
      let there = sum_by-cons (λ (c : DeviceCount). c.mapped) (the_count t.key (mappings_below graph image t.value)) (counts_by_roots (mappings_below graph image) ts) in
      here ∙ (two (mapped_number d.value) (mappings_below graph image t.value) _ _ (sym number) later ∙ sym there)

  times_are : (es : List Entry)
      → map (λ (m : Mapping). m.time) (map (λ (e : Entry). record { virtual_block = e.key; data_block = mapped_block e.value; time = mapped_time e.value }) es)
      ≡ map (λ (e : Entry). mapped_time e.value) es
  times_are [] = refl
  times_are (e ∷ es) = ap (λ (ts : List ℕ). mapped_time e.value ∷ ts) (times_are es)

  device_time : (t : Entry) (value : ℕ)
      → latest (times_of (device t value)) ≡ max (value / 2 ^ 128 % 2 ^ 32) (max (value / 2 ^ 160) (latest (mapping_times graph image t.value)))
  unfolding device
  device_time t value =
      let made = value / 2 ^ 128 % 2 ^ 32 in
      let shared = value / 2 ^ 160 in
      ap (λ (ts : List ℕ). latest (made ∷ shared ∷ ts)) (times_are (mapping_entries graph image t.value))
      ∙ (latest-cons made (shared ∷ mapping_times graph image t.value)
      ∙ ap (λ (n : ℕ). max made n) (latest-cons shared (mapping_times graph image t.value)))

  four : (made shared here tops details devices : ℕ) → devices ≡ max tops details
      → max (max made (max shared here)) devices ≡ max (max here tops) (max made (max shared details))
  four made shared here tops details devices e = omega arith

  time_is : (ts ds : List Entry) → keys_of ts ≡ keys_of ds
      → latest (flat_map times_of (zipped ts ds))
      ≡ max (latest (flat_map (λ (e : Entry). mapping_times graph image e.value) ts)) (latest (flat_map (λ (e : Entry). details_times e.value) ds))
  unfolding zipped
  time_is [] [] same = none_max (latest [])
    where
      none_max : (n : ℕ) → n ≡ max n n
      none_max n = omega arith
  time_is [] (d ∷ ds) same = absurd (cc)
  time_is (t ∷ ts) [] same = absurd (cc)
  time_is (t ∷ ts) (d ∷ ds) same =
      let rest : keys_of ts ≡ keys_of ds = cc in
      let made = d.value / 2 ^ 128 % 2 ^ 32 in
      let shared = d.value / 2 ^ 160 in
      let here = mapping_times graph image t.value in
      let tops = flat_map (λ (e : Entry). mapping_times graph image e.value) ts in
      let later = flat_map (λ (e : Entry). details_times e.value) ds in
      let devices = flat_map times_of (zipped ts ds) in
      latest-append (times_of (device t d.value)) devices
      ∙ (ap (λ (n : ℕ). max n (latest devices)) (device_time t d.value)
      ∙ (four made shared (latest here) (latest tops) (latest later) (latest devices) (time_is ts ds rest)
      ∙ (ap (λ (n : ℕ). max n (max made (max shared (latest later)))) (sym (latest-append here tops))
      ∙ ap (λ (n : ℕ). max (latest (here ++ tops)) n)
      (sym (latest-cons made (shared ∷ later) ∙ ap (λ (n : ℕ). max made n) (latest-cons shared later))))))

  -- the transactions are those of the details
  transactions_are : (ts ds : List Entry) → keys_of ts ≡ keys_of ds
      → map (λ (d : ThinDevice). d.transaction) (zipped ts ds) ≡ map (λ (e : Entry). details_transaction_of e.value) ds
  unfolding zipped device
  transactions_are [] [] same = refl
  transactions_are [] (d ∷ ds) same = absurd (cc)
  transactions_are (t ∷ ts) [] same = absurd (cc)
  transactions_are (t ∷ ts) (d ∷ ds) same =
      let rest : keys_of ts ≡ keys_of ds = cc in
      ap (λ (ns : List ℕ). details_transaction_of d.value ∷ ns) (transactions_are ts ds rest)

  -- and the times those of the mappings
  entries_sum : (es : List Entry)
      → sum_by (λ (m : Mapping). m.time) (map (λ (e : Entry). record { virtual_block = e.key; data_block = mapped_block e.value; time = mapped_time e.value }) es)
      ≡ sum_by (λ (e : Entry). mapped_time e.value) es
  entries_sum [] = refl
  entries_sum (e ∷ es) =
      sum_by-cons (λ (m : Mapping). m.time) (the_mapping e) (map the_mapping es)
      ∙ (two (mapped_time e.value) (mapped_time e.value) _ _ refl (entries_sum es) ∙ sym (sum_by-cons (λ (e : Entry). mapped_time e.value) e es))

  times_sum : (ts ds : List Entry) → keys_of ts ≡ keys_of ds
      → sum_by (λ (d : ThinDevice). sum_by (λ (m : Mapping). m.time) d.mappings) (zipped ts ds) ≡ sum_by (λ (e : Entry). times_below graph image e.value) ts
  unfolding zipped device times_below
  times_sum [] [] same = refl
  times_sum [] (d ∷ ds) same = absurd (cc)
  times_sum (t ∷ ts) [] same = absurd (cc)
  times_sum (t ∷ ts) (d ∷ ds) same =
      let rest : keys_of ts ≡ keys_of ds = cc in
      sum_by-cons (λ (d : ThinDevice). sum_by (λ (m : Mapping). m.time) d.mappings) (device t d.value) (zipped ts ds)
      ∙ (two _ _ _ _ (entries_sum (mapping_entries graph image t.value)) (times_sum ts ds rest)
      ∙ sym (sum_by-cons (λ (e : Entry). times_below graph image e.value) t ts))

latest_is : (times : List ℕ) → fold max 0 times ≡ latest times
unfolding latest
latest_is times = refl

-- the list of two trees, where their entries' keys ascend
module _ (graph : Graph) (image : List (List ℕ)) (ts ds : List Entry) (up : IsUp 0 (keys_of ds)) where
  -- the tests of two trees that fit each other
  abbrev pub fits : Bool
  fits = bytes_eq (keys_of ts) (keys_of ds) && list_all (λ (d : ThinDevice). nat_eq d.mapped (length d.mappings)) (map (thin_device graph image ds) ts)

  pub fits_keys : fits ≡ true → keys_of ts ≡ keys_of ds
  fits_keys e = (bytes_eq-Decides (keys_of ts) (keys_of ds)).0 (and_parts _ _ e).0

  pub fits_list : fits ≡ true → counts_by_roots (mappings_below graph image) ts ≡ counts_by_details ds
  fits_list e =
      let same = fits_keys e in
      one_list graph image ts ds same
      (ap (list_all (is_counted graph image)) (sym (devices_are graph image ts ds 0 same up)) ∙ (and_parts _ _ e).1)

  pub list_fits : counts_by_roots (mappings_below graph image) ts ≡ counts_by_details ds → fits ≡ true
  list_fits e =
      let same = same_keys graph image (mappings_below graph image) ts ds e in
      and_from (bytes_eq (keys_of ts) (keys_of ds)) _
      ((bytes_eq-Decides (keys_of ts) (keys_of ds)).1 same)
      (ap (list_all (is_counted graph image)) (devices_are graph image ts ds 0 same up) ∙ all_counted graph image ts ds e)

  pub fits_total : fits ≡ true
      → sum_by (λ (d : ThinDevice). d.mapped) (map (thin_device graph image ds) ts) ≡ total_of (counts_by_roots (mappings_below graph image) ts)
  fits_total e =
      ap (sum_by (λ (d : ThinDevice). d.mapped)) (devices_are graph image ts ds 0 (fits_keys e) up) ∙ total_is graph image ts ds (fits_list e)

  pub fits_time : fits ≡ true → fold max 0 (flat_map times_of (map (thin_device graph image ds) ts))
      ≡ max (latest (flat_map (λ (e : Entry). mapping_times graph image e.value) ts)) (latest (flat_map (λ (e : Entry). details_times e.value) ds))
  fits_time e =
      latest_is (flat_map times_of (map (thin_device graph image ds) ts))
      ∙ (ap (λ (xs : List ThinDevice). latest (flat_map times_of xs)) (devices_are graph image ts ds 0 (fits_keys e) up) ∙ time_is graph image ts ds (fits_keys e))

  pub fits_transaction : fits ≡ true → fold max 0 (map (λ (d : ThinDevice). d.transaction) (map (thin_device graph image ds) ts))
      ≡ latest (map (λ (e : Entry). details_transaction_of e.value) ds)
  fits_transaction e =
      latest_is _
      ∙ ap latest
      (ap (map (λ (d : ThinDevice). d.transaction)) (devices_are graph image ts ds 0 (fits_keys e) up) ∙ transactions_are graph image ts ds (fits_keys e))

  pub fits_times : fits ≡ true → sum_by (λ (d : ThinDevice). sum_by (λ (m : Mapping). m.time) d.mappings) (map (thin_device graph image ds) ts)
      ≡ sum_by (λ (e : Entry). times_below graph image e.value) ts
  fits_times e =
      ap (sum_by (λ (d : ThinDevice). sum_by (λ (m : Mapping). m.time) d.mappings)) (devices_are graph image ts ds 0 (fits_keys e) up)
      ∙ times_sum graph image ts ds (fits_keys e)

-- Lists of devices, compared entry by entry.

-- entries as cursors give them
module _ (below number : ℕ → ℕ) where
  abbrev tops_of : List Entry → List (ℕ × Root)
  tops_of ts = map (item_of root_of) ts

  abbrev details_from : List Entry → List (ℕ × Details)
  details_from ds = map (item_of details_of) ds

  pub one_by_items : (ts ds : List Entry) → AllByRecursion (λ (e : Entry). below e.value ≡ number e.value) ts → are_one below (tops_of ts) (details_from ds) ≡ true
      → counts_by_roots number ts ≡ counts_by_details ds
  one_by_items [] [] told e = refl
  one_by_items [] (d ∷ ds) told e = absurd (both_ways false refl e)
  one_by_items (t ∷ ts) [] told e = absurd (both_ways false refl e)
  one_by_items (t ∷ ts) (d ∷ ds) told e =
      let parts = and_parts (is_one below (item_of root_of t) (item_of details_of d)) (are_one below (tops_of ts) (details_from ds)) e in
      let here = and_parts (nat_eq t.key d.key) (nat_eq (below t.value) (details_of d.value).mapped) parts.0 in
      let key : t.key ≡ d.key = eqb-true t.key d.key here.0 in
      let mapped : number t.value ≡ (details_of d.value).mapped = sym told.0 ∙ eqb-true (below t.value) (details_of d.value).mapped here.1 in
      ap (λ (k : ℕ). the_count k (number t.value) ∷ counts_by_roots number ts) key
      ∙ (ap (λ (n : ℕ). the_count d.key n ∷ counts_by_roots number ts) mapped
      ∙ ap (λ (cs : List DeviceCount). the_count d.key (details_of d.value).mapped ∷ cs) (one_by_items ts ds told.1 parts.1))

  pub items_by_one : (ts ds : List Entry) → AllByRecursion (λ (e : Entry). below e.value ≡ number e.value) ts
      → counts_by_roots number ts ≡ counts_by_details ds → are_one below (tops_of ts) (details_from ds) ≡ true
  items_by_one [] [] told e = refl
  items_by_one [] (d ∷ ds) told e = absurd (cc)
  items_by_one (t ∷ ts) [] told e = absurd (cc)
  items_by_one (t ∷ ts) (d ∷ ds) told e =
      let head : the_count t.key (number t.value) ≡ the_count d.key (details_of d.value).mapped = cc in
      let rest : counts_by_roots number ts ≡ counts_by_details ds = cc in
      and_from (is_one below (item_of root_of t) (item_of details_of d)) (are_one below (tops_of ts) (details_from ds))
      (and_from (nat_eq t.key d.key) (nat_eq (below t.value) (details_of d.value).mapped)
      (eq-eqb t.key d.key (ap (λ (c : DeviceCount). c.id) head))
      (eq-eqb (below t.value) (details_of d.value).mapped (told.0 ∙ ap (λ (c : DeviceCount). c.mapped) head)))
      (items_by_one ts ds told.1 rest)

-- The entries of trees, as cursors give them, as pairs of a device's id and its number of mappings.

pub tops_listed : (below number : ℕ → ℕ) (ts : List Entry) → AllByRecursion (λ (e : Entry). below e.value ≡ number e.value) ts
    → map (key_and_told (λ (root : Root). below root.0)) (map (item_of root_of) ts) ≡ pairs_of (counts_by_roots number ts)
tops_listed below number [] told = refl
tops_listed below number (t ∷ ts) told =
    ap₂ (λ (n : ℕ) (rest : List (ℕ × ℕ)). (t.key, n) ∷ rest) told.0 (tops_listed below number ts told.1)

pub details_listed : (ds : List Entry) → map (key_and_told (λ (details : Details). details.mapped)) (map (item_of details_of) ds) ≡ pairs_of (counts_by_details ds)
details_listed [] = refl
details_listed (d ∷ ds) = ap (λ (rest : List (ℕ × ℕ)). (d.key, (details_of d.value).mapped) ∷ rest) (details_listed ds)

-- what holds of an answer over what a device tells
pub ok_some : {T E X : Type 0} → (r : Result T E) (o : Option X) (P Q : T → X → Type 0) → ((t : T) (x : X) → P t x → Q t x)
    → IfOk r (λ t. IfSome o (P t)) → IfOk r (λ t. IfSome o (Q t))
ok_some (Ok t) (Some x) P Q f p = f t x p
ok_some (Ok t) None P Q f p = tt
ok_some (Err e) o P Q f p = tt
