-- Where the mappings of devices stand: how many of them lead to a data block, and what is among a list, by cases on it.
use Rattle.std.proofs.Common.{◌≡◌, ◌⊎◌, inl, inr, ℕ, ◌+◌, ◌<◌, ◌≤◌, Bool, true, false, cond, nat_eq, not, ◌&&◌, List, [], ◌∷◌, ◌++◌, map, filter, refl, sym, ap, subst, ◌∙◌, arith}
use Rattle.std.specs.List.{All, AllByRecursion, Contains, count_by, flat_map}
use Rattle.std.proofs.lemmas.Bool.{both_ways, cases_Bool, eq-eqb, eqb-true, ne_eqb}
use Rattle.std.proofs.lemmas.List.{map-append}
use Rattle.std.proofs.lemmas.List.Elements.{All-cons, All-contains, All-nil, All-weaker}
use Rattle.std.proofs.lemmas.List.Folds.{fold-map}
use Rattle.std.proofs.lemmas.List.Sums.{sum_by-append, sum_by-cons}
use Rattle.pd_kinds.specs.Meaning.{Mapping, ThinDevice}
use Rattle.pd_grammar.specs.Lawful.{AreDevices, AreMappings}
use Rattle.pd_laws_answers.proofs.SharingLemmas.{first_among, later_among}

-- an item is among a list
abbrev pub Has : {X : Type 0} → List X → X → Type 0
Has [] x = ⊥
Has (y ∷ ys) x = (y ≡ x) ⊎ Has ys x

module _ {X : Type 0} where
  all_here : (xs : List X) → All (Has xs) xs
  all_here [] = All-nil (Has [])
  all_here (x ∷ xs) = All-cons (Has (x ∷ xs)) x xs (inl refl) (All-weaker (Has xs) (Has (x ∷ xs)) (λ y later. inr later) xs (all_here xs))

  pub has : (xs : List X) (x : X) → Contains xs x → Has xs x
  has xs x here = All-contains (Has xs) xs x (all_here xs) here

  pub among : (xs : List X) (x : X) → Has xs x → Contains xs x
  among [] x here = absurd here
  among (y ∷ ys) x (inl same) = rw same (first_among x ys)
  among (y ∷ ys) x (inr later) = later_among y x ys (among ys x later)

  pub has_left : (xs ys : List X) (x : X) → Has xs x → Has (xs ++ ys) x
  has_left [] ys x here = absurd here
  has_left (z ∷ xs) ys x (inl same) = inl same
  has_left (z ∷ xs) ys x (inr later) = inr (has_left xs ys x later)

  pub has_right : (xs ys : List X) (x : X) → Has ys x → Has (xs ++ ys) x
  has_right [] ys x here = here
  has_right (z ∷ xs) ys x here = inr (has_right xs ys x here)

  pub has_cases : (xs ys : List X) (x : X) → Has (xs ++ ys) x → Has xs x ⊎ Has ys x
  has_cases [] ys x here = inr here
  has_cases (z ∷ xs) ys x (inl same) = inl (inl same)
  has_cases (z ∷ xs) ys x (inr later) = elim (has_cases xs ys x later) [ inl left ↦ inl (inr left) | inr right ↦ inr right ]

  pub all_has : (P : X → Type 0) (xs : List X) (x : X) → AllByRecursion P xs → Has xs x → P x
  all_has P [] x all here = absurd here
  all_has P (y ∷ ys) x all (inl same) = subst P same all.0
  all_has P (y ∷ ys) x all (inr later) = all_has P ys x all.1 later

  pub has_kept : (p : X → Bool) (xs : List X) (x : X) → Has xs x → p x ≡ true → Has (filter p xs) x
  has_kept p [] x here passes = absurd here
  has_kept p (y ∷ ys) x (inl same) passes = rw (ap p same ∙ passes) (inl same)
  has_kept p (y ∷ ys) x (inr later) passes = elim (cases_Bool (p y)) [
    | inl also ↦ rw also (inr (has_kept p ys x later passes))
    | inr not_it ↦ rw not_it (has_kept p ys x later passes)
  ]

-- an item of a mapped list
pub record IsMapped {X Y : Type 0} (f : X → Y) (xs : List X) (y : Y) : Type 0 where
  pub item : X
  pub here : Has xs item
  pub is : f item ≡ y

module _ {X Y : Type 0} (f : X → Y) where
  pub has_mapped : (xs : List X) (x : X) → Has xs x → Has (map f xs) (f x)
  has_mapped [] x here = absurd here
  has_mapped (y ∷ ys) x (inl same) = inl (ap f same)
  has_mapped (y ∷ ys) x (inr later) = inr (has_mapped ys x later)

  pub is_mapped : (xs : List X) (y : Y) → Has (map f xs) y → IsMapped f xs y
  is_mapped [] y here = absurd here
  is_mapped (x ∷ xs) y (inl same) = record { item = x; here = inl refl; is = same }
  is_mapped (x ∷ xs) y (inr later) = let of = is_mapped xs y later in record { item = of.item; here = inr of.here; is = of.is }

-- how many items pass a test
pub record HasPassing {X : Type 0} (p : X → Bool) (xs : List X) : Type 0 where
  pub item : X
  pub here : Has xs item
  pub passes : p item ≡ true

module _ {X : Type 0} (p : X → Bool) where
  pub counted : (x : X) (xs : List X) → count_by p (x ∷ xs) ≡ cond (p x) 1 0 + count_by p xs
  counted x xs = sum_by-cons (λ y. cond (p y) 1 0) x xs

  one_counted : (xs : List X) (x : X) → Has xs x → p x ≡ true → 1 ≤ count_by p xs
  one_counted [] x here passes = absurd here
  one_counted (y ∷ ys) x (inl same) passes = rw (counted y ys, ap p same ∙ passes) (omega arith)
  one_counted (y ∷ ys) x (inr later) passes = rw (counted y ys) (omega (arith, one_counted ys x later passes))

  -- two that differ count two
  pub two_counted : (xs : List X) (x y : X) → Has xs x → Has xs y → (x ≡ y → ⊥) → p x ≡ true → p y ≡ true → 2 ≤ count_by p xs
  two_counted [] x y here there apart passes also = absurd here
  two_counted (z ∷ zs) x y (inl same) (inl other) apart passes also = absurd (apart (sym same ∙ other))
  two_counted (z ∷ zs) x y (inl same) (inr later) apart passes also =
      rw (counted z zs, ap p same ∙ passes) (omega (arith, one_counted zs y later also))
  two_counted (z ∷ zs) x y (inr later) (inl other) apart passes also =
      rw (counted z zs, ap p other ∙ also) (omega (arith, one_counted zs x later passes))
  two_counted (z ∷ zs) x y (inr later) (inr there) apart passes also =
      rw (counted z zs) (omega (arith, two_counted zs x y later there apart passes also))

  pub passing : (xs : List X) → 1 ≤ count_by p xs → HasPassing p xs
  passing [] some = absurd (omega arith)
  passing (x ∷ xs) some = elim (cases_Bool (p x)) [
    | inl passes ↦ record { item = x; here = inl refl; passes = passes }
    | inr fails ↦
        let more = rw (counted x xs, fails) at some in
        let rest = passing xs (omega (arith, more)) in
        record { item = rest.item; here = inr rest.here; passes = rest.passes }
  ]

-- the items that pass a test are those that pass another one too, and those that don't
parts : (a b : Bool) → cond a 1 0 ≤ cond (a && not b) 1 0 + cond b 1 0
parts true true = omega arith
parts true false = omega arith
parts false true = omega arith
parts false false = omega arith

pub in_parts : {X : Type 0} (p q : X → Bool) (xs : List X) → count_by p xs ≤ count_by (λ x. p x && not (q x)) xs + count_by q xs
in_parts p q [] = omega arith
in_parts p q (x ∷ xs) =
    rw (counted p x xs, counted (λ y. p y && not (q y)) x xs, counted q x xs) (omega (arith, parts (p x) (q x), in_parts p q xs))

-- where a mapping stands, and where it leads
pub record Spot : Type 0 where
  pub id : ℕ
  pub virtual_block : ℕ
  pub data_block : ℕ

abbrev pub spot : ThinDevice → Mapping → Spot
spot d x = record { id = d.id; virtual_block = x.virtual_block; data_block = x.data_block }

abbrev pub spots_of : ThinDevice → List Spot
spots_of d = map (spot d) d.mappings

abbrev pub spots : List ThinDevice → List Spot
spots ds = flat_map spots_of ds

-- their data blocks are those of the devices
abbrev data_of : List ThinDevice → List ℕ
data_of ds = flat_map (λ (d : ThinDevice). map (λ (x : Mapping). x.data_block) d.mappings) ds

data_of_device : (d : ThinDevice) (xs : List Mapping) → map (λ (s : Spot). s.data_block) (map (spot d) xs) ≡ map (λ (x : Mapping). x.data_block) xs
data_of_device d [] = refl
data_of_device d (x ∷ xs) = ap (λ (rest : List ℕ). x.data_block ∷ rest) (data_of_device d xs)

spots_data : (ds : List ThinDevice) → map (λ (s : Spot). s.data_block) (spots ds) ≡ data_of ds
spots_data [] = refl
spots_data (d ∷ ds) =
    map-append (λ (s : Spot). s.data_block) (spots_of d) (spots ds)
    ∙ (ap (λ (first : List ℕ). first ++ map (λ (s : Spot). s.data_block) (spots ds)) (data_of_device d d.mappings)
    ∙ ap (λ (rest : List ℕ). map (λ (x : Mapping). x.data_block) d.mappings ++ rest) (spots_data ds))

abbrev pub leads_to : ℕ → Spot → Bool
leads_to b s = nat_eq s.data_block b

pub count_of_spots : (b : ℕ) (ds : List ThinDevice) → count_by (λ n. nat_eq n b) (data_of ds) ≡ count_by (leads_to b) (spots ds)
count_of_spots b ds =
    sym (ap (λ (places : List ℕ). count_by (λ n. nat_eq n b) places) (spots_data ds))
    ∙ fold-map (λ (n place : ℕ). n + cond (nat_eq place b) 1 0) (λ (s : Spot). s.data_block) 0 (spots ds)

-- a mapping of a device stands somewhere, and a place is that of one
pub has_spot : (ds : List ThinDevice) (d : ThinDevice) (x : Mapping) → Has ds d → Has d.mappings x → Has (spots ds) (spot d x)
has_spot [] d x of here = absurd of
has_spot (e ∷ ds) d x (inl same) here = rw same (has_left (spots_of d) (spots ds) (spot d x) (has_mapped (spot d) d.mappings x here))
has_spot (e ∷ ds) d x (inr later) here = has_right (spots_of e) (spots ds) (spot d x) (has_spot ds d x later here)

pub record StandsAt (ds : List ThinDevice) (s : Spot) : Type 0 where
  pub device : ThinDevice
  pub mapping : Mapping
  pub of : Has ds device
  pub here : Has device.mappings mapping
  pub is : spot device mapping ≡ s

pub stands_at : (ds : List ThinDevice) (s : Spot) → Has (spots ds) s → StandsAt ds s
stands_at [] s here = absurd here
stands_at (d ∷ ds) s here = elim (has_cases (spots_of d) (spots ds) s here) [
  | inl mine ↦
      let from = is_mapped (spot d) d.mappings s mine in
      record { device = d; mapping = from.item; of = inl refl; here = from.here; is = from.is }
  | inr later ↦
      let rest = stands_at ds s later in
      record { device = rest.device; mapping = rest.mapping; of = inr rest.of; here = rest.here; is = rest.is }
]

-- in a lawful pool one mapping at most stands at a virtual block of a device
module _ (id v : ℕ) where
  abbrev pub is_at : Spot → Bool
  is_at s = nat_eq s.id id && nat_eq s.virtual_block v

  not_of_other : (d : ThinDevice) (xs : List Mapping) → (d.id ≡ id → ⊥) → count_by is_at (map (spot d) xs) ≤ 0
  not_of_other d [] apart = omega arith
  not_of_other d (x ∷ xs) apart = rw (counted is_at (spot d x) (map (spot d) xs), ne_eqb d.id id apart) (omega (arith, not_of_other d xs apart))

  none_later : (d : ThinDevice) (blocks least : ℕ) (xs : List Mapping) → AreMappings blocks least xs → v < least → count_by is_at (map (spot d) xs) ≤ 0
  none_later d blocks least [] are before = omega arith
  none_later d blocks least (x ∷ xs) are before =
      let above = are.0.above in
      rw (counted is_at (spot d x) (map (spot d) xs), ne_eqb x.virtual_block v (λ same. omega arith))
      (missed (nat_eq d.id id) _ (none_later d blocks (x.virtual_block + 1) xs are.1 (omega arith)))
    where
      missed : (b : Bool) (n : ℕ) → n ≤ 0 → cond (b && false) 1 0 + n ≤ 0
      missed true n none = omega (arith, none)
      missed false n none = omega (arith, none)

  one_of_device : (d : ThinDevice) (blocks least : ℕ) (xs : List Mapping) → AreMappings blocks least xs → count_by is_at (map (spot d) xs) ≤ 1
  one_of_device d blocks least [] are = omega arith
  one_of_device d blocks least (x ∷ xs) are = elim (cases_Bool (nat_eq x.virtual_block v)) [
    | inl same ↦
        let is = eqb-true x.virtual_block v same in
        rw (counted is_at (spot d x) (map (spot d) xs)) (omega (arith, at_most (is_at (spot d x)), none_later d blocks (x.virtual_block + 1) xs are.1 (omega (arith, is))))
    | inr other ↦
        rw (counted is_at (spot d x) (map (spot d) xs), other) (missed (nat_eq d.id id) _ (one_of_device d blocks (x.virtual_block + 1) xs are.1))
  ]
    where
      at_most : (b : Bool) → cond b 1 0 ≤ 1
      at_most true = omega arith
      at_most false = omega arith

      missed : (b : Bool) (n : ℕ) → n ≤ 1 → cond (b && false) 1 0 + n ≤ 1
      missed true n one = omega (arith, one)
      missed false n one = omega (arith, one)

  both : (d : ThinDevice) (ds : List ThinDevice) → count_by is_at (spots (d ∷ ds)) ≡ count_by is_at (spots_of d) + count_by is_at (spots ds)
  both d ds = sum_by-append (λ s. cond (is_at s) 1 0) (spots_of d) (spots ds)

  none_after : (blocks least : ℕ) (ds : List ThinDevice) → AreDevices blocks least ds → id < least → count_by is_at (spots ds) ≤ 0
  none_after blocks least [] are before = omega arith
  none_after blocks least (d ∷ ds) are before =
      let above = are.0.above in
      rw (both d ds) (omega (arith, not_of_other d d.mappings (λ same. omega arith), none_after blocks (d.id + 1) ds are.1 (omega arith)))

  pub one_of_all : (blocks least : ℕ) (ds : List ThinDevice) → AreDevices blocks least ds → count_by is_at (spots ds) ≤ 1
  one_of_all blocks least [] are = omega arith
  one_of_all blocks least (d ∷ ds) are = elim (cases_Bool (nat_eq d.id id)) [
    | inl same ↦
        let is = eqb-true d.id id same in
        rw (both d ds) (omega (arith, one_of_device d blocks 0 d.mappings are.0.mappings, none_after blocks (d.id + 1) ds are.1 (omega (arith, is))))
    | inr other ↦
        rw (both d ds) (omega (arith, not_of_other d d.mappings (λ same. both_ways (nat_eq d.id id) other (eq-eqb d.id id same)), one_of_all blocks (d.id + 1) ds are.1))
  ]
