-- The origin with some cached blocks over it.
use Rattle.std.proofs.Common.{◌≡◌, inl, inr, ℕ, zero, suc, ◌+◌, ◌-◌, ◌*◌, ◌<◌, ◌≤◌, min, ◌⊎◌, Bool, true, false, cond, ◌&&◌, nat_eq, leb, ltb, List, [], ◌∷◌, ◌++◌, length, get_or, take, Option, Some, None, IfSome, refl, sym, ap, ◌∙◌, subst, arith, ⊎_elim, set}
use Rattle.std.specs.List.{count_by, slice_get, sum_by}
use Rattle.std.specs.List.Sorted.{IsPermutation}
use Rattle.std.specs.Option.{is_some, option_and_then, unwrap_or}
use Rattle.std.proofs.lemmas.Bool.{and_parts, cases_Bool, cases_lt, leb-true, ltb-true, ltb-false, ne_eqb, le-leb, lt-ltb, true≢false}
use Rattle.std.proofs.lemmas.List.{ext_get_or, take_more, length-set}
use Rattle.std.proofs.lemmas.List.FromFn.{get_or-map-range_with_len, length-map-range_with_len}
use Rattle.std.proofs.lemmas.List.Sorted.{sum_by-IsPermutation}
use Rattle.std.proofs.lemmas.List.Sums.{sum_by-cons, sum_by_more_le}
use Rattle.std.proofs.lemmas.Option.{get_or_from_slice_get, same_Some, slice_get-get_or, unwrap_or-slice_get}
use Rattle.pd_kinds.specs.Graph.{block_at}
use Rattle.pd_kinds.specs.Crash.{LeavesNow, LeavesOnly}
use Rattle.pd_kinds.specs.Objects.{DeviceState}
use Rattle.pd_kinds.proofs.CrashLemmas.{and_then, weaken, Image, left_is}
use Rattle.pd_answers.specs.Writebacks.{CachedBlock, fast_place, overlaid, overlaid_block, stands_for, KeepsOthers}
use Rattle.pd_image.proofs.CrashLemmas.{is_none_too, writes}
use Rattle.pd_image.proofs.BlockLemmas.{slice_get-set_other}
use Rattle.pd_image.specs.Device.{MayChange, MayWrite}
use Rattle.pd_draft.proofs.DraftLemmas.{put_back}
use Rattle.pd_writeback.specs.Copied.{IsAsBut, IsCopied, IsLeftAsBut, IsEachOnce, IsLeftKept}

-- whether a cached block stands for one: it lies between these
pub between : (k : ℕ) (c : CachedBlock) (b : ℕ) → stands_for k c b ≡ true → (c.origin_block * k ≤ b) × (b < (c.origin_block + 1) * k)
between k c b is =
    let parts = and_parts _ _ is in
    (leb-true (c.origin_block * k) b parts.0, ltb-true b ((c.origin_block + 1) * k) parts.1)

both_true : (x y : Bool) → x ≡ true → y ≡ true → (x && y) ≡ true
both_true true true first second = refl
both_true true false first second = second
both_true false y first second = first

-- elsewhere it lies outside
pub outside : (k : ℕ) (c : CachedBlock) (b : ℕ) → stands_for k c b ≡ false → c.origin_block * k ≤ b → (c.origin_block + 1) * k ≤ b
outside k c b isnt low = elim (cases_Bool (ltb b ((c.origin_block + 1) * k))) [
  | inl below ↦ absurd (true≢false (sym (both_true (leb (c.origin_block * k) b) (ltb b ((c.origin_block + 1) * k)) (le-leb (c.origin_block * k) b low) below) ∙ isnt))
  | inr above ↦ ltb-false b ((c.origin_block + 1) * k) above
]

-- the place that a cached block gives to one that it stands for
abbrev pub given_place : ℕ → CachedBlock → ℕ → ℕ
given_place k c b = c.cache_block * k + (b - c.origin_block * k)

-- a last one that doesn't stand for a block
pub last_other : (k : ℕ) (cs : List CachedBlock) (c : CachedBlock) (b : ℕ) → stands_for k c b ≡ false → fast_place k (cs ++ c ∷ []) b ≡ fast_place k cs b
unfolding fast_place
last_other k [] c b isnt = rw isnt refl
last_other k (x ∷ cs) c b isnt = ap (cond (stands_for k x b) (Some (given_place k x b))) (last_other k cs c b isnt)

-- and one that does, as none before it
pub last_new : (k : ℕ) (cs : List CachedBlock) (c : CachedBlock) (b : ℕ) → fast_place k cs b ≡ None → stands_for k c b ≡ true
    → fast_place k (cs ++ c ∷ []) b ≡ Some (given_place k c b)
unfolding fast_place
last_new k [] c b none is = rw is refl
last_new k (x ∷ cs) c b none is = by_first (stands_for k x b) refl (λ none'. last_new k cs c b none' is)
  where
    by_first : (t : Bool) → stands_for k x b ≡ t → (fast_place k cs b ≡ None → fast_place k (cs ++ c ∷ []) b ≡ Some (given_place k c b))
        → cond (stands_for k x b) (Some (given_place k x b)) (fast_place k (cs ++ c ∷ []) b) ≡ Some (given_place k c b)
    by_first true first more = absurd (not_none (rw first at none))
      where
        not_none : Some (given_place k x b) ≡ None → ⊥
        not_none e = cc
    by_first false first more = rw first (more (rw first at none))

-- none stands for a block where none is counted
pub none_counted : (k : ℕ) (cs : List CachedBlock) (b : ℕ) → count_by (λ c. stands_for k c b) cs ≡ 0 → fast_place k cs b ≡ None
unfolding fast_place
none_counted k [] b none = refl
none_counted k (x ∷ cs) b none = by_first (stands_for k x b) refl (λ none'. none_counted k cs b none')
  where
    counted : count_by (λ c. stands_for k c b) (x ∷ cs) ≡ cond (stands_for k x b) 1 0 + count_by (λ c. stands_for k c b) cs
    counted = sum_by-cons (λ c. cond (stands_for k c b) 1 0) x cs

    by_first : (t : Bool) → stands_for k x b ≡ t → (count_by (λ c. stands_for k c b) cs ≡ 0 → fast_place k cs b ≡ None)
        → cond (stands_for k x b) (Some (given_place k x b)) (fast_place k cs b) ≡ None
    by_first true first more = let one : count_by (λ c. stands_for k c b) (x ∷ cs) ≡ 1 + count_by (λ c. stands_for k c b) cs = counted ∙ ap (λ (t : Bool). cond t 1 0 + count_by (λ c. stands_for k c b) cs) first in absurd (omega arith)
    by_first false first more =
        let same : count_by (λ c. stands_for k c b) (x ∷ cs) ≡ 0 + count_by (λ c. stands_for k c b) cs = counted ∙ ap (λ (t : Bool). cond t 1 0 + count_by (λ c. stands_for k c b) cs) first in
        rw first (more (omega arith))

-- one of them stands for a block
pub one_stands : (k : ℕ) (cs : List CachedBlock) (i : ℕ) (d : CachedBlock) (b : ℕ) → i < length cs → stands_for k (get_or cs i d) b ≡ true → is_some (fast_place k cs b) ≡ true
unfolding fast_place
one_stands k [] i d b within is = absurd (omega arith)
one_stands k (x ∷ cs) zero d b within is = rw is refl
one_stands k (x ∷ cs) (suc i) d b within is =
    let within' : i < length cs = omega arith in
    by_first (stands_for k x b) (one_stands k cs i d b within' is)
  where
    by_first : (t : Bool) → is_some (fast_place k cs b) ≡ true → is_some (cond t (Some (given_place k x b)) (fast_place k cs b)) ≡ true
    by_first true rest = refl
    by_first false rest = rest

-- a block of the overlaid origin
pub overlaid_at : (k : ℕ) (cs : List CachedBlock) (origin fast : Image) (b : ℕ) → b < length origin → get_or (overlaid k cs origin fast) b [] ≡ overlaid_block k cs origin fast b
unfolding overlaid
overlaid_at k cs origin fast b within = get_or-map-range_with_len (overlaid_block k cs origin fast) 0 (length origin) b b [] within (omega arith)

pub overlaid_length : (k : ℕ) (cs : List CachedBlock) (origin fast : Image) → length (overlaid k cs origin fast) ≡ length origin
unfolding overlaid
overlaid_length k cs origin fast = length-map-range_with_len (overlaid_block k cs origin fast) 0 (length origin)

-- with nothing over it
pub overlaid_none : (k : ℕ) (origin fast : Image) → origin ≡ overlaid k [] origin fast
unfolding overlaid fast_place
overlaid_none k origin fast =
    ext_get_or [] origin (overlaid k [] origin fast) (sym (overlaid_length k [] origin fast))
    (λ b within. sym (overlaid_at k [] origin fast b within ∙ unwrap_or-slice_get origin b []))

-- one cached block more was copied
module _ (k : ℕ) (cs : List CachedBlock) (c : CachedBlock) (origin fast old new : Image) (before : old ≡ overlaid k cs origin fast)
    (copied : IsCopied (c.cache_block * k) (c.origin_block * k) (min k (length origin - c.origin_block * k)) fast old new)
    (on_fast : (c.cache_block + 1) * k ≤ length fast) (first : (b : ℕ) → stands_for k c b ≡ true → fast_place k cs b ≡ None) where
  number : length new ≡ length origin
  number = copied.number ∙ (ap (λ (i : Image). length i) before ∙ overlaid_length k cs origin fast)

  at_new : (b : ℕ) → b < length origin → stands_for k c b ≡ true → get_or new b [] ≡ overlaid_block k (cs ++ c ∷ []) origin fast b
  at_new b within is =
      let bounds = between k c b is in
      let low = bounds.0 in
      let high = bounds.1 in
      let next : (c.origin_block + 1) * k ≡ c.origin_block * k + k = omega arith in
      let next' : (c.cache_block + 1) * k ≡ c.cache_block * k + k = omega arith in
      let i : ℕ = b - c.origin_block * k in
      let inside : i < min k (length origin - c.origin_block * k) = omega arith in
      let there : c.cache_block * k + i < length fast = omega arith in
      let same : c.origin_block * k + i ≡ b = omega arith in
      let has : slice_get fast (c.cache_block * k + i) ≡ Some (get_or fast (c.cache_block * k + i) []) = slice_get-get_or fast (c.cache_block * k + i) [] there in
      let at : slice_get new (c.origin_block * k + i) ≡ slice_get fast (c.cache_block * k + i) = copied.copied i inside in
      let at_b : slice_get new b ≡ slice_get fast (c.cache_block * k + i) = rw same at at in
      get_or_from_slice_get new b (get_or fast (c.cache_block * k + i) []) [] (at_b ∙ has)
      ∙ sym (ap (λ (o : Option ℕ). unwrap_or (option_and_then (slice_get fast) o) (block_at origin b)) (last_new k cs c b (first b is) is)
      ∙ ap (λ (o : Option (List ℕ)). unwrap_or o (block_at origin b)) has)

  at_other : (b : ℕ) → b < length origin → stands_for k c b ≡ false → get_or new b [] ≡ overlaid_block k (cs ++ c ∷ []) origin fast b
  at_other b within isnt =
      let within' : b < length old = rw (ap (λ (i : Image). length i) before ∙ overlaid_length k cs origin fast) within in
      let next : (c.origin_block + 1) * k ≡ c.origin_block * k + k = omega arith in
      let out : (b < c.origin_block * k) ⊎ (c.origin_block * k + min k (length origin - c.origin_block * k) ≤ b) = elim (cases_lt b (c.origin_block * k)) [
        | inl below ↦ inl below
        | inr low ↦ let far = outside k c b isnt low in inr (omega arith)
      ] in
      get_or_from_slice_get new b (get_or old b []) [] (copied.others b out ∙ slice_get-get_or old b [] within')
      ∙ (ap (λ (i : Image). get_or i b []) before
      ∙ (overlaid_at k cs origin fast b within
      ∙ sym (ap (λ (o : Option ℕ). unwrap_or (option_and_then (slice_get fast) o) (block_at origin b)) (last_other k cs c b isnt))))

  pub one_more_overlaid : new ≡ overlaid k (cs ++ c ∷ []) origin fast
  one_more_overlaid =
      ext_get_or [] new (overlaid k (cs ++ c ∷ []) origin fast) (number ∙ sym (overlaid_length k (cs ++ c ∷ []) origin fast)) (λ b within.
      let within' : b < length origin = rw (← number) within in
      elim (cases_Bool (stands_for k c b)) [ inl is ↦ at_new b within' is | inr isnt ↦ at_other b within' isnt ]
      ∙ sym (overlaid_at k (cs ++ c ∷ []) origin fast b within'))

-- where each block has one at most, one of them has none before it
pub none_before : (k : ℕ) (cs : List CachedBlock) (i : ℕ) (d : CachedBlock) (b : ℕ) → i < length cs → IsEachOnce k cs → stands_for k (get_or cs i d) b ≡ true
    → fast_place k (take i cs) b ≡ None
none_before k cs i d b within once is =
    none_counted k (take i cs) b (none_left (count_by (λ c. stands_for k c b) (take i cs)) (count_by (λ c. stands_for k c b) cs)
    (subst (λ (t : Bool). count_by (λ c. stands_for k c b) (take i cs) + cond t 1 0 ≤ count_by (λ c. stands_for k c b) cs) is (sum_by_more_le (λ c. cond (stands_for k c b) 1 0) cs i d within))
    (once b))
  where
    none_left : (n m : ℕ) → n + 1 ≤ m → m ≤ 1 → n ≡ 0
    none_left n m most few = omega arith

-- where each block has one at most, a place is a sum, in whatever order they are
module _ (k : ℕ) (b : ℕ) where
  abbrev share : CachedBlock → ℕ
  share c = cond (stands_for k c b) (given_place k c b + 1) 0

  abbrev told : ℕ → Option ℕ
  told n = cond (nat_eq n 0) None (Some (n - 1))

  counted_cons : (x : CachedBlock) (cs : List CachedBlock) → count_by (λ c. stands_for k c b) (x ∷ cs) ≡ cond (stands_for k x b) 1 0 + count_by (λ c. stands_for k c b) cs
  counted_cons x cs = sum_by-cons (λ c. cond (stands_for k c b) 1 0) x cs

  no_share : (cs : List CachedBlock) → count_by (λ c. stands_for k c b) cs ≡ 0 → sum_by share cs ≡ 0
  no_share [] none = refl
  no_share (x ∷ cs) none = sum_by-cons share x cs ∙ by_first (stands_for k x b) refl (λ none'. no_share cs none')
    where
      by_first : (t : Bool) → stands_for k x b ≡ t → (count_by (λ c. stands_for k c b) cs ≡ 0 → sum_by share cs ≡ 0)
          → cond (stands_for k x b) (given_place k x b + 1) 0 + sum_by share cs ≡ 0
      by_first true first more = let one : count_by (λ c. stands_for k c b) (x ∷ cs) ≡ 1 + count_by (λ c. stands_for k c b) cs = counted_cons x cs ∙ ap (λ (t : Bool). cond t 1 0 + count_by (λ c. stands_for k c b) cs) first in absurd (omega arith)
      by_first false first more =
          let same : count_by (λ c. stands_for k c b) (x ∷ cs) ≡ 0 + count_by (λ c. stands_for k c b) cs = counted_cons x cs ∙ ap (λ (t : Bool). cond t 1 0 + count_by (λ c. stands_for k c b) cs) first in
          let rest = more (omega arith) in
          rw first (omega arith)

  place_summed : (cs : List CachedBlock) → count_by (λ c. stands_for k c b) cs ≤ 1 → fast_place k cs b ≡ told (sum_by share cs)
  unfolding fast_place
  place_summed [] few = refl
  place_summed (x ∷ cs) few = by_first (stands_for k x b) refl (λ few'. place_summed cs few')
    where
      by_first : (t : Bool) → stands_for k x b ≡ t → (count_by (λ c. stands_for k c b) cs ≤ 1 → fast_place k cs b ≡ told (sum_by share cs))
          → cond (stands_for k x b) (Some (given_place k x b)) (fast_place k cs b) ≡ told (sum_by share (x ∷ cs))
      by_first true first more =
          let one : count_by (λ c. stands_for k c b) (x ∷ cs) ≡ 1 + count_by (λ c. stands_for k c b) cs = counted_cons x cs ∙ ap (λ (t : Bool). cond t 1 0 + count_by (λ c. stands_for k c b) cs) first in
          let rest = no_share cs (omega arith) in
          let all : sum_by share (x ∷ cs) ≡ suc (given_place k x b) = sum_by-cons share x cs ∙ (ap (λ (t : Bool). cond t (given_place k x b + 1) 0 + sum_by share cs) first ∙ omega arith) in
          ap (λ (t : Bool). cond t (Some (given_place k x b)) (fast_place k cs b)) first ∙ (told_suc (given_place k x b) ∙ sym (ap told all))
        where
          told_suc : (n : ℕ) → Some n ≡ told (suc n)
          told_suc n = ap (λ (m : ℕ). Some m) (let same : n ≡ suc n - 1 = omega arith in same) ∙ sym (ap (λ (t : Bool). cond t None (Some (suc n - 1))) (ne_eqb (suc n) 0 (λ e. omega arith)))
      by_first false first more =
          let same : count_by (λ c. stands_for k c b) (x ∷ cs) ≡ 0 + count_by (λ c. stands_for k c b) cs = counted_cons x cs ∙ ap (λ (t : Bool). cond t 1 0 + count_by (λ c. stands_for k c b) cs) first in
          let all : sum_by share (x ∷ cs) ≡ sum_by share cs = sum_by-cons share x cs ∙ (ap (λ (t : Bool). cond t (given_place k x b + 1) 0 + sum_by share cs) first ∙ omega arith) in
          ap (λ (t : Bool). cond t (Some (given_place k x b)) (fast_place k cs b)) first ∙ (more (omega arith) ∙ sym (ap told all))

  pub same_place : (xs ys : List CachedBlock) → IsPermutation xs ys → count_by (λ c. stands_for k c b) xs ≤ 1 → fast_place k ys b ≡ fast_place k xs b
  same_place xs ys moved few =
      let count : count_by (λ c. stands_for k c b) ys ≡ count_by (λ c. stands_for k c b) xs = sum_by-IsPermutation (λ c. cond (stands_for k c b) 1 0) xs ys moved in
      place_summed ys (omega arith) ∙ (ap told (sum_by-IsPermutation share xs ys moved) ∙ sym (place_summed xs few))

pub overlaid_in_any_order : (k : ℕ) (xs ys : List CachedBlock) (origin fast : Image) → IsPermutation xs ys → IsEachOnce k xs → overlaid k ys origin fast ≡ overlaid k xs origin fast
overlaid_in_any_order k xs ys origin fast moved once =
    ext_get_or [] (overlaid k ys origin fast) (overlaid k xs origin fast) (overlaid_length k ys origin fast ∙ sym (overlaid_length k xs origin fast)) (λ b within.
    let within' : b < length origin = rw (← overlaid_length k ys origin fast) within in
    overlaid_at k ys origin fast b within'
    ∙ (ap (λ (o : Option ℕ). unwrap_or (option_and_then (slice_get fast) o) (block_at origin b)) (same_place k b xs ys moved (once b))
    ∙ sym (overlaid_at k xs origin fast b within')))

-- and so is at most one of them in another order
pub once_in_any_order : (k : ℕ) (xs ys : List CachedBlock) → IsPermutation xs ys → IsEachOnce k xs → IsEachOnce k ys
once_in_any_order k xs ys moved once b =
    let count : count_by (λ c. stands_for k c b) ys ≡ count_by (λ c. stands_for k c b) xs = sum_by-IsPermutation (λ c. cond (stands_for k c b) 1 0) xs ys moved in
    let few = once b in
    omega arith

-- a cached block stands for the blocks from its first one on
pub stands_within : (k : ℕ) (c : CachedBlock) (b : ℕ) → c.origin_block * k ≤ b → b < c.origin_block * k + k → stands_for k c b ≡ true
stands_within k c b low high =
    let next : (c.origin_block + 1) * k ≡ c.origin_block * k + k = omega arith in
    both_true (leb (c.origin_block * k) b) (ltb b ((c.origin_block + 1) * k)) (le-leb (c.origin_block * k) b low) (lt-ltb b ((c.origin_block + 1) * k) (omega arith))

-- where each block that may differ is what a hot one stands for
abbrev pub stands_some : ℕ → List CachedBlock → ℕ → Bool
stands_some k cs b = is_some (fast_place k cs b)

pub kept_but : (k : ℕ) (cs : List CachedBlock) (base image : Image) → KeepsOthers k cs base image → IsAsBut (stands_some k cs) base image
kept_but k cs base image kept = record { number = kept.number; others = λ b none. kept.others b (is_none_too (fast_place k cs b) none) }

pub but_kept : (k : ℕ) (cs : List CachedBlock) (base image : Image) → IsAsBut (stands_some k cs) base image → KeepsOthers k cs base image
but_kept k cs base image but = record { number = but.number; others = λ b none. but.others b (ap (λ (o : Option ℕ). is_some o) none) }

-- one step more of the copying
pub kept_more : (k : ℕ) (cs : List CachedBlock) (base : Image) {old mid new : DeviceState} → LeavesOnly (IsLeftKept k cs base) old mid
    → (LeavesNow (IsLeftAsBut (stands_some k cs) base) mid → LeavesOnly (IsLeftAsBut (stands_some k cs) base) mid new) → LeavesOnly (IsLeftKept k cs base) old new
kept_more k cs base so_far next =
    and_then so_far (weaken (next (λ image firsts left. kept_but k cs base image (so_far.now image firsts left))) (λ image firsts but. but_kept k cs base image but))

-- an origin of which one cached block more was copied
pub overlaid_more : (k : ℕ) (cs : List CachedBlock) (i : ℕ) (d c : CachedBlock) (blocks : ℕ) (fast old mid new : Option Image) → i < length cs → get_or cs i d ≡ c → IsEachOnce k cs
    → IfSome fast (λ image. (c.cache_block + 1) * k ≤ length image) → IfSome old (λ image. length image ≡ blocks) → is_some mid ≡ is_some old → is_some new ≡ is_some mid
    → IfSome fast (λ held. IfSome old (λ o. mid ≡ Some (overlaid k (take i cs) o held)))
    → IfSome fast (λ held. IfSome mid (λ m. IfSome new (IsCopied (c.cache_block * k) (c.origin_block * k) (min k (blocks - c.origin_block * k)) held m)))
    → IfSome fast (λ held. IfSome old (λ o. new ≡ Some (overlaid k (take (i + 1) cs) o held)))
overlaid_more k cs i d c blocks None old mid new within at once on_fast number told told' before next = tt
overlaid_more k cs i d c blocks (Some fast) None mid new within at once on_fast number told told' before next = tt
overlaid_more k cs i d c blocks (Some fast) (Some old) None new within at once on_fast number told told' before next = cc
overlaid_more k cs i d c blocks (Some fast) (Some old) (Some mid) None within at once on_fast number told told' before next = cc
overlaid_more k cs i d c blocks (Some fast) (Some old) (Some mid) (Some new) within at once on_fast number told told' before next =
    let is : mid ≡ overlaid k (take i cs) old fast = same_Some mid (overlaid k (take i cs) old fast) before in
    let copied = subst (λ (n : ℕ). IsCopied (c.cache_block * k) (c.origin_block * k) (min k (n - c.origin_block * k)) fast mid new) (sym number) next in
    ap (λ (j : Image). Some j)
    (one_more_overlaid k (take i cs) c old fast mid new is copied on_fast (λ b stands. none_before k cs i d b within once (rw (← at) at stands))
    ∙ ap (λ (xs : List CachedBlock). overlaid k xs old fast) (ap (λ (x : CachedBlock). take i cs ++ x ∷ []) (sym at) ∙ sym (take_more cs i d within)))

pub overlaid_start : (k : ℕ) (fast old : Option Image) → IfSome fast (λ held. IfSome old (λ o. old ≡ Some (overlaid k [] o held)))
overlaid_start k None old = tt
overlaid_start k (Some fast) None = tt
overlaid_start k (Some fast) (Some old) = ap (λ (j : Image). Some j) (overlaid_none k old fast)

-- Blocks that are copied one after another.

-- a write of a block that may differ
pub write_leaves : {old new : DeviceState} (b : ℕ) (bytes : List ℕ) (may_differ : ℕ → Bool) (base : Image) → may_differ b ≡ true
    → LeavesNow (IsLeftAsBut may_differ base) old → IfSome old.held (λ i. MayWrite b bytes i old new) → is_some new.held ≡ is_some old.held
    → IfSome old.held (λ i. IfSome new.held (MayChange b i)) → LeavesOnly (IsLeftAsBut may_differ base) old new
write_leaves {old} {new} b bytes may_differ base may here crash told others =
    writes b bytes crash told others here (λ image held left l.
    let back = set left b (get_or image b []) in
    let kept = here back old.history.firsts (left_is old image back held (put_back image left b old.history.unsynced _ _ l)) in
    record {
      number = sym (length-set left b (get_or image b [])) ∙ kept.number;
      others = λ c same. sym (slice_get-set_other left b c (get_or image b []) (λ is. true≢false (sym may ∙ (ap may_differ (sym is) ∙ same)))) ∙ kept.others c same;
    })

-- no block was copied yet
none_copied : (from to : ℕ) (source image : Image) → IsCopied from to 0 source image image
none_copied from to source image = record { number = refl; copied = λ i none. absurd (omega arith); others = λ b out. refl }

pub copied_none : (from to : ℕ) (source image : Option Image) → IfSome source (λ held. IfSome image (λ old. IfSome image (IsCopied from to 0 held old)))
copied_none from to None image = tt
copied_none from to (Some source) None = tt
copied_none from to (Some source) (Some image) = none_copied from to source image

-- one block more was copied
one_copied : (from to i : ℕ) (source old mid new : Image) → IsCopied from to i source old mid → IsCopied (from + i) (to + i) 1 source mid new → IsCopied from to (i + 1) source old new
one_copied from to i source old mid new before next = record {
  number = next.number ∙ before.number;
  copied = λ j within. elim (cases_lt j i) [
    | inl less ↦ next.others (to + j) (inl (omega arith)) ∙ before.copied j less
    | inr last ↦
        let same : j ≡ i = omega arith in
        let at : slice_get new (to + i + 0) ≡ slice_get source (from + i + 0) = next.copied 0 (omega arith) in
        let here : to + j ≡ to + i + 0 = omega arith in
        let there : from + j ≡ from + i + 0 = omega arith in
        rw (here, there) at
  ];
  others = λ b out. next.others b (⊎_elim (λ below. inl (omega arith)) (λ above. inr (omega arith)) out) ∙ before.others b (⊎_elim (λ below. inl below) (λ above. inr (omega arith)) out);
}

pub copied_more : (from to i : ℕ) (source source' old mid new : Option Image) → source' ≡ source → is_some mid ≡ is_some old
    → IfSome source (λ held. IfSome old (λ o. IfSome mid (IsCopied from to i held o)))
    → IfSome source' (λ held. IfSome mid (λ m. IfSome new (IsCopied (from + i) (to + i) 1 held m)))
    → IfSome source (λ held. IfSome old (λ o. IfSome new (IsCopied from to (i + 1) held o)))
copied_more from to i source source' old mid new same told before next = rest source old mid new told before (rw same at next)
  where
    rest : (source old mid new : Option Image) → is_some mid ≡ is_some old
        → IfSome source (λ held. IfSome old (λ o. IfSome mid (IsCopied from to i held o)))
        → IfSome source (λ held. IfSome mid (λ m. IfSome new (IsCopied (from + i) (to + i) 1 held m)))
        → IfSome source (λ held. IfSome old (λ o. IfSome new (IsCopied from to (i + 1) held o)))
    rest None old mid new told before next = tt
    rest (Some source) None mid new told before next = tt
    rest (Some source) (Some old) None new told before next = cc
    rest (Some source) (Some old) (Some mid) None told before next = tt
    rest (Some source) (Some old) (Some mid) (Some new) told before next = one_copied from to i source old mid new before next
