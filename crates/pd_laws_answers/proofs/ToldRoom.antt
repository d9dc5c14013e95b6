-- A repair has room on as many blocks as are told, and on more, but on no fewer.
use Rattle.std.proofs.Common.{◌≡◌, ℕ, zero, suc, ◌+◌, ◌*◌, ◌<◌, ◌≤◌, ◌⊎◌, inl, inr, Bool, true, false, nat_le, nat_lt, List, unwrap_or, refl, sym, ap, subst, ◌∙◌, arith}
use Rattle.std.specs.List.{find, range_with_len}
use Rattle.std.proofs.lemmas.Bool.{both_ways, cases_Bool, cases_lt, le-leb, le-ltb, leb-false, leb-true, lt-ltb}
use Rattle.pd_kinds.specs.Bitmap.{bitmaps_for}
use Rattle.pd_kinds.specs.Graph.{block_at}
use Rattle.pd_kinds.specs.Image.{HasBytes}
use Rattle.pd_kinds.specs.Meaning.{ThinPool}
use Rattle.pd_kinds.specs.ThinFormat.{ThinFields, thin_fields}
use Rattle.pd_grammar.specs.Need.{thin_need}
use Rattle.pd_laid.specs.FoundRoots.{FoundRoots, are_fitting, found_pool, lost_graph}
use Rattle.pd_laid.specs.Salvage.{salvage_from, saved_shape_from}
use Rattle.pd_laid.specs.Shape.{ThinShape}
use Rattle.pd_laid.specs.PoolText.{shape_data, shape_need}
use Rattle.pd_answers.specs.KeptLines.{IsLeastRoom, IsTold, least_room, told_from}
use Rattle.pd_answers.specs.Outputs.{is_too_small, pool_making, shape_making}
use Rattle.pd_answers.specs.NamedRepairs.{named_pool, named_shape, saved_from_named, named_fields, pool_time, timeless_fields}
use Rattle.pd_answers.specs.declared.request.GivenSuper.{GivenSuper}
use Rattle.pd_answers.specs.declared.request.NamedRoots.{NamedRoots}
use Rattle.pd_answers.specs.Repairs.{saved_making, saved_of}
use Rattle.pd_answers.specs.FoundStates.{found_fields}
use Rattle.pd_answers.specs.Searches.{found_shape, saved_from, seen_pool, seen_shape, timed_pool, timed_shape}
use Rattle.pd_kept.proofs.WeighingLemmas.{pool_bitmaps, shape_bitmaps}
use Rattle.pd_laws_answers.specs.Saved.{told_need}
use Rattle.pd_laws_answers.proofs.SalvageLawful.{SavesFound}
use Rattle.pd_laws_answers.proofs.SeenLemmas.{pool_need_same, shape_need_same}
use Rattle.pd_laws_answers.proofs.Repaired.{found_are_lost}

-- the first number from one on that passes a test
record IsFirst (test : ℕ → Bool) (from k : ℕ) : Type 0 where
  passes : test k ≡ true
  none : (n : ℕ) → from ≤ n → n < k → test n ≡ false

first_found : (test : ℕ → Bool) (some from len : ℕ) → from ≤ some → some < from + len → test some ≡ true → IsFirst test from (unwrap_or (find test (range_with_len from len)) 0)
first_found test some from zero after before passes = absurd (omega arith)
first_found test some from (suc len) after before passes = elim (cases_Bool (test from)) [
  | inl here ↦ rw here (record { passes = here; none = λ n low high. absurd (omega arith) })
  | inr not ↦
      let rest = first_found test some (from + 1) len (later (cases_lt from some) not) (omega arith) passes in
      rw not (record { passes = rest.passes; none = λ n low high. below rest.none n (cases_lt from n) low high not })
]
  where
    later : (from < some) ⊎ (some ≤ from) → test from ≡ false → from + 1 ≤ some
    later (inl less) not = omega arith
    later (inr more) not = let same : some ≡ from = omega arith in absurd (both_ways (test from) not (subst (λ (n : ℕ). test n ≡ true) same passes))

    below : {k : ℕ} → ((n : ℕ) → from + 1 ≤ n → n < k → test n ≡ false) → (n : ℕ) → (from < n) ⊎ (n ≤ from) → from ≤ n → n < k → test from ≡ false → test n ≡ false
    below none n (inl less) low high not = none n (omega arith) high
    below none n (inr more) low high not = let same : from ≡ n = omega arith in subst (λ (m : ℕ). test m ≡ false) same not

module _ (need : ℕ → ℕ) (form : (n : ℕ) → need 0 + bitmaps_for n ≡ need n) where
  abbrev has_room : ℕ → Bool
  has_room room = nat_le (need room) room

  first_room : IsFirst has_room 0 (least_room need)
  unfolding least_room
  first_room =
      let some : ℕ = 2 * need 0 + 1 in
      let is = form some in
      first_found has_room some 0 (2 * need 0 + 2) (omega arith) (omega arith) (le-leb (need some) some (omega arith))

  least : IsLeastRoom need (least_room need)
  least = record {
    enough = leb-true (need (least_room need)) (least_room need) first_room.passes;
    least = λ fewer less. leb-false (need fewer) fewer (first_room.none fewer (omega arith) less);
  }

  too_small : (room : ℕ) → nat_lt room (need room) ≡ nat_lt room (least_room need)
  too_small room = by (cases_lt room (least_room need))
    where
      by : (room < least_room need) ⊎ (least_room need ≤ room) → nat_lt room (need room) ≡ nat_lt room (least_room need)
      by (inl less) =
          lt-ltb room (need room) (leb-false (need room) room (first_room.none room (omega arith) less)) ∙ sym (lt-ltb room (least_room need) less)
      by (inr more) =
          let least = least_room need in
          let enough = leb-true (need least) least first_room.passes in
          let here = form room in
          let there = form least in
          le-ltb room (need room) (omega arith) ∙ sym (le-ltb room least more)

-- what is told is right
pub told_right : (fields : ThinFields) (image : List (List ℕ)) → IsTold fields image (told_from fields image)
told_right fields image = record {
  lines = refl;
  devices = refl;
  mappings = refl;
  need = least (thin_need (salvage_from fields image)) (pool_bitmaps (salvage_from fields image));
  shared_need = least (shape_need (saved_shape_from fields image)) (shape_bitmaps (saved_shape_from fields image));
}

-- of what is saved by a superblock with these fields, without its shared leaves or with them
pub pool_told : (fields : ThinFields) (image : List (List ℕ)) (room : ℕ) → is_too_small (pool_making (salvage_from fields image)) room ≡ nat_lt room (told_from fields image).need
pool_told fields image room = too_small (thin_need (salvage_from fields image)) (pool_bitmaps (salvage_from fields image)) room

pub shape_told : (fields : ThinFields) (image : List (List ℕ)) (room : ℕ) → is_too_small (shape_making (saved_shape_from fields image)) room ≡ nat_lt room (told_from fields image).shared_need
shape_told fields image room = too_small (shape_need (saved_shape_from fields image)) (shape_bitmaps (saved_shape_from fields image)) room

pub room_told : (shared : Bool) (image : List (List ℕ)) (room : ℕ) → is_too_small (saved_making shared (saved_of shared image)) room
    ≡ nat_lt room (told_need shared (told_from (thin_fields (block_at image 0)) image))
room_told false image room = pool_told (thin_fields (block_at image 0)) image room
room_told true image room = shape_told (thin_fields (block_at image 0)) image room

-- of what is made of these, in which sharing is seen
seen_pool_told : (m : ThinPool) (fields : ThinFields) (image : List (List ℕ)) (room : ℕ) → thin_need m room ≡ thin_need (salvage_from fields image) room
    → is_too_small (pool_making (seen_pool m)) room ≡ nat_lt room (told_from fields image).need
seen_pool_told m fields image room same = ap (λ (need : ℕ). nat_lt room need) (pool_need_same m room ∙ same) ∙ pool_told fields image room

seen_shape_told : (w : ThinShape) (fields : ThinFields) (image : List (List ℕ)) (room : ℕ) → shape_need w room ≡ shape_need (saved_shape_from fields image) room
    → is_too_small (shape_making (seen_shape w)) room ≡ nat_lt room (told_from fields image).shared_need
seen_shape_told w fields image room same = ap (λ (need : ℕ). nat_lt room need) (shape_need_same w room ∙ same) ∙ shape_told fields image room

-- another time needs as much
timed_pool_need : (time : ℕ) (m : ThinPool) (room : ℕ) → thin_need (timed_pool time m) room ≡ thin_need m room
unfolding thin_need
timed_pool_need time m room = refl

timed_shape_need : (time : ℕ) (w : ThinShape) (room : ℕ) → shape_need (timed_shape time w) room ≡ shape_need w room
unfolding shape_need shape_data
timed_shape_need time w room = refl

pub named_told : (shared : Bool) (image : List (List ℕ)) (given : GivenSuper) (named : NamedRoots) (room : ℕ) → is_too_small (saved_making shared (saved_from_named shared image given named)) room
    ≡ nat_lt room (told_need shared (told_from (named_fields image given named) image))
named_told false image given named room =
    seen_pool_told (named_pool image given named) (named_fields image given named) image room
    (timed_pool_need (pool_time (timeless_fields image given named) image) (salvage_from (named_fields image given named) image) room)
named_told true image given named room =
    seen_shape_told (named_shape image given named) (named_fields image given named) image room
    (timed_shape_need (pool_time (timeless_fields image given named) image) (saved_shape_from (named_fields image given named) image) room)

-- and of found roots, which fit each other
module _ (saved : SavesFound) (image : List (List ℕ)) (transaction block_size blocks : ℕ) (roots : FoundRoots) (bytes : HasBytes image)
    (fit : are_fitting (lost_graph image blocks) image roots.top roots.details ≡ true) where
  found_need : (room : ℕ) → thin_need (found_pool (lost_graph image blocks) image transaction block_size roots) room
      ≡ thin_need (salvage_from (found_fields (lost_graph image blocks) transaction block_size roots) image) room
  found_need room =
      ap (λ (m : ThinPool). thin_need m room)
      (sym (ap (λ (fields : ThinFields). salvage_from fields image) (found_are_lost image transaction block_size blocks roots) ∙ saved image blocks transaction block_size roots bytes fit))

  pub found_told : (shared : Bool) (room : ℕ) → is_too_small (saved_making shared (saved_from shared (lost_graph image blocks) image transaction block_size roots)) room
      ≡ nat_lt room (told_need shared (told_from (found_fields (lost_graph image blocks) transaction block_size roots) image))
  unfolding found_shape
  found_told false room =
      seen_pool_told (found_pool (lost_graph image blocks) image transaction block_size roots) (found_fields (lost_graph image blocks) transaction block_size roots) image room (found_need room)
  found_told true room =
      seen_shape_told (found_shape (lost_graph image blocks) image transaction block_size roots) (found_fields (lost_graph image blocks) transaction block_size roots) image room refl
