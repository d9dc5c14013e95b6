-- In what is made of a search, and of named roots, sharing is seen.
use Rattle.std.proofs.Common.{◌≡◌, ℕ, ◌≤◌, max, min, Bool, true, false, List, [], ◌∷◌, sym, ap, subst, arith}
use Rattle.std.specs.List.{AllByRecursion, flat_map}
use Rattle.std.specs.Prelude.{fold}
use Rattle.std.proofs.lemmas.List.Elements.{All-from_recursion}
use Rattle.std.proofs.lemmas.Option.{IfSome_then}
use Rattle.pd_kinds.specs.Meaning.{ThinDevice, ThinPool, thin_meaning}
use Rattle.pd_grammar.specs.Lawful.{IsLawfulPool}
use Rattle.pd_laid.specs.FoundRoots.{AreBest, FoundRoots, devices_below, found_pool, lost_graph, roots_at, times_of}
use Rattle.pd_answers.specs.Terms.{Objects}
use Rattle.pd_answers.specs.NamedRepairs.{named_pool}
use Rattle.pd_answers.specs.declared.request.GivenSuper.{GivenSuper}
use Rattle.pd_answers.specs.declared.request.NamedRoots.{NamedRoots}
use Rattle.pd_answers.specs.Searches.{greatest_time, seen_pool}
use Rattle.pd_kept.proofs.BoundLemmas.{Below, below_greatest, first_of_all, rest_of_all}
use Rattle.pd_laws_answers.specs.Search.{HoldsNamed, IsSavedFrom, HoldsBest, IsPoolOf, IsShapeOf, OfRoots}
use Rattle.pd_laws_answers.specs.Sharing.{IsTimely, SeesSharing, SharingIsSeen}
use Rattle.pd_laws_answers.proofs.Restored.{Image}
use Rattle.pd_laws_answers.proofs.SeenSharing.{pool_stays, sees_sharing}

-- what the best roots lead to stays as it is where sharing is seen in it: none of its times is after the roots' one
snaps_within : (t : ℕ) (ds : List ThinDevice) → Below t (flat_map times_of ds) → AllByRecursion (λ (d : ThinDevice). min d.snapped greatest_time ≤ t) ds
snaps_within t [] below = tt
snaps_within t (d ∷ ds) below =
    let mine = first_of_all (λ x. x ≤ t) (times_of d) (flat_map times_of ds) below in
    let snapped = mine.1.0 in
    (omega (arith, snapped), snaps_within t ds (rest_of_all (λ x. x ≤ t) (times_of d) (flat_map times_of ds) below))

found_timely : (image : Image) (transaction block_size blocks : ℕ) (roots : FoundRoots) → AreBest (lost_graph image blocks) image roots
    → IsTimely (found_pool (lost_graph image blocks) image transaction block_size roots)
unfolding found_pool roots_at
found_timely image transaction block_size blocks roots best =
    let graph = lost_graph image blocks in
    let devices = devices_below graph image roots.top roots.details in
    let time : roots.time ≡ fold max 0 (flat_map times_of devices) = ap (λ (r : FoundRoots). r.time) best.numbers in
    All-from_recursion (λ (d : ThinDevice). min d.snapped greatest_time ≤ roots.time) devices
    (snaps_within roots.time devices (below_greatest 0 roots.time (flat_map times_of devices) (omega (arith, time))).1)

pub found_stays : (image : Image) (transaction block_size blocks : ℕ) (roots : FoundRoots) → AreBest (lost_graph image blocks) image roots
    → IsLawfulPool (found_pool (lost_graph image blocks) image transaction block_size roots) → SharingIsSeen (found_pool (lost_graph image blocks) image transaction block_size roots)
    → seen_pool (found_pool (lost_graph image blocks) image transaction block_size roots) ≡ found_pool (lost_graph image blocks) image transaction block_size roots
found_stays image transaction block_size blocks roots best lawful seen =
    pool_stays (found_pool (lost_graph image blocks) image transaction block_size roots) lawful seen (found_timely image transaction block_size blocks roots best)

-- of an image that means a pool that was made so
seen_in : (made : Image) (m : ThinPool) → thin_meaning made ≡ seen_pool m → SharingIsSeen (thin_meaning made)
seen_in made m means = subst SharingIsSeen (sym means) (sees_sharing m)

-- of what is made of the best roots
best_sees : (blocks : ℕ) (Made : OfRoots) → ((image made : Image) (roots : FoundRoots) → Made image roots made → SharingIsSeen (thin_meaning made))
    → (before after : Objects) → HoldsBest blocks Made before after → SeesSharing before after
best_sees blocks Made sees before after holds =
    IfSome_then before.input.held holds (λ image told is.
    IfSome_then before.output.held (told is) (λ base held.
    IfSome_then after.output.held held (λ made here. sees image made here.0.roots here.0.pool)))

module _ (transaction block_size blocks : ℕ) (before after : Objects) where
  pub pool_sees : HoldsBest blocks (IsPoolOf transaction block_size blocks) before after → SeesSharing before after
  pool_sees = best_sees blocks (IsPoolOf transaction block_size blocks)
      (λ image made roots clean. seen_in made (found_pool (lost_graph image blocks) image transaction block_size roots) clean.means) before after

  pub shape_sees : HoldsBest blocks (IsShapeOf transaction block_size blocks) before after → SeesSharing before after
  shape_sees = best_sees blocks (IsShapeOf transaction block_size blocks)
      (λ image made roots keeps. seen_in made (found_pool (lost_graph image blocks) image transaction block_size roots) keeps.pool.means) before after

-- and of named roots
saved_sees : (shared : Bool) (given : GivenSuper) (named : NamedRoots) (image made : Image) → IsSavedFrom shared given named image made → SharingIsSeen (thin_meaning made)
saved_sees false given named image made clean = seen_in made (named_pool image given named) clean.means
saved_sees true given named image made keeps = seen_in made (named_pool image given named) keeps.pool.means

pub named_sees : (shared : Bool) (given : GivenSuper) (named : NamedRoots) (before after : Objects) → HoldsNamed shared given named before after → SeesSharing before after
named_sees shared given named before after holds =
    IfSome_then before.input.held holds (λ image told is.
    IfSome_then before.output.held (told is) (λ base held.
    IfSome_then after.output.held held (λ made here. saved_sees shared given named image made here.0)))
