-- What is measured of trees that fit each other.
use Rattle.std.proofs.Common.{◌≡◌, ℕ, ◌<◌, max, true, false, nat_eq, nat_lt, List, Option, Some, None, sym, ◌∙◌, ap, ap₂, subst, arith, min, length, refl}
use Rattle.std.proofs.lemmas.Bool.{and_from, and_parts, both_ways, eq-eqb, false_from_ne_true, lt-ltb, ltb-true}
use Rattle.pd_kinds.specs.Graph.{Graph}
use Rattle.pd_kinds.specs.declared.limits.TheConstants.{MAX_META_BLOCKS}
use Rattle.pd_kinds.specs.Layout.{graph_of}
use Rattle.pd_kinds.specs.ThinFormat.{thin_layout}
use Rattle.pd_laid.specs.FoundRoots.{FoundRoots, IsFound, are_fitting, is_better, is_sound_tree, lost_graph, roots_at}
use Rattle.pd_graph.specs.declared.notes.Notes.{Notes}
use Rattle.pd_graph.specs.Notes.{note_in, size_of}
use Rattle.pd_measures.specs.declared.measures.Measured.{Measured}
use Rattle.pd_measures.specs.Counts.{DeviceCount, counts_of_details, counts_of_top, details_time, details_transaction, times_of_top, top_time, total_of}
use Rattle.pd_measures.specs.Measured.{list_measure, capped, capped_sum, measure_at}
use Rattle.pd_measures.proofs.SoundLemmas.{root_inside}
use Rattle.pd_scan.specs.declared.trees.LostTrees.{LostTrees}
use Rattle.pd_scan.specs.Lost.{AreRoots, IsPool, HavePlaces}
use Rattle.pd_scan.specs.Pairs.{AreTreesOf, IsBestOf, may_fit, pair_of_trees}
use Rattle.pd_scan.specs.Partners.{has_sum, is_partner, sum_of, time_at, is_noted_good}

pub fitting_parts : (graph : Graph) (image : List (List ℕ)) (top details : ℕ) → are_fitting graph image top details ≡ true
    → (is_sound_tree graph image 2 top ≡ true) × (is_sound_tree graph image 4 details ≡ true)
unfolding are_fitting
fitting_parts graph image top details e =
    let parts = and_parts (is_sound_tree graph image 2 top) _ e in
    (parts.0, (and_parts (is_sound_tree graph image 4 details) _ parts.1).0)

-- the root of a sound tree was noted as good, and what was noted as good is the root of a sound tree
pub good_root : (graph : Graph) (image : List (List ℕ)) (role : ℕ) (notes : Notes) → AreRoots graph image role notes → graph.nr ≡ size_of notes
    → (b : ℕ) → is_sound_tree graph image role b ≡ true → is_noted_good notes b ≡ true
good_root graph image role notes roots number b sound =
    let small = root_inside graph image role b sound in
    and_from (nat_lt b (size_of notes)) (nat_lt (note_in notes b).height 65) (lt-ltb b (size_of notes) (omega arith)) (roots.sound b small ∙ sound)

pub root_good : (graph : Graph) (image : List (List ℕ)) (role : ℕ) (notes : Notes) → AreRoots graph image role notes → graph.nr ≡ size_of notes
    → (b : ℕ) → is_noted_good notes b ≡ true → is_sound_tree graph image role b ≡ true
root_good graph image role notes roots number b good =
    let parts = and_parts (nat_lt b (size_of notes)) (nat_lt (note_in notes b).height 65) good in
    let small = ltb-true b (size_of notes) parts.0 in
    sym (roots.sound b (omega arith)) ∙ parts.1

-- the sum is that of the list, whatever the times and the transaction
sum_of_list : List DeviceCount → ℕ × ℕ
unfolding list_measure
sum_of_list counts = sum_of (list_measure counts 0 0 0)

module _ (counts : List DeviceCount) (time transaction sum : ℕ) (measure : Measured) (e : measure ≡ list_measure counts time transaction sum) where
  sum_is : sum_of measure ≡ sum_of_list counts
  unfolding sum_of_list list_measure
  sum_is = ap sum_of e

  total_is : measure.total ≡ capped (total_of counts)
  unfolding list_measure
  total_is = ap (λ (m : Measured). m.total) e

  time_is : measure.time ≡ time
  unfolding list_measure
  time_is = ap (λ (m : Measured). m.time) e

  transaction_is : measure.transaction ≡ transaction
  unfolding list_measure
  transaction_is = ap (λ (m : Measured). m.transaction) e

  times_are : measure.times ≡ capped_sum sum
  unfolding list_measure
  times_are = ap (λ (m : Measured). m.times) e

has_its_sum : (sum : ℕ × ℕ) (measure : Measured) → sum_of measure ≡ sum → has_sum sum measure ≡ true
has_its_sum sum measure e =
    and_from (nat_eq measure.total sum.0) (nat_eq measure.print sum.1) (eq-eqb measure.total sum.0 (ap (λ (s : ℕ × ℕ). s.0) e))
    (eq-eqb measure.print sum.1 (ap (λ (s : ℕ × ℕ). s.1) e))

-- two roots by their numbers
abbrev pub roots_by : ℕ → ℕ → ℕ → ℕ → ℕ → ℕ → FoundRoots
roots_by top details mappings time transaction times =
    record { top = top; details = details; mappings = mappings; time = time; transaction = transaction; times = times }

module _ (image : List (List ℕ)) (data_blocks : ℕ) (trees : LostTrees) (are : AreTreesOf image data_blocks trees) where
  -- trees that may fit are sound
  pub fitting_sound : (top details : ℕ) → may_fit trees top details ≡ true
      → (is_sound_tree (lost_graph image data_blocks) image 2 top ≡ true) × (is_sound_tree (lost_graph image data_blocks) image 4 details ≡ true)
  unfolding may_fit is_partner
  fitting_sound top details e =
      let graph = lost_graph image data_blocks in
      let parts = and_parts (is_noted_good trees.tops top) _ e in
      let later = and_parts (is_noted_good trees.details details) _ parts.1 in
      let told = are.told in (
        root_good graph image 2 trees.tops told.tops are.number top parts.0,
        root_good graph image 4 trees.details told.details (are.number ∙ sym are.places) details later.0,
      )

  module _ (top details : ℕ) (sound : is_sound_tree (lost_graph image data_blocks) image 2 top ≡ true)
      (other : is_sound_tree (lost_graph image data_blocks) image 4 details ≡ true)
      (one : counts_of_top (lost_graph image data_blocks) image top ≡ counts_of_details (lost_graph image data_blocks) image details) where
    -- trees with one list may fit
    pub may_fit_by : may_fit trees top details ≡ true
    unfolding may_fit is_partner
    may_fit_by =
        let graph = lost_graph image data_blocks in
        let told = are.told in
        let first = told.top_measures top (root_inside graph image 2 top sound) sound in
        let second = told.details_measures details (root_inside graph image 4 details other) other in
        let same : sum_of (measure_at trees.details_measures details) ≡ sum_of (measure_at trees.top_measures top) =
        sum_is (counts_of_details graph image details) _ _ _ (measure_at trees.details_measures details) second
        ∙ (ap sum_of_list (sym one) ∙ sym (sum_is (counts_of_top graph image top) _ _ _ (measure_at trees.top_measures top) first)) in
        and_from (is_noted_good trees.tops top) _ (good_root graph image 2 trees.tops told.tops are.number top sound)
        (and_from (is_noted_good trees.details details) _ (good_root graph image 4 trees.details told.details (are.number ∙ sym are.places) details other)
        (has_its_sum (sum_of (measure_at trees.top_measures top)) (measure_at trees.details_measures details) same))

    -- and their roots are told by what is measured of them
    pub pair_by : roots_by top details (total_of (counts_of_top (lost_graph image data_blocks) image top))
        (max (top_time (lost_graph image data_blocks) image top) (details_time (lost_graph image data_blocks) image details))
        (details_transaction (lost_graph image data_blocks) image details) (times_of_top (lost_graph image data_blocks) image top) ≡ pair_of_trees trees top details
    unfolding pair_of_trees
    pair_by =
        let graph = lost_graph image data_blocks in
        let told = are.told in
        let small = root_inside graph image 2 top sound in
        let less = root_inside graph image 4 details other in
        let first = told.top_measures top small sound in
        let second = told.details_measures details less other in
        let few = told.few top small sound in
        let top_few = told.top_times top small sound in
        let details_few = told.details_times details less other in
        let few_times = told.few_times top small sound in
        let total = total_is (counts_of_top graph image top) _ _ _ (measure_at trees.top_measures top) first in
        let time = time_is (counts_of_top graph image top) _ _ _ (measure_at trees.top_measures top) first in
        let sum = times_are (counts_of_top graph image top) _ _ _ (measure_at trees.top_measures top) first in
        let last = time_is (counts_of_details graph image details) _ _ _ (measure_at trees.details_measures details) second in
        let newest = transaction_is (counts_of_details graph image details) _ _ _ (measure_at trees.details_measures details) second in
        ap₂ (λ (x y : ℕ). roots_by top details x y (details_transaction graph image details) (times_of_top graph image top)) (omega arith) (omega arith)
        ∙ ap₂ (roots_by top details (measure_at trees.top_measures top).total (max (time_at trees.top_measures top) (time_at trees.details_measures details)))
        (sym newest) (omega arith)

  -- the best of all pairs by what is measured of them is what is to be found
  module _ (roots : (top details : ℕ) → are_fitting (lost_graph image data_blocks) image top details ≡ true
      → roots_at (lost_graph image data_blocks) image top details ≡ pair_of_trees trees top details) where
    pub is_found : (found : Option FoundRoots)
        → IsBestOf (are_fitting (lost_graph image data_blocks) image) (pair_of_trees trees) (λ t d. t < size_of trees.tops) found → IsFound (lost_graph image data_blocks) image found
    is_found None none = λ top details.
        let graph = lost_graph image data_blocks in
        false_from_ne_true (are_fitting graph image top details)
        (λ e.
        let small = root_inside graph image 2 top (fitting_parts graph image top details e).0 in
        let number = are.number in
        both_ways (are_fitting graph image top details) (none top details (omega arith)) e)
    is_found (Some found) best =
        let graph = lost_graph image data_blocks in
        record {
          fitting = best.fitting;
          numbers = best.numbers ∙ sym (roots found.top found.details best.fitting);
          best = λ top details e.
              let small = root_inside graph image 2 top (fitting_parts graph image top details e).0 in
              let number = are.number in
              subst (λ (r : FoundRoots). is_better r found ≡ false) (sym (roots top details e)) (best.none_better top details (omega arith) e);
        }

-- The format of a pool whose roots are looked for.

pub nr_of : (graph : Graph) (nr data_blocks : ℕ) → graph ≡ graph_of 11 nr data_blocks (thin_layout nr data_blocks) → graph.nr ≡ nr
unfolding graph_of
nr_of graph nr data_blocks e = ap (λ (g : Graph). g.nr) e

its_pool : (nr data_blocks : ℕ) → IsPool 11 (graph_of 11 nr data_blocks (thin_layout nr data_blocks))
unfolding graph_of
its_pool nr data_blocks = record { roles_number = refl; format = refl }

pub pool_of : (graph : Graph) (nr data_blocks : ℕ) → graph ≡ graph_of 11 nr data_blocks (thin_layout nr data_blocks) → IsPool 11 graph
pool_of graph nr data_blocks e = subst (IsPool 11) (sym e) (its_pool nr data_blocks)

-- it is that of the image, where there are as many blocks as the image has, and no more than there can be
pub lost_is : (image : List (List ℕ)) (nr data_blocks : ℕ) (graph : Graph) → graph ≡ graph_of 11 nr data_blocks (thin_layout nr data_blocks)
    → nr ≡ min (length image) MAX_META_BLOCKS → graph ≡ lost_graph image data_blocks
unfolding lost_graph
lost_is image nr data_blocks graph e number = e ∙ ap (λ (n : ℕ). graph_of 11 n data_blocks (thin_layout n data_blocks)) number

-- of no blocks no two trees fit
pub none_found : (image : List (List ℕ)) (data_blocks : ℕ) → min (length image) MAX_META_BLOCKS ≡ 0 → IsFound (lost_graph image data_blocks) image None
unfolding lost_graph graph_of
none_found image data_blocks none = λ top details.
    let graph = lost_graph image data_blocks in
    false_from_ne_true (are_fitting graph image top details)
    (λ e. let small = root_inside graph image 2 top (fitting_parts graph image top details e).0 in absurd (omega arith))

-- the trees have as many places as the first of them
pub places_by : (nr : ℕ) (trees : LostTrees) → HavePlaces nr trees → HavePlaces (size_of trees.tops) trees
places_by nr trees places = subst (λ (n : ℕ). HavePlaces n trees) (sym places.tops) places

-- there are no blocks where the image has none
pub no_blocks : (image : List (List ℕ)) (data_blocks : ℕ) → min (length image) MAX_META_BLOCKS ≡ 0 → (lost_graph image data_blocks).nr ≡ 0
unfolding lost_graph graph_of
no_blocks image data_blocks none = none
