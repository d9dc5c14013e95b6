-- What stands below the roots of settled trees: how many entries, how many mappings, and the latest times.
use Rattle.std.proofs.Common.{◌≡◌, ℕ, ◌*◌, ◌^◌, ◌<◌, ◌≤◌, Bool, true, cond, sum_by, List, [], ◌∷◌, length, refl, ◌∙◌, ap, arith}
use Rattle.std.specs.List.{AllByRecursion}
use Rattle.std.proofs.Math.Nat.{suc-mul}
use Rattle.std.proofs.lemmas.Bool.{lt-ltb}
use Rattle.std.proofs.lemmas.List.Sums.{sum_by-cons}
use Rattle.pd_kinds.specs.Image.{HasBytes}
use Rattle.pd_kinds.specs.Node.{Entry}
use Rattle.pd_kinds.specs.Graph.{Graph, pair}
use Rattle.pd_kinds.specs.ThinFormat.{mapped_time}
use Rattle.pd_kinds.specs.Trees.{entries_below}
use Rattle.pd_kinds.specs.Whole.{details_entries, mapping_entries, top_entries}
use Rattle.pd_kinds.proofs.ListLemmas.{all_flat_map, all_from, all_map, all_of}
use Rattle.pd_laid.specs.FoundRoots.{is_sound_tree}
use Rattle.pd_graph.specs.declared.notes.Notes.{Notes}
use Rattle.pd_graph.specs.Notes.{note_in}
use Rattle.pd_settle.specs.Settled.{is_good_node}
use Rattle.pd_tree.specs.Search.{IsTreeTo}
use Rattle.pd_measures.specs.Counts.{DeviceCount, counts_by_roots, counts_of_top, details_time, details_times, latest, mapping_times, mappings_below, times_below, times_of_top, top_time, total_of, counts_of_details, details_transaction}
use Rattle.pd_measures.specs.Measured.{below_root, details_gauge, list_measure, mappings_gauge, top_gauge, capped_sum, measured, measure_at, AreMeasured, AreToldOf}
use Rattle.pd_measures.proofs.SoundLemmas.{root_inside}
use Rattle.pd_measures.proofs.MeasureLemmas.{latest-cons, latest-nil}
use Rattle.pd_measures.specs.declared.measures.Measured.{Measured}
use Rattle.pd_measures.specs.declared.measures.Measures.{Measures}
use Rattle.pd_scan.specs.Lost.{is_fit_root, AreSettledTrees, AreAllMeasured, trees_of, AreLostTrees}
use Rattle.pd_scan.proofs.SoundLemmas.{good_is_sound}
use Rattle.pd_scan.proofs.EntryLemmas.{number_of_entries, values_fit, entries_name_roots}
use Rattle.pd_scan.specs.declared.trees.Tables.{Tables}

-- the settled trees of a role
module _ (graph : Graph) (image : List (List ℕ)) (role size : ℕ) (notes : Notes) (are : AreSettledTrees graph image role size notes)
    (b : ℕ) (sound : is_sound_tree graph image role b ≡ true) where
  inside : b < graph.nr
  inside = root_inside graph image role b sound

  pub root_good : is_good_node graph image (is_fit_root graph image role) true (pair b role) ≡ true
  root_good = good_is_sound graph image are.trees.lawful role (is_fit_root graph image role) are.trees.known (λ c less. refl) b inside ∙ sound

  pub number_noted : (note_in notes b).below ≡ length (entries_below graph image size role b)
  number_noted = are.roots.below b inside sound ∙ number_of_entries graph image role size are.trees.tree are.trees.lawful are.trees.known b sound

  pub few_entries : length (entries_below graph image size role b) < 2 ^ 31
  few_entries =
      let most = are.trees.settled.few b inside root_good in
      let blocks = are.trees.lawful.few_blocks in
      omega (arith, number_noted)

-- the notes of devices' trees tell how many mappings stand below each
pub mappings_noted : (graph : Graph) (image : List (List ℕ)) (notes : Notes) → AreSettledTrees graph image 3 8 notes
    → (root : ℕ) → is_sound_tree graph image 3 root ≡ true → below_root notes root ≡ mappings_below graph image root
unfolding mappings_below
mappings_noted graph image notes are root sound =
    let number = are.trees.number in
    let small = root_inside graph image 3 root sound in
    ap (λ (t : Bool). cond t (note_in notes root).below 0) (lt-ltb root notes.nr (omega arith)) ∙ number_noted graph image 3 8 notes are root sound

-- the sum of numbers of which none is above a limit
sum_most : (f : ℕ → ℕ) (most : ℕ) (es : List Entry) → AllByRecursion (λ (e : Entry). f e.value ≤ most) es → total_of (counts_by_roots f es) ≤ length es * most
sum_most f most [] all = omega arith
sum_most f most (e ∷ es) all =
    let rest = sum_most f most es all.1 in
    let first = all.0 in
    omega (arith, suc-mul (length es) most, sum_by-cons (λ (c : DeviceCount). c.mapped) (record { id = e.key; mapped = f e.value }) (counts_by_roots f es))

-- few mappings stand below each root
few_below : (graph : Graph) (image : List (List ℕ)) (notes : Notes) → AreSettledTrees graph image 3 8 notes
    → (root : ℕ) → is_sound_tree graph image 3 root ≡ true → mappings_below graph image root ≤ 2 ^ 31
unfolding mappings_below
few_below graph image notes are root sound = let few = few_entries graph image 3 8 notes are root sound in omega arith

-- so a sound mapping tree has fewer mappings than a number of 64 bits holds
pub few_mappings : (graph : Graph) (image : List (List ℕ)) (tops devices : Notes) → AreSettledTrees graph image 2 8 tops → AreSettledTrees graph image 3 8 devices
    → (b : ℕ) → is_sound_tree graph image 2 b ≡ true → AllByRecursion (λ (e : Entry). is_sound_tree graph image 3 e.value ≡ true) (top_entries graph image b)
    → total_of (counts_of_top graph image b) < 2 ^ 64
unfolding counts_of_top
few_mappings graph image tops devices are_tops are b sound named =
    let entries = top_entries graph image b in
    let each = all_from (λ (e : Entry). is_sound_tree graph image 3 e.value ≡ true) (λ (e : Entry). mappings_below graph image e.value ≤ 2 ^ 31)
    (λ e is. few_below graph image devices are e.value is) entries named in
    let sum = sum_most (mappings_below graph image) (2 ^ 31) entries each in
    let number = few_entries graph image 2 8 tops are_tops b sound in
    omega arith

-- the sum of their times
sum_under : (f : Entry → ℕ) (most : ℕ) (es : List Entry) → AllByRecursion (λ (e : Entry). f e ≤ most) es → sum_by f es ≤ length es * most
sum_under f most [] all = omega arith
sum_under f most (e ∷ es) all =
    let rest = sum_under f most es all.1 in
    let first = all.0 in
    omega (arith, suc-mul (length es) most, sum_by-cons f e es)

pub few_times_below : (graph : Graph) (image : List (List ℕ)) (notes : Notes) → AreSettledTrees graph image 3 8 notes
    → (root : ℕ) → is_sound_tree graph image 3 root ≡ true → times_below graph image root ≤ 2 ^ 55
unfolding times_below
few_times_below graph image notes are root sound =
    let entries = mapping_entries graph image root in
    let sum = sum_under (λ (e : Entry). mapped_time e.value) (2 ^ 24) entries (all_of (λ (e : Entry). mapped_time e.value ≤ 2 ^ 24) (λ e. omega arith) entries) in
    let few = few_entries graph image 3 8 notes are root sound in
    omega arith

pub few_times : (graph : Graph) (image : List (List ℕ)) (tops devices : Notes) → AreSettledTrees graph image 2 8 tops → AreSettledTrees graph image 3 8 devices
    → (b : ℕ) → is_sound_tree graph image 2 b ≡ true → AllByRecursion (λ (e : Entry). is_sound_tree graph image 3 e.value ≡ true) (top_entries graph image b)
    → times_of_top graph image b < 2 ^ 128
unfolding times_of_top
few_times graph image tops devices are_tops are b sound named =
    let entries = top_entries graph image b in
    let each = all_from (λ (e : Entry). is_sound_tree graph image 3 e.value ≡ true) (λ (e : Entry). times_below graph image e.value ≤ 2 ^ 55)
    (λ e is. few_times_below graph image devices are e.value is) entries named in
    let sum = sum_under (λ (e : Entry). times_below graph image e.value) (2 ^ 55) entries each in
    let number = few_entries graph image 2 8 tops are_tops b sound in
    omega arith

-- times below a limit
latest_below : (limit : ℕ) (times : List ℕ) → 1 ≤ limit → AllByRecursion (λ (t : ℕ). t < limit) times → latest times < limit
latest_below limit [] some all = let none = latest-nil in omega arith
latest_below limit (t ∷ ts) some all =
    let rest = latest_below limit ts some all.1 in
    let first = all.0 in
    let both = latest-cons t ts in
    omega arith

-- those of mappings
pub top_time_fits : (graph : Graph) (image : List (List ℕ)) (b : ℕ) → top_time graph image b < 2 ^ 32
unfolding top_time
top_time_fits graph image b =
    latest_below (2 ^ 32) _ (omega arith)
    (all_flat_map (λ (e : Entry). mapping_times graph image e.value) (λ (t : ℕ). t < 2 ^ 32) (top_entries graph image b)
    (all_of (λ (e : Entry). AllByRecursion (λ (t : ℕ). t < 2 ^ 32) (mapping_times graph image e.value))
    (λ e. all_map (λ (m : Entry). mapped_time m.value) (λ (t : ℕ). t < 2 ^ 32) (λ m. omega arith) (mapping_entries graph image e.value)) (top_entries graph image b)))

-- the times of details
times_fit : (value : ℕ) → value < 256 ^ 24 → AllByRecursion (λ (t : ℕ). t < 2 ^ 32) (details_times value)
times_fit value small = (omega arith, (omega arith, tt))

pub details_time_fits : (graph : Graph) (image : List (List ℕ)) (b : ℕ) → HasBytes image → details_time graph image b < 2 ^ 32
unfolding details_time
details_time_fits graph image b bytes =
    latest_below (2 ^ 32) _ (omega arith)
    (all_flat_map (λ (e : Entry). details_times e.value) (λ (t : ℕ). t < 2 ^ 32) (details_entries graph image b)
    (all_from (λ (e : Entry). e.value < 256 ^ 24) (λ (e : Entry). AllByRecursion (λ (t : ℕ). t < 2 ^ 32) (details_times e.value)) (λ e small. times_fit e.value small)
    (details_entries graph image b) (values_fit graph image 4 24 b bytes)))

-- What the filled tables tell of all trees of a pool.

-- the notes and the measures tell of the root of a sound device's tree
told_of : (graph : Graph) (image : List (List ℕ)) (notes : Notes) (times : Measures) → AreSettledTrees graph image 3 8 notes
    → AreMeasured graph image 3 8 (is_fit_root graph image 3) mappings_gauge times → (root : ℕ) → is_sound_tree graph image 3 root ≡ true
    → AreToldOf graph image notes times root
unfolding measured times_below
told_of graph image notes times are measures root sound = record {
  number = mappings_noted graph image notes are root sound;
  time = ap (λ (m : Measured). m.time) (measures.nodes root (root_inside graph image 3 root sound) (root_good graph image 3 8 notes are root sound));
  sum =
      let few = few_times_below graph image notes are root sound in
      let capped : (measure_at times root).times ≡ capped_sum (times_below graph image root) =
      ap (λ (m : Measured). m.times) (measures.nodes root (root_inside graph image 3 root sound) (root_good graph image 3 8 notes are root sound)) in
      omega arith;
}

module _ (graph : Graph) (image : List (List ℕ)) (tables : Tables) (are : AreAllMeasured graph image tables) (to : IsTreeTo graph 2 8 3 (λ v. v))
    (of_details : (b : ℕ) → measured details_gauge (details_entries graph image b) ≡ list_measure (counts_of_details graph image b) (details_time graph image b)
    (details_transaction graph image b) 0)
    (of_tops : (b : ℕ) (notes : Notes) (times : Measures) → AllByRecursion (λ (e : Entry). AreToldOf graph image notes times e.value) (top_entries graph image b)
    → measured (top_gauge notes times) (top_entries graph image b) ≡ list_measure (counts_of_top graph image b) (top_time graph image b) 0
    (times_of_top graph image b)) where
  named : (b : ℕ) → is_sound_tree graph image 2 b ≡ true → AllByRecursion (λ (e : Entry). is_sound_tree graph image 3 e.value ≡ true) (top_entries graph image b)
  named b sound =
      entries_name_roots graph image 2 8 3 (λ v. v) to are.settled.tops.trees.lawful are.settled.tops.trees.known b sound

  told : (b : ℕ) → is_sound_tree graph image 2 b ≡ true
      → AllByRecursion (λ (e : Entry). AreToldOf graph image tables.devices.notes tables.devices.times e.value) (top_entries graph image b)
  told b sound =
      all_from (λ (e : Entry). is_sound_tree graph image 3 e.value ≡ true) (λ (e : Entry). AreToldOf graph image tables.devices.notes tables.devices.times e.value)
      (λ e is. told_of graph image tables.devices.notes tables.devices.times are.settled.devices are.devices e.value is) (top_entries graph image b) (named b sound)

  pub lost_trees_are : HasBytes image → AreLostTrees graph image (trees_of tables)
  lost_trees_are bytes = record {
    tops = are.settled.tops.roots;
    details = are.settled.details.roots;
    number = λ b small sound. number_noted graph image 2 8 tables.tops are.settled.tops b sound;
    told = λ b small sound.
        all_from (λ (e : Entry). AreToldOf graph image tables.devices.notes tables.devices.times e.value)
        (λ (e : Entry). below_root tables.devices.notes e.value ≡ mappings_below graph image e.value) (λ e is. is.number) (top_entries graph image b) (told b sound);
    top_measures = λ b small sound.
        are.tops.nodes b small (root_good graph image 2 8 tables.tops are.settled.tops b sound)
        ∙ of_tops b tables.devices.notes tables.devices.times (told b sound);
    details_measures = λ b small sound.
        are.details.nodes b small (root_good graph image 4 24 tables.details are.settled.details b sound) ∙ of_details b;
    few = λ b small sound. few_mappings graph image tables.tops tables.devices.notes are.settled.tops are.settled.devices b sound (named b sound);
    top_times = λ b small sound. top_time_fits graph image b;
    details_times = λ b small sound. details_time_fits graph image b bytes;
    few_times = λ b small sound. few_times graph image tables.tops tables.devices.notes are.settled.tops are.settled.devices b sound (named b sound);
  }
