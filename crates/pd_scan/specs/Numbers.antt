-- The lists of devices of all trees, each with a number: two trees have one number where they have one list.
use Rattle.std.specs.Prelude.{◌≡◌, ℕ, ◌<◌, Vec, true, if◌then◌else◌, List, Some, MatchOption}
use Rattle.std.specs.declared.alloc.Global.{Global}
use Rattle.std.specs.declared.cmp.Ordering.{Ordering}
use Rattle.std.specs.BTreeMap.{BTreeMap, get}
use Rattle.std.specs.Cmp.Lexicographic.{slice_cmp}
use Rattle.std.specs.List.{AllByRecursion}
use Rattle.std.specs.Option.{unwrap_or}
use Rattle.std.specs.Ordering.{is_eq}
use Rattle.std.specs.Vec.{vec_items}
use Rattle.pd_kinds.specs.Graph.{Graph}
use Rattle.pd_kinds.specs.Node.{Entry}
use Rattle.pd_kinds.specs.Whole.{top_entries}
use Rattle.pd_laid.specs.FoundRoots.{is_sound_tree}
use Rattle.pd_graph.specs.Notes.{size_of}
use Rattle.pd_measures.specs.declared.measures.Measured.{Measured}
use Rattle.pd_measures.specs.Counts.{counts_of_details, counts_of_top, mappings_below, pairs_of}
use Rattle.pd_measures.specs.Measured.{below_root, measure_at, places_of}
use Rattle.pd_measures.specs.declared.measures.Measures.{Measures}
use Rattle.pd_scan.specs.declared.trees.LostTrees.{LostTrees}
use Rattle.pd_scan.specs.Lost.{AreRoots}
use Rattle.pd_scan.specs.Partners.{sum_cmp}

-- a list of devices in memory, and the order of such lists
abbrev pub DeviceCounts : Type 0
DeviceCounts = Vec (ℕ × ℕ) Global

abbrev pub list_cmp : DeviceCounts → DeviceCounts → Ordering
list_cmp a b = slice_cmp sum_cmp (vec_items a) (vec_items b)

-- a table of lists with their numbers
abbrev pub Numbers : Type 0
Numbers = BTreeMap DeviceCounts ℕ

-- the list of a details tree, and that of a mapping tree
abbrev pub details_list : Graph → List (List ℕ) → ℕ → List (ℕ × ℕ)
details_list graph image b = pairs_of (counts_of_details graph image b)

abbrev pub top_list : Graph → List (List ℕ) → ℕ → List (ℕ × ℕ)
top_list graph image b = pairs_of (counts_of_top graph image b)

-- a list has the number that it has in the table, or this one, which it gets there
abbrev pub IsNumber : Numbers → Numbers → DeviceCounts → ℕ → ℕ → Type 0
IsNumber old new list own number = MatchOption (get list_cmp old list)
    ((number ≡ own) × ((key : DeviceCounts) → get list_cmp new key ≡ (if is_eq (list_cmp list key) then Some own else get list_cmp old key)))
    (λ known. (number ≡ known) × (new ≡ old))

-- a measure with a number in the place of its fingerprint
abbrev pub with_number : Measured → ℕ → Measured
with_number measure number = record measure { print = number }

-- measures that have numbers in the place of fingerprints
pub record HaveNumbers (old new : Measures) : Type 0 where
  pub places : places_of new ≡ places_of old
  pub measures : (b : ℕ) → measure_at new b ≡ with_number (measure_at old b) (measure_at new b).print

-- each details tree before a block has as its number a root before it with the same list, and so has each list in the table
pub record AreNumbered (graph : Graph) (image : List (List ℕ)) (measures : Measures) (before : ℕ) (numbers : Numbers) : Type 0 where
  pub same : (b : ℕ) → b < before → is_sound_tree graph image 4 b ≡ true
      → ((measure_at measures b).print < before) × (details_list graph image (measure_at measures b).print ≡ details_list graph image b)
  pub known : (b : ℕ) → b < before → is_sound_tree graph image 4 b ≡ true
      → (key : DeviceCounts) → vec_items key ≡ details_list graph image b → get list_cmp numbers key ≡ Some (measure_at measures b).print
  pub told : (key : DeviceCounts) (number : ℕ) → get list_cmp numbers key ≡ Some number
      → (number < before) × (details_list graph image number ≡ vec_items key)

-- the number of a mapping tree is that of its list, and another one where no details tree has it
pub record IsTopNumber (graph : Graph) (image : List (List ℕ)) (numbers : Numbers) (none top number : ℕ) : Type 0 where
  pub key : DeviceCounts
  pub is_list : vec_items key ≡ top_list graph image top
  pub is : number ≡ unwrap_or (get list_cmp numbers key) none

-- so it is of the mapping trees before a block
pub record AreTopsNumbered (graph : Graph) (image : List (List ℕ)) (numbers : Numbers) (none before : ℕ) (measures : Measures) : Type 0 where
  pub each : (top : ℕ) → top < before → is_sound_tree graph image 2 top ≡ true → IsTopNumber graph image numbers none top (measure_at measures top).print

-- the notes tell which trees are sound, and how many mappings stand below each root that a sound mapping tree names
pub record AreTold (graph : Graph) (image : List (List ℕ)) (trees : LostTrees) : Type 0 where
  pub number : graph.nr ≡ size_of trees.tops
  pub places : size_of trees.details ≡ size_of trees.tops
  pub tops : AreRoots graph image 2 trees.tops
  pub details : AreRoots graph image 4 trees.details
  pub below : (b : ℕ) → b < graph.nr → is_sound_tree graph image 2 b ≡ true
      → AllByRecursion (λ (e : Entry). below_root trees.devices e.value ≡ mappings_below graph image e.value) (top_entries graph image b)

-- trees of which only measures changed: those of the details trees, or those of the mapping trees, in nothing but numbers
pub record AreDetailsNumbered (old new : LostTrees) : Type 0 where
  pub same : new ≡ record old { details_measures = new.details_measures }
  pub measures : HaveNumbers old.details_measures new.details_measures

pub record AreTopsChanged (old new : LostTrees) : Type 0 where
  pub same : new ≡ record old { top_measures = new.top_measures }
  pub measures : HaveNumbers old.top_measures new.top_measures
