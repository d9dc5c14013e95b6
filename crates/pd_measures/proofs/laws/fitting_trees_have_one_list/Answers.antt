use Rattle.std.proofs.Common.{◌≡◌, ℕ, Bool, true, ◌&&◌, max, fold, sum_by, List, map, ◌∙◌, ap₂, arith}
use Rattle.std.specs.List.{flat_map}
use Rattle.std.proofs.lemmas.Bool.{and_parts, and_from}
use Rattle.pd_kinds.specs.Graph.{Graph}
use Rattle.pd_kinds.specs.Meaning.{Mapping, ThinDevice}
use Rattle.pd_kinds.specs.Trees.{keys_of}
use Rattle.pd_kinds.specs.Whole.{top_entries, details_entries}
use Rattle.pd_laid.specs.FoundRoots.{FoundRoots, are_fitting, devices_below, is_sound_tree, lost_graph, roots_at, times_of}
use Rattle.pd_check.specs.Known.{IsUp}
use Rattle.pd_measures.specs.Counts.{counts_of_top, counts_of_details, details_time, details_transaction, times_of_top, top_time}
use Rattle.pd_measures.proofs.ListLemmas.{fits, fits_list, list_fits, fits_total, fits_time, fits_times, fits_transaction}
use Rattle.pd_measures.proofs.SoundLemmas.{lost_details, lost_lawful, lost_roles, root_inside}
use Rattle.pd_measures.proofs.laws.fitting_trees_have_one_list.Goals as goal

both_sound : (a b c : Bool) → (a && (b && c)) ≡ true → (a ≡ true) × (b ≡ true) × (c ≡ true)
both_sound a b c e =
    let parts = and_parts a (b && c) e in
    let later = and_parts b c parts.1 in
    (parts.0, later.0, later.1)

fitting_parts : (graph : Graph) (image : List (List ℕ)) (top details : ℕ) → are_fitting graph image top details ≡ true
    → (is_sound_tree graph image 2 top ≡ true) × (is_sound_tree graph image 4 details ≡ true)
    × ((up : IsUp 0 (keys_of (details_entries graph image details))) → fits graph image (top_entries graph image top) (details_entries graph image details) up ≡ true)
unfolding are_fitting devices_below
fitting_parts graph image top details e =
    let parts = both_sound (is_sound_tree graph image 2 top) (is_sound_tree graph image 4 details) _ e in
    (parts.0, parts.1, λ up. parts.2)

fitting_from : (graph : Graph) (image : List (List ℕ)) (top details : ℕ) → is_sound_tree graph image 2 top ≡ true → is_sound_tree graph image 4 details ≡ true
    → (up : IsUp 0 (keys_of (details_entries graph image details)))
    → fits graph image (top_entries graph image top) (details_entries graph image details) up ≡ true → are_fitting graph image top details ≡ true
unfolding are_fitting devices_below
fitting_from graph image top details first second up e =
    and_from (is_sound_tree graph image 2 top) _ first (and_from (is_sound_tree graph image 4 details) _ second e)

pub returns-clause-fitting : goal.returns-clause-fitting
unfolding counts_of_top counts_of_details
returns-clause-fitting c image data_blocks top details first second =
    let graph = lost_graph image data_blocks in
    let lawful = lost_lawful c.thin_format_is_lawful.ensures.table image data_blocks top (root_inside graph image 2 top first) in
    let roles = lost_roles image data_blocks in
    let up : IsUp 0 (keys_of (details_entries graph image details)) =
    c.keys_of_sound_trees_ascend.ensures graph image details 4 24 (lost_details image data_blocks)
    (c.found_trees_are_sound.ensures graph image 4 details lawful (omega arith) second) in (
      λ e. fits_list graph image (top_entries graph image top) (details_entries graph image details) up ((fitting_parts graph image top details e).2 up),
      λ e. fitting_from graph image top details first second up (list_fits graph image (top_entries graph image top) (details_entries graph image details) up e),
    )

the_roots : ℕ → ℕ → ℕ → ℕ → ℕ → ℕ → FoundRoots
the_roots top details mappings time transaction times =
    record { top = top; details = details; mappings = mappings; time = time; transaction = transaction; times = times }

roots_are : (graph : Graph) (image : List (List ℕ)) (top details mappings time transaction times : ℕ)
    → sum_by (λ (d : ThinDevice). d.mapped) (devices_below graph image top details) ≡ mappings
    → fold max 0 (flat_map times_of (devices_below graph image top details)) ≡ time
    → fold max 0 (map (λ (d : ThinDevice). d.transaction) (devices_below graph image top details)) ≡ transaction
    → sum_by (λ (d : ThinDevice). sum_by (λ (m : Mapping). m.time) d.mappings) (devices_below graph image top details) ≡ times
    → roots_at graph image top details ≡ the_roots top details mappings time transaction times
unfolding roots_at the_roots
roots_are graph image top details mappings time transaction times first second third fourth =
    ap₂ (λ (x y : ℕ). the_roots top details x y (fold max 0 (map (λ (d : ThinDevice). d.transaction) (devices_below graph image top details)))
    (sum_by (λ (d : ThinDevice). sum_by (λ (m : Mapping). m.time) d.mappings) (devices_below graph image top details))) first second
    ∙ ap₂ (λ (x y : ℕ). the_roots top details mappings time x y) third fourth

pub returns-clause-roots : goal.returns-clause-roots
unfolding counts_of_top top_time details_time details_transaction times_of_top devices_below the_roots
returns-clause-roots c image data_blocks top details e =
    let graph = lost_graph image data_blocks in
    let parts = fitting_parts graph image top details e in
    let lawful = lost_lawful c.thin_format_is_lawful.ensures.table image data_blocks top (root_inside graph image 2 top parts.0) in
    let roles = lost_roles image data_blocks in
    let up : IsUp 0 (keys_of (details_entries graph image details)) =
    c.keys_of_sound_trees_ascend.ensures graph image details 4 24 (lost_details image data_blocks)
    (c.found_trees_are_sound.ensures graph image 4 details lawful (omega arith) parts.1) in
    let fit = parts.2 up in
    roots_are graph image top details _ _ _ _
    (fits_total graph image (top_entries graph image top) (details_entries graph image details) up fit)
    (fits_time graph image (top_entries graph image top) (details_entries graph image details) up fit)
    (fits_transaction graph image (top_entries graph image top) (details_entries graph image details) up fit)
    (fits_times graph image (top_entries graph image top) (details_entries graph image details) up fit)
