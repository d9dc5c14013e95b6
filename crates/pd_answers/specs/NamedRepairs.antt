-- Trusted base.
-- The terms of a repair from roots that are named, and of what a repair without a superblock would keep.
-- Roots that are named where the superblock is lost, or isn't to be used: from which superblock is saved what stands below them.
-- The text of the states of a pool whose superblock is lost, to choose from.
use Rattle.std.specs.Prelude.{ℕ, ◌+◌, ◌-◌, ◌^◌, max, min, Bool, if◌then◌else◌, List, fold, is_none, [], ◌∷◌, ◌++◌, length, nat_lt, take, codes, decimal, Option, Some, None, ◌≡◌, true, false, IfSome}
use Rattle.std.specs.List.{list_any, flat_map}
use Rattle.std.specs.Option.{option_map}
use Rattle.pd_kinds.specs.Meaning.{ThinDevice, ThinPool}
use Rattle.pd_kinds.specs.ThinFormat.{ThinFields}
use Rattle.pd_kinds.specs.Graph.{Graph}
use Rattle.pd_laid.specs.FoundRoots.{lost_graph, times_of, FoundRoots, devices_below}
use Rattle.pd_laid.specs.Salvage.{salvage_from, saved_shape_from}
use Rattle.pd_laid.specs.Shape.{ThinShape}
use Rattle.pd_answers.specs.declared.request.GivenSuper.{GivenSuper}
use Rattle.pd_answers.specs.declared.request.NamedRoots.{NamedRoots}
use Rattle.pd_answers.specs.KeptLines.{found_mapped, told_from, told_text}
use Rattle.pd_answers.specs.FoundStates.{states, found_fields}
use Rattle.pd_answers.specs.DamagedStates.{damaged_states, kept_devices}
use Rattle.pd_answers.specs.Searches.{raised_time, no_roots_line, seen, timed_pool, timed_shape}
use Rattle.pd_answers.specs.Terms.{Answer, reading, any_reads, Terms, unnamed, nothing}
use Rattle.pd_answers.specs.Repairs.{Saved, repair_by}

-- whether a device that is saved has lost its details
abbrev pub lacks_details : ThinFields → List (List ℕ) → Bool
lacks_details fields image = list_any (λ (d : ThinDevice). is_none (found_mapped fields image d.id)) (salvage_from fields image).devices

-- the latest time of what is saved: of a mapping, and at which a device was made or last shared
abbrev pub latest_time : ThinFields → List (List ℕ) → ℕ
latest_time fields image = fold max 0 (flat_map times_of (salvage_from fields image).devices)

-- The time that devices get which have lost their details, as created and as snapped: one more than the latest time of what is saved,
-- as a mapping of that time may be shared. It has 32 bits. Where no details are lost it is the latest time
unfoldable pub saved_time : ThinFields → List (List ℕ) → ℕ
saved_time fields image = if lacks_details fields image then min (latest_time fields image + 1) (2 ^ 32 - 1) else latest_time fields image

-- the time of a pool that is saved by a superblock without one: the same, but that it isn't raised past the greatest time of a mapping
unfoldable pub pool_time : ThinFields → List (List ℕ) → ℕ
pool_time fields image = raised_time (latest_time fields image) (saved_time fields image)

-- the superblock of named roots, without a time and with that of lost details
abbrev pub timeless_fields : List (List ℕ) → GivenSuper → NamedRoots → ThinFields
timeless_fields image given named =
    found_fields (lost_graph image given.blocks) given.transaction given.block_size
    (record { top = named.top; details = named.details; mappings = 0; time = 0; transaction = 0; times = 0 })

unfoldable pub named_fields : List (List ℕ) → GivenSuper → NamedRoots → ThinFields
named_fields image given named =
    let fields = timeless_fields image given named in
    record fields { time = saved_time fields image }

-- the line of a state: its roots, and what stands below them
abbrev pub state_line : Graph → List (List ℕ) → FoundRoots → List ℕ
state_line graph image roots =
    codes "roots " ++ (decimal roots.top ++ (codes " " ++ (decimal roots.details
    ++ (codes " devices " ++ (decimal (length (devices_below graph image roots.top roots.details))
    ++ (codes " mappings " ++ (decimal roots.mappings ++ (codes " transaction " ++ (decimal roots.transaction
    ++ (codes " time " ++ (decimal roots.time ++ (10 ∷ []))))))))))))

-- what stands below named roots, with the leaves that its devices share or without
abbrev pub named_pool : List (List ℕ) → GivenSuper → NamedRoots → ThinPool
named_pool image given named = timed_pool (pool_time (timeless_fields image given named) image) (salvage_from (named_fields image given named) image)

abbrev pub named_shape : List (List ℕ) → GivenSuper → NamedRoots → ThinShape
named_shape image given named = timed_shape (pool_time (timeless_fields image given named) image) (saved_shape_from (named_fields image given named) image)

abbrev pub named_from : (shared : Bool) → List (List ℕ) → GivenSuper → NamedRoots → Saved shared
named_from false = named_pool
named_from true = named_shape

-- what is saved from them: sharing is seen in it
abbrev pub saved_from_named : (shared : Bool) → List (List ℕ) → GivenSuper → NamedRoots → Saved shared
saved_from_named shared image given named = seen shared (named_from shared image given named)

-- a repair from named roots looks at no faults: it isn't refused
abbrev pub repair_named : Bool → List ℕ → List ℕ → GivenSuper → NamedRoots → Terms
repair_named shared from to given named =
    repair_by (λ image. []) (0 ∷ 4 ∷ 5 ∷ 7 ∷ []) shared (λ image. saved_from_named shared image given named) from to

-- the line of a damaged state: its roots, and what would be kept of them
abbrev pub damaged_line : Graph → List (List ℕ) → FoundRoots → List ℕ
damaged_line graph image roots =
    codes "damaged " ++ (decimal roots.top ++ (codes " " ++ (decimal roots.details
    ++ (codes " devices " ++ (decimal (length (kept_devices graph image roots.top roots.details))
    ++ (codes " mappings " ++ (decimal roots.mappings ++ (codes " transaction " ++ (decimal roots.transaction
    ++ (codes " time " ++ (decimal roots.time ++ (10 ∷ []))))))))))))

-- how many of so many states are left out, if there are more than 100
abbrev pub more_line : ℕ → List ℕ
more_line number = if nat_lt 100 number then codes "more " ++ (decimal (number - 100) ++ (10 ∷ [])) else []

-- the lines of the first 100 states, and how many more there are
abbrev pub list_of_states : (FoundRoots → List ℕ) → List FoundRoots → List ℕ
list_of_states line found = flat_map line (take 100 found) ++ more_line (length found)

-- the first of the sound states, and where there is none of the damaged ones
abbrev pub best_state : List FoundRoots → List FoundRoots → Option FoundRoots
best_state [] [] = None
best_state [] (best ∷ others) = Some best
best_state (best ∷ others) damaged = Some best

-- the text of the states to choose from, the sound ones before the damaged ones, and of what would be kept of the best one;
-- without a state there is none
abbrev pub text_of_states : List (List ℕ) → GivenSuper → List FoundRoots → List FoundRoots → Option (List ℕ)
text_of_states image given sound damaged =
    let graph = lost_graph image given.blocks in
    option_map
    (λ best. list_of_states (state_line graph image) sound ++ (list_of_states (damaged_line graph image) damaged
    ++ told_text (told_from (found_fields graph given.transaction given.block_size best) image)))
    (best_state sound damaged)

-- what would be kept of the roots that are named, or of those that a search finds, if it finds any
abbrev pub text_without_super : Option NamedRoots → GivenSuper → List (List ℕ) → Option (List ℕ)
text_without_super None given image =
    let graph = lost_graph image given.blocks in
    text_of_states image given (states graph image) (damaged_states graph image)
text_without_super (Some named) given image = Some (told_text (told_from (named_fields image given named) image))

-- without a text there are no roots
abbrev pub dry_search_answer : Option (List ℕ) → Answer
dry_search_answer None = record { status = 1; out = []; notes = no_roots_line }
dry_search_answer (Some text) = record { status = 0; out = text; notes = [] }

-- only where roots are looked for there may be none
abbrev pub dry_search_statuses : Option NamedRoots → List ℕ
dry_search_statuses None = 0 ∷ 1 ∷ 5 ∷ 7 ∷ []
dry_search_statuses (Some named) = 0 ∷ 5 ∷ 7 ∷ []

-- what a repair without the superblock would keep is told, and nothing is written
abbrev pub dry_search : List ℕ → GivenSuper → Option NamedRoots → Terms
dry_search path given named = record {
  uses = record unnamed { out = reading []; input = reading path };
  Finding = Option (List ℕ);
  finds = λ before after text. IfSome before.input.held (λ image. text ≡ text_without_super named given image);
  answer = dry_search_answer;
  statuses = dry_search_statuses named;
  memory = λ before. Unit {0};
  silent = 1 ∷ 5 ∷ 7 ∷ [];
  spared = λ text. text ≡ None;
  reads = any_reads;
  leaves = nothing;
}
