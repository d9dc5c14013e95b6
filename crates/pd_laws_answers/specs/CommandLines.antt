-- Trusted base.
-- The words of a command line, without the program's own name, by what is asked.
use Rattle.std.specs.Prelude.{ℕ, Bool, List, [], ◌∷◌, ◌++◌, Option, codes}
use Rattle.pd_kinds.specs.declared.kind.Kind.{Kind}
use Rattle.pd_kinds.specs.declared.kind.Passing.{Passing}
use Rattle.pd_laws_answers.specs.Search.{RootWords, with_roots, NumberWords, with_numbers}
use Rattle.pd_laws_answers.specs.Words.{CacheRootWords, check_name, in_version, letting_pass, naming_roots, to_file, with_sharing}

-- a check in which leaks pass, and one that clears the flag, in which leaks pass or not
abbrev pub passing_words : Kind → List ℕ → List (List ℕ)
passing_words kind image = check_name kind ∷ codes "--ignore-non-fatal-errors" ∷ image ∷ []

abbrev pub clearing_words : Kind → Passing → List ℕ → List (List ℕ)
clearing_words kind passing image = check_name kind ∷ (letting_pass passing ++ (codes "--clear-needs-check-flag" ∷ image ∷ []))

-- what is asked of an image by a tool's name alone
abbrev pub image_words : List ℕ → Option (List ℕ) → List ℕ → List (List ℕ)
image_words tool file image = tool ∷ (to_file file ++ (image ∷ []))

abbrev pub shared_dump_words : Option (List ℕ) → List ℕ → List (List ℕ)
shared_dump_words file image = codes "thin_dump" ∷ codes "--shared" ∷ (to_file file ++ (image ∷ []))

abbrev pub rmap_words : List ℕ → Option (List ℕ) → List ℕ → List (List ℕ)
rmap_words region file image = codes "thin_rmap" ∷ codes "--region" ∷ region ∷ (to_file file ++ (image ∷ []))

abbrev pub since_words : List ℕ → Option (List ℕ) → List ℕ → List (List ℕ)
since_words era file image = codes "era_invalidate" ∷ codes "--written-since" ∷ era ∷ (to_file file ++ (image ∷ []))

abbrev pub trim_words : Option (List ℕ) → List ℕ → List (List ℕ)
trim_words file image = codes "thin_trim" ∷ codes "--list" ∷ (to_file file ++ (image ∷ []))

-- a restore by a tool's name alone, and that of a cache
abbrev pub restore_words : List ℕ → List ℕ → List ℕ → List (List ℕ)
restore_words tool file path = tool ∷ codes "-i" ∷ file ∷ codes "-o" ∷ path ∷ []

abbrev pub cache_restore_words : Option (List ℕ) → List ℕ → List ℕ → List (List ℕ)
cache_restore_words version file path = codes "cache_restore" ∷ (in_version version ++ (codes "-i" ∷ file ∷ codes "-o" ∷ path ∷ []))

-- a repair, a search and a repair from named roots, with shared leaves or without, and a dry run of each
abbrev pub repair_words : Bool → List ℕ → List ℕ → List (List ℕ)
repair_words shared from to = codes "thin_repair" ∷ (with_sharing shared ++ (codes "-i" ∷ from ∷ codes "-o" ∷ to ∷ []))

abbrev pub search_words : Bool → List ℕ → List ℕ → NumberWords → List (List ℕ)
search_words shared from to words =
    codes "thin_repair" ∷ (with_sharing shared ++ (codes "-i" ∷ from ∷ codes "-o" ∷ to ∷ with_numbers words))

abbrev pub named_repair_words : Bool → List ℕ → List ℕ → RootWords → NumberWords → List (List ℕ)
named_repair_words shared from to roots words =
    codes "thin_repair" ∷ (with_sharing shared ++ (codes "-i" ∷ from ∷ codes "-o" ∷ to ∷ with_roots roots (with_numbers words)))

abbrev pub dry_repair_words : Bool → List ℕ → List (List ℕ)
dry_repair_words shared image = codes "thin_repair" ∷ codes "--dry-run" ∷ (with_sharing shared ++ (codes "-i" ∷ image ∷ []))

abbrev pub dry_search_words : Bool → List ℕ → NumberWords → List (List ℕ)
dry_search_words shared image words =
    codes "thin_repair" ∷ codes "--dry-run" ∷ (with_sharing shared ++ (codes "-i" ∷ image ∷ with_numbers words))

abbrev pub dry_named_words : Bool → List ℕ → RootWords → NumberWords → List (List ℕ)
dry_named_words shared image roots words =
    codes "thin_repair" ∷ codes "--dry-run" ∷ (with_sharing shared ++ (codes "-i" ∷ image ∷ with_roots roots (with_numbers words)))

-- a repair of a cache, and a dry run of it
abbrev pub cache_repair_words : Option (List ℕ) → CacheRootWords → List ℕ → List ℕ → List (List ℕ)
cache_repair_words version roots from to =
    codes "cache_repair" ∷ (in_version version ++ naming_roots roots (codes "-i" ∷ from ∷ codes "-o" ∷ to ∷ []))

abbrev pub dry_cache_words : Option (List ℕ) → CacheRootWords → List ℕ → List (List ℕ)
dry_cache_words version roots image = codes "cache_repair" ∷ codes "--dry-run" ∷ (in_version version ++ naming_roots roots (codes "-i" ∷ image ∷ []))

-- the generator's text, and its rehearsal
abbrev pub generate_words : List ℕ → Option (List ℕ) → List (List ℕ)
generate_words number file = codes "thin_generate" ∷ codes "--number" ∷ number ∷ to_file file

abbrev pub rehearse_words : List ℕ → List ℕ → List (List ℕ)
rehearse_words number path = codes "thin_rehearse" ∷ codes "--number" ∷ number ∷ codes "-o" ∷ path ∷ []

-- a writeback
abbrev pub writeback_words : List ℕ → List ℕ → List ℕ → List (List ℕ)
writeback_words metadata fast origin =
    codes "cache_writeback" ∷ codes "--metadata-device" ∷ metadata ∷ codes "--fast-device" ∷ fast ∷ codes "--origin-device" ∷ origin ∷ []

-- a shrink, with shared leaves or without
abbrev pub shrink_words : Bool → List ℕ → List ℕ → List ℕ → List ℕ → List (List ℕ)
shrink_words shared from to pool blocks =
    codes "thin_shrink" ∷ (with_sharing shared ++ (codes "-i" ∷ from ∷ codes "-o" ∷ to ∷ codes "--data" ∷ pool ∷ codes "--nr-blocks" ∷ blocks ∷ []))
