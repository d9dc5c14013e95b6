-- What the parts of an era target name.
use Rattle.std.proofs.Common.{◌≡◌, ℕ, ◌+◌, ◌^◌, ◌≤◌, List, [], ◌∷◌, length, arith}
use Rattle.std.specs.List.{range_with_len}
use Rattle.pd_kinds.specs.EraFormat.{writesets_tree}
use Rattle.pd_kinds.specs.Meaning.{EraMeaning}
use Rattle.pd_laid.specs.Laid.{named_by, count_in, tree_of}
use Rattle.pd_laid.specs.LaidEra.{era_blocks, writesets_at, writeset_blocks, era_parts, meta_map_at, array_root_of, writesets_root, era_named}
use Rattle.pd_laws_laid.specs.Once.{NamesEachOnce}
use Rattle.pd_laws_laid.proofs.OnceTrees.{count-cons, tree_named, array_named, both_of, places_more, parts_more, as_ones}

module _ (m : EraMeaning) (fits : meta_map_at m ≤ 2 ^ 64) (b : ℕ) where
  abbrev c : List ℕ → ℕ
  c named = count_in named b

  array_part : c (named_by (era_blocks m)) + c (array_root_of m ∷ []) ≡ c (range_with_len 1 (length (era_blocks m)))
  unfolding era_blocks
  array_part = both_of (era_blocks m) (array_root_of m) (range_with_len 1 (length (era_blocks m))) b (array_named 5 4 1 m.eras (omega arith))

  writesets_part : c (named_by (writeset_blocks m)) + c (writesets_root m ∷ []) ≡ c (range_with_len (writesets_at m) (length (writeset_blocks m)))
  unfolding writeset_blocks
  writesets_part =
      both_of (writeset_blocks m) (writesets_root m) (range_with_len (writesets_at m) (length (writeset_blocks m))) b
      (tree_named 2 (tree_of writesets_tree) (writesets_at m) [] (omega arith))

  sums : c (era_named m) ≡ c (range_with_len 0 (meta_map_at m))
  unfolding era_named era_parts
  sums =
      let parts = named_by (era_parts m) in
      let array = array_part in
      let writesets = writesets_part in
      omega (
        arith,
        count-cons 0 (writesets_root m ∷ array_root_of m ∷ parts) b,
        count-cons (writesets_root m) (array_root_of m ∷ parts) b,
        count-cons (array_root_of m) parts b,
        parts_more (era_blocks m) (writeset_blocks m) b,
        array,
        writesets,
        places_more 1 (length (era_blocks m)) b,
        places_more (writesets_at m) (length (writeset_blocks m)) b,
      )

pub era_named_once : (m : EraMeaning) → meta_map_at m ≤ 2 ^ 64 → NamesEachOnce (meta_map_at m) (era_named m)
era_named_once m fits = as_ones (meta_map_at m) (era_named m) (sums m fits)
