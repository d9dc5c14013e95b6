-- The meaning of an era target without faults is lawful.
use Rattle.std.proofs.Common.{◌≡◌, ℕ, ◌^◌, ◌<◌, Bool, true, false, cond, max, List, [], ◌∷◌, fold, length, get_or, map, sym, arith}
use Rattle.std.specs.List.{All, AllByRecursion, range_with_len}
use Rattle.std.proofs.lemmas.List.FromFn.{length-map-range_with_len}
use Rattle.pd_kinds.specs.EraFormat.{EraFields, era_fields, era_graph}
use Rattle.pd_kinds.specs.Graph.{block_at}
use Rattle.pd_kinds.specs.Meaning.{era_meaning, era_of}
use Rattle.pd_kinds.proofs.FieldLemmas.{le-lt}
use Rattle.pd_kinds.proofs.ListLemmas.{all_map}
use Rattle.pd_kinds.specs.Image.{HasBytes}
use Rattle.pd_grammar.specs.Lawful.{IsLawfulEra}
use Rattle.pd_value.specs.declared.era.Writeset.{Writeset}
use Rattle.pd_tree.specs.Below.{items_below}
use Rattle.pd_tree.specs.Cursor.{root_of}
use Rattle.pd_meaning_era.specs.Eras.{holds, GivesEras, era_below, era_of_key, eras_below, is_current, set_era, sets_below, words_below}
use Rattle.pd_laws_answers.proofs.WordLemmas.{field_fits, first_whole, given_words_fit, word_fits}

-- the greatest of numbers below a limit
greatest_fits : (limit x : ℕ) (xs : List ℕ) → x < limit → AllByRecursion (λ y. y < limit) xs → fold max x xs < limit
greatest_fits limit x [] first all = first
greatest_fits limit x (y ∷ ys) first all = let next = all.0 in greatest_fits limit (max x y) ys (omega arith) all.1

-- a number, or 0
or_zero : (limit x : ℕ) (is : Bool) → x < limit → cond is x 0 < limit
or_zero limit x true fits = fits
or_zero limit x false fits = omega arith

module _ (image : List (List ℕ)) (bytes : HasBytes image) (gives : GivesEras image) where
  abbrev block : List ℕ
  block = block_at image 0

  abbrev fields : EraFields
  fields = era_fields block

  set_fits : (b : ℕ) (item : ℕ × Writeset) → set_era image b item < 2 ^ 32
  set_fits b item = or_zero (2 ^ 32) (era_of_key item.0) (holds item.1.bits (words_below 8 image item.1.root) b) (omega arith)

  era_fits : (b : ℕ) → era_below image fields b < 2 ^ 32
  era_fits b =
      let sets = sets_below image fields.writesets_root in
      let word = word_fits (2 ^ 32) (words_below 4 image fields.array_root) (omega arith) (given_words_fit 4 image bytes (items_below 8 root_of image 63 fields.array_root)) b in
      let raised = greatest_fits (2 ^ 32) (get_or (words_below 4 image fields.array_root) b 0) (map (set_era image b) sets) word (all_map (set_era image b) (λ e. e < 2 ^ 32) (set_fits b) sets) in
      let current = or_zero (2 ^ 32) fields.era (is_current image fields b) (le-lt block 184 4 (bytes 0)) in
      omega arith

  eras_fit : AllByRecursion (λ e. e < 2 ^ 32) (eras_below image fields)
  unfolding eras_below
  eras_fit = all_map (era_below image fields) (λ e. e < 2 ^ 32) era_fits (range_with_len 0 fields.blocks)

  one_each : fields.blocks ≡ length (era_meaning image).eras
  unfolding era_meaning
  one_each = sym (length-map-range_with_len (era_of (era_graph block) image) 0 fields.blocks)

  pub target_lawful : All (λ b. length b ≡ 4096) image → IsLawfulEra (era_meaning image)
  unfolding era_meaning
  target_lawful whole =
      let size = first_whole image fields.array_root gives.roots.eras whole in
      let uuid = field_fits block 16 16 (bytes 0) (omega (arith, size)) in
      record {
        uuid_len = uuid.0;
        uuid_bytes = uuid.1;
        block_size_fits = le-lt block 172 4 (bytes 0);
        blocks_fit = le-lt block 180 4 (bytes 0);
        era_fits = le-lt block 184 4 (bytes 0);
        one_each = one_each;
        eras_fit = rw gives.eras eras_fit;
      }
