-- The first two lines of an era target's text.
-- The parts of an era target, one behind another.
use Rattle.std.proofs.Common.{◌≡◌, ℕ, ◌≤◌, List, [], ◌∷◌, Option, Some, None, Ok, arith, ◌+◌, ◌^◌, ◌++◌, length, refl, sym, ◌∙◌, ap, ap₂, subst}
use Rattle.std.proofs.lemmas.List.{append_assoc}
use Rattle.pd_kinds.specs.EraFormat.{writesets_tree}
use Rattle.pd_kinds.specs.Meaning.{EraMeaning}
use Rattle.pd_kinds.proofs.KindLemmas.{meta_root}
use Rattle.pd_grammar.specs.Texts.{read}
use Rattle.pd_grammar.proofs.GrammarLemmas.{is_read}
use Rattle.pd_grammar.specs.EraText.{first_line, era_line, end_line, era, need_of_era, era_need}
use Rattle.pd_grammar.proofs.EraRead.{FitsLine, Placed, era_grammar}
use Rattle.pd_grammar.specs.Need.{need_array, need_tree, need_meta_map}
use Rattle.pd_laid.specs.Laid.{written_from, tree_of, tree_blocks, tree_root, array_root, meta_overflow, meta_overflow_at}
use Rattle.pd_laid.specs.LaidEra.{era_blocks, writesets_at, writeset_blocks, era_parts, meta_map_at, era_named, meta_map_blocks, era_laid_fields, laid_era}
use Rattle.pd_laid.proofs.LaidLemmas.{blocks_from-append, length-blocks_from, tree_written, array_written}
use Rattle.pd_laid.proofs.NeedLemmas.{length-tree, length-array, length-map_blocks}
use Rattle.pd_draft.specs.Closed.{DraftState, Wrote}
use Rattle.pd_draft.proofs.DraftLemmas.{wrote_then}
use Rattle.pd_texts.specs.declared.reader.TextReader.{TextReader}
use Rattle.pd_texts.specs.Reader.{ReadsOn, LeavesOf, GivesLine, GivesOf}
use Rattle.pd_texts_kinds.specs.declared.era_lines.EraLine.{EraLine}
use Rattle.pd_texts_kinds.specs.declared.era_lines.EraLine.TheVariants.{Era, Run}
use Rattle.pd_texts_kinds.specs.declared.era_state.EraState.{EraState}
use Rattle.pd_texts_kinds.specs.EraLine.{era_meant, EraStands}
use Rattle.pd_texts_kinds.proofs.EraLemmas.{run_read}
use Rattle.pd_build.specs.Array.{ArrayLeft, array_blocks, array_left, array_root_left}
use Rattle.pd_build.proofs.ArrayLemmas.{filling_end}
use Rattle.pd_smwrite.specs.Map.{allocated_of, index_block, bitmap_blocks, meta_map_root}
use Rattle.pd_smwrite.specs.Map as sm
use Rattle.pd_restore_kinds.specs.declared.era.Target.{Target}
use Rattle.pd_restore_kinds.specs.EraRoots.{IsOfTarget, begun_lines, head_of_target, HasEras, target_behind}
use Rattle.pd_laws_laid.specs.Once.{ones_below, NamesEachOnce, bitmaps_from, meta_map_from}
use Rattle.pd_laws_laid.proofs.MapLemmas.{ones_overflow, named_overflow, stored_counts, ones_allocated, map_written, write}
use Rattle.pd_laws_laid.proofs.EraNamed.{era_named_once}

-- no line but a target's stands behind the first one
pub no_end : (bytes : List ℕ) → read era (first_line ∷ []) bytes ≡ Ok end_line → ⊥
no_end bytes is = let late : 2 ≤ 1 = (is_read era FitsLine Placed era_grammar (first_line ∷ []) bytes end_line is).placed in omega arith

pub given_target : (next : Option EraLine) (new : TextReader EraState EraLine) → GivesLine era EraStands first_line era_meant (Ok next) [] new → IsOfTarget next
given_target None new gives = no_end gives.0.bytes gives.0.is
given_target (Some (Era uuid block_size blocks current)) new gives = tt
given_target (Some (Run first n e)) new gives =
    let late : 2 ≤ 1 = (run_read (first_line ∷ []) (record { first = first; length = n; era = e }) gives.so_far.lines.0).later in omega arith

-- the target that was read
pub target_reads : (next : Option EraLine) (target : Target) (new : TextReader EraState EraLine) → IsOfTarget next → era_meant next ≡ era_line (head_of_target target)
    → GivesLine era EraStands first_line era_meant (Ok next) [] new → ReadsOn era EraStands (begun_lines target) new
target_reads None target new is same gives = absurd is
target_reads (Some line) target new is same gives = rw same at gives

pub target_told : (next : Option EraLine) (target : Target) (t : List ℕ) (new : TextReader EraState EraLine) (left : Option (List ℕ)) → IsOfTarget next → era_meant next ≡ era_line (head_of_target target)
    → GivesOf era first_line era_meant (Ok next) t [] new left → LeavesOf era t (begun_lines target) new left
target_told None target t new left is same gives = absurd is
target_told (Some line) target t new left is same gives = rw same at gives

-- the array and the empty tree, as laid and as written
array_part : (m : EraMeaning) → written_from 1 (era_blocks m) ≡ array_blocks 4 1 m.eras
unfolding era_blocks array_blocks
array_part m = array_written 5 4 1 m.eras

length-eras : (m : EraMeaning) → length (era_blocks m) ≡ need_array 4 (length m.eras)
unfolding era_blocks
length-eras m = length-array 5 4 1 m.eras

tree_part : (m : EraMeaning) → written_from (writesets_at m) (writeset_blocks m) ≡ tree_blocks 12 (writesets_at m) []
unfolding writeset_blocks
tree_part m = tree_written 2 (tree_of writesets_tree) (writesets_at m) []

length-writesets : (m : EraMeaning) → length (writeset_blocks m) ≡ need_tree 12 0
unfolding writeset_blocks
length-writesets m = length-tree 2 (tree_of writesets_tree) (writesets_at m) []

-- where they stand
pub record HaveRoom (m : EraMeaning) (room : ℕ) : Type 0 where
  pub writesets : writesets_at m ≡ 1 + need_array 4 (length m.eras)
  pub meta_map : meta_map_at m ≡ writesets_at m + need_tree 12 0
  pub whole : meta_map_at m + need_meta_map room ≡ era_need m room

pub have_room : (m : EraMeaning) (room : ℕ) → m.blocks ≡ length m.eras → HaveRoom m room
unfolding need_of_era
have_room m room one =
    let eras = length-eras m in
    let writesets = length-writesets m in
    record {
      writesets = omega (arith, eras);
      meta_map = omega (arith, writesets);
      whole = omega (arith, eras, writesets, ap (need_array 4) one);
    }

-- the array is ended
pub array_step : {start a b : DraftState} (m : EraMeaning) (array : ArrayLeft) → HasEras m array start a → Wrote (array_left array.size a.place array.words []) a b
    → Wrote (array_blocks 4 1 m.eras) start b × (b.place ≡ writesets_at m)
array_step {start} {a} {b} m array h wrote =
    let f = h.filling in
    let ended : Wrote (array_left 4 a.place array.words []) a b = subst (λ (size : ℕ). Wrote (array_left size a.place array.words []) a b) f.sized wrote in
    let whole : Wrote (array_blocks 4 1 m.eras) start b = subst (λ (place : ℕ). Wrote (array_blocks 4 place m.eras) start b) h.begin (filling_end f ended) in
    let number : length (array_blocks 4 1 m.eras) ≡ length (era_blocks m) = ap (λ (blocks : List (List ℕ)). length blocks) (sym (array_part m)) ∙ length-blocks_from write 1 (era_blocks m) in
    (whole, omega (arith, whole.moved, number, h.begin))

-- and the empty tree is written
pub tree_step : {b c : DraftState} (m : EraMeaning) → b.place ≡ writesets_at m → Wrote (tree_blocks 12 b.place []) b c
    → Wrote (tree_blocks 12 (writesets_at m) []) b c × (c.place ≡ meta_map_at m)
tree_step {b} {c} m here wrote =
    let written : Wrote (tree_blocks 12 (writesets_at m) []) b c = subst (λ (place : ℕ). Wrote (tree_blocks 12 place []) b c) here wrote in
    let number : length (tree_blocks 12 (writesets_at m) []) ≡ length (writeset_blocks m) =
    ap (λ (blocks : List (List ℕ)). length blocks) (sym (tree_part m)) ∙ length-blocks_from write (writesets_at m) (writeset_blocks m) in
    (written, omega (arith, written.moved, number, here))

-- the metadata map, whose counts are ones
map_part : (m : EraMeaning) (room : ℕ) → NamesEachOnce (meta_map_at m) (era_named m)
    → sm.meta_map_blocks (ones_below (meta_map_at m + need_meta_map room)) room (meta_map_at m) ≡ written_from (meta_map_at m) (meta_map_blocks m room)
unfolding sm.meta_map_blocks index_block bitmap_blocks meta_map_from bitmaps_from meta_map_blocks
map_part m room once =
    let place = meta_map_at m in
    let written = map_written 7 room place (era_named m) in
    rw (written, stored_counts 7 room place (era_named m) once, named_overflow room place (era_named m) once, ones_overflow (place + need_meta_map room) room) refl

-- the parts, one behind another, are the target's blocks behind the superblock
behind_parts : (m : EraMeaning) (room : ℕ) → target_behind m room
    ≡ written_from 1 (era_blocks m) ++ (written_from (writesets_at m) (writeset_blocks m) ++ written_from (meta_map_at m) (meta_map_blocks m room))
unfolding laid_era era_parts
behind_parts m room =
    ap (written_from 1) (append_assoc (era_blocks m) (writeset_blocks m) (meta_map_blocks m room))
    ∙ (blocks_from-append write 1 (era_blocks m) (writeset_blocks m ++ meta_map_blocks m room)
    ∙ ap (λ (rest : List (List ℕ)). written_from 1 (era_blocks m) ++ rest) (blocks_from-append write (writesets_at m) (writeset_blocks m) (meta_map_blocks m room)))

pub behind_written : {start b c d : DraftState} (m : EraMeaning) (room : ℕ) → c.place ≡ meta_map_at m → meta_map_at m ≤ 2 ^ 64
    → Wrote (array_blocks 4 1 m.eras) start b → Wrote (tree_blocks 12 (writesets_at m) []) b c
    → Wrote (sm.meta_map_blocks (ones_below (c.place + need_meta_map room)) room c.place) c d → Wrote (target_behind m room) start d
behind_written {start} {b} {c} {d} m room here fits first second third =
    let last : Wrote (sm.meta_map_blocks (ones_below (meta_map_at m + need_meta_map room)) room (meta_map_at m)) c d =
    subst (λ (place : ℕ). Wrote (sm.meta_map_blocks (ones_below (place + need_meta_map room)) room place) c d) here third in
    subst (λ (blocks : List (List ℕ)). Wrote blocks start d) same (wrote_then first (wrote_then second last))
  where
    same : array_blocks 4 1 m.eras ++ (tree_blocks 12 (writesets_at m) [] ++ sm.meta_map_blocks (ones_below (meta_map_at m + need_meta_map room)) room (meta_map_at m)) ≡ target_behind m room
    same =
        ap₂ (λ (front rest : List (List ℕ)). front ++ rest) (sym (array_part m))
        (ap₂ (λ (front rest : List (List ℕ)). front ++ rest) (sym (tree_part m)) (map_part m room (era_named_once m fits)))
        ∙ sym (behind_parts m room)

-- the roots are those that the superblock names
pub array_end : {start a : DraftState} (m : EraMeaning) (room : ℕ) (array : ArrayLeft) → HasEras m array start a → array_root_left array.size a.place array.words [] ≡ (era_laid_fields m room).array_root
unfolding era_laid_fields
array_end {start} {a} m room array h =
    ap (λ (size : ℕ). array_root_left size a.place array.words []) h.filling.sized ∙ (h.filling.root ∙ ap (λ (place : ℕ). array_root 4 place m.eras) h.begin)

pub writesets_root_is : (m : EraMeaning) (room place : ℕ) → place ≡ writesets_at m → tree_root 12 place [] ≡ (era_laid_fields m room).writesets_root
unfolding era_laid_fields
writesets_root_is m room place here = ap (λ (at : ℕ). tree_root 12 at []) here

map_number : (m : EraMeaning) (room : ℕ) → meta_overflow room (era_named m) ≡ [] → length (meta_map_blocks m room) ≡ need_meta_map room
unfolding meta_map_blocks
map_number m room none = length-map_blocks 7 room (meta_map_at m) (era_named m) none

pub meta_map_is : (m : EraMeaning) (room place : ℕ) → place ≡ meta_map_at m → meta_map_at m ≤ 2 ^ 64 → place + need_meta_map room ≤ room
    → meta_map_root (ones_below (place + need_meta_map room)) room place ≡ (era_laid_fields m room).meta_map
unfolding era_laid_fields allocated_of
meta_map_is m room place here fits within =
    let once = era_named_once m fits in
    let none = named_overflow room (meta_map_at m) (era_named m) once in
    rw here (meta_root room (meta_map_at m) _ _ _ _
    (ones_allocated (meta_map_at m + need_meta_map room) room (omega (arith, here, within)) ∙ ap (λ (n : ℕ). meta_map_at m + n) (sym (map_number m room none)))
    (ap (tree_root 4 (meta_overflow_at room (meta_map_at m))) (ones_overflow (meta_map_at m + need_meta_map room) room ∙ sym none)))
