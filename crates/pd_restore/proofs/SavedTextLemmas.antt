-- The text of a saved pool: what it spells, and its lines from a place on.
use Rattle.std.proofs.Common.{◌≡◌, Bool, ℕ, suc, ◌+◌, ◌<◌, ◌≤◌, true, false, ltb, List, [], ◌∷◌, ◌++◌, length, take, drop, drop-cons, add-one, get_or, refl, ap, ap₂, sym, subst, ◌∙◌}
use Rattle.std.specs.List.{AllByRecursion, flat_map}
use Rattle.std.proofs.lemmas.Bool.{ltb-true, ltb-false}
use Rattle.std.proofs.lemmas.List.{drop_all}
use Rattle.pd_grammar.specs.Texts.{reading, whole}
use Rattle.pd_grammar.proofs.GrammarLemmas.{read_if_lines, AreRead}
use Rattle.pd_grammar.proofs.SpellingLemmas.{reading_if_spelled}
use Rattle.pd_grammar.specs.ThinText.{Line, first_line, pool_line, device_line, map_line, end_line, Part, Run, HasMappings, lines_of_part, mappings_of, pool_format}
use Rattle.pd_grammar.proofs.ThinRead.{FitsLine, PlacedInPool}
use Rattle.pd_grammar.specs.Lawful.{IsLawfulPool}
use Rattle.pd_grammar.proofs.ThinLaws.{joined_some}
use Rattle.pd_laid.specs.Shape.{shape_of}
use Rattle.pd_laid.proofs.ShapeText.{is_shape, pool_kept, pool_language, parts_unshared}
use Rattle.pd_laid.specs.PoolText.{IsLawfulShape, MeansAs, MeansPoolShape, SpellsPoolShape}
use Rattle.pd_texts.specs.Reader.{in_order}
use Rattle.pd_texts.specs.ThinLine.{details_of}
use Rattle.pd_meaning_thin.specs.declared.joined.Run.{Run as SavedRun}
use Rattle.pd_meaning_thin.specs.Runs.{spelled}
use Rattle.pd_restore.specs.declared.saved_lines.SavedLines.{SavedLines}
use Rattle.pd_restore.specs.Whole.{lines_to_end, made_begun, head_of_pool}
use Rattle.pd_restore.specs.SavedLines.{lines_at, lines_left, saved_lines, saved_text}
use Rattle.pd_salvage.specs.declared.saved.SavedDevice.{SavedDevice}
use Rattle.pd_salvage.specs.Saved.{IsJoined, IsSavedPool, SavedPool, parts_of, pool_of}
use Rattle.pd_salvage.specs.declared.saved.SavedHead.{SavedHead}

pub have_mappings : (parts : List Part) → AllByRecursion IsJoined parts → AllByRecursion HasMappings parts
have_mappings [] joined = tt
have_mappings (p ∷ parts) joined =
    (subst (λ (rs : List Run). AllByRecursion (λ (r : Run). 1 ≤ r.length) rs) joined.0 (joined_some (flat_map mappings_of p.runs)), have_mappings parts joined.1)

-- the lines of a saved pool mean its shape
saved_means : (saved : SavedPool) → IsSavedPool saved → MeansPoolShape (saved_lines saved) (shape_of (pool_of saved))
unfolding pool_of
saved_means saved sound =
    let parts = parts_of saved.devices saved.runs in
    subst (λ (shared : Bool). MeansAs shared (saved_lines saved) (shape_of (pool_of saved))) (sym (parts_unshared parts)) (record {
      pool = pool_of saved;
      means = record { parts = parts; lines_are = refl; devices = refl; runs = have_mappings parts sound.joined; lawful = sound.lawful };
      shape_is = refl;
    })

-- which is a lawful one
pub saved_lawful : (saved : SavedPool) → IsSavedPool saved → IsLawfulShape (shape_of (pool_of saved))
saved_lawful saved sound = record { shape = is_shape (pool_of saved); pool = subst IsLawfulPool (sym (pool_kept (pool_of saved))) sound.lawful }

-- so its text spells it
pub saved_spells : (saved : SavedPool) → IsSavedPool saved → SpellsPoolShape (saved_text saved) (shape_of (pool_of saved))
saved_spells saved sound = record { lines = saved_lines saved; bytes = refl; means = saved_means saved sound }

-- and is read as its lines
pub saved_reading : (saved : SavedPool) → IsSavedPool saved → reading pool_format (saved_text saved) ≡ whole (saved_lines saved)
unfolding saved_spells
saved_reading saved sound =
    reading_if_spelled pool_format MeansPoolShape FitsLine PlacedInPool pool_language (saved_text saved) (shape_of (pool_of saved)) (saved_spells saved sound)

pub saved_read : (saved : SavedPool) → IsSavedPool saved → AreRead pool_format [] (saved_lines saved)
saved_read saved sound =
    read_if_lines pool_format FitsLine PlacedInPool pool_language.grammar [] (saved_lines saved)
    (pool_language.lines (saved_lines saved) (shape_of (pool_of saved)) (saved_means saved sound))

-- all lines come at first
pub all_left : (saved : SavedPool) (first runs : List SavedRun) → first ≡ [] → runs ≡ saved.runs → lines_at first saved.devices runs ≡ flat_map lines_of_part (parts_of saved.devices saved.runs)
unfolding lines_at
all_left saved first runs none all = rw (none, all) refl

pub all_lines : (saved : SavedPool) (p : SavedHead) (made : SavedLines) → p ≡ saved.head → lines_left made ≡ flat_map lines_of_part (parts_of saved.devices saved.runs)
    → in_order (made_begun false p) (lines_to_end (lines_left made)) ≡ saved_lines saved
all_lines saved p made head rest = ap₂ (λ (h : SavedHead) (ls : List Line). first_line ∷ pool_line (head_of_pool h) ∷ (ls ++ end_line ∷ [])) head rest

-- a run, and what comes after it; and where no run is left, the devices come
module _ (first next : List SavedRun) (devices : List SavedDevice) (runs same_runs : List SavedRun) (same : same_runs ≡ runs) where
  pub run_first : (r : SavedRun) → first ≡ r ∷ next → lines_at first devices runs ≡ map_line (spelled r) ∷ lines_at next devices same_runs
  unfolding lines_at
  run_first r there = rw (there, same) refl

  pub no_run : first ≡ [] → next ≡ [] → lines_at first devices runs ≡ lines_at next devices same_runs
  no_run none nothing = rw (none, nothing, same) refl

-- a device, and what comes after it; and where no device is left, no line is
module _ (first : List SavedRun) (devices : List SavedDevice) (runs : List SavedRun) (none : first ≡ []) where
  pub device_first : (d : SavedDevice) (rest : List SavedDevice) (next others : List SavedRun) → devices ≡ d ∷ rest → next ≡ take d.runs runs → others ≡ drop d.runs runs
      → lines_at first devices runs ≡ device_line (details_of d.id d.details) ∷ lines_at next rest others
  unfolding lines_at
  device_first d rest next others there taken left = rw (none, there, taken, left) refl

  pub no_device : devices ≡ [] → lines_at first devices runs ≡ []
  unfolding lines_at
  no_device ended = rw (none, ended) refl

-- what is at a place comes first from there on
pub drop_there : {A : Type 0} (xs : List A) (i : ℕ) (x : A) → true ≡ ltb i (length xs) → x ≡ get_or xs i x → drop i xs ≡ x ∷ drop (i + 1) xs
drop_there {A} xs i x within there =
    let below : i < length xs = ltb-true i (length xs) (sym within) in
    rw add-one (drop-cons xs i x below ∙ ap (λ (y : A). y ∷ drop (suc i) xs) (sym there))

-- and past the end nothing
pub drop_past : {A : Type 0} (xs : List A) (i : ℕ) → false ≡ ltb i (length xs) → drop i xs ≡ []
drop_past xs i past = drop_all i xs (ltb-false i (length xs) (sym past))
