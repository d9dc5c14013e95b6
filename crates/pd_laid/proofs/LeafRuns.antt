-- The shared leaves that the lines of a text have told, and their mappings.
use Rattle.std.proofs.Common.{◌≡◌, ℕ, zero, suc, ◌+◌, ◌≤◌, ◌<◌, true, false, eqb, List, [], ◌∷◌, ◌++◌, length, length-append, map, unwrap_or, slice_get, inl, inr, refl, ap, sym, ◌∙◌, arith, Bool, ◌==◌, subst, append-nil, append_assoc, ◌||◌}
use Rattle.std.proofs.lemmas.Bool.{cases_Bool, true≢false}
use Rattle.std.proofs.lemmas.Bool.Decides.{Decides-eqb}
use Rattle.std.proofs.lemmas.List.Sums.{sum_by-cons}
use Rattle.std.specs.List.{AllByRecursion, flat_map, list_any}
use Rattle.std.proofs.lemmas.List.{length-map}
use Rattle.std.proofs.lemmas.List.Folds.{list_any-append}
use Rattle.pd_kinds.specs.Meaning.{Mapping}
use Rattle.pd_grammar.specs.Lawful.{AreMappings, AreDevices, IsLawfulPool}
use Rattle.pd_grammar.specs.ThinText.{Line, leaf_line, device_line, use_line, map_line, LeafHead, Details, Run, leaf_number, has_device, runs_of_leaf, number_in, mappings_of, least_of, end_of}
use Rattle.pd_grammar.proofs.ThinMeaning.{mappings_length, run_fits}
use Rattle.pd_laid.specs.Shape.{leaf_mappings, Piece, own, shared, ShapeDevice, ThinShape, IsShape, piece_mappings, device_of, pool_of, uses_of_piece, uses_of}
use Rattle.pd_laid.specs.PoolText.{mappings_of_runs, HaveMappings}

-- the list in a place of some, from 0; an empty one past their end
abbrev pub list_at : {A : Type 0} → List (List A) → ℕ → List A
list_at lists place = unwrap_or (slice_get lists place) []

-- what holds of each holds of the one in a place
pub all_at : {A : Type 0} (P : List A → Type 0) (lists : List (List A)) (place : ℕ) → AllByRecursion P lists → place < length lists → P (list_at lists place)
all_at P [] place all within = absurd (omega arith)
all_at P (list ∷ lists) zero all within = all.0
all_at P (list ∷ lists) (suc place) all within = all_at P lists place all.1 (omega arith)

pub all_if_at : {A : Type 0} (P : List A → Type 0) (lists : List (List A)) → ((place : ℕ) → place < length lists → P (list_at lists place)) → AllByRecursion P lists
all_if_at P [] at = tt
all_if_at P (list ∷ lists) at = (at 0 (omega arith), all_if_at P lists (λ place within. at (suc place) (omega arith)))

last_at : {A : Type 0} (lists : List (List A)) (list : List A) (place : ℕ) → length lists ≡ place → list_at (lists ++ (list ∷ [])) place ≡ list
last_at [] list zero last = refl
last_at [] list (suc place) last = absurd (omega arith)
last_at (first ∷ lists) list zero last = absurd (omega arith)
last_at (first ∷ lists) list (suc place) last = last_at lists list place (omega arith)

other_at : {A : Type 0} (lists : List (List A)) (list : List A) (place : ℕ) → (length lists ≡ place → ⊥) → list_at (lists ++ (list ∷ [])) place ≡ list_at lists place
other_at [] list zero other = absurd (other refl)
other_at [] list (suc place) other = refl
other_at (first ∷ lists) list zero other = refl
other_at (first ∷ lists) list (suc place) other = other_at lists list place (λ e. other (ap suc e))

empty_at : {A : Type 0} (lists : List (List A)) (place : ℕ) → list_at (lists ++ ([] ∷ [])) place ≡ list_at lists place
empty_at [] zero = refl
empty_at [] (suc place) = refl
empty_at (first ∷ lists) zero = refl
empty_at (first ∷ lists) (suc place) = empty_at lists place

-- a leaf that lines tell
pub record IsLeaf (blocks : ℕ) (runs : List Run) : Type 0 where
  pub have : HaveMappings runs
  pub some : 1 ≤ length (mappings_of_runs runs)
  pub few : length (mappings_of_runs runs) ≤ 252
  pub mappings : AreMappings blocks 0 (mappings_of_runs runs)

-- the lines so far, the newest first, have told these leaves by their runs
pub record HaveTold (before : List Line) (leaves : List (List Run)) : Type 0 where
  pub number : leaf_number before ≡ length leaves
  pub runs : (n : ℕ) → runs_of_leaf before n ≡ list_at leaves n

-- a line of a leaf tells one more, without runs yet
pub told_leaf : (before : List Line) (l : LeafHead) (leaves : List (List Run)) → HaveTold before leaves → HaveTold (leaf_line l ∷ before) (leaves ++ ([] ∷ []))
told_leaf before l leaves told = record {
  number = omega (arith, told.number, length-append leaves ([] ∷ []));
  runs = λ n. told.runs n ∙ sym (empty_at leaves n);
}

-- a map line before all devices is a run more of the last leaf
pub told_run : (before : List Line) (r : Run) (leaves : List (List Run)) (runs : List Run) → has_device before ≡ false
    → HaveTold before (leaves ++ (runs ∷ [])) → HaveTold (map_line r ∷ before) (leaves ++ ((runs ++ (r ∷ [])) ∷ []))
told_run before r leaves runs none told =
    let more : List Run = runs ++ (r ∷ []) in
    let number : leaf_number before ≡ length leaves + 1 = omega (arith, told.number, length-append leaves (runs ∷ [])) in
    let at : (n : ℕ) → runs_of_leaf (map_line r ∷ before) n ≡ list_at (leaves ++ (more ∷ [])) n = λ n. elim (cases_Bool (eqb (leaf_number before) (suc n))) [
      | inl e ↦
          let last : length leaves ≡ n = omega (arith, (Decides-eqb (leaf_number before) (suc n)).0 e, number) in
          rw (none, e) (ap (λ (rs : List Run). rs ++ (r ∷ [])) (told.runs n ∙ last_at leaves runs n last) ∙ sym (last_at leaves more n last))
      | inr e ↦
          let other : length leaves ≡ n → ⊥ = λ last. true≢false (sym ((Decides-eqb (leaf_number before) (suc n)).1 (omega (arith, last, number))) ∙ e) in
          rw (none, e) (told.runs n ∙ other_at leaves runs n other ∙ sym (other_at leaves more n other))
    ] in
    record { number = omega (arith, number, length-append leaves (more ∷ [])); runs = at }

-- and the lines of devices tell none
pub told_device : (before : List Line) (d : Details) (leaves : List (List Run)) → HaveTold before leaves → HaveTold (device_line d ∷ before) leaves
told_device before d leaves told = record { number = told.number; runs = told.runs }

pub told_use : (before : List Line) (n : ℕ) (leaves : List (List Run)) → HaveTold before leaves → HaveTold (use_line n ∷ before) leaves
told_use before n leaves told = record { number = told.number; runs = told.runs }

pub told_map : (before : List Line) (r : Run) (leaves : List (List Run)) → has_device before ≡ true → HaveTold before leaves → HaveTold (map_line r ∷ before) leaves
told_map before r leaves device told = record { number = told.number; runs = λ n. rw device (told.runs n) }

-- the mappings of the leaf in a place are those of its runs
pub mappings_at : (leaves : List (List Run)) (n : ℕ) → leaf_mappings (map mappings_of_runs leaves) n ≡ mappings_of_runs (list_at leaves n)
mappings_at [] n = refl
mappings_at (runs ∷ leaves) zero = refl
mappings_at (runs ∷ leaves) (suc n) = mappings_at leaves n

-- of how many mappings runs are
pub number_mapped : (runs : List Run) → number_in runs ≡ length (mappings_of_runs runs)
number_mapped [] = refl
number_mapped (r ∷ runs) =
    omega (
      arith,
      sum_by-cons (λ (s : Run). s.length) r runs,
      number_mapped runs,
      length-append (mappings_of r) (mappings_of_runs runs),
      mappings_length r.virtual_block r.data_block r.time r.length,
    )

-- The mappings of the leaves that devices use are lawful.

-- whether a leaf is among those that are used
abbrev pub is_used : List ℕ → ℕ → Bool
is_used uses number = list_any (λ (used : ℕ). used == number) uses

-- lawful mappings are lawful from 0 on, and so are those at their front and those at their back
pub mappings_from_zero : (blocks least : ℕ) (ms : List Mapping) → AreMappings blocks least ms → AreMappings blocks 0 ms
mappings_from_zero blocks least [] are = tt
mappings_from_zero blocks least (m ∷ ms) are =
    (record { above = omega arith; virtual_fits = are.0.virtual_fits; within = are.0.within; time_fits = are.0.time_fits }, are.1)

pub mappings_in_front : (blocks least : ℕ) (ms ns : List Mapping) → AreMappings blocks least (ms ++ ns) → AreMappings blocks least ms
mappings_in_front blocks least [] ns are = tt
mappings_in_front blocks least (m ∷ ms) ns are = (are.0, mappings_in_front blocks (m.virtual_block + 1) ms ns are.1)

mappings_behind : (blocks least : ℕ) (ms ns : List Mapping) → AreMappings blocks least (ms ++ ns) → AreMappings blocks 0 ns
mappings_behind blocks least [] ns are = mappings_from_zero blocks least ns are
mappings_behind blocks least (m ∷ ms) ns are = mappings_behind blocks (m.virtual_block + 1) ms ns are.1

-- so those of a leaf are that some device uses
used_by_piece : (blocks least : ℕ) (leaves : List (List Mapping)) (n : ℕ) (pieces : List Piece)
    → AreMappings blocks least (flat_map (piece_mappings leaves) pieces) → is_used (flat_map uses_of_piece pieces) n ≡ true
    → AreMappings blocks 0 (leaf_mappings leaves n)
used_by_piece blocks least leaves n [] are used = absurd (true≢false (sym used))
used_by_piece blocks least leaves n (own mappings ∷ pieces) are used =
    used_by_piece blocks 0 leaves n pieces (mappings_behind blocks least mappings (flat_map (piece_mappings leaves) pieces) are) used
used_by_piece blocks least leaves n (shared number ∷ pieces) are used =
    let others = flat_map (piece_mappings leaves) pieces in
    let leaf = leaf_mappings leaves number in
    elim (cases_Bool (eqb number n)) [
      | inl e ↦
          subst (λ (m : ℕ). AreMappings blocks 0 (leaf_mappings leaves m)) ((Decides-eqb number n).0 e)
          (mappings_from_zero blocks least leaf (mappings_in_front blocks least leaf others are))
      | inr e ↦ used_by_piece blocks 0 leaves n pieces (mappings_behind blocks least leaf others are) (rw e at used)
    ]

used_by_device : (blocks least : ℕ) (leaves : List (List Mapping)) (n : ℕ) (devices : List ShapeDevice)
    → AreDevices blocks least (map (device_of leaves) devices) → is_used (flat_map uses_of devices) n ≡ true
    → AreMappings blocks 0 (leaf_mappings leaves n)
used_by_device blocks least leaves n [] are used = absurd (true≢false (sym used))
used_by_device blocks least leaves n (d ∷ devices) are used =
    let either = sym (list_any-append (λ (other : ℕ). other == n) (uses_of d) (flat_map uses_of devices)) ∙ used in
    elim (cases_Bool (is_used (uses_of d) n)) [
      | inl e ↦ used_by_piece blocks 0 leaves n d.pieces are.0.mappings e
      | inr e ↦ used_by_device blocks (d.id + 1) leaves n devices are.1 (sym (ap (λ (b : Bool). b || is_used (flat_map uses_of devices) n) e) ∙ either)
    ]

-- the leaves of a shape are lawful
pub are_leaves : (w : ThinShape) (leaves : List (List Run)) → map mappings_of_runs leaves ≡ w.leaves → AllByRecursion HaveMappings leaves
    → IsShape w → IsLawfulPool (pool_of w) → AllByRecursion (IsLeaf w.data_blocks) leaves
unfolding pool_of
are_leaves w leaves same have shape lawful =
    all_if_at (IsLeaf w.data_blocks) leaves (λ n within.
    let here : leaf_mappings w.leaves n ≡ mappings_of_runs (list_at leaves n) = ap (λ (ls : List (List Mapping)). leaf_mappings ls n) (sym same) ∙ mappings_at leaves n in
    let below : n < length w.leaves = omega (arith, within, ap length (sym same) ∙ length-map leaves mappings_of_runs) in
    record {
      have = all_at HaveMappings leaves n have within;
      some = subst (λ (ms : List Mapping). 1 ≤ length ms) here (all_at (λ (ms : List Mapping). 1 ≤ length ms) w.leaves n shape.filled below);
      few = subst (λ (ms : List Mapping). length ms ≤ 252) here (all_at (λ (ms : List Mapping). length ms ≤ 252) w.leaves n shape.few below);
      mappings = subst (AreMappings w.data_blocks 0) here (used_by_device w.data_blocks 0 w.leaves n w.devices lawful.devices (shape.used n below));
    })

-- runs that begin lawful mappings begin at the least block or above, and the others are above their end
pub runs_fit : (blocks least : ℕ) (runs : List Run) (rest : List Mapping) → HaveMappings runs → 1 ≤ length (mappings_of_runs runs)
    → AreMappings blocks least (mappings_of_runs runs ++ rest) → (least ≤ least_of runs) × AreMappings blocks (end_of runs) rest
runs_fit blocks least [] rest have some are = absurd (omega arith)
runs_fit blocks least (r ∷ []) rest have some are =
    let fits = run_fits blocks least r.virtual_block r.data_block r.time r.length rest
    (subst (λ (ms : List Mapping). AreMappings blocks least (ms ++ rest)) (append-nil (mappings_of r)) are) have.0 in
    (fits.0.above, fits.1)
runs_fit blocks least (r ∷ s ∷ runs) rest have some are =
    let others = mappings_of_runs (s ∷ runs) ++ rest in
    let fits = run_fits blocks least r.virtual_block r.data_block r.time r.length others
    (subst (AreMappings blocks least) (append_assoc (mappings_of r) (mappings_of_runs (s ∷ runs)) rest) are) have.0 in
    let more : 1 ≤ length (mappings_of_runs (s ∷ runs)) =
    omega (arith, have.1.0, length-append (mappings_of s) (mappings_of_runs runs), mappings_length s.virtual_block s.data_block s.time s.length) in
    (fits.0.above, (runs_fit blocks (r.virtual_block + r.length) (s ∷ runs) rest have.1 more fits.1).1)
