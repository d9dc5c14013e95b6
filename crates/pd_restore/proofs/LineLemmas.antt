-- The devices that the lines of a whole text give.
use Rattle.std.proofs.Common.{◌≡◌, ℕ, ◌+◌, eqb, cond, List, [], ◌∷◌, ◌++◌, length, length-append, map, sum_by, refl, sym, ◌∙◌, ap, ap₂, append_assoc, subst, arith, Option, None, Some}
use Rattle.std.proofs.Math.Path.{fun_ext}
use Rattle.std.specs.List.{count_by, flat_map}
use Rattle.std.proofs.lemmas.List.{append-nil, map-append}
use Rattle.std.proofs.lemmas.List.Sums.{sum_by-append}
use Rattle.pd_kinds.specs.Meaning.{ThinPool, ThinDevice, Mapping}
use Rattle.pd_grammar.specs.Lawful.{IsLawfulPool}
use Rattle.pd_grammar.specs.Need.{need_tree, mapped_data, overflows_in, thin_need, thin_need_so_far}
use Rattle.pd_grammar.proofs.NeedLemmas.{devices-same, overflows-same}
use Rattle.pd_grammar.specs.ThinText.{Line, first_line, pool_line, device_line, map_line, end_line, Run, Part, mappings_of, device_of_part, head_of, lines_of_part, data_blocks_of, piece_end, unmapped, MeansPool}
use Rattle.pd_grammar.proofs.ThinLaws.{pushed}
use Rattle.pd_laid.specs.Laid.{blocks_from}
use Rattle.pd_laid.specs.Shape.{shape_of, unshared_device, unshared_pieces, uses_of, uses_of_piece}
use Rattle.pd_laid.proofs.ShapeText.{is_shape, pool_kept}
use Rattle.pd_laid.proofs.ToldLeaves.{pushed-append}
use Rattle.pd_draft.specs.Closed.{DraftState, Wrote}
use Rattle.pd_count.specs.Counted.{Counted, HasCounted}
use Rattle.pd_texts.specs.Reader.{in_order}
use Rattle.pd_devices.specs.declared.devices.Devices.{Devices}
use Rattle.pd_devices.specs.Devices.{bare_device, with_run, open_device, whole_devices}
use Rattle.pd_devices.specs.Gathered.{HasGathered, IsOpen, data_in, mapped_in}
use Rattle.pd_devices.specs.declared.devices.Growing.{Growing}
use Rattle.pd_devices.proofs.WholeLemmas.{pushed_again}
use Rattle.pd_restore.specs.Reading.{HasDevices, Known}
use Rattle.pd_laws_laid.proofs.PoolCase.{data_counts_are, trees_are, roots_are, details_are}
use Rattle.pd_laws_laid.specs.Shared.{used_times, leaves_and_trees}
use Rattle.pd_laws_laid.specs.Once.{device_details}

-- the runs of a device
abbrev longer : ThinDevice → List Mapping → ThinDevice
longer e ms = record { id = e.id; mapped = e.mapped; transaction = e.transaction; created = e.created; snapped = e.snapped; mappings = e.mappings ++ ms }

longer_twice : (e : ThinDevice) (xs ys : List Mapping) → longer (longer e xs) ys ≡ longer e (xs ++ ys)
longer_twice e xs ys = ap (λ (ms : List Mapping). record { id = e.id; mapped = e.mapped; transaction = e.transaction; created = e.created; snapped = e.snapped; mappings = ms }) (append_assoc e.mappings xs ys)

longer_none : (e : ThinDevice) → longer e [] ≡ e
longer_none e = ap (λ (ms : List Mapping). record { id = e.id; mapped = e.mapped; transaction = e.transaction; created = e.created; snapped = e.snapped; mappings = ms }) (append-nil e.mappings)

runs_open : (runs : List Run) (before : List Line) (e : ThinDevice) → open_device before ≡ e ∷ [] → open_device (pushed before (map map_line runs)) ≡ longer e (flat_map mappings_of runs) ∷ []
runs_open [] before e is = is ∙ ap (λ (d : ThinDevice). d ∷ []) (sym (longer_none e))
runs_open (r ∷ runs) before e is =
    runs_open runs (map_line r ∷ before) (longer e (mappings_of r)) (ap (map (with_run r)) is)
    ∙ ap (λ (d : ThinDevice). d ∷ []) (longer_twice e (mappings_of r) (flat_map mappings_of runs))

runs_whole : (runs : List Run) (before : List Line) → whole_devices (pushed before (map map_line runs)) ≡ whole_devices before
runs_whole [] before = refl
runs_whole (r ∷ runs) before = runs_whole runs (map_line r ∷ before)

runs_blocks : (runs : List Run) (before : List Line) → data_blocks_of (pushed before (map map_line runs)) ≡ data_blocks_of before
runs_blocks [] before = refl
runs_blocks (r ∷ runs) before = runs_blocks runs (map_line r ∷ before)

-- the lines of a part, and then others
part_lines : (p : Part) (before tail : List Line) (parts : List Part)
    → pushed before (flat_map lines_of_part (p ∷ parts) ++ tail) ≡ pushed (pushed (device_line p.details ∷ before) (map map_line p.runs)) (flat_map lines_of_part parts ++ tail)
part_lines p before tail parts =
    ap (pushed (device_line p.details ∷ before)) (append_assoc (map map_line p.runs) (flat_map lines_of_part parts) tail)
    ∙ pushed-append (device_line p.details ∷ before) (map map_line p.runs) (flat_map lines_of_part parts ++ tail)

-- the devices of parts
parts_whole : (parts : List Part) (before : List Line)
    → whole_devices (pushed before (flat_map lines_of_part parts ++ end_line ∷ [])) ≡ (whole_devices before ++ open_device before) ++ map device_of_part parts
parts_whole [] before = sym (append-nil (whole_devices before ++ open_device before))
parts_whole (p ∷ parts) before =
    let next = pushed (device_line p.details ∷ before) (map map_line p.runs) in
    ap whole_devices (part_lines p before (end_line ∷ []) parts)
    ∙ (parts_whole parts next
    ∙ (ap₂ (λ (ws os : List ThinDevice). (ws ++ os) ++ map device_of_part parts) (runs_whole p.runs (device_line p.details ∷ before)) (runs_open p.runs (device_line p.details ∷ before) (bare_device p.details) refl)
    ∙ append_assoc (whole_devices before ++ open_device before) (device_of_part p ∷ []) (map device_of_part parts)))

parts_blocks : (parts : List Part) (before : List Line) → data_blocks_of (pushed before (flat_map lines_of_part parts ++ end_line ∷ [])) ≡ data_blocks_of before
parts_blocks [] before = refl
parts_blocks (p ∷ parts) before =
    ap data_blocks_of (part_lines p before (end_line ∷ []) parts)
    ∙ (parts_blocks parts (pushed (device_line p.details ∷ before) (map map_line p.runs)) ∙ runs_blocks p.runs (device_line p.details ∷ before))

-- how often a data block is mapped
module _ (b : ℕ) where
  abbrev count : List ℕ → ℕ
  count ns = count_by (λ r. eqb r b) ns

  count-append : (xs ys : List ℕ) → count (xs ++ ys) ≡ count xs + count ys
  count-append xs ys = sum_by-append (λ r. cond {A = ℕ} (eqb r b) 1 0) xs ys

  abbrev data_of : List Mapping → List ℕ
  data_of ms = map (λ (x : Mapping). x.data_block) ms

  runs_data : (runs : List Run) (before : List Line) → count (data_in (pushed before (map map_line runs))) ≡ count (data_of (flat_map mappings_of runs)) + count (data_in before)
  runs_data [] before = omega arith
  runs_data (r ∷ runs) before =
      let rest = runs_data runs (map_line r ∷ before) in
      let here = count-append (data_of (mappings_of r)) (data_in before) in
      let both = ap count (map-append (λ (x : Mapping). x.data_block) (mappings_of r) (flat_map mappings_of runs)) ∙ count-append (data_of (mappings_of r)) (data_of (flat_map mappings_of runs)) in
      omega (arith, rest, here, both)

  abbrev devices_data : List ThinDevice → List ℕ
  devices_data devices = flat_map (λ (d : ThinDevice). data_of d.mappings) devices

  parts_data : (parts : List Part) (before : List Line)
      → count (data_in (pushed before (flat_map lines_of_part parts ++ end_line ∷ []))) ≡ count (data_in before) + count (devices_data (map device_of_part parts))
  parts_data [] before = omega arith
  parts_data (p ∷ parts) before =
      let next = pushed (device_line p.details ∷ before) (map map_line p.runs) in
      let same = ap (λ (ls : List Line). count (data_in ls)) (part_lines p before (end_line ∷ []) parts) in
      let rest = parts_data parts next in
      let mine = runs_data p.runs (device_line p.details ∷ before) in
      let both = count-append (data_of (flat_map mappings_of p.runs)) (devices_data (map device_of_part parts)) in
      omega (arith, same, rest, mine, both)

-- the lines of a pool, the newest first
lines_are : (lines : List Line) (m : ThinPool) (means : MeansPool (in_order lines []) m)
    → lines ≡ pushed (pool_line (head_of m) ∷ first_line ∷ []) (flat_map lines_of_part means.parts ++ end_line ∷ [])
lines_are lines m means = sym (pushed_again lines []) ∙ ap (pushed []) means.lines_are

-- behind the last line no device is open
none_open : (parts : List Part) (before : List Line) → open_device (pushed before (flat_map lines_of_part parts ++ end_line ∷ [])) ≡ []
none_open [] before = refl
none_open (p ∷ parts) before = ap open_device (part_lines p before (end_line ∷ []) parts) ∙ none_open parts (pushed (device_line p.details ∷ before) (map map_line p.runs))

closed_at : {start now : DraftState} (lines : List Line) (s : Devices) (h : HasGathered lines s start now) → open_device lines ≡ [] → h.behind ≡ now
closed_at {start} {now} lines s h closed = closed_by s.growing (piece_end lines) (unmapped lines) h.behind now (rw closed at h.growing)
  where
    closed_by : (o : Option Growing) (low left : ℕ) (from to : DraftState) → IsOpen [] low left o from to → from ≡ to
    closed_by None low left from to is = is
    closed_by (Some o) low left from to is = absurd is

-- no device uses a shared leaf
no_uses : (ds : List ThinDevice) → flat_map uses_of (map unshared_device ds) ≡ []
no_uses [] = refl
no_uses (d ∷ ds) = rw (unshared_uses d.mappings, no_uses ds) refl
  where
    unshared_uses : (ms : List Mapping) → flat_map uses_of_piece (unshared_pieces ms) ≡ []
    unshared_uses [] = refl
    unshared_uses (m ∷ ms) = refl

-- what is known of devices that share no leaf
abbrev pub known_of : Devices → Counted → Known
known_of s uses = record { roots = s.roots.items; details = s.details.items; counts = s.counts.counts; leaves = 0; uses = uses }

-- so what was gathered of all lines of a pool is what its shape has
pub devices_of_lines : {start now : DraftState} (lines : List Line) (m : ThinPool) (s : Devices) (uses : Counted) → HasGathered lines s start now → MeansPool (in_order lines []) m → HasCounted uses []
    → HasDevices (shape_of m) (known_of s uses) start now
unfolding blocks_from leaves_and_trees shape_of
devices_of_lines {start} {now} lines m s uses h means none =
    let head : List Line = pool_line (head_of m) ∷ first_line ∷ [] in
    let is = lines_are lines m means in
    let whole : whole_devices lines ≡ m.devices = ap whole_devices is ∙ (parts_whole means.parts head ∙ means.devices) in
    let closed : open_device lines ≡ [] = ap open_device is ∙ none_open means.parts head in
    let blocks : data_blocks_of lines ≡ m.data_blocks = ap data_blocks_of is ∙ parts_blocks means.parts head in
    let here : h.behind ≡ now = closed_at lines s h closed in
    record {
      shape = is_shape m;
      lawful = subst IsLawfulPool (sym (pool_kept m)) means.lawful;
      begin = h.begin;
      written = subst (λ (blocks : List (List ℕ)). Wrote blocks start now) (sym (trees_are 1 m.devices)) (rw (← whole, ← here) h.written);
      roots = rw (← whole) h.roots ∙ sym (roots_are 1 m.devices);
      details = h.details ∙ (ap device_details (ap₂ (λ (ws os : List ThinDevice). ws ++ os) whole closed ∙ append-nil m.devices) ∙ sym (details_are m.devices));
      roots_fit = h.roots_fit;
      details_fit = h.details_fit;
      counted = fun_ext (λ b. omega (
        arith,
        h.counted b,
        ap (λ (ls : List Line). count b (data_in ls)) is,
        parts_data b means.parts head,
        ap (λ (ds : List ThinDevice). count b (devices_data b ds)) means.devices,
      )) ∙ sym (data_counts_are m means.lawful);
      size = h.size ∙ blocks;
      leaves = refl;
      uses = λ number. none number ∙ ap (λ (used : List ℕ). used_times used number) (sym (no_uses m.devices));
    }

-- what adds up over the mapped numbers
module _ (h : List ℕ → ℕ) (adds : (xs ys : List ℕ) → h (xs ++ ys) ≡ h xs + h ys) where
  runs_mapped : (runs : List Run) (before : List Line) → mapped_in (pushed before (map map_line runs)) ≡ mapped_in before
  runs_mapped [] before = refl
  runs_mapped (r ∷ runs) before = runs_mapped runs (map_line r ∷ before)

  parts_mapped : (parts : List Part) (before : List Line)
      → h (mapped_in (pushed before (flat_map lines_of_part parts ++ end_line ∷ []))) ≡ h (mapped_in before) + h (map (λ (d : ThinDevice). d.mapped) (map device_of_part parts))
  parts_mapped [] before = omega (arith, adds [] [])
  parts_mapped (p ∷ parts) before =
      let next = pushed (device_line p.details ∷ before) (map map_line p.runs) in
      let same = ap (λ (ls : List Line). h (mapped_in ls)) (part_lines p before (end_line ∷ []) parts) in
      let rest = parts_mapped parts next in
      let mine = ap h (runs_mapped p.runs (device_line p.details ∷ before)) in
      let here = adds (p.details.mapped ∷ []) (mapped_in before) in
      let there = adds (p.details.mapped ∷ []) (map (λ (d : ThinDevice). d.mapped) (map device_of_part parts)) in
      omega (arith, same, rest, mine, here, there)

-- the need after all lines is that of their pool
pub whole_need : (lines : List Line) (m : ThinPool) (room : ℕ) → MeansPool (in_order lines []) m → thin_need_so_far room lines ≡ thin_need m room
unfolding thin_need thin_need_so_far
whole_need lines m room means =
    let head : List Line = pool_line (head_of m) ∷ first_line ∷ [] in
    let is = lines_are lines m means in
    let numbers = map (λ (d : ThinDevice). d.mapped) m.devices in
    let blocks : data_blocks_of lines ≡ m.data_blocks = ap data_blocks_of is ∙ parts_blocks means.parts head in
    let devices : map (λ (d : ThinDevice). d.mapped) (map device_of_part means.parts) ≡ numbers = ap (map (λ (d : ThinDevice). d.mapped)) means.devices in
    let trees : sum_by (need_tree 8) (mapped_in lines) ≡ sum_by (need_tree 8) numbers =
    omega (
      arith,
      ap (λ (ls : List Line). sum_by (need_tree 8) (mapped_in ls)) is,
      parts_mapped (sum_by (need_tree 8)) (sum_by-append (need_tree 8)) means.parts head,
      ap (sum_by (need_tree 8)) devices,
    ) in
    let number : length (mapped_in lines) ≡ length numbers =
    omega (arith, ap (λ (ls : List Line). length (mapped_in ls)) is, parts_mapped (λ xs. length xs) length-append means.parts head, ap (λ (xs : List ℕ). length xs) devices) in
    let counts : (d : ℕ) → count_by (λ b. eqb b d) (data_in lines) ≡ count_by (λ b. eqb b d) (mapped_data m) =
    λ d. omega (arith, ap (λ (ls : List Line). count d (data_in ls)) is, parts_data d means.parts head, ap (λ (ds : List ThinDevice). count d (devices_data d ds)) means.devices) in
    rw blocks (devices-same (mapped_in lines) numbers m.data_blocks (overflows_in (data_in lines) m.data_blocks) (overflows_in (mapped_data m) m.data_blocks) room
    trees number (overflows-same (data_in lines) (mapped_data m) m.data_blocks counts))
