-- The shape of the generator's pool, which alone its text spells.
use Rattle.std.proofs.Common.{◌≡◌, inl, inr, ℕ, ◌≤◌, List, None, Some, Err, sym, ◌∙◌, ◌+◌, ◌*◌, [], ◌∷◌, ◌++◌, length, map, refl, ap, arith, nat_lt, Option, IfSome, Result, Ok, IfOk}
use Rattle.std.proofs.lemmas.Bool.{cases_lt, cases_Bool}
use Rattle.std.specs.Prelude.{sum_by, MatchResult}
use Rattle.std.specs.List.{range_with_len, flat_map}
use Rattle.std.proofs.lemmas.List.FromFn.{length-map-range_with_len}
use Rattle.std.proofs.lemmas.List.Sums.{sum_by-append, sum_by-cons}
use Rattle.pd_kinds.specs.Image.{room_of}
use Rattle.pd_kinds.specs.Objects.{DeviceState, SourceState}
use Rattle.pd_kinds.specs.Meaning.{Mapping, ThinDevice, ThinPool, thin_meaning}
use Rattle.pd_kinds.specs.declared.kind.Kind.TheVariants.{Thin}
use Rattle.pd_kinds.specs.declared.kind.Stage.{Stage}
use Rattle.pd_kinds.specs.declared.kind.Stage.TheVariants.{Super, Walk, Order, Whole, Counts}
use Rattle.pd_kinds.specs.Graph.{block_at}
use Rattle.pd_kinds.specs.Stages.{Checked, checked_of, faults, first_failing, stage_faults}
use Rattle.pd_kinds.specs.ThinFormat.{thin_fields}
use Rattle.pd_grammar.specs.Spelling.{Verdict, accepted, refused, no_room}
use Rattle.pd_grammar.proofs.SpellingLemmas.{none_if_spelled, spells_one, one_verdict}
use Rattle.pd_grammar.specs.Lawful.{IsLawfulPool}
use Rattle.pd_grammar.specs.Need.{thin_need}
use Rattle.pd_grammar.specs.ThinText.{pool_format, Line, device_line, end_line, first_line, map_line, pool_line, head_of, joined_part, lines_of_parts, text_of_pool, lines_of_part}
use Rattle.pd_grammar.proofs.ThinRead.{FitsLine, PlacedInPool}
use Rattle.pd_laid.specs.LaidThin.{laid_shape}
use Rattle.pd_laid.specs.Shape.{ThinShape, shape_of}
use Rattle.pd_laid.specs.PoolText.{IsLawfulShape, IsPoolTextVerdict, MeansPoolShape, SpellsPoolShape, is_pool_text_early, pool_need_so_far, shape_need}
use Rattle.pd_laid.proofs.ShapeText.{pool_language, unshared_spelled, pool_kept}
use Rattle.pd_laid.proofs.Unshared.{unshared_need, either_without_room}
use Rattle.pd_answers.specs.Rehearsals.{generated_text, generated_mapped, AreNumbersOf}
use Rattle.pd_texts.specs.declared.reader.TextFault.{TextFault}
use Rattle.pd_gen.specs.Lines.{generated_pool, device_mapping, generated_device, snapshot_mapping, generated_lines, part_of, run_of}
use Rattle.pd_gen.proofs.Spelled.{generated_spells}
use Rattle.pd_gen.proofs.Numbers.{feeds_are, feeds_of, lines_joined, lines_number, mappings_number}
use Rattle.pd_gen.specs.declared.rehearsal.Rehearsal.{Rehearsal}
use Rattle.pd_gen.specs.Rehearsed.{found_of, IsCountedIn, IsCountOfPool, IsFaulty, IsPlain, OnlyFails}
use Rattle.pd_gen.specs.declared.rehearsal.RehearseFault.{RehearseFault}
use Rattle.pd_gen.specs.declared.rehearsal.RehearseFault.TheVariants as f
use Rattle.pd_meaning_thin.specs.Given.{GivesPool, pool_rows, super_head, super_lines}
use Rattle.pd_meaning_thin.proofs.RowLemmas.{same_lines}
use Rattle.pd_pool_dumps.specs.ThinText.{IsCountOf, mappings_of_line}
use Rattle.pd_restoring.specs.Restored.{IsRefused, IsRestored}
use Rattle.pd_restoring.specs.declared.fault.RestoreFault.TheVariants as r

abbrev pub generated_shape : ℕ → ThinShape
generated_shape number = shape_of (generated_pool number)

module _ (number : ℕ) (few : number ≤ 10000) where
  abbrev text : List ℕ
  text = generated_text number

  pub lawful : IsLawfulPool (generated_pool number)
  lawful = (generated_spells number few).means.lawful

  spelled : SpellsPoolShape text (generated_shape number)
  spelled = unshared_spelled text (generated_pool number) (generated_spells number few)

  -- no line of it is refused
  never_refused : (fault : TextFault) (room : ℕ) (v : Verdict ThinShape) → IsPoolTextVerdict text room v → IsRefused fault v → ⊥
  never_refused fault room (accepted w) right answer = answer
  never_refused fault room (refused why) right answer =
      let none = none_if_spelled pool_format MeansPoolShape FitsLine PlacedInPool pool_language text (generated_shape number) spelled in
      let differ : None ≡ Some why = sym none ∙ right.1 in cc
  never_refused fault room (no_room needed blocks) right answer = answer

  pub restored_whole : (fault : TextFault) (from to : SourceState) (old new : DeviceState) → from.left ≡ Some text
      → IsRestored IsLawfulShape IsPoolTextVerdict is_pool_text_early laid_shape (Err (r.Text fault)) from to old new → ⊥
  restored_whole fault from to old new left restored =
      let right = rw left at restored.right in never_refused fault (room_of old.blocks) restored.verdict right.0 restored.answer

  pub only_shape : (room : ℕ) (w : ThinShape) → IsPoolTextVerdict text room (accepted w) → w ≡ generated_shape number
  only_shape room w right = spells_one pool_format MeansPoolShape FitsLine PlacedInPool pool_language text w (generated_shape number) right.1 spelled

  pub need_is : (room : ℕ) → shape_need (generated_shape number) room ≡ thin_need (generated_pool number) room
  need_is room = unshared_need (generated_pool number) room lawful

  -- where it is accepted, there is room
  pub has_room : (room : ℕ) → IsPoolTextVerdict text room (accepted (generated_shape number)) → shape_need (generated_shape number) room ≤ room
  has_room room right = elim (cases_lt room (shape_need (generated_shape number) room)) [
    | inr enough ↦ enough
    | inl less ↦
        let other = either_without_room text (generated_shape number) room spelled less in
        absurd (apart (one_verdict pool_format MeansPoolShape FitsLine PlacedInPool pool_language (pool_need_so_far room) text room (accepted (generated_shape number)) (no_room other.0 room) right other.1.0))
  ]
    where
      apart : {needed blocks : ℕ} → accepted (generated_shape number) ≡ no_room needed blocks → ⊥
      apart e = cc

-- The numbers of a rehearsal are those of the generator's pool.

-- the mappings of runs of one mapping each
sum_maps : (ms : List Mapping) → sum_by mappings_of_line (map map_line (map run_of ms)) ≡ length ms
sum_maps [] = refl
sum_maps (m ∷ ms) = omega (arith, sum_by-cons mappings_of_line (map_line (run_of m)) (map map_line (map run_of ms)), sum_maps ms)

-- those of the lines of two devices
two_sums : (first pool one other end : Line) (ms ns : List Line) → mappings_of_line first ≡ 0 → mappings_of_line pool ≡ 0 → mappings_of_line one ≡ 0 → mappings_of_line other ≡ 0 → mappings_of_line end ≡ 0
    → sum_by mappings_of_line (first ∷ pool ∷ (((one ∷ ms) ++ ((other ∷ ns) ++ [])) ++ (end ∷ []))) ≡ sum_by mappings_of_line ms + sum_by mappings_of_line ns
two_sums first pool one other end ms ns a b c d e =
    let f = mappings_of_line in
    let parts = (one ∷ ms) ++ ((other ∷ ns) ++ []) in
    let none : sum_by mappings_of_line [] ≡ 0 = refl in
    omega (
      arith,
      sum_by-cons f first (pool ∷ (parts ++ (end ∷ []))),
      sum_by-cons f pool (parts ++ (end ∷ [])),
      sum_by-append f parts (end ∷ []),
      sum_by-cons f end [],
      sum_by-append f (one ∷ ms) ((other ∷ ns) ++ []),
      sum_by-cons f one ms,
      sum_by-append f (other ∷ ns) [],
      sum_by-cons f other ns,
      none,
      a,
      b,
      c,
      d,
      e,
    )

abbrev range : ℕ → List ℕ
range number = range_with_len 0 (generated_mapped number)

mapped_number : (number : ℕ) → sum_by mappings_of_line (generated_lines number) ≡ 2000 * number
unfolding generated_pool
mapped_number number =
    omega (
      arith,
      two_sums first_line (pool_line (head_of (generated_pool number))) (device_line (part_of (generated_device number 0 device_mapping)).details) (device_line (part_of (generated_device number 1 snapshot_mapping)).details) end_line (map map_line (map run_of (map device_mapping (range number)))) (map map_line (map run_of (map snapshot_mapping (range number)))) refl refl refl refl refl,
      sum_maps (map device_mapping (range number)),
      sum_maps (map snapshot_mapping (range number)),
      length-map-range_with_len device_mapping 0 (generated_mapped number),
      length-map-range_with_len snapshot_mapping 0 (generated_mapped number),
    )

-- what is found of the generator's pool, by what was counted of it
pub numbers_of : (number : ℕ) → number ≤ 10000 → (room : ℕ) (v : Verdict ThinShape) (r : Rehearsal) → r.used ≡ shape_need (generated_shape number) room
    → IsCountOf r.counts (lines_of_parts (head_of (generated_pool number)) (map joined_part (generated_pool number).devices)) → AreNumbersOf (generated_shape number) (found_of room v r)
numbers_of number few room v r used counts =
    let lines = lines_joined number in
    let length_is = ap length lines ∙ lines_number number in
    let sum_is = ap (sum_by mappings_of_line) lines ∙ mapped_number number in
    let pool = pool_kept (generated_pool number) in
    let feeds = ap (λ (p : ThinPool). feeds_of (text_of_pool p)) pool ∙ (feeds_are number few ∙ lines_number number) in
    let mappings = ap (λ (p : ThinPool). sum_by (λ (d : ThinDevice). length d.mappings) p.devices) pool ∙ mappings_number number in
    let counted_mappings = counts.mappings_are in
    let counted_lines = counts.lines_are in
    record {
      used = used;
      mappings = omega arith;
      lines = omega arith;
    }

-- What the dump of a clean pool counts.

-- no fault up to a stage, and none up to an earlier one
none_before : (checked : Checked) (image : List (List ℕ)) (stages later : List Stage) → first_failing checked image (stages ++ later) ≡ [] → first_failing checked image stages ≡ []
unfolding first_failing
none_before checked image [] later none = refl
none_before checked image (stage ∷ stages) later none = elim (cases_Bool (nat_lt 0 (length (stage_faults checked image stage)))) [
  | inl some ↦ rw some (rw some at none)
  | inr nothing ↦ rw nothing (none_before checked image stages later (rw nothing at none))
]

pub none_whole : (image : List (List ℕ)) → faults Thin Counts image ≡ [] → faults Thin Whole image ≡ []
unfolding faults
none_whole image none = none_before (checked_of Thin image) image (Super ∷ Walk ∷ Order ∷ Whole ∷ []) (Counts ∷ []) none

-- the lines that the cursors give of a pool are those of its meaning
lines_are : (image : List (List ℕ)) → GivesPool image
    → super_lines image (thin_fields (block_at image 0)) ≡ lines_of_parts (head_of (thin_meaning image)) (map joined_part (thin_meaning image).devices)
unfolding thin_meaning
lines_are image gives =
    let head = super_head (thin_fields (block_at image 0)) in
    let lines = same_lines image (pool_rows image) gives.runs ∙ ap (λ (devices : List ThinDevice). flat_map lines_of_part (map joined_part devices)) (sym gives.devices) in
    ap (λ (lines : List Line). first_line ∷ pool_line head ∷ (lines ++ (end_line ∷ []))) lines

-- what is counted of an image is counted of the pool that it means
counted_of : (image : List (List ℕ)) (m : ThinPool) (r : Rehearsal) → GivesPool image → thin_meaning image ≡ m → IsCountedIn image r → IsCountOfPool image m r
counted_of image m r gives means counted = record {
  used = counted.used;
  counts = rw (lines_are image gives ∙ ap (λ (p : ThinPool). lines_of_parts (head_of p) (map joined_part p.devices)) means) at counted.counts;
}

not_faulty : (fault : RehearseFault) → IsPlain fault → IsFaulty fault → ⊥
not_faulty f.Memory plain faulty = faulty
not_faulty f.Device plain faulty = faulty
not_faulty (f.NoRoom need blocks) plain faulty = faulty
not_faulty (f.Faulty report) plain faulty = plain

at_some : (o : Option (List (List ℕ))) (P : List (List ℕ) → Type 0) (image : List (List ℕ)) → o ≡ Some image → IfSome o P → P image
at_some o P image is all = rw is at all

pub counted_pool : (result : Result Rehearsal RehearseFault) (held : Option (List (List ℕ))) (image : List (List ℕ)) (m : ThinPool) → held ≡ Some image → GivesPool image → thin_meaning image ≡ m
    → IfOk result (λ r. IfSome held (λ image. 1 ≤ length image → IsCountedIn image r)) → OnlyFails result
    → MatchResult result (IsCountOfPool image m) (λ fault. IsFaulty fault → ⊥)
counted_pool (Ok r) held image m is gives means counted plain =
    let some = gives.mapping_root in
    counted_of image m r gives means (at_some held (λ image. 1 ≤ length image → IsCountedIn image r) image is counted (omega arith))
counted_pool (Err fault) held image m is gives means counted plain = not_faulty fault plain
