-- What lines of a pool's text that were read say and mean.
use Rattle.std.proofs.Common.{◌≡◌, ◌∙◌, ap, sym, refl, ℕ, ◌+◌, ◌≤◌, Bool, true, false, not, ◌&&◌, eqb, ltb, leb, List, [], ◌∷◌, length, arith, ◌++◌, map}
use Rattle.std.proofs.lemmas.Bool.{true≢false, and_parts, not-true}
use Rattle.std.proofs.lemmas.Bool.Decides.{nat_tests}
use Rattle.std.proofs.lemmas.Option.{none-some}
use Rattle.std.specs.List.{flat_map}
use Rattle.std.proofs.lemmas.Grind.{flat_map-append}
use Rattle.pd_kinds.specs.Meaning.{ThinPool, ThinDevice}
use Rattle.pd_kinds.proofs.NumberLemmas.{use_tells}
use Rattle.pd_kinds.specs.declared.kind.Kind.TheVariants.{Thin}
use Rattle.pd_grammar.specs.Texts.{has_ended, reading, text_of_lines, whole}
use Rattle.pd_grammar.specs.Tables.{format_of}
use Rattle.pd_grammar.proofs.TableLemmas.{PlacedBy}
use Rattle.pd_grammar.proofs.GrammarLemmas.{IsGrammar, Passes, is_read, is_reader}
use Rattle.pd_grammar.specs.ThinText.{Line, first_line, shared_first_line, pool_line, leaf_line, device_line, use_line, map_line, end_line, Head, LeafHead, Details, Run, table_from, thin, thin_tests, has_number_out_of_range, is_out_of_order, is_mapped_otherwise, data_blocks_of, is_shared, leaf_number, runs_of_leaf, least_of, number_in, least_id, has_device, piece_end, unmapped, MeansPool, head_of, joined_part, lines_of_part, text_of_pool}
use Rattle.pd_grammar.proofs.ThinRead.{FitsLine, Placed, thin_grammar}
use Rattle.pd_grammar.proofs.ThinLaws.{thin_language}
use Rattle.pd_grammar.proofs.ThinMeaning.{IsUnshared, device_tells, in_device, map_tells, pool_tells}
use Rattle.pd_texts.specs.Reader.{IsReadAfter, AreReadSoFar, in_order}
use Rattle.pd_texts.specs.ThinState.{IsPoolLine, IsLeafLine, IsDeviceLine, IsUseLine, IsRunLine, IsMapLine, IsEndLine}
use Rattle.pd_texts.specs.ThinLine.{text_of_line, first_text, end_text, runs_text, device_text}
use Rattle.pd_texts.proofs.LawLemmas as any

-- lines that were read up to the last one mean a pool
pub read_lines_mean : (lines : List Line) → AreReadSoFar thin lines → has_ended thin lines ≡ true → (m : ThinPool) × MeansPool (in_order lines []) m
read_lines_mean = any.read_lines_mean thin MeansPool FitsLine Placed thin_language

-- the tests that a line has passed
record HasPassed (before : List Line) (line : Line) : Type 0 where
  range : has_number_out_of_range before line ≡ false
  order : is_out_of_order before line ≡ false
  mapped : is_mapped_otherwise before line ≡ false

passed : (before : List Line) (line : Line) → 1 ≤ length before → Passes thin_tests before line → HasPassed before line
passed [] line some passes = absurd (omega arith)
passed (newest ∷ before) line some passes = record { range = passes.0; order = passes.1.0; mapped = passes.1.1.0 }

leaf_says : (number leaves n left : ℕ) → not (leb 1 n && leb n 252) ≡ false → not (eqb number leaves) ≡ false → ltb 0 left ≡ false
    → (number ≡ leaves) × ((left ≡ 0) × ((1 ≤ n) × (n ≤ 252)))
leaf_says number leaves n left range order mapped =
    (grind (arith, nat_tests), (grind (arith, nat_tests), (grind (arith, nat_tests), grind (arith, nat_tests))))

end_says : (left : ℕ) → ltb 0 left ≡ false → left ≡ 0
end_says left mapped = grind (arith, nat_tests)

-- what a line says that was read, in a text that begins with one of these lines
module _ (firsts : List Line) (grammar : IsGrammar (format_of (table_from firsts)) FitsLine (PlacedBy (table_from firsts))) where
  pub pool_read : (before : List Line) (p : Head) → IsReadAfter (format_of (table_from firsts)) before (pool_line p) → IsPoolLine before p
  pool_read before p one =
      let is = is_read (format_of (table_from firsts)) FitsLine (PlacedBy (table_from firsts)) grammar before one.bytes (pool_line p) one.is in
      let tests = passed before (pool_line p) (omega (arith, is.placed)) is.passes in
      let says = pool_tells p.time p.block_size p.data_blocks tests.range in
      record {
        second = is.placed;
        uuid_len = is.fits.0;
        uuid_bytes = is.fits.1.0;
        time_fits = says.0;
        transaction_fits = is.fits.1.1.1.0;
        block_size_fits = says.1.0;
        data_blocks_fit = says.1.1;
      }

  pub leaf_read : (before : List Line) (l : LeafHead) → IsReadAfter (format_of (table_from firsts)) before (leaf_line l) → IsLeafLine before l
  leaf_read before l one =
      let is = is_read (format_of (table_from firsts)) FitsLine (PlacedBy (table_from firsts)) grammar before one.bytes (leaf_line l) one.is in
      let tests = passed before (leaf_line l) (omega (arith, is.placed.0)) is.passes in
      let may = and_parts (is_shared before) (not (has_device before)) is.placed.1 in
      let says = leaf_says l.number (leaf_number before) l.entries (unmapped before) tests.range tests.order tests.mapped in
      record {
        later = is.placed.0;
        shared = may.0;
        none = not-true (has_device before) may.1;
        next = says.0;
        complete = says.1.0;
        some = says.1.1.0;
        few = says.1.1.1;
      }

  pub use_read : (before : List Line) (number : ℕ) → IsReadAfter (format_of (table_from firsts)) before (use_line number) → IsUseLine before number
  use_read before number one =
      let is = is_read (format_of (table_from firsts)) FitsLine (PlacedBy (table_from firsts)) grammar before one.bytes (use_line number) one.is in
      let tests = passed before (use_line number) (omega (arith, is.placed.0)) is.passes in
      let may = and_parts (is_shared before) (has_device before) is.placed.1 in
      let runs = runs_of_leaf before number in
      let says = use_tells number (leaf_number before) (least_of runs) (piece_end before) (unmapped before) (number_in runs) tests.range tests.order tests.mapped in
      record { later = is.placed.0; shared = may.0; has_device = may.1; told = says.0; above = says.1.0; mapped = says.1.1 }

  pub device_read : (before : List Line) (d : Details) → IsReadAfter (format_of (table_from firsts)) before (device_line d) → IsDeviceLine before d
  device_read before d one =
      let is = is_read (format_of (table_from firsts)) FitsLine (PlacedBy (table_from firsts)) grammar before one.bytes (device_line d) one.is in
      let tests = passed before (device_line d) (omega (arith, is.placed)) is.passes in
      let says = device_tells d.created d.snapped d.id (least_id before) (unmapped before) tests.range tests.order tests.mapped in
      record {
        later = is.placed;
        above = says.1.1.0;
        complete = says.1.1.1;
        id_fits = is.fits.0;
        mapped_fits = is.fits.1.0;
        transaction_fits = is.fits.1.1.0;
        created_fits = says.0;
        snapped_fits = says.1.0;
      }

  pub run_read : (before : List Line) (r : Run) → IsReadAfter (format_of (table_from firsts)) before (map_line r) → IsRunLine before r
  run_read before r one =
      let is = is_read (format_of (table_from firsts)) FitsLine (PlacedBy (table_from firsts)) grammar before one.bytes (map_line r) one.is in
      let tests = passed before (map_line r) (omega (arith, is.placed.0)) is.passes in
      let says = map_tells r.length (r.virtual_block + r.length) (r.data_block + r.length) (data_blocks_of before) r.time r.virtual_block (piece_end before) (unmapped before)
      tests.range tests.order tests.mapped in
      record {
        later = is.placed.0;
        placed = is.placed.1;
        some = says.0;
        above = says.1.1.1.1.0;
        virtual_fits = says.1.0;
        within = says.1.1.0;
        time_fits = says.1.1.1.0;
        mapped = says.1.1.1.1.1;
      }

  pub end_read : (before : List Line) → IsReadAfter (format_of (table_from firsts)) before end_line → IsEndLine before
  end_read before one =
      let is = is_read (format_of (table_from firsts)) FitsLine (PlacedBy (table_from firsts)) grammar before one.bytes end_line one.is in
      let tests = passed before end_line (omega (arith, is.placed)) is.passes in
      record { later = is.placed; complete = end_says (unmapped before) tests.mapped }

-- no line of version 2 is read after lines of version 1
pub leaf_not_read : (before : List Line) (l : LeafHead) → IsUnshared before → IsReadAfter thin before (leaf_line l) → ⊥
leaf_not_read before l first one =
    true≢false (sym (is_read thin FitsLine Placed thin_grammar before one.bytes (leaf_line l) one.is).placed.1 ∙ ap (λ (x : Bool). x && not (has_device before)) first.version)

unshared : (before : List Line) → AreReadSoFar thin before → IsUnshared before
unshared [] so_far = record { version = refl; none = refl }
unshared (first_line ∷ before) so_far = let rest = unshared before so_far.1 in record { version = rest.version; none = rest.none }
unshared (shared_first_line ∷ before) so_far = absurd (none-some shared_first_line (is_read thin FitsLine Placed thin_grammar before so_far.0.bytes shared_first_line so_far.0.is).placed.1)
unshared (pool_line p ∷ before) so_far = let rest = unshared before so_far.1 in record { version = rest.version; none = rest.none }
unshared (leaf_line l ∷ before) so_far = absurd (leaf_not_read before l (unshared before so_far.1) so_far.0)
unshared (device_line d ∷ before) so_far = let rest = unshared before so_far.1 in record { version = rest.version; none = rest.none }
unshared (use_line n ∷ before) so_far = let rest = unshared before so_far.1 in record { version = rest.version; none = rest.none }
unshared (map_line r ∷ before) so_far = let rest = unshared before so_far.1 in record { version = rest.version; none = rest.none }
unshared (end_line ∷ before) so_far = let rest = unshared before so_far.1 in record { version = rest.version; none = rest.none }

pub map_read_first : (before : List Line) (r : Run) → IsUnshared before → IsReadAfter thin before (map_line r) → IsMapLine before r
map_read_first before r first one =
    let is = run_read (first_line ∷ []) thin_grammar before r one in
    record {
      later = is.later;
      has_device = in_device before first is.placed;
      some = is.some;
      above = is.above;
      virtual_fits = is.virtual_fits;
      within = is.within;
      time_fits = is.time_fits;
      mapped = is.mapped;
    }

pub map_read : (before : List Line) (r : Run) → AreReadSoFar thin (map_line r ∷ before) → IsMapLine before r
map_read before r so_far = map_read_first before r (unshared before so_far.1) so_far.0

-- What the lines of a pool's text come to.

-- a text of which no line is refused is that of its lines
pub whole_bytes : (text : List ℕ) (lines : List Line) → reading thin text ≡ whole lines → text ≡ text_of_lines thin lines
whole_bytes = any.whole_bytes thin (is_reader thin FitsLine Placed thin_grammar)

-- the lines of runs, of a device and of devices
runs_lines : (runs : List Run) → text_of_lines thin (map map_line runs) ≡ runs_text runs
runs_lines [] = refl
runs_lines (r ∷ runs) = ap (λ (xs : List ℕ). text_of_line thin (map_line r) ++ xs) (runs_lines runs)

device_lines : (d : ThinDevice) → text_of_lines thin (lines_of_part (joined_part d)) ≡ device_text d
device_lines d = ap (λ (xs : List ℕ). text_of_line thin (device_line (joined_part d).details) ++ xs) (runs_lines (joined_part d).runs)

devices_lines : (ds : List ThinDevice) → text_of_lines thin (flat_map lines_of_part (map joined_part ds)) ≡ flat_map device_text ds
devices_lines [] = refl
devices_lines (d ∷ ds) =
    flat_map-append (text_of_line thin) (lines_of_part (joined_part d)) (flat_map lines_of_part (map joined_part ds))
    ∙ ap (λ (xs : List ℕ). xs ++ text_of_lines thin (flat_map lines_of_part (map joined_part ds))) (device_lines d)
    ∙ ap (λ (xs : List ℕ). device_text d ++ xs) (devices_lines ds)

pub pool_lines : (m : ThinPool) → text_of_pool m ≡ first_text Thin ++ (text_of_line thin (pool_line (head_of m)) ++ (flat_map device_text m.devices ++ end_text))
unfolding text_of_pool
pool_lines m =
    let parts = flat_map lines_of_part (map joined_part m.devices) in
    let body : text_of_lines thin (parts ++ (end_line ∷ [])) ≡ flat_map device_text m.devices ++ end_text =
    flat_map-append (text_of_line thin) parts (end_line ∷ []) ∙ ap (λ (xs : List ℕ). xs ++ end_text) (devices_lines m.devices) in
    ap (λ (xs : List ℕ). first_text Thin ++ (text_of_line thin (pool_line (head_of m)) ++ xs)) body
