-- What a shape's text spells, and what a text of version 1 does.
use Rattle.std.proofs.Common.{◌≡◌, ℕ, false, List, [], ◌∷◌, ◌++◌, map, refl, ap, sym, ◌∙◌, append_assoc, arith, true, Bool, subst}
use Rattle.std.specs.List.{AllByRecursion, flat_map}
use Rattle.std.proofs.lemmas.List.{append-nil}
use Rattle.std.proofs.lemmas.Bool.{true≢false}
use Rattle.pd_kinds.specs.Meaning.{ThinPool, Mapping, ThinDevice}
use Rattle.pd_grammar.specs.Texts.{text_of_lines}
use Rattle.pd_grammar.specs.Lawful.{IsLawfulPool}
use Rattle.pd_grammar.specs.ThinText.{Line, map_line, end_line, Details, Run, Part, joined_runs, AreApart, is_shared, pool_format, lines_of_part, SpellsPool, first_line, shared_first_line, pool_line, leaf_line, device_line, use_line, thin}
use Rattle.pd_grammar.proofs.ThinLaws.{joined_mappings, joined_some, runs_joined, thin_language}
use Rattle.pd_grammar.proofs.GrammarLemmas.{AreLines}
use Rattle.pd_grammar.proofs.SpellingLemmas.{IsLanguage, spells_one}
use Rattle.pd_grammar.proofs.ThinRead.{FitsLine, Placed, PlacedInPool, pool_grammar}
use Rattle.pd_laid.specs.Shape.{Piece, own, shared, ShapeDevice, ThinShape, IsShape, pool_of, shape_of, ArePieces, device_of, piece_mappings, unshared_pieces, unshared_device}
use Rattle.pd_laid.specs.PoolText.{PartPiece, own_runs, used_leaf, SharedPart, mappings_of_runs, piece_of_part, device_of_part, head_of_shape, lines_of_shape, HaveMappings, HasPieceMappings, HasPartMappings, SpellsShape, joined_piece, joined_part, text_of_shape, IsPieceApart, IsPartApart, AreSharedApart, SpellsPoolShape, MeansAs, MeansPoolShape, SpellsMeaning}
use Rattle.pd_laid.proofs.ShapeLines.{ArePoolLines, read_from, lines_if_means}
use Rattle.pd_laid.proofs.ShapeCut.{one_shared_meaning}
use Rattle.pd_laid.proofs.SharedMeaning.{shape_if_read}

-- joined runs of leaves, of pieces and of devices have the mappings that they were made of
leaves_joined : (leaves : List (List Mapping)) → map mappings_of_runs (map joined_runs leaves) ≡ leaves
leaves_joined [] = refl
leaves_joined (leaf ∷ leaves) = rw (joined_mappings leaf, leaves_joined leaves) refl

pieces_joined : (pieces : List Piece) → map piece_of_part (map joined_piece pieces) ≡ pieces
pieces_joined [] = refl
pieces_joined (own mappings ∷ pieces) = rw (joined_mappings mappings, pieces_joined pieces) refl
pieces_joined (shared number ∷ pieces) = rw (pieces_joined pieces) refl

devices_joined : (devices : List ShapeDevice) → map device_of_part (map joined_part devices) ≡ devices
devices_joined [] = refl
devices_joined (d ∷ devices) = rw (pieces_joined d.pieces, devices_joined devices) refl

leaves_some : (leaves : List (List Mapping)) → AllByRecursion HaveMappings (map joined_runs leaves)
leaves_some [] = tt
leaves_some (leaf ∷ leaves) = (joined_some leaf, leaves_some leaves)

pieces_some : (pieces : List Piece) → AllByRecursion HasPieceMappings (map joined_piece pieces)
pieces_some [] = tt
pieces_some (own mappings ∷ pieces) = (joined_some mappings, pieces_some pieces)
pieces_some (shared number ∷ pieces) = (tt, pieces_some pieces)

devices_some : (devices : List ShapeDevice) → AllByRecursion HasPartMappings (map joined_part devices)
devices_some [] = tt
devices_some (d ∷ devices) = (pieces_some d.pieces, devices_some devices)

-- the text of a shape spells it
pub shape_spelled : (w : ThinShape) → IsShape w → IsLawfulPool (pool_of w) → SpellsShape (text_of_shape w) w
unfolding text_of_shape
shape_spelled w shape lawful = record {
  lines = lines_of_shape (head_of_shape w) (map joined_runs w.leaves) (map joined_part w.devices);
  bytes = refl;
  means = record {
    leaves = map joined_runs w.leaves;
    parts = map joined_part w.devices;
    lines_are = refl;
    leaves_are = leaves_joined w.leaves;
    devices_are = devices_joined w.devices;
    leaf_runs = leaves_some w.leaves;
    runs = devices_some w.devices;
    shape = shape;
    lawful = lawful;
  };
}

-- runs of which no two neighbours join are the joined ones of their mappings
leaves_apart : (leaves : List (List Run)) → AllByRecursion HaveMappings leaves → AllByRecursion AreApart leaves → map joined_runs (map mappings_of_runs leaves) ≡ leaves
leaves_apart [] have apart = refl
leaves_apart (runs ∷ leaves) have apart = rw (runs_joined runs have.0 apart.0, leaves_apart leaves have.1 apart.1) refl

pieces_apart : (pieces : List PartPiece) → AllByRecursion HasPieceMappings pieces → AllByRecursion IsPieceApart pieces → map joined_piece (map piece_of_part pieces) ≡ pieces
pieces_apart [] have apart = refl
pieces_apart (own_runs runs ∷ pieces) have apart = rw (runs_joined runs have.0 apart.0, pieces_apart pieces have.1 apart.1) refl
pieces_apart (used_leaf number ∷ pieces) have apart = rw (pieces_apart pieces have.1 apart.1) refl

parts_apart : (parts : List SharedPart) → AllByRecursion HasPartMappings parts → AllByRecursion IsPartApart parts → map joined_part (map device_of_part parts) ≡ parts
parts_apart [] have apart = refl
parts_apart (p ∷ parts) have apart =
    let d : Details = p.details in
    let same : joined_part (device_of_part p) ≡ p = ap (λ (ps : List PartPiece). record { details = d; pieces = ps }) (pieces_apart p.pieces have.0 apart.0) in
    rw (same, parts_apart parts have.1 apart.1) refl

-- a spelling in which no runs join is the shape's text
pub one_shape_text : (text : List ℕ) (w : ThinShape) (s : SpellsShape text w) → AreSharedApart s.means.leaves s.means.parts → text ≡ text_of_shape w
unfolding text_of_shape
one_shape_text text w s apart =
    let means = s.means in
    let leaves : means.leaves ≡ map joined_runs w.leaves = sym (leaves_apart means.leaves means.leaf_runs apart.leaf_runs) ∙ ap (map joined_runs) means.leaves_are in
    let parts : means.parts ≡ map joined_part w.devices = sym (parts_apart means.parts means.runs apart.runs) ∙ ap (map joined_part) means.devices_are in
    s.bytes ∙ ap (text_of_lines pool_format) means.lines_are
    ∙ ap (λ (ls : List (List Run)). text_of_lines pool_format (lines_of_shape (head_of_shape w) ls means.parts)) leaves
    ∙ ap (λ (ps : List SharedPart). text_of_lines pool_format (lines_of_shape (head_of_shape w) (map joined_runs w.leaves) ps)) parts

-- the lines of version 1 aren't of version 2
runs_unshared : (runs : List Run) (tail : List Line) → is_shared (map map_line runs ++ tail) ≡ is_shared tail
runs_unshared [] tail = refl
runs_unshared (r ∷ runs) tail = runs_unshared runs tail

pub parts_unshared : (parts : List Part) → is_shared (flat_map lines_of_part parts ++ (end_line ∷ [])) ≡ false
parts_unshared [] = refl
parts_unshared (p ∷ parts) =
    let tail = flat_map lines_of_part parts ++ (end_line ∷ []) in
    ap is_shared (append_assoc (map map_line p.runs) (flat_map lines_of_part parts) (end_line ∷ [])) ∙ runs_unshared p.runs tail ∙ parts_unshared parts

-- a text of version 1 spells the shape of its pool, and one of version 2 its shape
pub unshared_spelled : (text : List ℕ) (m : ThinPool) → SpellsPool text m → SpellsPoolShape text (shape_of m)
unshared_spelled text m s =
    let version : is_shared s.lines ≡ false = ap is_shared s.means.lines_are ∙ parts_unshared s.means.parts in
    record { lines = s.lines; bytes = s.bytes; means = rw version (record { pool = m; means = s.means; shape_is = refl }) }

pub shared_spelled : (text : List ℕ) (w : ThinShape) → SpellsShape text w → SpellsPoolShape text w
shared_spelled text w s =
    let version = ap is_shared s.means.lines_are in
    record { lines = s.lines; bytes = s.bytes; means = rw version s.means }

-- A meaning's shape without shared leaves.

-- the pieces have the mappings that they were made of
mappings_kept : (mappings : List Mapping) → flat_map (piece_mappings []) (unshared_pieces mappings) ≡ mappings
mappings_kept [] = refl
mappings_kept (m ∷ mappings) = append-nil (m ∷ mappings)

device_kept : (d : ThinDevice) → device_of [] (unshared_device d) ≡ d
device_kept d = rw (mappings_kept d.mappings) refl

devices_kept : (devices : List ThinDevice) → map (device_of []) (map unshared_device devices) ≡ devices
devices_kept [] = refl
devices_kept (d ∷ devices) = rw (device_kept d, devices_kept devices) refl

pub pool_kept : (m : ThinPool) → pool_of (shape_of m) ≡ m
unfolding pool_of shape_of
pool_kept m = rw (devices_kept m.devices) refl

-- each device's pieces are pieces
are_pieces : (mappings : List Mapping) → ArePieces 0 (unshared_pieces mappings)
are_pieces [] = tt
are_pieces (m ∷ mappings) = omega arith

each_pieces : (devices : List ThinDevice) → AllByRecursion (λ (d : ShapeDevice). ArePieces 0 d.pieces) (map unshared_device devices)
each_pieces [] = tt
each_pieces (d ∷ devices) = (are_pieces d.mappings, each_pieces devices)

pub is_shape : (m : ThinPool) → IsShape (shape_of m)
unfolding shape_of
is_shape m = record { numbers_fit = omega arith; filled = tt; few = tt; pieces = each_pieces m.devices; used = λ number below. absurd (omega arith) }

-- The laws of a pool's text of either version: what isn't refused means one shape.

-- lines of version 1 that are read mean the shape of their pool
unshared_if_read : (lines : List Line) → ArePoolLines (first_line ∷ []) lines → (w : ThinShape) × MeansPoolShape (first_line ∷ lines) w
unshared_if_read lines reads =
    let rest = read_from (first_line ∷ shared_first_line ∷ []) (first_line ∷ []) lines (first_line ∷ []) (omega arith) reads in
    let alone : AreLines thin FitsLine Placed [] (first_line ∷ lines) = (refl, (tt, ((refl, refl), (tt, rest)))) in
    let pool = thin_language.means (first_line ∷ lines) alone in
    let version : is_shared (first_line ∷ lines) ≡ false = ap is_shared pool.1.lines_are ∙ parts_unshared pool.1.parts in
    (shape_of pool.0, subst (λ (b : Bool). MeansAs b (first_line ∷ lines) (shape_of pool.0)) (sym version) (record { pool = pool.0; means = pool.1; shape_is = refl }))

-- lines that are read mean a shape
means_if_lines : (lines : List Line) → ArePoolLines [] lines → (w : ThinShape) × MeansPoolShape lines w
means_if_lines [] reads = absurd (true≢false (sym reads))
means_if_lines (first_line ∷ lines) reads = unshared_if_read lines reads.1.1.1.1
means_if_lines (shared_first_line ∷ lines) reads = shape_if_read lines reads.1.1.1.1
means_if_lines (pool_line p ∷ lines) reads = absurd (omega (arith, reads.1.1.0))
means_if_lines (leaf_line l ∷ lines) reads = absurd (omega (arith, reads.1.1.0.0))
means_if_lines (device_line d ∷ lines) reads = absurd (omega (arith, reads.1.1.0))
means_if_lines (use_line n ∷ lines) reads = absurd (omega (arith, reads.1.1.0.0))
means_if_lines (map_line r ∷ lines) reads = absurd (omega (arith, reads.1.1.0.0))
means_if_lines (end_line ∷ lines) reads = absurd (omega (arith, reads.1.1.0))

-- and one only
one_as : (version : Bool) (lines : List Line) (w x : ThinShape) → MeansAs version lines w → MeansAs version lines x → w ≡ x
one_as true lines w x m n = one_shared_meaning lines w x m n
one_as false lines w x m n = m.shape_is ∙ ap shape_of (thin_language.one lines m.pool n.pool m.means n.means) ∙ sym n.shape_is

one_meaning : (lines : List Line) (w x : ThinShape) → MeansPoolShape lines w → MeansPoolShape lines x → w ≡ x
one_meaning lines w x m n = one_as (is_shared lines) lines w x m n

-- the texts of pools in either version
pub pool_language : IsLanguage pool_format MeansPoolShape FitsLine PlacedInPool
pool_language = record { grammar = pool_grammar; means = means_if_lines; lines = lines_if_means; one = one_meaning }

-- the pool of a shape that lines mean is lawful
lawful_as : (version : Bool) (lines : List Line) (w : ThinShape) → MeansAs version lines w → IsLawfulPool (pool_of w)
lawful_as true lines w m = m.lawful
lawful_as false lines w m = subst IsLawfulPool (sym (ap pool_of m.shape_is ∙ pool_kept m.pool)) m.means.lawful

pub meaning_lawful : (text : List ℕ) (m : ThinPool) → SpellsMeaning text m → IsLawfulPool m
meaning_lawful text m s = subst IsLawfulPool s.means (lawful_as (is_shared s.spells.lines) s.spells.lines s.shape s.spells.means)

pub one_pool : (text : List ℕ) (m n : ThinPool) → SpellsMeaning text m → SpellsMeaning text n → m ≡ n
one_pool text m n s t =
    sym s.means ∙ ap pool_of (spells_one pool_format MeansPoolShape FitsLine PlacedInPool pool_language text s.shape t.shape s.spells t.spells) ∙ t.means
