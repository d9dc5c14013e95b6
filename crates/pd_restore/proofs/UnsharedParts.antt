-- What all lines of a pool's text of version 1 mean is written.
use Rattle.std.proofs.Common.{◌≡◌, ℕ, ◌≤◌, Bool, true, false, ◌||◌, List, [], ◌∷◌, refl, sym, ◌∙◌, ap, subst, arith, Result, Option, Ok, Err}
use Rattle.std.specs.Prelude.{IfOk, OnOk}
use Rattle.pd_kinds.specs.Meaning.{ThinPool}
use Rattle.pd_kinds.specs.declared.block.Block.{Block}
use Rattle.pd_kinds.specs.ThinFormat.{thin_super_block}
use Rattle.pd_grammar.specs.Lawful.{IsLawfulPool}
use Rattle.pd_grammar.specs.Need.{thin_need, thin_need_so_far}
use Rattle.pd_grammar.specs.ThinText.{Line, first_line, shared_first_line, pool_line, leaf_line, device_line, use_line, map_line, end_line, MeansPool, is_shared, pool_format, Head}
use Rattle.pd_grammar.proofs.ThinRead.{FitsLine, PlacedInPool, pool_grammar}
use Rattle.pd_grammar.specs.Texts.{reading, text_of_lines, whole}
use Rattle.pd_grammar.proofs.GrammarLemmas.{is_reader}
use Rattle.pd_laid.specs.Shape.{ThinShape, shape_of}
use Rattle.pd_laid.specs.PoolText.{shape_need, MeansAs, MeansPoolShape, MeansUnshared, head_of_shape}
use Rattle.pd_laid.proofs.ShapeText.{pool_language}
use Rattle.pd_laid.specs.Laid.{written_from}
use Rattle.pd_laid.specs.LaidThin.{laid_shape, pool_fields}
use Rattle.pd_draft.specs.Closed.{DraftState, Wrote}
use Rattle.pd_count.specs.Counted.{Counted, HasCounted}
use Rattle.pd_texts.specs.Reader.{in_order, IsWhole}
use Rattle.pd_texts.proofs.LawLemmas as any
use Rattle.pd_build.specs.declared.fault.BuildFault.{BuildFault}
use Rattle.pd_devices.specs.declared.devices.Devices.{Devices}
use Rattle.pd_restoring.specs.declared.fault.RestoreFault.{RestoreFault}
use Rattle.pd_restoring.specs.Restored.{Writes}
use Rattle.pd_restore.specs.declared.pool.PoolRoots.{PoolRoots}
use Rattle.pd_restore.specs.Reading.{AreParts, HasReadAll, WritesParts, HasUnshared, CanWriteParts, HasDevices, shape_behind}
use Rattle.pd_restore.proofs.ShapeParts.{whole_written}
use Rattle.pd_restore.proofs.LineLemmas.{devices_of_lines, known_of, whole_need}
use Rattle.pd_restore.proofs.UnsharedLines.{need_is}
use Rattle.pd_restore.specs.declared.thin.Rest.{Rest}
use Rattle.pd_restore.specs.Pools.{LeavesBefore, pools}
use Rattle.pd_restore.specs.Whole.{head_of_pool, fields_of}
use Rattle.pd_salvage.specs.declared.saved.SavedHead.{SavedHead}

-- the version of lines in their order is that of the lines with the newest first
shared_after : (line : Line) (lines : List Line) (b : Bool) → (b || is_shared (line ∷ lines)) ≡ ((is_shared (line ∷ []) || b) || is_shared lines)
shared_after first_line lines b = refl
shared_after shared_first_line lines b = or_true b
  where
    or_true : (b : Bool) → (b || true) ≡ true
    or_true true = refl
    or_true false = refl
shared_after (pool_line p) lines b = refl
shared_after (leaf_line l) lines b = refl
shared_after (device_line d) lines b = refl
shared_after (use_line n) lines b = refl
shared_after (map_line r) lines b = refl
shared_after end_line lines b = refl

shared_with : (line : Line) (before : List Line) → is_shared (line ∷ before) ≡ (is_shared (line ∷ []) || is_shared before)
shared_with first_line before = refl
shared_with shared_first_line before = refl
shared_with (pool_line p) before = refl
shared_with (leaf_line l) before = refl
shared_with (device_line d) before = refl
shared_with (use_line n) before = refl
shared_with (map_line r) before = refl
shared_with end_line before = refl

pub version_in_order : (before lines : List Line) → is_shared (in_order before lines) ≡ (is_shared before || is_shared lines)
version_in_order [] lines = refl
version_in_order (line ∷ before) lines =
    version_in_order before (line ∷ lines) ∙ shared_after line lines (is_shared before) ∙ ap (λ (b : Bool). b || is_shared lines) (sym (shared_with line before))

module _ (room : ℕ) (lines : List Line) (s : Devices) (uses : Counted) (start now : DraftState) (h : HasReadAll HasUnshared lines room s start now) (none : HasCounted uses [])
    (need_of : (m : ThinPool) (room : ℕ) → IsLawfulPool m → shape_need (shape_of m) room ≡ thin_need m room) where
  version : is_shared (in_order lines []) ≡ false
  version = version_in_order lines [] ∙ ap (λ (b : Bool). b || false) h.all.gathered.version

  -- they mean a pool without shared leaves
  unshared : (m : ThinPool) × MeansPool (in_order lines []) m
  unshared =
      let found = any.read_lines_mean pool_format MeansPoolShape FitsLine PlacedInPool pool_language lines h.all.lines h.ended in
      let means : MeansUnshared (in_order lines []) found.0 = subst (λ (b : Bool). MeansAs b (in_order lines []) found.0) version found.1 in
      (means.pool, means.means)

  abbrev pool : ThinPool
  pool = unshared.0

  has_room : shape_need (shape_of pool) room ≤ room
  has_room =
      let lacks : thin_need_so_far room lines ≤ room = subst (λ (n : ℕ). n ≤ room) (need_is room lines h.all.gathered.version) h.all.need in
      omega (arith, need_of pool room unshared.1.lawful, whole_need lines pool room unshared.1, lacks)

  devices : HasDevices (shape_of pool) (known_of s uses) start now
  devices = devices_of_lines lines pool s uses h.all.gathered unshared.1 none

  -- its parts may be written
  pub can_write_parts : CanWriteParts (known_of s uses) room now
  can_write_parts = record { shape = shape_of pool; start = start; devices = devices; need = has_room; most = h.all.most; there = h.all.there; used = omega arith }

  -- and then they are
  pub parts_written : (to : DraftState) (result : Result PoolRoots BuildFault)
      → ((w : ThinShape) (start : DraftState) → HasDevices w (known_of s uses) start now → shape_need w room ≤ room → OnOk result (Wrote (shape_behind w room) start to))
      → ((w : ThinShape) (start : DraftState) → HasDevices w (known_of s uses) start now → shape_need w room ≤ room → IfOk result (AreParts w room))
      → IfOk result (WritesParts lines room start to)
  parts_written to result wrote named =
      whole_written (shape_of pool) (known_of s uses) start now to room lines devices
      (subst (λ (b : Bool). MeansAs b (in_order lines []) (shape_of pool)) (sym version) (record { pool = pool; means = unshared.1; shape_is = refl }))
      has_room h.all.most result (wrote (shape_of pool) start devices has_room) (named (shape_of pool) start devices has_room)

-- A pool from its own line on.

-- the superblock's fields are those of the laid shape
pub fields_are : (p : SavedHead) (parts : PoolRoots) (room : ℕ) (w : ThinShape) → head_of_pool p ≡ head_of_shape w → AreParts w room parts → fields_of p parts room ≡ pool_fields w room
unfolding pool_fields
fields_are p parts room w head are =
    let uuid : p.uuid ≡ w.uuid = ap (λ (h : Head). h.uuid) head in
    let time : p.time ≡ w.time = ap (λ (h : Head). h.time) head in
    let transaction : p.transaction ≡ w.transaction = ap (λ (h : Head). h.transaction) head in
    let size : p.block_size ≡ w.block_size = ap (λ (h : Head). h.block_size) head in
    rw (uuid, time, transaction, size, are.mapping_root, are.details_root, are.data_map, are.meta_map) refl

-- a shape that is written but for its superblock is laid so
pub super_is : (w : ThinShape) (room : ℕ) → (laid_shape w room).super_block ≡ thin_super_block (pool_fields w room)
unfolding laid_shape
super_is w room = refl

pub behind_is : (w : ThinShape) (room : ℕ) → written_from 1 (laid_shape w room).blocks ≡ shape_behind w room
unfolding laid_shape
behind_is w room = refl

-- a text of which no line is refused is that of its lines
pub whole_bytes : (text : List ℕ) (lines : List Line) → reading pool_format text ≡ whole lines → text ≡ text_of_lines pool_format lines
whole_bytes = any.whole_bytes pool_format (is_reader pool_format FitsLine PlacedInPool pool_grammar)

-- the pool line of lines that mean a shape
abbrev head_in : List Line → Head → Head
head_in (line ∷ pool_line q ∷ lines) other = q
head_in _ other = other

head_as : (shared : Bool) (lines : List Line) (w : ThinShape) (other : Head) → MeansAs shared lines w → head_in lines other ≡ head_of_shape w
unfolding shape_of
head_as true lines w other means = ap (λ (ls : List Line). head_in ls other) means.lines_are
head_as false lines w other means = ap (λ (ls : List Line). head_in ls other) means.means.lines_are ∙ ap head_of_shape (sym means.shape_is)

pub head_is : (first : Line) (p : Head) (later lines : List Line) (w : ThinShape) → MeansPoolShape (in_order lines []) w
    → in_order lines [] ≡ in_order (pool_line p ∷ first ∷ []) later → p ≡ head_of_shape w
head_is first p later lines w means front =
    ap (λ (ls : List Line). head_in ls p) (sym front) ∙ head_as (is_shared (in_order lines [])) (in_order lines []) w p means

-- what is written of those lines is of each text that has them
pub writes_of : (lines : List Line) (room : ℕ) (left : Option (List ℕ)) (start now : DraftState) (IsOf : List ℕ → Type 0) → ((t : List ℕ) → IsOf t → IsWhole pool_format t lines left)
    → (result : Result Block RestoreFault) → IfOk result (Writes pools room (λ t. IsWhole pool_format t lines left) left start now) → IfOk result (Writes pools room IsOf left start now)
writes_of lines room left start now IsOf of (Err fault) w = tt
writes_of lines room left start now IsOf of (Ok block) w = record {
  meaning = w.meaning;
  lawful = w.lawful;
  fits = w.fits;
  super_is = w.super_is;
  wrote = w.wrote;
  told = λ t is. w.told t (of t is);
}

-- and is the same under each name of what gives the lines
pub rest_writes : (p : SavedHead) (named rest : Rest) (room : ℕ) (was left : Option (List ℕ)) (start now : DraftState) (result : Result Block RestoreFault) → named ≡ rest
    → IfOk result (Writes pools room (λ t. LeavesBefore t p rest was) left start now) → IfOk result (Writes pools room (λ t. LeavesBefore t p named was) left start now)
rest_writes p named rest room was left start now result is w =
    subst (λ (other : Rest). IfOk result (Writes pools room (λ t. LeavesBefore t p other was) left start now)) (sym is) w
