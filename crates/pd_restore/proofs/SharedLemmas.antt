-- What is gathered of a pool's text of version 2.
use Rattle.std.proofs.Common.{◌≡◌, ⊎_elim, ℕ, suc, ◌+◌, ◌<◌, ◌≤◌, ◌^◌, min, Bool, true, false, if◌then◌else◌, List, [], ◌∷◌, length, refl, sym, ◌∙◌, ap, subst, arith, Some, ◌||◌, Result}
use Rattle.std.specs.Prelude.{IfOk, OnOk}
use Rattle.pd_grammar.specs.Spelling.{need_above_room}
use Rattle.pd_grammar.specs.Texts.{has_ended}
use Rattle.pd_grammar.specs.ThinText.{Line, LeafHead, Details, Run, leaf_line, device_line, use_line, map_line, end_line, is_shared, pool_format}
use Rattle.pd_grammar.proofs.ThinRead.{pool_grammar}
use Rattle.pd_grammar.specs.Texts
use Rattle.pd_laid.specs.PoolText.{pool_need_so_far, shape_need_so_far, MeansAs, need_of_shared, shape_need, MeansShape}
use Rattle.pd_laid.specs.Shape.{ThinShape}
use Rattle.pd_draft.specs.Closed.{DraftState, Wrote}
use Rattle.pd_texts.specs.declared.reader.TextFault.{TextFault}
use Rattle.pd_texts.specs.declared.reader.TextReader.{TextReader}
use Rattle.pd_texts.specs.declared.thin_text.ThinLine.{ThinLine}
use Rattle.pd_texts.specs.declared.thin_state.ThinState.{ThinState}
use Rattle.pd_texts.specs.Reader.{IsRefusedAfter, RefusesNext, begun, in_order}
use Rattle.pd_texts.specs.ThinState.{IsLeafLine, IsDeviceLine, IsUseLine, IsRunLine, IsEndLine}
use Rattle.pd_texts.proofs.ThinNextLemmas.{leaf_read, device_read, use_read, run_read, end_read}
use Rattle.pd_texts.specs.declared.reader.ReadFault.TheVariants as c
use Rattle.pd_build.specs.declared.fault.BuildFault.{BuildFault}
use Rattle.pd_devices.proofs.DeviceLemmas.{top}
use Rattle.pd_devices.specs.declared.shared_devices.SharedDevices.{SharedDevices}
use Rattle.pd_devices.specs.SharedGathered.{HasGathered, Gathered, IsGatheredShape, counts_of, details_of, leaves_of, roots_of, uses_counted}
use Rattle.pd_restoring.specs.Reading.{SaysOf}
use Rattle.pd_restoring.proofs.ReadingLemmas.{above_here, refused_says}
use Rattle.pd_restoring.specs.declared.fault.RestoreFault.TheVariants as r
use Rattle.pd_restore.specs.declared.shared.SharedLines.{SharedLines}
use Rattle.pd_restore.specs.Reading.{Follows, HasRoom, Reading, AreParts, HasReadAll, WritesParts, CanWriteParts, HasDevices, Known, shape_behind}
use Rattle.pd_restore.specs.Shared.{HasShared}
use Rattle.pd_restore.proofs.SharedLines.{device_fits, end_needs, few_lines, leaf_fits, map_fits, use_fits}
use Rattle.pd_restore.proofs.UnsharedLines.{firsts}
use Rattle.pd_restore.specs.declared.pool.PoolRoots.{PoolRoots}
use Rattle.pd_restore.proofs.ShapeParts.{whole_written}
use Rattle.pd_restore.proofs.UnsharedParts.{version_in_order}

-- what is needed of lines of version 2
pub need_shared : (room : ℕ) (before : List Line) → is_shared before ≡ true → pool_need_so_far room before ≡ shape_need_so_far room before
need_shared room before version = rw version refl

-- what was gathered of lines that have room
abbrev pub as_gathered : {s : SharedDevices} {start now : DraftState} (before : List Line) (room : ℕ) → HasRoom HasGathered before room s start now → Gathered s now
as_gathered {s} {start} {now} before room h = record {
  room = room;
  before = before;
  start = start;
  gathered = h.gathered;
  need = subst (λ (n : ℕ). n ≤ room) (need_shared room before h.gathered.version) h.need;
  most = h.most;
  there = h.there;
}

-- what the wrapped lines have
abbrev pub bare_follows : {s : SharedLines} {start now : DraftState} (before : List Line) (room : ℕ) (line : Line) → Follows HasShared before room s line start now → Follows HasGathered before room s.devices line start now
bare_follows before room line f = record {
  so_far = record { gathered = f.so_far.gathered.gathered; lines = f.so_far.lines; need = f.so_far.need; most = f.so_far.most; there = f.so_far.there };
  later = f.later;
  lines = f.lines;
}

capped : {n m : ℕ} → n ≤ top → m ≡ n → min n top ≡ m
capped most is = omega (arith, most, is)

-- a line after these ones
module _ {s : SharedDevices} {start now : DraftState} (room : ℕ) (before : List Line) where
  pub leaf_follows : (l : LeafHead) → Follows HasGathered before room s (leaf_line l) start now → IsLeafLine before l
  leaf_follows l f = leaf_read firsts pool_grammar before l f.lines.0

  pub device_follows : (e : Details) → Follows HasGathered before room s (device_line e) start now → IsDeviceLine before e
  device_follows e f = device_read firsts pool_grammar before e f.lines.0

  pub use_follows : (n : ℕ) → Follows HasGathered before room s (use_line n) start now → IsUseLine before n
  use_follows n f = use_read firsts pool_grammar before n f.lines.0

  pub run_follows : (m : Run) → Follows HasGathered before room s (map_line m) start now → IsRunLine before m
  run_follows m f = run_read firsts pool_grammar before m f.lines.0

  pub end_follows : Follows HasGathered before room s end_line start now → IsEndLine before
  end_follows f = end_read firsts pool_grammar before f.lines.0

  lacks : (line : Line) → Follows HasGathered before room s line start now → shape_need_so_far room before ≤ room
  lacks line f = subst (λ (n : ℕ). n ≤ room) (need_shared room before f.so_far.gathered.version) f.so_far.need

  -- what is needed with it is known
  pub leaf_exact : (l : LeafHead) → Follows HasGathered before room s (leaf_line l) start now → min (shape_need_so_far room (leaf_line l ∷ before)) top ≡ pool_need_so_far room (leaf_line l ∷ before)
  leaf_exact l f =
      capped (leaf_fits room before f.so_far.lines f.lines.0.going (lacks (leaf_line l) f) f.so_far.most l) (need_shared room (leaf_line l ∷ before) f.so_far.gathered.version)

  pub device_exact : (e : Details) → Follows HasGathered before room s (device_line e) start now → min (shape_need_so_far room (device_line e ∷ before)) top ≡ pool_need_so_far room (device_line e ∷ before)
  device_exact e f =
      capped (device_fits room before f.so_far.lines f.lines.0.going (lacks (device_line e) f) f.so_far.most e) (need_shared room (device_line e ∷ before) f.so_far.gathered.version)

  pub use_exact : (n : ℕ) → Follows HasGathered before room s (use_line n) start now → min (shape_need_so_far room (use_line n ∷ before)) top ≡ pool_need_so_far room (use_line n ∷ before)
  use_exact n f =
      capped (use_fits room before f.so_far.lines f.lines.0.going (lacks (use_line n) f) f.so_far.most n) (need_shared room (use_line n ∷ before) f.so_far.gathered.version)

  pub run_exact : (m : Run) → Follows HasGathered before room s (map_line m) start now → min (shape_need_so_far room (map_line m ∷ before)) top ≡ pool_need_so_far room (map_line m ∷ before)
  run_exact m f =
      let most : m.length ≤ 2 ^ 64 = omega (arith, (run_follows m f).virtual_fits) in
      capped (map_fits room before f.so_far.lines f.lines.0.going (lacks (map_line m) f) f.so_far.most m most) (need_shared room (map_line m ∷ before) f.so_far.gathered.version)

  -- a run for which there is room
  pub run_fits : (m : Run) (needed : ℕ) → Follows HasGathered before room s (map_line m) start now → needed ≡ min (shape_need_so_far room (map_line m ∷ before)) top → needed ≤ room
      → shape_need_so_far room (map_line m ∷ before) ≤ room
  run_fits m needed f is within = omega (arith, is, within, f.so_far.most)

-- a text that has room has few lines
pub few_after : {s : SharedLines} {start now : DraftState} (room : ℕ) (before : List Line) (line : Line) → Follows HasShared before room s line start now → length before < 2 ^ 62
few_after room before line f =
    few_lines room before f.so_far.lines f.lines.0.going (subst (λ (n : ℕ). n ≤ room) (need_shared room before f.so_far.gathered.gathered.version) f.so_far.need) f.so_far.most

-- what the end needs, where the last device has no piece, and where it has some
module _ {s : SharedLines} {start now : DraftState} (room needed : ℕ) where
  at_end : (before : List Line) (b : Bool) → HasShared room before s start now → has_ended pool_format before ≡ false → s.lacks_pieces ≡ b
      → shape_need_so_far room (end_line ∷ before) ≡ shape_need_so_far room before + (if b then 1 else 0)
  at_end before b h going is = end_needs room before going ∙ ap (λ (b : Bool). shape_need_so_far room before + (if b then 1 else 0)) (sym h.last ∙ is)

  shared_lacks : (before : List Line) → HasShared room before s start now → pool_need_so_far room before ≤ room → shape_need_so_far room before ≤ room
  shared_lacks before h need = subst (λ (n : ℕ). n ≤ room) (need_shared room before h.gathered.version) need

  pub end_exact_with : (more : ℕ) (before : List Line) → HasShared room before s start now → has_ended pool_format before ≡ false → pool_need_so_far room before ≤ room → room ≤ 4161600
      → needed ≡ min (shape_need_so_far room before) top → s.lacks_pieces ≡ true → more ≡ min (needed + 1) top → more ≡ pool_need_so_far room (end_line ∷ before)
  end_exact_with more before h going need most is lacking added =
      let last = at_end before true h going lacking in
      let exact : more ≡ shape_need_so_far room (end_line ∷ before) = omega (arith, last, shared_lacks before h need, most, is, added) in
      exact ∙ sym (need_shared room (end_line ∷ before) h.gathered.version)

  pub end_exact_without : (before : List Line) → HasShared room before s start now → has_ended pool_format before ≡ false → pool_need_so_far room before ≤ room → room ≤ 4161600
      → needed ≡ min (shape_need_so_far room before) top → s.lacks_pieces ≡ false → needed ≡ pool_need_so_far room (end_line ∷ before)
  end_exact_without before h going need most is lacking =
      let last = at_end before false h going lacking in
      let exact : needed ≡ shape_need_so_far room (end_line ∷ before) = omega (arith, last, shared_lacks before h need, most, is) in
      exact ∙ sym (need_shared room (end_line ∷ before) h.gathered.version)

-- how many lines were taken
pub taken_lines : (before : List Line) (lines more : ℕ) → lines ≡ length before → more ≡ min (lines + 1) top → length before < 2 ^ 62 → more ≡ suc (length before)
taken_lines before lines more is added few = omega (arith, is, added, few)

begun_same : (first : Line) (before : List Line) → 1 ≤ length before → begun first before ≡ before
begun_same first [] some = absurd (omega arith)
begun_same first (line ∷ before) some = refl

-- what a refusal says, behind the last line and before
module _ (room : ℕ) (before : List Line) (text : TextReader ThinState ThinLine) (s : SharedLines) (start now : DraftState) (h : Reading HasShared before room text s start now) (first : Line) (t : List ℕ) (fault : TextFault)
    (refuses : RefusesNext pool_format first end_line t before (c.Text fault)) where
  same : begun first before ≡ before
  same = begun_same first before (omega (arith, h.later))

  few : length before < 2 ^ 62
  few = few_lines room before h.so_far.lines h.reads.going (subst (λ (n : ℕ). n ≤ room) (need_shared room before h.so_far.gathered.gathered.version) h.so_far.need) h.so_far.most

  pub behind_says : (needed : ℕ) → length before + 1 < fault.line → room < needed → needed ≡ pool_need_so_far room (end_line ∷ before)
      → SaysOf pool_format pool_need_so_far room t (r.NoRoom needed room)
  behind_says needed behind short is =
      ⊎_elim (λ here. absurd (omega (arith, here.number, behind)))
      (⊎_elim (λ second. absurd (early (rw same at second)))
      (λ end. ends (rw same at end))) refuses
    where
      early : IsRefusedAfter pool_format t before fault → ⊥
      early here = omega (arith, here.number, behind)

      ends : IsRefusedAfter pool_format t (end_line ∷ before) fault → SaysOf pool_format pool_need_so_far room t (r.NoRoom needed room)
      ends end = (
        ap (λ (reading : Texts.Reading Line). need_above_room (pool_need_so_far room) room [] reading.lines) end.is
            ∙ (above_here pool_need_so_far room before [] end_line h.above (omega (arith, h.later)) (omega (arith, short, is)) ∙ ap (λ n. Some n) (sym is)),
        refl,
      )

  pub before_says : fault.line ≤ length before + 1 → SaysOf pool_format pool_need_so_far room t (r.Text fault)
  before_says within =
      ⊎_elim (λ here. refused_says pool_format pool_need_so_far room t before fault h.above here)
      (⊎_elim (λ second. refused_says pool_format pool_need_so_far room t before fault h.above (rw same at second))
      (λ end. absurd (late (rw same at end)))) refuses
    where
      late : IsRefusedAfter pool_format t (end_line ∷ before) fault → ⊥
      late end = omega (arith, end.number, within, few)

-- so many lines were read
pub few_lines_before : (room : ℕ) (before : List Line) (text : TextReader ThinState ThinLine) (s : SharedLines) (start now : DraftState) → Reading HasShared before room text s start now → length before < 2 ^ 62
few_lines_before room before text s start now h =
    few_lines room before h.so_far.lines h.reads.going (subst (λ (n : ℕ). n ≤ room) (need_shared room before h.so_far.gathered.gathered.version) h.so_far.need) h.so_far.most

-- What all lines of a pool's text of version 2 mean is written.

leaves_within : (w : ThinShape) (room : ℕ) → length w.leaves ≤ shape_need w room
unfolding shape_need need_of_shared
leaves_within w room = omega arith

-- what is known of devices that share leaves
abbrev pub known_of : SharedDevices → Known
known_of s = record { roots = roots_of s; details = details_of s; counts = counts_of s; leaves = leaves_of s; uses = uses_counted s }

has_devices : (w : ThinShape) (s : SharedDevices) (start now : DraftState) → IsGatheredShape w s start now → HasDevices w (known_of s) start now
has_devices w s start now h = record {
  shape = h.shape;
  lawful = h.lawful;
  begin = h.begin;
  written = h.written;
  roots = h.roots;
  details = h.details;
  roots_fit = h.roots_fit;
  details_fit = h.details_fit;
  counted = h.counted;
  size = h.size;
  leaves = h.leaves;
  uses = h.uses;
}

module _ (room : ℕ) (lines : List Line) (s : SharedLines) (start now : DraftState) (h : HasReadAll HasShared lines room s start now)
    (found : (w : ThinShape) × (MeansShape (in_order lines []) w × (IsGatheredShape w s.devices start now × ((shape_need_so_far room lines ≡ shape_need w room) × ((uses_counted s.devices).size ≡ room))))) where
  has_room : shape_need found.0 room ≤ room
  has_room =
      let need : shape_need_so_far room lines ≤ room = subst (λ (n : ℕ). n ≤ room) (need_shared room lines h.all.gathered.gathered.version) h.all.need in
      omega (arith, need, found.1.1.1.0)

  used : leaves_of s.devices ≤ (uses_counted s.devices).size
  used = omega (arith, found.1.1.0.leaves, leaves_within found.0 room, has_room, found.1.1.1.1)

  devices : HasDevices found.0 (known_of s.devices) start now
  devices = has_devices found.0 s.devices start now found.1.1.0

  -- its parts may be written
  pub can_write_parts : CanWriteParts (known_of s.devices) room now
  can_write_parts = record { shape = found.0; start = start; devices = devices; need = has_room; most = h.all.most; there = h.all.there; used = used }

  version : is_shared (in_order lines []) ≡ true
  version = version_in_order lines [] ∙ ap (λ (b : Bool). b || false) h.all.gathered.gathered.version

  -- and then they are
  pub parts_written : (to : DraftState) (result : Result PoolRoots BuildFault)
      → ((w : ThinShape) (start : DraftState) → HasDevices w (known_of s.devices) start now → shape_need w room ≤ room → OnOk result (Wrote (shape_behind w room) start to))
      → ((w : ThinShape) (start : DraftState) → HasDevices w (known_of s.devices) start now → shape_need w room ≤ room → IfOk result (AreParts w room))
      → IfOk result (WritesParts lines room start to)
  parts_written to result wrote named =
      whole_written found.0 (known_of s.devices) start now to room lines devices (subst (λ (b : Bool). MeansAs b (in_order lines []) found.0) (sym version) found.1.0)
      has_room h.all.most result (wrote found.0 start devices has_room) (named found.0 start devices has_room)
