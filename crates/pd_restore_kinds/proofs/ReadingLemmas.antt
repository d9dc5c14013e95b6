-- A text that is read and restored, line by line.
use Rattle.std.proofs.Common.{◌≡◌, ℕ, ◌+◌, ◌≤◌, List, [], ◌∷◌, ◌++◌, length, append_assoc, refl, sym, ◌∙◌, ap, subst, arith, length-append, add-one, ◌<◌, Bool, true, false, Option, Result, Ok, Err}
use Rattle.std.specs.List.{flat_map}
use Rattle.std.proofs.lemmas.List.{append-nil}
use Rattle.std.specs.Prelude.{IfOk, OnOk}
use Rattle.pd_kinds.specs.Meaning.{EraMeaning}
use Rattle.pd_grammar.specs.EraText.{Line, Head, Stretch, first_line, era_line, run_line, end_line, blocks_of, run_lines, eras_of, head_of, MeansEra, need_of_era, era_need, era_need_so_far, eras_from, era}
use Rattle.pd_grammar.specs.Need.{need_array}
use Rattle.pd_grammar.proofs.EraLaws.{eras_length}
use Rattle.pd_laid.specs.Laid.{laid_number, array_root}
use Rattle.pd_laid.specs.LaidEra.{era_laid_fields, laid_era}
use Rattle.pd_draft.specs.Closed.{DraftState, IsClosed}
use Rattle.pd_texts.specs.Reader.{in_order, IsReadAfter, AreReadSoFar, ReadsOn, LeavesOf, IsWhole}
use Rattle.pd_texts.specs.declared.reader.TextReader.{TextReader}
use Rattle.pd_texts_kinds.proofs.EraLemmas.{eras_more as eras_suc, era_read, run_read, end_read}
use Rattle.pd_texts_kinds.specs.declared.era_lines.EraLine.{EraLine}
use Rattle.pd_texts_kinds.specs.declared.era_state.EraState.{EraState}
use Rattle.pd_texts_kinds.specs.EraLine.{line_of, EraStands}
use Rattle.pd_texts_kinds.specs.declared.era_lines.EraLine.TheVariants as v
use Rattle.pd_build.specs.Array.{ArrayLeft, Pushes, array_blocks, array_left, array_number, array_root_left}
use Rattle.pd_build.specs.Building.{IsFilling}
use Rattle.pd_build.proofs.ArrayLemmas.{filling_start, filling_next}
use Rattle.pd_restoring.specs.declared.fault.RestoreFault.{RestoreFault}
use Rattle.pd_restoring.proofs.ReadingLemmas.{above_next}
use Rattle.pd_restore_kinds.specs.declared.era.Target.{Target}
use Rattle.pd_restore_kinds.specs.declared.target.EraRoots.{EraRoots}
use Rattle.pd_restore_kinds.specs.EraRoots.{head_of_target, HasEras, AreParts, fields_of, begun_lines}
use Rattle.pd_restore_kinds.specs.EraReading.{HasGathered, eras_in, HasPut, MayFollow, Reading, StepsEras}
use Rattle.pd_laws_laid.proofs.NeedLemmas.{era_takes_need}

-- What the lines of an era target's text come to.

-- lines behind others, of which the newest comes first
abbrev pushed : List Line → List Line → List Line
pushed before [] = before
pushed before (line ∷ lines) = pushed (line ∷ before) lines

pushed-in_order : (before lines : List Line) → pushed [] (in_order before lines) ≡ pushed before lines
pushed-in_order [] lines = refl
pushed-in_order (line ∷ before) lines = pushed-in_order before (line ∷ lines)

-- the eras and the blocks of stretches
stretches_eras : (first : ℕ) (stretches : List Stretch) (before : List Line)
    → eras_in (pushed before (run_lines first stretches ++ end_line ∷ [])) ≡ eras_in before ++ flat_map eras_of stretches
stretches_eras first [] before = sym (append-nil (eras_in before))
stretches_eras first (s ∷ stretches) before =
    stretches_eras (first + s.length) stretches (run_line (record { first = first; length = s.length; era = s.era }) ∷ before)
    ∙ append_assoc (eras_in before) (eras_of s) (flat_map eras_of stretches)

stretches_blocks : (first : ℕ) (stretches : List Stretch) (before : List Line) → blocks_of (pushed before (run_lines first stretches ++ end_line ∷ [])) ≡ blocks_of before
stretches_blocks first [] before = refl
stretches_blocks first (s ∷ stretches) before =
    stretches_blocks (first + s.length) stretches (run_line (record { first = first; length = s.length; era = s.era }) ∷ before)

-- the lines of a target, the newest first
lines_are : (lines : List Line) (m : EraMeaning) (means : MeansEra (in_order lines []) m)
    → lines ≡ pushed (era_line (head_of m) ∷ first_line ∷ []) (run_lines 0 means.stretches ++ end_line ∷ [])
lines_are lines m means = sym (pushed-in_order lines []) ∙ ap (pushed []) means.lines_are

eras_are : (lines : List Line) (m : EraMeaning) → MeansEra (in_order lines []) m → eras_in lines ≡ m.eras
eras_are lines m means = ap eras_in (lines_are lines m means) ∙ (stretches_eras 0 means.stretches (era_line (head_of m) ∷ first_line ∷ []) ∙ means.eras)

blocks_are : (lines : List Line) (m : EraMeaning) → MeansEra (in_order lines []) m → blocks_of lines ≡ m.blocks
blocks_are lines m means = ap blocks_of (lines_are lines m means) ∙ stretches_blocks 0 means.stretches (era_line (head_of m) ∷ first_line ∷ [])

-- so what was put of all lines of a target are its eras
pub eras_of_lines : {array : ArrayLeft} {start now : DraftState} (lines : List Line) (m : EraMeaning) → HasGathered lines array start now → array.words.left ≡ 0 → start.place ≡ 1
    → MeansEra (in_order lines []) m → HasEras m array start now
eras_of_lines {array} {start} {now} lines m h covered begin means = record {
  one_each = means.lawful.one_each;
  begin = begin;
  filling =
      subst (λ (all : List ℕ). IsFilling 4 all [] array start now) (append-nil (eras_in lines) ∙ eras_are lines m means) (h.put.filling [] (sym covered));
}

-- the need after all lines is that of their target
pub whole_need : (lines : List Line) (m : EraMeaning) (room : ℕ) → MeansEra (in_order lines []) m → era_need_so_far room lines ≡ era_need m room
whole_need lines m room means = ap (λ (blocks : ℕ). need_of_era blocks room) (blocks_are lines m means)

-- and so many blocks it takes
pub number_fits : (m : EraMeaning) (room : ℕ) → m.blocks ≡ length m.eras → era_need m room ≤ room → room ≤ 4161600 → laid_number (laid_era m room) ≤ room
number_fits m room one need most = omega (arith, era_takes_need m one room (omega (arith, need, most)), need)

-- the era line of lines that begin with it
abbrev head_in : List Line → Head → Head
head_in (first_line ∷ era_line q ∷ lines) other = q
head_in _ other = other

pub head_is : (h : Head) (later lines : List Line) (m : EraMeaning) → MeansEra (in_order lines []) m
    → ((others : List Line) → in_order lines others ≡ in_order (era_line h ∷ first_line ∷ []) (later ++ others)) → h ≡ head_of m
head_is h later lines m means front = ap (λ (ls : List Line). head_in ls h) (sym (front []) ∙ means.lines_are)

-- the superblock's fields are those of the laid target
pub fields_are : (t : Target) (parts : EraRoots) (room : ℕ) (m : EraMeaning) → head_of_target t ≡ head_of m → AreParts m room parts → fields_of t parts ≡ era_laid_fields m room
unfolding era_laid_fields
fields_are t parts room m head are =
    let uuid : t.uuid ≡ m.uuid = ap (λ (h : Head). h.uuid) head in
    let size : t.block_size ≡ m.block_size = ap (λ (h : Head). h.block_size) head in
    let blocks : t.blocks ≡ m.blocks = ap (λ (h : Head). h.blocks) head in
    let current : t.era ≡ m.era = ap (λ (h : Head). h.era) head in
    rw (uuid, size, blocks, current, are.meta_map, are.writesets_root, are.array_root) refl

-- Eras that are put into the array.

pub eras_more : (e n : ℕ) → eras_from e (n + 1) ≡ eras_from e n ++ (e ∷ [])
eras_more e n = ap (eras_from e) (add-one n) ∙ eras_suc e n

-- one era more was put
pub put_next : {old new : ArrayLeft} {start now to : DraftState} (eras : List ℕ) (blocks e : ℕ) → HasPut eras blocks old start now → new.size ≡ old.size
    → Pushes old.size e old.words new.words now to → HasPut (eras ++ (e ∷ [])) blocks new start to
put_next {old} {new} {start} {now} {to} eras blocks e h same pushes =
    let p : Pushes 4 e old.words new.words now to = subst (λ (size : ℕ). Pushes size e old.words new.words now to) h.sized pushes in
    record {
      sized = same ∙ h.sized;
      number = omega (arith, h.number, p.number, length-append eras (e ∷ []));
      room = p.room ∙ h.room;
      stood = p.stood h.stood;
      filling = λ others count.
          let all : eras ++ (e ∷ others) ≡ (eras ++ (e ∷ [])) ++ others = sym (append_assoc eras (e ∷ []) others) in
          let before : IsFilling 4 ((eras ++ (e ∷ [])) ++ others) (e ∷ others) old start now =
          subst (λ (words : List ℕ). IsFilling 4 words (e ∷ others) old start now) all (h.filling (e ∷ others) (omega (arith, count, p.number))) in
          filling_next before same p;
    }

-- and so on through a run
pub put_more : {array : ArrayLeft} {start now : DraftState} (eras : List ℕ) (blocks e n : ℕ) → HasPut ((eras ++ eras_from e n) ++ (e ∷ [])) blocks array start now
    → HasPut (eras ++ eras_from e (n + 1)) blocks array start now
put_more {array} {start} {now} eras blocks e n h =
    subst (λ (all : List ℕ). HasPut all blocks array start now) (append_assoc eras (eras_from e n) (e ∷ []) ∙ ap (λ (rest : List ℕ). eras ++ rest) (sym (eras_more e n))) h

pub put_none : {array : ArrayLeft} {start now : DraftState} (eras : List ℕ) (blocks : ℕ) → HasPut eras blocks array start now → HasPut (eras ++ []) blocks array start now
put_none {array} {start} {now} eras blocks h = subst (λ (all : List ℕ). HasPut all blocks array start now) (sym (append-nil eras)) h

-- before the first era
pub put_start : {array : ArrayLeft} {start : DraftState} (blocks : ℕ) → IsClosed start.device → array.size ≡ 4 → array.words.left ≡ blocks → array.words.made ≡ 0
    → ((place : ℕ) (words : List ℕ) → length words ≡ blocks → array_left 4 place array.words words ≡ array_blocks 4 place words)
    → ((place : ℕ) (words : List ℕ) → length words ≡ blocks → array_root_left 4 place array.words words ≡ array_root 4 place words)
    → array_number 4 array.words ≡ need_array 4 blocks → HasPut [] blocks array start start
put_start {array} {start} blocks closed size left made whole root number = record {
  sized = size;
  number = omega (arith, left);
  room = ap (λ (n : ℕ). start.place + n) number;
  stood = omega (arith, made);
  filling = λ others count.
      let all : length others ≡ blocks = count ∙ left in
      filling_start others array closed size (whole start.place others all) (root start.place others all) (sym count) (number ∙ ap (need_array 4) (sym all)) made;
}

-- what the lines of a text say of each other
pub era_after : (before : List Line) (line : EraLine) (uuid : List ℕ) (block_size blocks current : ℕ) → line ≡ v.Era uuid block_size blocks current → 2 ≤ length before
    → IsReadAfter era before (line_of line) → ⊥
era_after before line uuid block_size blocks current is later after =
    let one = (era_read before (record { uuid = uuid; block_size = block_size; blocks = blocks; era = current }) (rw is at after)).second in omega arith

-- the array is among what is needed
array_within : (blocks room : ℕ) → 1 + need_array 4 blocks ≤ need_of_era blocks room
unfolding need_of_era
array_within blocks room = omega arith

pub run_follows : {array : ArrayLeft} {start now : DraftState} (before : List Line) (line : EraLine) (first n e room : ℕ) → line ≡ v.Run first n e → HasGathered before array start now
    → IsReadAfter era before (line_of line) → start.place ≡ 1 → era_need_so_far room before ≤ room → room ≤ now.device.blocks → MayFollow n array now
run_follows {array} {start} {now} before line first n e room is h after begin need there =
    let one = run_read before (record { first = first; length = n; era = e }) (rw is at after) in
    record {
      eras = eras_in before;
      blocks = blocks_of before;
      start = start;
      put = h.put;
      most = omega (arith, one.follows, one.within, h.put.number, h.ends);
      there = omega (arith, array_within (blocks_of before) room, begin, need, there);
    }

pub run_gathered : {old new : ArrayLeft} {start now to : DraftState} (before : List Line) (line : EraLine) (first n e : ℕ) → line ≡ v.Run first n e → HasGathered before old start now
    → IsReadAfter era before (line_of line) → HasPut (eras_in (run_line (record { first = first; length = n; era = e }) ∷ before)) (blocks_of before) new start to
    → HasGathered (line_of line ∷ before) new start to
run_gathered before line first n e is h after put =
    let one = run_read before (record { first = first; length = n; era = e }) (rw is at after) in
    rw is (record { put = put; ends = omega (arith, one.follows, h.ends, length-append (eras_in before) (eras_from e n), eras_length e n) })

-- a line more that needs no more
same_blocks : (before : List Line) (line : EraLine) → 2 ≤ length before → IsReadAfter era before (line_of line) → blocks_of (line_of line ∷ before) ≡ blocks_of before
same_blocks before (v.Era uuid block_size blocks current) later after = absurd (era_after before (v.Era uuid block_size blocks current) uuid block_size blocks current refl later after)
same_blocks before (v.Run first n e) later after = refl

-- a step that took a line
pub stepped : (result : Result Bool RestoreFault) (before : List Line) (line : EraLine) (room : ℕ) (old text : TextReader EraState EraLine) (was left : Option (List ℕ)) (s t : ArrayLeft) (start now to : DraftState)
    → Reading before room old s start now → to.device.blocks ≡ now.device.blocks → ReadsOn era EraStands (line_of line ∷ before) text
    → ((x : List ℕ) → LeavesOf era x before old was → LeavesOf era x (line_of line ∷ before) text left)
    → IfOk result (λ more. more ≡ true) → OnOk result (HasGathered (line_of line ∷ before) t start to)
    → IfOk result (λ more. StepsEras more before room old was text left t start to)
stepped (Err fault) before line room old text was left s t start now to h blocks reads told more gathered = tt
stepped (Ok more) before line room old text was left s t start now to h blocks reads told is gathered =
    let within : era_need_so_far room (line_of line ∷ before) ≤ room =
    omega (arith, ap (λ (n : ℕ). need_of_era n room) (same_blocks before line h.later reads.so_far.lines.0), h.need) in
    rw is (
      line_of line,
      (
        record {
          reads = reads;
          later = omega (arith, h.later);
          gathered = gathered;
          begin = h.begin;
          need = within;
          above = above_next era_need_so_far room before (line_of line) h.above within;
          there = omega (arith, h.there, blocks);
        },
        told,
      ),
    )

-- a step that came to the end
pub came_to_end : (before : List Line) (room : ℕ) (old text : TextReader EraState EraLine) (was left : Option (List ℕ)) (array : ArrayLeft) (start now : DraftState)
    → Reading before room old array start now → AreReadSoFar era (end_line ∷ before) → ((x : List ℕ) → LeavesOf era x before old was → IsWhole era x (end_line ∷ before) left)
    → StepsEras false before room old was text left array start now
came_to_end before room old text was left array start now h reads told =
    let one = end_read before reads.0 in (
      record {
        reads = reads;
        ended = refl;
        gathered = record { put = h.gathered.put; ends = h.gathered.ends };
        covered = omega (arith, one.covered, h.gathered.ends, h.gathered.put.number);
        begin = h.begin;
        need = h.need;
        above = above_next era_need_so_far room before end_line h.above h.need;
        there = h.there;
      },
      told,
    )

-- each line puts an era at least
falls : {old new : ArrayLeft} {start now to : DraftState} (before : List Line) (line : EraLine) → 2 ≤ length before → IsReadAfter era before (line_of line)
    → HasGathered before old start now → HasGathered (line_of line ∷ before) new start to → new.words.left < old.words.left
falls before (v.Era uuid block_size blocks current) later after g h = absurd (era_after before (v.Era uuid block_size blocks current) uuid block_size blocks current refl later after)
falls before (v.Run first n e) later after g h =
    let one = run_read before (record { first = first; length = n; era = e }) after in
    omega (arith, one.some, g.put.number, h.put.number, g.ends, h.ends, one.follows)

pub falls_where : (result : Result Bool RestoreFault) (before : List Line) (line : EraLine) (old new : ArrayLeft) (start now to : DraftState) → 2 ≤ length before → IsReadAfter era before (line_of line)
    → HasGathered before old start now → OnOk result (HasGathered (line_of line ∷ before) new start to) → IfOk result (λ more. more ≡ true → new.words.left < old.words.left)
falls_where (Err fault) before line old new start now to later after g h = tt
falls_where (Ok more) before line old new start now to later after g h = λ is. falls before line later after g h

-- a step by its answer
pub steps_as : (a b : Bool) (before : List Line) (room : ℕ) (old text : TextReader EraState EraLine) (was left : Option (List ℕ)) (array : ArrayLeft) (start now : DraftState) → a ≡ b
    → StepsEras a before room old was text left array start now → StepsEras b before room old was text left array start now
steps_as a b before room old text was left array start now is steps = rw is at steps

-- the first two lines were read, and no era is put yet
pub target_reading : {array : ArrayLeft} {start : DraftState} (target : Target) (room : ℕ) (text : TextReader EraState EraLine) → ReadsOn era EraStands (begun_lines target) text → IsClosed start.device
    → array.size ≡ 4 → array.words.left ≡ target.blocks → array.words.made ≡ 0
    → ((place : ℕ) (words : List ℕ) → length words ≡ target.blocks → array_left 4 place array.words words ≡ array_blocks 4 place words)
    → ((place : ℕ) (words : List ℕ) → length words ≡ target.blocks → array_root_left 4 place array.words words ≡ array_root 4 place words)
    → array_number 4 array.words ≡ need_array 4 target.blocks → start.place ≡ 1 → era_need_so_far room (begun_lines target) ≤ room → room ≤ start.device.blocks
    → Reading (begun_lines target) room text array start start
target_reading target room text reads closed size left made whole root number begin need there = record {
  reads = reads;
  later = omega arith;
  gathered = record { put = put_start target.blocks closed size left made whole root number; ends = refl };
  begin = begin;
  need = need;
  above = above_next era_need_so_far room (first_line ∷ []) (era_line (head_of_target target)) (λ lines. refl) need;
  there = there;
}
