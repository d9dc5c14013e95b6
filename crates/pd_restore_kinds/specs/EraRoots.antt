-- The parts that an era target's superblock names, and what stands behind it.
-- What the first two lines of an era target's text give.
-- What is restored of era targets.
-- The superblock of an era target.
use Rattle.std.specs.Prelude.{◌≡◌, ℕ, ◌≤◌, List, [], length, ◌∷◌, Option, Some, None}
use Rattle.pd_kinds.specs.declared.limits.TheConstants.{MAX_META_BLOCKS}
use Rattle.pd_kinds.specs.Meaning.{EraMeaning}
use Rattle.pd_kinds.specs.EraFormat.{EraFields}
use Rattle.pd_grammar.specs.EraText.{era_need, Line, Head, first_line, era_line, era_need_so_far, era, MeansEra}
use Rattle.pd_grammar.specs.Lawful.{IsLawfulEra}
use Rattle.pd_laid.specs.Laid.{written_from}
use Rattle.pd_laid.specs.LaidEra.{laid_era, era_laid_fields}
use Rattle.pd_draft.specs.Closed.{DraftState}
use Rattle.pd_texts_kinds.specs.declared.era_lines.EraLine.{EraLine}
use Rattle.pd_texts_kinds.specs.declared.era_lines.EraLine.TheVariants.{Era, Run}
use Rattle.pd_build.specs.Array.{ArrayLeft}
use Rattle.pd_build.specs.Building.{IsFilling}
use Rattle.pd_restoring.specs.Restored.{Subject}
use Rattle.pd_restore_kinds.specs.declared.target.EraRoots.{EraRoots}
use Rattle.pd_restore_kinds.specs.declared.era.Target.{Target}

-- the eras of all blocks of a target were put into the array
pub record HasEras (m : EraMeaning) (array : ArrayLeft) (start now : DraftState) : Type 0 where
  pub one_each : m.blocks ≡ length m.eras
  pub begin : start.place ≡ 1
  pub filling : IsFilling 4 m.eras [] array start now

-- what stands behind them has room on the device
pub record CanWrite (array : ArrayLeft) (room : ℕ) (now : DraftState) : Type 0 where
  pub target : EraMeaning
  pub start : DraftState
  pub eras : HasEras target array start now
  pub need : era_need target room ≤ room
  pub most : room ≤ MAX_META_BLOCKS
  pub there : room ≤ now.device.blocks

-- the blocks of a target from block 1 on
abbrev pub target_behind : EraMeaning → ℕ → List (List ℕ)
target_behind m room = written_from 1 (laid_era m room).blocks

-- these are the roots of a target where there is so much room
pub record AreParts (m : EraMeaning) (room : ℕ) (parts : EraRoots) : Type 0 where
  pub array_root : parts.array_root ≡ (era_laid_fields m room).array_root
  pub writesets_root : parts.writesets_root ≡ (era_laid_fields m room).writesets_root
  pub meta_map : parts.meta_map ≡ (era_laid_fields m room).meta_map

-- the line is a target's
abbrev pub IsOfTarget : Option EraLine → Type 0
IsOfTarget None = ⊥
IsOfTarget (Some (Era uuid block_size blocks era)) = Unit {0}
IsOfTarget (Some (Run first length era)) = ⊥

-- the words of the era line
abbrev pub head_of_target : Target → Head
head_of_target t = record { uuid = t.uuid; block_size = t.block_size; blocks = t.blocks; era = t.era }

-- the first two lines, the newest first
abbrev pub begun_lines : Target → List Line
begun_lines t = era_line (head_of_target t) ∷ first_line ∷ []

abbrev pub era_targets : Subject Line EraMeaning
era_targets = record { format = era; Means = MeansEra; need = era_need_so_far; Lawful = IsLawfulEra; laid = laid_era }

-- the fields of the superblock
abbrev pub fields_of : Target → EraRoots → EraFields
fields_of t parts = record {
  flags = 0;
  uuid = t.uuid;
  version = 1;
  meta_map = parts.meta_map;
  block_size = t.block_size;
  meta_block_size = 8;
  blocks = t.blocks;
  era = t.era;
  current_bits = 0;
  current_root = 0;
  writesets_root = parts.writesets_root;
  array_root = parts.array_root;
  snap_root = 0;
}
