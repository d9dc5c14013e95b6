-- A comparison on its way: what was read, what was reported, and what is ahead.
-- The faults of a space map's counts.
-- Runs of equal counts in a bitmap.
-- What a report has after faults were added to it.
-- The entries of an overflow tree that are still ahead, where blocks are looked at in their order.
use Rattle.std.specs.Prelude.{ℕ, List, Option, ◌≡◌, ◌+◌, ◌*◌, ◌<◌, ◌++◌, take, ◌≤◌, nat_lt, if◌then◌else◌, [], ◌∷◌, Some, ◌-◌, ◌/◌, ◌%◌, IfSome}
use Rattle.std.specs.List.{flat_map, range_with_len}
use Rattle.std.specs.Option.{option_map}
use Rattle.pd_kinds.specs.declared.rule.Fault.{Fault}
use Rattle.pd_kinds.specs.declared.rule.Space.{Space}
use Rattle.pd_kinds.specs.Stages.{count_fault}
use Rattle.pd_kinds.specs.Bitmap.{two_bits_of}
use Rattle.pd_kinds.specs.Rule.{Reported, report_of}
use Rattle.pd_kinds.specs.Objects.{DeviceState, Rose}
use Rattle.pd_kinds.specs.Graph.{block_at}
use Rattle.pd_value.specs.declared.space_map.Count.{Count}
use Rattle.pd_image.specs.Device.{OnlyReads}
use Rattle.pd_tree.specs.Search.{AreFrom, lookup}

-- those of so many blocks from one on, by how often they are referred to and by what is stored
unfoldable pub faults_from : Space → (ℕ → ℕ) → (ℕ → Option ℕ) → ℕ → ℕ → List Fault
faults_from space refs stored low len = flat_map (λ b. count_fault space b (refs b) (stored b)) (range_with_len low len)

-- the 32 counts of group g of a bitmap are the numbers of references of the blocks from this one on, which two bits hold
pub record AreRefs (bitmap : List ℕ) (g : ℕ) (refs : ℕ → ℕ) (first : ℕ) : Type 0 where
  pub held : (k : ℕ) → k < 32 → refs (first + k) < 3
  pub counts : (k : ℕ) → k < 32 → two_bits_of bitmap (32 * g + k) ≡ refs (first + k)

-- these faults were added
abbrev pub Adds : List Fault → Reported → Reported → Type 0
Adds faults old new = (before : List Fault) → old ≡ report_of before → new ≡ report_of (before ++ faults)

-- a front of them was added
abbrev pub AddsFront : List Fault → Reported → Reported → Type 0
AddsFront faults old new =
    (before : List Fault) → old ≡ report_of before → (n : ℕ) × (new ≡ report_of (before ++ take n faults))

-- each key is above all before it
abbrev pub KeysRise : List (ℕ × Count) → Type 0
KeysRise [] = Unit {0}
KeysRise (item ∷ items) = AreFrom (item.0 + 1) items × KeysRise items

-- the count of a block among these entries
abbrev pub found : ℕ → List (ℕ × Count) → Option ℕ
found b items = option_map (λ (count : Count). count.0) (lookup b items)

-- these entries are enough to find the counts from a block on
pub record IsAhead (low : ℕ) (over : ℕ → Option ℕ) (items : List (ℕ × Count)) : Type 0 where
  pub rise : KeysRise items
  pub counts : (b : ℕ) → low ≤ b → found b items ≡ over b

-- a stored count by its two bits, and by what the overflow tree has
abbrev pub stored_by : ℕ → Option ℕ → Option ℕ
stored_by bits over = if nat_lt bits 3 then Some bits else over

-- where a comparison stands: the device, the report, and over an image the entries of the overflow tree that are
-- ahead and how many reads are left
pub record ComparisonState : Type 0 where
  pub device : DeviceState
  pub report : Reported
  pub items : List (List ℕ) → List (ℕ × Count)
  pub reads : List (List ℕ) → ℕ

-- what is compared: a space, its references, and the two bits of each block over an image
pub record Compared : Type 0 where
  pub space : Space
  pub refs : ℕ → ℕ
  pub bits : List (List ℕ) → ℕ → ℕ

-- the two bits by one bitmap, whose first count is that of a block
abbrev pub bits_from : ℕ → List ℕ → List (List ℕ) → ℕ → ℕ
bits_from base bitmap image b = two_bits_of bitmap (b - base)

-- the two bits by the bitmap in a place, which is bitmap i of a map
abbrev pub bits_at : ℕ → ℕ → List (List ℕ) → ℕ → ℕ
bits_at place i image b = two_bits_of (block_at image place) (b - 16320 * i)

-- the two bits by the bitmaps of a map, whose places are told over an image
abbrev pub bits_by : (List (List ℕ) → ℕ → ℕ) → List (List ℕ) → ℕ → ℕ
bits_by place image b = two_bits_of (block_at image (place image (b / 16320))) (b % 16320)

-- where a comparison stands that may read so many blocks more
abbrev pub with_reads : ℕ → ComparisonState → ComparisonState
with_reads more s = record s { reads = λ image. s.reads image + more }

abbrev pub with_nodes : (List (List ℕ) → ℕ) → ComparisonState → ComparisonState
with_nodes more s = record s { reads = λ image. s.reads image + more image }

-- what is found over an image, where the entries ahead are enough
abbrev pub faults_of : Compared → List (List ℕ) → (ℕ → Option ℕ) → ℕ → ℕ → List Fault
faults_of compared image over low len =
    faults_from compared.space compared.refs (λ b. stored_by (compared.bits image b) (over b)) low len

-- so many blocks from one on were compared over an image
pub record ComparesImage (compared : Compared) (image : List (List ℕ)) (low len : ℕ) (old new : ComparisonState) : Type 0 where
  pub reads : new.device.reads + new.reads image ≤ old.device.reads + old.reads image
  pub added : (over : ℕ → Option ℕ) → IsAhead low over (old.items image) → Adds (faults_of compared image over low len) old.report new.report
  pub ahead : (over : ℕ → Option ℕ) → IsAhead low over (old.items image) → IsAhead (low + len) over (new.items image)

-- and over any device
pub record ComparesRange (compared : Compared) (low len : ℕ) (old new : ComparisonState) : Type 0 where
  pub kept : OnlyReads old.device new.device
  pub faults : new.device.faults ≡ old.device.faults
  pub total : new.report.total ≤ old.report.total + len
  pub told : IfSome old.device.held (λ image. ComparesImage compared image low len old new)

-- the comparison of these blocks stopped over an image
pub record FindsFront (compared : Compared) (image : List (List ℕ)) (low len : ℕ) (old new : ComparisonState) : Type 0 where
  pub reads : new.device.reads ≤ old.device.reads + old.reads image
  pub added : (over : ℕ → Option ℕ) → IsAhead low over (old.items image) → AddsFront (faults_of compared image over low len) old.report new.report

-- and over any device
pub record Stopped (compared : Compared) (low len : ℕ) (old new : ComparisonState) : Type 0 where
  pub kept : OnlyReads old.device new.device
  pub rose : Rose old.device.faults new.device.faults × (old.device.faults ≤ new.device.faults)
  pub total : new.report.total ≤ old.report.total + len
  pub told : IfSome old.device.held (λ image. FindsFront compared image low len old new)
