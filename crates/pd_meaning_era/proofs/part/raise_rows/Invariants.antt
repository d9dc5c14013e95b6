use Rattle.std.proofs.Common.{◌≡◌, IfSome, take}
use Rattle.pd_image.specs.Device.{OnlyReads}
use Rattle.pd_kinds.specs.Meaning.{is_bit_set}
use Rattle.pd_meaning_era.specs.Eras.{AreAtLeast}
use Rattle.pd_meaning_era.specs.Notes.{RaisesRows}
use Rattle.pd_meaning_era.proofs.part.raise_rows.Given as goal

-- the rows before this one raised the part
abbrev pub invariant-loop-row : goal.invariant-loop-row
invariant-loop-row g l = record {
  raised : IfSome (g.D.Device.state l.initial.dev).held (λ image. RaisesRows image l.base (take l.row-index l.rows) l.initial.part l.part);
  taken : AreAtLeast l.latest (is_bit_set l.taken) l.part;
  kept : OnlyReads (g.D.Device.state l.initial.dev) (g.D.Device.state l.dev);
  faults : (g.D.Device.state l.dev).faults ≡ (g.D.Device.state l.initial.dev).faults;
}
