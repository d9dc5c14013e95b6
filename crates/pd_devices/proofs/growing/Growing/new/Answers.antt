use Rattle.std.proofs.Common.{refl, sym}
use Rattle.pd_devices.proofs.RowLemmas.{grown_none}
use Rattle.pd_devices.proofs.growing.Growing.new.Goals as goal

pub returns : goal.returns
returns c leaves d now id none closed = grown_none leaves d _ now closed none (sym id) c.new.ensures refl refl
