use Rattle.pd_bitmap.proofs.Filled.{two_bits-zeros}
use Rattle.pd_bitmap.proofs.bitmap.new_bitmap.Goals as goal

pub returns-clause-counts : goal.returns-clause-counts
returns-clause-counts c = λ i. rw c.zeros.ensures (two_bits-zeros i)
