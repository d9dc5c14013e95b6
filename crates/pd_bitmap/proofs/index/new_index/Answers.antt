use Rattle.std.proofs.Common.{refl, arith}
use Rattle.std.proofs.lemmas.List.{take_all}
use Rattle.pd_kinds.specs.Bitmap.{unsealed_index}
use Rattle.pd_kinds.specs.Node.{puts}
use Rattle.pd_bitmap.proofs.Placed.{entry_found, entry_more, fit_more}
use Rattle.pd_bitmap.proofs.index.new_index.Goals as goal

pub loop-i-init : goal.loop-i-init
unfolding puts
loop-i-init c = record { row = refl; fit = λ k d within. absurd (omega arith) }

pub loop-i-preserved : goal.loop-i-preserved
loop-i-preserved c = record {
  row = entry_more c.zeros-block.result.0 c.loop-i.block.0 c.put_entry.new.block.0 c.args.entries.now c.loop-i.i _ c.loop-i-test.true c.loop-i.invariant.row c.put_entry.ensures.put;
  fit = fit_more c.args.entries.now c.loop-i.i _ c.loop-i-test.true c.loop-i.invariant.fit c.put_entry.ensures.fits;
}

pub returns-clause-block : goal.returns-clause-block
unfolding unsealed_index
returns-clause-block c = rw (c.loop-i.invariant.row, c.zeros-block.ensures, take_all c.loop-i.i c.args.entries.now c.loop-i-test.false) refl

pub returns-clause-entries : goal.returns-clause-entries
returns-clause-entries c = λ i within.
    rw (returns-clause-block c) (entry_found c.args.entries.now i c.requires within (λ k d below. c.loop-i.invariant.fit k d (omega arith)))
