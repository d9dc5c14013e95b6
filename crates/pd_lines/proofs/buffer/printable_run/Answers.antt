use Rattle.std.proofs.Common.{cond, ltb, refl}
use Rattle.pd_lines.proofs.ReaderLemmas.{whole_run, part_run}
use Rattle.pd_lines.proofs.buffer.printable_run.Goals as goal

pub returns-then-others-eq0 : goal.returns-then-others-eq0
returns-then-others-eq0 c = whole_run _ (λ a b. cond (ltb a b) 255 0) c.args.bytes.now c.args.at _ c.requires c.type_inv.bytes refl refl c.if-others-eq0.true

pub returns-else-others-eq0 : goal.returns-else-others-eq0
returns-else-others-eq0 c = part_run _ (λ a b. cond (ltb a b) 255 0) c.args.bytes.now c.args.at _ c.requires c.type_inv.bytes refl refl c.if-others-eq0.false
