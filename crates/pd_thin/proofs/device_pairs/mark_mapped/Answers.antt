use Rattle.std.proofs.Common.{ℕ, not, nat_eq, ap, ◌∙◌}
use Rattle.pd_check.proofs.SharedLemmas.{charges_where}
use Rattle.pd_thin.proofs.device_pairs.mark_mapped.Goals as goal

pub returns-clause-charges : goal.returns-clause-charges
returns-clause-charges c = λ below notes.
    charges_where c.args.root _ _ _ c.args.audit.now c.charge.new.audit
    (λ there. c.is_mapped_wrong-wrong.ensures there ∙ ap (λ (number : ℕ). not (nat_eq c.args.mapped number)) (notes c.args.root)) c.charge.ensures
