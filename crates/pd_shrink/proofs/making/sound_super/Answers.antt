use Rattle.std.proofs.Common.{refl, sym, ◌∙◌}
use Rattle.pd_shrink.proofs.SuperLemmas.{fits_device}
use Rattle.pd_shrink.proofs.making.sound_super.Goals as goal

pub returns-then-is_empty-clause-fits : goal.returns-then-is_empty-clause-fits
returns-then-is_empty-clause-fits c =
    fits_device c.args.blocks c.args.first.now.0 c.read_thin_super.result c.read_thin_super.ensures (λ rule. sym (c.thin_super_rules-rules.ensures rule) ∙ c.if-is_empty.ensures.0 refl rule)
