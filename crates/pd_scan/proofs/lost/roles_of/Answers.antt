use Rattle.std.proofs.Common.{sym, ◌∙◌}
use Rattle.pd_scan.proofs.JudgeLemmas.{none_fit}
use Rattle.pd_kinds.specs.declared.rule.Rule.TheVariants as r
use Rattle.pd_scan.proofs.lost.roles_of.Goals as goal

pub returns-then-has : goal.returns-then-has
returns-then-has g c = λ role within.
    none_fit (g.F.Format.graph c.args.format.now) c.args.first c.args.end c.args.b role c.args.block.now.0 c.requires.share
    (sym (c.rules-broken.ensures r.Checksum) ∙ (sym c.has.ensures ∙ c.if-has.true))
