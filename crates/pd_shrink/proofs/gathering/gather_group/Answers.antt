use Rattle.std.proofs.Common.{◌+◌, ◌*◌, ◌∙◌, arith, eq-eqb, ne_eqb, refl}
use Rattle.pd_smap.specs.Steps.{bits_from}
use Rattle.pd_shrink.specs.Gathered.{standing}
use Rattle.pd_shrink.proofs.SearchLemmas.{in_group, searched_all, searched_none}
use Rattle.pd_shrink.proofs.gathering.gather_group.Goals as goal

pub returns-then-number-ne0-clause-searched : goal.returns-then-number-ne0-clause-searched
returns-then-number-ne0-clause-searched g c =
    searched_none c.args.wanted (bits_from c.args.base c.args.bitmap.now.0) (c.args.base + 32 * c.args.g) 32 (standing (g.A.Device.state c.args.meta.now) c.args.free.now c.args.overflow.now)
    (λ image over d from below. in_group c.args.bitmap.now.0 c.args.base c.args.g c.in-Some.number c.in-Some.ensures image over d from below
    ∙ ne_eqb c.in-Some.number 0 (λ none. omega (arith, none, c.if-number-ne0.true)))

pub returns-then-len-wanted-clause-searched : goal.returns-then-len-wanted-clause-searched
returns-then-len-wanted-clause-searched g c =
    searched_all c.args.wanted (bits_from c.args.base c.args.bitmap.now.0) (c.args.base + 32 * c.args.g) 32 (standing (g.A.Device.state c.args.meta.now) c.args.free.now c.args.overflow.now) _
    refl refl (omega (arith, c.if-len-wanted.true, c.len.ensures))
    (λ image over d from below. in_group c.args.bitmap.now.0 c.args.base c.args.g c.in-Some.number c.in-Some.ensures image over d from below
    ∙ eq-eqb c.in-Some.number 0 (omega (arith, c.if-number-ne0.false)))
