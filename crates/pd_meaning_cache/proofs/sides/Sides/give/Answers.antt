use Rattle.std.proofs.Common.{IfSome, subst, arith}
use Rattle.std.proofs.lemmas.Bool.{eq-eqb, ne_eqb}
use Rattle.std.proofs.lemmas.Option.{IfSome_then}
use Rattle.pd_tree.proofs.NextLemmas.{if_both}
use Rattle.pd_meaning_cache.specs.Sides.{KnowsSides, SkipsSides}
use Rattle.pd_meaning_cache.proofs.SidesLemmas.{gives_none, gives_row}
use Rattle.pd_meaning_cache.proofs.sides.Sides.give.Goals as goal

pub returns-then-word-ne1-clause-gives : goal.returns-then-word-ne1-clause-gives
returns-then-word-ne1-clause-gives g c =
    IfSome_then (g.D.Device.state c.args.dev.now).held c.in_ok-skip.ensures.skips (λ image skips knows.
    gives_none image c.args.word c.args.self.now c.skip.new.self (ne_eqb _ 1 (λ e. omega (arith, e, c.if-word-ne1.true))) (skips knows) c.in_ok-skip.ensures.block)

pub returns-clause-gives : goal.returns-clause-gives
returns-clause-gives g c =
    if_both (g.D.Device.state c.args.dev.now).held
    (λ image held row skips knows.
    let is = row knows in
    gives_row image c.args.word c.in_ok-row.row c.args.self.now c.row.new.self c.skip-2.new.self (eq-eqb _ 1 (omega (arith, c.if-word-ne1.false))) is c.row.ensures.block (skips (is.skips.hints.knows, is.skips.bits.knows)) c.in_ok-skip-2.ensures.block)
    c.in_ok-row.ensures.row
    (subst (λ o. IfSome o (λ image. KnowsSides image c.row.new.self → SkipsSides image 1 c.row.new.self c.skip-2.new.self)) c.in_ok-row.ensures.kept.held c.in_ok-skip-2.ensures.skips)
