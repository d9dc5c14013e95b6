use Rattle.std.proofs.Common.{Bool, ◌&&◌, ◌||◌, nat_eq, sym, ◌∙◌, ap}
use Rattle.std.proofs.Math.Bool.{and-true}
use Rattle.pd_graph.specs.Marks.{has_bit}
use Rattle.pd_graph.proofs.BitLemmas.{has_bit_more}
use Rattle.pd_scan.proofs.lost.with_role_if.Goals as goal

pub returns-then-fits : goal.returns-then-fits
returns-then-fits c = λ other within.
    has_bit_more c.args.roles c.args.role other c.requires
    ∙ (ap (λ (x : Bool). has_bit c.args.roles other || x) (sym (and-true (nat_eq other c.args.role)))
    ∙ ap (λ (x : Bool). has_bit c.args.roles other || (nat_eq other c.args.role && x)) (sym c.if-fits.true))
