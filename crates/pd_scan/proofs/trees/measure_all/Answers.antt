use Rattle.std.proofs.Common.{ℕ, Bool, Option, Some, None, IfSome, ◌∙◌, subst}
use Rattle.pd_kinds.specs.Graph.{Graph}
use Rattle.pd_measures.specs.Measured.{details_gauge, top_gauge}
use Rattle.pd_measures.specs.Measured.{AreMeasured, AreTrees}
use Rattle.pd_scan.specs.Lost.{is_fit_root}
use Rattle.pd_scan.proofs.trees.measure_all.Goals as goal

if_three : {X : Type 0} {P Q R S : X → Type 0} → (o : Option X) → ((x : X) → P x → Q x → R x → S x) → IfSome o P → IfSome o Q → IfSome o R → IfSome o S
if_three None leads p q r = tt
if_three (Some x) leads p q r = leads x p q r

pub returns-clause-measured : goal.returns-clause-measured
returns-clause-measured g c =
    let held = (g.D.Device.state c.args.dev.now).held in
    let tables = c.args.tables.now in
    let after = c.in_ok-measure_trees.ensures.kept.held in
    if_three held (λ image devices details tops graph settled. record {
      settled = record { tops = settled.tops; devices = settled.devices; details = settled.details };
      devices = devices graph 3 (is_fit_root graph image 3) settled.devices.trees;
      details = details graph 4 (is_fit_root graph image 4) settled.details.trees;
      tops = tops graph 2 (is_fit_root graph image 2) settled.tops.trees;
    })
    c.in_ok-measure_trees.ensures.measured
    (subst (λ o. IfSome o (λ image. (graph : Graph) (role : ℕ) (fit : ℕ → Bool) → AreTrees graph image role 24 fit tables.details
    → AreMeasured graph image role 24 fit details_gauge c.measure_trees-2.new.measures)) after c.in_ok-measure_trees-2.ensures.measured)
    (subst (λ o. IfSome o (λ image. (graph : Graph) (role : ℕ) (fit : ℕ → Bool) → AreTrees graph image role 8 fit tables.tops
    → AreMeasured graph image role 8 fit (top_gauge tables.devices.notes c.measure_trees.new.measures) c.measure_trees-3.new.measures))
    (c.in_ok-measure_trees-2.ensures.kept.held ∙ after) c.in_ok-measure_trees-3.ensures.measured)
