use Rattle.std.proofs.Common.{List, ℕ, ◌++◌, ◌∙◌, refl, sym, ap}
use Rattle.std.proofs.lemmas.Result.{on_ok_weaker}
use Rattle.pd_meaning_thin.proofs.PackedLemmas.{packed_run-other, packed_run-single}
use Rattle.pd_meaning_thin.proofs.packing.pack_run.Goals as goal

pub returns-then-is_single-clause-packed : goal.returns-then-is_single-clause-packed
returns-then-is_single-clause-packed c =
    on_ok_weaker c.pack_single.result
    (λ last. last ∙ ap (λ (bytes : List ℕ). c.args.bytes.now.items ++ bytes) (sym
    (packed_run-single c.args.before c.args.run _ c.folded-step.result c.change_of-change.result refl c.folded-step.ensures
    c.change_of-change.ensures.is (sym c.if-is_single.ensures.is))))
    c.pack_single.ensures.packed

pub returns-clause-packed : goal.returns-clause-packed
returns-clause-packed c =
    on_ok_weaker c.pack_other.result
    (λ last. last ∙ ap (λ (bytes : List ℕ). c.args.bytes.now.items ++ bytes) (sym
    (packed_run-other c.args.before c.args.run _ c.folded-step.result c.change_of-change.result refl c.folded-step.ensures
    c.change_of-change.ensures.is (sym c.if-is_single.ensures.is))))
    c.pack_other.ensures.packed
