use Rattle.std.proofs.Common.{ℕ, Bool, not, ◌∙◌, ap, arith}
use Rattle.pd_tree.proofs.StackLemmas.{few_entries}
use Rattle.pd_kinds.specs.Graph.{is_outside}
use Rattle.pd_kinds.specs.Node.{child_at}
use Rattle.pd_value.specs.declared.thin.Root.{Root}
use Rattle.pd_damaged.proofs.PushLemmas.{counted_push}
use Rattle.pd_damaged.proofs.loose.inside_of_leaf.Goals as goal

pub loop-i-preserved : goal.loop-i-preserved
loop-i-preserved c =
    let block = c.args.block.now.0 in
    record {
      count = counted_push (λ (i : ℕ). not (is_outside c.args.nr (child_at block i))) c.loop-i.i c.loop-i.inside c.one_more_if-inside.result
          (not c.is_outside-outside.result) c.loop-i.invariant.count
          (ap (λ (b : Bool). not b) (c.is_outside-outside.ensures ∙ ap (is_outside c.args.nr) (ap (λ (r : Root). r.0) c.value-named.ensures.value)))
          c.one_more_if-inside.ensures;
      few = grind (arith, c.one_more_if-inside.ensures, c.loop-i.invariant.few);
    }

pub one_more_if-inside-requires : goal.one_more_if-inside-requires
one_more_if-inside-requires c =
    omega (arith, few_entries 8 c.args.block.now.0, c.entries-i-end.ensures, c.loop-i.invariant.few, c.loop-i-test.true)
