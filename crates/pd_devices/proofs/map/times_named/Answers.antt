use Rattle.std.proofs.Common.{◌∙◌, sym, inl, inr, arith}
use Rattle.pd_count.specs.Counted.{count_of}
use Rattle.pd_devices.proofs.MapLemmas.{named_leaf, named_once}
use Rattle.pd_devices.proofs.map.times_named.Goals as goal
use Rattle.pd_devices.proofs.map.times_named.Goals.{else-b-ge1-via-then-b-ge1+else-b-leaves, else-b-ge1-via-else-b-ge1}

pub returns-then-b-leaves : goal.returns-then-b-leaves
returns-then-b-leaves c = record {
  named = λ end below. c.get.ensures ∙ sym (named_leaf (count_of c.args.uses.now) c.args.leaves end c.args.b (omega arith) (omega arith));
}

pub returns-else-b-ge1 : goal.returns-else-b-ge1
returns-else-b-ge1 c = record {
  named = λ end below. elim c.else-b-ge1.branch [
    | else-b-ge1-via-then-b-ge1+else-b-leaves w ↦ sym (named_once (count_of c.args.uses.now) c.args.leaves end c.args.b (inr (omega arith)) below)
    | else-b-ge1-via-else-b-ge1 w ↦ sym (named_once (count_of c.args.uses.now) c.args.leaves end c.args.b (inl (omega arith)) below)
  ];
}
