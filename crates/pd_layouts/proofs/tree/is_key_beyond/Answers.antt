use Rattle.std.proofs.Common.{◌^◌, arith, nat_lt, not, rules}
use Rattle.std.proofs.lemmas.List.{take_all}
use Rattle.pd_kinds.specs.Layout.{node_entries_of}
use Rattle.pd_kinds.specs.Node.{Entry}
use Rattle.pd_layouts.specs.Layout.{value_size}
use Rattle.pd_kinds.proofs.TreeLemmas.{length-entries}
use Rattle.pd_kinds.proofs.ListLemmas.{any_more}
use Rattle.pd_layouts.proofs.Rows.{entry_found}
use Rattle.pd_layouts.proofs.tree.is_key_beyond.Goals as goal

pub loop-i-preserved : goal.loop-i-preserved
loop-i-preserved c =
    any_more (λ (e : Entry). not (nat_lt e.key (2 ^ 32))) _ c.loop-i.i _ c.loop-i.beyond _
    (entry_found (value_size c.args.value) c.args.b.now.0 c.loop-i.i (omega (arith, c.entries-i-end.ensures, c.loop-i-test.true)))
    c.loop-i.invariant (search rules)

pub returns : goal.returns
returns c =
    let entries = node_entries_of (value_size c.args.value) c.args.b.now.0 in
    rw (take_all c.loop-i.i entries (omega (arith, length-entries (value_size c.args.value) c.args.b.now.0, c.entries-i-end.ensures, c.loop-i-test.false)))
    at c.loop-i.invariant
