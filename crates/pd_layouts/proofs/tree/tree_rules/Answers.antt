use Rattle.std.proofs.Common.{◌≡◌, true, false, sym, ◌∙◌}
use Rattle.pd_kinds.specs.declared.rule.Rule.TheVariants as r
use Rattle.pd_kinds.specs.Node.{node_bad}
use Rattle.pd_layouts.specs.Layout.{tree_of}
use Rattle.pd_layouts.proofs.NodeRules.{sealed_wrong, two_more}
use Rattle.pd_layouts.proofs.tree.tree_rules.Goals as goal

pub returns-then-has : goal.returns-then-has
returns-then-has c = λ rule.
    let t = tree_of c.args.value c.args.names in
    let has : node_bad t.size c.args.place c.args.b.now.0 r.Checksum ≡ true =
    sym (c.node_rules-rules.ensures r.Checksum) ∙ (sym c.has.ensures ∙ c.if-has.true) in
    c.node_rules-rules.ensures rule ∙ sealed_wrong c.args.nr c.args.role t c.args.place c.args.b.now.0 has rule

pub returns : goal.returns
returns c = λ rule.
    let t = tree_of c.args.value c.args.names in
    let has : node_bad t.size c.args.place c.args.b.now.0 r.Checksum ≡ false =
    sym (c.node_rules-rules.ensures r.Checksum) ∙ (sym c.has.ensures ∙ c.if-has.false) in
    rw (c.with_if-2.ensures rule, c.with_if.ensures rule, c.node_rules-rules.ensures rule)
    (two_more c.args.nr c.args.role t c.args.place c.args.b.now.0 c.is_entry_beyond-beyond.result c.is_edge_outside-outside.result has
    c.is_entry_beyond-beyond.ensures c.is_edge_outside-outside.ensures rule)
