use Rattle.std.proofs.Common.{nat_eq, sym, ◌∙◌, arith}
use Rattle.std.proofs.lemmas.Bool.{and_parts, eqb-true}
use Rattle.pd_kinds.proofs.ResultLemmas.{if_all, if_maps}
use Rattle.pd_graph.specs.Audit.{note_at, roles_at}
use Rattle.pd_graph.specs.Marks.{has_bit}
use Rattle.pd_check.specs.Arrays.{is_at}
use Rattle.pd_check.proofs.ArrayLevels.{blocks_kept, marked_more, marked_still, node_right, reached_if_met}
use Rattle.pd_check.proofs.ArrayReads.{read_none, read_one}
use Rattle.pd_check.proofs.array_nodes.mark_node.Goals as goal

pub returns-in_err-read-clause-reads : goal.returns-in_err-read-clause-reads
returns-in_err-read-clause-reads g c =
    read_one (is_at c.args.audit.now c.args.roles.nodes c.args.height) c.args.b _ _ (sym c.is_node_at.ensures ∙ c.if-is_node_at.true) c.in_err-read.ensures.reads

pub returns-in_ok-read-clause-reads : goal.returns-in_ok-read-clause-reads
returns-in_ok-read-clause-reads g c =
    read_one (is_at c.args.audit.now c.args.roles.nodes c.args.height) c.args.b _ _ (sym c.is_node_at.ensures ∙ c.if-is_node_at.true) c.in_ok-read.ensures.reads

pub returns-else-is_node_at-clause-reads : goal.returns-else-is_node_at-clause-reads
returns-else-is_node_at-clause-reads g c = read_none (is_at c.args.audit.now c.args.roles.nodes c.args.height) c.args.b _

pub returns-in_ok-read-clause-marked : goal.returns-in_ok-read-clause-marked
returns-in_ok-read-clause-marked g c =
    let graph = g.F.Format.graph c.args.format.now in
    let contents = g.F.Format.contents c.args.format.now in
    let audit = c.args.audit.now in
    let parts =
    and_parts (has_bit (roles_at audit c.args.b) c.args.roles.nodes) (nat_eq (note_at audit c.args.b).height c.args.height) (sym c.is_node_at.ensures ∙ c.if-is_node_at.true) in
    let at_height = eqb-true (note_at audit c.args.b).height c.args.height parts.1 in
    if_maps (g.D.Device.state c.args.dev.now).held _ _ (λ image found has before.
    let reached = reached_if_met graph image audit c.args.roles has c.args.b c.args.roles.nodes (omega (arith, c.requires.block, c.requires.number)) c.requires.few parts.0 in
    marked_more graph image audit c.args.roles has c.args.b c.args.height c.mark_below-mark.result c.args.marks.now c.set.new.self reached at_height
    (node_right graph image audit c.args.roles has contents c.args.b c.args.height c.max_words.result c.read.new.into.0 c.mark_below-mark.result c.args.marks.now
    c.reached_trees_are_sound.ensures.in_order c.edges_lead_to_reached_pairs.ensures.edges (g.met.F.Format.told c.args.format.now)
    (omega (arith, g.met.F.Format.roles c.args.format.now, c.requires.nodes)) reached at_height found c.max_words.ensures c.mark_below-mark.ensures before)
    c.set.ensures.marks before) c.in_ok-read.ensures.content

pub returns-else-is_node_at-clause-marked : goal.returns-else-is_node_at-clause-marked
returns-else-is_node_at-clause-marked g c =
    let graph = g.F.Format.graph c.args.format.now in
    if_all (g.D.Device.state c.args.dev.now).held _ (λ image has before.
    marked_still graph image c.args.audit.now c.args.roles has c.args.b c.args.height c.args.marks.now (sym c.is_node_at.ensures ∙ c.if-is_node_at.false) before)

pub returns-in_ok-read-clause-blocks : goal.returns-in_ok-read-clause-blocks
returns-in_ok-read-clause-blocks g c =
    let audit = c.args.audit.now in
    let parts =
    and_parts (has_bit (roles_at audit c.args.b) c.args.roles.nodes) (nat_eq (note_at audit c.args.b).height c.args.height) (sym c.is_node_at.ensures ∙ c.if-is_node_at.true) in
    blocks_kept audit c.args.roles c.args.b c.mark_below-mark.result c.args.marks.now c.set.new.self c.requires.few c.requires.block parts.0 c.set.ensures.marks
