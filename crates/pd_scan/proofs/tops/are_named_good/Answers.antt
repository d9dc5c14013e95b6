use Rattle.std.proofs.Common.{◌≡◌, Some, sym, ◌∙◌, ap}
use Rattle.std.specs.List.{slice_get}
use Rattle.std.specs.Option.{option_map}
use Rattle.std.proofs.lemmas.List.Folds.{list_all_at}
use Rattle.std.proofs.lemmas.Option.{slice_get-map, get_or_from_slice_get, slice_get_within}
use Rattle.pd_kinds.specs.Graph.{Edge}
use Rattle.pd_settle.specs.Looking.{blocks_of_edges}
use Rattle.pd_settle.proofs.LookLemmas.{all_more}
use Rattle.pd_scan.specs.Partners.{is_noted_good}
use Rattle.pd_scan.proofs.tops.are_named_good.Goals as goal

pub loop-i-preserved : goal.loop-i-preserved
loop-i-preserved g c =
    let edges = (g.F.Format.contents c.args.format.now).edges c.args.role c.args.block.now.0 in
    let child : slice_get (blocks_of_edges edges) c.loop-i.i ≡ Some c.edge_of_any-child.result.1 =
    slice_get-map (λ (e : Edge). e.block) edges c.loop-i.i ∙ ap (option_map (λ (e : Edge). e.block)) c.edge_of_any-child.ensures in
    all_more (is_noted_good c.args.notes.now) (blocks_of_edges edges) c.loop-i.i c.edge_of_any-child.result.1 c.loop-i.invariant child
    (sym c.is_good-good.ensures ∙ c.if-not-good.false)

pub returns-then-not-good : goal.returns-then-not-good
returns-then-not-good g c =
    let edges = (g.F.Format.contents c.args.format.now).edges c.args.role c.args.block.now.0 in
    let child : slice_get (blocks_of_edges edges) c.loop-i.i ≡ Some c.edge_of_any-child.result.1 =
    slice_get-map (λ (e : Edge). e.block) edges c.loop-i.i ∙ ap (option_map (λ (e : Edge). e.block)) c.edge_of_any-child.ensures in
    let test = is_noted_good c.args.notes.now in
    sym (list_all_at test (blocks_of_edges edges) c.loop-i.i 0 (slice_get_within (blocks_of_edges edges) c.loop-i.i c.edge_of_any-child.result.1 child)
    (ap test (get_or_from_slice_get (blocks_of_edges edges) c.loop-i.i c.edge_of_any-child.result.1 0 child) ∙ (sym c.is_good-good.ensures ∙ c.if-not-good.true)))
