use Rattle.std.proofs.Common.{◌≡◌, refl, sym, ap, ◌∙◌, arith}
use Rattle.std.proofs.lemmas.Result.{IfOk-weaker}
use Rattle.pd_kinds.specs.EraFormat.{EraFields, era_graph, era_layout}
use Rattle.pd_kinds.specs.Layout.{graph_of}
use Rattle.pd_check.proofs.ArrayMarkLemmas.{none_shown}
use Rattle.pd_era.proofs.WholeLemmas.{blocks_are}
use Rattle.pd_era.proofs.check.EraTableMetadata.whole_memory.Goals as goal

pub returns-clause-room : goal.returns-clause-room
unfolding era_graph graph_of
returns-clause-room c =
    let first = c.args.b.now.0 in
    let blocks : c.read_era_super-blocks.result.meta_map.blocks ≡ (era_graph first).nr =
    ap (λ (f : EraFields). f.meta_map.blocks) c.read_era_super-blocks.ensures ∙ sym (blocks_are first) in
    IfOk-weaker c.new.result _ _ (λ room is. record { roles = refl; places = λ few. omega (arith, is, c.min.ensures, blocks) }) c.new.ensures

pub returns-clause-unseen : goal.returns-clause-unseen
returns-clause-unseen c = IfOk-weaker c.new.result _ _ (λ room is image. none_shown (era_layout 0) image room.marks) c.new.ensures
