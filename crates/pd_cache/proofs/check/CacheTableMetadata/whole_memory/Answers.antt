use Rattle.std.proofs.Common.{◌≡◌, ℕ, refl, sym, ap, subst, ◌∙◌, arith}
use Rattle.std.proofs.lemmas.Result.{IfOk-weaker}
use Rattle.pd_kinds.specs.CacheFormat.{CacheFields, cache_graph, cache_layout}
use Rattle.pd_kinds.specs.Layout.{graph_of}
use Rattle.pd_check.proofs.ArrayMarkLemmas.{none_shown}
use Rattle.pd_cache.specs.Meeting.{IsRoomFor}
use Rattle.pd_cache.proofs.WholeLemmas.{blocks_are}
use Rattle.pd_cache.proofs.check.CacheTableMetadata.whole_memory.Goals as goal

pub returns-clause-room : goal.returns-clause-room
unfolding cache_graph graph_of
returns-clause-room c =
    let first = c.args.b.now.0 in
    let blocks : c.read_cache_super-blocks.result.meta_map.blocks ≡ (cache_graph first).nr =
    ap (λ (f : CacheFields). f.meta_map.blocks) c.read_cache_super-blocks.ensures ∙ sym (blocks_are first) in
    IfOk-weaker c.new.result _ _ (λ room is. record { roles = refl; is = λ few. subst (λ (n : ℕ). IsRoomFor n room) (omega (arith, c.min.ensures, blocks)) is }) c.new.ensures

pub returns-clause-unseen : goal.returns-clause-unseen
returns-clause-unseen c = IfOk-weaker c.new.result _ _ (λ room is image. none_shown (cache_layout 0) image room.arrays.marks) c.new.ensures
