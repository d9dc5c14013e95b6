use Rattle.std.proofs.Common.{rules}
use Rattle.std.proofs.lemmas.Result.{on_ok_weaker}
use Rattle.pd_uses.proofs.LineLemmas.{sorted_uses}
use Rattle.pd_uses.proofs.reverse_map.sort_by_block.Goals as goal

pub returns : goal.returns
returns c =
    on_ok_weaker c.sort_by_key.result (λ sorted first n all. sorted_uses c.args.uses.now.items c.sort_by_key.new.self.items (λ a r q k. search rules) sorted c.sort_by_key.ensures.stable c.sort_by_key.ensures.permutation first n all)
    c.sort_by_key.ensures.sorted
