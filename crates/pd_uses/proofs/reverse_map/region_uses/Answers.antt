use Rattle.pd_uses.specs.FoundUses.{found_uses}
use Rattle.pd_uses.proofs.LineLemmas.{region_sorted}
use Rattle.pd_uses.proofs.reverse_map.region_uses.Goals as goal

pub returns : goal.returns
returns c =
    region_sorted c.args.region.first c.args.region.end (found_uses c.args.found.now) c.in_ok-uses.uses.items c.sort_by_block.new.uses.items c.in_ok-uses.ensures c.in_ok-sort_by_block.ensures
