use Rattle.std.proofs.Common.{◌≡◌, replicate, subst, sym, rules}
use Rattle.std.proofs.lemmas.List.Elements.{All-replicate}
use Rattle.pd_image.specs.Step.{IsWhole, AreWhole}
use Rattle.pd_image.proofs.BlockLemmas.{block_bytes-replicate}
use Rattle.pd_image.proofs.mem_device.zero_blocks.Goals as goal

pub returns-clause-items : goal.returns-clause-items
returns-clause-items c =
    let items : c.resize.new.self.items ≡ replicate c.args.number c.zero_block.result = search rules in
    rw (items, block_bytes-replicate c.args.number c.zero_block.result, c.zero_block.ensures.zeros)

pub returns-clause-whole : goal.returns-clause-whole
returns-clause-whole c =
    let items : c.resize.new.self.items ≡ replicate c.args.number c.zero_block.result = search rules in
    subst AreWhole (sym items) (All-replicate IsWhole c.args.number c.zero_block.result c.zero_block.ensures.whole)
