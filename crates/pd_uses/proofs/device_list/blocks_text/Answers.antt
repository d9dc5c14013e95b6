use Rattle.std.proofs.Common.{◌-◌, codes, decimal}
use Rattle.pd_uses.proofs.LineLemmas.{four_parts}
use Rattle.pd_uses.proofs.device_list.blocks_text.Goals as goal

pub returns : goal.returns
returns c =
    let row = c.args.row.now in
    four_parts (codes "device ") (decimal row.id) (codes " mapped ") (decimal row.details.mapped) (codes " exclusive ") (decimal c.args.exclusive) (codes " shared ") (decimal (row.details.mapped - c.args.exclusive))
    c.new-line.ensures c.add_labeled.ensures.bytes c.add_labeled-2.ensures.bytes c.add_labeled-3.ensures.bytes (rw c.saturating_sub.ensures at c.add_labeled-4.ensures.bytes)
