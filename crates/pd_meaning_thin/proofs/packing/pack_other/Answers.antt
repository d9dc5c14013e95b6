use Rattle.std.proofs.lemmas.Result.{on_ok_weaker}
use Rattle.pd_meaning_thin.proofs.PackedLemmas.{put-other}
use Rattle.pd_meaning_thin.proofs.packing.pack_other.Goals as goal

pub returns-clause-packed : goal.returns-clause-packed
returns-clause-packed c =
    on_ok_weaker c.pack_number-4.result
    (λ last. put-other c.args.gap c.args.step c.args.length c.args.change c.args.bytes.now.items
    c.pack_number.new.bytes.items c.pack_number-2.new.bytes.items c.pack_number-3.new.bytes.items c.pack_number-4.new.bytes.items
    c.in_ok-pack_number.ensures.packed c.in_ok-pack_number-2.ensures.packed c.in_ok-pack_number-3.ensures.packed last)
    c.pack_number-4.ensures.packed
