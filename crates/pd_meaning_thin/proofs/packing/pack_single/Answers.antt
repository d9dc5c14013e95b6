use Rattle.std.proofs.lemmas.Result.{on_ok_weaker}
use Rattle.pd_meaning_thin.proofs.PackedLemmas.{put-moved, put-unchanged}
use Rattle.pd_meaning_thin.proofs.packing.pack_single.Goals as goal

pub returns-then-change-eq0-clause-packed : goal.returns-then-change-eq0-clause-packed
returns-then-change-eq0-clause-packed c =
    on_ok_weaker c.pack_number.result
    (λ last. put-unchanged c.args.bytes.now.items c.pack_number.new.bytes.items c.args.step c.args.change c.if-change-eq0.true last)
    c.pack_number.ensures.packed

pub returns-clause-packed : goal.returns-clause-packed
returns-clause-packed c =
    on_ok_weaker c.pack_number-3.result
    (λ last. put-moved c.args.bytes.now.items c.pack_number-2.new.bytes.items c.pack_number-3.new.bytes.items c.args.step c.args.change
    c.if-change-eq0.false c.in_ok-pack_number.ensures.packed last)
    c.pack_number-3.ensures.packed
