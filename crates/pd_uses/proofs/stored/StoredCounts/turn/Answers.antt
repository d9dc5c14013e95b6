use Rattle.std.proofs.Common.{◌≡◌, ◌+◌, ◌*◌, ◌/◌, ◌%◌, ◌∙◌, ℕ, arith, rules}
use Rattle.std.proofs.lemmas.Result.{on_ok_weaker}
use Rattle.pd_kinds.specs.Bitmap.{bitmaps_for}
use Rattle.pd_kinds.proofs.ResultLemmas.{if_all, if_then, if_three}
use Rattle.pd_tree.specs.Cursor.{cursor_items}
use Rattle.pd_smap.specs.Overflow.{index_from, overflow_items}
use Rattle.pd_uses.proofs.StoredLemmas.{left_many, turned}
use Rattle.pd_uses.proofs.stored.StoredCounts.turn.Goals as goal

pub returns-then-self-ne0-clause-left : goal.returns-then-self-ne0-clause-left
returns-then-self-ne0-clause-left g c =
    let at = c.args.self.now.at in
    if_all (g.D.Device.state c.args.dev.now).held _ (λ image map left.
    left_many image map (bitmaps_for at) (at / 16320 + 1) at c.args.bitmap.now.0 _ _ (omega (arith, c.if-self-ne0.true)) left)

pub returns-clause-left : goal.returns-clause-left
returns-clause-left g c =
    let at = c.args.self.now.at in
    on_ok_weaker c.read_bitmap.result (λ read.
    if_three (g.D.Device.state c.args.dev.now).held _ _ _ _ (λ image first rest read map left.
    left_many image map (bitmaps_for at + 1) (at / 16320 + 1) at c.read_bitmap.new.bitmap.0 (cursor_items 16 index_from image c.next_place.new.index) (overflow_items c.args.self.now.overflow image) (omega (arith, c.if-self-ne0.false))
    (turned image map (bitmaps_for at) at c.in_ok-place.place c.args.bitmap.now.0 c.read_bitmap.new.bitmap.0 (cursor_items 16 index_from image c.args.self.now.index) (cursor_items 16 index_from image c.next_place.new.index)
    (overflow_items c.args.self.now.overflow image) (omega (arith, c.if-self-ne0.false)) first rest read left))
    c.in_ok-place.ensures.first c.in_ok-place.ensures.rest (rw c.in_ok-place.ensures.kept.held at read)) c.read_bitmap.ensures.counts
