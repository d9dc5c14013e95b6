use Rattle.std.proofs.Common.{◌+◌, ◌/◌, ℕ, ap, sym, arith}
use Rattle.pd_kinds.specs.Bitmap.{bitmaps_for}
use Rattle.pd_kinds.proofs.ResultLemmas.{if_three}
use Rattle.pd_tree.specs.Cursor.{cursor_items}
use Rattle.pd_smap.specs.Overflow.{index_from, overflow_items}
use Rattle.pd_uses.proofs.StoredLemmas.{left_later, left_many}
use Rattle.pd_uses.proofs.stored.StoredCounts.next.Goals as goal

pub returns-clause-told : goal.returns-clause-told
returns-clause-told g c =
    let held = (g.D.Device.state c.args.dev.now).held in
    let at = c.look.new.self.at in
    let later = at + c.in_ok-stretch.stretch.length in
    if_three held _ _ _ _ (λ image turned told left map before.
    let first = left_many image map (c.args.self.now.at / 16320 + 1) (c.turn.new.self.at / 16320 + 1) c.turn.new.self.at c.turn.new.bitmap.0 (cursor_items 16 index_from image c.turn.new.self.index) (overflow_items c.turn.new.self.overflow image)
    (ap (λ (n : ℕ). n / 16320 + 1) (sym c.in_ok-turn.ensures.at)) (turned map before) in
    let rest = left map first in
    record {
      told = told map first;
      left = left_later image map (bitmaps_for (c.turn.new.self.at + c.in_ok-stretch.stretch.length)) (bitmaps_for later) at later c.turn.new.bitmap.0 (cursor_items 16 index_from image c.look.new.self.index) (overflow_items c.look.new.self.overflow image) (overflow_items c.look.new.self.overflow image)
          (omega (arith, c.in_ok-stretch.ensures.at)) (omega arith) rest.ahead rest;
    }) c.in_ok-turn.ensures.left (rw c.in_ok-turn.ensures.kept.held at c.in_ok-stretch.ensures.told) (rw c.in_ok-turn.ensures.kept.held at c.in_ok-stretch.ensures.left)
