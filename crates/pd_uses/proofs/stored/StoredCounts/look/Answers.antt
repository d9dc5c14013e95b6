use Rattle.std.proofs.Common.{◌≡◌, ◌+◌, ◌*◌, ◌/◌, ◌%◌, ◌≤◌, ◌∙◌, ℕ, arith, min}
use Rattle.pd_kinds.specs.Bitmap.{bitmaps_for}
use Rattle.pd_kinds.specs.Trees.{value_of_key}
use Rattle.pd_kinds.proofs.ResultLemmas.{if_all, if_maps}
use Rattle.pd_smap.specs.Overflow.{overflow_of}
use Rattle.pd_uses.proofs.StoredLemmas.{block_told, group_told, left_later}
use Rattle.pd_uses.proofs.stored.StoredCounts.look.Goals as goal

pub returns-in-Some-clause-told : goal.returns-in-Some-clause-told
returns-in-Some-clause-told g c =
    let at = c.args.self.now.at in
    let seen = rw c.in-Some.is at c.group_number.ensures in
    if_all (g.D.Device.state c.args.dev.now).held _ (λ image map left.
    group_told image map at (at % 16320 / 32) c.in-Some.number c.min.result c.args.bitmap.now.0 _ _ (omega (arith, seen.0)) (omega (arith, c.min.ensures)) seen.1 left)

pub returns-in-Some-clause-left : goal.returns-in-Some-clause-left
returns-in-Some-clause-left g c =
    let at = c.args.self.now.at in
    let seen = rw c.in-Some.is at c.group_number.ensures in
    if_all (g.D.Device.state c.args.dev.now).held _ (λ image map left.
    left_later image map (at / 16320 + 1) (bitmaps_for (at + c.min.result)) at at c.args.bitmap.now.0 _ _ _ (omega (arith, seen.0, c.min.ensures, c.requires.some)) (omega arith) left.ahead left)

pub returns-clause-told : goal.returns-clause-told
returns-clause-told g c =
    let at = c.args.self.now.at in
    if_maps (g.D.Device.state c.args.dev.now).held _ _ (λ image unused map left.
    block_told image map at c.in_ok-unused.unused c.args.bitmap.now.0 _ _ (unused (value_of_key (overflow_of image map.overflow_root)) left.ahead) left) c.in_ok-unused.ensures.unused

pub returns-clause-left : goal.returns-clause-left
returns-clause-left g c =
    let at = c.args.self.now.at in
    if_maps (g.D.Device.state c.args.dev.now).held _ _ (λ image ahead map left.
    left_later image map (at / 16320 + 1) (bitmaps_for (at + 1)) at at c.args.bitmap.now.0 _ _ _ (omega arith) (omega arith) (ahead (value_of_key (overflow_of image map.overflow_root)) left.ahead) left) c.in_ok-unused.ensures.ahead
