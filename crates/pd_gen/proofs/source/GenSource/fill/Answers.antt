use Rattle.std.proofs.Common.{◌-◌, ◌≤◌, length, ◌∙◌}
use Rattle.pd_gen.specs.GenSource.{text_left}
use Rattle.pd_gen.proofs.Putting.{moved_more, moved_within}
use Rattle.pd_gen.proofs.source.GenSource.fill.Goals as goal

pub loop-filled-preserved : goal.loop-filled-preserved
loop-filled-preserved c =
    let a = c.loop-filled.filled in
    let n = c.move_bytes-filled.result in
    let xs = c.loop-filled.into in
    let ys = c.move_bytes-filled.new.into in
    let within : a ≤ length xs = c.loop-filled.invariant.0 in (
      moved_within a (length xs - a) n xs ys within c.move_bytes-filled.ensures.within,
      (
        moved_more a (length xs - a) n xs ys (text_left c.loop-filled.self) (text_left c.move_bytes-filled.new.self) (text_left c.args.self.now)
            within c.move_bytes-filled.ensures.within c.loop-filled.invariant.1.0 (c.move_bytes-filled.ensures.moved ∙ c.has_more.ensures.left),
        c.move_bytes-filled.ensures.kept ∙ c.has_more.ensures.kept ∙ c.loop-filled.invariant.1.1,
      ),
    )
