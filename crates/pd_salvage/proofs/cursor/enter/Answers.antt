use Rattle.std.proofs.Common.{◌≡◌, ◌-◌, false, None, refl, subst, sym, arith}
use Rattle.std.proofs.lemmas.Bool.{not-false, not-true}
use Rattle.std.proofs.lemmas.Option.{IfSome_then}
use Rattle.pd_kinds.proofs.ResultLemmas.{if_any}
use Rattle.pd_laid.specs.Salvage.{is_damaged}
use Rattle.pd_tree.proofs.NextLemmas.{if_both}
use Rattle.pd_tree.proofs.StackLemmas.{unit_some}
use Rattle.pd_tree.specs.Stack.{last_place}
use Rattle.pd_salvage.specs.declared.way.Way.{Way}
use Rattle.pd_salvage.specs.Way.{PushesNode}
use Rattle.pd_salvage.specs.Way.{is_undamaged}
use Rattle.pd_salvage.specs.Range.{is_wanted}
use Rattle.pd_salvage.specs.Way.{frontier}
use Rattle.pd_salvage.proofs.RangeLemmas.{wanted}
use Rattle.pd_salvage.proofs.RangeLemmas.{pushed_popped, saved_damaged, saved_pushed, saved_unwanted}
use Rattle.pd_salvage.proofs.cursor.enter.Goals as goal

pub returns-then-not-is_wanted-clause-left : goal.returns-then-not-is_wanted-clause-left
returns-then-not-is_wanted-clause-left g c =
    let out : is_wanted c.args.nr c.args.b c.args.range ≡ false = (cc) in
    if_any (g.D.Device.state c.args.dev.now).held (λ image.
    rw (saved_unwanted g.V.Value.SIZE g.V.Value.decoded c.args.nr image (64 - c.args.way.now.stack.depth) c.args.b c.args.range out) refl)

pub returns-then-not-is_wanted-clause-number : goal.returns-then-not-is_wanted-clause-number
returns-then-not-is_wanted-clause-number g c = omega (arith, unit_some (64 - c.args.way.now.stack.depth))

pub returns-else-is_sound-clause-left : goal.returns-else-is_sound-clause-left
returns-else-is_sound-clause-left g c =
    let held = (g.D.Device.state c.args.dev.now).held in
    let old = c.args.way.now in
    let pushes =
    subst (λ (way : Way). PushesNode g.V.Value.SIZE (g.D.Device.state c.args.dev.now).held c.args.b c.args.range way c.push.new.self) c.if-again.ensures c.in_ok-push.ensures.pushes in
    let same = pushed_popped g.V.Value.SIZE held c.args.b c.args.range old c.push.new.self c.pop.new.self pushes c.pop.ensures in
    let damaged = not-false (is_damaged g.V.Value.SIZE c.args.b c.top.result.now.0) (sym c.if-is_sound.ensures) in
    IfSome_then held pushes.read (λ image read.
    saved_damaged g.V.Value.SIZE g.V.Value.decoded c.args.nr image (64 - old.stack.depth) c.args.b c.args.range old c.pop.new.self same (rw (read, ← c.top.ensures) damaged))

pub returns-else-is_sound-clause-number : goal.returns-else-is_sound-clause-number
returns-else-is_sound-clause-number g c =
    let pushes =
    subst (λ (way : Way). PushesNode g.V.Value.SIZE (g.D.Device.state c.args.dev.now).held c.args.b c.args.range way c.push.new.self) c.if-again.ensures c.in_ok-push.ensures.pushes in
    let old = c.args.way.now in
    let same = pushed_popped g.V.Value.SIZE (g.D.Device.state c.args.dev.now).held c.args.b c.args.range old c.push.new.self c.pop.new.self pushes c.pop.ensures in
    omega (arith, same.number, unit_some (64 - old.stack.depth))

pub returns-else-is_sound-clause-knows : goal.returns-else-is_sound-clause-knows
returns-else-is_sound-clause-knows g c =
    let pushes =
    subst (λ (way : Way). PushesNode g.V.Value.SIZE (g.D.Device.state c.args.dev.now).held c.args.b c.args.range way c.push.new.self) c.if-again.ensures c.in_ok-push.ensures.pushes in
    let same = pushed_popped g.V.Value.SIZE (g.D.Device.state c.args.dev.now).held c.args.b c.args.range c.args.way.now c.push.new.self c.pop.new.self pushes c.pop.ensures in
    IfSome_then (g.D.Device.state c.args.dev.now).held c.requires.knows (λ image known. same.knows (is_undamaged g.V.Value.SIZE) image known)

pub returns-then-is_sound-clause-left : goal.returns-then-is_sound-clause-left
unfolding frontier
returns-then-is_sound-clause-left g c =
    let held = (g.D.Device.state c.args.dev.now).held in
    let old = c.args.way.now in
    let pushes =
    subst (λ (way : Way). PushesNode g.V.Value.SIZE (g.D.Device.state c.args.dev.now).held c.args.b c.args.range way c.push.new.self) c.if-again.ensures c.in_ok-push.ensures.pushes in
    let sound = not-true (is_damaged g.V.Value.SIZE c.args.b c.top.result.now.0) (sym c.if-is_sound.ensures) in
    IfSome_then held pushes.read (λ image read.
    rw (c.keep.ensures.stack, c.keep.ensures.ranges)
    (saved_pushed g.V.Value.SIZE g.V.Value.decoded c.args.nr image held c.args.b c.args.range old c.push.new.self pushes c.requires.room read
    (wanted c.args.nr c.args.b c.args.range (cc)).0 (rw c.top.ensures at sound)))

pub returns-then-is_sound-clause-number : goal.returns-then-is_sound-clause-number
returns-then-is_sound-clause-number g c =
    let pushes =
    subst (λ (way : Way). PushesNode g.V.Value.SIZE (g.D.Device.state c.args.dev.now).held c.args.b c.args.range way c.push.new.self) c.if-again.ensures c.in_ok-push.ensures.pushes in
    rw c.keep.ensures.stack pushes.number

pub returns-then-is_sound-clause-knows : goal.returns-then-is_sound-clause-knows
returns-then-is_sound-clause-knows g c =
    let pushes =
    subst (λ (way : Way). PushesNode g.V.Value.SIZE (g.D.Device.state c.args.dev.now).held c.args.b c.args.range way c.push.new.self) c.if-again.ensures c.in_ok-push.ensures.pushes in
    if_both (g.D.Device.state c.args.dev.now).held
    (λ image held_is known read.
    c.keep.ensures.knows (is_undamaged g.V.Value.SIZE) image (pushes.knows (is_undamaged g.V.Value.SIZE) image known) (record { read = read; is_good = rw c.top.ensures at (sym c.if-is_sound.ensures) }))
    c.requires.knows pushes.read

pub returns-then-again-clause-left : goal.returns-then-again-clause-left
returns-then-again-clause-left g c =
    let size = g.V.Value.SIZE in
    let old = c.args.way.now in
    let takes = c.if-again.ensures in
    IfSome_then (g.D.Device.state c.args.dev.now).held c.requires.knows (λ image known.
    let holds = takes.holds (is_undamaged size) image known in
    saved_pushed size g.V.Value.decoded c.args.nr image None c.args.b c.args.range old c.again.new.self takes.pushes c.requires.room holds.read
    (wanted c.args.nr c.args.b c.args.range (cc)).0 (not-true (is_damaged size c.args.b (last_place c.again.new.self.stack).block.0) holds.is_good))

pub returns-then-again-clause-number : goal.returns-then-again-clause-number
returns-then-again-clause-number g c =
    let takes = c.if-again.ensures in
    takes.pushes.number

pub returns-then-again-clause-knows : goal.returns-then-again-clause-knows
returns-then-again-clause-knows g c =
    let takes = c.if-again.ensures in
    IfSome_then (g.D.Device.state c.args.dev.now).held c.requires.knows (λ image known. takes.pushes.knows (is_undamaged g.V.Value.SIZE) image known)
