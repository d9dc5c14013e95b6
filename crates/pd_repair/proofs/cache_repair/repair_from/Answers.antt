use Rattle.std.proofs.Common.{rules, ◌≡◌, arith}
use Rattle.pd_kinds.specs.Image.{room_of}
use Rattle.pd_repair.proofs.CacheLemmas.{all_made, never_made, never_saved, no_room, room_fits}
use Rattle.pd_repair.proofs.cache_repair.repair_from.Goals as goal

pub returns-then-need-room-clause-repaired : goal.returns-then-need-room-clause-repaired
returns-then-need-room-clause-repaired g c =
    let old = g.B.Device.state c.args.output.now in
    let here : c.min-room.result ≡ room_of old.blocks = omega (arith, c.min-room.ensures, c.blocks-2.ensures.count) in
    no_room c.args.s.now c.args.version c.need_cache-need.result c.min-room.result (g.A.Device.state c.args.input.now) old here
    (rw c.unwrap_or-written.ensures at c.need_cache-need.ensures.need) c.if-need-room.true

pub returns-in_err-saved-clause-repaired : goal.returns-in_err-saved-clause-repaired
returns-in_err-saved-clause-repaired g c =
    let old = g.B.Device.state c.args.output.now in
    let here : c.min-room.result ≡ room_of old.blocks = omega (arith, c.min-room.ensures, c.blocks-2.ensures.count) in
    let fits = room_fits c.args.s.now c.args.version c.need_cache-need.result c.min-room.result old here (rw c.unwrap_or-written.ensures at c.need_cache-need.ensures.need) (omega (arith, c.if-need-room.false)) in
    never_saved c.args.s.now c.args.version (g.A.Device.state c.args.input.now) (g.A.Device.state c.salvage_cache.new.dev) old fits c.in_err-saved.field-0.0 c.from_residual.result (search rules)

pub returns-in_err-restore_saved_cache-clause-repaired : goal.returns-in_err-restore_saved_cache-clause-repaired
returns-in_err-restore_saved_cache-clause-repaired g c =
    let old = g.B.Device.state c.args.output.now in
    let here : c.min-room.result ≡ room_of old.blocks = omega (arith, c.min-room.ensures, c.blocks-2.ensures.count) in
    let fits = room_fits c.args.s.now c.args.version c.need_cache-need.result c.min-room.result old here (rw c.unwrap_or-written.ensures at c.need_cache-need.ensures.need) (omega (arith, c.if-need-room.false)) in
    never_made c.args.s.now c.args.version (g.A.Device.state c.args.input.now) (g.A.Device.state c.salvage_cache.new.dev) old fits
    c.in_ok-saved.saved c.in_ok-saved.ensures.saved c.in_ok-saved.ensures.unknown c.in_ok-saved.ensures.head (g.B.Device.state c.restore_saved_cache.new.dev)
    c.in_err-restore_saved_cache.field-0.0 c.from_residual-in_err-restore_saved_cache.result (search rules) (rw c.unwrap_or-written.ensures at c.in_err-restore_saved_cache.ensures.made)

pub returns-clause-repaired : goal.returns-clause-repaired
returns-clause-repaired g c =
    let old = g.B.Device.state c.args.output.now in
    let here : c.min-room.result ≡ room_of old.blocks = omega (arith, c.min-room.ensures, c.blocks-2.ensures.count) in
    let fits = room_fits c.args.s.now c.args.version c.need_cache-need.result c.min-room.result old here (rw c.unwrap_or-written.ensures at c.need_cache-need.ensures.need) (omega (arith, c.if-need-room.false)) in
    all_made c.args.s.now c.args.version (g.A.Device.state c.args.input.now) (g.A.Device.state c.salvage_cache.new.dev) old fits
    c.in_ok-saved.saved c.in_ok-saved.ensures.saved c.in_ok-saved.ensures.unknown c.in_ok-saved.ensures.head (g.B.Device.state c.restore_saved_cache.new.dev)
    c.kept_of.result c.kept_of.ensures (rw c.unwrap_or-written.ensures at c.in_ok-restore_saved_cache.ensures.made)
