use Rattle.std.proofs.Common.{◌≡◌, ◌≤◌, ◌∙◌, arith}
use Rattle.pd_kinds.specs.Image.{room_of}
use Rattle.pd_grammar.specs.CacheText.{cache_need}
use Rattle.pd_salvage_cache.specs.SavedCache.{held_cache}
use Rattle.pd_restoring.proofs.EndingLemmas.{resting_short}
use Rattle.pd_restore_kinds.specs.Caches.{cache_content}
use Rattle.pd_restore_kinds.proofs.WriteLemmas.{saved_made, saved_unwritten}
use Rattle.pd_restore_kinds.proofs.cache_writing.restore_saved_cache.Goals as goal

pub returns-then-need-room-clause-made : goal.returns-then-need-room-clause-made
returns-then-need-room-clause-made g c =
    let old = g.D.Device.state c.args.dev.now in
    let here : c.min-room.result ≡ room_of old.blocks = omega (arith, c.min-room.ensures, c.blocks-2.ensures.count) in
    let exact : c.need_cache-need.result ≡ cache_need c.args.version (held_cache c.args.saved.now) c.min-room.result = rw c.head-head.ensures.head at c.need_cache-need.ensures.need in
    resting_short (cache_content c.args.version (held_cache c.args.saved.now)) c.need_cache-need.result c.min-room.result old here exact c.if-need-room.true

pub write_closed-requires-clause-need : goal.write_closed-requires-clause-need
write_closed-requires-clause-need g c =
    let exact : c.need_cache-need.result ≡ cache_need c.args.version (held_cache c.args.saved.now) c.min-room.result = rw c.head-head.ensures.head at c.need_cache-need.ensures.need in
    omega (arith, exact, c.if-need-room.false)

pub returns-in-Ok-clause-made : goal.returns-in-Ok-clause-made
returns-in-Ok-clause-made g c =
    let old = g.D.Device.state c.args.dev.now in
    let here : c.min-room.result ≡ room_of old.blocks = omega (arith, c.min-room.ensures, c.blocks-2.ensures.count) in
    let exact : c.need_cache-need.result ≡ cache_need c.args.version (held_cache c.args.saved.now) c.min-room.result = rw c.head-head.ensures.head at c.need_cache-need.ensures.need in
    let fits : cache_need c.args.version (held_cache c.args.saved.now) c.min-room.result ≤ c.min-room.result = omega (arith, exact, c.if-need-room.false) in
    saved_made (held_cache c.args.saved.now) c.args.version c.min-room.result old (g.D.Device.state c.clear.new.dev) here fits c.clear.ensures.crash
    (g.D.Device.state c.write_closed.new.dev) (c.write_closed.ensures.told ∙ c.clear.ensures.told) c.in-Ok.ensures.content (g.met.D.Device.measured c.args.dev.now)
    c.head-head.ensures.sound c.write_closed.result c.write_closed.ensures.lays

pub returns-in-Err-clause-made : goal.returns-in-Err-clause-made
returns-in-Err-clause-made g c =
    let old = g.D.Device.state c.args.dev.now in
    let here : c.min-room.result ≡ room_of old.blocks = omega (arith, c.min-room.ensures, c.blocks-2.ensures.count) in
    let exact : c.need_cache-need.result ≡ cache_need c.args.version (held_cache c.args.saved.now) c.min-room.result = rw c.head-head.ensures.head at c.need_cache-need.ensures.need in
    let fits : cache_need c.args.version (held_cache c.args.saved.now) c.min-room.result ≤ c.min-room.result = omega (arith, exact, c.if-need-room.false) in
    saved_unwritten (held_cache c.args.saved.now) c.args.version c.min-room.result old (g.D.Device.state c.clear.new.dev) here fits c.clear.ensures.crash c.clear.ensures.told
