use Rattle.std.proofs.Common.{◌≡◌, ◌+◌, ap, arith}
use Rattle.pd_tests_parts.proofs.MapNeeds.{small_need, none_past}
use Rattle.pd_tests_parts.proofs.map_tests.put_meta_map.Goals as goal

pub write_meta_map-requires-clause-within : goal.write_meta_map-requires-clause-within
write_meta_map-requires-clause-within g c =
    let need = small_need c.args.counts.now c.requires.size c.requires.counted in
    let moved : c.put_block.new.draft.next ≡ c.on_closed-draft.result.next + 1 = c.in_ok-put_block.ensures.wrote.moved in
    omega (arith, c.on_closed-draft.ensures.next, c.requires.size)

pub write_meta_map-requires-clause-none : goal.write_meta_map-requires-clause-none
write_meta_map-requires-clause-none g c = λ b from below.
    let moved : c.put_block.new.draft.next ≡ c.on_closed-draft.result.next + 1 = c.in_ok-put_block.ensures.wrote.moved in
    none_past c.args.counts.now c.requires.counted b (omega (arith, c.on_closed-draft.ensures.next))

pub write_meta_map-requires-clause-room : goal.write_meta_map-requires-clause-room
write_meta_map-requires-clause-room g c =
    let need = small_need c.args.counts.now c.requires.size c.requires.counted in
    let wrote = c.in_ok-put_block.ensures.wrote in
    let moved : c.put_block.new.draft.next ≡ c.on_closed-draft.result.next + 1 = wrote.moved in
    let kept = wrote.stays.kept.blocks in
    let same : (g.D.Device.state c.on_closed-draft.result.dev.now).blocks ≡ (g.D.Device.state c.args.dev.now).blocks =
    ap (λ (dev : _). (g.D.Device.state dev).blocks) c.on_closed-draft.ensures.same in
    omega (arith, c.on_closed-draft.ensures.next, c.requires.room)
