use Rattle.std.proofs.Common.{◌+◌, arith}
use Rattle.pd_repair.proofs.SuperLemmas.{broken_found, first_read, missing_super, none_blamed, sound_found, unread_super}
use Rattle.pd_repair.proofs.repair.sound_super.Goals as goal

pub returns-then-blocks-eq0-clause-lacks : goal.returns-then-blocks-eq0-clause-lacks
returns-then-blocks-eq0-clause-lacks g c =
    let from = g.A.Device.state c.args.input.now in
    missing_super from.held c.blocks-blocks.result (from.reads + 1) from.reads c.missing_super.result c.if-blocks-eq0.true c.blocks-blocks.ensures.honest c.missing_super.ensures (omega arith)

pub returns-in-Ok-clause-sound : goal.returns-in-Ok-clause-sound
returns-in-Ok-clause-sound g c =
    let from = g.A.Device.state c.args.input.now in
    let found = first_read from.held c.blocks-blocks.result c.read.new.into.0 c.blocks-blocks.ensures.honest c.in-Ok.ensures.content in
    sound_found c.super_in.result c.blocks-blocks.result c.read.new.into.0 from c.blocks-blocks.ensures.count found c.super_in.ensures.sound

pub returns-in-Ok-clause-lacks : goal.returns-in-Ok-clause-lacks
returns-in-Ok-clause-lacks g c =
    let from = g.A.Device.state c.args.input.now in
    let found = first_read from.held c.blocks-blocks.result c.read.new.into.0 c.blocks-blocks.ensures.honest c.in-Ok.ensures.content in
    broken_found c.super_in.result c.blocks-blocks.result (from.reads + 1) (g.A.Device.state c.read.new.self).reads c.read.new.into.0 from.held found c.in-Ok.ensures.reads c.super_in.ensures.broken

pub returns-in-Ok-clause-causes : goal.returns-in-Ok-clause-causes
returns-in-Ok-clause-causes g c output =
    none_blamed c.super_in.result c.blocks-blocks.result (g.A.Device.state c.args.input.now).faults (g.A.Device.state c.read.new.self).faults output c.read.new.into.0 c.in-Ok.ensures.faults c.super_in.ensures.broken

pub returns-in-Err-clause-lacks : goal.returns-in-Err-clause-lacks
returns-in-Err-clause-lacks g c =
    let from = g.A.Device.state c.args.input.now in
    unread_super from.held (from.reads + 1) (g.A.Device.state c.read.new.self).reads
