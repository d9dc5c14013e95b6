use Rattle.std.proofs.Common.{refl}
use Rattle.pd_kinds.specs.declared.kind.Kind.TheVariants.{Cache}
use Rattle.pd_kinds.specs.CacheFormat.{cache_super_bad}
use Rattle.pd_repair.proofs.CacheLemmas.{broken_faults, found_sound}
use Rattle.pd_repair.proofs.SuperLemmas.{first_read, missing_faulty, none_broken}
use Rattle.pd_repair.proofs.cache_super.sound_cache_super.Goals as goal

pub returns-then-blocks-eq0-clause-broken : goal.returns-then-blocks-eq0-clause-broken
returns-then-blocks-eq0-clause-broken g c none = missing_faulty Cache (g.D.Device.state c.args.dev.now).held c.blocks-blocks.result c.if-blocks-eq0.true c.blocks-blocks.ensures.honest

pub returns-then-is_empty-clause-sound : goal.returns-then-is_empty-clause-sound
returns-then-is_empty-clause-sound g c =
    let from = g.D.Device.state c.args.dev.now in
    let blocks = c.blocks-blocks.result in
    let first = c.read.new.into.0 in
    let found = first_read from.held blocks first c.blocks-blocks.ensures.honest c.in_ok-read.ensures.content in
    let sound = none_broken c.cache_super_rules-rules.result (cache_super_bad blocks first) c.cache_super_rules-rules.ensures (λ rule. c.if-is_empty.ensures.0 refl rule) in
    found_sound from blocks first c.read_cache_super.result c.blocks-blocks.ensures.count found sound c.read_cache_super.ensures

pub returns-else-is_empty-clause-broken : goal.returns-else-is_empty-clause-broken
returns-else-is_empty-clause-broken g c none =
    let from = g.D.Device.state c.args.dev.now in
    let blocks = c.blocks-blocks.result in
    let first = c.read.new.into.0 in
    let found = first_read from.held blocks first c.blocks-blocks.ensures.honest c.in_ok-read.ensures.content in
    broken_faults from.held blocks first c.cache_super_rules-rules.result found c.cache_super_rules-rules.ensures (λ all. let e = c.if-is_empty.ensures.1 all in cc)
