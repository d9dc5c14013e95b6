use Rattle.std.proofs.Common.{refl, sym, arith}
use Rattle.pd_kinds.specs.declared.kind.Kind.TheVariants.{Cache}
use Rattle.pd_kinds.specs.CacheFormat.{cache_super_bad}
use Rattle.pd_repair.specs.declared.repair.RepairFault.TheVariants.{NoSuper}
use Rattle.pd_repair.proofs.SuperLemmas.{broken_reported, none_broken, other_named}
use Rattle.pd_repair.proofs.CacheLemmas.{cache_bad, named_range, never_repaired, repaired_sound, sound_fields}
use Rattle.pd_repair.proofs.cache_repair.repair_read.Goals as goal

pub repair_from-requires-clause-own : goal.repair_from-requires-clause-own
repair_from-requires-clause-own g c =
    let sound = none_broken c.cache_super_rules-rules.result (cache_super_bad c.args.blocks c.args.first.now.0) c.cache_super_rules-rules.ensures (λ rule. c.if-is_empty.ensures.0 refl rule) in
    rw (c.over-s.ensures, c.read_cache_super.ensures) (named_range c.args.named c.args.blocks _ (sound_fields c.args.blocks c.args.first.now.0 sound)).version

pub repair_from-requires-clause-hints : goal.repair_from-requires-clause-hints
repair_from-requires-clause-hints g c =
    let sound = none_broken c.cache_super_rules-rules.result (cache_super_bad c.args.blocks c.args.first.now.0) c.cache_super_rules-rules.ensures (λ rule. c.if-is_empty.ensures.0 refl rule) in
    rw (c.over-s.ensures, c.read_cache_super.ensures) (named_range c.args.named c.args.blocks _ (sound_fields c.args.blocks c.args.first.now.0 sound)).hint_size

pub repair_from-requires-clause-there : goal.repair_from-requires-clause-there
repair_from-requires-clause-there g c =
    let sound = none_broken c.cache_super_rules-rules.result (cache_super_bad c.args.blocks c.args.first.now.0) c.cache_super_rules-rules.ensures (λ rule. c.if-is_empty.ensures.0 refl rule) in
    rw (c.over-s.ensures, c.read_cache_super.ensures, sym c.requires.number) (named_range c.args.named c.args.blocks _ (sound_fields c.args.blocks c.args.first.now.0 sound)).within

pub returns-then-is_empty-clause-repaired : goal.returns-then-is_empty-clause-repaired
returns-then-is_empty-clause-repaired g c =
    let sound = none_broken c.cache_super_rules-rules.result (cache_super_bad c.args.blocks c.args.first.now.0) c.cache_super_rules-rules.ensures (λ rule. c.if-is_empty.ensures.0 refl rule) in
    repaired_sound c.args.version c.args.named c.repair_from.result c.args.blocks c.args.first.now.0 (g.A.Device.state c.args.input.now) (g.A.Device.state c.repair_from.new.input)
    (g.B.Device.state c.args.output.now) (g.B.Device.state c.repair_from.new.output) c.requires.first sound c.repair_from.ensures.sound (rw (c.over-s.ensures, c.read_cache_super.ensures) at c.repair_from.ensures.repaired)

pub returns-else-is_empty-clause-repaired : goal.returns-else-is_empty-clause-repaired
returns-else-is_empty-clause-repaired g c =
    let from = g.A.Device.state c.args.input.now in
    never_repaired c.args.version c.args.named from.reads (NoSuper c.cache_super_rules-rules.result) from from (g.B.Device.state c.args.output.now) refl (omega arith)
    (broken_reported Cache cache_super_bad cache_bad from.held c.args.blocks c.args.first.now.0 c.cache_super_rules-rules.result c.requires.first c.cache_super_rules-rules.ensures
    (λ none. let e = c.if-is_empty.ensures.1 none in cc))

pub returns-then-is_empty-clause-named : goal.returns-then-is_empty-clause-named
returns-then-is_empty-clause-named g c = other_named c.repair_from.result c.repair_from.ensures.sound

pub returns-else-is_empty-clause-named : goal.returns-else-is_empty-clause-named
returns-else-is_empty-clause-named g c none = let e = c.if-is_empty.ensures.1 none in cc
