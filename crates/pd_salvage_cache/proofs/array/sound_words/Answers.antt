use Rattle.std.proofs.Common.{◌∙◌}
use Rattle.pd_array.specs.Word.{size_of}
use Rattle.pd_kinds.specs.Array.{array_bad}
use Rattle.pd_kinds.specs.Rule.{has_rule}
use Rattle.pd_laid.specs.SavedCache.{is_array_damaged}
use Rattle.pd_salvage.proofs.WayLemmas.{sound_is}
use Rattle.pd_salvage_cache.proofs.HeldLemmas.{count_lost, count_sound}
use Rattle.pd_salvage_cache.proofs.array.sound_words.Goals as goal

pub returns-then-is_empty-clause-count : goal.returns-then-is_empty-clause-count
unfolding is_array_damaged
returns-then-is_empty-clause-count c =
    let block = c.args.block.now.0 in
    let size = size_of c.args.word in
    c.array_len.ensures
    ∙ count_sound size c.args.place block c.is_empty.result
    (sound_is (array_bad size c.args.place block) (has_rule c.array_rules.result) c.is_empty.result c.array_rules.ensures c.is_empty.ensures) c.if-is_empty.true

pub returns-else-is_empty-clause-count : goal.returns-else-is_empty-clause-count
unfolding is_array_damaged
returns-else-is_empty-clause-count c =
    let block = c.args.block.now.0 in
    let size = size_of c.args.word in
    count_lost size c.args.place block c.is_empty.result
    (sound_is (array_bad size c.args.place block) (has_rule c.array_rules.result) c.is_empty.result c.array_rules.ensures c.is_empty.ensures) c.if-is_empty.false
