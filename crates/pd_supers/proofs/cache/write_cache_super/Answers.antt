use Rattle.std.proofs.Common.{◌≡◌, length, rules}
use Rattle.std.proofs.Math.Bool.{and-false}
use Rattle.pd_kinds.specs.declared.kind.Kind.TheVariants.{Cache}
use Rattle.pd_kinds.specs.declared.rule.Rule.TheVariants as r
use Rattle.pd_kinds.specs.Rule.{failing}
use Rattle.pd_kinds.specs.CacheFormat.{cache_super_bad, cache_super_block, cache_super_tests}
use Rattle.pd_kinds.proofs.SuperLemmas.{met_by_tests, place_tested}
use Rattle.pd_supers.proofs.CacheWritten.{reads_back}
use Rattle.pd_supers.proofs.cache.write_cache_super.Goals as goal

pub returns-clause-block : goal.returns-clause-block
unfolding cache_super_block
returns-clause-block c = cc

pub returns-clause-reads_back : goal.returns-clause-reads_back
returns-clause-reads_back c =
    let sixteen : length c.args.s.now.uuid ≡ 16 = search rules in
    let policy : length c.args.s.now.policy ≡ 16 = search rules in
    let parts : length c.args.s.now.versions ≡ 3 = search rules in
    rw (returns-clause-block c)
    (reads_back c.args.s.now sixteen policy parts c.requires.dirty_root (rw c.rows_of.ensures at c.put_rows.ensures.fit))

pub returns-clause-checksum : goal.returns-clause-checksum
unfolding cache_super_bad cache_super_tests failing
returns-clause-checksum c = λ n.
    met_by_tests Cache c.super_block.result.0 (cache_super_tests n c.super_block.result.0) r.Checksum c.super_block.ensures.valid (simp and-false)

pub returns-clause-place : goal.returns-clause-place
unfolding cache_super_bad cache_super_tests failing
returns-clause-place c = λ n.
    met_by_tests Cache c.super_block.result.0 (cache_super_tests n c.super_block.result.0) r.Place c.super_block.ensures.valid
    (simp (and-false, place_tested Cache c.super_block.result.0 c.super_block.ensures.valid))

pub returns-clause-magic : goal.returns-clause-magic
unfolding cache_super_bad cache_super_tests failing
returns-clause-magic c = λ n.
    met_by_tests Cache c.super_block.result.0 (cache_super_tests n c.super_block.result.0) r.Magic c.super_block.ensures.valid (simp and-false)
