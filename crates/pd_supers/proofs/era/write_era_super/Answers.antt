use Rattle.std.proofs.Common.{◌≡◌, length, rules}
use Rattle.std.proofs.Math.Bool.{and-false}
use Rattle.pd_kinds.specs.declared.kind.Kind.TheVariants.{Era}
use Rattle.pd_kinds.specs.declared.rule.Rule.TheVariants as r
use Rattle.pd_kinds.specs.Rule.{failing}
use Rattle.pd_kinds.specs.EraFormat.{era_super_bad, era_super_block, era_super_tests}
use Rattle.pd_kinds.proofs.SuperLemmas.{met_by_tests, place_tested}
use Rattle.pd_supers.proofs.EraWritten.{reads_back}
use Rattle.pd_supers.proofs.era.write_era_super.Goals as goal

pub returns-clause-block : goal.returns-clause-block
unfolding era_super_block
returns-clause-block c = cc

pub returns-clause-reads_back : goal.returns-clause-reads_back
returns-clause-reads_back c =
    let sixteen : length c.args.s.now.uuid ≡ 16 = search rules in
    rw (returns-clause-block c) (reads_back c.args.s.now sixteen (rw c.rows_of.ensures at c.put_rows.ensures.fit))

pub returns-clause-checksum : goal.returns-clause-checksum
unfolding era_super_bad era_super_tests failing
returns-clause-checksum c = λ n.
    met_by_tests Era c.super_block.result.0 (era_super_tests n c.super_block.result.0) r.Checksum c.super_block.ensures.valid (simp and-false)

pub returns-clause-place : goal.returns-clause-place
unfolding era_super_bad era_super_tests failing
returns-clause-place c = λ n.
    met_by_tests Era c.super_block.result.0 (era_super_tests n c.super_block.result.0) r.Place c.super_block.ensures.valid
    (simp (and-false, place_tested Era c.super_block.result.0 c.super_block.ensures.valid))

pub returns-clause-magic : goal.returns-clause-magic
unfolding era_super_bad era_super_tests failing
returns-clause-magic c = λ n.
    met_by_tests Era c.super_block.result.0 (era_super_tests n c.super_block.result.0) r.Magic c.super_block.ensures.valid (simp and-false)
