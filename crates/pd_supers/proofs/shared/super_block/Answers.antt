use Rattle.std.proofs.Common.{◌≡◌, true, length, rules}
use Rattle.pd_kinds.specs.Field.{has_checksum}
use Rattle.pd_kinds.specs.Super.{salt_of, super_block}
use Rattle.pd_kinds.proofs.SuperLemmas.{is_super}
use Rattle.pd_supers.proofs.shared.super_block.Goals as goal

pub returns-clause-block : goal.returns-clause-block
unfolding super_block
returns-clause-block c = cc

pub returns-clause-valid : goal.returns-clause-valid
returns-clause-valid c =
    let whole : length c.args.over.0 ≡ 4096 = search rules in
    let sixteen : length c.args.uuid.now ≡ 16 = search rules in
    let same = returns-clause-block c in
    let sealed : has_checksum c.seal.new.block.0 (salt_of c.args.kind) ≡ true = rw (← c.salt.ensures) c.seal.ensures.valid in
    rw same (is_super c.args.kind c.args.uuid.now c.args.over.0 whole sixteen (rw same at sealed))
