use Rattle.std.proofs.lemmas.Bool.{ne_eqb}
use Rattle.pd_crc.proofs.Sealed.{is_valid_super-kind}
use Rattle.pd_crc.proofs.sealing.any_valid.Goals as goal

pub returns-then-u64_at-eq0 : goal.returns-then-u64_at-eq0
returns-then-u64_at-eq0 c =
    rw (is_valid_super-kind c.args.block.now.0, ← c.in-Some.ensures, ← c.u64_at.ensures, c.if-u64_at-eq0.true, c.is_sealed.ensures, c.salt.ensures)

pub returns-else-u64_at-eq0 : goal.returns-else-u64_at-eq0
returns-else-u64_at-eq0 c =
    rw (is_valid_super-kind c.args.block.now.0, ← c.in-Some.ensures, ← c.u64_at.ensures, ne_eqb c.u64_at.result 0 c.if-u64_at-eq0.false)

pub returns-in-None : goal.returns-in-None
returns-in-None c = rw (is_valid_super-kind c.args.block.now.0, ← c.in-None.ensures)
