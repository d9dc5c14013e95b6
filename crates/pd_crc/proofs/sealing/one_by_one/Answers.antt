use Rattle.std.proofs.Common.{ℕ, ◌∙◌, ap, sym, get_or}
use Rattle.std.proofs.lemmas.List.Sums.{fold_more}
use Rattle.pd_kinds.specs.Field.{crc_byte}
use Rattle.pd_crc.proofs.Streams.{byte_taken}
use Rattle.pd_crc.proofs.sealing.one_by_one.Goals as goal

pub loop-byte-preserved : goal.loop-byte-preserved
loop-byte-preserved c =
    let byte = get_or c.args.bytes.now c.loop-byte.byte-index 0 in
    let more = fold_more crc_byte c.args.start c.args.bytes.now c.loop-byte.byte-index 0 c.loop-byte-test.true in
    rw (c.after_one-crc.ensures, c.from.ensures)
    (byte_taken c.loop-byte.crc byte ∙ ap (λ (x : ℕ). crc_byte x byte) c.loop-byte.invariant ∙ sym more)
