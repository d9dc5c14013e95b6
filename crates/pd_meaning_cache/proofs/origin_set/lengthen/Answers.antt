use Rattle.std.proofs.Common.{is_ok, arith}
use Rattle.pd_meaning_cache.proofs.AddedLemmas.{is_set-resized}
use Rattle.pd_meaning_cache.proofs.origin_set.lengthen.Goals as goal

pub returns-then-len-words : goal.returns-then-len-words
returns-then-len-words c =
    let bits = c.args.bits.now in
    is_set-resized bits.items c.resize.new.self.items c.min-words.result bits.len (is_ok c.resize.result) (omega (arith, c.len.ensures, c.if-len-words.true, bits.ok.0)) c.resize.ensures.items
