use Rattle.pd_texts.proofs.WordLemmas.{word_cut, word_whole}
use Rattle.pd_texts.proofs.words.cut_word.Goals as goal

pub returns-then-bytes-i-eq32 : goal.returns-then-bytes-i-eq32
returns-then-bytes-i-eq32 c = word_cut c.args.bytes.now c.loop-i.i 32 c.loop-i-test.true c.if-bytes-i-eq32.true c.loop-i.invariant

pub returns : goal.returns
returns c = word_whole c.args.bytes.now c.loop-i.i 32 c.loop-i-test.false c.loop-i.invariant
