use Rattle.pd_check.proofs.ArrayRules.{index_is}
use Rattle.pd_check.proofs.array_rules.is_index_bad.Goals as goal

pub returns : goal.returns
returns c = λ graph image roles lengths has marked reached.
    index_is graph image c.args.audit.now roles c.args.marks.now c.args.root lengths has marked reached c.is_counting-counts.result c.get-filled.result
    c.note.result c.note.ensures c.is_counting-counts.ensures.keys c.get-filled.ensures
