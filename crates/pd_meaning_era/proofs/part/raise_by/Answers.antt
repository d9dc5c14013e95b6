use Rattle.std.proofs.Common.{◌*◌, ◌+◌, arith}
use Rattle.pd_tree.specs.Cursor.{words_from}
use Rattle.pd_meaning_era.specs.Eras.{holds_from}
use Rattle.pd_meaning_era.proofs.RaiseLemmas.{raises_same}
use Rattle.pd_meaning_era.proofs.PartLemmas.{shifted}
use Rattle.pd_meaning_era.proofs.part.raise_by.Goals as goal

pub returns-clause-raised : goal.returns-clause-raised
returns-clause-raised c =
    let row = c.args.row.now in
    let block = c.args.block.now.0 in
    let base = c.args.base in
    let end = c.end_in-end.result in
    let from = c.saturating_sub-from.result in
    let first = c.from-first.result in
    raises_same row.era (holds_from end first (words_from 8 block from)) (λ i. holds_from row.end row.first (words_from 8 block 0) (64 * base + i)) c.args.part.now c.raise_words_of.new.eras
    (λ i within. shifted row.end end row.first first base from block i (omega arith) (omega arith) (c.end_in-end.ensures.row i) (c.end_in-end.ensures.most i within)) c.raise_words_of.ensures.raised
