use Rattle.std.proofs.Common.{◌∙◌, map, drop, string_bytes, sym}
use Rattle.pd_answers.specs.Words.{items_of}
use Rattle.pd_words.proofs.TableLemmas.{found_here, found_later, found_nowhere}
use Rattle.pd_words.proofs.items.row_named.Goals as goal

pub returns-then-takes : goal.returns-then-takes
returns-then-takes c =
    found_here c.args.rows.now c.args.name.now (items_of (drop 1 (map string_bytes c.args.words.now))) c.loop-row.row-index _ c.loop-row-test.true (sym c.takes.ensures ∙ c.if-takes.true)
    ∙ sym c.loop-row.invariant

pub loop-row-preserved : goal.loop-row-preserved
loop-row-preserved c =
    c.loop-row.invariant
    ∙ found_later c.args.rows.now c.args.name.now (items_of (drop 1 (map string_bytes c.args.words.now))) c.loop-row.row-index _ c.loop-row-test.true (sym c.takes.ensures ∙ c.if-takes.false)

pub returns : goal.returns
returns c =
    found_nowhere c.args.rows.now c.args.name.now (items_of (drop 1 (map string_bytes c.args.words.now))) c.loop-row.row-index c.loop-row-test.false
    ∙ sym c.loop-row.invariant
