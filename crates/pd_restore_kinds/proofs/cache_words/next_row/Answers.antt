use Rattle.std.proofs.Common.{arith}
use Rattle.pd_restore_kinds.proofs.RowLemmas.{none, found_here, none_here, none_past, small_here, stands_next, stands_past, stands_still}
use Rattle.pd_restore_kinds.proofs.cache_words.next_row.Goals as goal

pub returns-then-row-block-clause-row : goal.returns-then-row-block-clause-row
returns-then-row-block-clause-row c = found_here c.args.rows.now c.args.at c.args.block c.requires none c.if-at-rows.true c.if-row-block.true

pub returns-then-row-block-clause-next : goal.returns-then-row-block-clause-next
returns-then-row-block-clause-next c = stands_next c.args.rows.now c.args.at c.args.block c.requires none c.if-at-rows.true c.if-row-block.true

pub returns-then-row-block-clause-fits : goal.returns-then-row-block-clause-fits
returns-then-row-block-clause-fits c = small_here c.args.rows.now c.args.at c.args.block c.requires none c.if-at-rows.true

pub returns-else-row-block-clause-row : goal.returns-else-row-block-clause-row
returns-else-row-block-clause-row c = none_here c.args.rows.now c.args.at c.args.block c.requires none c.if-at-rows.true c.if-row-block.false

pub returns-else-row-block-clause-next : goal.returns-else-row-block-clause-next
returns-else-row-block-clause-next c = stands_still c.args.rows.now c.args.at c.args.block c.requires none c.if-at-rows.true c.if-row-block.false

pub returns-else-at-rows-clause-row : goal.returns-else-at-rows-clause-row
returns-else-at-rows-clause-row c = none_past c.args.rows.now c.args.at c.args.block c.requires (omega (arith, c.if-at-rows.false))

pub returns-else-at-rows-clause-next : goal.returns-else-at-rows-clause-next
returns-else-at-rows-clause-next c = stands_past c.args.rows.now c.args.at c.args.block c.requires (omega (arith, c.if-at-rows.false))
