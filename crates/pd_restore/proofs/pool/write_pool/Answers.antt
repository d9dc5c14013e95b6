use Rattle.std.proofs.Common.{rules}
use Rattle.pd_grammar.specs.ThinText.{pool_format}
use Rattle.pd_laid.specs.PoolText.{pool_need_so_far}
use Rattle.pd_restoring.proofs.ReadingLemmas.{end_says, later_take}
use Rattle.pd_texts.specs.Reader.{LeavesOf}
use Rattle.pd_texts.specs.ThinState.{first_of}
use Rattle.pd_draft.specs.DraftState.{draft_state}
use Rattle.pd_restore.specs.Whole.{begun_lines}
use Rattle.pd_restore.proofs.UnsharedParts.{writes_of}
use Rattle.pd_restore.proofs.pool.write_pool.Goals as goal

pub returns-in_err-restore_lines-clause-says : goal.returns-in_err-restore_lines-clause-says
returns-in_err-restore_lines-clause-says g c start h t leaves =
    let says = c.in_err-restore_lines.ensures.room (begun_lines c.args.text.now c.args.pool.now) start h t leaves in
    search rules

pub write_rest-requires-clause-whole : goal.write_rest-requires-clause-whole
write_rest-requires-clause-whole g c =
    let r = c.requires.reading in
    let e = c.in_ok-restore_lines.ensures.all (begun_lines c.args.text.now c.args.pool.now) r.start r.reads in
    record { lines = e.lines; start = r.start; all = e.all }

pub returns-clause-writes : goal.returns-clause-writes
returns-clause-writes g c start h =
    let lines = begun_lines c.args.text.now c.args.pool.now in
    let left = (g.S.Source.state c.restore_lines.new.source).left in
    let e = c.in_ok-restore_lines.ensures.all lines start h in
    writes_of e.lines c.args.room left start (draft_state c.write_rest.new.draft) (λ t. LeavesOf pool_format t lines c.args.text.now (g.S.Source.state c.args.source.now).left) e.told c.write_rest.result
    (c.write_rest.ensures.writes (first_of c.args.text.now.state) e.lines e.later left start e.front e.all)

pub returns-clause-says : goal.returns-clause-says
returns-clause-says g c start h t leaves = end_says pool_format pool_need_so_far c.write_rest.result c.args.room t c.write_rest.ensures.build

pub returns-clause-later : goal.returns-clause-later
returns-clause-later g c = later_take c.write_rest.result _ _ c.write_rest.ensures.faults
