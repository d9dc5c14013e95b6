use Rattle.std.proofs.Common.{sym, ◌∙◌, ap}
use Rattle.pd_kinds.specs.ThinFormat.{thin_super_block}
use Rattle.pd_grammar.specs.ThinText.{pool_format}
use Rattle.pd_laid.specs.PoolText.{MeansPoolShape, pool_need_so_far}
use Rattle.pd_restoring.proofs.ReadingLemmas.{accepted_whole}
use Rattle.pd_restore.specs.Whole.{head_of_pool}
use Rattle.pd_restore.proofs.UnsharedParts.{fields_are, head_is, super_is, behind_is, whole_bytes}
use Rattle.pd_restore.proofs.ReadingLemmas.{build_is}
use Rattle.pd_restore.proofs.pool.write_rest.Goals as goal

pub returns-clause-writes : goal.returns-clause-writes
returns-clause-writes g c first lines later left start front all =
    let room = c.args.room in
    let w = c.in_ok-parts.ensures.writes lines start all in
    let head = head_is first (head_of_pool c.args.pool.now) later lines w.shape w.means front in
    record {
      meaning = w.shape;
      lawful = w.lawful;
      fits = w.fits;
      super_is = c.write_thin_super.ensures.block
          ∙ (ap thin_super_block (c.super_of.ensures ∙ fields_are c.args.pool.now c.in_ok-parts.parts room w.shape head w.named) ∙ sym (super_is w.shape room));
      wrote = rw (behind_is w.shape room) w.wrote;
      told = λ t is. accepted_whole pool_format pool_need_so_far MeansPoolShape whole_bytes t lines room w.shape left w.means all.above is;
    }

pub returns-in_err-parts-clause-build : goal.returns-in_err-parts-clause-build
returns-in_err-parts-clause-build g c = build_is c.from_residual.result _ c.from_residual.ensures.1
