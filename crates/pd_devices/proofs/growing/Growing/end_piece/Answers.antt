use Rattle.std.proofs.Common.{ℕ, ◌+◌, refl, ap, ◌∙◌, arith}
use Rattle.pd_kinds.specs.Node.{leaf_block}
use Rattle.pd_laid.specs.LaidThin.{mapping_items}
use Rattle.pd_laid.specs.Laid.{tree_leaves}
use Rattle.pd_laid.proofs.LaidLemmas.{length-blocks_from}
use Rattle.pd_grammar.specs.Need.{nodes_for}
use Rattle.pd_laid.specs.PoolText.{mappings_of_runs}
use Rattle.pd_devices.specs.SharedGrowth.{held_runs}
use Rattle.pd_devices.proofs.RowLemmas.{grown_without, grown_with}
use Rattle.pd_devices.proofs.growing.Growing.end_piece.Goals as goal
use Rattle.pd_laws_laid.proofs.DeviceNames.{leaves_number}

pub returns-then-held-eq0-clause-grown : goal.returns-then-held-eq0-clause-grown
returns-then-held-eq0-clause-grown g c leaves d blocks low end from grown held =
    grown_without (held_runs c.args.held.now) (omega (arith, c.requires.number, c.if-held-eq0.true)) held grown

pub returns-clause-grown : goal.returns-clause-grown
returns-clause-grown g c leaves d blocks low end from grown held =
    let runs = held_runs c.args.held.now in
    let did = c.in_ok-write_piece.ensures in
    let more = c.leaves_for.ensures ∙ ap (λ (n : ℕ). nodes_for 252 n) c.requires.number in
    grown_with runs (omega (arith, c.requires.number, c.if-held-eq0.false)) held grown refl (ap (λ (n : ℕ). c.args.self.now.own + n) more) refl
    (omega (arith, c.requires.few, c.leaves_for.ensures)) did.wrote did.row_is

pub returns-clause-moved : goal.returns-clause-moved
returns-clause-moved g c =
    let ms = mappings_of_runs (held_runs c.args.held.now) in
    omega (
      arith,
      c.in_ok-write_piece.ensures.wrote.moved,
      length-blocks_from (leaf_block 8) c.args.draft.now.next (tree_leaves 8 (mapping_items ms)),
      leaves_number ms (omega (arith, c.requires.number, c.if-held-eq0.false)),
      c.requires.number,
    )
