use Rattle.std.proofs.Common.{◌<◌, length, sym, ◌∙◌, arith}
use Rattle.std.proofs.lemmas.List.{get_or_default}
use Rattle.pd_graph.proofs.TableLemmas.{length-values, kept_value, unset_value}
use Rattle.pd_graph.proofs.block_table.BlockTable.get.Goals as goal

pub returns-then-place-len : goal.returns-then-place-len
returns-then-place-len g c = λ other.
    let items = c.args.self.now.kept.items in
    let small : c.args.place < length items = omega (arith, c.len.ensures, c.if-place-len.true, c.args.self.now.kept.ok.0) in
    kept_value c.args.self.now c.args.place other small
    ∙ (get_or_default items c.args.place other c.index.result.now small ∙ sym c.index.ensures)

pub returns-else-place-len : goal.returns-else-place-len
returns-else-place-len g c = λ other.
    unset_value c.args.self.now c.args.place other
    (omega (arith, c.len.ensures, c.if-place-len.false, c.args.self.now.kept.ok.0))
    (omega (arith, length-values c.args.self.now, c.requires))
