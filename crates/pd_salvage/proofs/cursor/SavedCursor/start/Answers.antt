use Rattle.pd_salvage.proofs.AscendLemmas.{started}
use Rattle.pd_salvage.proofs.RangeLemmas.{saved_none}
use Rattle.pd_salvage.proofs.cursor.SavedCursor.start.Goals as goal

pub returns-clause-left : goal.returns-clause-left
returns-clause-left g c = λ image.
    started g.V.Value.SIZE g.V.Value.decoded c.args.nr image c.args.root _ (saved_none g.V.Value.SIZE g.V.Value.decoded c.args.nr image c.in_ok-new.field-0 c.in_ok-new.ensures)
