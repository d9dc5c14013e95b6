use Rattle.pd_salvage.specs.Way.{is_undamaged}
use Rattle.pd_salvage.proofs.AscendLemmas.{started}
use Rattle.pd_salvage.proofs.RangeLemmas.{saved_none}
use Rattle.pd_salvage.proofs.cursor.SavedCursor.restart.Goals as goal

pub returns-clause-left : goal.returns-clause-left
returns-clause-left g c = λ image.
    started g.V.Value.SIZE g.V.Value.decoded c.args.nr image c.args.root _ (saved_none g.V.Value.SIZE g.V.Value.decoded c.args.nr image c.clear.new.self c.clear.ensures.depth)

pub returns-clause-knows : goal.returns-clause-knows
returns-clause-knows g c = λ image. c.clear.ensures.knows (is_undamaged g.V.Value.SIZE) image
