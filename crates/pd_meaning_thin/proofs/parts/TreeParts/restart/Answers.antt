use Rattle.std.proofs.Common.{arith}
use Rattle.std.proofs.lemmas.List.{append-nil}
use Rattle.pd_tree.specs.Stack.{stacked}
use Rattle.pd_meaning_thin.specs.Pieces.{parts_below}
use Rattle.pd_meaning_thin.proofs.parts.TreeParts.restart.Goals as goal

pub returns-clause-parts : goal.returns-clause-parts
unfolding stacked
returns-clause-parts c = λ shared image. rw c.clear.ensures (append-nil (parts_below shared image 63 c.args.root))

pub returns-clause-reads : goal.returns-clause-reads
unfolding stacked
returns-clause-reads c = λ shared image. rw c.clear.ensures (omega arith)
