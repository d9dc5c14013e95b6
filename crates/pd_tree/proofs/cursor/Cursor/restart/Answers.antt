use Rattle.std.proofs.lemmas.List.{append-nil}
use Rattle.pd_tree.specs.Below.{items_below, nodes_below}
use Rattle.pd_tree.specs.Stack.{stacked}
use Rattle.pd_tree.proofs.cursor.Cursor.restart.Goals as goal

pub returns-clause-items : goal.returns-clause-items
unfolding stacked
returns-clause-items g c = λ image. rw c.clear.ensures (append-nil (items_below g.V.Value.SIZE g.V.Value.decoded image 63 c.args.root))

pub returns-clause-nodes : goal.returns-clause-nodes
unfolding stacked
returns-clause-nodes g c = λ image. rw c.clear.ensures (append-nil (nodes_below g.V.Value.SIZE image 63 c.args.root))
