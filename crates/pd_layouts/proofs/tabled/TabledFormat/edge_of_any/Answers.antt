use Rattle.pd_layouts.proofs.tabled.TabledFormat.edge_of_any.Goals as goal

pub edge_in-requires-clause-within : goal.edge_in-requires-clause-within
edge_in-requires-clause-within g c = rw (c.layout-layout.ensures c.args.self.now.nr) at c.requires.within

pub returns : goal.returns
returns g c = rw (c.layout-layout.ensures c.args.self.now.nr) c.edge_in.ensures
