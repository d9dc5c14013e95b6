use Rattle.pd_layouts.proofs.tabled.TabledFormat.edges_of_any.Goals as goal

pub returns : goal.returns
returns g c = rw (c.layout-layout.ensures c.args.self.now.nr) c.edges_in.ensures
