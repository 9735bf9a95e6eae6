use Rattle.flow_core.proofs.layers.grow.Goals as goal

pub fill-requires-clause-laid : goal.fill-requires-clause-laid
fill-requires-clause-laid c = c.in_ok-layers.ensures.laid c.args.incidence.now c.augment.new.self.on
