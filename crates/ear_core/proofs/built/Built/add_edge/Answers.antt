use Rattle.std.proofs.Common.{subst, sym}
use Rattle.graph_core.proofs.Common.{size}
use Rattle.ear_core.specs.Common.{FitsStep, step_of}
use Rattle.ear_core.proofs.GoingOn.{edge-fits, fewer-left, filled-on, on-both, on-ok}
use Rattle.ear_core.proofs.built.Built.add_edge.Goals as goal

pub add-requires-clause-fits : goal.add-requires-clause-fits
add-requires-clause-fits c = let g = c.args.g.now in subst (FitsStep g.order (size g)) (sym c.in_ok-step.ensures) (edge-fits g c.keeps_limits.ensures.multigraph.ends c.args.e c.requires.edge)

pub returns-clause-filled : goal.returns-clause-filled
returns-clause-filled c =
    let g = c.args.g.now in
    on-both c.add.result _ _ _ (λ same add. filled-on g c.keeps_limits.ensures.multigraph.ends c.args.self.now c.add.new.self c.args.e c.requires.edge (step_of c.in_ok-step.step) c.in_ok-step.ensures same add) c.add.ensures.marks c.add.ensures.built

pub returns-clause-fewer : goal.returns-clause-fewer
returns-clause-fewer c =
    let g = c.args.g.now in
    on-ok c.add.result _ _ (λ same. fewer-left g c.keeps_limits.ensures.multigraph.ends c.args.self.now c.add.new.self c.args.e c.requires.edge (step_of c.in_ok-step.step) c.in_ok-step.ensures same) c.add.ensures.marks
