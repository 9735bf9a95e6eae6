use Rattle.graph_core.proofs.from_counting.Common.{◌∙◌, ap, map, map-append}
use Rattle.ear_core.specs.Common.{step_of}
use Rattle.ear_core.proofs.GoingOn.{built-on, on-ok}
use Rattle.ear_core.proofs.built.Built.add.Goals as goal

pub returns-clause-built : goal.returns-clause-built
returns-clause-built c = on-ok c.push.result _ _ (λ pushed n first built goes. built-on c.args.g.now n first c.args.self.now (record { marked = c.add.new.self; steps = c.push.new.self }) (step_of c.args.step) built goes c.add.ensures.marked c.add.ensures.each (ap (map step_of) pushed ∙ map-append step_of c.args.self.now.steps _)) c.push.ensures.ok
