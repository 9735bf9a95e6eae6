use Rattle.std.proofs.Common.{sym, ◌∙◌}
use Rattle.tree_core.specs.Common.{shape_of}
use Rattle.tree_core.proofs.RotateSteps.{rotate-end}
use Rattle.tree_core.proofs.rotation.rotate.Goals as goal

pub returns-in-Ok-clause-ok : goal.returns-in-Ok-clause-ok
returns-in-Ok-clause-ok c = rotate-end c.args.path.now c.in-Some.parents.now c.in-Some.last.now (shape_of c.args.tree) (sym c.as_slice.ensures ∙ c.in-Some.ensures.cases.0) ∙ c.in-Ok.ensures

pub returns-in-Err-clause-stuck : goal.returns-in-Err-clause-stuck
returns-in-Err-clause-stuck c = rotate-end c.args.path.now c.in-Some.parents.now c.in-Some.last.now (shape_of c.args.tree) (sym c.as_slice.ensures ∙ c.in-Some.ensures.cases.0) ∙ c.in-Err.ensures.0
