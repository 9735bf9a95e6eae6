use Rattle.graph_core.proofs.Common.{complement_of-rises, complement-tight, complement_of}
use Rattle.contraction.proofs.MergedQuotients.{merged-blocks, merged-covered, tight-after, tight-before}
use Rattle.contraction.proofs.laws.merged_quotients_law.Goals as goal

pub returns-clause-blocks : goal.returns-clause-blocks
returns-clause-blocks c g p x is pp rises tight = (
  merged-blocks g p x is pp rises tight,
  merged-blocks g p (complement_of g.order x) is pp (complement_of-rises g.order x) (complement-tight g is p pp x tight),
)

pub returns-clause-covered : goal.returns-clause-covered
returns-clause-covered c g p x is pp rises tight covered = (
  merged-covered g p x is pp rises tight covered,
  merged-covered g p (complement_of g.order x) is pp (complement_of-rises g.order x) (complement-tight g is p pp x tight) covered,
)

pub returns-clause-before : goal.returns-clause-before
returns-clause-before c g p x y is pp rises tight covered = (
  tight-before g p x is pp rises tight covered y,
  tight-before g p (complement_of g.order x) is pp (complement_of-rises g.order x) (complement-tight g is p pp x tight) covered y,
)

pub returns-clause-after : goal.returns-clause-after
returns-clause-after c g p x y is pp rises tight covered at = (
  tight-after g p x is pp rises tight covered y at,
  tight-after g p (complement_of g.order x) is pp (complement_of-rises g.order x) (complement-tight g is p pp x tight) covered y at,
)
