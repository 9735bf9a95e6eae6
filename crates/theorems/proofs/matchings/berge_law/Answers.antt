use Rattle.graph_core.proofs.Common.{berge_bound}
use Rattle.tree_check.specs.from_counting.Common.{none}
use Rattle.theorems.proofs.TutteBergeGallai.{attained_maximum, berge_attained}
use Rattle.theorems.proofs.matchings.berge_law.Goals as goal

pub returns : goal.returns
returns x = record { bound = λ g s m is mm. berge_bound g none s m is mm; equal = berge_attained; maximum = attained_maximum }
