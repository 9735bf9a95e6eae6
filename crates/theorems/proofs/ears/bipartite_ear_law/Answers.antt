use Rattle.theorems.proofs.HetyeiEars.{opposite-ends}
use Rattle.theorems.proofs.HetyeiSides.{still-bipartite}
use Rattle.theorems.proofs.ears.bipartite_ear_law.Goals as goal

pub returns : goal.returns
returns c = record { covered = opposite-ends; bipartite = λ g f a v es sides ear far. still-bipartite g f a v es ear far sides }
