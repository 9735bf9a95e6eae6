use Rattle.theorems.proofs.TutteBergeGallai.{tutte, tutte_without}
use Rattle.theorems.proofs.matchings.tutte_law.Goals as goal

pub returns : goal.returns
returns x = record { perfect = tutte; without = tutte_without }
