use Rattle.theorems.proofs.TutteBergeGallai.{gallai_lemma}
use Rattle.theorems.proofs.matchings.gallai_lemma_law.Goals as goal

pub returns : goal.returns
returns x = gallai_lemma
