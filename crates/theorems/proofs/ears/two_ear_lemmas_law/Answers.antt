use Rattle.two_ears.proofs.EdgeForm.{edge_form}
use Rattle.two_ears.proofs.OppositeSides.{opposite}
use Rattle.two_ears.proofs.TwoEars.{two_ears}
use Rattle.theorems.proofs.ears.two_ear_lemmas_law.Goals as goal

pub returns : goal.returns
returns c = record {
  pairs = λ g ps is cov. two_ears g is cov ps;
  edges = λ g ps is cov. edge_form g is cov ps;
  sides = λ g a x z is cov side. opposite g is cov a side x z;
}
