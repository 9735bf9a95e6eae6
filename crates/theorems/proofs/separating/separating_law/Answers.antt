use Rattle.theorems.proofs.SeparatingCuts.{separating_odd, separating_or_met, separating_tight, tight_separating}
use Rattle.theorems.proofs.separating.separating_law.Goals as goal

pub returns : goal.returns
returns c = record {
  meets = λ g x u v is connected rises wu wv xu xv. separating_or_met g is x rises u v wu wv xu xv connected;
  odd = λ g x u v is connected rises wu wv xu xv. separating_odd g is x rises u v wu wv xu xv connected;
  tight = λ g x is. tight_separating g is x;
  bipartite = λ g a x u v is cov two rises wu wv xu xv sep. separating_tight g is x rises u v wu wv xu xv cov.connected sep a two;
}
