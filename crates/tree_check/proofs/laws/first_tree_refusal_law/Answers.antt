use Rattle.tree_check.proofs.FirstRefusals.{derived-or_refused, refused-not_derived, refused-once}
use Rattle.tree_check.proofs.laws.first_tree_refusal_law.Goals as goal

pub returns : goal.returns
returns c = record {
  none = λ g t node why is. refused-not_derived g is t node why;
  one = λ g t i j a b is. refused-once g is t i j a b;
  some = λ g t is. derived-or_refused g is t;
}
