use Rattle.theorems.proofs.LaminarFamilies.{distinct-shores, laminar-first, laminar-shores, laminar-tree}
use Rattle.theorems.proofs.cuts.laminar_law.Goals as goal

pub returns : goal.returns
returns c = record {
  shores = laminar-shores;
  once = distinct-shores;
  family = laminar-tree;
  first = laminar-first;
}
