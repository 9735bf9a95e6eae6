use Rattle.move_laws.proofs.CarryingLaws.{merged-leaf, turned-leaf}
use Rattle.move_laws.proofs.laws.same_leaves_law.Goals as goal

pub returns : goal.returns
returns c = record {
  turned = λ g p q names is pp qp same. turned-leaf g p q names is pp qp same;
  merged = λ g p q names x is pp qp same rises nonempty union. merged-leaf g p q names is pp qp same x rises nonempty union;
}
