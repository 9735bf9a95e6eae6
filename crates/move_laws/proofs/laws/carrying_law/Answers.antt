use Rattle.move_laws.proofs.CarryingLaws.{carries-derivation, carries-nontrivial, carries-tight, carries-twice}
use Rattle.move_laws.proofs.laws.carrying_law.Goals as goal

pub returns : goal.returns
returns c = record {
  tight = λ g p q names x is pp qp same. carries-tight g p q names is pp qp same x;
  nontrivial = λ g p q names x is pp qp same. carries-nontrivial g p q names is pp qp same x;
  derivation = λ g p q names t is pp qp same. carries-derivation g p q names is pp qp same t;
  again = λ g p q names t is pp qp same. carries-twice g p q names is pp qp same t;
}
