use Rattle.tree_check.proofs.from_tight_cuts.LeastShores.{common_from, common_in, parts_found, parts_says}
use Rattle.theorems.proofs.Separated.{separated-words}
use Rattle.theorems.proofs.program.third_part_law.Goals as goal

pub returns : goal.returns
returns c = record {
  parts = λ g a b k z. (parts_says g a b k z, parts_found g a b k z);
  some = separated-words;
  all = λ g a b k v is wa wb w0 w1 w. (common_in g is a b k wa wb w0 w1 v w, common_from g is a b k wa wb w0 w1 v);
}
