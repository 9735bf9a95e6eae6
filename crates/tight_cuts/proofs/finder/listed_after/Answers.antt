use Rattle.std.proofs.Common.{eqb-true, arith}
use Rattle.std.proofs.lemmas.List.{nil_from_length}
use Rattle.tight_cuts.proofs.FrontEmpty.{front_empty}
use Rattle.tight_cuts.proofs.finder.listed_after.Goals as goal

pub returns-then-is_empty : goal.returns-then-is_empty
returns-then-is_empty c = grind (arith, nil_from_length, eqb-true, front_empty)
