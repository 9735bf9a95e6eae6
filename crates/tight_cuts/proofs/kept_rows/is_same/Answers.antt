use Rattle.std.proofs.Common.{arith}
use Rattle.std.proofs.lemmas.Slice.Eq.{bytes_eq-Decides}
use Rattle.tight_cuts.proofs.kept_rows.is_same.Goals as goal

pub returns : goal.returns
returns c q = grind (arith, bytes_eq-Decides c.args.first c.args.second)
