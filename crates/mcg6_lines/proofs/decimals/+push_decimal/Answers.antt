use Rattle.std.proofs.Common.{append_assoc, arith}
use Rattle.std.proofs.lemmas.Fmt.{decimal_digit}
use Rattle.mcg6_lines.proofs.DecimalSteps.{decimal-step}
use Rattle.mcg6_lines.proofs.decimals.+push_decimal.Goals as goal
use Rattle.mcg6_lines.proofs.decimals.+push_decimal.Goals.{then-n-ge10+in_ok-push_decimal, else-n-ge10}

pub returns : goal.returns
returns t c = grind (arith, append_assoc, decimal_digit c.args.n, decimal-step c.args.n, then-n-ge10+in_ok-push_decimal, else-n-ge10)
