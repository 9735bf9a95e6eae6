use Rattle.std.proofs.Common.{refl}
use Rattle.command_table.specs.Table.{rows, usage_text}
use Rattle.command_table.proofs.Numerals.{decimal-0, decimal-1, decimal-16, decimal-999999999}
use Rattle.command_table.proofs.table.usage.Goals as goal

pub returns : goal.returns
unfolding rows usage_text
returns c = rw (decimal-0, decimal-1, decimal-16, decimal-999999999) refl
