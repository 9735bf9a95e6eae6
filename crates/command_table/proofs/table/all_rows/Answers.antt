use Rattle.std.proofs.Common.{refl}
use Rattle.command_table.specs.Table.{rows}
use Rattle.command_table.proofs.Numerals.{decimal-0, decimal-1, decimal-16, decimal-999999999}
use Rattle.command_table.proofs.table.all_rows.Goals as goal

pub returns : goal.returns
unfolding rows
returns c = rw (decimal-0, decimal-1, decimal-16, decimal-999999999) refl
