use Rattle.std.proofs.Common.{refl}
use Rattle.command_table.specs.Table.{list_rows, rows}
use Rattle.command_table.proofs.laws.pages_law.Goals as goal

pub returns-clause-mcg : goal.returns-clause-mcg
unfolding rows
returns-clause-mcg c = refl

pub returns-clause-mcg6 : goal.returns-clause-mcg6
unfolding list_rows
returns-clause-mcg6 c = refl
