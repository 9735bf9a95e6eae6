use Rattle.std.proofs.Common.{refl}
use Rattle.command_table.specs.Table.{list_rows}
use Rattle.command_table.proofs.table.all_list_rows.Goals as goal

pub returns : goal.returns
unfolding list_rows
returns c = refl
