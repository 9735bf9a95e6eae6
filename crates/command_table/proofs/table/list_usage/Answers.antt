use Rattle.std.proofs.Common.{refl}
use Rattle.command_table.specs.Table.{list_rows, list_usage_text}
use Rattle.command_table.proofs.table.list_usage.Goals as goal

pub returns : goal.returns
unfolding list_rows list_usage_text
returns c = refl
