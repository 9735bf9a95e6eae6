use Rattle.mcg6_front_top.proofs.TableRows.{listed}
use Rattle.mcg6_front_top.proofs.laws.list_table_law.Goals as goal

pub returns : goal.returns
returns c = listed
