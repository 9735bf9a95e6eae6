use Rattle.front_top.proofs.TableRows.{listed}
use Rattle.front_top.proofs.laws.table_law.Goals as goal

pub returns : goal.returns
returns c = listed
