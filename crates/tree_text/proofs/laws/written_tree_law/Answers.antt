use Rattle.graph_core.proofs.from_line_text.ExactlyOne.{StandsAlone-stands}
use Rattle.tree_text.specs.Common.{tree_format, tree_text}
use Rattle.tree_text.proofs.TreeReadBack.{Stands-tree_text}
use Rattle.tree_text.proofs.laws.written_tree_law.Goals as goal

pub returns : goal.returns
returns c = record { stands = Stands-tree_text; alone = λ n t is. StandsAlone-stands (tree_format n) (tree_text n t) t (Stands-tree_text n t is) }
