-- How the code's command is seen.
-- Stated by: bench_tasks, bench_top.
use Rattle.bench_tasks.specs.Commands.{Command, OnGraph, OnSimpleGraph, OnTree, OnPicks, OnEars, OnMoves, OnTrees, OnNumbers}
use Rattle.bench_tasks.specs.declared.command.Command.TheVariants as code

-- the command with the names' bytes
abbrev pub asked : code.the_data → Command
asked (code.OnGraph verb graph) = OnGraph verb graph.now
asked (code.OnSimpleGraph verb graph) = OnSimpleGraph verb graph.now
asked (code.OnTree verb graph tree) = OnTree verb graph.now tree.now
asked (code.OnPicks verb graph picks) = OnPicks verb graph.now picks.now
asked (code.OnEars verb graph ears) = OnEars verb graph.now ears.now
asked (code.OnMoves verb graph tree moves) = OnMoves verb graph.now tree.now moves.now
asked (code.OnTrees verb graph first second) = OnTrees verb graph.now first.now second.now
asked (code.OnNumbers verb growth) = OnNumbers verb growth.seed growth.pieces
