use Rattle.std.proofs.Common.{◌≡◌, take}
use Rattle.graph_core.proofs.Common.{names_of}
use Rattle.report_text.proofs.comparisons.block_names.Given as goal

-- the first blocks are named
abbrev pub invariant-loop-i : goal.invariant-loop-i
invariant-loop-i l = l.names ≡ names_of (take l.i l.p.blocks)
