use Rattle.std.proofs.Common.{◌+◌, arith}
use Rattle.tight_cuts.proofs.FirstCandidates.{first-candidates, first-none}
use Rattle.tight_cuts.proofs.FrontCandidates.{edges-more}
use Rattle.tight_cuts.proofs.finder.first_flood_cut.Goals as goal

pub returns-then-not-is_empty : goal.returns-then-not-is_empty
returns-then-not-is_empty c = grind (arith, first-candidates c.args.c.now c.add_edge_cut.new.list (c.loop-k.k + 1), edges-more c.args.c.now c.loop-k.list c.add_edge_cut.new.list c.loop-k.k)

pub returns : goal.returns
returns c = grind (arith, first-none c.args.c.now c.loop-k.list c.loop-k.k)
