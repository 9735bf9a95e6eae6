use Rattle.std.proofs.Common.{◌∙◌, inr, sym, arith}
use Rattle.tight_cuts.proofs.EdgeShores.{named_leaders, named_leads, named_shore}
use Rattle.tight_cuts.proofs.EdgePieces.{first_done, piece_found, piece_full, piece_none}
use Rattle.tight_cuts.proofs.edge_search.shore_of_piece.Goals as goal

pub common_shore-requires-clause-leaders : goal.common_shore-requires-clause-leaders
common_shore-requires-clause-leaders c = named_leaders c.args.g.now c.args.groups.a c.args.groups.b c.args.e c.args.leaders.now c.requires.first c.requires.second c.requires.leaders

pub common_shore-requires-clause-x : goal.common_shore-requires-clause-x
common_shore-requires-clause-x c = named_leads c.args.g.now c.args.groups.a c.args.groups.b c.args.leaders.now c.args.groups.x c.requires.first c.requires.second c.requires.x

pub common_shore-requires-clause-y : goal.common_shore-requires-clause-y
common_shore-requires-clause-y c = inr (c.requires.y ∙ sym c.requires.second)

pub returns-in_default-clause-none : goal.returns-in_default-clause-none
returns-in_default-clause-none c n = grind (arith, first_done, piece_none, named_shore)

pub returns-in-Some-first_lacking-clause-some : goal.returns-in-Some-first_lacking-clause-some
returns-in-Some-first_lacking-clause-some c s q = grind (arith, piece_found, named_shore)

pub returns-in-None-clause-none : goal.returns-in-None-clause-none
returns-in-None-clause-none c n = grind (arith, first_done, piece_full, named_shore)
