use Rattle.std.proofs.Common.{◌≡◌, ◌+◌, ◌<◌, ℕ, List, All, length, arith, get_or}
use Rattle.std.proofs.lemmas.List.{length-replicate}
use Rattle.graph_core.proofs.Common.{Graph, size}
use Rattle.barrier_kit.specs.from_match_core.Common.{IsOf, MatchingValue}
use Rattle.barrier_kit.specs.from_match_core.declared.matching.MatchRow.{MatchRow}
use Rattle.tight_cuts.proofs.Weighing.{list-small, map-length, take-whole, weight-next, weight-taken, zeros}
use Rattle.tight_cuts.proofs.pieces.weights_of.Goals as goal

-- the edges of a matching of the list are places of the row
placed : (g : Graph) (all list : List MatchingValue) (i n : ℕ) (m : MatchingValue) → All (IsOf g) all → list ≡ all → i < length list → m ≡ get_or list i m → n ≡ size g + 1 → All (λ (r : MatchRow). r.edge < n) m.rows
placed g all list i n m of same l is long = grind arith

pub count_edges-requires-clause-within : goal.count_edges-requires-clause-within
count_edges-requires-clause-within c = placed c.args.g.now c.args.pairs.now.list c.list-list.result.now c.loop-i.i (length c.loop-i.row.items) c.index-list-i.result c.requires.of c.list-list.ensures c.loop-i-test.true c.index-list-i.is c.loop-i.invariant.long

pub count_edges-requires-clause-room : goal.count_edges-requires-clause-room
count_edges-requires-clause-room c e = grind (arith, weight-taken c.list-list.result.now c.loop-i.i e, list-small c.args.g.now c.args.pairs.now c.keeps_limits.ensures c.requires.grown)

pub loop-i-preserved : goal.loop-i-preserved
loop-i-preserved c = grind (arith, weight-next c.list-list.result.now c.loop-i.i c.index-list-i.result)

pub loop-i-init : goal.loop-i-init
loop-i-init c = grind (arith, length-replicate, zeros)

pub returns : goal.returns
returns c = grind (arith, take-whole c.list-list.result.now c.loop-i.i, map-length c.args.pairs.now.list)
