use Rattle.allowed_edges.proofs.from_counting.Common.{◌≤◌, ◌-◌, ◌*◌, List, length, map, arith, length-map, mem, none, IsRisingIn}
use Rattle.graph_core.proofs.Common.{Graph, IsGraph, IsMaximum, size}
use Rattle.allowed_edges.proofs.from_match_core.MatchingEdges.{edge_of, rows-rise}
use Rattle.allowed_edges.specs.from_match_core.declared.matching.MatchRow.{MatchRow}
use Rattle.mcg6_lines.specs.Standings.{IsDeficiency}
use Rattle.mcg6_lines.proofs.MissedVertices.{ends_within, rest_missed}
use Rattle.mcg6_lines.proofs.deficiencies.missed_by_maximum.Goals as goal

missed : (g : Graph) (rows : List MatchRow) → IsGraph g → IsRisingIn (size g) (map edge_of rows) → IsMaximum g none (mem (map edge_of rows)) →
    (2 * length rows ≤ g.order) × IsDeficiency g (g.order - 2 * length rows)
missed g rows is rising most =
    let few = ends_within g (map edge_of rows) is rising most in
    let rest = rest_missed g (map edge_of rows) is rising most in
    let same = length-map rows edge_of in
    (omega arith, grind (arith, rest, same))

pub overflow_cast-edges : goal.overflow_cast-edges
overflow_cast-edges c =
    let few = (missed c.args.g.now c.in_ok-found.found.matching.rows c.keeps_limits.ensures.multigraph.ends (rows-rise c.args.g.now c.in_ok-found.found.matching c.in_ok-found.ensures.of c.keeps_matching.ensures) c.in_ok-found.ensures.maximum).0 in
    omega arith

pub overflow_mul-result : goal.overflow_mul-result
overflow_mul-result c =
    let few = (missed c.args.g.now c.in_ok-found.found.matching.rows c.keeps_limits.ensures.multigraph.ends (rows-rise c.args.g.now c.in_ok-found.found.matching c.in_ok-found.ensures.of c.keeps_matching.ensures) c.in_ok-found.ensures.maximum).0 in
    omega arith

pub overflow_sub-result : goal.overflow_sub-result
overflow_sub-result c =
    let few = (missed c.args.g.now c.in_ok-found.found.matching.rows c.keeps_limits.ensures.multigraph.ends (rows-rise c.args.g.now c.in_ok-found.found.matching c.in_ok-found.ensures.of c.keeps_matching.ensures) c.in_ok-found.ensures.maximum).0 in
    omega arith

pub returns : goal.returns
returns c =
    let rest = (missed c.args.g.now c.in_ok-found.found.matching.rows c.keeps_limits.ensures.multigraph.ends (rows-rise c.args.g.now c.in_ok-found.found.matching c.in_ok-found.ensures.of c.keeps_matching.ensures) c.in_ok-found.ensures.maximum).1 in
    grind (arith, rest)
