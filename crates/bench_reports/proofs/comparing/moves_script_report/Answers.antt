use Rattle.move_text.proofs.from_counting.Common.{ℕ, length, sym, subst, arith, AllByRecursion, length-map}
use Rattle.tree_core.proofs.Common.{move_of, moves_of, shape_of, leaf_count-cuts, node_count-cuts, few-nodes}
use Rattle.move_text.specs.Common.{HasSets}
use Rattle.bench_reports.proofs.ScriptMoves.{few-moves, script-paths, script-sets}
use Rattle.bench_reports.proofs.ScriptTexts.{scripted}
use Rattle.bench_reports.proofs.comparing.moves_script_report.Goals as goal

pub write_moves-requires-clause-few : goal.write_moves-requires-clause-few
write_moves-requires-clause-few c =
    let same = length-map c.in_ok-moves.moves move_of in
    let few = few-moves c.args.c.now (shape_of c.args.given.now.first) (length (moves_of c.in_ok-moves.moves)) c.keeps_covered.ensures.limits.multigraph.ends c.keeps_covered.ensures.limits.vertices c.requires.first c.in_ok-moves.ensures.few in
    omega arith

pub write_moves-requires-clause-paths : goal.write_moves-requires-clause-paths
write_moves-requires-clause-paths c = grind (arith, script-paths)

pub write_moves-requires-clause-sets : goal.write_moves-requires-clause-sets
write_moves-requires-clause-sets c =
    subst (λ (n : ℕ). AllByRecursion (HasSets n) (moves_of c.in_ok-moves.moves)) (sym c.order-n.ensures.is)
    (script-sets c.args.c.now (shape_of c.args.given.now.first) (shape_of c.args.given.now.second) (moves_of c.in_ok-moves.moves) c.requires.first c.in_ok-moves.ensures.through)

pub nodes-requires : goal.nodes-requires
nodes-requires c = let few = few-nodes c.args.c.now (shape_of c.args.given.now.first) c.keeps_covered.ensures.limits.multigraph.ends c.keeps_covered.ensures.limits.vertices c.requires.first in omega arith

pub overflow_cast-leaves : goal.overflow_cast-leaves
overflow_cast-leaves c = grind (arith, few-nodes c.args.c.now (shape_of c.args.given.now.first) c.keeps_covered.ensures.limits.multigraph.ends c.keeps_covered.ensures.limits.vertices c.requires.first)

pub overflow_cast-len : goal.overflow_cast-len
overflow_cast-len c =
    let same = length-map c.in_ok-moves.moves move_of in
    let few = few-moves c.args.c.now (shape_of c.args.given.now.first) (length (moves_of c.in_ok-moves.moves)) c.keeps_covered.ensures.limits.multigraph.ends c.keeps_covered.ensures.limits.vertices c.requires.first c.in_ok-moves.ensures.few in
    let all = c.len.ensures in
    omega arith

pub returns-clause-gives : goal.returns-clause-gives
returns-clause-gives c =
    let t = shape_of c.args.given.now.first in
    let moves = moves_of c.in_ok-moves.moves in
    let few = few-nodes c.args.c.now t c.keeps_covered.ensures.limits.multigraph.ends c.keeps_covered.ensures.limits.vertices c.requires.first in
    let nodes = node_count-cuts t in
    let leaves = leaf_count-cuts t in
    let found = c.nodes.ensures in
    let same = length-map c.in_ok-moves.moves move_of in
    let count = few-moves c.args.c.now t (length moves) c.keeps_covered.ensures.limits.multigraph.ends c.keeps_covered.ensures.limits.vertices c.requires.first c.in_ok-moves.ensures.few in
    let all = c.len.ensures in
    grind (arith, scripted c.args.c.now t (shape_of c.args.given.now.second) moves c.order-n.result)
