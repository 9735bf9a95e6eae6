use Rattle.std.proofs.Common.{◌∙◌, ap, subst, arith}
use Rattle.graph_core.proofs.Common.{Graph, IsCovered, length-singles, singles}
use Rattle.tree_core.proofs.Common.{shape_of}
use Rattle.tree_check.proofs.Scanning.{found-at, scanned-root}
use Rattle.tree_check.proofs.scan.scan_known.Goals as goal

pub scan_at-requires-clause-few : goal.scan_at-requires-clause-few
scan_at-requires-clause-few c = grind (arith, length-singles c.covered-c.result.now.order)

pub returns-clause-scanned : goal.returns-clause-scanned
returns-clause-scanned c =
    let g = c.args.known.now in
    let graph = c.in_ok-root.ensures.graph ∙ c.covered-c.ensures in
    let blocks = c.in_ok-root.ensures.blocks ∙ ap (λ (h : Graph). singles h.order) c.covered-c.ensures in
    scanned-root g (shape_of c.args.tree.now) c.in_ok-found.found (subst IsCovered c.covered-c.ensures c.keeps_covered.ensures.covered)
    (found-at g (singles g.order) c.in_ok-root.root (shape_of c.args.tree.now) 1 c.in_ok-found.found graph blocks c.in_ok-found.ensures.scanned)
