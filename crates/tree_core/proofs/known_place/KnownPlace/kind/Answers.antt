use Rattle.std.proofs.Common.{IsTrue, ◌↔◌, subst}
use Rattle.graph_core.proofs.Common.{Graph, IsBipartite, quotient}
use Rattle.tree_core.proofs.SeenGraphs.{seen-sides}
use Rattle.tree_core.proofs.known_place.KnownPlace.kind.Goals as goal

pub returns : goal.returns
returns c =
    let g = c.args.self.now.graph in
    let p = c.args.self.now.blocks in
    let sides = seen-sides g p c.keeps_place.ensures.limits.multigraph c.keeps_place.ensures.partition in
    let told = subst (λ (h : Graph). IsTrue c.is_bipartite.result ↔ IsBipartite h) c.covered.ensures c.is_bipartite.ensures in
    c.kind_by_side.ensures (quotient g p) (λ t. sides.0 (told.0 t), λ b. told.1 (sides.1 b))
