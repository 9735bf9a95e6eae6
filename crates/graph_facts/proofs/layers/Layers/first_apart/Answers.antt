use Rattle.allowed_edges.proofs.from_counting.Common.{◌≡◌, [], mem}
use Rattle.graph_core.proofs.Common.{IsConnected}
use Rattle.allowed_edges.proofs.FirstComponent.{none_weaker}
use Rattle.graph_facts.proofs.Parities.{none_apart}
use Rattle.graph_facts.proofs.layers.Layers.first_apart.Goals as goal

pub returns-clause-none : goal.returns-clause-none
returns-clause-none c =
    none_weaker c.first.result (c.minus-2.result ≡ []) (IsConnected c.args.g.now)
    (none_apart c.args.g.now (mem c.args.self.now.even) (mem c.args.self.now.odd) c.requires.layers c.order.result c.full.result c.minus.result c.minus-2.result c.order.ensures.is c.full.ensures.members c.minus.ensures c.minus-2.ensures c.keeps_limits.ensures.multigraph.ends)
    c.first.ensures.none
