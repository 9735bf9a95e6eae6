use Rattle.graph_core.proofs.from_counting.Common.{◌≡◌, ◌<◌, [], length, refl, sym, subst, IsLeastOf, none, IsLeastWithout}
use Rattle.graph_core.proofs.Common.{IsConnected, Joined}
use Rattle.allowed_edges.proofs.FirstComponent.{all_joined, first_apart, none_weaker, some_component, some_weaker}
use Rattle.allowed_edges.proofs.verdict.first_apart.Goals as goal

pub get-requires : goal.get-requires
get-requires c = subst (λ parts. 0 < length parts) (sym c.requires.parts) (some_component c.args.g.now c.requires.some)

pub returns-clause-some : goal.returns-clause-some
returns-clause-some c =
    some_weaker c.first.result (IsLeastOf c.minus-others.result) (IsLeastWithout c.args.g.now.order (Joined c.args.g.now none 1))
    (first_apart c.args.g.now c.order.ensures.limits.multigraph.ends c.requires.some [] refl c.args.parts.now c.requires.parts c.get.result c.get.ensures c.order.result c.order.ensures.is c.full.result c.full.ensures.members c.minus-others.result c.minus-others.ensures) c.first.ensures.some

pub returns-clause-none : goal.returns-clause-none
returns-clause-none c =
    none_weaker c.first.result (c.minus-others.result ≡ []) (IsConnected c.args.g.now)
    (all_joined c.args.g.now c.order.ensures.limits.multigraph.ends c.requires.some [] refl c.args.parts.now c.requires.parts c.get.result c.get.ensures c.order.result c.order.ensures.is c.full.result c.full.ensures.members c.minus-others.result c.minus-others.ensures) c.first.ensures.none
