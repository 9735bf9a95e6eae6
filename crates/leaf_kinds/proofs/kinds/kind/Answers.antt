use Rattle.graph_core.proofs.from_counting.Common.{◌≡◌, ◌∙◌, subst, IfOk-weaker}
use Rattle.graph_core.proofs.Common.{Graph}
use Rattle.graph_core.specs.declared.verdict.Kind.{Kind}
use Rattle.graph_core.specs.declared.verdict.Kind.TheVariants.{Brick}
use Rattle.leaf_kinds.specs.LeafKinds.{IsKind, IsThreeConnectedAndBicritical}
use Rattle.leaf_kinds.proofs.kinds.kind.Goals as goal

pub returns-clause-kind : goal.returns-clause-kind
returns-clause-kind c = IfOk-weaker c.kind_of.result (λ (kind : Kind). IsKind c.of.result kind) (λ (kind : Kind). IsKind c.args.g.now kind)
    (λ kind is. subst (λ (g : Graph). IsKind g kind) (c.of.ensures ∙ c.in_ok-covered.ensures) is) c.kind_of.ensures.kind

pub returns-clause-brick : goal.returns-clause-brick
returns-clause-brick c = IfOk-weaker c.kind_of.result (λ (kind : Kind). kind ≡ Brick → IsThreeConnectedAndBicritical c.of.result) (λ (kind : Kind). kind ≡ Brick → IsThreeConnectedAndBicritical c.args.g.now)
    (λ kind solid is. subst (λ (g : Graph). IsThreeConnectedAndBicritical g) (c.of.ensures ∙ c.in_ok-covered.ensures) (solid is)) c.kind_of.ensures.brick
