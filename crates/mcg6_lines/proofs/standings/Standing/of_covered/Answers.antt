use Rattle.std.proofs.Common.{◌↔◌, ap, subst, ◌∙◌, IsTrue}
use Rattle.graph_core.proofs.Common.{Graph, IsBicritical}
use Rattle.leaf_kinds.specs.LeafKinds.{IsKind}
use Rattle.leaf_kinds.specs.from_tight_cuts.Common.{candidates, first_shore}
use Rattle.mcg6_lines.proofs.standings.Standing.of_covered.Goals as goal

pub tally_of_kind-requires-clause-kind : goal.tally_of_kind-requires-clause-kind
tally_of_kind-requires-clause-kind c = subst (λ (g : Graph). IsKind g c.in_ok-kind.kind) c.of-pairs.ensures c.in_ok-kind.ensures.kind

pub tally_of_kind-requires-clause-cut : goal.tally_of_kind-requires-clause-cut
tally_of_kind-requires-clause-cut c = c.in_ok-kind.ensures.cut ∙ ap (λ (g : Graph). first_shore (candidates g)) c.of-pairs.ensures

pub returns : goal.returns
returns c = record {
  covered = c.keeps_covered.ensures.covered;
  right_kind = subst (λ (g : Graph). IsKind g c.in_ok-kind.kind) c.of-pairs.ensures c.in_ok-kind.ensures.kind;
  counted = c.in_ok-tally.ensures;
  critical = subst (λ (g : Graph). IsTrue c.is_bicritical-bicritical.result ↔ IsBicritical g) c.of-pairs.ensures c.is_bicritical-bicritical.ensures;
}
