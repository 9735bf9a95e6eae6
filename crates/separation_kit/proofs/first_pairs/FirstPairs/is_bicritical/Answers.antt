use Rattle.graph_core.proofs.from_counting.Common.{◌∙◌, ap, refl, subst, sym, option_map, both_ways}
use Rattle.graph_core.proofs.Common.{Graph, IsBicritical, pair_of}
use Rattle.separation_kit.proofs.SeparationFacts.{equivalent-none}
use Rattle.separation_kit.proofs.first_pairs.FirstPairs.is_bicritical.Goals as goal

pub returns-in-Some : goal.returns-in-Some
returns-in-Some c = (
  λ t. absurd (both_ways _ refl t),
  λ critical.
      let some = sym c.self.invariant.0 ∙ ap (option_map pair_of) c.in-Some.is in
      let none = (equivalent-none c.self.inside.covered.now).1 (subst (λ (g : Graph). IsBicritical g) (sym c.self.view_is) critical) in
      absurd cc,
)

pub returns-in-None : goal.returns-in-None
returns-in-None c = (
  λ _. subst (λ (g : Graph). IsBicritical g) c.self.view_is ((equivalent-none c.self.inside.covered.now).0 (sym c.self.invariant.0 ∙ ap (option_map pair_of) c.in-None.is)),
  λ _. refl,
)
