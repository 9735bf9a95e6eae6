use Rattle.graph_core.proofs.from_counting.Common.{◌≡◌, ◌↔◌, ◌∙◌, List, None, Option, Some, subst, ℕ, IfOk-weaker, mem}
use Rattle.graph_core.proofs.Common.{Graph, HasOnlyTrivialTightCuts, IsNontrivial, IsTight}
use Rattle.tight_cuts.proofs.finder.find_any.Goals as goal

pub returns-clause-some : goal.returns-clause-some
returns-clause-some c = IfOk-weaker c.first_cut.result (λ (found : Option (List ℕ)). (s : List ℕ) → found ≡ Some s → IsTight c.of.result (mem s) × IsNontrivial c.of.result.order (mem s)) (λ (found : Option (List ℕ)). (s : List ℕ) → found ≡ Some s → IsTight c.args.g.now (mem s) × IsNontrivial c.args.g.now.order (mem s))
    (λ found tight s is. subst (λ (g : Graph). IsTight g (mem s) × IsNontrivial g.order (mem s)) (c.of.ensures ∙ c.in_ok-covered.ensures) (tight s is)) c.first_cut.ensures.some

pub returns-clause-none : goal.returns-clause-none
returns-clause-none c = IfOk-weaker c.first_cut.result (λ (found : Option (List ℕ)). (found ≡ None) ↔ HasOnlyTrivialTightCuts c.of.result) (λ (found : Option (List ℕ)). (found ≡ None) ↔ HasOnlyTrivialTightCuts c.args.g.now)
    (λ found h. subst (λ (g : Graph). (found ≡ None) ↔ HasOnlyTrivialTightCuts g) (c.of.ensures ∙ c.in_ok-covered.ensures) h) c.first_cut.ensures.none
