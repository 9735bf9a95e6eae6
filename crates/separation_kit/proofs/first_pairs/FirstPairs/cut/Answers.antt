use Rattle.std.proofs.Common.{◌∙◌, ap, subst, sym}
use Rattle.graph_core.proofs.Common.{Graph, IsBicritical, cut_pair}
use Rattle.separation_kit.proofs.first_pairs.FirstPairs.cut.Goals as goal

pub returns : goal.returns
returns c = c.self.invariant.1 (subst (λ (g : Graph). IsBicritical g) (sym c.self.view_is) c.requires) ∙ ap (λ (g : Graph). cut_pair g) c.self.view_is
