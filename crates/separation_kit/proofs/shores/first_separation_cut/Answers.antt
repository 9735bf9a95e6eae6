use Rattle.std.proofs.Common.{◌∙◌, subst, sym}
use Rattle.graph_core.proofs.Common.{Graph, IsBicritical}
use Rattle.separation_kit.proofs.shores.first_separation_cut.Goals as goal

pub first_cut_at-requires-clause-bicritical : goal.first_cut_at-requires-clause-bicritical
first_cut_at-requires-clause-bicritical c = subst (λ (g : Graph). IsBicritical g) (sym (c.graph.ensures.same ∙ c.covered.ensures)) c.requires.bicritical
