use Rattle.allowed_edges.proofs.from_counting.Common.{◌≡◌, ◌∙◌, ap, sym, subst, List, ℕ, arith, mem, and_parts}
use Rattle.graph_core.proofs.Common.{IsSide}
use Rattle.graph_facts.proofs.Parities.{even_side, no_side}
use Rattle.graph_facts.proofs.layers.Layers.side.Goals.{In-None}
use Rattle.graph_facts.proofs.layers.Layers.side.Goals as goal

even_is : (c : In-None) → IsSide c.args.g.now (mem c.args.self.now.even)
even_is c = even_side c.args.g.now (mem c.args.self.now.even) (mem c.args.self.now.odd) c.requires.layers c.keeps_limits.ensures.multigraph c.requires.connected (λ v. sym (c.meet.ensures v) ∙ ap (λ (xs : List ℕ). mem xs v) c.in-None.ensures.none)

pub returns-in-Some-clause-none : goal.returns-in-Some-clause-none
returns-in-Some-clause-none c = grind (arith, and_parts, no_side c.args.g.now (mem c.args.self.now.even) (mem c.args.self.now.odd) c.requires.layers c.keeps_limits.ensures.multigraph)

pub returns-in-None-clause-some : goal.returns-in-None-clause-some
returns-in-None-clause-some c = λ side e. let same : c.args.self.now.even ≡ side = cc in subst (λ (s : List ℕ). IsSide c.args.g.now (mem s)) same (even_is (goal.at.returns-in-None-clause-some c).In-None)

pub returns-in-None-clause-none : goal.returns-in-None-clause-none
returns-in-None-clause-none c = (λ e. absurd cc, λ h. absurd (h (mem c.args.self.now.even, λ e w. even_is (goal.at.returns-in-None-clause-none c).In-None e w (c.keeps_limits.ensures.multigraph.no_loop e w))))
