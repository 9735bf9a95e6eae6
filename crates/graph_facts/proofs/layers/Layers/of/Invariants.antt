use Rattle.allowed_edges.proofs.from_counting.Common.{◌&&◌, ◌||◌, not, count, mem}
use Rattle.graph_facts.specs.Layers.{AreOpenLayers}
use Rattle.graph_facts.proofs.layers.Layers.of.Given as goal

abbrev pub invariant-flooding : goal.invariant-flooding
invariant-flooding l = AreOpenLayers l.g (mem l.layers.even) (mem l.layers.odd) (mem l.«open»)

abbrev pub decreases-flooding : goal.decreases-flooding
decreases-flooding l = count l.g.order (λ w. not ((mem l.layers.even w || mem l.layers.odd w) && not (mem l.«open» w)))
