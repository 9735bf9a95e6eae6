use Rattle.std.proofs.Common.{◌≡◌, take, map}
use Rattle.graph_core.proofs.Common.{place, pair_of}
use Rattle.graph_core.specs.declared.ends.Ends.{Ends}
use Rattle.contraction.proofs.place_pairs.ends_at.Given as goal

abbrev pub invariant-loop-edge : goal.invariant-loop-edge
invariant-loop-edge l = map pair_of l.ends.items ≡ map (λ (e : Ends). (place l.p.blocks e.a, place l.p.blocks e.b)) (take l.edge-index l.edges)
