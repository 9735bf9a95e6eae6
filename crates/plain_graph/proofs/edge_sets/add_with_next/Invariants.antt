use Rattle.std.proofs.Common.{◌≡◌, ◌+◌, ◌++◌, ◌∷◌, [], map, take, List, ℕ}
use Rattle.plain_graph.proofs.edge_sets.add_with_next.Given as goal

abbrev pub invariant-loop-i : goal.invariant-loop-i
invariant-loop-i l = l.sets ≡ l.fn.sets ++ map (λ (xs : List ℕ). xs ++ (l.before + 1) ∷ []) (take l.i l.fn.sets)
