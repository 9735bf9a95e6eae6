use Rattle.graph_core.proofs.from_counting.Common.{◌≡◌, ℕ, length, [], ◌∷◌, Within, item}
use Rattle.match_search.proofs.instance.singles.Given as goal

abbrev pub invariant-loop-i : goal.invariant-loop-i
invariant-loop-i l = record { long : length l.rows.items ≡ l.n; single : (v : ℕ) → Within l.i v → item l.rows.items v ≡ v ∷ [] }
