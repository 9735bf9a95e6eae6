use Rattle.theorems.proofs.FlatWeights.{balances_flat, flat_balances}
use Rattle.theorems.proofs.Potentials.{flat_potential, potential_flat}
use Rattle.theorems.proofs.weights.potential_law.Goals as goal

pub returns-clause-balanced : goal.returns-clause-balanced
returns-clause-balanced c g w is cov = (
  (λ flat. let b = flat_balances g w is.ends flat cov in (b.0, b.1, b.2, b.3, λ e i. b.4 e i (is.no_loop e i))),
  (λ b. balances_flat g w b.1 b.0 b.2 is.ends b.3 (λ e i loop_free. b.4 e i)),
)

pub returns-clause-potential : goal.returns-clause-potential
returns-clause-potential c g w is cov only = (
  (λ flat. let b = flat_potential g w is.ends cov only flat in (b.0, b.1, λ e i. b.2 e i (is.no_loop e i))),
  (λ b. potential_flat g w b.1 b.0 is.ends b.2),
)
