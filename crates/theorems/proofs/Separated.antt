-- Pairs of vertices that tight sets separate: two vertices are in no pair of a and b if they
-- differ from both.
use Rattle.tree_check.proofs.from_counting.Common.{◌≡◌, ◌≢◌, ◌↔◌, ℕ, true, false, ◌==◌, eq-eqb, ne_eqb, sym, both_ways, or_from, or_left, or_right, Within, pair_set}
use Rattle.graph_core.proofs.Common.{Graph, IsGraph}
use Rattle.tree_check.proofs.from_tight_cuts.LeastShores.{separated_found, separated_says}
use Rattle.tree_check.specs.from_tight_cuts.Common.{is_separated}
use Rattle.theorems.specs.CutWords.{IsSeparated}

-- v is neither a nor b
differs : (a b v : ℕ) → pair_set a b v ≡ false → (v ≢ a) × (v ≢ b)
differs a b v off = (
  λ e. both_ways (pair_set a b v) off (or_left (a == v) (b == v) (eq-eqb a v (sym e))),
  λ e. both_ways (pair_set a b v) off (or_right (a == v) (b == v) (eq-eqb b v (sym e))),
)

off-pair : (a b v : ℕ) → v ≢ a → v ≢ b → pair_set a b v ≡ false
off-pair a b v first second = or_from (a == v) (b == v) (ne_eqb a v (λ e. first (sym e))) (ne_eqb b v (λ e. second (sym e)))

pub separated-words : (g : Graph) (a b : ℕ) (k : ℕ × ℕ) → IsGraph g → Within g.order a → Within g.order b → Within g.order k.0 → Within g.order k.1 →
    (is_separated g a b k ≡ true) ↔ IsSeparated g a b k
separated-words g a b k is wa wb w0 w1 = (
  λ h. let r = separated_says g a b k h in (differs a b k.0 r.0, differs a b k.1 r.1, r.2),
  λ h. separated_found g a b k h.2.0 is wa wb w0 w1 (off-pair a b k.0 h.0.0 h.0.1) (off-pair a b k.1 h.1.0 h.1.1) h.2.1,
)
