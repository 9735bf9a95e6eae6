-- Odd cycles, by the places of their vertices and edges from 1 on.
-- Stated by: match_search. Used by: match_core.
use Rattle.std.specs.Prelude.{◌≡◌, ℕ, suc, ◌≤◌, Bool, true, false, ◌==◌, nat_lt, ◌&&◌, ◌||◌, not, cond}
use Rattle.graph_core.specs.from_counting.Common.{Within, is_odd, Set, some}
use Rattle.graph_core.specs.Common.{Graph, HasEnds, size}

-- {pick i : i in m ∩ {1, .., k}}
abbrev pub picked : ℕ → Set → (ℕ → ℕ) → Set
picked k m pick i = some k (λ e. m e && (pick e == i))

-- {c 1, .., c n}
abbrev pub listed : ℕ → (ℕ → ℕ) → Set
listed n c v = some n (λ i. c i == v)

-- the place after i, cyclically in 1 to n
abbrev pub next : ℕ → ℕ → ℕ
next n i = cond (i == n) 1 (suc i)

-- both are true or both false
abbrev pub same_answer : Bool → Bool → Bool
same_answer a b = cond a b (not b)

-- every other place, on the way round from t to t
abbrev pub every_other : ℕ → ℕ → Bool
every_other t i = (nat_lt i t && same_answer (is_odd i) (is_odd t)) || (nat_lt t i && not (same_answer (is_odd i) (is_odd t)))

-- the vertices c 1 to c n, an odd number, and the edges e 1 to e n: e i leads from c i to the next
pub record IsOddCycle (g : Graph) (r : Set) (n : ℕ) (c e : ℕ → ℕ) : Type 0 where
  pub odd : is_odd n ≡ true
  pub three : 3 ≤ n
  pub apart : (i j : ℕ) → Within n i → Within n j → c i ≡ c j → i ≡ j
  pub within : (i : ℕ) → Within n i → Within g.order (c i)
  pub outside : (i : ℕ) → Within n i → r (c i) ≡ false
  pub real : (i : ℕ) → Within n i → Within (size g) (e i)
  pub ends : (i : ℕ) → Within n i → HasEnds g (e i) (c i) (c (next n i))
