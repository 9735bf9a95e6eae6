-- An alternating path with two more edges is an alternating path.
-- Each place of the longer path is a place of the old one, or one of the two new vertices.
use Rattle.graph_core.proofs.from_counting.Common.{nat_lt, ◌≡◌, ℕ, suc, ◌+◌, ◌≤◌, ◌<◌, ◌≢◌, true, false, cond, ◌==◌, sym, ap, ◌∙◌, arith, eq-eqb, ne_eqb, ◌⊎◌, inl, inr, subst, lt-ltb, le-ltb, odd-double, Within, Set}
use Rattle.graph_core.proofs.Common.{Graph, IsGraph, degree, size, HasEnds}
use Rattle.match_search.specs.Common.{IsAlternating}

-- v 0, .., up to v n, which is not one of them, and then w and x
abbrev pub longer : ℕ → (ℕ → ℕ) → ℕ → ℕ → ℕ → ℕ
longer n v w x j = cond (nat_lt j n) (v j) (cond (j == n) w x)

pub longer_below : (n : ℕ) (v : ℕ → ℕ) (w x j : ℕ) → j < n → longer n v w x j ≡ v j
longer_below n v w x j l = ap (λ t. cond t (v j) (cond (j == n) w x)) (lt-ltb j n l)

pub longer_at : (n : ℕ) (v : ℕ → ℕ) (w x j : ℕ) → j ≡ n → longer n v w x j ≡ w
longer_at n v w x j q = ap (λ t. cond t (v j) (cond (j == n) w x)) (le-ltb j n (omega arith)) ∙ ap (λ t. cond t w x) (eq-eqb j n q)

pub longer_after : (n : ℕ) (v : ℕ → ℕ) (w x j : ℕ) → n < j → longer n v w x j ≡ x
longer_after n v w x j l = ap (λ t. cond t (v j) (cond (j == n) w x)) (le-ltb j n (omega arith)) ∙ ap (λ t. cond t w x) (ne_eqb j n (λ q. absurd (omega arith)))

pub ends_by : (g : Graph) (d d' x x' y y' : ℕ) → d ≡ d' → x ≡ x' → y ≡ y' → HasEnds g d' x' y' → HasEnds g d x y
ends_by g d d' x x' y y' p q s h = grind arith

pub end_within : (g : Graph) → IsGraph g → (d x y : ℕ) → Within (size g) d → HasEnds g d x y → Within g.order x
end_within g is d x y w ends = grind arith

-- an alternating path goes on by an edge a outside f to w and an edge d in f to x
module _ (g : Graph) (r f : Set) (k : ℕ) (v e : ℕ → ℕ) (p : IsAlternating g r f k v e) (a w d x : ℕ) where
  abbrev pub vx : ℕ → ℕ
  vx = longer (suc (k + k)) v w x

  abbrev pub ex : ℕ → ℕ
  ex = longer (k + k) e a d

  pub spots : (j : ℕ) → j ≤ suc k + suc k → ((j ≤ k + k) × (vx j ≡ v j)) ⊎ (((j ≡ suc (k + k)) × (vx j ≡ w)) ⊎ ((j ≡ suc (suc (k + k))) × (vx j ≡ x)))
  spots j l = grind arith

  pub edge_spots : (j : ℕ) → j < suc k + suc k → ((j < k + k) × (ex j ≡ e j)) ⊎ (((j ≡ k + k) × (ex j ≡ a)) ⊎ ((j ≡ suc (k + k)) × (ex j ≡ d)))
  edge_spots j l = grind arith

  pub by_spots : (P : ℕ → Type 0) → ((j : ℕ) → j ≤ k + k → P (v j)) → P w → P x → (j : ℕ) → j ≤ suc k + suc k → P (vx j)
  by_spots P old pw px j l = grind (arith, spots j l)

  module _ (off : (j : ℕ) → j ≤ k + k → (v j ≢ w) × (v j ≢ x)) (x_w : w ≢ x) (ww : Within g.order w) (wx : Within g.order x) (out_w : r w ≡ false) (out_x : r x ≡ false) (wa : Within (size g) a) (wd : Within (size g) d) (ends : HasEnds g a (v (k + k)) w) (pair_set : HasEnds g d w x) (f_a : f a ≡ false) (fd : f d ≡ true) where
    new_apart : (i j : ℕ) → i ≤ suc k + suc k → j ≤ suc k + suc k → vx i ≡ vx j → i ≡ j
    new_apart i j li lj q = grind arith

    pub extended : IsAlternating g r f (suc k) vx ex
    extended = record {
      path = record {
        apart = new_apart;
        within = by_spots (λ z. Within g.order z) p.path.within ww wx;
        outside = by_spots (λ z. r z ≡ false) p.path.outside out_w out_x;
        real = λ i l. elim (edge_spots i l) [
          | inl s ↦ subst (λ z. Within (size g) z) (sym s.1) (p.path.real i s.0)
          | inr s ↦ grind arith
        ];
        ends = λ i l. elim (edge_spots i l) [
          | inl s ↦ grind (arith, ends_by g (ex i) (e i) (vx i) (v i) (vx (suc i)) (v (suc i)) s.1, longer_below (suc (k + k)) v w x i, longer_below (suc (k + k)) v w x (suc i))
          | inr s ↦ grind arith
        ];
      };
      free = ap (degree g f) (longer_below (suc (k + k)) v w x 0 (omega arith)) ∙ p.free;
      turns = λ i l. elim (edge_spots i l) [
        | inl s ↦ ap f s.1 ∙ p.turns i s.0
        | inr s ↦ grind (arith, odd-double k)
      ];
    }
