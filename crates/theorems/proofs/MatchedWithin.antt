-- Matchings inside a set of vertices: edges that meet each vertex of it once, and do not cross
-- it, are a perfect matching of the graph that it induces.
use Rattle.tree_check.proofs.from_counting.Common.{◌≡◌, ℕ, suc, zero, ◌≤◌, true, false, refl, arith, ◌&&◌, inl, inr, not-false, not-true, Within, Set}
use Rattle.graph_core.proofs.Common.{degree-inside, degree-inside_off, ends_le_degree, one_end, Graph, HasEnds, degree, in_cut, size}
use Rattle.theorems.specs.Matchings.{MatchesWithin}

-- edges that meet each vertex of x once, of which none crosses x: those inside x are a perfect
-- matching of G[X]
pub perfect_within : (g : Graph) (m x : Set) → ((v : ℕ) → Within g.order v → x v ≡ true → degree g m v ≡ 1) → ((e : ℕ) → Within (size g) e → (m e && in_cut g x e) ≡ false) → MatchesWithin g m x
perfect_within g m x met no_cross = grind (arith, degree-inside, not-false, degree-inside_off, not-true)

-- an edge crosses x where one of its ends is in x and the other is not, and nowhere else
pub crossing_ends : (g : Graph) (x : Set) (e : ℕ) → in_cut g x e ≡ true → (v w : ℕ) × HasEnds g e v w × (x v ≡ true) × (x w ≡ false)
crossing_ends g x e h = grind arith

-- of an edge that crosses x with one end off x the other is in x
pub other_end : (g : Graph) (x : Set) (e v w : ℕ) → HasEnds g e v w → in_cut g x e ≡ true → x v ≡ false → x w ≡ true
other_end g x e v w h cross xv = grind arith

-- a matching of which no edge is at v has none with the end v
pub not_at : (g : Graph) (m : Set) (e v w : ℕ) → Within (size g) e → m e ≡ true → HasEnds g e v w → degree g m v ≡ 0 → ⊥
not_at g m e v w we me h z =
    let a = one_end g e v (elim h [ inl q ↦ inl q.0 | inr q ↦ inr q.1 ]) in
    let b = ends_le_degree g m e v we me in absurd (omega arith)

-- what a matching does not miss it meets once
pub met_once : (k : ℕ) → k ≤ 1 → (k ≡ 0 → ⊥) → k ≡ 1
met_once zero l n = absurd (n refl)
met_once (suc zero) l n = refl
met_once (suc (suc k)) l n = absurd (omega arith)
