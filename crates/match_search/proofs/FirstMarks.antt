-- The marks that the engine begins with, and the bound on its augmentations. An edge between two
-- free vertices is added: it meets these two alone, so all other free vertices stay free.
use Rattle.graph_core.proofs.from_counting.Common.{◌≡◌, ℕ, ◌+◌, ◌≢◌, Bool, true, false, ◌==◌, ◌||◌, ◌&&◌, not, ap, ap₂, arith, both_ways, or_left, or_right, false_from_ne_true, total_none, Within, bit, Set, put}
use Rattle.graph_core.proofs.Common.{add_edge, degree_put, ends_of_is, Graph, HasEnds, degree, first_end, second_end, size, IsMatching}

-- no edge at all
pub empty_degree : (g : Graph) (m : Set) → ((e : ℕ) → m e ≡ false) → (v : ℕ) → degree g m v ≡ 0
empty_degree g m h v = ap₂ ◌+◌ (total_none (size g) _ (λ e w. ap (λ b. bit (b && (first_end g e == v))) (h e))) (total_none (size g) _ (λ e w. ap (λ b. bit (b && (second_end g e == v))) (h e)))

pub empty_matching : (g : Graph) (r m : Set) → ((e : ℕ) → m e ≡ false) → IsMatching g r m
empty_matching g r m h = record { once = λ v w. let a = empty_degree g m h v in omega arith; away = λ v w q. empty_degree g m h v }

-- what the test of an edge says: its ends differ, and neither was met
pub addable : (a b d : Bool) → (not a && (not b && not d)) ≡ true → (a ≡ false) × (b ≡ false) × (d ≡ false)
addable a b d h = grind arith

-- an edge between two free vertices is added
pub added_edge : (g : Graph) (r m met met' : Set) (e x y : ℕ) → IsMatching g r m → ((v : ℕ) → Within g.order v → met v ≡ false → (r v ≡ false) × (degree g m v ≡ 0)) →
    Within (size g) e → Within g.order x → Within g.order y → HasEnds g e x y → x ≢ y → met x ≡ false → met y ≡ false → ((v : ℕ) → met' v ≡ ((met v || (x == v)) || (y == v))) →
    IsMatching g r (put m e true) × ((v : ℕ) → Within g.order v → met' v ≡ false → (r v ≡ false) × (degree g (put m e true) v ≡ 0))
added_edge g r m met met' e x y mm free we wx wy ends xy mx my met'_is = grind (arith, add_edge, false_from_ne_true, both_ways, or_left, or_right, ends_of_is, degree_put)
