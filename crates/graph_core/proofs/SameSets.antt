-- Sets with the same vertices: they have the same cut, and are tight and nontrivial together.
-- Each is said vertex by vertex, so it goes over term by term.
use Rattle.vset_core.proofs.from_counting.Common.{◌≡◌, ℕ, sym, ap₂, ◌∙◌, ◌&&◌, ◌||◌, not, arith, count_congr, Within, Set, complement}
use Rattle.graph_core.specs.Common.{Graph, IsGraph, first_end, second_end, size, CutIsTight, IsNontrivial, IsTight}

-- the same cut is tight
pub cut_congr : (g : Graph) (x y : Set) → IsGraph g → ((v : ℕ) → Within g.order v → x v ≡ y v) → CutIsTight g x → CutIsTight g y
cut_congr g x y is h t m p = count_congr (size g) _ _ (λ e w. ap₂ (λ a b. m e && ((a && not b) || (not a && b))) (sym (h (first_end g e) (is e w).0)) (sym (h (second_end g e) (is e w).1))) ∙ t m p

-- sets with the same vertices are tight alike
pub tight-same : (g : Graph) (x y : Set) → IsGraph g → ((v : ℕ) → Within g.order v → x v ≡ y v) → IsTight g x → IsTight g y
tight-same g x y is h t = grind (arith, count_congr g.order x y h, count_congr g.order (complement x) (complement y), cut_congr g x y is h t.cut)

-- sets that agree on 1 to n are nontrivial together
pub nontrivial-same : (n : ℕ) (x y : Set) → ((v : ℕ) → Within n v → x v ≡ y v) → IsNontrivial n x → IsNontrivial n y
nontrivial-same n x y h t = grind (arith, count_congr n x y h, count_congr n (complement x) (complement y))
