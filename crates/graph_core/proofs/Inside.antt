-- The edges of m inside a set x: at a vertex of x they are those of m if none crosses x, and off x
-- there are none.
use Rattle.vset_core.proofs.from_counting.Common.{◌≡◌, ℕ, ◌+◌, Bool, true, false, ◌==◌, ap, ap₂, ◌∙◌, arith, ◌&&◌, ◌||◌, not, eqb-true, total_congr, total_none, Within, bit, Set}
use Rattle.graph_core.specs.Common.{Graph, degree, first_end, in_cut, inside, second_end, size}

first : (a b c t : Bool) → (t ≡ true → b ≡ true) → (a && ((b && not c) || (not b && c))) ≡ false → ((a && (b && c)) && t) ≡ (a && t)
first a b c t f h = grind arith

second : (a b c t : Bool) → (t ≡ true → c ≡ true) → (a && ((b && not c) || (not b && c))) ≡ false → ((a && (b && c)) && t) ≡ (a && t)
second a b c t f h = grind arith

pub degree-inside : (g : Graph) (m x : Set) → ((e : ℕ) → Within (size g) e → (m e && in_cut g x e) ≡ false) → (v : ℕ) → x v ≡ true → degree g (λ e. m e && inside g x e) v ≡ degree g m v
degree-inside g m x no_cross v o = ap₂ ◌+◌
    (total_congr (size g) (λ e. bit ((m e && inside g x e) && (first_end g e == v))) (λ e. bit (m e && (first_end g e == v))) (λ e w. ap bit (first (m e) (x (first_end g e)) (x (second_end g e)) (first_end g e == v) (λ t. ap x (eqb-true (first_end g e) v t) ∙ o) (no_cross e w))))
    (total_congr (size g) (λ e. bit ((m e && inside g x e) && (second_end g e == v))) (λ e. bit (m e && (second_end g e == v))) (λ e w. ap bit (second (m e) (x (first_end g e)) (x (second_end g e)) (second_end g e == v) (λ t. ap x (eqb-true (second_end g e) v t) ∙ o) (no_cross e w))))

gone : (a b c t : Bool) → (t ≡ true → b ≡ false) → ((a && (b && c)) && t) ≡ false
gone a b c t f = grind arith

gone' : (a b c t : Bool) → (t ≡ true → c ≡ false) → ((a && (b && c)) && t) ≡ false
gone' a b c t f = grind arith

pub degree-inside_off : (g : Graph) (m x : Set) (v : ℕ) → x v ≡ false → degree g (λ e. m e && inside g x e) v ≡ 0
degree-inside_off g m x v o = grind (arith, total_none (size g), gone, eqb-true, gone')
