-- A set of edges after one edge is put in or taken out: degrees, sizes, and what it misses.
-- Only one term of each sum changes.
use Rattle.vset_core.proofs.from_counting.Common.{◌≡◌, ℕ, suc, zero, ◌+◌, ◌*◌, ◌≤◌, ◌<◌, ◌≢◌, Bool, true, false, ◌==◌, refl, sym, ap, ◌∙◌, arith, ◌&&◌, not, eq-eqb, ne_eqb, ◌⊎◌, inl, inr, cases_eq, cases_Bool, both_ways, cases_order, count_put, total_put, at_le_total, some_term, total_add, total_congr, total_zero, two_le_total, bit_and_false, bit_and_true, Within, bit, count, total, Set, put}
use Rattle.graph_core.proofs.Parity.{degrees}
use Rattle.graph_core.proofs.Walks.{adjacent-edge, has_ends-cases}
pub use Rattle.graph_core.specs.Graph.{HasEnds}
use Rattle.graph_core.specs.Common.{Graph, IsGraph, degree, first_end, in_cut, inside, second_end, size, IsMatching, missed_count, adjacent}

-- how many ends at v edge e has
unfoldable pub ends_of : Graph → ℕ → ℕ → ℕ
ends_of g e v = bit (first_end g e == v) + bit (second_end g e == v)

pub degree_sum : (g : Graph) (m : Set) (v : ℕ) → degree g m v ≡ total (size g) (λ e. bit (m e) * ends_of g e v)
unfolding ends_of
degree_sum g m v = sym (total_add (size g) (λ e. bit (m e && (first_end g e == v))) (λ e. bit (m e && (second_end g e == v)))) ∙ total_congr (size g) _ _ (λ e w. grind arith)

pub degree_put : (g : Graph) (m : Set) (i : ℕ) (b : Bool) (v : ℕ) → Within (size g) i → degree g (put m i b) v + bit (m i) * ends_of g i v ≡ degree g m v + bit b * ends_of g i v
degree_put g m i b v w = ap (λ s. s + bit (m i) * ends_of g i v) (degree_sum g (put m i b) v) ∙ total_put (size g) m i b (λ e. ends_of g e v) w ∙ ap (λ s. s + bit b * ends_of g i v) (sym (degree_sum g m v))

-- how many edges two sets share
pub shared : ℕ → Set → Set → ℕ
shared k m n = total k (λ e. bit (n e) * bit (m e))

pub shared_put : (k : ℕ) (m n : Set) (i : ℕ) (b : Bool) → Within k i → shared k m (put n i b) + bit (n i) * bit (m i) ≡ shared k m n + bit b * bit (m i)
unfolding shared
shared_put k m n i b w = total_put k n i b (λ e. bit (m e)) w

pub shared_le : (k : ℕ) (m n : Set) → shared k m n ≤ k
unfolding shared
shared_le k m n = go k
  where
    le_one : (a b : Bool) → bit a * bit b ≤ 1
    le_one a b = grind arith

    go : (j : ℕ) → total j (λ e. bit (n e) * bit (m e)) ≤ j
    go zero = omega arith
    go (suc j) = omega (arith, go j, le_one (n (suc j)) (m (suc j)))

-- the degrees add up to twice the edges
pub sum_degrees : (g : Graph) (m : Set) → IsGraph g → total g.order (λ v. degree g m v) ≡ 2 * count (size g) m
sum_degrees g m is =
    let a = degrees g is m (λ v. true) in
    let b : total g.order (λ v. bit true * degree g m v) ≡ total g.order (λ v. degree g m v) = total_congr g.order _ _ (λ v w. omega arith) in
    let c : count (size g) (λ e. m e && in_cut g (λ v. true) e) ≡ total (size g) (λ e. 0) = total_congr (size g) _ _ (λ e w. bit_and_false (m e)) in
    let d : count (size g) (λ e. m e && inside g (λ v. true) e) ≡ count (size g) m = total_congr (size g) _ _ (λ e w. bit_and_true (m e)) in
    omega (arith, total_zero (size g))

-- what a matching misses, and twice its edges, are the vertices outside r
pub missed_edges : (g : Graph) (r m : Set) → IsGraph g → IsMatching g r m → missed_count g r m + 2 * count (size g) m ≡ count g.order (λ v. not (r v))
unfolding missed_count
missed_edges g r m is mm = ap (λ k. missed_count g r m + k) (sym (sum_degrees g m is)) ∙ sym (total_add g.order (λ v. bit (not (r v) && (degree g m v == 0))) (λ v. degree g m v)) ∙ total_congr g.order _ _ (λ v w. grind arith)

-- a vertex that m does not miss has an edge of m
pub edge_at : (g : Graph) (m : Set) (v : ℕ) → 0 < degree g m v → (e : ℕ) × Within (size g) e × (m e ≡ true) × ((y : ℕ) × (((first_end g e ≡ v) × (second_end g e ≡ y)) ⊎ ((first_end g e ≡ y) × (second_end g e ≡ v))))
unfolding ends_of
edge_at g m v h =
    let r = some_term (size g) (λ e. bit (m e) * ends_of g e v) (omega (arith, degree_sum g m v)) in
    (r.0, r.1, grind arith, other (first_end g r.0) (second_end g r.0) (grind arith))
  where
    other : (a b : ℕ) → 0 < bit (a == v) + bit (b == v) → (y : ℕ) × (((a ≡ v) × (b ≡ y)) ⊎ ((a ≡ y) × (b ≡ v)))
    other a b q = elim (cases_eq a v) [
      | inl e ↦ (b, inl (e, refl))
      | inr e ↦ elim (cases_eq b v) [
        | inl f ↦ (a, inr (refl, f))
        | inr f ↦ let x = ap bit (ne_eqb a v e) in let y = ap bit (ne_eqb b v f) in absurd (omega arith)
      ]
    ]

pub ends_le_degree : (g : Graph) (m : Set) (e v : ℕ) → Within (size g) e → m e ≡ true → ends_of g e v ≤ degree g m v
ends_le_degree g m e v w h = let a = at_le_total (size g) (λ e. bit (m e) * ends_of g e v) e w in let b = ap (λ k. bit k * ends_of g e v) h in omega (arith, degree_sum g m v)

pub two_ends_le_degree : (g : Graph) (m : Set) (e f v : ℕ) → Within (size g) e → Within (size g) f → e ≢ f → m e ≡ true → m f ≡ true → ends_of g e v + ends_of g f v ≤ degree g m v
two_ends_le_degree g m e f v we wf d me mf =
    let b = ap (λ k. bit k * ends_of g e v) me in
    let c = ap (λ k. bit k * ends_of g f v) mf in
    let s = degree_sum g m v in
    elim (Rattle.std.proofs.lemmas.Bool.cases_order e f) [
      | inl q ↦ absurd (d q)
      | inr q ↦ elim q [
        | inl l ↦ let a = two_le_total (size g) (λ e. bit (m e) * ends_of g e v) e f we wf l in omega arith
        | inr l ↦ let a = two_le_total (size g) (λ e. bit (m e) * ends_of g e v) f e wf we l in omega arith
      ]
    ]

-- how many ends an edge of x and y has at v
pub ends_of_is : (g : Graph) (e x y : ℕ) → HasEnds g e x y → (v : ℕ) → ends_of g e v ≡ bit (x == v) + bit (y == v)
unfolding ends_of
ends_of_is g e x y ends v = grind arith

pub bit_same : (x : ℕ) → bit (x == x) ≡ 1
bit_same x = ap bit (eq-eqb x x refl)

pub bit_other : (x v : ℕ) → x ≢ v → bit (x == v) ≡ 0
bit_other x v h = ap bit (ne_eqb x v h)

-- an edge of x and y that m misses can be added
pub add_edge : (g : Graph) (r m : Set) (e x y : ℕ) → IsMatching g r m → Within (size g) e → x ≢ y → r x ≡ false → r y ≡ false → HasEnds g e x y → degree g m x ≡ 0 → degree g m y ≡ 0 → IsMatching g r (put m e true) × (count (size g) (put m e true) ≡ count (size g) m + 1)
add_edge g r m e x y mm w d rx ry ends mx my = (record { once = once; away = away }, more)
  where
    out : m e ≡ false
    out = grind (arith, cases_Bool (m e), ends_le_degree g m e x w, ends_of_is g e x y ends x, bit_same x)

    more : count (size g) (put m e true) ≡ count (size g) m + 1
    more = let a = count_put (size g) m e true w in let b = ap bit out in omega arith

    step : (v : ℕ) → degree g (put m e true) v ≡ degree g m v + (bit (x == v) + bit (y == v))
    step v = let a = degree_put g m e true v w in let b = ends_of_is g e x y ends v in let c = ap (λ k. bit k * ends_of g e v) out in omega arith

    once : (v : ℕ) → Within g.order v → degree g (put m e true) v ≤ 1
    once v u = let s = step v in let o = mm.once v u in elim (cases_eq x v) [
      | inl p ↦ let a = bit_other y v (λ q. d (p ∙ sym q)) in let b = ap (degree g m) p in let c = ap bit (eq-eqb x v p) in omega arith
      | inr p ↦ let a = bit_other x v p in elim (cases_eq y v) [
        | inl q ↦ let b = ap (degree g m) q in let c = ap bit (eq-eqb y v q) in omega arith
        | inr q ↦ let b = bit_other y v q in omega arith
      ]
    ]

    away : (v : ℕ) → Within g.order v → r v ≡ true → degree g (put m e true) v ≡ 0
    away v u o = let s = step v in let z = mm.away v u o in
        let a = bit_other x v (λ p. both_ways (r v) (ap r (sym p) ∙ rx) o) in
        let b = bit_other y v (λ p. both_ways (r v) (ap r (sym p) ∙ ry) o) in omega arith

-- an edge of g - r
pub edge_of : (g : Graph) (r : Set) (x y : ℕ) → adjacent g r x y ≡ true → (e : ℕ) × Within (size g) e × (r x ≡ false) × (r y ≡ false) × (((first_end g e ≡ x) × (second_end g e ≡ y)) ⊎ ((first_end g e ≡ y) × (second_end g e ≡ x)))
edge_of g r x y h = let p = adjacent-edge g r x y h in (p.2.0, p.2.1, p.0, p.1, has_ends-cases g x y p.2.0 p.2.2)
