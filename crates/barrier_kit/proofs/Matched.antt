-- Small facts on perfect matchings without a set of vertices, and on counts that are tight. Where
-- each term is at least one and the sum is no more than the number of terms, each term is one.
use Rattle.graph_core.proofs.from_counting.Common.{◌≡◌, ℕ, ◌+◌, ◌≤◌, ◌≢◌, Bool, true, false, ◌==◌, refl, sym, ap, ◌∙◌, arith, ◌&&◌, ◌||◌, not, eq-eqb, cases_Bool, true≢false, false_from_ne_true, both_ways, not-false, not-true, count_complement, count_zero, odd-double, some_none, some_true, at_le_total, total_add, total_congr, total_none, alike_not_apart, Within, bit, count, is_odd, Set, complement, none, union, some}
use Rattle.graph_core.proofs.Common.{degree-inside, degree-inside_off, perfect_matching, perfect_misses, ends_le_degree, ends_of, missed_edges, parted, IsCovered, Graph, IsGraph, degree, edges_in_cut, first_end, in_cut, inside, second_end, size, IsPerfect}
use Rattle.graph_facts.proofs.from_match_search.NearPerfectSets.{ends_far, ends_near}

abbrev pub inner : Graph → Set → Set → ℕ
inner g m x = count (size g) (λ e. m e && inside g x e)

pub perfect_congr : (g : Graph) (r s m : Set) → ((v : ℕ) → Within g.order v → r v ≡ s v) → IsPerfect g r m → IsPerfect g s m
perfect_congr g r s m h p = record { once = λ v w o. p.once v w (h v w ∙ o); away = λ v w o. p.away v w (h v w ∙ o) }

count_or : (n : ℕ) (m k t : Set) → ((e : ℕ) → Within n e → m e ≡ true → k e ≡ true → ⊥) → count n (λ e. (m e || k e) && t e) ≡ count n (λ e. m e && t e) + count n (λ e. k e && t e)
count_or n m k t h = total_congr n _ _ (λ e w. grind arith) ∙ total_add n (λ e. bit (m e && t e)) (λ e. bit (k e && t e))

degree_or : (g : Graph) (m k : Set) → ((e : ℕ) → Within (size g) e → m e ≡ true → k e ≡ true → ⊥) → (v : ℕ) → degree g (λ e. m e || k e) v ≡ degree g m v + degree g k v
degree_or g m k h v = let a = count_or (size g) m k (λ e. first_end g e == v) h in let b = count_or (size g) m k (λ e. second_end g e == v) h in omega arith

-- an edge of a perfect matching is outside r and no loop
pub ends_out : (g : Graph) (r m : Set) → IsGraph g → IsPerfect g r m → (e : ℕ) → Within (size g) e → m e ≡ true → (r (first_end g e) ≡ false) × (r (second_end g e) ≡ false)
ends_out g r m is p e w t = (
  false_from_ne_true (r (first_end g e)) (λ h. let a = p.away (first_end g e) (is e w).0 h in let b = ends_le_degree g m e (first_end g e) w t in let c = ends_near g e in absurd (omega arith)),
  false_from_ne_true (r (second_end g e)) (λ h. let a = p.away (second_end g e) (is e w).1 h in let b = ends_le_degree g m e (second_end g e) w t in let c = ends_far g e in absurd (omega arith)),
)

pub loop_free : (g : Graph) (r m : Set) → IsGraph g → IsPerfect g r m → (e : ℕ) → Within (size g) e → m e ≡ true → first_end g e ≢ second_end g e
unfolding ends_of
loop_free g r m is p e w t l =
    let a = (perfect_matching g r m p).once (first_end g e) (is e w).0 in
    let b = ends_le_degree g m e (first_end g e) w t in
    let c = ap bit (eq-eqb (first_end g e) (first_end g e) refl) in
    let d = ap bit (eq-eqb (second_end g e) (first_end g e) (sym l)) in omega arith

-- perfect matchings of two sets apart make one of the union
pub glue : (g : Graph) (x y m k : Set) → IsGraph g → ((v : ℕ) → Within g.order v → x v ≡ true → y v ≡ true → ⊥) → IsPerfect g (complement x) m → IsPerfect g (complement y) k → IsPerfect g (complement (union x y)) (λ e. m e || k e)
glue g x y m k is h p q = grind (arith, met_once, degree_or g m k apart)
  where
    apart : (e : ℕ) → Within (size g) e → m e ≡ true → k e ≡ true → ⊥
    apart e w me ke = h (first_end g e) (is e w).0 (not-false (x (first_end g e)) (ends_out g (complement x) m is p e w me).0) (not-false (y (first_end g e)) (ends_out g (complement y) k is q e w ke).0)

    met_once : (v : ℕ) → Within g.order v → (a b : Bool) → x v ≡ a → y v ≡ b → not (a || b) ≡ false → degree g (λ e. m e || k e) v ≡ 1
    met_once v w true true e f o = absurd (h v w e f)
    met_once v w true false e f o = let d = degree_or g m k apart v in let c = p.once v w (ap not e) in let l = q.away v w (ap not f) in omega arith
    met_once v w false true e f o = let d = degree_or g m k apart v in let c = p.away v w (ap not e) in let l = q.once v w (ap not f) in omega arith
    met_once v w false false e f o = absurd (true≢false o)

-- a perfect matching with no edge in the cut of x, inside x
pub restrict : (g : Graph) (m x : Set) → IsPerfect g none m → edges_in_cut g m x ≡ 0 → IsPerfect g (complement x) (λ e. m e && inside g x e)
restrict g m x p z = grind (arith, degree-inside g m x no_cross, no_cross, not-false, degree-inside_off g m x, not-true)
  where
    no_cross : (e : ℕ) → Within (size g) e → (m e && in_cut g x e) ≡ false
    no_cross e w = count_zero (size g) (λ e. m e && in_cut g x e) z e w

-- a set that is neither empty nor all has an edge in its cut
pub cut_edge : (g : Graph) (x : Set) (u v : ℕ) → IsGraph g → IsCovered g → Within g.order u → Within g.order v → x u ≡ true → x v ≡ false → (e : ℕ) × Within (size g) e × (in_cut g x e ≡ true)
cut_edge g x u v is c wu wv xu xv = grind (arith, cases_Bool (some (size g) (in_cut g x)), some_true (size g) (in_cut g x), parted g u v is wu wv, some_none (size g) (in_cut g x))

pub crosses_apart : (g : Graph) (x : Set) (e : ℕ) → in_cut g x e ≡ true → first_end g e ≢ second_end g e
crosses_apart g x e h l = both_ways (in_cut g x e) (alike_not_apart (x (first_end g e)) (x (second_end g e)) (ap x l)) h

-- each vertex set that is neither empty nor all has an edge of some perfect matching in its cut, as
-- in a covered graph, and in an elementary one
abbrev pub AreCutsMet : Graph → Type 0
AreCutsMet g = (x : Set) (u v : ℕ) → Within g.order u → Within g.order v → x u ≡ true → x v ≡ false → (m : Set) × IsPerfect g none m × (1 ≤ edges_in_cut g m x)

-- some perfect matching has an edge in the cut
pub cut_matching : (g : Graph) (x : Set) (u v : ℕ) → IsGraph g → IsCovered g → Within g.order u → Within g.order v → x u ≡ true → x v ≡ false → (m : Set) × IsPerfect g none m × (1 ≤ edges_in_cut g m x)
cut_matching g x u v is c wu wv xu xv =
    let e = cut_edge g x u v is c wu wv xu xv in
    let a = c.allowed e.0 e.1 (crosses_apart g x e.0 e.2) in
    let o : bit (a.0 e.0 && in_cut g x e.0) ≡ 1 = rw (a.2, e.2) refl in
    (a.0, a.1, omega (arith, at_le_total (size g) (λ i. bit (a.0 i && in_cut g x i)) e.0 e.1))

pub cuts_met : (g : Graph) → IsGraph g → IsCovered g → AreCutsMet g
cuts_met g is c x u v = cut_matching g x u v is c

pub even_order : (g : Graph) (m : Set) → IsGraph g → IsPerfect g none m → is_odd g.order ≡ false
even_order g m is p = let a = missed_edges g none m is (perfect_matching g none m p) in let b = perfect_misses g none m p in let c = count_complement g.order none in
    let z : count g.order none ≡ 0 = total_none g.order _ (λ v w. refl) in
    let e : g.order ≡ count (size g) m + count (size g) m = omega arith in ap is_odd e ∙ odd-double (count (size g) m)
