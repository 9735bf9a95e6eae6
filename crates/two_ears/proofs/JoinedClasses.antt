-- Being joined in G - S is an equivalence, whose classes are the components of G - S and the single
-- vertices of S. So the number of components is submodular over sets of vertices no two of which an
-- edge joins.
use Rattle.graph_core.proofs.from_counting.Common.{◌≡◌, ℕ, ◌+◌, ◌≤◌, ◌≢◌, Bool, true, false, ◌==◌, refl, sym, ap, ap₂, ◌∙◌, arith, ◌&&◌, not, eq-eqb, eqb-true, ◌⊎◌, inl, inr, nat_lt, ltb-true, [], ◌∷◌, List, cases_eq, and_parts, and_from, both_ways, false_from_ne_true, count_meet_union, some_true, true_some, total_add, total_congr, and_comm, Within, bit, count, Set, meet, union, some}
use Rattle.graph_core.proofs.Common.{joined_walk, walk_joined, IsClosed, Walk-stays, adjacent-edge, adjacent_from, adjacent_within, has_ends-back, has_ends-cases, has_ends-own, joined_back, joined_on, joined_self, component_count, is_least, Graph, IsGraph, first_end, has_ends, second_end, size, with_ends, Joined, Walk, adjacent, joined}
use Rattle.two_ears.proofs.ClassCounts.{IsFiner, four_classes}
use Rattle.two_ears.specs.AddedEdges.{KeepsEdges}
use Rattle.two_ears.specs.Equivalences.{IsEquivalence, class_count}

pub joined_equivalence : (g : Graph) (s : Set) → IsGraph g → IsEquivalence g.order (joined g s)
joined_equivalence g s is = grind (arith, walk_joined, joined_self, joined_back, joined_walk, joined_on)

-- a vertex of s is joined to itself alone
pub removed_alone : (g : Graph) (s : Set) (u v : ℕ) → s u ≡ true → joined g s u v ≡ true → u ≡ v
unfolding Joined
removed_alone g s u v h j = let w = joined_walk g s u v j in go w.0 w.1
  where
    go : (ws : List ℕ) → Walk (adjacent g s) u ws v → u ≡ v
    go [] w = w
    go (x ∷ ws) w = absurd (both_ways (s u) (adjacent-edge g s u x w.0).0 h)

-- the classes are the components and the vertices of s
pub class_count-components : (g : Graph) (s : Set) → class_count g.order (joined g s) ≡ component_count g s + count g.order s
unfolding component_count
class_count-components g s = total_congr g.order _ _ (λ u w. each u w) ∙ total_add g.order (λ u. bit (is_least g s u)) (λ u. bit (s u))
  where
    bits : (a b : Bool) → (a ≡ true → b ≡ false) → bit (not b) ≡ bit (not a && not b) + bit a
    bits a b h = grind arith

    each : (u : ℕ) → Within g.order u → bit (not (some g.order (λ v. joined g s u v && nat_lt v u))) ≡ bit (is_least g s u) + bit (s u)
    each u w = grind (arith, bits, some, joined, nat_lt, false_from_ne_true, some_true, and_parts, removed_alone, ltb-true)

-- what is joined step by step
pub joined_steps : (g : Graph) (xs : List (ℕ × ℕ)) (s a : Set) → IsGraph g → IsGraph (with_ends g xs) → ((u v : ℕ) → Within g.order u → Within g.order v → adjacent g s u v ≡ true → joined (with_ends g xs) a u v ≡ true) →
    (u v : ℕ) → Within g.order u → joined g s u v ≡ true → joined (with_ends g xs) a u v ≡ true
unfolding Joined IsClosed
joined_steps g xs s a is ix steps u v w j =
    let k = joined_walk g s u v j in
    Walk-stays g.order (adjacent g s) (joined (with_ends g xs) a u) (adjacent_within g s is)
    (λ c d wc wd jc cd. walk_joined (with_ends g xs) a ix u d w (joined_on (with_ends g xs) a u c d (joined_walk (with_ends g xs) a u c jc) (joined_walk (with_ends g xs) a c d (steps c d wc wd cd))))
    u v k.0 (walk_joined (with_ends g xs) a ix u u w (joined_self (with_ends g xs) a u)) k.1

pub adjacent_joined : (g : Graph) (s : Set) → IsGraph g → (u v : ℕ) → adjacent g s u v ≡ true → joined g s u v ≡ true
unfolding Joined
adjacent_joined g s is u v h = walk_joined g s is u v (adjacent_within g s is u v h).0 (v ∷ [], (h, refl))

-- g - s joins no more than g with further edges without a part of s
pub joined_more : (g : Graph) (xs : List (ℕ × ℕ)) (s a : Set) → IsGraph g → KeepsEdges g xs → ((v : ℕ) → Within g.order v → a v ≡ true → s v ≡ true) → IsFiner g.order (joined g s) (joined (with_ends g xs) a)
joined_more g xs s a is h less u v wu wv = joined_steps g xs s a is h.graph (λ c d wc wd cd.
    let p = adjacent-edge g s c d cd in
    adjacent_joined (with_ends g xs) a h.graph c d (and_from (not (a c) && not (a d)) (some (size (with_ends g xs)) (has_ends (with_ends g xs) c d)) (rw (out c wc p.0, out d wd p.1) refl) (turn c d p.2.0 p.2.1 p.2.2))) u v wu
  where
    out : (v : ℕ) → Within g.order v → s v ≡ false → a v ≡ false
    out v w o = false_from_ne_true (a v) (λ t. both_ways (s v) o (less v w t))

    turn : (c d e : ℕ) → Within (size g) e → has_ends g c d e ≡ true → some (size (with_ends g xs)) (has_ends (with_ends g xs) c d) ≡ true
    turn c d e w b = elim (has_ends-cases g c d e b) [
      | inl k ↦ subst2 (first_end g e) (second_end g e) c d k.0 k.1 (h.old e w)
      | inr k ↦ swap c d (subst2 (first_end g e) (second_end g e) d c k.0 k.1 (h.old e w))
    ]
      where
        subst2 : (p q c d : ℕ) → p ≡ c → q ≡ d → some (size (with_ends g xs)) (has_ends (with_ends g xs) p q) ≡ true → some (size (with_ends g xs)) (has_ends (with_ends g xs) c d) ≡ true
        subst2 p q c d e f t = ap₂ (λ c d. some (size (with_ends g xs)) (has_ends (with_ends g xs) c d)) (sym e) (sym f) ∙ t

        swap : (c d : ℕ) → some (size (with_ends g xs)) (has_ends (with_ends g xs) d c) ≡ true → some (size (with_ends g xs)) (has_ends (with_ends g xs) c d) ≡ true
        swap c d t = let r = some_true (size (with_ends g xs)) (has_ends (with_ends g xs) d c) t in true_some (size (with_ends g xs)) (has_ends (with_ends g xs) c d) r.0 r.1 (has_ends-back (with_ends g xs) d c r.0 r.2)

pub keeps-itself : (g : Graph) → IsGraph g → KeepsEdges g g.ends
keeps-itself g is = record { graph = is; old = λ e w. true_some (size g) (has_ends g (first_end g e) (second_end g e)) e w (has_ends-own g e) }

-- the number of components without a, for sets a of vertices no two of which an edge joins; loops
-- do no harm
pub submodular : (g : Graph) (s a b : Set) → IsGraph g → ((e : ℕ) → Within (size g) e → first_end g e ≢ second_end g e → (s (first_end g e) && s (second_end g e)) ≡ false) →
    ((v : ℕ) → Within g.order v → a v ≡ true → s v ≡ true) → ((v : ℕ) → Within g.order v → b v ≡ true → s v ≡ true) →
    component_count g a + component_count g b ≤ component_count g (union a b) + component_count g (meet a b)
unfolding Joined IsClosed
submodular g s a b is apart in_a in_b =
    let f = four_classes g.order (joined g (union a b)) (joined g a) (joined g b) (joined g (meet a b)) (joined_equivalence g (union a b) is) (joined_equivalence g a is) (joined_equivalence g b is) (joined_equivalence g (meet a b) is)
    (joined_more g g.ends (union a b) a is (keeps-itself g is) (λ v w t. Rattle.std.proofs.lemmas.Bool.or_left (a v) (b v) t))
    (joined_more g g.ends (union a b) b is (keeps-itself g is) (λ v w t. Rattle.std.proofs.lemmas.Bool.or_right (a v) (b v) t)) above in
    let c0 = class_count-components g (union a b) in
    let c1 = class_count-components g a in
    let c2 = class_count-components g b in
    let c3 = class_count-components g (meet a b) in
    let n = count_meet_union g.order a b in omega arith
  where
    which : (ac ad bc bd sc sd : Bool) → (ac ≡ true → sc ≡ true) → (ad ≡ true → sd ≡ true) → (bc ≡ true → sc ≡ true) → (bd ≡ true → sd ≡ true) → (ac && bc) ≡ false → (ad && bd) ≡ false → (sc && sd) ≡ false → ((ac ≡ false) × (ad ≡ false)) ⊎ ((bc ≡ false) × (bd ≡ false))
    which ac ad bc bd sc sd h1 h2 h3 h4 h5 h6 h7 = grind arith

    apart_at : (c d e : ℕ) → Within (size g) e → has_ends g c d e ≡ true → c ≢ d → (s c && s d) ≡ false
    apart_at c d e w t n = grind (arith, has_ends-cases, and_comm)

    above : (z : ℕ → ℕ) → ((c d : ℕ) → Within g.order c → Within g.order d → joined g a c d ≡ true → z c ≡ z d) → ((c d : ℕ) → Within g.order c → Within g.order d → joined g b c d ≡ true → z c ≡ z d) → (u v : ℕ) → Within g.order u → Within g.order v → joined g (meet a b) u v ≡ true → z u ≡ z v
    above z za zb u v wu wv j =
        let k = joined_walk g (meet a b) u v j in
        eqb-true (z u) (z v) (Walk-stays g.order (adjacent g (meet a b)) (λ t. z u == z t) (adjacent_within g (meet a b) is) (λ c d wc wd h cd.
        let p = adjacent-edge g (meet a b) c d cd in
        eq-eqb (z u) (z d) (eqb-true (z u) (z c) h ∙ (elim (cases_eq c d) [
          | inl i ↦ ap z i
          | inr n ↦ elim (which (a c) (a d) (b c) (b d) (s c) (s d) (in_a c wc) (in_a d wd) (in_b c wc) (in_b d wd) p.0 p.1 (apart_at c d p.2.0 p.2.1 p.2.2 n)) [
            | inl q ↦ za c d wc wd (adjacent_joined g a is c d (adjacent_from g a c d p.2.0 q.0 q.1 p.2.1 p.2.2))
            | inr q ↦ zb c d wc wd (adjacent_joined g b is c d (adjacent_from g b c d p.2.0 q.0 q.1 p.2.1 p.2.2))
          ]
        ]))) u v k.0 (eq-eqb (z u) (z u) refl) k.1)
