-- What changes where the edges at w get other ends in the place of w: nothing at the other
-- vertices, and a new end meets the edges that were given it. Idea: along the list of edges, with
-- the marks of the edges at w taken out in order.
use Rattle.graph_core.proofs.from_counting.Common.{◌≡◌, ℕ, suc, ◌+◌, ◌≤◌, ◌<◌, ◌≢◌, Bool, true, false, cond, ◌==◌, ◌&&◌, ◌⊎◌, inl, inr, List, [], ◌∷◌, length, refl, sym, ap, ap₂, ◌∙◌, arith, eq-eqb, ne_eqb, or_parts, both_ways, or_left, or_right, bit_and_false, Within, bit, Set, mem}
use Rattle.grow_gen.specs.Common.{is_at, end_opposite, edge_with_end, rehung_edges}
use Rattle.grow_gen.proofs.EdgeSums.{Each, sum_edges, ends_at, by_test, marks_where}

-- the marks of the edges at w
abbrev pub flags_at : ℕ → List Bool → List (ℕ × ℕ) → List Bool
flags_at w bs es = marks_where (is_at w) bs es

-- how many true flags have their target in x
abbrev pub caught : Set → List Bool → List ℕ → ℕ
caught x [] ts = 0
caught x (b ∷ bs) [] = 0
caught x (b ∷ bs) (t ∷ ts) = bit (b && x t) + caught x bs ts

-- an edge between two different vertices of 1 to n
abbrev pub IsEdge : ℕ → ℕ × ℕ → Type 0
IsEdge n e = Within n e.0 × Within n e.1 × (e.0 ≢ e.1)

-- an edge at w has w as its first end, or as its second alone
pub at-cases : (w t : ℕ) (e : ℕ × ℕ) → is_at w e ≡ true → ((e.0 ≡ w) × (edge_with_end w t e ≡ (t, e.1)) × (end_opposite w e ≡ e.1)) ⊎ ((e.1 ≡ w) × (e.0 ≢ w) × (edge_with_end w t e ≡ (e.0, t)) × (end_opposite w e ≡ e.0))
at-cases w t e h = grind arith

-- an edge that is not at w has other ends
pub not_at-ends : (w : ℕ) (e : ℕ × ℕ) → is_at w e ≡ false → (e.0 ≢ w) × (e.1 ≢ w)
not_at-ends w e h = let p = or_parts (e.0 == w) (e.1 == w) h in (λ q. both_ways (e.0 == w) p.0 (eq-eqb e.0 w q), λ q. both_ways (e.1 == w) p.1 (eq-eqb e.1 w q))

pub rehung_edges-none : (w : ℕ) (es : List (ℕ × ℕ)) → rehung_edges w [] es ≡ es
rehung_edges-none w [] = refl
rehung_edges-none w (e ∷ es) = refl

pub length-rehung_edges : (w : ℕ) (ts : List ℕ) (es : List (ℕ × ℕ)) → length (rehung_edges w ts es) ≡ length es
length-rehung_edges w ts [] = refl
length-rehung_edges w [] (e ∷ es) = refl
length-rehung_edges w (t ∷ ts) (e ∷ es) = grind (arith, by_test (is_at w e), length-rehung_edges w ts es, length-rehung_edges w (t ∷ ts) es)

pub member-first : (t : ℕ) (ts : List ℕ) → mem (t ∷ ts) t ≡ true
member-first t ts = or_left (t == t) (mem ts t) (eq-eqb t t refl)

pub member-later : (u t : ℕ) (ts : List ℕ) → mem ts u ≡ true → mem (t ∷ ts) u ≡ true
member-later u t ts h = or_right (t == u) (mem ts u) h

-- an end elsewhere does not count
pub no_end : (b : Bool) (x y : ℕ) → x ≢ y → bit (b && (x == y)) ≡ 0
no_end b x y d = ap (λ k. bit (b && k)) (ne_eqb x y d) ∙ bit_and_false b

-- away from w and the targets nothing changes
pub sum_edges-rehung_elsewhere : (w v : ℕ) (ts : List ℕ) (bs : List Bool) (es : List (ℕ × ℕ)) → v ≢ w → ((t : ℕ) → mem ts t ≡ true → t ≢ v) → length bs ≡ length es → sum_edges (ends_at v) bs (rehung_edges w ts es) ≡ sum_edges (ends_at v) bs es
sum_edges-rehung_elsewhere w v ts bs [] d h l = refl
sum_edges-rehung_elsewhere w v [] bs (e ∷ es) d h l = refl
sum_edges-rehung_elsewhere w v (t ∷ ts) [] (e ∷ es) d h l = absurd (omega arith)
sum_edges-rehung_elsewhere w v (t ∷ ts) (b ∷ bs) (e ∷ es) d h l =
    by_test (is_at w e) (λ s. sum_edges (ends_at v) (b ∷ bs) (cond s (edge_with_end w t e ∷ rehung_edges w ts es) (e ∷ rehung_edges w (t ∷ ts) es)) ≡ ends_at v b e + sum_edges (ends_at v) bs es)
    (λ a. ap₂ ◌+◌ (grind arith) (sum_edges-rehung_elsewhere w v ts bs es d (λ u m. h u (member-later u t ts m)) (omega arith)))
    (λ a. ap (λ k. ends_at v b e + k) (sum_edges-rehung_elsewhere w v (t ∷ ts) bs es d h (omega arith)))

-- y is not an end of the edge but perhaps in the place of w, and the edge is not a loop
abbrev pub IsClear : ℕ → ℕ → ℕ × ℕ → Type 0
IsClear w y e = (e.0 ≡ y → e.0 ≡ w) × (e.1 ≡ y → e.1 ≡ w) × (e.0 ≢ e.1)

pub caught-none : (x : Set) (bs : List Bool) → caught x bs [] ≡ 0
caught-none x [] = refl
caught-none x (b ∷ bs) = refl

-- the new ends at y are those of the edges whose target is y
pub sum_edges-rehung_there : (w y : ℕ) (ts : List ℕ) (bs : List Bool) (es : List (ℕ × ℕ)) → Each (IsClear w y) es → length bs ≡ length es → length (flags_at w bs es) ≤ length ts →
    sum_edges (ends_at y) bs (rehung_edges w ts es) ≡ caught (λ t. t == y) (flags_at w bs es) ts
sum_edges-rehung_there w y ts bs [] c l f = refl
sum_edges-rehung_there w y ts [] (e ∷ es) c l f = absurd (omega arith)
sum_edges-rehung_there w y [] (b ∷ bs) (e ∷ es) c l f = by_test (is_at w e)
    (λ s. length (cond s (b ∷ flags_at w bs es) (flags_at w bs es)) ≤ 0 → ends_at y b e + sum_edges (ends_at y) bs es ≡ caught (λ t. t == y) (cond s (b ∷ flags_at w bs es) (flags_at w bs es)) [])
    (λ a k. absurd (omega arith))
    (λ a k. let n = not_at-ends w e a in
    ap₂ ◌+◌ (ap₂ ◌+◌ (no_end b e.0 y (λ q. n.0 (c.0.0 q))) (no_end b e.1 y (λ q. n.1 (c.0.1 q))))
    (ap (sum_edges (ends_at y) bs) (sym (rehung_edges-none w es)) ∙ sum_edges-rehung_there w y [] bs es c.1 (omega arith) k ∙ caught-none (λ t. t == y) (flags_at w bs es))
    ∙ sym (caught-none (λ t. t == y) (flags_at w bs es)))
    f
sum_edges-rehung_there w y (t ∷ ts) (b ∷ bs) (e ∷ es) c l f = by_test (is_at w e)
    (λ s. length (cond s (b ∷ flags_at w bs es) (flags_at w bs es)) ≤ suc (length ts) →
    sum_edges (ends_at y) (b ∷ bs) (cond s (edge_with_end w t e ∷ rehung_edges w ts es) (e ∷ rehung_edges w (t ∷ ts) es)) ≡ caught (λ t. t == y) (cond s (b ∷ flags_at w bs es) (flags_at w bs es)) (t ∷ ts))
    (λ a k. ap₂ ◌+◌ (grind arith) (sum_edges-rehung_there w y ts bs es c.1 (omega arith) (omega arith)))
    (λ a k. let n = not_at-ends w e a in
    ap₂ ◌+◌ (ap₂ ◌+◌ (no_end b e.0 y (λ q. n.0 (c.0.0 q))) (no_end b e.1 y (λ q. n.1 (c.0.1 q)))) (sum_edges-rehung_there w y (t ∷ ts) bs es c.1 (omega arith) k)
    ∙ (let z : 0 + 0 + caught (λ t. t == y) (flags_at w bs es) (t ∷ ts) ≡ caught (λ t. t == y) (flags_at w bs es) (t ∷ ts) = omega arith in z))
    f

-- the edges stay edges
pub each-rehung : (n k w : ℕ) (ts : List ℕ) (es : List (ℕ × ℕ)) → n ≤ k → ((t : ℕ) → mem ts t ≡ true → Within k t × ((t ≡ w) ⊎ (n < t))) → Each (IsEdge n) es → Each (IsEdge k) (rehung_edges w ts es)
each-rehung n k w ts [] l h c = tt
each-rehung n k w [] (e ∷ es) l h c = wider (e ∷ es) c
  where
    wider : (es : List (ℕ × ℕ)) → Each (IsEdge n) es → Each (IsEdge k) es
    wider [] c = tt
    wider (e ∷ es) c = let a = c.0.0 in let b = c.0.1 in (((a.0, omega arith), (b.0, omega arith), c.0.2), wider es c.1)
each-rehung n k w (t ∷ ts) (e ∷ es) l h c = by_test (is_at w e) (λ s. Each (IsEdge k) (cond s (edge_with_end w t e ∷ rehung_edges w ts es) (e ∷ rehung_edges w (t ∷ ts) es)))
    (λ a. ((grind (arith, member-first t ts, at-cases w t e a)), each-rehung n k w ts es l (λ u m. h u (member-later u t ts m)) c.1))
    (λ a. let x = c.0.0 in let y = c.0.1 in (((x.0, omega arith), (y.0, omega arith), c.0.2), each-rehung n k w (t ∷ ts) es l h c.1))
  where
    away : (v : ℕ) → v ≢ w → Within n v → t ≢ v
    away v d b q = elim (h t (member-first t ts)).1 [ inl z ↦ d (sym q ∙ z) | inr z ↦ absurd (omega arith) ]
