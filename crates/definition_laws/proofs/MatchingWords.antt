-- Matchings by degrees are the textbook's matchings: no edge has an end in the removed set, each
-- vertex is met once. A degree is a sum of ends over the edges, so an edge with an end at a vertex
-- of degree 1 is its only one, and the other way round.
use Rattle.counting.proofs.Common.{◌≡◌, ℕ, ◌*◌, ◌≤◌, ◌≢◌, true, false, refl, sym, ap, arith, inl, inr, eq-eqb, ne_eqb, cases_eq, true≢false, total_at, total_none, Within, bit, Set, none}
use Rattle.graph_core.proofs.Common.{degree_sum, edge_at, ends_le_degree, ends_of, ends_of_is, perfect_matching, apart_matching, ends_one, matching_apart, one_end, Graph, HasNoLoop, IsGraph, degree, first_end, second_end, size, IsEnd, IsMatching, IsPerfect, ShareNoEnd}
use Rattle.definition_laws.specs.Words.{Avoids, HoldsNoLoop, MeetsEachOnce}

-- what counts is an end
is_end : (g : Graph) (e v : ℕ) → 1 ≤ ends_of g e v → IsEnd g e v
is_end g e v p = grind (arith, ends_of_is g e (first_end g e) (second_end g e), cases_eq (first_end g e) v, cases_eq (second_end g e) v, ne_eqb (first_end g e) v, ne_eqb (second_end g e) v)

-- where no edge of m has an end in r, each vertex of r has degree 0 in m
avoids_zero : (g : Graph) (r m : Set) → Avoids g r m → (v : ℕ) → Within g.order v → r v ≡ true → degree g m v ≡ 0
avoids_zero g r m av v wv o = grind (arith, degree_sum g m v, total_none (size g), ends_of g, cases_eq, is_end g)

-- and the other way round
zero_avoids : (g : Graph) (r m : Set) → ((v : ℕ) → Within g.order v → r v ≡ true → degree g m v ≡ 0) → Avoids g r m
zero_avoids g r m away e v we wv me o end = let a = ends_le_degree g m e v we me in let b = one_end g e v end in let z = away v wv o in absurd (omega arith)

-- no edge of a perfect matching of g - r has an end in r
pub perfect-avoids : (g : Graph) (r m : Set) → IsPerfect g r m → Avoids g r m
perfect-avoids g r m p = zero_avoids g r m p.away

-- no vertex is in the empty set
pub avoids_none : (g : Graph) (m : Set) → Avoids g none m
avoids_none g m e v we wv me o end = absurd (true≢false (sym o))

-- a matching of g - r: no edge has an end in r, and no two edges share an end
pub matching-words : (g : Graph) (r m : Set) → IsMatching g r m → Avoids g r m × ShareNoEnd g m
matching-words g r m mm = (zero_avoids g r m mm.away, matching_apart g m (record { once = mm.once; away = λ v w o. absurd (true≢false (sym o)) }))

-- where no edge is a loop, such a set is a matching
pub words-matching : (g : Graph) (r m : Set) → IsGraph g → HasNoLoop g → Avoids g r m → ShareNoEnd g m → IsMatching g r m
words-matching g r m is no_loop av apart = record { once = (apart_matching g m is no_loop apart).once; away = avoids_zero g r m av }

-- a perfect matching holds no loop: it would have two ends at one vertex
pub perfect-no_loop : (g : Graph) (r m : Set) → IsGraph g → IsPerfect g r m → HoldsNoLoop g m
perfect-no_loop g r m is p e we me q =
    let v = first_end g e in
    let a = ends_le_degree g m e v we me in
    let b = ends_of_is g e v (second_end g e) (inl (refl, refl)) v in
    let c = ap bit (eq-eqb v v refl) in
    let d = ap bit (eq-eqb (second_end g e) v (sym q)) in
    let o = (perfect_matching g r m p).once v (is e we).0 in
    absurd (omega arith)

-- each vertex outside r has exactly one edge of a perfect matching
pub perfect-meets : (g : Graph) (r m : Set) → IsPerfect g r m → MeetsEachOnce g r m
perfect-meets g r m p v wv out =
    let one = p.once v wv out in
    let f = edge_at g m v (omega arith) in
    let share = (matching-words g r m (perfect_matching g r m p)).1 in
    let end : IsEnd g f.0 v = elim f.3.1 [ inl k ↦ inl k.0 | inr k ↦ inr k.1 ] in
    (f.0, f.1, f.2, end, λ e we me ee. share e f.0 v we f.1 wv me f.2 ee end)

-- and where no edge of m has an end in r or is a loop, this is a perfect matching
pub meets-perfect : (g : Graph) (r m : Set) → HoldsNoLoop g m → Avoids g r m → MeetsEachOnce g r m → IsPerfect g r m
meets-perfect g r m loops av meets = record { once = once; away = avoids_zero g r m av }
  where
    once : (v : ℕ) → Within g.order v → r v ≡ false → degree g m v ≡ 1
    once v wv out =
        let f = meets v wv out in
        let b = ends_one g f.0 v (loops f.0 f.1 f.2) in
        let c = one_end g f.0 v f.3 in
        let s = degree_sum g m v in
        let t = total_at (size g) (λ e. bit (m e) * ends_of g e v) f.0 f.1 (λ e we d. grind (arith, cases_eq (ends_of g e v) 0, ends_of g e v, is_end g e v)) in
        let u = ap (λ k. bit k * ends_of g f.0 v) f.2 in
        omega arith
