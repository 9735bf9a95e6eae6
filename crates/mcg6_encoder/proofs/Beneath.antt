-- The underlying simple graph, and its graph6 text. Idea: of the first k edges those are kept whose
-- ends no kept edge joins, so the kept pairs are distinct, and they join the same vertices as the
-- first k edges do. A graph6 text depends only on the order and on the adjacent pairs.
use Rattle.counting.proofs.Common.{◌≡◌, ℕ, suc, ◌+◌, ◌≤◌, ◌==◌, ◌&&◌, ◌||◌, Bool, true, false, cond, List, [], ◌∷◌, ◌++◌, map, refl, sym, subst, ap, ap₂, ◌∙◌, arith, ◌⊎◌, inl, inr, false≢true, nat_tests, length-append, list_any-append, list_any, none, some}
use Rattle.graph_core.proofs.Common.{Graph, size, first_end, second_end, has_ends, with_edge, adjacent, adjacent-ends, joins}
use Rattle.graph6_text.specs.Common.{bytes_of, column_pairs, adjacency_bits, graph6_of, size_of}
use Rattle.graph6_text.proofs.DistinctPairs.{Each, Apart, AreDistinct, distinct-append, joins-back, simple_from_distinct}
use Rattle.mcg6_encoder.specs.SimpleGraphs.{IsBeneath, with_new_edge}

-- h keeps of the first k edges of g those whose ends no edge joins that was kept before
pub record KeepsFirst (g : Graph) (k : ℕ) (h : Graph) : Type 0 where
  pub order : h.order ≡ g.order
  pub distinct : AreDistinct h.ends
  pub few : size h ≤ k
  pub pairs : (u v : ℕ) → adjacent h none u v ≡ some k (has_ends g u v)

or_false : (b : Bool) → (b || false) ≡ b
or_false false = refl
or_false true = refl

-- two numbers that the ends of an edge are, in either order
same_ends : (a b u v : ℕ) → ((a == u && b == v) || (a == v && b == u)) ≡ true → ((u ≡ a) × (v ≡ b)) ⊎ ((u ≡ b) × (v ≡ a))
same_ends a b u v h = grind (arith, nat_tests)

turned : (a b x y : ℕ) → ((x == a && y == b) || (x == b && y == a)) ≡ ((x == b && y == a) || (x == a && y == b))
turned a b x y = grind arith

adjacent_turned : (h : Graph) (u v : ℕ) → adjacent h none u v ≡ adjacent h none v u
adjacent_turned h u v = adjacent-ends h u v ∙ any_turned h.ends ∙ sym (adjacent-ends h v u)
  where
    any_turned : (ps : List (ℕ × ℕ)) → list_any (joins u v) ps ≡ list_any (joins v u) ps
    any_turned [] = refl
    any_turned (p ∷ ps) = ap₂ ◌||◌ (turned u v p.0 p.1) (any_turned ps)

-- the ends of edge k + 1 are joined already
pub keeps_joined : (g : Graph) (k : ℕ) (h : Graph) → KeepsFirst g k h →
    adjacent h none (first_end g (suc k)) (second_end g (suc k)) ≡ true → KeepsFirst g (suc k) h
keeps_joined g k h keeps joined = record {
  order = keeps.order;
  distinct = keeps.distinct;
  few = let few = keeps.few in omega arith;
  pairs = λ u v. keeps.pairs u v ∙ nothing_new u v (has_ends g u v (suc k)) refl;
}
  where
    known : (u v : ℕ) → has_ends g u v (suc k) ≡ true → some k (has_ends g u v) ≡ true
    known u v is = elim (same_ends (first_end g (suc k)) (second_end g (suc k)) u v is) [
      | inl p ↦ sym (keeps.pairs u v) ∙ ap₂ (λ (x y : ℕ). adjacent h none x y) p.0 p.1 ∙ joined
      | inr p ↦ sym (keeps.pairs u v) ∙ ap₂ (λ (x y : ℕ). adjacent h none x y) p.0 p.1
          ∙ adjacent_turned h (second_end g (suc k)) (first_end g (suc k)) ∙ joined
    ]

    nothing_new : (u v : ℕ) (last : Bool) → last ≡ has_ends g u v (suc k) → some k (has_ends g u v) ≡ some (suc k) (has_ends g u v)
    nothing_new u v false is = sym (ap (λ (b : Bool). some k (has_ends g u v) || b) (sym is) ∙ or_false (some k (has_ends g u v)))
    nothing_new u v true is =
        let all = known u v (sym is) in
        all ∙ sym (ap (λ (b : Bool). b || has_ends g u v (suc k)) all)

both_false : (a b : Bool) → (a || b) ≡ false → (a ≡ false) × (b ≡ false)
both_false false b h = (refl, h)
both_false true b h = absurd (false≢true (sym h))

-- a pair that none of the pairs is
each_apart : (p : ℕ × ℕ) (qs : List (ℕ × ℕ)) → list_any (joins p.0 p.1) qs ≡ false → Each (λ q. Apart q (p ∷ [])) qs
each_apart p [] h = tt
each_apart p (q ∷ qs) h =
    let both = both_false (joins p.0 p.1 q) (list_any (joins p.0 p.1) qs) h in
    ((joins-back p q both.0, tt), each_apart p qs both.1)

-- they are not, so edge k + 1 is kept
pub keeps_new : (g : Graph) (k : ℕ) (h : Graph) → KeepsFirst g k h →
    adjacent h none (first_end g (suc k)) (second_end g (suc k)) ≡ false →
    KeepsFirst g (suc k) (with_edge h (first_end g (suc k)) (second_end g (suc k)))
keeps_new g k h keeps apart =
    let edge : ℕ × ℕ = (first_end g (suc k), second_end g (suc k)) in
    record {
      order = keeps.order;
      distinct =
          distinct-append h.ends (edge ∷ []) keeps.distinct (tt, tt)
          (each_apart edge h.ends (sym (adjacent-ends h edge.0 edge.1) ∙ apart));
      few = let few = keeps.few in let more = length-append h.ends (edge ∷ []) in omega arith;
      pairs = λ u v.
          adjacent-ends (with_edge h edge.0 edge.1) u v
          ∙ list_any-append (joins u v) h.ends (edge ∷ [])
          ∙ ap₂ ◌||◌ (sym (adjacent-ends h u v) ∙ keeps.pairs u v) (or_false (joins u v edge));
    }

-- edge k + 1 was added unless its ends were joined
pub keeps_more : (g : Graph) (k : ℕ) (h more : Graph) → KeepsFirst g k h →
    more ≡ with_new_edge h (first_end g (k + 1)) (second_end g (k + 1)) → KeepsFirst g (k + 1) more
keeps_more g k h more keeps is =
    let next : k + 1 ≡ suc k = omega arith in
    subst (λ (n : ℕ). KeepsFirst g n more) (sym next)
    (step (adjacent h none (first_end g (suc k)) (second_end g (suc k))) refl
    (is ∙ ap (λ (i : ℕ). with_new_edge h (first_end g i) (second_end g i)) next))
  where
    step : (test : Bool) → test ≡ adjacent h none (first_end g (suc k)) (second_end g (suc k)) →
        more ≡ with_new_edge h (first_end g (suc k)) (second_end g (suc k)) → KeepsFirst g (suc k) more
    step true joined same =
        let kept : more ≡ h =
        same ∙ ap (λ (b : Bool). cond b h (with_edge h (first_end g (suc k)) (second_end g (suc k)))) (sym joined) in
        subst (λ (q : Graph). KeepsFirst g (suc k) q) (sym kept) (keeps_joined g k h keeps (sym joined))
    step false apart same =
        let added : more ≡ with_edge h (first_end g (suc k)) (second_end g (suc k)) =
        same ∙ ap (λ (b : Bool). cond b h (with_edge h (first_end g (suc k)) (second_end g (suc k)))) (sym apart) in
        subst (λ (q : Graph). KeepsFirst g (suc k) q) (sym added) (keeps_new g k h keeps (sym apart))

-- where all edges were seen, it is the simple graph beneath
pub keeps_all : (g h : Graph) (k : ℕ) → k ≡ size g → KeepsFirst g k h → IsBeneath g h
keeps_all g h k all keeps = record {
  order = keeps.order;
  simple = simple_from_distinct h keeps.distinct;
  adjacent_pairs = λ u v. keeps.pairs u v ∙ ap (λ (n : ℕ). some n (has_ends g u v)) all;
}

-- the graph6 text is that of the simple graph beneath
pub graph6_beneath : (g h : Graph) → IsBeneath g h → graph6_of h ≡ graph6_of g
unfolding graph6_of adjacency_bits
graph6_beneath g h beneath =
    ap₂ (λ (n : ℕ) (bits : List Bool). size_of n ++ bytes_of bits) beneath.order
    (same_bits (column_pairs h.order) ∙ ap (λ (n : ℕ). map (λ pair. adjacent g none pair.0 pair.1) (column_pairs n)) beneath.order)
  where
    same_bits : (ps : List (ℕ × ℕ)) → map (λ pair. adjacent h none pair.0 pair.1) ps ≡ map (λ pair. adjacent g none pair.0 pair.1) ps
    same_bits [] = refl
    same_bits (p ∷ ps) = ap₂ ◌∷◌ (beneath.adjacent_pairs p.0 p.1) (same_bits ps)
