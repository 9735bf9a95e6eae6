-- The quotient at a coarser partition is the quotient of the quotient.
-- Idea: an edge of the graph between two blocks of q lies between two blocks of p, so an edge of
-- the quotient at p stands for it, between the same blocks of q; and the other way round.
use Rattle.tree_check.proofs.from_counting.Common.{◌≡◌, ◌≢◌, ◌∙◌, ℕ, ◌<◌, Bool, true, not, ◌&&◌, ◌==◌, List, length, filter, inl, inr, ◌⊎◌, sym, ap, ap₂, arith, eq-eqb, subst, fun_ext, and_from, and_parts, or_left, or_right, nat_tests, same_tests, some_true, true_some, Within, IsRisingIn, mem, rising_pairs, some}
use Rattle.report_text.proofs.from_contraction.QuotientLaws.{same_pairs}
use Rattle.graph_core.proofs.Common.{contracted-ends, contracted-size, place_in, Some, Has, quotient-order, quotient_edge, has_ends-cases, has_ends-own, Graph, IsGraph, first_end, has_ends, second_end, size, IsPartition, contracted, merged, place, singles, blocks_adjacent, quotient, IsUnion}
use Rattle.theorems.proofs.CoarserPartitions.{down, downs, length-downs, merged-down, merged-unions, place-down}

-- a and b are u and v, in some order
abbrev Joins : (a b u v : ℕ) → Type 0
Joins a b u v = ((a ≡ u) × (b ≡ v)) ⊎ ((a ≡ v) × (b ≡ u))

joins-through : (a b c d u v : ℕ) → Joins a b c d → Joins c d u v → Joins a b u v
joins-through a b c d u v (inl s) (inl t) = inl (s.0 ∙ t.0, s.1 ∙ t.1)
joins-through a b c d u v (inl s) (inr t) = inr (s.0 ∙ t.0, s.1 ∙ t.1)
joins-through a b c d u v (inr s) (inl t) = inr (s.0 ∙ t.1, s.1 ∙ t.0)
joins-through a b c d u v (inr s) (inr t) = inl (s.0 ∙ t.1, s.1 ∙ t.0)

joined-ends : (g : Graph) (u v e : ℕ) → Joins (first_end g e) (second_end g e) u v → has_ends g u v e ≡ true
joined-ends g u v e (inl s) = or_left (first_end g e == u && second_end g e == v) _ (and_from (first_end g e == u) (second_end g e == v) (eq-eqb (first_end g e) u s.0) (eq-eqb (second_end g e) v s.1))
joined-ends g u v e (inr s) = or_right (first_end g e == u && second_end g e == v) _ (and_from (first_end g e == v) (second_end g e == u) (eq-eqb (first_end g e) v s.0) (eq-eqb (second_end g e) u s.1))

different : (i j : ℕ) → not (i == j) ≡ true → i ≢ j
different i j h e = grind (arith, nat_tests)

-- quotients with as many blocks and the same adjacent ones are equal
quotient-same : (g h : Graph) (p q : List (List ℕ)) → length p ≡ length q → ((i j : ℕ) → blocks_adjacent g p i j ≡ blocks_adjacent h q i j) → quotient g p ≡ quotient h q
unfolding quotient
quotient-same g h p q long same = ap₂ (λ (n : ℕ) (test : ℕ × ℕ → Bool). record { order = n; ends = filter test (rising_pairs n) }) long (fun_ext (λ k. same k.0 k.1))

module _ (g : Graph) (is : IsGraph g) (p : List (List ℕ)) (pp : IsPartition g.order p) (q : List (List ℕ)) (unions : (b : List ℕ) → Has q b → IsUnion g.order p (mem b)) where
  abbrev h : Graph
  h = quotient g p

  abbrev r : List (List ℕ)
  r = downs g.order p pp q

  -- the ends of an edge of the graph, by blocks of q
  upper-ends : (e : ℕ) → Within (size g) e → (first_end (contracted g q) e ≡ place r (first_end (contracted g p) e)) × (second_end (contracted g q) e ≡ place r (second_end (contracted g p) e))
  upper-ends e w = grind (arith, contracted-ends, place-down, first_end, place, second_end)

  between : (a b c d : ℕ) → Joins a b c d → Joins (place r a) (place r b) (place r c) (place r d)
  between a b c d (inl s) = inl (ap (place r) s.0, ap (place r) s.1)
  between a b c d (inr s) = inr (ap (place r) s.0, ap (place r) s.1)

  -- an edge of the graph between two blocks of q, and one of the quotient
  to-quotient : (i j : ℕ) → i ≢ j → (e : ℕ) → Within (size g) e → has_ends (contracted g q) i j e ≡ true → some (size h) (has_ends (contracted h r) i j) ≡ true
  to-quotient i j apart e w t =
      let a = first_end (contracted g p) e in
      let b = second_end (contracted g p) e in
      let up = upper-ends e w in
      let ends = contracted-ends g p e w in
      let at = has_ends-cases (contracted g q) i j e t in
      let far : a ≢ b = λ same. apart (joined-same i j (first_end (contracted g q) e) (second_end (contracted g q) e) (up.0 ∙ ap (place r) same ∙ sym up.1) at) in
      let wa = subst (Within (length p)) (sym ends.0) (place_in g.order p pp.partition (first_end g e) (is e w).0).0 in
      let wb = subst (Within (length p)) (sym ends.1) (place_in g.order p pp.partition (second_end g e) (is e w).1).0 in
      let there = true_some (size (contracted g p)) (has_ends (contracted g p) a b) e (subst (λ n. Within n e) (sym (contracted-size g p)) w) (has_ends-own (contracted g p) e) in
      let d = some_true (size h) (has_ends h a b) (sym (same_pairs g p is pp.partition a b wa wb far) ∙ there) in
      let low = contracted-ends h r d.0 d.1 in
      let from = between (first_end h d.0) (second_end h d.0) a b (has_ends-cases h a b d.0 d.2) in
      let up_to = joins-through (place r (first_end h d.0)) (place r (second_end h d.0)) (place r a) (place r b) (first_end (contracted g q) e) (second_end (contracted g q) e) from (inl (sym up.0, sym up.1)) in
      let final = joins-through (first_end (contracted h r) d.0) (second_end (contracted h r) d.0) (place r (first_end h d.0)) (place r (second_end h d.0)) i j (inl (low.0, low.1))
      (joins-through (place r (first_end h d.0)) (place r (second_end h d.0)) (first_end (contracted g q) e) (second_end (contracted g q) e) i j up_to at) in
      true_some (size h) (has_ends (contracted h r) i j) d.0 d.1 (joined-ends (contracted h r) i j d.0 final)
    where
      joined-same : (i j a b : ℕ) → a ≡ b → Joins a b i j → i ≡ j
      joined-same i j a b same (inl s) = sym s.0 ∙ same ∙ s.1
      joined-same i j a b same (inr s) = sym s.1 ∙ sym same ∙ s.0

  from-quotient : (i j : ℕ) (d : ℕ) → Within (size h) d → has_ends (contracted h r) i j d ≡ true → some (size g) (has_ends (contracted g q) i j) ≡ true
  from-quotient i j d w t =
      let a = first_end h d in
      let b = second_end h d in
      let edge = quotient_edge g p d w in
      let less = edge.2 in
      let far : a ≢ b = λ same. absurd (not_less a b less same) in
      let e = some_true (size (contracted g p)) (has_ends (contracted g p) a b) (same_pairs g p is pp.partition a b edge.0 edge.1 far ∙ true_some (size h) (has_ends h a b) d w (has_ends-own h d)) in
      let we : Within (size g) e.0 = subst (λ n. Within n e.0) (contracted-size g p) e.1 in
      let up = upper-ends e.0 we in
      let low = contracted-ends h r d w in
      let from = between (first_end (contracted g p) e.0) (second_end (contracted g p) e.0) a b (has_ends-cases (contracted g p) a b e.0 e.2) in
      let at = joins-through (place r a) (place r b) (first_end (contracted h r) d) (second_end (contracted h r) d) i j (inl (sym low.0, sym low.1)) (has_ends-cases (contracted h r) i j d t) in
      let final = joins-through (first_end (contracted g q) e.0) (second_end (contracted g q) e.0) (place r (first_end (contracted g p) e.0)) (place r (second_end (contracted g p) e.0)) i j (inl (up.0, up.1))
      (joins-through (place r (first_end (contracted g p) e.0)) (place r (second_end (contracted g p) e.0)) (place r a) (place r b) i j from at) in
      true_some (size g) (has_ends (contracted g q) i j) e.0 we (joined-ends (contracted g q) i j e.0 final)
    where
      not_less : (a b : ℕ) → a < b → a ≡ b → ⊥
      not_less a b l e = omega arith

  same-adjacent : (i j : ℕ) → blocks_adjacent g q i j ≡ blocks_adjacent h r i j
  same-adjacent i j = grind (arith, same_tests, blocks_adjacent, and_parts, some, size, has_ends, contracted, some_true, and_from, to-quotient, different, from-quotient)

  pub coarser-quotient : quotient g q ≡ quotient h r
  coarser-quotient = quotient-same g h q r (sym (length-downs g.order p pp q)) same-adjacent

-- after a merge
pub merged-quotient : (g : Graph) (is : IsGraph g) (p : List (List ℕ)) (pp : IsPartition g.order p) (x : List ℕ) → IsRisingIn g.order x → IsUnion g.order p (mem x) → Some g.order (mem x) →
    quotient g (merged p x) ≡ quotient (quotient g p) (merged (singles (quotient g p).order) (down g.order p pp x))
merged-quotient g is p pp x rises union some =
    coarser-quotient g is p pp (merged p x) (merged-unions g.order p pp x rises union some)
    ∙ ap (quotient (quotient g p)) (merged-down g.order p pp x rises union some)
    ∙ ap (λ n. quotient (quotient g p) (merged (singles n) (down g.order p pp x))) (sym (quotient-order g p))
