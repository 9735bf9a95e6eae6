-- The outer vertices of a maximum matching of G - R that misses one vertex are exactly the vertices
-- v such that G - R - v has a perfect matching. A matching of the same size that misses v misses
-- only v, so it is perfect in G - R - v; and a perfect matching of G - R - v has the same size,
-- since both miss one vertex of an odd number. If more than one vertex is missed, no matching
-- misses only one. A perfect matching of G - R - u - v misses just u and v, so if there are
-- partners, a maximum matching misses none or two.
use Rattle.graph_core.proofs.from_counting.Common.{◌≡◌, ◌≢◌, ℕ, ◌+◌, ◌-◌, ◌*◌, ◌≤◌, ◌↔◌, List, length, Bool, true, false, ◌==◌, ◌&&◌, ◌||◌, not, refl, sym, ap, ◌∙◌, arith, inl, inr, eq-eqb, ne_eqb, or_false, both_ways, cases_Bool, cases_eq, false_from_ne_true, and_from, and_parts, not-true, or_left, or_right, count_complement, count_congr, count_le, count_le_one, only_one, count_mem_length, count_plus, set-narrower, Within, count, Set, complement, pair_set, singleton, union, mem, IsRisingIn}
use Rattle.graph_core.proofs.Common.{Graph, IsGraph, degree, size, HasPerfect, IsMatching, IsPerfect, has_perfect, missed_count, has_perfect_found, has_perfect_says, missed_edges, missed_one, perfect_matching, perfect_misses}
use Rattle.match_search.specs.Common.{Frame, IsMissableRow, IsBest, marks}
use Rattle.match_core.specs.Common.{AreEmptyRows, ArePartners, are_partners}
use Rattle.match_search.specs.declared.best.Best.{Best}
use Rattle.match_core.proofs.OddComponents.{certificate_maximum, missable_outer, outer_missable}

or_none : (a b : Bool) → (a || b) ≡ false → (a ≡ false) × (b ≡ false)
or_none a b h = grind arith

-- r and v
module _ (r : Set) (v : ℕ) where
  with_own : union r (singleton v) v ≡ true
  with_own = or_right (r v) (v == v) (eq-eqb v v refl)

  with_other : (w : ℕ) → v ≢ w → union r (singleton v) w ≡ r w
  with_other w d = rw (ne_eqb v w d) (or_false (r w))

-- a matching of g - r that misses one vertex, v, is perfect in g - r - v
pub alone-perfect : (g : Graph) (r m : Set) (v : ℕ) → IsMatching g r m → missed_count g r m ≡ 1 → Within g.order v → r v ≡ false → degree g m v ≡ 0 → IsPerfect g (union r (singleton v)) m
unfolding missed_count
alone-perfect g r m v mm one w rv z = record { once = once; away = away }
  where
    passes : (u : ℕ) → r u ≡ false → degree g m u ≡ 0 → (not (r u) && (degree g m u == 0)) ≡ true
    passes u a b = rw (a, b) refl

    once : (u : ℕ) → Within g.order u → union r (singleton v) u ≡ false → degree g m u ≡ 1
    once u wu out =
        let o = or_none (r u) (v == u) out in
        met (degree g m u) (mm.once u wu) (λ du. both_ways (v == u) o.1 (eq-eqb v u
        (only_one g.order (λ t. not (r t) && (degree g m t == 0)) one v u w wu (passes v rv z) (passes u o.0 du))))
      where
        met : (d : ℕ) → d ≤ 1 → (d ≡ 0 → ⊥) → d ≡ 1
        met d l n = grind arith

    away : (u : ℕ) → Within g.order u → union r (singleton v) u ≡ true → degree g m u ≡ 0
    away u wu out = grind arith

-- a perfect matching of g - r - v is a matching of g - r that misses only v
pub perfect-alone : (g : Graph) (r p : Set) (v : ℕ) → Within g.order v → r v ≡ false → IsPerfect g (union r (singleton v)) p → IsMatching g r p × (degree g p v ≡ 0) × (missed_count g r p ≡ 1)
unfolding missed_count
perfect-alone g r p v w rv perfect = (record { once = once; away = away }, z, one)
  where
    z : degree g p v ≡ 0
    z = perfect.away v w (with_own r v)

    once : (u : ℕ) → Within g.order u → degree g p u ≤ 1
    once u wu = grind arith

    away : (u : ℕ) → Within g.order u → r u ≡ true → degree g p u ≡ 0
    away u wu ru = perfect.away u wu (with_other r v u (λ e. both_ways (r v) rv (ap r e ∙ ru)) ∙ ru)

    only : (u : ℕ) → Within g.order u → (not (r u) && (degree g p u == 0)) ≡ true → v ≡ u
    only u wu h = grind arith

    few : count g.order (λ u. not (r u) && (degree g p u == 0)) ≤ 1
    few = count_le_one g.order (λ u. not (r u) && (degree g p u == 0)) (λ a b wa wb l pa pb. let x = only a wa pa in let y = only b wb pb in absurd (omega arith))

    one : count g.order (λ u. not (r u) && (degree g p u == 0)) ≡ 1
    one = let some = missed_one g r p v w rv z in let f = few in omega arith

-- a perfect matching of g - r - u - v is a matching of g - r that misses two vertices
pub perfect-two : (g : Graph) (r p : Set) (u v : ℕ) → IsGraph g → Within g.order u → Within g.order v → r u ≡ false → r v ≡ false → u ≢ v → IsPerfect g (union r (pair_set u v)) p → IsMatching g r p × (missed_count g r p ≡ 2)
perfect-two g r p u v is wu wv ru rv d perfect = (mm, two)
  where
    both : Set
    both = union r (pair_set u v)

    mm : IsMatching g r p
    mm = record { once = (perfect_matching g both p perfect).once; away = λ w ww rw. perfect.away w ww (or_left (r w) (pair_set u v w) rw) }

    two : missed_count g r p ≡ 2
    two =
        let more = count_plus g.order r u wu ru in
        let most = count_plus g.order (union r (singleton u)) v wv (with_other r u v d ∙ rv) in
        let same : count g.order (union (union r (singleton u)) (singleton v)) ≡ count g.order (union r (pair_set u v)) = count_congr g.order _ _ (λ w ww. grind arith) in
        let left = count_complement g.order r in
        let left_both = count_complement g.order (union r (pair_set u v)) in
        let none_missed = perfect_misses g (union r (pair_set u v)) p perfect in
        let own = missed_edges g r p is mm in
        let own_both = missed_edges g (union r (pair_set u v)) p is (perfect_matching g (union r (pair_set u v)) p perfect) in
        omega arith

-- m is a matching of g - r, with its frame
module _ (g : Graph) (is : IsGraph g) (r m outer inner : Set) (mm : IsMatching g r m) (frame : Frame g r (count (size g) m) outer inner) where
  -- a matching has as many edges as m at most
  most_edges : (p : Set) → IsMatching g r p → count (size g) p ≤ count (size g) m
  most_edges = (certificate_maximum g r inner (count (size g) m) frame.label frame.classes is frame.certificate m mm refl).most

  -- where one vertex is missed, an outer vertex is missed alone by some matching
  outer-perfect : (v : ℕ) → missed_count g r m ≡ 1 → Within g.order v → outer v ≡ true → HasPerfect g (union r (singleton v))
  outer-perfect v one w t = grind (arith, outer_missable, mm, missed_edges, alone-perfect)

  -- v is outer if g - r - v has a perfect matching, and m misses one vertex
  perfect-outer : (v : ℕ) → Within g.order v → r v ≡ false → HasPerfect g (union r (singleton v)) → (missed_count g r m ≡ 1) × (outer v ≡ true)
  perfect-outer v w rv p =
      let a = perfect-alone g r p.0 v w rv p.1 in
      let most = most_edges p.0 a.0 in
      let sum = missed_edges g r p.0 is a.0 in
      let own = missed_edges g r m is mm in
      let one = a.2 in
      let same : count (size g) p.0 ≡ count (size g) m = omega arith in (
        omega arith,
        missable_outer g is r (count (size g) m) outer inner frame m mm refl v w rv p.0
            (certificate_maximum g r inner (count (size g) m) frame.label frame.classes is frame.certificate p.0 a.0 same) a.1,
      )

  -- the outer vertices are the row
  outer-row : missed_count g r m ≡ 1 → (v : ℕ) → Within g.order v → outer v ≡ (not (r v) && has_perfect g (union r (singleton v)))
  outer-row one v w = grind (arith, cases_Bool, and_from, outer_missable, has_perfect_found, outer-perfect, false_from_ne_true, and_parts, both_ways, perfect-outer, not-true, has_perfect_says)

  -- where another number of vertices is missed, the row is empty
  no_row : missed_count g r m ≢ 1 → (v : ℕ) → Within g.order v → (not (r v) && has_perfect g (union r (singleton v))) ≡ false
  no_row d v w = grind (arith, false_from_ne_true, and_parts, perfect-outer, not-true, has_perfect_says)

  -- where there are partners, no vertex is missed or two
  pair-missed : (u v : ℕ) → Within g.order u → Within g.order v → r u ≡ false → r v ≡ false → u ≢ v → HasPerfect g (union r (pair_set u v)) → missed_count g r m ≢ 0 → missed_count g r m ≡ 2
  pair-missed u v wu wv ru rv d p some = grind (arith, perfect-two, most_edges, missed_edges)

-- u and then v are taken out
both_out : (r : Set) (u v : ℕ) → union (union r (singleton u)) (singleton v) ≡ union r (pair_set u v)
both_out r u v = grind arith

-- the vertices that can be missed beside u are its partners
pub missable-partners : (g : Graph) (is : IsGraph g) (r : Set) (u : ℕ) (row : List ℕ) → r u ≡ false → IsMissableRow g (union r (singleton u)) row → (v : ℕ) → Within g.order v → mem row v ≡ are_partners g r u v
missable-partners g is r u row out missable v w = here ∙ ap (λ (s : Set). not (r v || (u == v)) && has_perfect g s) (both_out r u v) ∙ (grind arith)
  where
    here : mem row v ≡ (not (r v || (u == v)) && has_perfect g (union (union r (singleton u)) (singleton v)))
    here = elim (cases_eq (missed_count g (union r (singleton u)) missable.m) 1) [
      | inl q ↦ missable.one q v ∙ outer-row g is (union r (singleton u)) missable.m missable.outer missable.inner missable.matching missable.frame q v w
      | inr q ↦ missable.other q v ∙ sym (no_row g is (union r (singleton u)) missable.m missable.outer missable.inner missable.matching missable.frame q v w)
    ]

-- what the engine returns, with the number of vertices that it misses, as the code counts them
module _ (g : Graph) (is : IsGraph g) (r : Set) (b : Best) (best : IsBest g r b) (mark : List Bool) (missed : ℕ) (mark_is : mark ≡ b.mark.items) (missed_is : missed ≡ missed_count g r (marks mark)) where
  counted : missed ≡ missed_count g r (marks b.mark.items)
  counted = missed_is ∙ ap (λ row. missed_count g r (marks row)) mark_is

  -- no vertex has a partner where another number is missed than none or two
  no_partners : missed ≢ 0 → missed ≢ 2 → (u v : ℕ) → Within g.order u → Within g.order v → are_partners g r u v ≡ false
  no_partners some other u v wu wv = false_from_ne_true (are_partners g r u v) (λ h.
      let parts = four (r u) (r v) (u == v) (has_perfect g (union r (pair_set u v))) h in
      other (counted ∙ pair-missed g is r (marks b.mark.items) (mem b.sets.outer) (mem b.sets.inner) best.matching best.frame u v wu wv parts.0 parts.1 (λ q. both_ways (u == v) parts.2 (eq-eqb u v q)) (has_perfect_says g (union r (pair_set u v)) parts.3) (λ q. some (counted ∙ q))))
    where
      four : (a b d p : Bool) → (not a && not b && not d && p) ≡ true → (a ≡ false) × (b ≡ false) × (d ≡ false) × (p ≡ true)
      four a b d p h = grind arith

  pub empty-partners : (missed == 0 || missed == 2) ≡ false → (n : ℕ) → n ≡ g.order → (table : List (List ℕ)) → AreEmptyRows n table → ArePartners g r table
  empty-partners not_searched n order table empty = grind (arith, both_ways, no_partners, eq-eqb, or_none)

-- the vertices of 1 to n outside a set, as a list
pub left-length : (n : ℕ) (full left removed : List ℕ) → IsRisingIn 128 left → ((v : ℕ) → (mem full v ≡ true) ↔ Within n v) → ((v : ℕ) → mem left v ≡ (mem full v && not (mem removed v))) →
    length left ≡ count n (complement (mem removed))
left-length n full left removed rises all outside = grind (arith, count_mem_length n left, set-narrower 128 n left rises, and_parts, count_congr n (mem left) (complement (mem removed)))

-- what the marked edges leave of these vertices is what they miss
pub missed-left : (g : Graph) (is : IsGraph g) (n : ℕ) (full left removed : List ℕ) (mark : List Bool) → n ≡ g.order → IsRisingIn 128 left → ((v : ℕ) → (mem full v ≡ true) ↔ Within n v) → ((v : ℕ) → mem left v ≡ (mem full v && not (mem removed v))) →
    length mark ≡ size g + 1 → IsMatching g (mem removed) (marks mark) → missed_count g (mem removed) (marks mark) + 2 * count (length mark - 1) (marks mark) ≡ length left
missed-left g is n full left removed mark order rises all outside long mm = grind (arith, missed_edges g (mem removed) (marks mark) is mm, mm, left-length n full left removed rises all outside)

-- they are few
pub few_left : (left : List ℕ) → IsRisingIn 128 left → length left ≤ 128
few_left left rises = let a = count_mem_length 128 left rises in let b = count_le 128 (mem left) in omega arith
