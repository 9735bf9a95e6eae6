-- König's theorem. No matching has more edges than a vertex cover has vertices. In a bipartite graph
-- let c be a cover with fewest vertices: a part of c on one side has as many neighbours outside c,
-- since these could take its place. So has each part of c, and Hall's theorem gives each vertex of
-- c an edge of its own to a vertex outside c.
use Rattle.tree_check.proofs.from_counting.Common.{◌≡◌, ℕ, suc, zero, ◌+◌, ◌≤◌, Bool, true, false, ◌==◌, ◌&&◌, ◌||◌, not, refl, sym, ap, ◌∙◌, arith, inl, inr, nat_lt, lt-ltb, ltb-true, and_from, and_parts, both_ways, cases_lt, choose_set, eqb-true, every_congr, every_true, not-false, not-true, some_count, some_true, true_every, true_some, true≢false, count_congr, count_le_one, count_meet_union, count_of_one, count_split, total_add, total_congr, total_le, total_none, total_swap, Respects, Within, bit, count, every, some, total, Set, complement, everything, meet, minus, none, union}
use Rattle.barrier_kit.proofs.Common.{neighbours, Picks}
use Rattle.graph_core.proofs.Common.{has_ends-back, has_ends-own, missed_edges, perfect_matching, perfect_misses, Graph, HasPerfect, IsGraph, IsMatching, IsMultigraph, IsSide, first_end, has_ends, second_end, size}
use Rattle.theorems.proofs.HallMatchings.{ends_few, ends_sum}
use Rattle.theorems.proofs.Neighbourhoods.{ends_cross}
use Rattle.theorems.proofs.Partners.{beside, matched_pairs, own_paired, paired, partner_paired, picks}
use Rattle.theorems.specs.Bipartite.{IsVertexCover}

-- each edge of the matching has an end in the cover
pub cover_bound : (g : Graph) (m c : Set) → IsGraph g → IsMatching g none m → IsVertexCover g c → count (size g) m ≤ count g.order c
cover_bound g m c is mm cover =
    let x = total_le (size g) (λ e. bit (m e)) (λ e. bit (m e && c (first_end g e)) + bit (m e && c (second_end g e))) (λ e w. bits (m e) (c (first_end g e)) (c (second_end g e)) (cover e w)) in
    let y = ends_sum g m c is in
    let z = ends_few g m c mm in omega arith
  where
    bits : (k a b : Bool) → (a || b) ≡ true → bit k ≤ bit (k && a) + bit (k && b)
    bits k a b h = grind arith

-- a cover with fewest vertices
record Least (g : Graph) : Type 0 where
  c : Set
  cover : IsVertexCover g c
  least : (d : Set) → IsVertexCover g d → count g.order c ≤ count g.order d

module _ (g : Graph) (is : IsGraph g) where
  abbrev covers_all : Set → Bool
  covers_all c = every (size g) (λ e. c (first_end g e) || c (second_end g e))

  smaller : Set → Set → Bool
  smaller c d = covers_all d && nat_lt (count g.order d) (count g.order c)

  respects : (c : Set) → Respects g.order (smaller c)
  unfolding smaller
  respects c = record {
    same = λ x y h.
        let a : covers_all x ≡ covers_all y = every_congr (size g) _ _ (λ e w. both (x (first_end g e)) (y (first_end g e)) (x (second_end g e)) (y (second_end g e)) (h (first_end g e) (is e w).0) (h (second_end g e) (is e w).1)) in
        let b : count g.order x ≡ count g.order y = count_congr g.order x y h in
        ap (λ k. k && nat_lt (count g.order x) (count g.order c)) a ∙ ap (λ n. covers_all y && nat_lt n (count g.order c)) b;
  }
    where
      both : (p q r s : Bool) → p ≡ q → r ≡ s → (p || r) ≡ (q || s)
      both p q r s h k = grind arith

  below : (k : ℕ) (c : Set) → count g.order c ≤ k → IsVertexCover g c → Least g
  unfolding smaller
  below zero c l cover = record { c = c; cover = cover; least = λ d is_cover. omega arith }
  below (suc k) c l cover = elim (choose_set g.order (smaller c) (respects c)) [
    | inl d ↦
        let p = and_parts (covers_all d.0) (nat_lt (count g.order d.0) (count g.order c)) d.1 in
        let less = ltb-true (count g.order d.0) (count g.order c) p.1 in
        below k d.0 (omega arith) (every_true (size g) (λ e. d.0 (first_end g e) || d.0 (second_end g e)) p.0)
    | inr never ↦ record {
      c = c;
      cover = cover;
      least = λ d is_cover. elim (cases_lt (count g.order d) (count g.order c)) [
        | inl less ↦ absurd (both_ways (smaller c d) (never d) (and_from (covers_all d) (nat_lt (count g.order d) (count g.order c)) (true_every (size g) _ is_cover) (lt-ltb _ _ less)))
        | inr more ↦ more
      ];
    }
  ]

  least_cover : Least g
  least_cover = below (count g.order everything) everything (omega arith) (λ e w. refl)

module _ (g : Graph) (is : IsMultigraph g) (c : Set) (cover : IsVertexCover g c) (least : (d : Set) → IsVertexCover g d → count g.order c ≤ count g.order d) where
  -- the neighbours outside c
  abbrev fresh : Set → Set
  fresh y = neighbours g.order (beside g) (complement c) y

  -- an edge of y leads into c or to a fresh neighbour
  leads : (y : Set) (u v e : ℕ) → Within g.order u → Within (size g) e → has_ends g u v e ≡ true → y u ≡ true → c v ≡ false → fresh y v ≡ true
  leads y u v e wu we h yu cv = and_from (complement c v) (some g.order (λ u. y u && beside g u v)) (ap not cv)
      (true_some g.order (λ u. y u && beside g u v) u wu (and_from (y u) (beside g u v) yu (true_some (size g) (has_ends g u v) e we h)))

  -- a part of c on one side has as many fresh neighbours
  module _ (a : Set) (two : IsSide g a) (y : Set) (in_c : (v : ℕ) → y v ≡ true → c v ≡ true) (in_a : (v : ℕ) → y v ≡ true → a v ≡ true) where
    abbrev changed : Set
    changed = union (minus c y) (fresh y)

    changed_cover : IsVertexCover g changed
    changed_cover e w = bits (c (first_end g e)) (c (second_end g e)) (y (first_end g e)) (y (second_end g e)) (a (first_end g e)) (a (second_end g e)) (fresh y (first_end g e)) (fresh y (second_end g e))
        (cover e w) (two e w (is.no_loop e w)) (in_a (first_end g e)) (in_a (second_end g e))
        (leads y (first_end g e) (second_end g e) e (is.ends e w).0 w (has_ends-own g e))
        (leads y (second_end g e) (first_end g e) e (is.ends e w).1 w (has_ends-back g (first_end g e) (second_end g e) e (has_ends-own g e)))
      where
        bits : (p q r s t u i j : Bool) → (p || q) ≡ true → ((t && not u) || (not t && u)) ≡ true → (r ≡ true → t ≡ true) → (s ≡ true → u ≡ true) → (r ≡ true → q ≡ false → j ≡ true) → (s ≡ true → p ≡ false → i ≡ true) →
            (((p && not r) || i) || ((q && not s) || j)) ≡ true
        bits p q r s t u i j h k l m n o = grind arith

    as_many : count g.order y ≤ count g.order (fresh y)
    as_many =
        let l = least changed changed_cover in
        let u = count_meet_union g.order (minus c y) (fresh y) in
        let s = count_split g.order c y in
        let e : count g.order (meet c y) ≡ count g.order y = count_congr g.order (meet c y) y (λ v w. implied (c v) (y v) (in_c v)) in omega arith
      where
        implied : (p q : Bool) → (q ≡ true → p ≡ true) → (p && q) ≡ q
        implied p q h = grind arith

  module _ (a : Set) (two : IsSide g a) where
    other_two : IsSide g (complement a)
    other_two e w d = turn (a (first_end g e)) (a (second_end g e)) (two e w d)
      where
        turn : (p q : Bool) → ((p && not q) || (not p && q)) ≡ true → ((not p && not (not q)) || (not (not p) && not q)) ≡ true
        turn p q h = grind arith

    -- fresh neighbours of a part on one side are on the other
    across : (b : Set) → IsSide g b → (y : Set) → ((v : ℕ) → y v ≡ true → b v ≡ true) → (v : ℕ) → fresh y v ≡ true → b v ≡ false
    across b b_two y in_b v h =
        let p = and_parts (complement c v) (some g.order (λ u. y u && beside g u v)) h in
        let u = some_true g.order (λ u. y u && beside g u v) p.1 in
        let q = and_parts (y u.0) (beside g u.0 v) u.2 in
        let e = some_true (size g) (has_ends g u.0 v) q.1 in
        not-true (b v) (sym (ends_cross g is b b_two u.0 v e.0 e.1 e.2) ∙ in_b u.0 q.0)

    more_fresh : (x y : Set) → ((v : ℕ) → x v ≡ true → y v ≡ true) → (v : ℕ) → fresh x v ≡ true → fresh y v ≡ true
    more_fresh x y sub v h =
        let p = and_parts (complement c v) (some g.order (λ u. x u && beside g u v)) h in
        let u = some_true g.order (λ u. x u && beside g u v) p.1 in
        let q = and_parts (x u.0) (beside g u.0 v) u.2 in
        and_from (complement c v) (some g.order (λ u. y u && beside g u v)) p.0 (true_some g.order (λ u. y u && beside g u v) u.0 u.1 (and_from (y u.0) (beside g u.0 v) (sub u.0 q.0) q.1))

    -- so has each part of c
    enough : (z : Set) → count g.order (meet z c) ≤ count g.order (fresh (meet z c))
    enough z =
        let s = count_split g.order (meet z c) a in
        let p = as_many a two left (λ v h. (left_in (z v) (c v) (a v) h).0) (λ v h. (left_in (z v) (c v) (a v) h).1) in
        let q = as_many (complement a) other_two right (λ v h. (left_in (z v) (c v) (not (a v)) h).0) (λ v h. (left_in (z v) (c v) (not (a v)) h).1) in
        let l = total_le g.order (λ v. bit (fresh left v) + bit (fresh right v)) (λ v. bit (fresh (meet z c) v)) (λ v w.
        sum (fresh left v) (fresh right v) (fresh (meet z c) v) (a v)
        (across a two left (λ u h. (left_in (z u) (c u) (a u) h).1) v) (λ h. not-false (a v) (across (complement a) other_two right (λ u h. (left_in (z u) (c u) (not (a u)) h).1) v h))
        (more_fresh left (meet z c) (λ u h. (and_parts (meet z c u) (a u) h).0) v) (more_fresh right (meet z c) (λ u h. (and_parts (meet z c u) (not (a u)) h).0) v)) in
        let t = total_add g.order (λ v. bit (fresh left v)) (λ v. bit (fresh right v)) in omega arith
      where
        left : Set
        left = meet (meet z c) a

        right : Set
        right = minus (meet z c) a

        left_in : (p q r : Bool) → ((p && q) && r) ≡ true → (q ≡ true) × (r ≡ true)
        left_in p q r h = grind arith

        sum : (p q r s : Bool) → (p ≡ true → s ≡ false) → (q ≡ true → s ≡ true) → (p ≡ true → r ≡ true) → (q ≡ true → r ≡ true) → bit p + bit q ≤ bit r
        sum p q r s h i k l = grind arith

    apart : (v : ℕ) → c v ≡ true → complement c v ≡ true → ⊥
    apart v i j = both_ways (c v) (not-true (c v) j) i

    chosen : Picks g.order (beside g) c (complement c)
    chosen = picks g c (complement c) is.ends apart enough

    -- the partners are as many as the members
    partner : Set
    partner v = some g.order (λ u. c u && (chosen.to u == v))

    partners : count g.order c ≤ count g.order partner
    unfolding partner
    partners =
        let s = total_swap g.order g.order (λ i u. bit (c u && (chosen.to u == i))) in
        let t = total_congr g.order (λ u. total g.order (λ i. bit (c u && (chosen.to u == i)))) (λ u. bit (c u)) (λ u w. once u w (c u) refl) in
        let l = total_le g.order (λ i. count g.order (λ u. c u && (chosen.to u == i))) (λ i. bit (some g.order (λ u. c u && (chosen.to u == i)))) few in omega arith
      where
        once : (u : ℕ) → Within g.order u → (b : Bool) → c u ≡ b → total g.order (λ i. bit (c u && (chosen.to u == i))) ≡ bit (c u)
        once u w true t = count_of_one g.order (λ i. c u) (chosen.to u) (chosen.lands u w t).0
        once u w false t = rw t (total_none g.order (λ i. 0) (λ i w. refl))

        at_most : (i : ℕ) → count g.order (λ u. c u && (chosen.to u == i)) ≤ 1
        at_most i = count_le_one g.order (λ u. c u && (chosen.to u == i)) (λ u v wu wv l p q.
            let x = and_parts (c u) (chosen.to u == i) p in
            let y = and_parts (c v) (chosen.to v == i) q in
            let e = chosen.apart u v wu wv x.0 y.0 (eqb-true (chosen.to u) i x.1 ∙ sym (eqb-true (chosen.to v) i y.1)) in absurd (omega arith))

        few : (i : ℕ) → Within g.order i → count g.order (λ u. c u && (chosen.to u == i)) ≤ bit (some g.order (λ u. c u && (chosen.to u == i)))
        few i w = let e = some_count g.order (λ u. c u && (chosen.to u == i)) (at_most i) in omega arith

    matched : (m : Set) × IsMatching g none m × (count (size g) m ≡ count g.order c)
    unfolding partner chosen
    matched = (
      m.0,
      is_matching,
      (let b = cover_bound g m.0 c is.ends is_matching cover in
          let e = missed_edges g (complement pairs) m.0 is.ends (perfect_matching g (complement pairs) m.0 m.1) in
          let z = perfect_misses g (complement pairs) m.0 m.1 in
          let p = partners in
          let l = total_le g.order (λ v. bit (c v) + bit (partner v)) (λ v. bit (not (complement pairs v))) (λ v w. sum (c v) (partner v) (pairs v) (own_paired g c (complement c) is.ends apart enough v w) (partner_in v) (partner_out v)) in
          let t = total_add g.order (λ v. bit (c v)) (λ v. bit (partner v)) in omega arith),
    )
      where
        pairs : Set
        pairs = paired g c (complement c) is.ends apart enough

        m : HasPerfect g (complement pairs)
        m = matched_pairs g c (complement c) is.ends apart enough

        is_matching : IsMatching g none m.0
        is_matching = record { once = (perfect_matching g (complement pairs) m.0 m.1).once; away = λ v w o. absurd (true≢false (sym o)) }

        partner_in : (v : ℕ) → partner v ≡ true → pairs v ≡ true
        partner_in v h =
            let u = some_true g.order (λ u. c u && (chosen.to u == v)) h in
            let q = and_parts (c u.0) (chosen.to u.0 == v) u.2 in
            ap pairs (sym (eqb-true (chosen.to u.0) v q.1)) ∙ partner_paired g c (complement c) is.ends apart enough u.0 u.1 q.0

        partner_out : (v : ℕ) → partner v ≡ true → c v ≡ false
        partner_out v h =
            let u = some_true g.order (λ u. c u && (chosen.to u == v)) h in
            let q = and_parts (c u.0) (chosen.to u.0 == v) u.2 in
            ap c (sym (eqb-true (chosen.to u.0) v q.1)) ∙ not-true (c (chosen.to u.0)) (chosen.lands u.0 u.1 q.0).1

        sum : (p q r : Bool) → (p ≡ true → r ≡ true) → (q ≡ true → r ≡ true) → (q ≡ true → p ≡ false) → bit p + bit q ≤ bit (not (not r))
        sum p q r h i k = grind arith

pub koenig : (g : Graph) (a : Set) → IsMultigraph g → IsSide g a → (m c : Set) × IsMatching g none m × IsVertexCover g c × (count (size g) m ≡ count g.order c)
koenig g a is two =
    let l = least_cover g is.ends in
    let m = matched g is l.c l.cover l.least a two in (m.0, l.c, m.1, l.cover, m.2)
