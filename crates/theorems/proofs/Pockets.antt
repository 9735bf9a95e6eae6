-- A pocket: an even set of vertices, not empty, and two vertices outside it, at which all edges
-- that leave the set end. With one of the two it is a tight shore; and in a covered graph with a
-- further vertex the two are a cut pair without which there is a perfect matching. Each edge of a
-- perfect matching that leaves the set is at one of the two vertices, so there are two of them or
-- none.
use Rattle.tree_check.proofs.from_counting.Common.{◌≡◌, ◌≢◌, ℕ, suc, zero, ◌+◌, ◌*◌, ◌≤◌, Bool, true, false, ◌==◌, ◌&&◌, ◌||◌, ◌⊎◌, not, refl, ap, ◌∙◌, arith, eqb-true, both_ways, cases_Bool, inl, inr, complement_odd, count_member, count_plus, odd-double, total_add, total_congr, total_le, total_none, total_tight, Within, bit, count, is_odd, total, Set, complement, none, pair_set, singleton, union}
use Rattle.barrier_kit.proofs.Common.{cut_matching, glue, perfect_congr, restrict, inner}
use Rattle.graph_core.proofs.Common.{degree_sum, ends_of, parity, Graph, IsGraph, HasPerfect, IsCovered, IsPerfect, IsTight, edges_in_cut, first_end, in_cut, second_end, size}

-- m with a and c outside; an edge that is at neither of them does not leave m
pub record Pocket (g : Graph) (m : Set) (a c : ℕ) : Type 0 where
  pub first : Within g.order a
  pub second : Within g.order c
  pub different : a ≢ c
  pub first_out : m a ≡ false
  pub second_out : m c ≡ false
  pub even : is_odd (count g.order m) ≡ false
  pub some : 1 ≤ count g.order m
  pub closed : (e : ℕ) → Within (size g) e → pair_set a c (first_end g e) ≡ false → pair_set a c (second_end g e) ≡ false → in_cut g m e ≡ false

-- how many ends an edge has at a and at c
abbrev both_ends : Graph → (a c : ℕ) → ℕ → ℕ
both_ends g a c e = ends_of g e a + ends_of g e c

-- an edge with an end in the pair
pub hits : (g : Graph) (a c e : ℕ) → (pair_set a c (first_end g e) || pair_set a c (second_end g e)) ≡ true → 1 ≤ both_ends g a c e
unfolding ends_of
hits g a c e h = grind arith

module _ (g : Graph) (is : IsGraph g) (m : Set) (a c : ℕ) (pocket : Pocket g m a c) where
  pair_out : (v : ℕ) → pair_set a c v ≡ true → m v ≡ false
  pair_out v h = grind (arith, pocket.first_out, pocket.second_out, eqb-true)

  -- an edge that leaves m has an end at a or at c
  leaves : (e : ℕ) → Within (size g) e → in_cut g m e ≡ true → 1 ≤ both_ends g a c e
  leaves e w h = elim (cases_Bool (pair_set a c (first_end g e) || pair_set a c (second_end g e))) [
    | inl t ↦ hits g a c e t
    | inr f ↦ let p = neither (pair_set a c (first_end g e)) (pair_set a c (second_end g e)) f in absurd (both_ways (in_cut g m e) (pocket.closed e w p.0 p.1) h)
  ]
    where
      neither : (s t : Bool) → (s || t) ≡ false → (s ≡ false) × (t ≡ false)
      neither s t h = grind arith

  -- so has one that leaves m with a
  abbrev shore : Set
  shore = union m (singleton a)

  leaves_shore : (e : ℕ) → Within (size g) e → in_cut g shore e ≡ true → 1 ≤ both_ends g a c e
  leaves_shore e w h = elim (cases_Bool (pair_set a c (first_end g e) || pair_set a c (second_end g e))) [
    | inl t ↦ hits g a c e t
    | inr f ↦ absurd (inside_or (m (first_end g e)) (m (second_end g e)) (a == first_end g e) (a == second_end g e) (c == first_end g e) (c == second_end g e) f (λ s t. pocket.closed e w s t) h)
  ]
    where
      inside_or : (x y p q r s : Bool) → ((p || r) || (q || s)) ≡ false → ((p || r) ≡ false → (q || s) ≡ false → ((x && not y) || (not x && y)) ≡ false) → (((x || p) && not (y || q)) || (not (x || p) && (y || q))) ≡ true → ⊥
      inside_or x y p q r s f h i = grind arith

  module _ (p : Set) (pp : IsPerfect g none p) where
    -- the ends of p at a and at c are two
    two_ends : total (size g) (λ e. bit (p e) * both_ends g a c e) ≡ 2
    two_ends =
        let x = total_congr (size g) (λ e. bit (p e) * both_ends g a c e) (λ e. bit (p e) * ends_of g e a + bit (p e) * ends_of g e c) (λ e w. spread (bit (p e)) (ends_of g e a) (ends_of g e c)) in
        let y = total_add (size g) (λ e. bit (p e) * ends_of g e a) (λ e. bit (p e) * ends_of g e c) in
        let i = degree_sum g p a in let j = degree_sum g p c in
        let k = pp.once a pocket.first refl in let l = pp.once c pocket.second refl in omega arith
      where
        spread : (x y z : ℕ) → x * (y + z) ≡ x * y + x * z
        spread x y z = grind arith

    each : (s t : Bool) (k : ℕ) → (t ≡ true → 1 ≤ k) → bit (s && t) ≤ bit s * k
    each s t k h = grind arith

    at_most : (x : Set) → ((e : ℕ) → Within (size g) e → in_cut g x e ≡ true → 1 ≤ both_ends g a c e) → edges_in_cut g p x ≤ 2
    at_most x h =
        let t = total_le (size g) (λ e. bit (p e && in_cut g x e)) (λ e. bit (p e) * both_ends g a c e) (λ e w. each (p e) (in_cut g x e) (both_ends g a c e) (h e w)) in
        let k = two_ends in omega arith

    -- one edge of p leaves the shore
    shore_cut : is_odd (count g.order shore) ≡ true → edges_in_cut g p shore ≡ 1
    shore_cut odd = settle (edges_in_cut g p shore) (inner g p shore) (count g.order shore) (parity g is p shore pp) odd (at_most shore leaves_shore)
      where
        settle : (c k x : ℕ) → x ≡ c + 2 * k → is_odd x ≡ true → c ≤ 2 → c ≡ 1
        settle c k x e o h = grind (arith, both_ways (is_odd x), odd-double k, odd-double (k + 1))

    -- no edge of p leaves m, or two do
    none_or_two : (edges_in_cut g p m ≡ 0) ⊎ (2 ≤ edges_in_cut g p m)
    none_or_two = settle (edges_in_cut g p m) (inner g p m) (count g.order m) (parity g is p m pp) pocket.even
      where
        settle : (c k x : ℕ) → x ≡ c + 2 * k → is_odd x ≡ false → (c ≡ 0) ⊎ (2 ≤ c)
        settle zero k x e o = inl refl
        settle (suc zero) k x e o = absurd (both_ways (is_odd x) o (let q : x ≡ suc (k + k) = omega arith in ap is_odd q ∙ ap not (odd-double k)))
        settle (suc (suc c)) k x e o = inr (omega arith)

    -- if two do, the edges of p at a and at c lead into m
    abbrev whole : Set
    whole = union m (pair_set a c)

    led_in : 2 ≤ edges_in_cut g p m → edges_in_cut g p whole ≡ 0
    led_in two = total_none (size g) (λ e. bit (p e && in_cut g whole e)) (λ e w. ap bit (go e w))
      where
        tight : (e : ℕ) → Within (size g) e → bit (p e) * both_ends g a c e ≡ bit (p e && in_cut g m e)
        tight = total_tight (size g) (λ e. bit (p e) * both_ends g a c e) (λ e. bit (p e && in_cut g m e)) (λ e w. each (p e) (in_cut g m e) (both_ends g a c e) (leaves e w)) (let k = two_ends in omega arith)

        go : (e : ℕ) → Within (size g) e → (p e && in_cut g whole e) ≡ false
        go e w = ends (p e) (m (first_end g e)) (m (second_end g e)) (pair_set a c (first_end g e)) (pair_set a c (second_end g e)) (both_ends g a c e) (tight e w) (pocket.closed e w) (hits g a c e) (pair_out (first_end g e)) (pair_out (second_end g e))
          where
            ends : (k x y p q : Bool) (n : ℕ) → bit k * n ≡ bit (k && ((x && not y) || (not x && y))) → (p ≡ false → q ≡ false → ((x && not y) || (not x && y)) ≡ false) → ((p || q) ≡ true → 1 ≤ n) → (p ≡ true → x ≡ false) → (q ≡ true → y ≡ false) →
                (k && (((x || p) && not (y || q)) || (not (x || p) && (y || q)))) ≡ false
            ends k x y p q n t h i o r = grind arith

  pub pocket_tight : is_odd g.order ≡ false → IsTight g shore
  pocket_tight even_order = record { odd = odd; odd_complement = complement_odd g.order shore even_order odd; cut = λ p pp. shore_cut p pp odd }
    where
      odd : is_odd (count g.order shore) ≡ true
      odd = let q : count g.order shore ≡ suc (count g.order m) = let k = count_plus g.order m a pocket.first pocket.first_out in omega arith in ap is_odd q ∙ ap not pocket.even

  -- in a covered graph with a vertex z elsewhere, a perfect matching leaves out a and c alone
  module _ (cov : IsCovered g) (z : ℕ) (wz : Within g.order z) (mz : m z ≡ false) (oz : pair_set a c z ≡ false) where
    abbrev around : Set
    around = union m (pair_set a c)

    abbrev rest : Set
    rest = complement around

    member : (x : ℕ) × Within g.order x × (m x ≡ true)
    member = count_member g.order m pocket.some

    -- a perfect matching of the rest: one of g of which two edges leave m
    outer : HasPerfect g (complement rest)
    outer =
        let k = cut_matching g m member.0 z is cov member.1 wz member.2 mz in
        elim (none_or_two k.0 k.1) [
          | inl n ↦ let s = k.2 in absurd (omega arith)
          | inr t ↦ (_, restrict g k.0 rest k.1 (turned k.0 ∙ led_in k.0 k.1 t))
        ]
      where
        turned : (k : Set) → edges_in_cut g k rest ≡ edges_in_cut g k around
        turned k = total_congr (size g) _ _ (λ e w. ap bit (turn (k e) (around (first_end g e)) (around (second_end g e))))
          where
            turn : (k p q : Bool) → (k && ((not p && not (not q)) || (not (not p) && not q))) ≡ (k && ((p && not q) || (not p && q)))
            turn k p q = grind arith

    -- and one of m: one of g of which an edge leaves m, a and c together
    inner_part : HasPerfect g (complement m)
    inner_part =
        let l = cut_matching g around member.0 z is cov member.1 wz (ap (λ b. b || pair_set a c member.0) member.2) (neither (m z) (pair_set a c z) mz oz) in
        elim (none_or_two l.0 l.1) [
          | inl n ↦ (_, restrict g l.0 m l.1 n)
          | inr t ↦ (let y = led_in l.0 l.1 t in let s = l.2 in absurd (omega arith))
        ]
      where
        neither : (p q : Bool) → p ≡ false → q ≡ false → (p || q) ≡ false
        neither p q h k = grind arith

    pub pocket_perfect : HasPerfect g (pair_set a c)
    pocket_perfect = (
      _,
      perfect_congr g (complement (union m rest)) (pair_set a c) _ (λ v w. left (m v) (pair_set a c v) (pair_out v))
          (glue g m rest inner_part.0 outer.0 is (λ v w h k. apart (m v) (pair_set a c v) h k) inner_part.1 outer.1),
    )
      where
        left : (p q : Bool) → (q ≡ true → p ≡ false) → not (p || not (p || q)) ≡ q
        left p q h = grind arith

        apart : (p q : Bool) → p ≡ true → not (p || q) ≡ true → ⊥
        apart p q h k = grind arith
