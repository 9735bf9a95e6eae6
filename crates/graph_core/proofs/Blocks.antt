-- Merging a union of blocks contracts it in the contracted graph, so the law of contraction
-- applies. Each vertex has one block, and the block of a place in the one partition goes to a
-- place in the other.
use Rattle.vset_core.proofs.from_counting.Common.{◌≡◌, ℕ, suc, ◌+◌, ◌-◌, ◌≢◌, Bool, true, false, cond, ◌==◌, refl, sym, ap, ◌∙◌, arith, ◌&&◌, ◌||◌, eq-eqb, eqb-true, inl, inr, List, [], ◌∷◌, length, subst, cases_Bool, both_ways, true≢false, or_cases, and_from, and_left, get_or-map, length-map, bit_true, only_one, some_term, Within, bit, all_in, mem, Set, union}
use Rattle.graph_core.specs.Common.{Graph, IsGraph, first_end, second_end, size, AreBlocks, IsMerge, block, contracted, place, IsUnion, blocks_in, Merges}

-- the block at the place of v contains v, if some block does
place_holds : (p : List (List ℕ)) (v i : ℕ) → Within (length p) i → mem (block p i) v ≡ true → Within (length p) (place p v) × (mem (block p (place p v)) v ≡ true)
place_holds [] v i w h = absurd (omega arith)
place_holds (b ∷ p) v i w h = go (place_holds p v (i - 1)) (mem b v) refl
  where
    go : (Within (length p) (i - 1) → mem (block p (i - 1)) v ≡ true → Within (length p) (place p v) × (mem (block p (place p v)) v ≡ true)) → (x : Bool) → mem b v ≡ x →
        Within (suc (length p)) (cond x 1 (place p v + 1)) × (mem (block (b ∷ p) (cond x 1 (place p v + 1))) v ≡ true)
    go ih x e = grind arith

module _ (n : ℕ) (p : List (List ℕ)) (is : AreBlocks n p) where
  pub place_is : (v i : ℕ) → Within n v → Within (length p) i → mem (block p i) v ≡ true → i ≡ place p v
  place_is v i w wi h = let r = place_holds p v i wi h in only_one (length p) (λ i. mem (block p i) v) (is.once v w) i (place p v) wi r.0 h r.1

  pub place_in : (v : ℕ) → Within n v → Within (length p) (place p v) × (mem (block p (place p v)) v ≡ true)
  place_in v w =
      let r = some_term (length p) (λ i. bit (mem (block p i) v)) (omega (arith, is.once v w)) in
      place_holds p v r.0 r.1 (bit_true (mem (block p r.0) v) r.2)

-- the first of a list
abbrev pub first : List ℕ → ℕ
first [] = 0
first (v ∷ vs) = v

mem_first : (vs : List ℕ) (v : ℕ) → mem vs v ≡ true → mem vs (first vs) ≡ true
mem_first vs v h = grind arith

-- what the block of place i becomes in q
abbrev pub carried : List (List ℕ) → List (List ℕ) → ℕ → ℕ
carried p q i = place q (first (block p i))

-- a block is in a union of blocks where one of its vertices is
pub in_union : (n : ℕ) (p : List (List ℕ)) (x : Set) → AreBlocks n p → IsUnion n p x → (i v : ℕ) → Within (length p) i → mem (block p i) v ≡ true → blocks_in p x i ≡ x v
in_union n p x is union i v wi h = go (x v) refl
  where
    same : (u : ℕ) → mem (block p i) u ≡ true → x u ≡ x v
    same u q = let wu = is.within i u wi q in let wv = is.within i v wi h in union u v wu wv (sym (place_is n p is u i wu wi q) ∙ place_is n p is v i wv wi h)

    all_yes : (vs : List ℕ) → ((u : ℕ) → mem vs u ≡ true → x u ≡ true) → all_in vs x ≡ true
    all_yes [] f = refl
    all_yes (u ∷ vs) f = and_from (x u) (all_in vs x) (f u (own u vs)) (all_yes vs (λ w q. f w (grind arith)))
      where
        own : (u : ℕ) (vs : List ℕ) → mem (u ∷ vs) u ≡ true
        own u vs = ap (λ b. b || mem vs u) (eq-eqb u u refl)

    one_no : (vs : List ℕ) (u : ℕ) → mem vs u ≡ true → x u ≡ false → all_in vs x ≡ false
    one_no [] u q f = absurd (true≢false (sym q))
    one_no (w ∷ vs) u q f = elim (or_cases (w == u) (mem vs u) q) [
      | inl t ↦ and_left (x w) (all_in vs x) (ap x (eqb-true w u t) ∙ f)
      | inr t ↦ right (x w) (all_in vs x) (one_no vs u t f)
    ]
      where
        right : (a b : Bool) → b ≡ false → (a && b) ≡ false
        right a b q = grind arith

    go : (b : Bool) → x v ≡ b → blocks_in p x i ≡ b
    go true e = all_yes (block p i) (λ u q. same u q ∙ e)
    go false e = one_no (block p i) v h e

-- the contracted graph has a vertex for each block
pub contracted-order : (g : Graph) (p : List (List ℕ)) → (contracted g p).order ≡ length p
unfolding contracted
contracted-order g p = refl

-- and the edges of the graph
pub contracted-size : (g : Graph) (p : List (List ℕ)) → size (contracted g p) ≡ size g
unfolding contracted
contracted-size g p = length-map g.ends (λ (d : ℕ × ℕ). (place p d.0, place p d.1))

-- between the places of their ends
pub contracted-ends : (g : Graph) (p : List (List ℕ)) (e : ℕ) → Within (size g) e → (first_end (contracted g p) e ≡ place p (first_end g e)) × (second_end (contracted g p) e ≡ place p (second_end g e))
unfolding contracted
contracted-ends g p e w = grind (arith, get_or-map)

-- merging a union of blocks merges the vertices of the shrunk graph
module _ (g : Graph) (is : IsGraph g) (p q : List (List ℕ)) (x : Set) (pp : AreBlocks g.order p) (union : IsUnion g.order p x) (merge : IsMerge g.order p x q) where
  pub in_first : (i : ℕ) → Within (length p) i → Within g.order (first (block p i)) × (mem (block p i) (first (block p i)) ≡ true)
  in_first i w = let f = pp.full i w in let h = mem_first (block p i) f.0 f.2 in (pp.within i (first (block p i)) w h, h)

  x_first : (i : ℕ) → Within (length p) i → blocks_in p x i ≡ x (first (block p i))
  x_first i w = in_union g.order p x pp union i (first (block p i)) w (in_first i w).1

  first_place : (i : ℕ) → Within (length p) i → place p (first (block p i)) ≡ i
  first_place i w = sym (place_is g.order p pp (first (block p i)) i (in_first i w).0 w (in_first i w).1)

  c_of : (v : ℕ) → Within g.order v → x v ≡ true → place q v ≡ merge.new.0
  c_of v w t = sym (place_is g.order q merge.partition v merge.new.0 w merge.new.1 (merge.new.2 v w ∙ t))

  not_c : (v : ℕ) → Within g.order v → x v ≡ false → place q v ≢ merge.new.0
  not_c v w f e = both_ways (x v) f (sym (merge.new.2 v w) ∙ subst (λ i. mem (block q i) v ≡ true) e (place_in g.order q merge.partition v w).1)

  -- the block of v is carried to the block of v
  pub carries : (v : ℕ) → Within g.order v → place q v ≡ carried p q (place p v)
  carries v w = go (x v) refl
    where
      wp : Within (length p) (place p v)
      wp = (place_in g.order p pp v w).0

      u : ℕ
      u = first (block p (place p v))

      wu : Within g.order u
      wu = (in_first (place p v) wp).0

      same : place p u ≡ place p v
      same = first_place (place p v) wp

      xs : x u ≡ x v
      xs = union u v wu w same

      go : (b : Bool) → x v ≡ b → place q v ≡ place q u
      go true t = c_of v w t ∙ sym (c_of u wu (xs ∙ t))
      go false t = (merge.old v u w wu t (xs ∙ t)).1 (sym same)

  pub merges : Merges (contracted g p) (blocks_in p x) (contracted g q) (carried p q) merge.new.0
  unfolding contracted
  merges = record {
    edges = contracted-size g q ∙ sym (contracted-size g p);
    first_ends = λ e w. let v : Within (size g) e = let s = contracted-size g p in omega arith in
        (contracted-ends g q e v).0 ∙ carries (first_end g e) (is e v).0 ∙ ap (carried p q) (sym (contracted-ends g p e v).0);
    second_ends = λ e w. let v : Within (size g) e = let s = contracted-size g p in omega arith in
        (contracted-ends g q e v).1 ∙ carries (second_end g e) (is e v).1 ∙ ap (carried p q) (sym (contracted-ends g p e v).1);
    inside = λ i w t. c_of (first (block p i)) (in_first i w).0 (sym (x_first i w) ∙ t);
    outside = λ i w t. let u = (in_first i w).0 in ((place_in g.order q merge.partition (first (block p i)) u).0, not_c (first (block p i)) u (sym (x_first i w) ∙ t));
    apart = λ i j wi wj ti tj e.
        sym (first_place i wi) ∙ (merge.old (first (block p i)) (first (block p j)) (in_first i wi).0 (in_first j wj).0 (sym (x_first i wi) ∙ ti) (sym (x_first j wj) ∙ tj)).0 e ∙ first_place j wj;
    onto = λ i w d.
        let f = merge.partition.full i w in
        let pl : place q f.0 ≡ i = sym (place_is g.order q merge.partition f.0 i f.1 w f.2) in
        let wp = (place_in g.order p pp f.0 f.1).0 in
        let out : x f.0 ≡ false = elim (cases_Bool (x f.0)) [ inr o ↦ o | inl t ↦ absurd (d (sym pl ∙ c_of f.0 f.1 t)) ] in
        (place p f.0, wp, in_union g.order p x pp union (place p f.0) f.0 wp (place_in g.order p pp f.0 f.1).1 ∙ out, sym (carries f.0 f.1) ∙ pl);
    new = merge.new.1;
  }

pub contracted-graph : (g : Graph) (p : List (List ℕ)) → IsGraph g → AreBlocks g.order p → IsGraph (contracted g p)
unfolding contracted
contracted-graph g p is pp e w = grind (arith, contracted-size g p, get_or-map, place_in g.order p pp (first_end g e), place_in g.order p pp (second_end g e))
