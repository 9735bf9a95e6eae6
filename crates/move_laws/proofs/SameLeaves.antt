-- A same leaf by names is an isomorphism by maps of vertices, and an isomorphism is a same leaf
-- by the names of the images.
use Rattle.graph_core.proofs.from_counting.Common.{Bool, List, ap, ap₂, arith, eq-eqb, eqb-true, false, inl, inr, length, map, ne_eqb, not, refl, subst, subst₂, sym, true, ℕ, ◌&&◌, ◌-◌, ◌<◌, ◌==◌, ◌||◌, ◌∙◌, ◌≡◌, ◌≢◌, slice_index, and_from, and_parts, both_ways, cases_eq, get_or-map, length-map, bit_true, only_one, mem-item, some_true, true_some, some_term, total_at, Within, bit, last_of, mem, some}
use Rattle.graph_core.proofs.Common.{contracted-ends, contracted-size, place_in, place_is, mem_last, has_ends-cases, Graph, IsGraph, first_end, has_ends, second_end, size, AreBlocks, block, contracted, place, blocks_adjacent}
use Rattle.tree_core.proofs.Common.{name, position}
use Rattle.move_laws.proofs.Images.{back_in, back_move, image_edges, move_back, move_in, moved, moved_back}
use Rattle.move_laws.proofs.Positions.{position-item}
use Rattle.move_laws.specs.Common.{EndsAt, Isomorphism, IsSameLeaf, from_name, image, to_name}

-- an isomorphism makes the two the same leaf, by the names of the images of blocks
module _ (g : Graph) (is : IsGraph g) (p q : List (List ℕ)) (h k : ℕ → ℕ) (pp : AreBlocks g.order p) (qp : AreBlocks g.order q) (iso : Isomorphism g p q h k) (names : List ℕ) (long : length names ≡ length p)
    (named : (i : ℕ) → Within (length p) i → name names i ≡ last_of (block q (moved g is p q h k pp qp iso i))) where
  im : (i : ℕ) → Within (length p) i → image q names i ≡ moved g is p q h k pp qp iso i
  im i w =
      let j = moved g is p q h k pp qp iso i in
      let wj = move_in g is p q h k pp qp iso i w in
      let full = qp.full j wj in
      let inb = mem_last (block q j) full.0 full.2 in
      ap (place q) (named i w) ∙ sym (place_is g.order q qp (last_of (block q j)) j (qp.within j (last_of (block q j)) wj inb) wj inb)

  pub iso_same_leaf : IsSameLeaf g p q names
  iso_same_leaf = record {
    one_each = long;
    named = λ i w. (subst (Within (length q)) (sym (im i w)) (move_in g is p q h k pp qp iso i w), ap (λ j. last_of (block q j)) (im i w) ∙ sym (named i w));
    once = λ j w.
        let i = moved_back g is p q h k pp qp iso j in let wi = back_in g is p q h k pp qp iso j w in
        total_at (length p) (λ i. bit (image q names i == j)) i wi
        (λ l u d. ap bit (ne_eqb (image q names l) j (λ e. d (sym (back_move g is p q h k pp qp iso l u) ∙ ap (moved_back g is p q h k pp qp iso) (sym (im l u) ∙ e)))))
        ∙ ap bit (eq-eqb (image q names i) j (im i wi ∙ move_back g is p q h k pp qp iso j w));
    adjacent = λ i j wi wj. edges i j wi wj;
  }
    where
      differ : (i j : ℕ) → Within (length p) i → Within (length p) j → (t : Bool) → (i == j) ≡ t → (image q names i == image q names j) ≡ t
      differ i j wi wj true e = eq-eqb (image q names i) (image q names j) (ap (image q names) (eqb-true i j e))
      differ i j wi wj false e = ne_eqb (image q names i) (image q names j) (λ s. both_ways (i == j) e (eq-eqb i j (sym (back_move g is p q h k pp qp iso i wi) ∙ ap (moved_back g is p q h k pp qp iso) (sym (im i wi) ∙ s ∙ im j wj) ∙ back_move g is p q h k pp qp iso j wj)))

      edges : (i j : ℕ) → Within (length p) i → Within (length p) j → blocks_adjacent g p i j ≡ blocks_adjacent g q (image q names i) (image q names j)
      edges i j wi wj = elim (cases_eq i j) [
        | inl e ↦ rw (differ i j wi wj true (eq-eqb i j e), eq-eqb i j e) refl
        | inr d ↦
            ap₂ (λ a c. not a && c) (sym (differ i j wi wj (i == j) refl))
            (ap (λ n. some n (has_ends (contracted g p) i j)) (sym (contracted-size g p)) ∙ image_edges g is p q h k pp qp iso i j wi wj d
            ∙ ap (λ n. some n (has_ends (contracted g q) (moved g is p q h k pp qp iso i) (moved g is p q h k pp qp iso j))) (contracted-size g q)
            ∙ ap₂ (λ x y. some (size g) (has_ends (contracted g q) x y)) (sym (im i wi)) (sym (im j wj)))
      ]

-- the name of a block
module _ (n : ℕ) (p : List (List ℕ)) (pp : AreBlocks n p) where
  name_in : (i : ℕ) → Within (length p) i → Within n (last_of (block p i)) × (mem (block p i) (last_of (block p i)) ≡ true)
  name_in i w = let full = pp.full i w in let h = mem_last (block p i) full.0 full.2 in (pp.within i (last_of (block p i)) w h, h)

  pub name_within : (i : ℕ) → Within (length p) i → Within n (last_of (block p i))
  name_within i w = (name_in i w).0

  pub name_place : (i : ℕ) → Within (length p) i → place p (last_of (block p i)) ≡ i
  name_place i w = sym (place_is n p pp (last_of (block p i)) i (name_in i w).0 w (name_in i w).1)

-- a same leaf by names gives the vertex maps
module _ (g : Graph) (is : IsGraph g) (p q : List (List ℕ)) (pp : AreBlocks g.order p) (qp : AreBlocks g.order q) (names : List ℕ) (same : IsSameLeaf g p q names) where
  places : List ℕ
  places = map (place q) names

  at_place : (i : ℕ) → Within (length p) i → slice_index places (i - 1) ≡ image q names i
  unfolding places
  at_place i w = let l : i - 1 < length names = let e = same.one_each in omega arith in get_or-map (place q) names (i - 1) 0 0 l

  long : length places ≡ length p
  unfolding places
  long = length-map names (place q) ∙ same.one_each

  source : (j : ℕ) → Within (length q) j → Within (length p) (position places j) × (image q names (position places j) ≡ j)
  source j w =
      let c = same.once j w in let e = long in
      let r = some_term (length p) (λ i. bit (image q names i == j)) (omega arith) in let wr = r.1 in
      let at : slice_index places (r.0 - 1) ≡ j = at_place r.0 r.1 ∙ eqb-true (image q names r.0) j (bit_true (image q names r.0 == j) r.2) in
      let found = position-item places j (subst (λ z. mem places z ≡ true) at (mem-item places (r.0 - 1) 0 (omega arith))) in
      let wf = found.0 in let here : Within (length p) (position places j) = (omega arith, omega arith) in
      (here, sym (at_place (position places j) here) ∙ found.1)

  unique : (i j : ℕ) → Within (length p) i → Within (length p) j → image q names i ≡ image q names j → i ≡ j
  unique i j wi wj e =
      only_one (length p) (λ l. image q names l == image q names j) (same.once (image q names j) (same.named j wj).0) i j wi wj (eq-eqb (image q names i) (image q names j) e) (eq-eqb (image q names j) (image q names j) refl)

  src : ℕ → ℕ
  src w = position places (place q w)

  at_src : (w : ℕ) → Within g.order w → Within (length p) (src w) × (image q names (src w) ≡ place q w)
  unfolding src
  at_src w ww = source (place q w) (place_in g.order q qp w ww).0

  to_in : (v : ℕ) → Within g.order v → Within g.order (to_name p names v)
  to_in v w =
      let i = place p v in let wi = (place_in g.order p pp v w).0 in
      let n = same.named i wi in
      let full = qp.full (image q names i) n.0 in
      subst (Within g.order) n.1 (qp.within (image q names i) (last_of (block q (image q names i))) n.0 (mem_last (block q (image q names i)) full.0 full.2))

  edge_from : (i j : ℕ) → Within (length p) i → Within (length p) j → i ≢ j → (e : ℕ) → Within (size g) e → ((place p (first_end g e) ≡ i) × (place p (second_end g e) ≡ j)) → blocks_adjacent g p i j ≡ true
  edge_from i j wi wj d e w t = and_from (not (i == j)) (some (size g) (has_ends (contracted g p) i j)) (ap not (ne_eqb i j d)) (true_some (size g) (has_ends (contracted g p) i j) e w (first (first_end (contracted g p) e) (second_end (contracted g p) e) i j ((contracted-ends g p e w).0 ∙ t.0) ((contracted-ends g p e w).1 ∙ t.1)))
    where
      first : (a b c d : ℕ) → a ≡ c → b ≡ d → ((a == c && b == d) || (a == d && b == c)) ≡ true
      first a b c d s t = rw (eq-eqb a c s, eq-eqb b d t) refl

  -- the name that a vertex has in p is the name of a block
  pub from_name-own : (w : ℕ) → Within g.order w → last_of (block p (place p (from_name p q names w))) ≡ from_name p q names w
  unfolding src places
  from_name-own w ww = ap (λ j. last_of (block p j)) (name_place g.order p pp (src w) (at_src w ww).0)

  edge_to : (r : List (List ℕ)) (i j : ℕ) → blocks_adjacent g r i j ≡ true → (f : ℕ) × Within (size g) f × EndsAt g r f i j
  edge_to r i j h = grind (arith, some_true, size, has_ends, contracted, and_parts, some, contracted-ends, has_ends-cases)

  pub same_leaf_iso : Isomorphism g p q (to_name p names) (from_name p q names)
  unfolding src places
  same_leaf_iso = record {
    there = record {
      within = to_in;
      blocks = λ v w wv ww e. ap (image q names) e;
      again = λ v w.
          let s = at_src (to_name p names v) (to_in v w) in
          name_place g.order p pp (src (to_name p names v)) s.0 ∙ unique (src (to_name p names v)) (place p v) s.0 (place_in g.order p pp v w).0 s.1;
      edges = λ e w d.
          let wi = (place_in g.order p pp (first_end g e) (is e w).0).0 in let wj = (place_in g.order p pp (second_end g e) (is e w).1).0 in
          edge_to q (image q names (place p (first_end g e))) (image q names (place p (second_end g e))) (sym (same.adjacent (place p (first_end g e)) (place p (second_end g e)) wi wj) ∙ edge_from (place p (first_end g e)) (place p (second_end g e)) wi wj d e w (refl, refl));
    };
    back = record {
      within = λ w ww. name_within g.order p pp (src w) (at_src w ww).0;
      blocks = λ v w wv ww e. ap (λ j. place p (last_of (block p (position (map (place q) names) j)))) e;
      again = λ w ww. ap (image q names) (name_place g.order p pp (src w) (at_src w ww).0) ∙ (at_src w ww).1;
      edges = λ e w d.
          let a = at_src (first_end g e) (is e w).0 in let c = at_src (second_end g e) (is e w).1 in
          let ne : src (first_end g e) ≢ src (second_end g e) = λ s. d (sym a.1 ∙ ap (image q names) s ∙ c.1) in
          let adj : blocks_adjacent g q (place q (first_end g e)) (place q (second_end g e)) ≡ true =
          and_from (not (place q (first_end g e) == place q (second_end g e))) (some (size g) (has_ends (contracted g q) (place q (first_end g e)) (place q (second_end g e)))) (ap not (ne_eqb _ _ d))
          (true_some (size g) (has_ends (contracted g q) (place q (first_end g e)) (place q (second_end g e))) e w (first (first_end (contracted g q) e) (second_end (contracted g q) e) (place q (first_end g e)) (place q (second_end g e)) (contracted-ends g q e w).0 (contracted-ends g q e w).1)) in
          let f = edge_to p (src (first_end g e)) (src (second_end g e)) (same.adjacent (src (first_end g e)) (src (second_end g e)) a.0 c.0 ∙ ap₂ (blocks_adjacent g q) a.1 c.1 ∙ adj) in
          subst₂ (λ x y. (f : ℕ) × Within (size g) f × EndsAt g p f x y) (sym (name_place g.order p pp (src (first_end g e)) a.0)) (sym (name_place g.order p pp (src (second_end g e)) c.0)) f;
    };
  }
    where
      first : (a b c d : ℕ) → a ≡ c → b ≡ d → ((a == c && b == d) || (a == d && b == c)) ≡ true
      first a b c d s t = rw (eq-eqb a c s, eq-eqb b d t) refl
