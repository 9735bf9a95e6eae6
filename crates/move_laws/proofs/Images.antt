-- Images under an isomorphism of blocks: tight shores, their numbers of blocks and being covered
-- are carried in both directions.
use Rattle.graph_core.proofs.from_counting.Common.{Bool, List, ap, arith, false, inl, inr, length, refl, subst₂, suc, sym, true, zero, ℕ, ◌∙◌, ◌≡◌, ◌≢◌, both_ways, some_true, true_some, Within, count, is_odd, Set, complement, some}
use Rattle.graph_core.proofs.Common.{Alike, has_ends-from, tight_back, at_place, at_rep, block_count_rest, count_over, place_rep, rep, rep_in, rep_place, tight_congr, union_rest, contracted-ends, contracted-graph, contracted-size, place_in, cut_congr, has_ends-back, has_ends-cases, Graph, IsGraph, first_end, has_ends, second_end, size, AreBlocks, contracted, place, IsTightAt, IsUnion, block_count, blocks_in, IsNontrivial}
use Rattle.move_laws.specs.Common.{Isomorphism, pre}

pub turned : (g : Graph) (p q : List (List ℕ)) (h k : ℕ → ℕ) → Isomorphism g p q h k → Isomorphism g q p k h
turned g p q h k i = record { there = i.back; back = i.there }

module _ (g : Graph) (is : IsGraph g) (p q : List (List ℕ)) (h k : ℕ → ℕ) (pp : AreBlocks g.order p) (qp : AreBlocks g.order q) (iso : Isomorphism g p q h k) where
  -- the image of a union of blocks
  pub image_union : (x : Set) → IsUnion g.order p x → IsUnion g.order q (pre k x)
  image_union x u a b wa wb e = u (k a) (k b) (iso.back.within a wa) (iso.back.within b wb) (iso.back.blocks a b wa wb e)

  pub image_at : (x : Set) → IsUnion g.order p x → (v : ℕ) → Within g.order v → pre k x (h v) ≡ x v
  image_at x u v w = u (k (h v)) v (iso.back.within (h v) (iso.there.within v w)) w (iso.there.again v w)

  pub move : ℕ → ℕ
  move i = place q (h (rep p i))

  pub move_is : (i : ℕ) → move i ≡ place q (h (rep p i))
  unfolding move
  move_is i = refl

  pub back : ℕ → ℕ
  back j = place p (k (rep q j))

  wh : (i : ℕ) → Within (length p) i → Within g.order (h (rep p i))
  wh i w = iso.there.within (rep p i) (rep_in g.order p pp i w).0

  wk : (j : ℕ) → Within (length q) j → Within g.order (k (rep q j))
  wk j w = iso.back.within (rep q j) (rep_in g.order q qp j w).0

  pub move_in : (i : ℕ) → Within (length p) i → Within (length q) (move i)
  unfolding move
  move_in i w = (place_in g.order q qp (h (rep p i)) (wh i w)).0

  pub back_in : (j : ℕ) → Within (length q) j → Within (length p) (back j)
  unfolding back
  back_in j w = (place_in g.order p pp (k (rep q j)) (wk j w)).0

  pub move_place : (v : ℕ) → Within g.order v → move (place p v) ≡ place q (h v)
  unfolding move
  move_place v w = iso.there.blocks (rep p (place p v)) v (rep_in g.order p pp (place p v) (place_in g.order p pp v w).0).0 w (place_rep g.order p pp v w)

  pub back_move : (i : ℕ) → Within (length p) i → back (move i) ≡ i
  unfolding move back
  back_move i w =
      let a = h (rep p i) in let wa = wh i w in let wr = (rep_in g.order q qp (place q a) (place_in g.order q qp a wa).0).0 in
      iso.back.blocks (rep q (place q a)) a wr wa (place_rep g.order q qp a wa) ∙ iso.there.again (rep p i) (rep_in g.order p pp i w).0 ∙ rep_place g.order p pp i w

  pub move_back : (j : ℕ) → Within (length q) j → move (back j) ≡ j
  unfolding move back
  move_back j w =
      let a = k (rep q j) in let wa = wk j w in let wr = (rep_in g.order p pp (place p a) (place_in g.order p pp a wa).0).0 in
      iso.there.blocks (rep p (place p a)) a wr wa (place_rep g.order p pp a wa) ∙ iso.back.again (rep q j) (rep_in g.order q qp j w).0 ∙ rep_place g.order q qp j w

  -- block by block
  pub image_block : (x : Set) → IsUnion g.order p x → (i : ℕ) → Within (length p) i → blocks_in q (pre k x) (move i) ≡ blocks_in p x i
  unfolding move
  image_block x u i w = at_place g.order q qp (pre k x) (image_union x u) (h (rep p i)) (wh i w) ∙ image_at x u (rep p i) (rep_in g.order p pp i w).0 ∙ sym (at_rep g.order p pp x u i w)

  pub image_number : (x : Set) → IsUnion g.order p x → block_count p x ≡ block_count q (pre k x)
  image_number x u = count_over (length p) (length q) (blocks_in p x) (blocks_in q (pre k x)) move back
      (λ i w t. (move_in i w, image_block x u i w ∙ t, back_move i w))
      (λ j w t. (back_in j w, sym (image_block x u (back j) (back_in j w)) ∙ ap (blocks_in q (pre k x)) (move_back j w) ∙ t, move_back j w))

  -- and outside
  pub image_rest : (x : Set) → IsUnion g.order p x → count (length p) (complement (blocks_in p x)) ≡ count (length q) (complement (blocks_in q (pre k x)))
  image_rest x u = grind (arith, block_count_rest, image_number, complement, union_rest, image_union)

  pub image_length : length p ≡ length q
  image_length = all (length p) ∙ count_over (length p) (length q) (λ i. true) (λ j. true) move back (λ i w t. (move_in i w, refl, back_move i w)) (λ j w t. (back_in j w, refl, move_back j w)) ∙ sym (all (length q))
    where
      all : (n : ℕ) → n ≡ count n (λ i. true)
      all zero = refl
      all (suc n) = let a = all n in omega arith

-- an edge between two blocks of p gives one between their images
edge_over : (g : Graph) (is : IsGraph g) (p q : List (List ℕ)) (h k : ℕ → ℕ) (pp : AreBlocks g.order p) (qp : AreBlocks g.order q) (iso : Isomorphism g p q h k) (i j : ℕ) → i ≢ j →
    some (size (contracted g p)) (has_ends (contracted g p) i j) ≡ true → some (size (contracted g q)) (has_ends (contracted g q) (move g is p q h k pp qp iso i) (move g is p q h k pp qp iso j)) ≡ true
edge_over g is p q h k pp qp iso i j d t =
    let r = some_true (size (contracted g p)) (has_ends (contracted g p) i j) t in
    let w : Within (size g) r.0 = let s = contracted-size g p in let z = r.1 in omega arith in
    let b = has_ends-cases (contracted g p) i j r.0 r.2 in
    let en = contracted-ends g p r.0 w in
    let wn = (is r.0 w).0 in let wf = (is r.0 w).1 in
    elim b [
      | inl e ↦ found r.0 w i j (sym en.0 ∙ e.0) (sym en.1 ∙ e.1) d
      | inr e ↦ let f = found r.0 w j i (sym en.0 ∙ e.0) (sym en.1 ∙ e.1) (λ s. d (sym s)) in
          let s = some_true (size (contracted g q)) _ f in
          true_some (size (contracted g q)) _ s.0 s.1 (has_ends-back (contracted g q) _ _ s.0 s.2)
    ]
  where
    m : ℕ → ℕ
    m = move g is p q h k pp qp iso

    found : (e : ℕ) → Within (size g) e → (i j : ℕ) → place p (first_end g e) ≡ i → place p (second_end g e) ≡ j → i ≢ j → some (size (contracted g q)) (has_ends (contracted g q) (m i) (m j)) ≡ true
    found e w i j a b d =
        let f = iso.there.edges e w (λ s. d (sym a ∙ s ∙ b)) in
        let wf : Within (size (contracted g q)) f.0 = let s = contracted-size g q in let z = f.1 in omega arith in
        let en = contracted-ends g q f.0 f.1 in
        let mi : place q (h (first_end g e)) ≡ m i = sym (move_place g is p q h k pp qp iso (first_end g e) (is e w).0) ∙ ap m a in
        let mj : place q (h (second_end g e)) ≡ m j = sym (move_place g is p q h k pp qp iso (second_end g e) (is e w).1) ∙ ap m b in
        true_some (size (contracted g q)) (has_ends (contracted g q) (m i) (m j)) f.0 wf (has_ends-from (contracted g q) (m i) (m j) f.0 (elim f.2 [
          | inl s ↦ inl (en.0 ∙ s.0 ∙ mi, en.1 ∙ s.1 ∙ mj)
          | inr s ↦ inr (en.0 ∙ s.0 ∙ mj, en.1 ∙ s.1 ∙ mi)
        ]))

module _ (g : Graph) (is : IsGraph g) (p q : List (List ℕ)) (h k : ℕ → ℕ) (pp : AreBlocks g.order p) (qp : AreBlocks g.order q) (iso : Isomorphism g p q h k) where
  abbrev pub moved : ℕ → ℕ
  moved = move g is p q h k pp qp iso

  abbrev pub moved_back : ℕ → ℕ
  moved_back = back g is p q h k pp qp iso

  same_back : (j : ℕ) → move g is q p k h qp pp (turned g p q h k iso) j ≡ moved_back j
  unfolding move back
  same_back j = refl

  -- adjacency of blocks is kept both ways
  pub image_edges : (i j : ℕ) → Within (length p) i → Within (length p) j → i ≢ j → some (size (contracted g p)) (has_ends (contracted g p) i j) ≡ some (size (contracted g q)) (has_ends (contracted g q) (moved i) (moved j))
  image_edges i j wi wj d = go (some (size (contracted g p)) (has_ends (contracted g p) i j)) refl (some (size (contracted g q)) (has_ends (contracted g q) (moved i) (moved j))) refl
    where
      over : some (size (contracted g p)) (has_ends (contracted g p) i j) ≡ true → some (size (contracted g q)) (has_ends (contracted g q) (moved i) (moved j)) ≡ true
      over t = edge_over g is p q h k pp qp iso i j d t

      again : (i : ℕ) → Within (length p) i → move g is q p k h qp pp (turned g p q h k iso) (moved i) ≡ i
      again i w = same_back (moved i) ∙ back_move g is p q h k pp qp iso i w

      under : some (size (contracted g q)) (has_ends (contracted g q) (moved i) (moved j)) ≡ true → some (size (contracted g p)) (has_ends (contracted g p) i j) ≡ true
      under t = subst₂ (λ x y. some (size (contracted g p)) (has_ends (contracted g p) x y) ≡ true) (again i wi) (again j wj)
          (edge_over g is q p k h qp pp (turned g p q h k iso) (moved i) (moved j) (λ s. d (sym (again i wi) ∙ ap (move g is q p k h qp pp (turned g p q h k iso)) s ∙ again j wj)) t)

      go : (s : Bool) → some (size (contracted g p)) (has_ends (contracted g p) i j) ≡ s → (r : Bool) → some (size (contracted g q)) (has_ends (contracted g q) (moved i) (moved j)) ≡ r → some (size (contracted g p)) (has_ends (contracted g p) i j) ≡ some (size (contracted g q)) (has_ends (contracted g q) (moved i) (moved j))
      go true s true r = s ∙ sym r
      go false s false r = s ∙ sym r
      go true s false r = absurd (both_ways _ r (over s))
      go false s true r = absurd (both_ways _ s (under r))

  pub alike : Alike (contracted g p) (contracted g q) moved
  unfolding contracted
  alike = record {
    order = sym (image_length g is p q h k pp qp iso);
    within = λ i w. move_in g is p q h k pp qp iso i w;
    apart = λ i j wi wj e. sym (back_move g is p q h k pp qp iso i wi) ∙ ap moved_back e ∙ back_move g is p q h k pp qp iso j wj;
    onto = λ j w. (moved_back j, back_in g is p q h k pp qp iso j w, move_back g is p q h k pp qp iso j w);
    edges = λ i j wi wj d. image_edges i j wi wj d;
  }

-- a shore whose image is tight is tight
pub tight_image : (g : Graph) (is : IsGraph g) (p q : List (List ℕ)) (h k : ℕ → ℕ) (pp : AreBlocks g.order p) (qp : AreBlocks g.order q) (iso : Isomorphism g p q h k) (x : Set) → IsUnion g.order p x → IsTightAt g q (pre k x) → IsTightAt g p x
unfolding contracted
tight_image g is p q h k pp qp iso x u t = record {
  union = u;
  tight = record {
    odd = ap is_odd (image_number g is p q h k pp qp iso x u) ∙ t.tight.odd;
    odd_complement = ap is_odd (image_rest g is p q h k pp qp iso x u) ∙ t.tight.odd_complement;
    cut = cut_congr (contracted g p) _ _ (contracted-graph g p is pp) (λ i w. block_of i w)
        (tight_back (contracted g p) (contracted g q) (moved g is p q h k pp qp iso) (contracted-graph g p is pp) (alike g is p q h k pp qp iso) (blocks_in q (pre k x)) t.tight.cut);
  };
}
  where
    block_of : (i : ℕ) → Within (contracted g p).order i → blocks_in q (pre k x) (move g is p q h k pp qp iso i) ≡ blocks_in p x i
    block_of i w = image_block g is p q h k pp qp iso x u i w

module _ (g : Graph) (is : IsGraph g) (p q : List (List ℕ)) (h k : ℕ → ℕ) (pp : AreBlocks g.order p) (qp : AreBlocks g.order q) (iso : Isomorphism g p q h k) where
  -- tight shores correspond
  pub image_tight : (x : Set) → IsTightAt g p x → IsTightAt g q (pre k x)
  image_tight x t =
      let u = image_union g is p q h k pp qp iso x t.union in
      tight_image g is q p k h qp pp (turned g p q h k iso) (pre k x) u
      (tight_congr g is p pp x (pre h (pre k x)) (λ v w. sym (image_at g is p q h k pp qp iso x t.union v w)) t)

  -- and nontrivial ones
  pub image_nontrivial : (x : Set) → IsUnion g.order p x → IsNontrivial (length p) (blocks_in p x) → IsNontrivial (length q) (blocks_in q (pre k x))
  image_nontrivial x u t =
      let a = image_number g is p q h k pp qp iso x u in
      let b = image_rest g is p q h k pp qp iso x u in
      let i = t.inside in let o = t.outside in
      record { inside = omega arith; outside = omega arith }

  pub nontrivial_image : (x : Set) → IsUnion g.order p x → IsNontrivial (length q) (blocks_in q (pre k x)) → IsNontrivial (length p) (blocks_in p x)
  nontrivial_image x u t = grind (arith, image_number, image_rest)
