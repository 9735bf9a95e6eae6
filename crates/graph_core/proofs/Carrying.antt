-- A perfect matching goes over along a map of vertices and a choice of edges, and so do the edges
-- in a cut. Sums over the images are sums over the originals.
use Rattle.vset_core.proofs.from_counting.Common.{◌≡◌, ℕ, ◌+◌, ◌*◌, ◌≤◌, ◌≢◌, Bool, true, false, ◌==◌, refl, sym, ap, ap₂, ◌∙◌, arith, ◌&&◌, ◌||◌, not, eq-eqb, ne_eqb, eqb-true, inl, inr, mul_comm, cases_eq, and_parts, true≢false, bit-and, count_le_one, some_le_count, some_none, total_at, total_congr, total_mul, total_none, total_swap, Within, bit, count, total, Set, none, some}
use Rattle.graph_core.proofs.Edits.{degree_sum, ends_le_degree, ends_of, ends_of_is, two_ends_le_degree}
use Rattle.graph_core.specs.Common.{Graph, IsGraph, degree, first_end, in_cut, inside, second_end, size, HasEnds, IsPerfect}

-- the numbers that pick makes of those in m
unfoldable pub image : ℕ → Set → (ℕ → ℕ) → Set
image k m pick i = some k (λ e. m e && (pick e == i))

-- a sum over an image without collisions is a sum over what it comes from
pub total_image : (k l : ℕ) (m : Set) (pick : ℕ → ℕ) (f : ℕ → ℕ) → ((e : ℕ) → Within k e → m e ≡ true → Within l (pick e)) → ((d e : ℕ) → Within k d → Within k e → m d ≡ true → m e ≡ true → pick d ≡ pick e → d ≡ e) →
    total l (λ i. bit (image k m pick i) * f i) ≡ total k (λ e. bit (m e) * f (pick e))
unfolding image
total_image k l m pick f inside apart =
    total_congr l _ _ (λ i w. ap (λ c. c * f i) (hits_once i) ∙ spread i)
    ∙ total_swap l k (λ i e. bit (m e && (pick e == i)) * f i)
    ∙ total_congr k _ _ (λ e w. each e w (m e) refl)
  where
    hits_once : (i : ℕ) → bit (some k (λ e. m e && (pick e == i))) ≡ count k (λ e. m e && (pick e == i))
    hits_once i = let a = some_le_count k (λ e. m e && (pick e == i)) in
        let b = count_le_one k (λ e. m e && (pick e == i)) (λ d e wd we l pd pe.
        let x = and_parts (m d) (pick d == i) pd in let y = and_parts (m e) (pick e == i) pe in
        let z = apart d e wd we x.0 y.0 (eqb-true (pick d) i x.1 ∙ sym (eqb-true (pick e) i y.1)) in absurd (omega arith)) in
        up (some k (λ e. m e && (pick e == i))) refl a b
      where
        up : (s : Bool) → some k (λ e. m e && (pick e == i)) ≡ s → bit (some k (λ e. m e && (pick e == i))) ≤ count k (λ e. m e && (pick e == i)) → count k (λ e. m e && (pick e == i)) ≤ 1 → bit (some k (λ e. m e && (pick e == i))) ≡ count k (λ e. m e && (pick e == i))
        up true q a b = let c = ap bit q in omega arith
        up false q a b = ap bit q ∙ sym (total_none k _ (λ e w. ap bit (some_none k (λ e. m e && (pick e == i)) q e w)))

    spread : (i : ℕ) → count k (λ e. m e && (pick e == i)) * f i ≡ total k (λ e. bit (m e && (pick e == i)) * f i)
    spread i = mul_comm (count k (λ e. m e && (pick e == i))) (f i) ∙ sym (total_mul k (f i) (λ e. bit (m e && (pick e == i)))) ∙ total_congr k _ _ (λ e w. mul_comm (f i) (bit (m e && (pick e == i))))

    each : (e : ℕ) → Within k e → (b : Bool) → m e ≡ b → total l (λ i. bit (m e && (pick e == i)) * f i) ≡ bit b * f (pick e)
    each e w true t =
        total_at l (λ i. bit (m e && (pick e == i)) * f i) (pick e) (inside e w t) (λ i u d. rw (t, ne_eqb (pick e) i (λ q. d (sym q))) (omega arith)) ∙ rw (t, eq-eqb (pick e) (pick e) refl) refl
    each e w false t = total_none l _ (λ i u. rw t (omega arith)) ∙ omega arith

-- h has an edge wherever g has one that is not a loop, at vertices that move says
module _ (g h : Graph) (is_g : IsGraph g) (move pick : ℕ → ℕ)
    (apart : (u v : ℕ) → Within g.order u → Within g.order v → move u ≡ move v → u ≡ v)
    (onto : (w : ℕ) → Within h.order w → (v : ℕ) × Within g.order v × (move v ≡ w))
    (in_h : (e : ℕ) → Within (size g) e → first_end g e ≢ second_end g e → Within (size h) (pick e) × HasEnds h (pick e) (move (first_end g e)) (move (second_end g e)))
    (m : Set) (perfect : IsPerfect g none m) where
  pub no_loop : (e : ℕ) → Within (size g) e → m e ≡ true → first_end g e ≢ second_end g e
  no_loop e w t l = let a = ends_le_degree g m e (first_end g e) w t in let b = ends_of_is g e (first_end g e) (second_end g e) (inl (refl, refl)) (first_end g e) in
      let c = ap bit (eq-eqb (first_end g e) (first_end g e) refl) in let d = ap bit (eq-eqb (second_end g e) (first_end g e) (sym l)) in let o = perfect.once (first_end g e) (is_g e w).0 refl in absurd (omega arith)

  same_bit : (u v : ℕ) → Within g.order u → Within g.order v → bit (move u == move v) ≡ bit (u == v)
  same_bit u v wu wv = grind arith

  moved_ends : (e : ℕ) → Within (size g) e → m e ≡ true → (v : ℕ) → Within g.order v → ends_of h (pick e) (move v) ≡ ends_of g e v
  moved_ends e w t v wv =
      let i = in_h e w (no_loop e w t) in
      ends_of_is h (pick e) (move (first_end g e)) (move (second_end g e)) i.1 (move v) ∙ ap₂ ◌+◌ (same_bit (first_end g e) v (is_g e w).0 wv) (same_bit (second_end g e) v (is_g e w).1 wv) ∙ sym (ends_of_is g e (first_end g e) (second_end g e) (inl (refl, refl)) v)

  pick_apart : (d e : ℕ) → Within (size g) d → Within (size g) e → m d ≡ true → m e ≡ true → pick d ≡ pick e → d ≡ e
  pick_apart d e wd we td te q = grind (arith, cases_eq d e, two_ends_le_degree g m d e, moved_ends d wd td, moved_ends e we te, ends_of h, ends_of_is g d (first_end g d) (second_end g d), eq-eqb)

  unfoldable pub carried_set : Set
  carried_set = image (size g) m pick

  over : (f : ℕ → ℕ) → total (size h) (λ i. bit (carried_set i) * f i) ≡ total (size g) (λ e. bit (m e) * f (pick e))
  unfolding carried_set
  over f = total_image (size g) (size h) m pick f (λ e w t. (in_h e w (no_loop e w t)).0) pick_apart

  -- a perfect matching is carried to a perfect matching
  pub perfect_carried : IsPerfect h none carried_set
  perfect_carried = record {
    once = λ w ww o. let r = onto w ww in ap (degree h carried_set) (sym r.2) ∙ at_moved r.0 r.1;
    away = λ w ww o. absurd (true≢false (sym o));
  }
    where
      at_moved : (v : ℕ) → Within g.order v → degree h carried_set (move v) ≡ 1
      at_moved v wv = degree_sum h carried_set (move v) ∙ over (λ i. ends_of h i (move v)) ∙ total_congr (size g) _ _ (λ e w. grind (arith, moved_ends)) ∙ sym (degree_sum g m v) ∙ perfect.once v wv refl

  -- and its cuts are those of the sets that move leads into
  pub cut_carried : (y : Set) → count (size h) (λ i. carried_set i && in_cut h y i) ≡ count (size g) (λ e. m e && in_cut g (λ v. y (move v)) e)
  cut_carried y = total_congr (size h) _ _ (λ i w. bit-and (carried_set i) (in_cut h y i)) ∙ over (λ i. bit (in_cut h y i)) ∙ total_congr (size g) _ _ (λ e w. go e w (m e) refl)
    where
      go : (e : ℕ) → Within (size g) e → (b : Bool) → m e ≡ b → bit (m e) * bit (in_cut h y (pick e)) ≡ bit (m e && in_cut g (λ v. y (move v)) e)
      go e w false t = rw t (omega arith)
      go e w true t = rw t (elim (in_h e w (no_loop e w t)).1 [
        | inl p ↦ ap₂ (λ a b. 1 * bit ((y a && not (y b)) || (not (y a) && y b))) p.0 p.1 ∙ omega arith
        | inr p ↦ ap₂ (λ a b. 1 * bit ((y a && not (y b)) || (not (y a) && y b))) p.0 p.1 ∙ (grind arith)
      ])
