-- The exchange of two blocks between two sides of a partition into four regions: the merged
-- partitions are the same leaf. The hard pair of blocks is settled by parity, all others by cases
-- on the regions.
use Rattle.graph_core.proofs.from_counting.Common.{Bool, List, ap, ap₂, arith, cond, false, inl, inr, refl, sym, true, ℕ, ◌&&◌, ◌+◌, ◌||◌, ◌∙◌, ◌≡◌, ◌≢◌, and_parts, cases_Bool, or_cases, or_fails_first, Within, bit, is_odd, Set, union}
use Rattle.graph_core.proofs.Common.{union_join, alike_down, alike_in, alike_up, same_side, IsCovered, Graph, IsGraph, first_end, second_end, size, AreBlocks, IsMerge, contracted, place, IsUnion, block_count}
use Rattle.move_laws.proofs.FourRegions.{FourRegions, Link, hard_pair}
use Rattle.move_laws.specs.Common.{EndsAt, Isomorphism, OneWay}

-- one way of the exchange
exchange_over : (g : Graph) (is : IsGraph g) (p r q : List (List ℕ)) (a u b v : Set) (s t : ℕ) → AreBlocks g.order p → (four : FourRegions g p a u b v s t) → IsMerge g.order p (union b v) r → IsMerge g.order p (union b u) q →
    (Link g u b → Link g v b) → OneWay g r q (λ w. cond (b w) t w) (λ w. cond (b w) s w)
exchange_over g is p r q a u b v s t pp four mr mq link = record {
  within = λ w ww. pick w ww (b w);
  blocks = λ w x ww wx e. alike w x ww wx e (b w || v w) refl;
  again = λ w ww. returns w ww (b w) refl;
  edges = λ e w d. over e w d (b (first_end g e)) refl (b (second_end g e)) refl;
}
  where
    ur : IsUnion g.order p (union b v)
    ur = union_join g.order p pp b v four.second four.right.closed

    uq : IsUnion g.order p (union b u)
    uq = union_join g.order p pp b u four.second four.left.closed

    pick : (w : ℕ) → Within g.order w → (k : Bool) → Within g.order (cond k t w)
    pick w ww true = four.right.within
    pick w ww false = ww

    off : (a u b v : Bool) → bit a + bit u + bit b + bit v ≡ 1 → v ≡ true → b ≡ false
    off a u b v h i = grind arith

    b_t : b t ≡ false
    b_t = off (a t) (u t) (b t) (v t) (four.once t four.right.within) four.right.holds

    or_b : (w : ℕ) → (k : Bool) → b w ≡ k → v w ≡ true → (b w || v w) ≡ true
    or_b w true e h = ap (λ z. z || v w) e
    or_b w false e h = ap₂ ◌||◌ e h

    -- where w is in Q ∪ v, h w is in v
    lands : (w : ℕ) → Within g.order w → (b w || v w) ≡ true → (k : Bool) → b w ≡ k → place p (cond k t w) ≡ place p t
    lands w ww h true e = refl
    lands w ww h false e = four.right.one w ww (sym (ap (λ z. z || v w) e) ∙ h)

    alike : (w x : ℕ) → Within g.order w → Within g.order x → place r w ≡ place r x → (k : Bool) → (b w || v w) ≡ k → place q (cond (b w) t w) ≡ place q (cond (b x) t x)
    alike w x ww wx e true h =
        let hx = sym (same_side g.order p r (union b v) pp ur mr w x ww wx e) ∙ h in
        alike_up g.order p q (union b u) pp uq mq (cond (b w) t w) (cond (b x) t x) (pick w ww (b w)) (pick x wx (b x)) (lands w ww h (b w) refl ∙ sym (lands x wx hx (b x) refl))
    alike w x ww wx e false h =
        let hx = sym (same_side g.order p r (union b v) pp ur mr w x ww wx e) ∙ h in
        ap (λ k. place q (cond k t w)) (or_fails_first (b w) (v w) h) ∙ alike_up g.order p q (union b u) pp uq mq w x ww wx (alike_down g.order p r (union b v) pp ur mr w x ww wx h e) ∙ sym (ap (λ k. place q (cond k t x)) (or_fails_first (b x) (v x) hx))

    returns : (w : ℕ) → Within g.order w → (k : Bool) → b w ≡ k → place r (cond (b (cond (b w) t w)) s (cond (b w) t w)) ≡ place r w
    returns w ww true e =
        ap (λ k. place r (cond (b (cond k t w)) s (cond k t w))) e ∙ ap (λ k. place r (cond k s t)) b_t
        ∙ alike_in g.order p r (union b v) pp ur mr t w four.right.within ww (or_b t false b_t four.right.holds) (ap (λ k. k || v w) e)
    returns w ww false e = ap (λ k. place r (cond (b (cond k t w)) s (cond k t w))) e ∙ ap (λ k. place r (cond k s w)) e

    third : (a u b v : Bool) → bit a + bit u + bit b + bit v ≡ 1 → a ≡ false → b ≡ false → v ≡ false → u ≡ true
    third a u b v h i k l = grind arith

    -- an edge between b, at x, and y outside
    found : (x y : ℕ) → Within g.order x → Within g.order y → b x ≡ true → b y ≡ false → v y ≡ false → a y ≡ false → (u y ≡ true → Link g u b) →
        (f : ℕ) × Within (size g) f × EndsAt g q f (place q (cond (b x) t x)) (place q (cond (b y) t y))
    found x y wx wy bx by vy ay mk =
        let uy = third (a y) (u y) (b y) (v y) (four.once y wy) ay by vy in
        let f = link (mk uy) in
        let wf = is f.0 f.1 in
        let hx : place q (cond (b x) t x) ≡ place q t = ap (λ k. place q (cond k t x)) bx in
        let hy : place q (cond (b y) t y) ≡ place q y = ap (λ k. place q (cond k t y)) by in
        let at_t : (c : ℕ) → Within g.order c → v c ≡ true → place q c ≡ place q t = λ c wc h. alike_up g.order p q (union b u) pp uq mq c t wc four.right.within (four.right.one c wc h) in
        let at_y : (c : ℕ) → Within g.order c → b c ≡ true → place q c ≡ place q y = λ c wc h. alike_in g.order p q (union b u) pp uq mq c y wc wy (ap (λ z. z || u c) h) (ap₂ ◌||◌ by uy) in (
          f.0,
          f.1,
          elim (or_cases (v (first_end g f.0) && b (second_end g f.0)) (b (first_end g f.0) && v (second_end g f.0)) f.2) [
            | inl k ↦ let k2 = and_parts (v (first_end g f.0)) (b (second_end g f.0)) k in inl (at_t (first_end g f.0) wf.0 k2.0 ∙ sym hx, at_y (second_end g f.0) wf.1 k2.1 ∙ sym hy)
            | inr k ↦ let k2 = and_parts (b (first_end g f.0)) (v (second_end g f.0)) k in inr (at_y (first_end g f.0) wf.0 k2.0 ∙ sym hy, at_t (second_end g f.0) wf.1 k2.1 ∙ sym hx)
          ],
        )

    over : (e : ℕ) → Within (size g) e → place r (first_end g e) ≢ place r (second_end g e) → (k : Bool) → b (first_end g e) ≡ k → (l : Bool) → b (second_end g e) ≡ l →
        (f : ℕ) × Within (size g) f × EndsAt g q f (place q (cond (b (first_end g e)) t (first_end g e))) (place q (cond (b (second_end g e)) t (second_end g e)))
    over e w d false bn false bf = (e, w, inl (sym (ap (λ k. place q (cond k t (first_end g e))) bn), sym (ap (λ k. place q (cond k t (second_end g e))) bf)))
    over e w d true bn true bf = absurd (d (alike_in g.order p r (union b v) pp ur mr (first_end g e) (second_end g e) (is e w).0 (is e w).1 (ap (λ z. z || v (first_end g e)) bn) (ap (λ z. z || v (second_end g e)) bf)))
    over e w d true bn false bf =
        let vy : v (second_end g e) ≡ false = elim (cases_Bool (v (second_end g e))) [ inr h ↦ h | inl h ↦ absurd (d (alike_in g.order p r (union b v) pp ur mr (first_end g e) (second_end g e) (is e w).0 (is e w).1 (ap (λ z. z || v (first_end g e)) bn) (or_b (second_end g e) false bf h))) ] in
        let ay : a (second_end g e) ≡ false = no_a (a (first_end g e)) (b (second_end g e)) (b (first_end g e)) (a (second_end g e)) bn (four.parted e w) in
        found (first_end g e) (second_end g e) (is e w).0 (is e w).1 bn bf vy ay (λ h. (e, w, joins_from (u (first_end g e)) (b (second_end g e)) (b (first_end g e)) (u (second_end g e)) bn h))
      where
        no_a : (an bf bn af : Bool) → bn ≡ true → ((an && bf) || (bn && af)) ≡ false → af ≡ false
        no_a an bf bn af h k = grind arith

        joins_from : (un bf bn uf : Bool) → bn ≡ true → uf ≡ true → ((un && bf) || (bn && uf)) ≡ true
        joins_from un bf bn uf h k = grind arith
    over e w d false bn true bf =
        let vy : v (first_end g e) ≡ false = elim (cases_Bool (v (first_end g e))) [ inr h ↦ h | inl h ↦ absurd (d (alike_in g.order p r (union b v) pp ur mr (first_end g e) (second_end g e) (is e w).0 (is e w).1 (or_b (first_end g e) false bn h) (ap (λ z. z || v (second_end g e)) bf))) ] in
        let ay : a (first_end g e) ≡ false = no_a (a (first_end g e)) (b (second_end g e)) (b (first_end g e)) (a (second_end g e)) bf (four.parted e w) in
        let f = found (second_end g e) (first_end g e) (is e w).1 (is e w).0 bf bn vy ay (λ h. (e, w, joins_from (u (first_end g e)) (b (second_end g e)) (b (first_end g e)) (u (second_end g e)) bf h)) in
        (f.0, f.1, elim f.2 [ inl z ↦ inr z | inr z ↦ inl z ])
      where
        no_a : (an bf bn af : Bool) → bf ≡ true → ((an && bf) || (bn && af)) ≡ false → an ≡ false
        no_a an bf bn af h k = grind arith

        joins_from : (un bf bn uf : Bool) → bf ≡ true → un ≡ true → ((un && bf) || (bn && uf)) ≡ true
        joins_from un bf bn uf h k = grind arith

-- the regions with u and v exchanged
pub four_back : (g : Graph) (p : List (List ℕ)) (a u b v : Set) (s t : ℕ) → FourRegions g p a u b v s t → FourRegions g p a v b u t s
four_back g p a u b v s t four = record { first = four.first; second = four.second; left = four.right; right = four.left; once = λ w ww. let o = four.once w ww in omega arith; parted = four.parted }

-- with a and b, and u and v, exchanged
pub four_turned : (g : Graph) (p : List (List ℕ)) (a u b v : Set) (s t : ℕ) → FourRegions g p a u b v s t → FourRegions g p b v a u t s
four_turned g p a u b v s t four = record {
  first = four.second;
  second = four.first;
  left = four.right;
  right = four.left;
  once = λ w ww. let o = four.once w ww in omega arith;
  parted = λ e w. turn (a (first_end g e)) (b (second_end g e)) (b (first_end g e)) (a (second_end g e)) (four.parted e w);
}
  where
    turn : (x y z w : Bool) → ((x && y) || (z && w)) ≡ false → ((z && w) || (x && y)) ≡ false
    turn x y z w h = grind arith

-- the exchange lemma
pub exchange : (g : Graph) (is : IsGraph g) (p r q : List (List ℕ)) (a u b v : Set) (s t : ℕ) → AreBlocks g.order p → IsCovered (contracted g p) → FourRegions g p a u b v s t → is_odd (block_count p b) ≡ false →
    IsMerge g.order p (union b v) r → IsMerge g.order p (union b u) q → Isomorphism g r q (λ w. cond (b w) t w) (λ w. cond (b w) s w)
exchange g is p r q a u b v s t pp cov four even mr mq = record {
  there = exchange_over g is p r q a u b v s t pp four mr mq (hard_pair g is p pp cov a u b v s t four even);
  back = exchange_over g is p q r a v b u t s pp (four_back g p a u b v s t four) mq mr (hard_pair g is p pp cov a v b u t s (four_back g p a u b v s t four) even);
}
