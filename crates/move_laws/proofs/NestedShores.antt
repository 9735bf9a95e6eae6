-- Exposing a shore that is nested with the root shore or disjoint from it: it is exposed in the
-- child that contains it, and Rotate brings it above the root shore.
use Rattle.move_laws.specs.Common.{AreRising, IsProperScript}
use Rattle.graph_core.proofs.from_counting.Common.{Bool, List, None, Some, [], ap, arith, cond, false, if◌then◌else◌, inl, inr, length, map, not, refl, subst, suc, sym, true, zero, ℕ, ◌&&◌, ◌*◌, ◌++◌, ◌+◌, ◌∙◌, ◌∷◌, ◌≡◌, ◌≤◌, ◌⊎◌, and_parts, both_ways, cases_Bool, not-true, odd-add, same_rising_list, true_all_in, all_in_true, some_none, some_true, same_tests, Within, is_odd, is_apart, is_subset, mem, Set, everything, meet, minus, some}
use Rattle.graph_core.proofs.Common.{block_count_some, union_minus, mem-complement_of, Apart, Below, tight_down_merged, Graph, complement_of, contracted, merged, block_count}
use Rattle.tree_core.proofs.Common.{IsDerivationAt, IsLeafAt, kept_at, merged_at, PlainMove, below, rotate_at, rotate_result_at, Shape, cut, cut_count, leaf}
use Rattle.tree_core.specs.declared.path.Side.TheVariants.{Kept, Merged}
use Rattle.move_laws.proofs.BigShores.{Big, Stage, big_cut, big_rest, big_some, closed_y, cut_big, gap, gap_is, rest_after, rest_rest, same_number, stage_merged}
use Rattle.move_laws.proofs.Rising.{bounds}
use Rattle.move_laws.proofs.Scripts.{length_below, length_join, script_end, script_join, script_kept, script_merged, script_rotate}

abbrev pub Exposed : Graph → List (List ℕ) → Shape → List ℕ → Type 0
Exposed g p t y = (ms : List PlainMove) × (a : Shape) × (b : Shape) × IsProperScript g p t ms (cut y a b) × (length ms + 2 ≤ 3 * cut_count t)

abbrev pub Exposes : Graph → Shape → Type 0
Exposes g t = (p : List (List ℕ)) (y : List ℕ) → Stage g p → AreRising g.order t → IsDerivationAt g p t → Big g p y → mem y g.order ≡ false → Exposed g p t y

-- a big shore apart from x stays big when x is merged, if something is outside both
pub stays_big : (g : Graph) (p : List (List ℕ)) (st : Stage g p) (x y : List ℕ) → Big g p x → Big g p y → Apart g.order (mem x) (mem y) → ((w : ℕ) × Within g.order w × (mem x w ≡ false) × (mem y w ≡ false)) → Big g (merged p x) y
unfolding gap contracted
stays_big g p st x y bx by a out =
    let u = closed_y g p st x y bx by.tight.union a in
    let t = tight_down_merged g st.graph p x st.list.partition bx.tight (big_some g p st x bx) (bounds bx.shore) st.covered (mem y) by.tight u in
    let n = same_number g p st x y bx by.tight.union a in
    let ra = rest_after g p st x y bx by.tight.union a in
    let gi = gap_is g p st x y bx by.tight.union a in
    let ry = big_rest g p st y by in
    let pos = block_count_some g.order p st.list.partition (minus (mem (complement_of g.order y)) (mem x)) (union_minus g.order p st.list.partition (mem (complement_of g.order y)) (mem x) ry.tight.union bx.tight.union) out.0 out.1 (outside (mem (complement_of g.order y) out.0) (mem x out.0) (mem-complement_of g.order y out.0 out.1 ∙ ap not out.3) out.2) in
    let even : is_odd (gap g.order p x y) ≡ false = parity (is_odd (block_count p (mem x))) (is_odd (gap g.order p x y)) bx.tight.tight.odd (sym (odd-add (block_count p (mem x)) (gap g.order p x y)) ∙ ap is_odd (sym gi) ∙ ry.tight.tight.odd) in
    let two = at_least_two (gap g.order p x y) pos even in
    let i = by.inside in
    record { shore = by.shore; tight = t; inside = omega arith; outside = omega arith }
  where
    outside : (r x : Bool) → r ≡ true → x ≡ false → (r && not x) ≡ true
    outside r x h k = grind arith

    parity : (a b : Bool) → a ≡ true → cond a (not b) b ≡ true → b ≡ false
    parity a b h k = grind arith

    at_least_two : (k : ℕ) → 1 ≤ k → is_odd k ≡ false → 2 ≤ k
    at_least_two zero h e = absurd (omega arith)
    at_least_two (suc zero) h e = absurd (both_ways true e refl)
    at_least_two (suc (suc k)) h e = omega arith

module _ (g : Graph) (p : List (List ℕ)) (st : Stage g p) (x : List ℕ) (a b : Shape) (f : AreRising g.order (cut x a b)) (d : IsDerivationAt g p (cut x a b)) (y : List ℕ) (canonical : mem y g.order ≡ false) where
  bx : Big g p x
  bx = cut_big g p st x f.0 d.0

  -- y is in the child `kept`
  pub in_kept : Exposes g a → Big g (kept_at g.order p x) y → Exposed g p (cut x a b) y
  in_kept ih by =
      let e = ih (kept_at g.order p x) y (stage_merged g p st (complement_of g.order x) (big_rest g p st x bx)) f.1 d.1 by canonical in
      let w = script_kept g p x a b e.0 (cut y e.1 e.2) d f e.3 in
      let q = script_end g p (cut x a b) (map (below Kept) e.0) (cut x (cut y e.1 e.2) b) d f w in
      let r = script_rotate g p Kept (cut x (cut y e.1 e.2) b) (cut y e.1 (cut x e.2 b)) st q.0 q.1 refl in
      let l = length_join (map (below Kept) e.0) (rotate_at (Kept ∷ []) ∷ []) in let k = length_below Kept e.0 in let z = e.4 in
      (map (below Kept) e.0 ++ rotate_at (Kept ∷ []) ∷ [], e.1, cut x e.2 b, script_join g p (cut x a b) (map (below Kept) e.0) (rotate_at (Kept ∷ []) ∷ []) (cut x (cut y e.1 e.2) b) (cut y e.1 (cut x e.2 b)) w r, omega arith)

  -- Rotate below `merged` has a result
  pub raised : (c d : Shape) → Below g.order (mem x) (mem y) ⊎ Apart g.order (mem x) (mem y) → (c' : Shape) × (d' : Shape) × (rotate_result_at Merged (cut x a (cut y c d)) ≡ Some (cut y c' d'))
  raised c d (inl h) = (cut x a c, d, ap (λ k. if k then Some (cut y (cut x a c) d) else (if is_apart x y then Some (cut y c (cut x a d)) else None)) (true_all_in x (mem y) (λ v m. h v ((bounds bx.shore) v m) m)))
  raised c d (inr h) = (
    c,
    cut x a d,
    ap (λ k. if k then Some (cut y (cut x a c) d) else (if is_apart x y then Some (cut y c (cut x a d)) else None)) none_in
        ∙ ap (λ k. if k then Some (cut y c (cut x a d)) else None) (true_all_in x (minus everything (mem y)) (λ v m. ap (λ k. true && not k) (h v ((bounds bx.shore) v m) m))),
  )
    where
      none_in : is_subset x y ≡ false
      none_in = let s = big_some g p st x bx in elim (cases_Bool (is_subset x y)) [ inr z ↦ z | inl z ↦ absurd (both_ways (mem y s.0) (h s.0 s.1 s.2) (all_in_true x (mem y) z s.0 s.2)) ]

  pub in_merged : Exposes g b → Big g (merged_at g.order p x) y → Below g.order (mem x) (mem y) ⊎ Apart g.order (mem x) (mem y) → Exposed g p (cut x a b) y
  in_merged ih by how =
      let e = ih (merged_at g.order p x) y (stage_merged g p st x bx) f.2 d.2 by canonical in
      let w = script_merged g p x a b e.0 (cut y e.1 e.2) d f e.3 in
      let q = script_end g p (cut x a b) (map (below Merged) e.0) (cut x a (cut y e.1 e.2)) d f w in
      let s = raised e.1 e.2 how in
      let r = script_rotate g p Merged (cut x a (cut y e.1 e.2)) (cut y s.0 s.1) st q.0 q.1 s.2 in
      let l = length_join (map (below Merged) e.0) (rotate_at (Merged ∷ []) ∷ []) in let k = length_below Merged e.0 in let z = e.4 in
      (map (below Merged) e.0 ++ rotate_at (Merged ∷ []) ∷ [], s.0, s.1, script_join g p (cut x a b) (map (below Merged) e.0) (rotate_at (Merged ∷ []) ∷ []) (cut x a (cut y e.1 e.2)) (cut y s.0 s.1) w r, omega arith)

-- x and y cross
pub record Cross (n : ℕ) (x y : Set) : Type 0 where
  pub meet : (w : ℕ) × Within n w × (x w ≡ true) × (y w ≡ true)
  pub left : (w : ℕ) × Within n w × (x w ≡ true) × (y w ≡ false)
  pub right : (w : ℕ) × Within n w × (x w ≡ false) × (y w ≡ true)

-- what is still asked for: the arm where the two cross
abbrev pub Crossed : Graph → Type 0
Crossed g = (p : List (List ℕ)) (st : Stage g p) (x : List ℕ) (a b : Shape) → AreRising g.order (cut x a b) → IsDerivationAt g p (cut x a b) → (y : List ℕ) → Big g p y → mem y g.order ≡ false → Cross g.order (mem x) (mem y) → Exposes g a → Exposes g b → Exposed g p (cut x a b) y

expose_node : (g : Graph) → Crossed g → (x : List ℕ) (a b : Shape) → Exposes g a → Exposes g b → Exposes g (cut x a b)
expose_node g crossed x a b ia ib p y st f d by ny =
    go (some g.order (minus (mem x) (mem y))) refl (some g.order (minus (mem y) (mem x))) refl
  where
    bx : Big g p x
    bx = cut_big g p st x f.0 d.0

    last : Within g.order g.order
    last = let z = big_some g p st x bx in let w = z.1 in (omega arith, omega arith)

    rx : Big g p (complement_of g.order x)
    rx = big_rest g p st x bx

    ry : Big g p (complement_of g.order y)
    ry = big_rest g p st y by

    left : some g.order (minus (mem x) (mem y)) ≡ true → (w : ℕ) × Within g.order w × (mem x w ≡ true) × (mem y w ≡ false)
    left h = let r = some_true g.order (minus (mem x) (mem y)) h in let q = and_parts (mem x r.0) (not (mem y r.0)) r.2 in (r.0, r.1, q.0, not-true (mem y r.0) q.1)

    right : some g.order (minus (mem y) (mem x)) ≡ true → (w : ℕ) × Within g.order w × (mem x w ≡ false) × (mem y w ≡ true)
    right h = let r = some_true g.order (minus (mem y) (mem x)) h in let q = and_parts (mem y r.0) (not (mem x r.0)) r.2 in (r.0, r.1, not-true (mem x r.0) q.1, q.0)

    no_left : some g.order (minus (mem x) (mem y)) ≡ false → Below g.order (mem x) (mem y)
    no_left h w ww t = implied (mem x w) (mem y w) (some_none g.order (minus (mem x) (mem y)) h w ww) t
      where
        implied : (a b : Bool) → (a && not b) ≡ false → a ≡ true → b ≡ true
        implied a b h k = grind arith

    no_right : some g.order (minus (mem y) (mem x)) ≡ false → Below g.order (mem y) (mem x)
    no_right h w ww t = implied (mem y w) (mem x w) (some_none g.order (minus (mem y) (mem x)) h w ww) t
      where
        implied : (a b : Bool) → (a && not b) ≡ false → a ≡ true → b ≡ true
        implied a b h k = grind arith

    false_of : (a b : Bool) → (b ≡ true → a ≡ true) → a ≡ false → b ≡ false
    false_of a b h k = grind arith

    false_and : (a b : Bool) → (a && b) ≡ false → a ≡ true → b ≡ false
    false_and a b h k = grind arith

    go : (l : Bool) → some g.order (minus (mem x) (mem y)) ≡ l → (r : Bool) → some g.order (minus (mem y) (mem x)) ≡ r → Exposed g p (cut x a b) y
    go false hl false hr = ([], a, b, ap (λ z. cut z a b) (same_rising_list g.order x y f.0 by.shore (λ w ww. same_tests (mem x w) (mem y w) (no_left hl w ww) (no_right hr w ww))), omega arith)
    go true hl false hr =
        let o = left hl in
        in_kept g p st x a b f d y ny ia (stays_big g p st (complement_of g.order x) y rx by
        (λ w ww h. false_of (mem x w) (mem y w) (no_right hr w ww) (not-true (mem x w) (sym (mem-complement_of g.order x w ww) ∙ h)))
        (o.0, o.1, mem-complement_of g.order x o.0 o.1 ∙ ap not o.2, o.3))
    go false hl true hr =
        let o = right hr in
        let big = stays_big g p st x (complement_of g.order y) bx ry (λ w ww h. mem-complement_of g.order y w ww ∙ ap not (no_left hl w ww h)) (o.0, o.1, o.2, mem-complement_of g.order y o.0 o.1 ∙ ap not o.3) in
        in_merged g p st x a b f d y ny ib (subst (Big g (merged p x)) (rest_rest g.order y by.shore) (big_rest g (merged p x) (stage_merged g p st x bx) (complement_of g.order y) big)) (inl (no_left hl))
    go true hl true hr = meeting (some g.order (meet (mem x) (mem y))) refl
      where
        meeting : (m : Bool) → some g.order (meet (mem x) (mem y)) ≡ m → Exposed g p (cut x a b) y
        meeting false hm =
            let away : Apart g.order (mem x) (mem y) = λ w ww t. false_and (mem x w) (mem y w) (some_none g.order (meet (mem x) (mem y)) hm w ww) t in
            in_merged g p st x a b f d y ny ib (stays_big g p st x y bx by away (g.order, last, d.0.canonical, ny)) (inr away)
        meeting true hm =
            let r = some_true g.order (meet (mem x) (mem y)) hm in let q = and_parts (mem x r.0) (mem y r.0) r.2 in
            crossed p st x a b f d y by ny (record { meet = (r.0, r.1, q.0, q.1); left = left hl; right = right hr }) ia ib

-- a leaf has no big shore
pub leaf_not : (g : Graph) (p : List (List ℕ)) (y : List ℕ) → Stage g p → IsDerivationAt g p leaf → Big g p y → mem y g.order ≡ false → ⊥
unfolding IsLeafAt
leaf_not g p y st d by ny = let c = big_cut g p st y by ny in d (mem y) c.tight c.nontrivial

pub expose : (g : Graph) → Crossed g → (t : Shape) → Exposes g t
expose g crossed leaf p y st f d by ny = absurd (leaf_not g p y st d by ny)
expose g crossed (cut x a b) p y st f d by ny = expose_node g crossed x a b (expose g crossed a) (expose g crossed b) p y st f d by ny

-- two derivations at one partition
abbrev pub Compared : Graph → List (List ℕ) → Shape → Shape → Type 0
Compared g p s t = (ms : List PlainMove) × IsProperScript g p s ms t × (length ms ≤ 5 * (cut_count s * cut_count s))
