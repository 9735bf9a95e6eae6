-- A graph in which chosen edges are made loops at their first ends: the others keep their ends and
-- their numbers. A perfect matching of it has no loop, so it is a perfect matching of the graph
-- without the chosen edges. The list of ends is built edge by edge.
use Rattle.tree_check.proofs.from_counting.Common.{◌≡◌, ℕ, suc, zero, ◌+◌, ◌-◌, Bool, true, false, cond, ◌==◌, ◌&&◌, ◌||◌, not, List, [], ◌∷◌, ◌++◌, length, refl, sym, ap, ap₂, ◌∙◌, arith, inl, inr, cases_eq, get_or, get_or_append_left, get_or_push, length-append, count_congr, false_from_ne_true, Within, count, Set, none}
use Rattle.barrier_kit.proofs.Common.{loop_free}
use Rattle.graph_core.proofs.Common.{degree, first_end, in_cut, second_end, size, with_ends, Graph, IsGraph, IsPerfect}

-- the ends of edge e: the first one twice where e is chosen
abbrev ends_at : Graph → Set → ℕ → ℕ × ℕ
ends_at g f e = (first_end g e, cond (f e) (first_end g e) (second_end g e))

ends_up_to : Graph → Set → ℕ → List (ℕ × ℕ)
ends_up_to g f zero = []
ends_up_to g f (suc k) = ends_up_to g f k ++ ends_at g f (suc k) ∷ []

pub looped : Graph → Set → Graph
looped g f = with_ends g (ends_up_to g f (size g))

length-ends : (g : Graph) (f : Set) (k : ℕ) → length (ends_up_to g f k) ≡ k
unfolding ends_up_to
length-ends g f zero = refl
length-ends g f (suc k) = length-append (ends_up_to g f k) (ends_at g f (suc k) ∷ []) ∙ (let h = length-ends g f k in omega arith)

module _ (g : Graph) (f : Set) where
  pub looped_order : (looped g f).order ≡ g.order
  unfolding looped
  looped_order = refl

  pub looped_size : size (looped g f) ≡ size g
  unfolding looped
  looped_size = length-ends g f (size g)

  item_at : (k e : ℕ) → Within k e → get_or (ends_up_to g f k) (e - 1) (0, 0) ≡ ends_at g f e
  unfolding ends_up_to
  item_at zero e w = absurd (omega arith)
  item_at (suc k) e w = elim (cases_eq e (suc k)) [
    | inl q ↦ grind (arith, get_or_push (ends_up_to g f k) (ends_at g f (suc k)) (0, 0) (e - 1), length-ends g f k)
    | inr q ↦ get_or_append_left (ends_up_to g f k) (ends_at g f (suc k) ∷ []) (0, 0) (e - 1) (let l = length-ends g f k in omega arith) ∙ item_at k e (omega arith)
  ]

  pub looped_first : (e : ℕ) → Within (size g) e → first_end (looped g f) e ≡ first_end g e
  unfolding looped
  looped_first e w = ap (λ (p : ℕ × ℕ). p.0) (item_at (size g) e w)

  pub looped_second : (e : ℕ) → Within (size g) e → second_end (looped g f) e ≡ cond (f e) (first_end g e) (second_end g e)
  unfolding looped
  looped_second e w = ap (λ (p : ℕ × ℕ). p.1) (item_at (size g) e w)

  within : (e : ℕ) → Within (size (looped g f)) e → Within (size g) e
  within e w = let s = looped_size in omega arith

  pub looped_graph : IsGraph g → IsGraph (looped g f)
  looped_graph is e w =
      let o = looped_order in
      let v = within e w in
      let a = looped_first e v in
      let b = looped_second e v in
      let i = is e v in
      let s : Within g.order (cond (f e) (first_end g e) (second_end g e)) = either (f e) (first_end g e) (second_end g e) i.0 i.1 in
      (omega arith, omega arith)
    where
      either : (k : Bool) (x y : ℕ) → Within g.order x → Within g.order y → Within g.order (cond k x y)
      either true x y h i = h
      either false x y h i = i

  -- what is in a cut there is in the cut, and not chosen; and the other way
  pub looped_cut : (x : Set) (e : ℕ) → Within (size g) e → in_cut (looped g f) x e ≡ (not (f e) && in_cut g x e)
  looped_cut x e w = ap₂ (λ i j. (x i && not (x j)) || (not (x i) && x j)) (looped_first e w) (looped_second e w) ∙ go (f e) (first_end g e) (second_end g e)
    where
      go : (k : Bool) (i j : ℕ) → ((x i && not (x (cond k i j))) || (not (x i) && x (cond k i j))) ≡ (not k && ((x i && not (x j)) || (not (x i) && x j)))
      go true i j = grind arith
      go false i j = refl

  -- a perfect matching there has no chosen edge
  module _ (is : IsGraph g) (m : Set) (p : IsPerfect (looped g f) none m) where
    pub looped_free : (e : ℕ) → Within (size g) e → m e ≡ true → f e ≡ false
    looped_free e w h = false_from_ne_true (f e) (λ t.
        loop_free (looped g f) none m (looped_graph is) p e (let s = looped_size in omega arith) h (looped_first e w ∙ sym (looped_second e w ∙ ap (λ k. cond k (first_end g e) (second_end g e)) t)))

    same_degree : (v : ℕ) → degree (looped g f) m v ≡ degree g m v
    same_degree v =
        ap₂ ◌+◌ (ap (λ n. count n (λ e. m e && (first_end (looped g f) e == v))) looped_size ∙ count_congr (size g) _ _ (λ e w. ap (λ i. m e && (i == v)) (looped_first e w)))
        (ap (λ n. count n (λ e. m e && (second_end (looped g f) e == v))) looped_size ∙ count_congr (size g) _ _ (λ e w. go (m e) e refl w))
      where
        go : (k : Bool) (e : ℕ) → m e ≡ k → Within (size g) e → (m e && (second_end (looped g f) e == v)) ≡ (m e && (second_end g e == v))
        go true e h w = ap (λ i. m e && (i == v)) (looped_second e w ∙ ap (λ k. cond k (first_end g e) (second_end g e)) (looped_free e w h))
        go false e h w = rw h refl

    pub looped_perfect : IsPerfect g none m
    looped_perfect = record {
      once = λ v w o. sym (same_degree v) ∙ p.once v (let q = looped_order in omega arith) o;
      away = λ v w o. sym (same_degree v) ∙ p.away v (let q = looped_order in omega arith) o;
    }
