-- Two matchings exchanged inside a set that no edge of either leaves. The set has nearly as many
-- edges inside as vertices, so the matching that misses one of its vertices has no more edges
-- there.
use Rattle.graph_core.proofs.from_counting.Common.{◌≡◌, ℕ, ◌+◌, ◌*◌, ◌≤◌, ◌≢◌, Bool, true, false, cond, ◌==◌, ◌&&◌, ◌||◌, not, ◌⊎◌, refl, sym, ap, ap₂, ◌∙◌, arith, inl, inr, eqb-true, eq-eqb, and_from, cases_Bool, true≢false, and_left, and_right, count_congr, member_count, two_members, total_add, total_congr, total_none, Within, bit, count, total, Set, none}
use Rattle.graph_core.proofs.Common.{degrees, Graph, IsGraph, degree, first_end, in_cut, inside, second_end, size, IsMatching}
use Rattle.brick_kit.specs.Weights.{weight_of}

-- a set with t inside k, which no edge of m or n leaves, with nearly as many edges of m and of n
-- inside as it has vertices
pub record Swaps (g : Graph) (k m n : Set) (t : ℕ) (c : Set) : Type 0 where
  pub inside_k : (v : ℕ) → c v ≡ true → k v ≡ true
  pub holds : c t ≡ true
  pub first_stays : (e : ℕ) → Within (size g) e → m e ≡ true → in_cut g c e ≡ false
  pub second_stays : (e : ℕ) → Within (size g) e → n e ≡ true → in_cut g c e ≡ false
  pub many : count g.order c ≤ (count (size g) (λ e. m e && inside g c e) + count (size g) (λ e. n e && inside g c e)) + 1

pub missed_inside : (g : Graph) (m x : Set) → IsGraph g → IsMatching g none m → ((e : ℕ) → Within (size g) e → m e ≡ true → in_cut g x e ≡ false) →
    count g.order x ≡ count g.order (λ v. x v && (degree g m v == 0)) + 2 * count (size g) (λ e. m e && inside g x e)
missed_inside g m x is mm stays =
    settle (count g.order x) (count g.order (λ v. x v && (degree g m v == 0))) (total g.order (λ v. bit (x v) * degree g m v)) (count (size g) (λ e. m e && in_cut g x e)) (count (size g) (λ e. m e && inside g x e))
    (total_congr g.order (λ v. bit (x v)) (λ v. bit (x v && (degree g m v == 0)) + bit (x v) * degree g m v) (λ v wv. grind arith)
    ∙ total_add g.order (λ v. bit (x v && (degree g m v == 0))) (λ v. bit (x v) * degree g m v))
    (degrees g is m x)
    (total_none (size g) (λ e. bit (m e && in_cut g x e)) (λ e we. ap bit (gone (m e) (in_cut g x e) (stays e we))))
  where
    settle : (n a t c i : ℕ) → n ≡ a + t → t ≡ c + 2 * i → c ≡ 0 → n ≡ a + 2 * i
    settle n a t c i h j k = omega arith

    gone : (a b : Bool) → (a ≡ true → b ≡ false) → (a && b) ≡ false
    gone a b h = grind arith

fewer_numbers : (c xm xn im jn : ℕ) → c ≡ xm + 2 * im → c ≡ xn + 2 * jn → 1 ≤ xn → c ≤ (im + jn) + 1 → (jn ≤ im) × (xm ≤ 1)
fewer_numbers c xm xn im jn h i j k = (omega arith, omega arith)

module _ (g : Graph) (k m n : Set) (t : ℕ) (c : Set) (is : IsGraph g) (mm : IsMatching g none m) (nn : IsMatching g none n) (wt : Within g.order t) (misses : degree g n t ≡ 0) (w : Swaps g k m n t c) where
  fewer : (count (size g) (λ e. n e && inside g c e) ≤ count (size g) (λ e. m e && inside g c e)) × (count g.order (λ v. c v && (degree g m v == 0)) ≤ 1)
  fewer = fewer_numbers (count g.order c) (count g.order (λ v. c v && (degree g m v == 0))) (count g.order (λ v. c v && (degree g n v == 0))) (count (size g) (λ e. m e && inside g c e)) (count (size g) (λ e. n e && inside g c e))
      (missed_inside g m c is mm w.first_stays) (missed_inside g n c is nn w.second_stays)
      (member_count g.order (λ v. c v && (degree g n v == 0)) t wt (and_from (c t) (degree g n t == 0) w.holds (eq-eqb (degree g n t) 0 misses))) w.many

  pub second_fewer : count (size g) (λ e. n e && inside g c e) ≤ count (size g) (λ e. m e && inside g c e)
  second_fewer = fewer.0

  pub not_both : (u v : ℕ) → Within g.order u → Within g.order v → u ≢ v → degree g m u ≡ 0 → degree g m v ≡ 0 → (c u ≡ false) ⊎ (c v ≡ false)
  not_both u v wu wv d mu mv = elim (cases_Bool (c u)) [
    | inr f ↦ inl f
    | inl cu ↦ elim (cases_Bool (c v)) [
      | inr f ↦ inr f
      | inl cv ↦ let two = two_members g.order (λ v. c v && (degree g m v == 0)) u v wu wv d (and_from (c u) (degree g m u == 0) cu (eq-eqb (degree g m u) 0 mu)) (and_from (c v) (degree g m v == 0) cv (eq-eqb (degree g m v) 0 mv)) in
          let one = fewer.1 in absurd (omega arith)
    ]
  ]

-- m with its edges inside c replaced by those of n
abbrev pub swapped : Graph → Set → Set → Set → Set
swapped g c m n e = cond (inside g c e) (n e) (m e)

pub swapped_weight : (g : Graph) (w : ℕ → ℕ) (c m n : Set) → weight_of g w (swapped g c m n) + weight_of g w (swapped g c n m) ≡ weight_of g w m + weight_of g w n
swapped_weight g w c m n =
    sym (total_add (size g) (λ e. bit (swapped g c m n e) * w e) (λ e. bit (swapped g c n m e) * w e))
    ∙ total_congr (size g) _ _ (λ e i. grind arith)
    ∙ total_add (size g) (λ e. bit (m e) * w e) (λ e. bit (n e) * w e)

pub swapped_inside : (g : Graph) (k c m n : Set) → ((v : ℕ) → c v ≡ true → k v ≡ true) →
    count (size g) (λ e. swapped g c m n e && inside g k e) + count (size g) (λ e. m e && inside g c e) ≡ count (size g) (λ e. m e && inside g k e) + count (size g) (λ e. n e && inside g c e)
swapped_inside g k c m n h =
    sym (total_add (size g) (λ e. bit (swapped g c m n e && inside g k e)) (λ e. bit (m e && inside g c e)))
    ∙ total_congr (size g) _ _ (λ e i. grind arith)
    ∙ total_add (size g) (λ e. bit (m e && inside g k e)) (λ e. bit (n e && inside g c e))

pub swapped_degree : (g : Graph) (c m n : Set) (v : ℕ) → ((e : ℕ) → Within (size g) e → m e ≡ true → in_cut g c e ≡ false) → ((e : ℕ) → Within (size g) e → n e ≡ true → in_cut g c e ≡ false) →
    degree g (swapped g c m n) v ≡ cond (c v) (degree g n v) (degree g m v)
swapped_degree g c m n v ms ns = go (c v) refl
  where
    second_in : (p q a b t : Bool) → (t ≡ true → q ≡ true) → (a ≡ true → ((p && not q) || (not p && q)) ≡ false) → (b ≡ true → ((p && not q) || (not p && q)) ≡ false) → (cond (p && q) b a && t) ≡ (b && t)
    second_in p q a b t h i j = grind arith

    out : (i a b t : Bool) → (t ≡ true → i ≡ false) → (cond i b a && t) ≡ (a && t)
    out i a b t h = grind arith

    go : (b : Bool) → c v ≡ b → degree g (swapped g c m n) v ≡ cond b (degree g n v) (degree g m v)
    go true h = ap₂ ◌+◌
        (count_congr (size g) _ _ (λ e w. grind arith))
        (count_congr (size g) _ _ (λ e w. second_in (c (first_end g e)) (c (second_end g e)) (m e) (n e) (second_end g e == v) (λ t. ap c (eqb-true (second_end g e) v t) ∙ h) (ms e w) (ns e w)))
    go false h = ap₂ ◌+◌
        (count_congr (size g) _ _ (λ e w. out (inside g c e) (m e) (n e) (first_end g e == v) (λ t. and_left (c (first_end g e)) (c (second_end g e)) (ap c (eqb-true (first_end g e) v t) ∙ h))))
        (count_congr (size g) _ _ (λ e w. out (inside g c e) (m e) (n e) (second_end g e == v) (λ t. and_right (c (first_end g e)) (c (second_end g e)) (ap c (eqb-true (second_end g e) v t) ∙ h))))

pub swapped_matching : (g : Graph) (c m n : Set) → IsMatching g none m → IsMatching g none n → ((e : ℕ) → Within (size g) e → m e ≡ true → in_cut g c e ≡ false) →
    ((e : ℕ) → Within (size g) e → n e ≡ true → in_cut g c e ≡ false) → IsMatching g none (swapped g c m n)
swapped_matching g c m n mm nn ms ns = grind (arith, swapped_degree g c m n, true≢false)
