-- Farkas' lemma: by induction on the number of vectors. Where a separator of the others and b has a
-- positive product with the last vector, the others and b are moved along the last one into the
-- plane of the separator, and the lemma holds for what they become.
use Rattle.tree_check.proofs.from_counting.Common.{◌≡◌, ℕ, suc, zero, ◌*◌, ◌≤◌, ◌==◌, ◌⊎◌, inl, inr, refl, sym, ap, ap₂, ◌∙◌, subst, arith, cond, cond-true, cond-false, eq-eqb, ne_eqb, ℤ, pos, ◌+ℤ◌, ◌-ℤ◌, ◌≤ℤ◌, ◌<ℤ◌, ints, cases_eq, Within}
use Rattle.std.proofs.Common.{◌*ℤ◌}
use Rattle.std.proofs.Math.IntN.{*ℤ_comm}
use Rattle.theorems.proofs.IntegerProducts.{high_times, low_times, one_product, sign, times_assoc, times_left, times_sub, whole}
use Rattle.theorems.proofs.IntegerVectors.{difference_product, integer_total-congr, integer_total-low, integer_total-sub, integer_total-swap, integer_total-times, product_difference, squares}
use Rattle.theorems.specs.Inequalities.{Combination, Separator, integer_total, scalar_product}

-- no vector
alone : (m : ℕ) (v : ℕ → ℕ → ℤ) (b : ℕ → ℤ) → Combination 0 m v b ⊎ Separator 0 m v b
alone m v b = elim (squares m b) [
  | inl z ↦ inl (record { times = λ i. 0; multiple = 1; positive = omega arith; equal = λ e w. once (b e) (z e w) })
  | inr h ↦ inr (record { normal = b; low = λ i w. absurd (omega arith); high = h })
]
  where
    once : (a : ℤ) → a ≡ pos 0 → pos 0 ≡ pos 1 *ℤ a
    once a h = sym (ap (λ t. pos 1 *ℤ t) h)

module _ (l m : ℕ) (v : ℕ → ℕ → ℤ) (b : ℕ → ℤ) where
  -- the last vector is taken n times
  abbrev with_last : (ℕ → ℕ) → ℕ → ℕ → ℕ
  with_last t n i = cond (i == suc l) n (t i)

  last_total : (t : ℕ → ℕ) (n e : ℕ) → integer_total (suc l) (λ i. pos (with_last t n i) *ℤ v i e) ≡ integer_total l (λ i. pos (t i) *ℤ v i e) +ℤ pos n *ℤ v (suc l) e
  last_total t n e = ap₂ ◌+ℤ◌
      (integer_total-congr l (λ i. pos (with_last t n i) *ℤ v i e) (λ i. pos (t i) *ℤ v i e) (λ i w. ap (λ k. pos k *ℤ v i e) (cond-false (i == suc l) n (t i) (ne_eqb i (suc l) (λ q. omega arith)))))
      (ap (λ k. pos k *ℤ v (suc l) e) (cond-true (suc l == suc l) n (t (suc l)) (eq-eqb (suc l) (suc l) refl)))

  unused : Combination l m v b → Combination (suc l) m v b
  unused c = record {
    times = with_last c.times 0;
    multiple = c.multiple;
    positive = c.positive;
    equal = λ e w. last_total c.times 0 e ∙ nothing (integer_total l (λ i. pos (c.times i) *ℤ v i e)) (v (suc l) e) ∙ c.equal e w;
  }
    where
      nothing : (a x : ℤ) → a +ℤ pos 0 *ℤ x ≡ a
      nothing a x = omega (arith, ints)

  apart_too : (w : Separator l m v b) → scalar_product m w.normal (v (suc l)) ≤ℤ pos 0 → Separator (suc l) m v b
  apart_too w h = record {
    normal = w.normal;
    high = w.high;
    low = λ i k. elim (cases_eq i (suc l)) [
      | inl e ↦ subst (λ j. scalar_product m w.normal (v j) ≤ℤ pos 0) (sym e) h
      | inr n ↦ w.low i (omega arith)
    ];
  }

  module _ (w : Separator l m v b) (s : ℕ) (same : pos s ≡ scalar_product m w.normal (v (suc l))) (some : 1 ≤ s) where
    abbrev last : ℕ → ℤ
    last = v (suc l)

    abbrev height : (ℕ → ℤ) → ℤ
    height y = scalar_product m w.normal y

    -- y, moved along the last vector into the plane of w
    abbrev moved : (ℕ → ℤ) → ℕ → ℤ
    moved y e = pos s *ℤ y e -ℤ height y *ℤ last e

    module _ (u : Separator l m (λ i. moved (v i)) (moved b)) where
      abbrev slope : ℤ
      slope = scalar_product m u.normal last

      abbrev leaning : ℕ → ℤ
      leaning e = pos s *ℤ u.normal e -ℤ slope *ℤ w.normal e

      as_moved : (y : ℕ → ℤ) → scalar_product m leaning y ≡ scalar_product m u.normal (moved y)
      as_moved y =
          difference_product m y u.normal w.normal (pos s) slope
          ∙ ap (λ t. pos s *ℤ scalar_product m u.normal y -ℤ t) (*ℤ_comm slope (height y))
          ∙ sym (product_difference m u.normal y last (pos s) (height y))

      flat : scalar_product m leaning last ≡ pos 0
      flat = difference_product m last u.normal w.normal (pos s) slope ∙ vanish (pos s) slope (height last) (sym same)
        where
          self : (z : ℤ) → z -ℤ z ≡ pos 0
          self z = omega (arith, ints)

          vanish : (a c d : ℤ) → d ≡ a → a *ℤ c -ℤ c *ℤ d ≡ pos 0
          vanish a c d h = ap (λ t. a *ℤ c -ℤ c *ℤ t) h ∙ ap (λ t. a *ℤ c -ℤ t) (*ℤ_comm c a) ∙ self (a *ℤ c)

      zero_low : (z : ℤ) → z ≡ pos 0 → z ≤ℤ pos 0
      zero_low z h = omega (arith, ints)

      leaning_separator : Separator (suc l) m v b
      leaning_separator = record {
        normal = leaning;
        high = subst (λ t. pos 0 <ℤ t) (sym (as_moved b)) u.high;
        low = λ i k. elim (cases_eq i (suc l)) [
          | inl e ↦ subst (λ j. scalar_product m leaning (v j) ≤ℤ pos 0) (sym e) (zero_low (scalar_product m leaning last) flat)
          | inr n ↦ subst (λ t. t ≤ℤ pos 0) (sym (as_moved (v i))) (u.low i (omega arith))
        ];
      }

    module _ (c : Combination l m (λ i. moved (v i)) (moved b)) where
      -- how often the last vector is needed
      abbrev needed : ℤ
      needed = pos c.multiple *ℤ height b -ℤ integer_total l (λ i. pos (c.times i) *ℤ height (v i))

      not_low : pos 0 ≤ℤ needed
      not_low = close (pos c.multiple *ℤ height b) (integer_total l (λ i. pos (c.times i) *ℤ height (v i)))
          (high_times c.multiple (height b) c.positive w.high)
          (integer_total-low l (λ i. pos (c.times i) *ℤ height (v i)) (λ i k. low_times (c.times i) (height (v i)) (w.low i k)))
        where
          close : (x y : ℤ) → pos 0 <ℤ x → y ≤ℤ pos 0 → pos 0 ≤ℤ (x -ℤ y)
          close x y h k = omega (arith, ints)

      abbrev number : (n : ℕ) × (pos n ≡ needed)
      number = whole needed not_low

      term : (q y d z : ℤ) → q *ℤ (pos s *ℤ y -ℤ d *ℤ z) ≡ pos s *ℤ (q *ℤ y) -ℤ z *ℤ (q *ℤ d)
      term q y d z = times_sub q (pos s *ℤ y) (d *ℤ z) ∙ ap₂ ◌-ℤ◌ (times_left q (pos s) y) (ap (λ t. q *ℤ t) (*ℤ_comm d z) ∙ times_left q z d)

      module _ (e : ℕ) (k : Within m e) where
        abbrev sum : ℤ
        sum = integer_total l (λ i. pos (c.times i) *ℤ v i e)

        abbrev heights : ℤ
        heights = integer_total l (λ i. pos (c.times i) *ℤ height (v i))

        left : integer_total l (λ i. pos (c.times i) *ℤ moved (v i) e) ≡ pos s *ℤ sum -ℤ last e *ℤ heights
        left =
            integer_total-congr l (λ i. pos (c.times i) *ℤ moved (v i) e) (λ i. pos s *ℤ (pos (c.times i) *ℤ v i e) -ℤ last e *ℤ (pos (c.times i) *ℤ height (v i))) (λ i k. term (pos (c.times i)) (v i e) (height (v i)) (last e))
            ∙ integer_total-sub l (λ i. pos s *ℤ (pos (c.times i) *ℤ v i e)) (λ i. last e *ℤ (pos (c.times i) *ℤ height (v i)))
            ∙ ap₂ ◌-ℤ◌ (integer_total-times l (pos s) (λ i. pos (c.times i) *ℤ v i e)) (integer_total-times l (last e) (λ i. pos (c.times i) *ℤ height (v i)))

        first : integer_total l (λ i. pos (s * c.times i) *ℤ v i e) ≡ pos s *ℤ sum
        first =
            integer_total-congr l (λ i. pos (s * c.times i) *ℤ v i e) (λ i. pos s *ℤ (pos (c.times i) *ℤ v i e)) (λ i k. times_assoc (pos s) (pos (c.times i)) (v i e))
            ∙ integer_total-times l (pos s) (λ i. pos (c.times i) *ℤ v i e)

        second : pos number.0 *ℤ last e ≡ last e *ℤ (pos c.multiple *ℤ height b) -ℤ last e *ℤ heights
        second = ap (λ t. t *ℤ last e) number.1 ∙ *ℤ_comm needed (last e) ∙ times_sub (last e) (pos c.multiple *ℤ height b) heights

        settle : (p q r t : ℤ) → p -ℤ q ≡ t -ℤ r → p +ℤ (r -ℤ q) ≡ t
        settle p q r t h = omega (arith, ints)

        lifted : integer_total (suc l) (λ i. pos (with_last (λ i. s * c.times i) number.0 i) *ℤ v i e) ≡ pos (s * c.multiple) *ℤ b e
        lifted =
            last_total (λ i. s * c.times i) number.0 e
            ∙ ap₂ ◌+ℤ◌ first second
            ∙ settle (pos s *ℤ sum) (last e *ℤ heights) (last e *ℤ (pos c.multiple *ℤ height b)) (pos s *ℤ (pos c.multiple *ℤ b e)) (sym left ∙ c.equal e k ∙ term (pos c.multiple) (b e) (height b) (last e))
            ∙ sym (times_assoc (pos s) (pos c.multiple) (b e))

      lifted_combination : Combination (suc l) m v b
      lifted_combination = record {
        times = with_last (λ i. s * c.times i) number.0;
        multiple = s * c.multiple;
        positive = one_product s c.multiple some c.positive;
        equal = lifted;
      }

pub farkas : (l m : ℕ) (v : ℕ → ℕ → ℤ) (b : ℕ → ℤ) → Combination l m v b ⊎ Separator l m v b
farkas zero m v b = alone m v b
farkas (suc l) m v b = elim (farkas l m v b) [
  | inl c ↦ inl (unused l m v b c)
  | inr w ↦ elim (sign (scalar_product m w.normal (v (suc l)))) [
    | inl h ↦ inr (apart_too l m v b w h)
    | inr p ↦ elim (farkas l m (λ i. moved l m v b w p.0 p.1 p.2 (v i)) (moved l m v b w p.0 p.1 p.2 b)) [
      | inl c ↦ inl (lifted_combination l m v b w p.0 p.1 p.2 c)
      | inr u ↦ inr (leaning_separator l m v b w p.0 p.1 p.2 u)
    ]
  ]
]

-- the two exclude each other: the product of the separator and the combination would be positive
-- and not positive
pub not_both : (l m : ℕ) (v : ℕ → ℕ → ℤ) (b : ℕ → ℤ) → Combination l m v b → Separator l m v b → ⊥
not_both l m v b c w = clash (pos c.multiple *ℤ scalar_product m w.normal b) (high_times c.multiple (scalar_product m w.normal b) c.positive w.high)
    (subst (λ t. t ≤ℤ pos 0) (crossed ∙ same) (integer_total-low l (λ i. pos (c.times i) *ℤ scalar_product m w.normal (v i)) (λ i k. low_times (c.times i) (scalar_product m w.normal (v i)) (w.low i k))))
  where
    clash : (z : ℤ) → pos 0 <ℤ z → z ≤ℤ pos 0 → ⊥
    clash z h k = omega (arith, ints)

    crossed : integer_total l (λ i. pos (c.times i) *ℤ scalar_product m w.normal (v i)) ≡ integer_total m (λ e. integer_total l (λ i. pos (c.times i) *ℤ (w.normal e *ℤ v i e)))
    crossed =
        integer_total-congr l (λ i. pos (c.times i) *ℤ scalar_product m w.normal (v i)) (λ i. integer_total m (λ e. pos (c.times i) *ℤ (w.normal e *ℤ v i e))) (λ i k. sym (integer_total-times m (pos (c.times i)) (λ e. w.normal e *ℤ v i e)))
        ∙ integer_total-swap l m (λ i e. pos (c.times i) *ℤ (w.normal e *ℤ v i e))

    each : (e : ℕ) → Within m e → integer_total l (λ i. pos (c.times i) *ℤ (w.normal e *ℤ v i e)) ≡ pos c.multiple *ℤ (w.normal e *ℤ b e)
    each e k =
        integer_total-congr l (λ i. pos (c.times i) *ℤ (w.normal e *ℤ v i e)) (λ i. w.normal e *ℤ (pos (c.times i) *ℤ v i e)) (λ i j. times_left (pos (c.times i)) (w.normal e) (v i e))
        ∙ integer_total-times l (w.normal e) (λ i. pos (c.times i) *ℤ v i e)
        ∙ ap (λ t. w.normal e *ℤ t) (c.equal e k)
        ∙ times_left (w.normal e) (pos c.multiple) (b e)

    same : integer_total m (λ e. integer_total l (λ i. pos (c.times i) *ℤ (w.normal e *ℤ v i e))) ≡ pos c.multiple *ℤ scalar_product m w.normal b
    same =
        integer_total-congr m (λ e. integer_total l (λ i. pos (c.times i) *ℤ (w.normal e *ℤ v i e))) (λ e. pos c.multiple *ℤ (w.normal e *ℤ b e)) each
        ∙ integer_total-times m (pos c.multiple) (λ e. w.normal e *ℤ b e)
