-- A set loses one vertex, or gains one: its values elsewhere stay, and its size changes by one.
-- Idea: the two sets differ in one term of the count.
use Rattle.vset_core.proofs.from_counting.Common.{◌≡◌, ℕ, ◌+◌, true, false, ◌==◌, refl, sym, ap, ◌∙◌, arith, ◌&&◌, ◌||◌, not, inl, inr, eq-eqb, ne_eqb, and_false, and_true, or_false, and_parts, cases_eq, or_right, count_put, count_congr, Within, count, Set, put}

-- left' is left less w
abbrev pub Loses : Set → ℕ → Set → Type 0
Loses left w left' = (v : ℕ) → left' v ≡ (left v && not (w == v))

pub Loses-own : (left left' : Set) (w : ℕ) → Loses left w left' → left' w ≡ false
Loses-own left left' w h = h w ∙ rw (eq-eqb w w refl) (and_false (left w))

pub Loses-others : (left left' : Set) (w : ℕ) → Loses left w left' → (v : ℕ) → (w ≡ v → ⊥) → left' v ≡ left v
Loses-others left left' w h v d = h v ∙ rw (ne_eqb w v d) (and_true (left v))

pub Loses-smaller : (left left' : Set) (w : ℕ) → Loses left w left' → (v : ℕ) → left' v ≡ true → left v ≡ true
Loses-smaller left left' w h v t = (and_parts (left v) (not (w == v)) (sym (h v) ∙ t)).0

pub Loses-out : (left left' : Set) (w : ℕ) → Loses left w left' → (v : ℕ) → left v ≡ false → left' v ≡ false
Loses-out left left' w h v f = h v ∙ rw f refl

-- taking one out of a set makes it smaller by one
pub count_lost : (n : ℕ) (left left' : Set) (w : ℕ) → Within n w → left w ≡ true → Loses left w left' → count n left' + 1 ≡ count n left
count_lost n left left' w i t h = grind (arith, count_congr n left' (put left w false), cases_eq w, eq-eqb, ne_eqb, count_put n left w false i)

-- open' is open with w
abbrev pub Gains : Set → ℕ → Set → Type 0
Gains x w x' = (v : ℕ) → x' v ≡ (x v || (w == v))

-- a vertex that is left is not open, so that it makes the open set greater by one
pub count_gained : (n : ℕ) (x x' : Set) (w : ℕ) → Within n w → x w ≡ false → ((v : ℕ) → x' v ≡ (x v || (w == v))) → count n x + 1 ≡ count n x'
count_gained n x x' w i f gains = count_lost n x' x w i (gains w ∙ or_right (x w) (w == w) (eq-eqb w w refl)) (λ v. elim (cases_eq w v) [
  | inl e ↦ ap x (sym e) ∙ f ∙ sym (rw (eq-eqb w v e) (and_false (x' v)))
  | inr d ↦ sym (rw (ne_eqb w v d) (and_true (x' v) ∙ gains v ∙ rw (ne_eqb w v d) (or_false (x v))))
])
