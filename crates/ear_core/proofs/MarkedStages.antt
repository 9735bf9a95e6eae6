-- The vertices that a stage meets, as its edges are marked one by one.
-- Idea: an edge is at its two ends alone, so a mark more adds these two vertices and no others.
use Rattle.graph_core.proofs.from_counting.Common.{◌≡◌, ℕ, Bool, true, false, ◌==◌, ◌&&◌, ◌||◌, ◌∙◌, arith, eq-eqb, eqb-true, inl, inr, refl, subst, List, and_from, and_parts, false_from_ne_true, or_assoc, or_cases, or_left, mem, or_right, same_tests, some_true, true_some, true≢false, Within, Set}
use Rattle.graph_core.proofs.Common.{Graph, size, first_end, second_end}
use Rattle.ear_core.specs.Common.{is_met}
use Rattle.ear_core.proofs.FirstFaults.{met-ends}

-- v is an end of e
abbrev at : Graph → ℕ → ℕ → Bool
at g v e = first_end g e == v || second_end g e == v

-- some edge of f is at v
abbrev meets : Graph → Set → ℕ → ℕ → Bool
meets g f v e = f e && at g v e

-- no marks meet nothing
pub nothing-met : (g : Graph) (f : Set) → ((i : ℕ) → f i ≡ false) → (v : ℕ) → is_met g f v ≡ false
nothing-met g f blank v = false_from_ne_true (is_met g f v) (λ t.
    let d = some_true (size g) (meets g f v) (met-ends g f v ∙ t) in
    true≢false (sym_true d.0 (and_parts (f d.0) (at g v d.0) d.2).0))
  where
    sym_true : (d : ℕ) → f d ≡ true → true ≡ false
    sym_true d t = grind (arith, blank d)

-- an edge more meets its two ends too
module _ (g : Graph) (f new : Set) (e : ℕ) (within : Within (size g) e) (same : (i : ℕ) → new i ≡ (f i || e == i)) (v : ℕ) where
  older : is_met g new v ≡ true → (is_met g f v || at g v e) ≡ true
  older t =
      let d = some_true (size g) (meets g new v) (met-ends g new v ∙ t) in
      let b = and_parts (new d.0) (at g v d.0) d.2 in
      elim (or_cases (f d.0) (e == d.0) (subst (λ x. x ≡ true) (same d.0) b.0)) [
        | inl h ↦ or_left (is_met g f v) (at g v e) (subst (λ x. x ≡ true) (met-ends g f v) (true_some (size g) (meets g f v) d.0 d.1 (and_from (f d.0) (at g v d.0) h b.1)))
        | inr h ↦ or_right (is_met g f v) (at g v e) (subst (λ (x : ℕ). at g v x ≡ true) (back (eqb-true e d.0 h)) b.1)
      ]
    where
      back : {a b : ℕ} → a ≡ b → b ≡ a
      back {a} {b} p = grind arith

  newer : (is_met g f v || at g v e) ≡ true → is_met g new v ≡ true
  newer t = elim (or_cases (is_met g f v) (at g v e) t) [
    | inl h ↦
        let d = some_true (size g) (meets g f v) (met-ends g f v ∙ h) in
        let b = and_parts (f d.0) (at g v d.0) d.2 in
        subst (λ x. x ≡ true) (met-ends g new v) (true_some (size g) (meets g new v) d.0 d.1 (and_from (new d.0) (at g v d.0) (same d.0 ∙ or_left (f d.0) (e == d.0) b.0) b.1))
    | inr h ↦ subst (λ x. x ≡ true) (met-ends g new v) (true_some (size g) (meets g new v) e within (and_from (new e) (at g v e) (same e ∙ or_right (f e) (e == e) (eq-eqb e e refl)) h))
  ]

  pub more-met : is_met g new v ≡ (is_met g f v || at g v e)
  more-met = same_tests (is_met g new v) (is_met g f v || at g v e) older newer

-- the set with the two ends
pub ends-added : (g : Graph) (f new : Set) (e : ℕ) → Within (size g) e → ((i : ℕ) → new i ≡ (f i || e == i)) → (met one both : List ℕ) (a b : ℕ) → a ≡ first_end g e → b ≡ second_end g e → ((v : ℕ) → mem met v ≡ is_met g f v) → ((v : ℕ) → mem one v ≡ (mem met v || a == v)) → ((v : ℕ) → mem both v ≡ (mem one v || b == v)) → (v : ℕ) → mem both v ≡ is_met g new v
ends-added g f new e within same met one both a b at_a at_b are first second v = grind (arith, or_assoc, first_end, second_end, more-met)
