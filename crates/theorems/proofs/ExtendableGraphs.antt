-- A bipartite graph with six vertices or more is a brace if and only if it is connected, has a
-- perfect matching and is 2-extendable. An edge of the matching has no end in common with a given
-- edge, so that both lie in a perfect matching.
use Rattle.tree_check.proofs.from_counting.Common.{◌≡◌, ℕ, ◌+◌, ◌≤◌, Bool, true, false, ◌==◌, ◌&&◌, ◌||◌, not, refl, sym, ◌∙◌, arith, eq-eqb, ◌↔◌, inl, inr, both_ways, count_member, total_add, total_le, Within, bit, Set, none}
use Rattle.graph_core.proofs.Common.{IsSide, IsConnected, IsCovered, Graph, IsMultigraph, first_end, second_end, size, HasPerfect, HasOnlyTrivialTightCuts, covered_perfect}
use Rattle.theorems.proofs.RegularDegrees.{perfect_size}
use Rattle.theorems.specs.Braces.{IsTwoExtendable}
use Rattle.theorems.proofs.TwoExtendable.{AreApart, extendable, not_extendable}

-- a 2-extendable graph with six vertices, connected and with a perfect matching, is covered
module _ (g : Graph) (is : IsMultigraph g) (six : 6 ≤ g.order) (joined : IsConnected g) (perfect : HasPerfect g none) (ext : IsTwoExtendable g) where
  -- an edge of the matching without an end in common with e
  beside_edge : (e : ℕ) → Within (size g) e → (f : ℕ) × Within (size g) f × AreApart g e f
  beside_edge e we =
      let p = perfect.0 in
      let x = first_end g e in
      let y = second_end g e in
      let s = perfect_size g perfect.0 is.ends perfect.1 in
      let i = perfect.1.once (first_end g e) (is.ends e we).0 refl in
      let j = perfect.1.once (second_end g e) (is.ends e we).1 refl in
      let l = total_le (size g) (λ f. bit (perfect.0 f)) (λ f. bit (clear f) + (met_sum x f + met_sum y f)) (λ f w. bits (perfect.0 f) (first_end g f == first_end g e) (second_end g f == first_end g e) (first_end g f == second_end g e) (second_end g f == second_end g e)) in
      let a = total_add (size g) (λ f. bit (clear f)) (λ f. met_sum x f + met_sum y f) in
      let b = total_add (size g) (met_sum x) (met_sum y) in
      let c = total_add (size g) (λ f. bit (perfect.0 f && (first_end g f == first_end g e))) (λ f. bit (perfect.0 f && (second_end g f == first_end g e))) in
      let d = total_add (size g) (λ f. bit (perfect.0 f && (first_end g f == second_end g e))) (λ f. bit (perfect.0 f && (second_end g f == second_end g e))) in
      let f = count_member (size g) clear (omega arith) in (f.0, f.1, apart f.0 f.2)
    where
      met_sum : ℕ → ℕ → ℕ
      met_sum v f = bit (perfect.0 f && (first_end g f == v)) + bit (perfect.0 f && (second_end g f == v))

      clear : Set
      clear f = perfect.0 f && not (((first_end g f == first_end g e) || (second_end g f == first_end g e)) || ((first_end g f == second_end g e) || (second_end g f == second_end g e)))

      bits : (k p q r s : Bool) → bit k ≤ bit (k && not ((p || q) || (r || s))) + ((bit (k && p) + bit (k && q)) + (bit (k && r) + bit (k && s)))
      bits k p q r s = grind arith

      apart : (f : ℕ) → clear f ≡ true → AreApart g e f
      apart f h v w i j = elim i [
        | inl p ↦ elim j [
          | inl q ↦ both_ways (first_end g f == first_end g e) o.0 (eq-eqb (first_end g f) (first_end g e) (q ∙ sym p))
          | inr q ↦ both_ways (second_end g f == first_end g e) o.1 (eq-eqb (second_end g f) (first_end g e) (q ∙ sym p))
        ]
        | inr p ↦ elim j [
          | inl q ↦ both_ways (first_end g f == second_end g e) o.2 (eq-eqb (first_end g f) (second_end g e) (q ∙ sym p))
          | inr q ↦ both_ways (second_end g f == second_end g e) o.3 (eq-eqb (second_end g f) (second_end g e) (q ∙ sym p))
        ]
      ]
        where
          off : (k p q r s : Bool) → (k && not ((p || q) || (r || s))) ≡ true → (p ≡ false) × (q ≡ false) × (r ≡ false) × (s ≡ false)
          off k p q r s h = grind arith

          o : ((first_end g f == first_end g e) ≡ false) × ((second_end g f == first_end g e) ≡ false) × ((first_end g f == second_end g e) ≡ false) × ((second_end g f == second_end g e) ≡ false)
          o = off (perfect.0 f) (first_end g f == first_end g e) (second_end g f == first_end g e) (first_end g f == second_end g e) (second_end g f == second_end g e) h

  pub extendable_covered : IsCovered g
  extendable_covered = record {
    two = omega arith;
    connected = joined;
    allowed = λ e w d. let f = beside_edge e w in let m = ext e f.0 w f.1 f.2 in (m.0, m.1, m.2);
  }

pub brace_or_extendable : (g : Graph) (a : Set) → IsMultigraph g → IsSide g a → 6 ≤ g.order → (IsCovered g × HasOnlyTrivialTightCuts g) ↔ (IsConnected g × HasPerfect g none × IsTwoExtendable g)
brace_or_extendable g a is two six = (
  (λ h. let c = h.0.connected in (c, covered_perfect g is.ends h.0, extendable g is h.0 a two h.1)),
  (λ h. let c = extendable_covered g is six h.0 h.1 h.2 in (c, not_extendable g is c a two h.2)),
)
