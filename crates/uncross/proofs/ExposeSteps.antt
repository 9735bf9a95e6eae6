-- The steps of exposing a shore in a tree, as the code takes them: what its two calls below the
-- root may ask, that what comes back fits, and that the whole is exposed.
use Rattle.std.proofs.Common.{◌≡◌, ℕ, List, Option, Some, sym, ap, ◌∙◌, subst, arith}
use Rattle.move_laws.proofs.from_contraction.QuotientLaws.{covered_down}
use Rattle.graph_core.proofs.Common.{IsCovered, Graph, IsGraph, IsPartition, complement_of, quotient}
use Rattle.tree_core.proofs.Common.{cut-below, stands-derivation_at, IsCutAt, IsDerivationAt, kept_at, merged_at, PlainMove, Fits, Shape, cut, leaf}
use Rattle.move_laws.proofs.BigShores.{Big, Stage, big_rest, cut_big, stage_merged}
use Rattle.move_laws.proofs.NestedShores.{leaf_not}
use Rattle.uncross.proofs.Planned.{first_is_cut, plan_done, second_is_cut}
use Rattle.move_laws.proofs.Rising.{rising-derivation_at}
use Rattle.move_laws.proofs.Scripts.{script_end}
use Rattle.uncross.specs.Common.{CutIf, IsExposed, IsPlan, PlainPlan, first_kept_shore, plan_result, second_shore}
use Rattle.move_laws.specs.Common.{PlainTurned}

-- a partition of the graph whose quotient is covered
pub stage_of : (g : Graph) (n : ℕ) (p : List (List ℕ)) → IsGraph g → n ≡ g.order → IsPartition n p → IsCovered (quotient g p) → Stage g p
stage_of g n p is e list cov = grind (arith, covered_down g p is)

-- a derivation at the root of which there is a shore to expose is not a leaf
pub leaf_exposes : (g : Graph) (n : ℕ) (p : List (List ℕ)) (y : List ℕ) (s : Shape) (o : Option (List ℕ)) → IsGraph g → n ≡ g.order → IsPartition n p → IsCovered (quotient g p) → s ≡ leaf → IsDerivationAt g p s → o ≡ Some y → CutIf g p o → ⊥
leaf_exposes g n p y s o is e list cov l d so c = grind (arith, stage_of, leaf_not, cut_big)

-- an exposed tree is a derivation, so it fits
exposed_derives : (g : Graph) (p : List (List ℕ)) (s t : Shape) (o : Option (List ℕ)) (ms : Option (List PlainMove)) → IsDerivationAt g p s → IsExposed g p s o t ms → IsDerivationAt g p t
exposed_derives g p s t o ms d e = grind (arith, script_end, rising-derivation_at)

module _ (g : Graph) (n : ℕ) (p : List (List ℕ)) (x y : List ℕ) (a b whole : Shape) (plan : PlainPlan) (o : Option (List ℕ)) (is : IsGraph g) (e : n ≡ g.order) (list : IsPartition n p) (cov : IsCovered (quotient g p))
    (w : whole ≡ cut x a b) (derives : IsDerivationAt g p whole) (so : o ≡ Some y) (shore : CutIf g p o) (planned : IsPlan n p x y plan) where
  st : Stage g p
  st = stage_of g n p is e list cov

  d : IsDerivationAt g p (cut x a b)
  d = subst (IsDerivationAt g p) w derives

  cy : IsCutAt g p y
  cy = subst (CutIf g p) so shore

  bx : Big g p x
  bx = cut_big g p st x d.0.set d.0

  by : Big g p y
  by = cut_big g p st y cy.set cy

  is_plan : IsPlan g.order p x y plan
  is_plan = subst (λ n. IsPlan n p x y plan) e planned

  pub asks_kept : (q : List (List ℕ)) (t : Shape) (first : Option (List ℕ)) → q ≡ kept_at g.order p x → t ≡ a → first ≡ first_kept_shore y plan → IsDerivationAt g q t × CutIf g q first
  asks_kept q t first eq et ef = grind (arith, kept_at, d, first_is_cut, st, bx, by, cy, is_plan)

  pub asks_merged : (q : List (List ℕ)) (t : Shape) (second : Option (List ℕ)) → q ≡ merged_at g.order p x → t ≡ b → second ≡ second_shore y plan → IsDerivationAt g q t × CutIf g q second
  asks_merged q t second eq et ef = grind (arith, merged_at, d, second_is_cut, st, bx, by, cy, is_plan)

  -- what came back from the two trees
  module _ (q r : List (List ℕ)) (s t ta tb : Shape) (first second : Option (List ℕ)) (mi mo : Option (List PlainMove)) (eq : q ≡ kept_at g.order p x) (er : r ≡ merged_at g.order p x) (es : s ≡ a) (et : t ≡ b) (ef : first ≡ first_kept_shore y plan) (ec : second ≡ second_shore y plan)
      (ea : IsExposed g q s first ta mi) (eb : IsExposed g r t second tb mo) where
    at_a : IsExposed g (kept_at g.order p x) a (first_kept_shore y plan) ta mi
    at_a = subst (λ q. IsExposed g q a (first_kept_shore y plan) ta mi) eq (subst (λ s. IsExposed g q s (first_kept_shore y plan) ta mi) es (subst (λ o. IsExposed g q s o ta mi) ef ea))

    at_b : IsExposed g (merged_at g.order p x) b (second_shore y plan) tb mo
    at_b = subst (λ q. IsExposed g q b (second_shore y plan) tb mo) er (subst (λ s. IsExposed g r s (second_shore y plan) tb mo) et (subst (λ o. IsExposed g r t o tb mo) ec eb))

    pub both_fit : (m : ℕ) → m ≡ g.order → Fits m (cut x ta tb)
    both_fit m em =
        let sk = stage_merged g p st (complement_of g.order x) (big_rest g p st x bx) in
        subst (λ m. Fits m (cut x ta tb)) (sym em) (
          cut-below g p x d.0,
          (stands-derivation_at g (kept_at g.order p x) ta sk.list (exposed_derives g (kept_at g.order p x) a ta (first_kept_shore y plan) mi d.1 at_a)).0,
          (stands-derivation_at g (merged_at g.order p x) tb (stage_merged g p st x bx).list (exposed_derives g (merged_at g.order p x) b tb (second_shore y plan) mo d.2 at_b)).0,
        )

    pub whole_exposed : (m : ℕ) → m ≡ g.order → (turned : PlainTurned) → ((s : PlainTurned) → plan_result m x plan ta tb mi mo ≡ Some s → turned ≡ s) → IsExposed g p whole o turned.tree (Some turned.moves)
    whole_exposed m em turned h =
        let r = plan_done g p st x y bx by d.0.canonical cy.canonical a b (rising-derivation_at g p (cut x a b) d) d plan is_plan ta tb mi mo at_a at_b in
        let same = h r.0 (ap (λ m. plan_result m x plan ta tb mi mo) em ∙ r.1) in
        subst (λ o. IsExposed g p whole o turned.tree (Some turned.moves)) (sym so) (subst (λ w. IsExposed g p w (Some y) turned.tree (Some turned.moves)) (sym w) (subst (λ (t : PlainTurned). IsExposed g p (cut x a b) (Some y) t.tree (Some t.moves)) (sym same) r.2))
