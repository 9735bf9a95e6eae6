-- Tutte's theorem, Berge's formula and Gallai's lemma, from the law of Tutte and Berge for every
-- removed set. For the lemma, a matching of all but one vertex has as many ends in a set without a
-- cut edge as the set has vertices left.
use Rattle.tree_check.proofs.from_counting.Common.{◌≡◌, ℕ, ◌+◌, ◌*◌, ◌≤◌, Bool, true, false, ◌==◌, ◌&&◌, not, refl, sym, ap, ◌∙◌, arith, eq-eqb, eqb-true, subst, ◌↔◌, inl, inr, both_ways, not_not_back, not_not, and_false, true≢false, count_complement, count_congr, count_le, count_minus, count_singleton, total_none, Within, bit, count, Outside, Set, complement, everything, minus, none, singleton, union}
use Rattle.barrier_kit.proofs.Common.{perfect_congr}
use Rattle.graph_core.proofs.Common.{berge_bound, degrees, joined_or_not, missed_edges, none_missed-perfect, parted, perfect_matching, perfect_misses, odd_component_count, Attains, Graph, IsConnected, IsGraph, InD, degree, in_cut, inside, size, HasPerfect, IsMatching, IsMaximum, IsPerfect, missed_count, Joined}
use Rattle.match_core.proofs.Gallai.{no_two}
use Rattle.match_core.proofs.TutteBerge.{tutte_berge}
use Rattle.theorems.proofs.AddedEdges.{degrees_outside}
use Rattle.theorems.proofs.MatchedWithin.{met_once}
use Rattle.theorems.specs.Matchings.{IsFactorCritical}

-- Tutte's theorem for G - R
pub tutte_without : (g : Graph) (r : Set) → IsGraph g → HasPerfect g r ↔ ((s : Set) → Outside r s → odd_component_count g (union r s) ≤ count g.order s)
tutte_without g r is = (
  (λ p s o. let b = berge_bound g r s p.0 is (perfect_matching g r p.0 p.1) in let z = perfect_misses g r p.0 p.1 in omega arith),
  (λ h. let t = tutte_berge g r is in
      let few = h t.s t.outside in
      (t.m, none_missed-perfect g r t.m t.is (omega arith))),
)

pub tutte : (g : Graph) → IsGraph g → HasPerfect g none ↔ ((s : Set) → odd_component_count g s ≤ count g.order s)
tutte g is = (
  (λ p s. (tutte_without g none is).0 p s (λ v h. refl)),
  (λ h. (tutte_without g none is).1 (λ s o. h s)),
)

-- Berge's formula: no matching misses fewer vertices than o(S) - |S|, a maximum one misses so many
-- for some S, and one that does is maximum
pub berge_attained : (g : Graph) (m : Set) → IsGraph g → IsMaximum g none m → (s : Set) × Attains g none s m
berge_attained g m is mm =
    let t = tutte_berge g none is in
    let b = berge_bound g none t.s m is mm.is in
    let c = missed_edges g none m is mm.is in
    let d = missed_edges g none t.m is t.is in
    let l = mm.most t.m t.is in
    (t.s, let e : missed_count g none m + count g.order t.s ≡ odd_component_count g (union none t.s) = omega arith in e)

pub attained_maximum : (g : Graph) (s m : Set) → IsGraph g → IsMatching g none m → Attains g none s m → IsMaximum g none m
attained_maximum g s m is mm at = record {
  is = mm;
  most = λ k kk. let b = berge_bound g none s k is kk in let c = missed_edges g none m is mm in let d = missed_edges g none k is kk in omega arith;
}

module _ (g : Graph) (is : IsGraph g) where
  -- a connected graph of which each vertex is missed by some maximum matching
  pub critical_from : IsConnected g → ((v : ℕ) → Within g.order v → InD g v) → IsFactorCritical g everything
  unfolding Joined
  critical_from connected missed v wv h =
      let m = missed v wv in
      let r : Set = singleton v in
      let p : IsPerfect g (singleton v) m.0 = record {
        once = λ w ww o. met_once (degree g m.0 w) (m.1.is.once w ww) (λ z.
            let j = connected v w wv ww in
            no_two g is none (λ u wu e. missed u wu) j.0 m.0 m.1 v w j.1 (λ q. both_ways (v == w) o (eq-eqb v w q)) m.2 z);
        away = λ w ww o. subst (λ u. degree g m.0 u ≡ 0) (eqb-true v w o) m.2;
      } in
      (m.0, perfect_congr g (singleton v) (complement (minus everything (singleton v))) m.0 (λ w ww. not_not_back (v == w)) p)

  module _ (critical : IsFactorCritical g everything) where
    -- a perfect matching without v
    without : (v : ℕ) → Within g.order v → HasPerfect g (singleton v)
    without v wv = let p = critical v wv refl in (p.0, perfect_congr g (complement (minus everything (singleton v))) (singleton v) p.0 (λ w ww. not_not (v == w)) p.1)

    pub critical_missed : (v : ℕ) → Within g.order v → InD g v
    critical_missed v wv = (k.0, record { is = matching; most = most }, k.1.away v wv (eq-eqb v v refl))
      where
        k : HasPerfect g (singleton v)
        k = without v wv

        matching : IsMatching g none k.0
        matching = record { once = (perfect_matching g (singleton v) k.0 k.1).once; away = λ w ww h. absurd (true≢false (sym h)) }

        most : (j : Set) → IsMatching g none j → count (size g) j ≤ count (size g) k.0
        most j jj =
            let a = missed_edges g none j is jj in
            let b = missed_edges g (singleton v) k.0 is (perfect_matching g (singleton v) k.0 k.1) in
            let c = perfect_misses g (singleton v) k.0 k.1 in
            let d = count_le g.order (complement none) in
            let e = count_complement g.order (singleton v) in
            let f = count_singleton g.order v wv in omega arith

    -- the vertices of x but v, where no edge leaves x
    even_rest : (x : Set) (v : ℕ) → Within g.order v → ((e : ℕ) → Within (size g) e → in_cut g x e ≡ false) → (k : ℕ) × (count g.order (minus x (singleton v)) ≡ 2 * k)
    even_rest x v wv closed =
        let p = without v wv in
        let a = degrees g is p.0 x in
        let b = degrees_outside g (singleton v) p.0 x p.1 in
        let c : count (size g) (λ e. p.0 e && in_cut g x e) ≡ 0 = total_none (size g) _ (λ e w. ap bit (ap (λ b. p.0 e && b) (closed e w) ∙ and_false (p.0 e))) in
        (count (size g) (λ e. p.0 e && inside g x e), omega arith)

    pub critical_connected : IsConnected g
    critical_connected u w wu ww = elim (joined_or_not g none is u w wu) [
      | inl j ↦ j
      | inr never ↦
          let x = (parted g u w is wu ww).0 never in
          let a = even_rest x.0 u wu x.3 in
          let b = even_rest x.0 w ww x.3 in
          let c = count_minus g.order x.0 u wu x.1 in
          let d : count g.order (minus x.0 (singleton w)) ≡ count g.order x.0 = count_congr g.order _ _ (λ v wv. off (x.0 v) (w == v) (λ t. ap x.0 (sym (eqb-true w v t)) ∙ x.2)) in
          absurd (omega arith)
    ]
      where
        off : (s t : Bool) → (t ≡ true → s ≡ false) → (s && not t) ≡ s
        off s t h = grind arith

pub gallai_lemma : (g : Graph) → IsGraph g → IsFactorCritical g everything ↔ (IsConnected g × ((v : ℕ) → Within g.order v → InD g v))
gallai_lemma g is = (
  (λ c. (critical_connected g is c, critical_missed g is c)),
  (λ h. critical_from g is h.0 h.1),
)
