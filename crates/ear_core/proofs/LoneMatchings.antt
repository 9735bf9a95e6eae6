-- From a single ear to a matching. If a stage with an ear is matching covered and the rest has a
-- perfect matching, then this one, the odd edges of the ear and a perfect matching of the stage
-- without the two ends are a perfect matching that leads out of the stage at the two ends alone.
use Rattle.graph_core.proofs.from_counting.Common.{◌≡◌, ◌≢◌, ℕ, ◌≤◌, true, false, not, refl, sym, ap, arith, eq-eqb, inl, inr, List, ◌∷◌, both_ways, cases_Bool, false_from_ne_true, or_cases, or_from, or_left, or_right, true≢false, or_false_back, Within, mem, Set, none, pair_set, union}
use Rattle.graph_core.proofs.Common.{ends_le_degree, ends_of, IsCovered, Graph, IsGraph, IsMultigraph, first_end, second_end, size, IsEnd, IsPerfect}
use Rattle.ear_core.proofs.AddedEars.{evens_at, odd_on}
use Rattle.ear_core.proofs.NeededPairs.{stage-serves}
use Rattle.ear_core.proofs.NextStages.{met-within}
use Rattle.ear_core.proofs.Rests.{covered-meets, filled, rest-perfect}
use Rattle.ear_core.proofs.ServingEars.{off-same}
use Rattle.ear_core.proofs.Stepping.{still-met}
use Rattle.ear_core.proofs.TraceEdges.{mem_odds, trail_has}
use Rattle.ear_core.specs.Common.{AreSteps, IsForced, IsSingle, PlainEar, PlainStep, one, two, IsEar, last_vertex, IsPerfectBy, LeadsAtTwo, barred, is_open, odds, IsPerfectOff, IsStage, is_met, with_edges}

-- an edge with no barred end is open
pub open-ends : (g : Graph) (f : Set) (u v e : ℕ) → ((w : ℕ) → IsEnd g e w → barred g f u v e w ≡ false) → is_open g f u v e ≡ true
open-ends g f u v e free = ap not (or_from (barred g f u v e (first_end g e)) (barred g f u v e (second_end g e)) (free (first_end g e) (inl refl)) (free (second_end g e) (inr refl)))

-- an end counts
pub end-counts : (g : Graph) (e w : ℕ) → IsEnd g e w → 1 ≤ ends_of g e w
unfolding ends_of
end-counts g e w h = grind arith

-- the two ends of an ear differ
pub ends-differ : (g : Graph) (f : Set) (v : ℕ) (es : List ℕ) → IsEar g f v es → v ≢ last_vertex g v es
ends-differ g f v es ear same = grind (arith, evens_at g f v es ear v, eq-eqb v v refl, eq-eqb (last_vertex g v es) v (sym same))

module _ (g : Graph) (is : IsGraph g) (f : Set) (v : ℕ) (es : List ℕ) (ear : IsEar g f v es) (q : Set) (serves : IsPerfectOff g f (pair_set v (last_vertex g v es)) q) (r : Set) (rest : IsPerfect g (is_met g (with_edges f es)) r) where
  grown : IsPerfectOff g (with_edges f es) none (with_edges q (odds es))
  grown = grind (arith, odd_on g f v es ear none q, true≢false, off-same g f (pair_set v (last_vertex g v es)) (union (pair_set v (last_vertex g v es)) none) q, or_false_back)

  -- an edge on the stage has no end at the ends of the ear
  on-open : (e : ℕ) → Within (size g) e → q e ≡ true → is_open g f v (last_vertex g v es) e ≡ true
  on-open e we t = grind (arith, open-ends g f v (last_vertex g v es) e, false_from_ne_true, ends_le_degree g q e, end-counts g e)

  -- an edge off the stage has no end at another vertex of the stage
  off-open : (e : ℕ) → f e ≡ false → ((w : ℕ) → IsEnd g e w → is_met g f w ≡ true → pair_set v (last_vertex g v es) w ≡ true) → is_open g f v (last_vertex g v es) e ≡ true
  off-open e off among = grind arith

  ear-open : (e : ℕ) → mem es e ≡ true → is_open g f v (last_vertex g v es) e ≡ true
  ear-open e i = grind (arith, off-open e (ear.new e i), cases_Bool, both_ways, trail_has g v es ear.follow e, end-counts g e, or_left, eq-eqb v, or_right, eq-eqb (last_vertex g v es))

  rest-open : (e : ℕ) → Within (size g) e → r e ≡ true → is_open g f v (last_vertex g v es) e ≡ true
  rest-open e we t = grind (arith, off-open e, false_from_ne_true (f e), both_ways (r e), or_left (f e) (mem es e), met-within g is f, still-met g f es, ends_le_degree g r e, end-counts g e)

  pub lone-made : IsPerfectBy g (is_open g f v (last_vertex g v es)) (union (with_edges q (odds es)) r)
  lone-made = grind (arith, filled, none, true≢false, grown, or_cases, rest-open, mem, on-open, ear-open, mem_odds)

-- where an ear list goes on by a single ear, a perfect matching leads out at two vertices alone
pub single-leads : (g : Graph) → IsMultigraph g → IsCovered g → (f : Set) → IsStage g f → (c : PlainEar) (steps : List PlainStep) → AreSteps g f (one c ∷ steps) → (m : Set) × LeadsAtTwo g f m
single-leads g is cov f stage c steps goes =
    let q = stage-serves g is.ends f stage c.begin c.edges goes.0 goes.1 in
    let r = rest-perfect g is.ends (covered-meets g is cov) (with_edges f c.edges) steps goes.2 in (
      union (with_edges q.0 (odds c.edges)) r.0,
      (c.begin, last_vertex g c.begin c.edges, ends-differ g f c.begin c.edges goes.0, goes.0.start, goes.0.end, lone-made g is.ends f c.begin c.edges goes.0 q.0 q.1 r.0 r.1),
    )

-- so where none does, each step is forced
pub none-forced : (g : Graph) → IsMultigraph g → IsCovered g → (f : Set) → IsStage g f → ((m : Set) → LeadsAtTwo g f m → ⊥) → (s : PlainStep) → IsForced g f s
none-forced g is cov f stage never (one a) = tt
none-forced g is cov f stage never (two a b) = λ c steps goes. let m = single-leads g is cov f stage c steps goes in never m.0 m.1

-- a single step is forced
pub single-forced : (g : Graph) (f : Set) (s : PlainStep) → IsSingle s → IsForced g f s
single-forced g f s single = grind arith
