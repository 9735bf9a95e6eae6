-- Is the step of the graph with a blossom shrunk one of the graph, also by mates? The matching of
-- the smaller graph leaves the blossom at its base or at a neighbour of some vertex of it; it is
-- completed there.
use Rattle.graph_core.proofs.from_counting.Common.{◌≡◌, ◌≢◌, ℕ, ◌+◌, ◌≤◌, ◌<◌, ◌⊎◌, true, refl, sym, ap, ◌∙◌, arith, ◌||◌, inl, inr, subst, List, fun_ext, or_cases, count_le, Within, count, Set, complement, union, mem}
use Rattle.graph_core.proofs.Common.{Graph, HasEnds, IsGraph, IsMatching, degree, size, with_ends}
use Rattle.match_search.specs.Common.{Frame, shrunk_removed, HasMates, paired_round, with_mate, with_pair, IsOddCycle, every_other, listed, picked, IsOpenedCycle, IsWidened, StepAnswer, shrunk_ends}
use Rattle.match_search.specs.declared.answer.Answer.{Answer}
use Rattle.match_search.specs.declared.answer.Answer.TheVariants.{Grown, Final}
use Rattle.match_search.proofs.ClosingPairs.{mates_alike}
use Rattle.match_search.proofs.OddCycles.{cycle_holds, cycle_size, every_other-near_perfect}
use Rattle.match_search.proofs.OpenedPairs.{full_count, full_pairs}
use Rattle.match_search.proofs.NearPerfectSets.{near_perfect_count}
use Rattle.match_search.proofs.ShrunkFrames.{frame_up}
use Rattle.match_search.proofs.Shrinking.{tip}
use Rattle.match_search.proofs.ShrunkMatchings.{up}
use Rattle.match_search.proofs.BlossomMates.{pulls, first_within, cr, cw, wz, cz, halves, near_sets, graph, downs, smaller, below_size, same_size, blossom_missed, free_mates, moved, moved_mates, moved_missed, moved_count}

-- a matching with one more edge, or a frame
abbrev pub Step : Graph → Set → Set → Type 0
Step g r f = ((m : Set) × IsMatching g r m × (count (size g) m ≡ count (size g) f + 1)) ⊎ ((outer : Set) × (inner : Set) × Frame g r (count (size g) f) outer inner)

module _ (g : Graph) (is : IsGraph g) (r f m : Set) (n : ℕ) (c e : ℕ → ℕ) (opened : IsOpenedCycle g r f m n c e) where
  abbrev cs : Set
  cs = listed n c

  abbrev z : ℕ
  z = c 1

  abbrev es : List (ℕ × ℕ)
  es = shrunk_ends g cs z

  abbrev H : Graph
  H = with_ends g es

  abbrev rs : Set
  rs = shrunk_removed r cs z

  abbrev cyc : IsOddCycle g r n c e
  cyc = opened.cycle

  -- a blossom has one more vertex than so many pairs
  abbrev pairs : ℕ
  pairs = (halves g is r f m n c e opened).0

  -- the cycle's edges round from place t
  abbrev pub round : ℕ → Set
  round t = picked n (every_other t) e

  round_count : (t : ℕ) → Within n t → count (size g) (round t) ≡ pairs
  round_count t w = near_perfect_count g is cs (c t) (round t) (every_other-near_perfect g r n c e cyc t w) pairs (cycle_holds g r n c e cyc t w) (cyc.within t w) (halves g is r f m n c e opened).1

  -- a frame of the shrunk graph is one of the graph
  framed : (outer inner : Set) → Frame H rs (count (size H) m) outer inner → Frame g r (count (size H) m + pairs) (union outer cs) inner
  framed outer inner frame = (frame_up g is r cs z es (pulls g is r f m n c e opened) (cr g is r f m n c e opened) (wz g is r f m n c e opened) (cz g is r f m n c e opened) m outer inner pairs (count (size H) m) (downs g is r f m n c e opened).0 (downs g is r f m n c e opened).1 refl frame (near_sets g is r f m n c e opened) (halves g is r f m n c e opened).1).2

  -- the step of the shrunk graph gives one of the graph
  pub shrink_step : ((h : Graph) → IsGraph h → (s k : Set) → IsMatching h s k → count h.order (complement s) < count g.order (complement r) → Step h s k) → Step g r f
  shrink_step below = elim (below H (graph g is r f m n c e opened) rs m (downs g is r f m n c e opened).0 (smaller g is r f m n c e opened)) [
    | inl a ↦
        let t = tip g is r cs z es (pulls g is r f m n c e opened) (cr g is r f m n c e opened) (wz g is r f m n c e opened) (cz g is r f m n c e opened) a.0 (a.1.once z (wz g is r f m n c e opened)) in
        let d = near_sets g is r f m n c e opened t.0 t.1 t.2 in
        let u = up g is r cs z es (pulls g is r f m n c e opened) (cr g is r f m n c e opened) (wz g is r f m n c e opened) (cz g is r f m n c e opened) a.0 d.0 pairs t.0 a.1 t.1 t.2 t.3 d.1 (halves g is r f m n c e opened).1 in
        inl (union a.0 d.0, u.0, (let x = u.1 in let y = a.2 in let s = below_size g is r f m n c e opened in omega arith))
    | inr a ↦ inr (union a.0 cs, a.1, subst (λ k. Frame g r k (union a.0 cs) a.1) (below_size g is r f m n c e opened) (framed a.0 a.1 a.2))
  ]

  -- the result for the shrunk graph is one for the graph
  pub step_up : (m2 full : Set) → count (size g) full ≡ count (size H) m2 + pairs → (below result : Answer) → (members : List ℕ) → ((v : ℕ) → mem members v ≡ cs v) → StepAnswer H rs m m2 below → IsWidened below (mem members) result → StepAnswer g r f full result
  step_up m2 full u Grown Grown members is_cs a w = let b = (downs g is r f m n c e opened).2 in let s = opened.same in omega arith
  step_up m2 full u Grown (Final sets) members is_cs a w = absurd w
  step_up m2 full u (Final sets) Grown members is_cs a w = absurd w
  step_up m2 full u (Final sets) (Final wide) members is_cs a w = (
    let b = (downs g is r f m n c e opened).2 in let s = opened.same in let q = a.0 in omega arith,
    widened (framed (mem sets.outer) (mem sets.inner) a.1),
    λ v. (λ q. outer_in v (sym (w.0 v) ∙ q), λ q. (a.2 v).1 (sym (ap (λ (x : List ℕ). mem x v) w.1) ∙ q)),
  )
    where
      outer_in : (v : ℕ) → union (mem sets.outer) (mem members) v ≡ true → Within g.order v
      outer_in v q = grind (arith, or_cases (mem sets.outer v) (mem members v) q, cw g is r f m n c e opened v)

      outer_is : mem wide.outer ≡ union (mem sets.outer) cs
      outer_is = fun_ext (λ v. w.0 v ∙ ap (λ b. mem sets.outer v || b) (is_cs v))

      widened : Frame g r (count (size H) m + pairs) (union (mem sets.outer) cs) (mem sets.inner) → Frame g r (count (size g) f) (mem wide.outer) (mem wide.inner)
      widened h = grind (arith, downs g is r f m n c e opened, outer_is)

  -- opened where the base is exposed, and where it has a mate
  pub opened_free : (m2 : Set) (mate : ℕ → ℕ) → HasMates H rs m2 mate → mate z ≡ 0 → (new : ℕ → ℕ) → ((v : ℕ) → new v ≡ paired_round mate n c 1 n v) → (full : Set) × HasMates g r full new × (count (size g) full ≡ count (size H) m2 + pairs)
  opened_free m2 mate has free new h =
      let low = free_mates g is r f m n c e opened m2 mate has free in
      let miss : (v : ℕ) → Within g.order v → cs v ≡ true → v ≢ c 1 → degree g m2 v ≡ 0 = λ v w t s. blossom_missed g is r f m n c e opened m2 mate has free v w t in (
        union m2 (round 1),
        mates_alike g r (union m2 (round 1)) (paired_round mate n c 1 n) new h (full_pairs g is r n c e cyc 1 (first_within g is r f m n c e opened) m2 mate low miss (cr g is r f m n c e opened)),
        (let a = full_count g is r n c e cyc 1 (first_within g is r f m n c e opened) m2 mate low miss (cr g is r f m n c e opened) in let b = round_count 1 (first_within g is r f m n c e opened) in let d = ap (λ (k : ℕ). count k m2) (same_size g is r f m n c e opened) in omega arith),
      )

  pub opened_taken : (m2 : Set) (mate : ℕ → ℕ) → HasMates H rs m2 mate → mate z ≢ 0 → (t : ℕ) → Within n t → (d : ℕ) → Within (size g) d → HasEnds g d (mate z) (c t) → (new : ℕ → ℕ) →
      ((v : ℕ) → new v ≡ paired_round (with_pair (with_mate mate z 0) (mate z) (c t)) n c t n v) → (full : Set) × HasMates g r full new × (count (size g) full ≡ count (size H) m2 + pairs)
  opened_taken m2 mate has taken t wt d wd ends new h =
      let ct = cycle_holds g r n c e cyc t wt in
      let outside : Set = moved g is r f m n c e opened m2 mate has taken (c t) d ct wd ends in
      let low = moved_mates g is r f m n c e opened m2 mate has taken (c t) d ct wd ends in
      let miss : (v : ℕ) → Within g.order v → cs v ≡ true → v ≢ c t → degree g outside v ≡ 0 = λ v w q s. moved_missed g is r f m n c e opened m2 mate has taken (c t) d ct wd ends v w q s in (
        union outside (round t),
        mates_alike g r (union outside (round t)) (paired_round (with_pair (with_mate mate z 0) (mate z) (c t)) n c t n) new h (full_pairs g is r n c e cyc t wt outside (with_pair (with_mate mate z 0) (mate z) (c t)) low miss (cr g is r f m n c e opened)),
        (let a = full_count g is r n c e cyc t wt outside (with_pair (with_mate mate z 0) (mate z) (c t)) low miss (cr g is r f m n c e opened) in let b = round_count t wt in let k = moved_count g is r f m n c e opened m2 mate has taken (c t) d ct wd ends in omega arith),
      )

  -- a blossom has no more vertices than the graph
  pub blossom_short : n ≤ g.order
  blossom_short = let a = cycle_size g r n c e cyc in let b = count_le g.order cs in omega arith

  -- the shrunk graph has the same edge numbers
  pub same_count : (x : Set) → count (size H) x ≡ count (size g) x
  same_count x = ap (λ (k : ℕ). count k x) (same_size g is r f m n c e opened)
