-- The walk along two perfect matchings as the code makes it: the edges are appended one by one,
-- and the vertices used are those passed.
use Rattle.graph_core.proofs.from_counting.Common.{◌≡◌, ℕ, suc, zero, ◌+◌, ◌≤◌, Bool, true, false, cond, ◌==◌, ◌||◌, not, sym, ap, ◌∙◌, arith, subst, List, [], ◌∷◌, ◌++◌, drop, Some, slice_get, append_assoc, fun_ext, and_parts, or_right, count_more, or_false_back, Within, count, mem, Set, complement}
use Rattle.graph_core.proofs.Common.{Graph, IsGraph}
use Rattle.two_ears.specs.from_match_core.declared.matching.MatchRow.{MatchRow}
use Rattle.ear_core.specs.Common.{row_edge, mate, KeepsMates, LeadsAlternately, IsClear, IsTraced, HoldsMatesOff, IsMatedEar, AreMatedEars, is_left, PlainEar, trail, is_met}
use Rattle.ear_core.proofs.TraceEdges.{start_mem}
use Rattle.ear_core.proofs.NextStages.{met-within}
use Rattle.ear_core.proofs.Mates.{AreMates}
use Rattle.ear_core.proofs.MatedPaths.{path_ends, path_goes_on, passed_too, next_is_clear, fewer_left}
use Rattle.ear_core.proofs.Rounds.{with_trail, one-more, none-left, passed-too, left-clear, path-mated}

-- the row at place i decides, or those after it
row-behind : (rows : List MatchRow) (i : ℕ) (row : MatchRow) (v : ℕ) → slice_get rows i ≡ Some row → row_edge (drop i rows) v ≡ cond (row.a == v || row.b == v) row.edge (row_edge (drop (suc i) rows) v)
row-behind [] i row v is = cc
row-behind (r ∷ rows) zero row v is = let e : r ≡ row = cc in ap (λ (r : MatchRow). cond (r.a == v || r.b == v) r.edge (row_edge rows v)) e
row-behind (r ∷ rows) (suc i) row v is = row-behind rows i row v is

pub row-at : (rows : List MatchRow) (i : ℕ) (row : MatchRow) (v : ℕ) → slice_get rows i ≡ Some row → row_edge (drop i rows) v ≡ cond (row.a == v || row.b == v) row.edge (row_edge (drop (i + 1) rows) v)
row-at rows i row v is = let next : suc i ≡ i + 1 = omega arith in row-behind rows i row v is ∙ ap (λ k. cond (row.a == v || row.b == v) row.edge (row_edge (drop k rows) v)) next

-- the vertices passed by one edge
pub passed-by : (used first passed : List ℕ) (v w : ℕ) → ((u : ℕ) → mem first u ≡ (mem used u || v == u)) → ((u : ℕ) → mem passed u ≡ (mem first u || w == u)) → (u : ℕ) → mem passed u ≡ (mem used u || (v == u || w == u))
passed-by used first passed v w is_first is_passed u = grind arith

-- the walk goes on from x, with fewer vertices that are not used, by the edges e and d
pub record GoesOn (g : Graph) (met : Set) (m n : ℕ → ℕ) (z : Set) (v : ℕ) (passed : Set) (x e d : ℕ) : Type 0 where
  pub clear : IsClear g met m n passed x
  pub fewer : count g.order (complement passed) + 1 ≤ count g.order (complement z)
  pub longer : (old mid new : List ℕ) → mid ≡ (old ++ e ∷ []) ++ d ∷ [] → (after : Set) → IsTraced g met m n passed x mid new after → IsTraced g met m n z v old new after

-- an ear was made off z; what it leaves has further ears
pub record IsMade (g : Graph) (f : Set) (m n : ℕ → ℕ) (met z after : Set) (ear : PlainEar) : Type 0 where
  pub holds : HoldsMatesOff g met m n after
  pub fewer : count g.order (complement after) + 1 ≤ count g.order (complement z)
  pub more : (ears : List PlainEar) → AreMatedEars g f m n after ears → AreMatedEars g f m n z (ear ∷ ears)

module _ (g : Graph) (is : IsGraph g) (met : Set) (m : ℕ → ℕ) (pm : AreMates g m) (n : ℕ → ℕ) (pn : AreMates g n) (keeps : KeepsMates g n met) (z : Set) (v : ℕ) (wv : Within g.order v) (clear : IsClear g met m n z v)
    (e w : ℕ) (edge : e ≡ m v) (other : w ≡ mate g m v) (passed : Set) (joined : (u : ℕ) → passed u ≡ (z u || (v == u || w == u))) where
  -- the path ends
  pub traced-short : met w ≡ true → (old new : List ℕ) → new ≡ old ++ e ∷ [] → IsTraced g met m n z v old new passed
  traced-short t old new appended = grind (arith, path_ends g is met m pm n pn keeps z v wv clear (ap met (sym other) ∙ t), or_false_back)

  module _ (off : met w ≡ false) where
    out : met (mate g m v) ≡ false
    out = ap met (sym other) ∙ off

    passed-is : passed ≡ passed_too g is met m pm n pn keeps z v wv clear out
    unfolding passed_too
    passed-is = fun_ext (λ u. joined u ∙ ap (λ x. z u || (v == u || x == u)) other)

    module _ (d x : ℕ) (back : d ≡ n w) (next : x ≡ mate g n w) where
      next-is : x ≡ mate g n (mate g m v)
      next-is = next ∙ ap (mate g n) other

      next-clear : IsClear g met m n passed x
      next-clear = subst (λ (y : Set). IsClear g met m n y x) (sym passed-is) (subst (λ u. IsClear g met m n (passed_too g is met m pm n pn keeps z v wv clear out) u) (sym next-is) (next_is_clear g is met m pm n pn keeps z v wv clear out))

      next-fewer : count g.order (complement passed) + 1 ≤ count g.order (complement z)
      next-fewer = subst (λ (y : Set). count g.order (complement y) + 1 ≤ count g.order (complement z)) (sym passed-is) (fewer_left g is met m pm n pn keeps z v wv clear out)

      traced-longer : (old mid new : List ℕ) → mid ≡ (old ++ e ∷ []) ++ d ∷ [] → (after : Set) → IsTraced g met m n passed x mid new after → IsTraced g met m n z v old new after
      traced-longer old mid new appended after traced =
          let es = traced.0 in
          let p : LeadsAlternately g met m n (passed_too g is met m pm n pn keeps z v wv clear out) (mate g n (mate g m v)) es =
          subst (λ u. LeadsAlternately g met m n (passed_too g is met m pm n pn keeps z v wv clear out) u es) next-is (subst (λ (y : Set). LeadsAlternately g met m n y x es) passed-is traced.2) in (
            m v ∷ n (mate g m v) ∷ es,
            traced.1 ∙ ap (λ (xs : List ℕ). xs ++ es) appended ∙ append_assoc (old ++ e ∷ []) (d ∷ []) es ∙ append_assoc old (e ∷ []) (d ∷ es) ∙ ap (λ k. old ++ k ∷ d ∷ es) edge ∙ ap (λ k. old ++ m v ∷ k ∷ es) (back ∙ ap n other),
            path_goes_on g is met m pm n pn keeps z v wv clear out es p,
            λ u. traced.3 u ∙ ap (λ b. b || mem (trail g x es) u) (joined u) ∙ three (z u) (v == u) (w == u) (mem (trail g x es) u) ∙ ap (λ k. z u || (v == u || (k == u || mem (trail g x es) u))) other ∙ ap (λ k. z u || (v == u || (mate g m v == u || mem (trail g k es) u))) next-is,
          )
        where
          three : (a b c d : Bool) → ((a || (b || c)) || d) ≡ (a || (b || (c || d)))
          three a b c d = grind arith

      pub goes-on : GoesOn g met m n z v passed x e d
      goes-on = record { clear = next-clear; fewer = next-fewer; longer = traced-longer }

module _ (g : Graph) (is : IsGraph g) (f : Set) (m n : ℕ → ℕ) (met : Set) (same : (v : ℕ) → met v ≡ is_met g f v) where
  met-is : met ≡ is_met g f
  met-is = fun_ext same

  -- if no vertex is left, there are no further ears
  pub collected-none : (z : Set) → ((v : ℕ) → Within g.order v → is_left met f m z v ≡ false) → AreMatedEars g f m n z []
  collected-none z nothing = none-left g f m n z (subst (λ (t : Set). (v : ℕ) → Within g.order v → is_left t f m z v ≡ false) met-is nothing)

  module _ (z : Set) (holds : HoldsMatesOff g met m n z) (v : ℕ) (left : is_left met f m z v ≡ true) where
    left-there : is_left (is_met g f) f m z v ≡ true
    left-there = subst (λ (t : Set). is_left t f m z v ≡ true) met-is left

    holds-there : HoldsMatesOff g (is_met g f) m n z
    holds-there = subst (λ (t : Set). HoldsMatesOff g t m n z) met-is holds

    pub start-clear : IsClear g met m n z v
    start-clear = subst (λ (t : Set). IsClear g t m n z v) (sym met-is) (left-clear g f m n z v holds-there left-there)

    module _ (edges : List ℕ) (after : Set) (traced : IsTraced g met m n z v [] edges after) where
      path : LeadsAlternately g (is_met g f) m n z v edges
      path = subst (λ (t : Set). LeadsAlternately g t m n z v edges) met-is (subst (λ (es : List ℕ). LeadsAlternately g met m n z v es) (sym traced.1) traced.2)

      mated : IsMatedEar g f m n (record { begin = v; edges = edges })
      mated = path-mated g f m n z v edges left-there path

      after-is : after ≡ with_trail g z (record { begin = v; edges = edges })
      after-is = fun_ext (λ u. traced.3 u ∙ ap (λ (es : List ℕ). z u || mem (trail g v es) u) (sym traced.1))

      after-holds : HoldsMatesOff g met m n after
      after-holds = subst (λ (t : Set). HoldsMatesOff g t m n after) (sym met-is) (subst (λ (y : Set). HoldsMatesOff g (is_met g f) m n y) (sym after-is) (passed-too g f m n z (record { begin = v; edges = edges }) holds-there mated))

      after-fewer : count g.order (complement after) + 1 ≤ count g.order (complement z)
      after-fewer =
          let fresh = start-clear.fresh in
          count_more g.order (complement after) (complement z) (λ u h. ap not (none_of (z u) (after u) _ (traced.3 u) h)) v (met-within g is f v (and_parts (is_met g f v) _ left-there).0) (ap not (in_after (traced.3 v))) (ap not fresh)
        where
          none_of : (a b c : Bool) → b ≡ (a || c) → not b ≡ true → a ≡ false
          none_of a b c p q = grind arith

          in_after : after v ≡ (z v || mem (trail g v traced.0) v) → after v ≡ true
          in_after p = p ∙ or_right (z v) _ (start_mem g v traced.0)

      collected-more : (ears : List PlainEar) → AreMatedEars g f m n after ears → AreMatedEars g f m n z (record { begin = v; edges = edges } ∷ ears)
      collected-more ears more = one-more g f m n z (record { begin = v; edges = edges }) ears mated path.avoid (subst (λ (y : Set). AreMatedEars g f m n y ears) after-is more)

      pub ear-made : IsMade g f m n met z after (record { begin = v; edges = edges })
      ear-made = record { holds = after-holds; fewer = after-fewer; more = collected-more }

-- the list with one ear more and the further ones
pub ears-more : (old mid new : List PlainEar) (a : PlainEar) (more : List PlainEar) → mid ≡ old ++ a ∷ [] → new ≡ mid ++ more → new ≡ old ++ a ∷ more
ears-more old mid new a more is_mid is_new = is_new ∙ ap (λ (xs : List PlainEar). xs ++ more) is_mid ∙ append_assoc old (a ∷ []) more
