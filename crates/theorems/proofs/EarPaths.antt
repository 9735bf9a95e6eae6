-- The ears that two perfect matchings make at a stage exist.
-- Idea: from a vertex that the one matching leads out of the stage the two matchings are followed
-- in turn; the vertices passed hold their mates, so a new one comes each time, and the path ends
-- on the stage.
use Rattle.tree_check.proofs.from_counting.Common.{[], ◌≡◌, ℕ, zero, suc, ◌+◌, ◌≤◌, ◌<◌, true, false, not, ◌&&◌, refl, sym, ap, ◌∙◌, arith, inl, inr, List, ◌∷◌, subst, Bool, and_parts, both_ways, cases_Bool, cases_eq, false_from_ne_true, or_left, or_right, true≢false, count_more, count_member, count_zero, mem-rising_list, Within, count, mem, rising_list, Set, complement, none}
use Rattle.ear_text.proofs.from_ear_core.MatedPaths.{fewer_left, next_is_clear, next_within, passed_too, path_ends, path_goes_on}
use Rattle.ear_text.proofs.from_ear_core.Mates.{AreMates}
use Rattle.ear_text.proofs.from_ear_core.Rounds.{left-clear, none-left, one-more, passed-too, path-mated, with_trail}
use Rattle.ear_text.proofs.from_ear_core.TraceEdges.{start_mem}
use Rattle.ear_text.specs.from_ear_core.Common.{AreMatedEars, HoldsMatesOff, LeadsAlternately, IsClear, IsPerfectRows, KeepsMates, is_left, mate, PlainEar, trail, is_met}
use Rattle.graph_core.proofs.Common.{degree_congr, Graph, IsGraph, degree, size, IsPerfect}
use Rattle.match_core.proofs.MatchingEdges.{marked-edges, marked-of, marked_matching}
use Rattle.match_core.specs.Common.{edges_of}

-- a perfect matching as rows
listed-perfect : (g : Graph) (m : Set) → IsPerfect g none m → IsPerfect g none (mem (rising_list (size g) m))
listed-perfect g m p = record { once = λ v w o. same v ∙ p.once v w o; away = λ v w o. same v ∙ p.away v w o }
  where
    same : (v : ℕ) → degree g (mem (rising_list (size g) m)) v ≡ degree g m v
    same v = degree_congr g (mem (rising_list (size g) m)) m v (λ e we. mem-rising_list (size g) m e we)

pub perfect-rows : (g : Graph) (m : Set) → IsPerfect g none m → IsPerfectRows g (marked_matching g m)
perfect-rows g m p = record { of = marked-of g m; perfect = subst (λ (es : List ℕ). IsPerfect g none (mem es)) (sym (marked-edges g m)) (listed-perfect g m p) }

pub rows-hold : (g : Graph) (m : Set) (e : ℕ) → Within (size g) e → m e ≡ true → mem (edges_of (marked_matching g m)) e ≡ true
rows-hold g m e w t = ap (λ (es : List ℕ). mem es e) (marked-edges g m) ∙ mem-rising_list (size g) m e w ∙ t

-- a path
module _ (g : Graph) (is : IsGraph g) (met : Set) (m : ℕ → ℕ) (pm : AreMates g m) (n : ℕ → ℕ) (pn : AreMates g n) (keeps : KeepsMates g n met) where
  pub path-exists : (fuel : ℕ) (z : Set) (v : ℕ) → Within g.order v → IsClear g met m n z v → count g.order (complement z) < fuel → (es : List ℕ) × LeadsAlternately g met m n z v es
  path-exists zero z v wv clear less = absurd (omega arith)
  path-exists (suc fuel) z v wv clear less = elim (cases_Bool (met (mate g m v))) [
    | inl t ↦ (m v ∷ [], path_ends g is met m pm n pn keeps z v wv clear t)
    | inr out ↦
        let fewer = fewer_left g is met m pm n pn keeps z v wv clear out in
        let later = path-exists fuel (passed_too g is met m pm n pn keeps z v wv clear out) (mate g n (mate g m v)) (next_within g is met m pm n pn keeps z v wv clear out) (next_is_clear g is met m pm n pn keeps z v wv clear out) (omega arith) in
        (m v ∷ n (mate g m v) ∷ later.0, path_goes_on g is met m pm n pn keeps z v wv clear out later.0 later.1)
  ]

-- a round of ears
module _ (g : Graph) (is : IsGraph g) (f : Set) (m : ℕ → ℕ) (pm : AreMates g m) (n : ℕ → ℕ) (pn : AreMates g n) (keeps : KeepsMates g n (is_met g f)) where
  one-ear : (z : Set) (v : ℕ) → Within g.order v → HoldsMatesOff g (is_met g f) m n z → is_left (is_met g f) f m z v ≡ true → (es : List ℕ) × LeadsAlternately g (is_met g f) m n z v es
  one-ear z v wv holds left = path-exists g is (is_met g f) m pm n pn keeps (count g.order (complement z) + 1) z v wv (left-clear g f m n z v holds left) (omega arith)

  fewer-after : (z : Set) (v : ℕ) (es : List ℕ) → Within g.order v → is_left (is_met g f) f m z v ≡ true → count g.order (complement (with_trail g z (record { begin = v; edges = es }))) + 1 ≤ count g.order (complement z)
  fewer-after z v es wv left =
      let fresh = (and_parts (not (f (m v))) (not (z v)) (and_parts (is_met g f v) (not (f (m v)) && not (z v)) left).1).1 in
      let after = with_trail g z (record { begin = v; edges = es }) in
      count_more g.order (complement after) (complement z)
      (λ u h. ap not (false_from_ne_true (z u) (λ i. both_ways (after u) (flipped (after u) h) (or_left (z u) (mem (trail g v es) u) i))))
      v wv (ap not (or_right (z v) (mem (trail g v es) v) (start_mem g v es))) fresh
    where
      flipped : (b : Bool) → not b ≡ true → b ≡ false
      flipped true h = absurd (true≢false (sym h))
      flipped false h = refl

  pub ears-exist : (fuel : ℕ) (z : Set) → HoldsMatesOff g (is_met g f) m n z → count g.order (complement z) < fuel → (ears : List PlainEar) × AreMatedEars g f m n z ears
  ears-exist zero z holds less = absurd (omega arith)
  ears-exist (suc fuel) z holds less = elim (cases_eq (count g.order (is_left (is_met g f) f m z)) 0) [
    | inl i ↦ ([], none-left g f m n z (count_zero g.order (is_left (is_met g f) f m z) i))
    | inr i ↦
        let v = count_member g.order (is_left (is_met g f) f m z) (omega arith) in
        let path = one-ear z v.0 v.1 holds v.2 in
        let a : PlainEar = record { begin = v.0; edges = path.0 } in
        let mated = path-mated g f m n z v.0 path.0 v.2 path.1 in
        let fewer = fewer-after z v.0 path.0 v.1 v.2 in
        let later = ears-exist fuel (with_trail g z a) (passed-too g f m n z a holds mated) (omega arith) in
        (a ∷ later.0, one-more g f m n z a later.0 mated path.1.avoid later.1)
  ]

  pub round-exists : (ears : List PlainEar) × AreMatedEars g f m n none ears
  round-exists = ears-exist (count g.order (complement none) + 1) none (record { by_m = λ w ww h. absurd (true≢false (sym h)); by_n = λ w ww h o. absurd (true≢false (sym h)) }) (omega arith)
