-- A bipartite stage with an ear whose ends lie on opposite sides is bipartite.
-- Idea: the vertices along the ear are put on the two sides in turn. Its length is odd, so its
-- last vertex comes to the side where it stood.
use Rattle.tree_check.proofs.from_counting.Common.{[], ◌≡◌, ◌∙◌, ℕ, ◌≤◌, Bool, true, false, cond, not, ◌&&◌, ◌||◌, ◌==◌, List, ◌∷◌, length, inl, inr, refl, sym, ap, ap₂, arith, eq-eqb, ne_eqb, eqb-true, cases_eq, or_cases, true≢false, not_not, Within, bit, is_odd, mem, times, Set}
use Rattle.ear_text.proofs.from_ear_core.EngineGraphs.{ends-met}
use Rattle.ear_text.proofs.from_ear_core.TraceEdges.{mem_times, start_mem, trail_has, two_less_odd}
use Rattle.ear_text.specs.from_ear_core.Common.{Follow, IsEar, last_vertex, other_end, trail, is_met, with_edges}
use Rattle.graph_core.proofs.Common.{ends_of, Graph, first_end, in_cut, second_end, size}

-- the vertices of the list on two sides in turn, the first on side c
abbrev in_turn : Bool → List ℕ → Set
in_turn c [] w = false
in_turn c (x ∷ xs) w = cond (x == w) c (in_turn (not c) xs w)

head-turn : (g : Graph) (c : Bool) (v : ℕ) (es : List ℕ) → in_turn c (trail g v es) v ≡ c
head-turn g c v [] = ap (λ t. cond t c false) (eq-eqb v v refl)
head-turn g c v (e ∷ es) = ap (λ t. cond t c (in_turn (not c) (trail g (other_end g e v) es) v)) (eq-eqb v v refl)

later-turn : (c : Bool) (x w : ℕ) (xs : List ℕ) → times (x ∷ xs) w ≤ 1 → mem xs w ≡ true → in_turn c (x ∷ xs) w ≡ in_turn (not c) xs w
later-turn c x w xs once m = grind (arith, cases_eq, bit, eq-eqb, mem_times, cond, ne_eqb)

end_mem : (g : Graph) (v : ℕ) (es : List ℕ) → mem (trail g v es) (last_vertex g v es) ≡ true
end_mem g v [] = start_mem g v []
end_mem g v (e ∷ es) = grind (arith, end_mem g (other_end g e v) es)

less-once : (x : ℕ) (xs : List ℕ) → ((w : ℕ) → times (x ∷ xs) w ≤ 1) → (w : ℕ) → times xs w ≤ 1
less-once x xs once w = let o = once w in omega arith

-- the last vertex of an odd path is on the other side
last-turn : (g : Graph) (c : Bool) (v : ℕ) (es : List ℕ) → is_odd (length es) ≡ true → ((w : ℕ) → times (trail g v es) w ≤ 1) → in_turn c (trail g v es) (last_vertex g v es) ≡ not c
last-turn g c v [] odd once = absurd (true≢false (sym odd))
last-turn g c v (e ∷ []) odd once = grind arith
last-turn g c v (e ∷ d ∷ es) odd once =
    let u = other_end g e v in
    let t = other_end g d u in
    let z = last_vertex g t es in
    let more = less-once v (trail g u (d ∷ es)) once in
    let rest = less-once u (trail g t es) more in
    later-turn c v z (trail g u (d ∷ es)) (once z) (end_mem g u (d ∷ es))
    ∙ later-turn (not c) u z (trail g t es) (more z) (end_mem g t es)
    ∙ ap (λ b. in_turn b (trail g t es) z) (not_not c)
    ∙ last-turn g c t es (two_less_odd (length es) odd) rest

-- each edge of a path joins the two sides
differ : Bool → Bool → Bool
differ a b = (a && not b) || (not a && b)

opposite : (c : Bool) → differ c (not c) ≡ true
unfolding differ
opposite true = refl
opposite false = refl

ends-cross : (g : Graph) (x : Set) (e v : ℕ) (c : Bool) → (first_end g e == v || second_end g e == v) ≡ true → x v ≡ c → x (other_end g e v) ≡ not c → in_cut g x e ≡ true
unfolding differ
ends-cross g x e v c h here there = grind arith

cut-same : (g : Graph) (x y : Set) (e : ℕ) → x (first_end g e) ≡ y (first_end g e) → x (second_end g e) ≡ y (second_end g e) → in_cut g y e ≡ true → in_cut g x e ≡ true
unfolding differ
cut-same g x y e a b h = ap₂ differ a b ∙ h

both-on : (g : Graph) (v : ℕ) (es : List ℕ) → Follow g v es → (e : ℕ) → mem es e ≡ true → (mem (trail g v es) (first_end g e) ≡ true) × (mem (trail g v es) (second_end g e) ≡ true)
unfolding ends_of
both-on g v es follow e m = grind (arith, trail_has, first_end, bit, eq-eqb, second_end)

path-crosses : (g : Graph) (c : Bool) (v : ℕ) (es : List ℕ) → Follow g v es → ((w : ℕ) → times (trail g v es) w ≤ 1) → (e : ℕ) → mem es e ≡ true → in_cut g (in_turn c (trail g v es)) e ≡ true
path-crosses g c v [] follow once e m = absurd (true≢false (sym m))
path-crosses g c v (d ∷ es) follow once e m = elim (cases_eq d e) [
  | inl i ↦ grind (arith, in_cut, ends-cross, head-turn, later-turn, start_mem)
  | inr i ↦ elim (or_cases (d == e) (mem es e) m) [
    | inl j ↦ absurd (i (eqb-true d e j))
    | inr j ↦
        let u = other_end g d v in
        let on = both-on g u es follow.1 e j in
        cut-same g (in_turn c (trail g v (d ∷ es))) (in_turn (not c) (trail g u es)) e
        (later-turn c v (first_end g e) (trail g u es) (once (first_end g e)) on.0) (later-turn c v (second_end g e) (trail g u es) (once (second_end g e)) on.1)
        (path-crosses g (not c) u es follow.1 (less-once v (trail g u es) once) e j)
  ]
]

module _ (g : Graph) (f a : Set) (v : ℕ) (es : List ℕ) (ear : IsEar g f v es) (far : a (last_vertex g v es) ≡ not (a v)) where
  turns : Set
  turns = in_turn (a v) (trail g v es)

  -- a on the stage, and in turn along the ear
  new_side : Set
  new_side w = cond (is_met g f w) (a w) (turns w)

  stage-side : (w : ℕ) → is_met g f w ≡ true → new_side w ≡ a w
  unfolding new_side
  stage-side w t = ap (λ b. cond b (a w) (turns w)) t

  ear-side : (w : ℕ) → mem (trail g v es) w ≡ true → new_side w ≡ turns w
  unfolding new_side turns
  ear-side w m = grind (arith, cases_eq, stage-side, head-turn, turns, last-turn, cond)

  pub still-bipartite : ((e : ℕ) → Within (size g) e → f e ≡ true → in_cut g a e ≡ true) → (b : Set) × ((e : ℕ) → Within (size g) e → with_edges f es e ≡ true → in_cut g b e ≡ true)
  unfolding turns
  still-bipartite sides = (
    new_side,
    λ e w t. elim (or_cases (f e) (mem es e) t) [
      | inl i ↦ let m = ends-met g f e w i in cut-same g new_side a e (stage-side (first_end g e) m.0) (stage-side (second_end g e) m.1) (sides e w i)
      | inr i ↦ grind (arith, both-on, cut-same, new_side, turns, ear-side, first_end, second_end, path-crosses)
    ],
  )
