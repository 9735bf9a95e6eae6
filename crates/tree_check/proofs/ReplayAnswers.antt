-- The three answers to a script exclude one another, and each is determined: a move has one
-- result at most, so two replays go through the same trees, and a derivation has no refusal.
use Rattle.graph_core.proofs.from_counting.Common.{◌≡◌, ◌↔◌, ◌+◌, ℕ, List, [], ◌∷◌, inl, inr, sym, ◌∙◌, ap, subst, arith, none-some, same_Some}
use Rattle.graph_core.proofs.Common.{Graph, IsGraph}
use Rattle.tree_core.proofs.Common.{PlainMove, TurnsThrough, Shape}
use Rattle.tree_core.specs.declared.tree.Tree.{Tree}
use Rattle.tree_check.proofs.FirstRefusals.{refused-not_derived, refused-once}
use Rattle.tree_check.specs.Common.{Why, IsRefused, without_matching, IsReplay, IsStuckAt, IsRefusedMoveAt}
use Rattle.tree_check.specs.declared.judgement.Why.{Why as StoredWhy}
use Rattle.tree_check.specs.declared.replaying.Replayed.{Replayed}
use Rattle.tree_check.specs.declared.replaying.Replayed.TheVariants.{Done, Stuck, Refused}

-- one last tree
pub last-once : (g : Graph) (s t u : Shape) (ms : List PlainMove) → TurnsThrough g s ms t → TurnsThrough g s ms u → t ≡ u
last-once g s t u [] first second = sym first ∙ second
last-once g s t u (m ∷ ms) first second =
    last-once g first.0 t u ms first.3 (subst (λ (r : Shape). TurnsThrough g r ms u) (same_Some _ _ (sym second.1 ∙ first.1)) second.3)

turns-not_stuck : (g : Graph) (s t : Shape) (ms : List PlainMove) (at : ℕ) → TurnsThrough g s ms t → IsStuckAt g s ms at → ⊥
turns-not_stuck g s t [] at turns stuck = stuck
turns-not_stuck g s t (m ∷ ms) at turns stuck = elim stuck [
  | inl here ↦ none-some _ (sym here.1 ∙ turns.1)
  | inr later ↦
      let j = later.3 in
      turns-not_stuck g turns.0 t ms j.0 turns.3 (subst (λ (r : Shape). IsStuckAt g r ms j.0) (same_Some _ _ (sym later.1 ∙ turns.1)) j.2)
]

stuck-once : (g : Graph) (s : Shape) (ms : List PlainMove) (i j : ℕ) → IsStuckAt g s ms i → IsStuckAt g s ms j → i ≡ j
stuck-once g s [] i j first second = absurd first
stuck-once g s (m ∷ ms) i j first second = elim first [
  | inl here ↦ grind arith
  | inr behind ↦ elim second [
    | inl there ↦ absurd (none-some _ (sym there.1 ∙ behind.1))
    | inr later ↦
        let a = behind.3 in
        let b = later.3 in
        a.1 ∙ ap (λ k. 1 + k) (stuck-once g behind.0 ms a.0 b.0 a.2 (subst (λ (r : Shape). IsStuckAt g r ms b.0) (same_Some _ _ (sym later.1 ∙ behind.1)) b.2)) ∙ sym b.1
  ]
]

module _ (g : Graph) (is : IsGraph g) where
  turns-not_refused : (s t : Shape) (ms : List PlainMove) (at node : ℕ) (why : Why) → TurnsThrough g s ms t → IsRefusedMoveAt g s ms at node why → ⊥
  turns-not_refused s t [] at node why turns refused = refused
  turns-not_refused s t (m ∷ ms) at node why turns refused =
      let same : refused.0 ≡ turns.0 = same_Some _ _ (sym refused.1 ∙ turns.1) in
      elim refused.2 [
        | inl here ↦ refused-not_derived g is turns.0 node why turns.2 (subst (λ (r : Shape). IsRefused g r node why) same here.1)
        | inr later ↦ let j = later.1 in turns-not_refused turns.0 t ms j.0 node why turns.3 (subst (λ (r : Shape). IsRefusedMoveAt g r ms j.0 node why) same j.2)
      ]

  stuck-not_refused : (s : Shape) (ms : List PlainMove) (i at node : ℕ) (why : Why) → IsStuckAt g s ms i → IsRefusedMoveAt g s ms at node why → ⊥
  stuck-not_refused s [] i at node why stuck refused = stuck
  stuck-not_refused s (m ∷ ms) i at node why stuck refused = elim stuck [
    | inl here ↦ none-some _ (sym here.1 ∙ refused.1)
    | inr behind ↦
        let a = behind.3 in
        let same : refused.0 ≡ behind.0 = same_Some _ _ (sym refused.1 ∙ behind.1) in
        elim refused.2 [
          | inl there ↦ refused-not_derived g is behind.0 node why behind.2 (subst (λ (r : Shape). IsRefused g r node why) same there.1)
          | inr later ↦ let j = later.1 in stuck-not_refused behind.0 ms a.0 j.0 node why a.2 (subst (λ (r : Shape). IsRefusedMoveAt g r ms j.0 node why) same j.2)
        ]
  ]

  -- one first failing move, and one first refusal of its result
  pub refused_move-once : (s : Shape) (ms : List PlainMove) (i j k l : ℕ) (a b : Why) → IsRefusedMoveAt g s ms i k a → IsRefusedMoveAt g s ms j l b → (i ≡ j) × (k ≡ l) × (without_matching a ≡ without_matching b)
  refused_move-once s [] i j k l a b first second = absurd first
  refused_move-once s (m ∷ ms) i j k l a b first second =
      let r : Shape = first.0 in
      let same : second.0 ≡ r = same_Some _ _ (sym second.1 ∙ first.1) in
      elim first.2 [
        | inl here ↦ grind (arith, refused-once g is r k l a b here.1, refused-not_derived g is r k a)
        | inr behind ↦ elim second.2 [
          | inl there ↦ absurd (refused-not_derived g is r l b behind.0 (subst (λ (o : Shape). IsRefused g o l b) same there.1))
          | inr later ↦
              let p = behind.1 in
              let q = later.1 in
              let one = refused_move-once r ms p.0 q.0 k l a b p.2 (subst (λ (o : Shape). IsRefusedMoveAt g o ms q.0 l b) same q.2) in
              (p.1 ∙ ap (λ h. 1 + h) one.0 ∙ sym q.1, one.1, one.2)
        ]
      ]

  -- so a right answer is the one that is true
  pub done-exactly : (s : Shape) (ms : List PlainMove) (answer : Replayed) → IsReplay g s ms answer → ((tree : Tree) × (answer ≡ Done tree)) ↔ ((t : Shape) × TurnsThrough g s ms t)
  done-exactly s ms answer right = grind (arith, turns-not_stuck g s, turns-not_refused s)

  pub stuck-exactly : (s : Shape) (ms : List PlainMove) (answer : Replayed) (at : ℕ) → IsReplay g s ms answer → (answer ≡ Stuck at) ↔ IsStuckAt g s ms at
  stuck-exactly s ms answer at right = grind (arith, turns-not_stuck g s, stuck-once g s ms, stuck-not_refused s ms at)

  pub refused-exactly : (s : Shape) (ms : List PlainMove) (answer : Replayed) (at : ℕ) → IsReplay g s ms answer → ((node : ℕ) × (why : StoredWhy) × (answer ≡ Refused at node why)) ↔ ((node : ℕ) × (why : Why) × IsRefusedMoveAt g s ms at node why)
  refused-exactly s ms answer at right = grind (arith, turns-not_refused, stuck-not_refused, refused_move-once)
