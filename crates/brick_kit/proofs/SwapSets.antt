-- A set that no edge of two matchings leaves, grown vertex by vertex.
-- Each vertex that comes brings at least one edge inside.
use Rattle.graph_core.proofs.from_counting.Common.{◌≡◌, ℕ, suc, zero, ◌+◌, ◌≤◌, ◌<◌, Bool, true, false, ◌==◌, ◌&&◌, ◌||◌, refl, sym, ◌∙◌, arith, inl, inr, eqb-true, eq-eqb, and_from, and_parts, cases_Bool, or_cases, or_left, count_le, count_more, count_plus, count_mono, count_singleton, some_none, some_true, Within, count, Set, singleton, union, some}
use Rattle.graph_core.proofs.Common.{Graph, HasEnds, IsGraph, in_cut, inside, size}
use Rattle.brick_kit.proofs.CutEnds.{cut_ends, ends_inside, ends_within, same_side}
use Rattle.brick_kit.proofs.Swaps.{Swaps}

-- the edges of m inside d
abbrev pub held : Graph → Set → Set → ℕ
held g m d = count (size g) (λ e. m e && inside g d e)

held_more : (g : Graph) (m d : Set) (z : ℕ) → held g m d ≤ held g m (union d (singleton z))
held_more g m d z = grind (arith, count_mono (size g))

held_new : (g : Graph) (m d : Set) (z e p : ℕ) → Within (size g) e → m e ≡ true → HasEnds g e p z → d p ≡ true → d z ≡ false → held g m d + 1 ≤ held g m (union d (singleton z))
held_new g m d z e p we me ends dp dz =
    count_more (size g) (λ e. m e && inside g d e) (λ e. m e && inside g (union d (singleton z)) e) (λ e h. grind arith) e we
    (off (m e) (inside g d e) (d p) (d z) (ends_inside g d e p z ends) dz)
    (and_from (m e) (inside g (union d (singleton z)) e) me (ends_inside g (union d (singleton z)) e p z ends ∙ on (d p) (z == p) (d z) (z == z) dp (eq-eqb z z refl)))
  where
    off : (k i a b : Bool) → i ≡ (a && b) → b ≡ false → (k && i) ≡ false
    off k i a b h l = grind arith

    on : (a b c d : Bool) → a ≡ true → d ≡ true → ((a || b) && (c || d)) ≡ true
    on a b c d h l = grind arith

module _ (g : Graph) (k m n : Set) (t : ℕ) (is : IsGraph g) (ms : (e : ℕ) → Within (size g) e → m e ≡ true → in_cut g k e ≡ false) (ns : (e : ℕ) → Within (size g) e → n e ≡ true → in_cut g k e ≡ false) where
  abbrev leaves : Set → Set
  leaves d e = (m e || n e) && in_cut g d e

  grow : (fuel : ℕ) (d : Set) → ((v : ℕ) → d v ≡ true → k v ≡ true) → d t ≡ true → count g.order d ≤ (held g m d + held g n d) + 1 → g.order < count g.order d + fuel → (c : Set) × Swaps g k m n t c
  grow zero d inside_k holds many l = let c = count_le g.order d in absurd (omega arith)
  grow (suc fuel) d inside_k holds many l = elim (cases_Bool (some (size g) (leaves d))) [
    | inr f ↦ grind (arith, some_none (size g) (leaves d) f)
    | inl f ↦
        let r = some_true (size g) (leaves d) f in
        let b = and_parts (m r.0 || n r.0) (in_cut g d r.0) r.2 in
        let q = cut_ends g d r.0 b.1 in
        let wz = (ends_within g is r.0 q.0 q.1 r.1 q.2).1 in
        let plus = count_plus g.order d q.1 wz q.4 in
        let um = held_more g m d q.1 in
        let un = held_more g n d q.1 in
        elim (or_cases (m r.0) (n r.0) b.0) [
          | inl me ↦ grow fuel (union d (singleton q.1)) (λ v h. in_k d inside_k q.1 (sym (same_side g k r.0 q.0 q.1 q.2 (ms r.0 r.1 me)) ∙ inside_k q.0 q.3) v h) (or_left (d t) (q.1 == t) holds)
              (let a = held_new g m d q.1 r.0 q.0 r.1 me q.2 q.3 q.4 in more (count g.order d) (count g.order (union d (singleton q.1))) (held g m d) (held g n d) (held g m (union d (singleton q.1))) (held g n (union d (singleton q.1))) plus many (omega arith))
              (less g.order (count g.order d) (count g.order (union d (singleton q.1))) fuel plus l)
          | inr ne ↦ grow fuel (union d (singleton q.1)) (λ v h. in_k d inside_k q.1 (sym (same_side g k r.0 q.0 q.1 q.2 (ns r.0 r.1 ne)) ∙ inside_k q.0 q.3) v h) (or_left (d t) (q.1 == t) holds)
              (let a = held_new g n d q.1 r.0 q.0 r.1 ne q.2 q.3 q.4 in more (count g.order d) (count g.order (union d (singleton q.1))) (held g m d) (held g n d) (held g m (union d (singleton q.1))) (held g n (union d (singleton q.1))) plus many (omega arith))
              (less g.order (count g.order d) (count g.order (union d (singleton q.1))) fuel plus l)
        ]
  ]
    where
      in_k : (d : Set) → ((v : ℕ) → d v ≡ true → k v ≡ true) → (z : ℕ) → k z ≡ true → (v : ℕ) → (d v || (z == v)) ≡ true → k v ≡ true
      in_k d h z kz v o = grind arith

      more : (c c' i j i' j' : ℕ) → c' ≡ c + 1 → c ≤ (i + j) + 1 → (i + j) + 1 ≤ i' + j' → c' ≤ (i' + j') + 1
      more c c' i j i' j' h l o = omega arith

      less : (n c c' f : ℕ) → c' ≡ c + 1 → n < c + suc f → n < c' + f
      less n c c' f h l = omega arith

  pub swap_set : Within g.order t → k t ≡ true → (c : Set) × Swaps g k m n t c
  swap_set wt kt = grind (arith, count_singleton g.order t wt, grow g.order (singleton t), eqb-true t, eq-eqb t t refl)
