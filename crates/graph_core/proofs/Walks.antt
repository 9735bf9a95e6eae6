-- Walks: they join, turn back and stay in a set that no step leaves; whether one leads on is
-- decided. A set that grows step by step stops growing after as many steps as there are vertices.
use Rattle.vset_core.proofs.from_counting.Common.{◌≡◌, ℕ, suc, zero, ◌+◌, ◌≤◌, Bool, true, false, ◌==◌, refl, sym, ap, ◌∙◌, arith, ◌&&◌, ◌||◌, not, eq-eqb, eqb-true, ◌⊎◌, inl, inr, List, [], ◌∷◌, ◌++◌, ◌↔◌, cases_Bool, or_cases, or_left, or_right, and_parts, and_from, false_from_ne_true, both_ways, count_le, count_more, some_none, some_true, true_some, at_le_total, but_fails_second, Within, bit, count, Set, none, some}
use Rattle.graph_core.specs.Common.{Graph, IsGraph, first_end, has_ends, in_cut, second_end, size, Joined, Walk, adjacent, reaches}

pub Walk-join : (adj : ℕ → ℕ → Bool) (u v w : ℕ) (xs ys : List ℕ) → Walk adj u xs v → Walk adj v ys w → Walk adj u (xs ++ ys) w
Walk-join adj u v w [] ys a b = rw a b
Walk-join adj u v w (x ∷ xs) ys a b = (a.0, Walk-join adj x v w xs ys a.1 b)

-- a set that no step leaves
unfoldable pub IsClosed : ℕ → (ℕ → ℕ → Bool) → Set → Type 0
IsClosed n adj x = (u v : ℕ) → Within n u → Within n v → x u ≡ true → adj u v ≡ true → x v ≡ true

pub Walk-stays : (n : ℕ) (adj : ℕ → ℕ → Bool) (x : Set) → ((u v : ℕ) → adj u v ≡ true → Within n u × Within n v) → IsClosed n adj x → (u v : ℕ) (ws : List ℕ) → x u ≡ true → Walk adj u ws v → x v ≡ true
unfolding IsClosed
Walk-stays n adj x in_n closed u v [] h w = ap x (sym w) ∙ h
Walk-stays n adj x in_n closed u v (y ∷ ws) h w = Walk-stays n adj x in_n closed y v ws (closed u y (in_n u y w.0).0 (in_n u y w.0).1 h w.0) w.1

module _ (n : ℕ) (adj : ℕ → ℕ → Bool) where
  -- x and what one step from x reaches
  pub spread : Set → Set
  spread x v = x v || some n (λ w. x w && adj w v)

  pub flood_walk : (u k v : ℕ) → reaches n adj u k v ≡ true → (ws : List ℕ) × Walk adj u ws v
  unfolding spread
  flood_walk u zero v h = ([], eqb-true u v h)
  flood_walk u (suc k) v h = elim (or_cases (reaches n adj u k v) (some n (λ w. reaches n adj u k w && adj w v)) h) [
    | inl a ↦ flood_walk u k v a
    | inr a ↦ let r = some_true n _ a in
        let b = and_parts (reaches n adj u k r.0) (adj r.0 v) r.2 in
        let p = flood_walk u k r.0 b.0 in
        (p.0 ++ v ∷ [], Walk-join adj u r.0 v p.0 (v ∷ []) p.1 (b.1, refl))
  ]

  -- a set grows by one step, or is closed
  pub grows : (x : Set) → (IsClosed n adj x) ⊎ (count n x + 1 ≤ count n (spread x))
  unfolding spread IsClosed
  grows x = elim (cases_Bool (some n (λ v. spread x v && not (x v)))) [
    | inl t ↦ let r = some_true n (λ v. spread x v && not (x v)) t in
        let b = and_parts (spread x r.0) (not (x r.0)) r.2 in
        inr (count_more n x (spread x) (λ v h. or_left (x v) (some n (λ w. x w && adj w v)) h) r.0 r.1 (grind (arith, b.1)) b.0)
    | inr f ↦ inl (λ u v wu wv a b.
        let z = some_none n (λ v. spread x v && not (x v)) f v wv in
        let sp : spread x v ≡ true = or_right (x v) (some n (λ w. x w && adj w v)) (true_some n (λ w. x w && adj w v) u wu (and_from (x u) (adj u v) a b)) in
        but_fails_second (spread x v) (x v) sp z)
  ]

  closed_spread : (x : Set) → IsClosed n adj x → IsClosed n adj (spread x)
  unfolding spread IsClosed
  closed_spread x c u v wu wv a b = grind (arith, or_left (x v), adj, or_cases (x u), some_true n, and_parts)

  flood_grows : (u : ℕ) → Within n u → (k : ℕ) → (IsClosed n adj (reaches n adj u k)) ⊎ (k + 1 ≤ count n (reaches n adj u k))
  unfolding spread
  flood_grows u w zero = inr (let b : bit (u == u) ≡ 1 = rw (eq-eqb u u refl) refl in omega (arith, at_le_total n (λ v. bit (u == v)) u w))
  flood_grows u w (suc k) = grind (arith, flood_grows u w k, closed_spread (reaches n adj u k), adj u k, grows (reaches n adj u k))

  pub flood_closed : (u : ℕ) → Within n u → IsClosed n adj (reaches n adj u n)
  flood_closed u w = grind (arith, flood_grows u w n, count_le n (reaches n adj u n), adj u n)

  pub flood_own : (u k : ℕ) → reaches n adj u k u ≡ true
  unfolding spread
  flood_own u zero = eq-eqb u u refl
  flood_own u (suc k) = or_left (reaches n adj u k u) (some n (λ w. reaches n adj u k w && adj w u)) (flood_own u k)

  -- a walk leads from u to v, or none does
  pub walk_or_not : ((u v : ℕ) → adj u v ≡ true → Within n u × Within n v) → (u v : ℕ) → Within n u → ((ws : List ℕ) × Walk adj u ws v) ⊎ ((ws : List ℕ) → Walk adj u ws v → ⊥)
  walk_or_not in_n u v wu = elim (cases_Bool (reaches n adj u n v)) [
    | inl t ↦ inl (flood_walk u n v t)
    | inr f ↦ inr (λ ws w. both_ways (reaches n adj u n v) f (Walk-stays n adj (reaches n adj u n) in_n (flood_closed u wu) u v ws (flood_own u n) w))
  ]

  pub Walk-back : ((u v : ℕ) → adj u v ≡ true → adj v u ≡ true) → (u v : ℕ) (ws : List ℕ) → Walk adj u ws v → (xs : List ℕ) × Walk adj v xs u
  Walk-back s u v [] w = ([], sym w)
  Walk-back s u v (y ∷ ws) w = let r = Walk-back s y v ws w.1 in (r.0 ++ u ∷ [], Walk-join adj v y u r.0 (u ∷ []) r.1 (s u y w.0, refl))

-- steps of a graph
pub adjacent-edge : (g : Graph) (s : Set) (u v : ℕ) → adjacent g s u v ≡ true → (s u ≡ false) × (s v ≡ false) × ((e : ℕ) × Within (size g) e × (has_ends g u v e ≡ true))
adjacent-edge g s u v h = grind (arith, and_parts (not (s u) && not (s v)) (some (size g) (has_ends g u v)) h, and_parts (not (s u)) (not (s v)), some_true (size g) (has_ends g u v))

pub has_ends-cases : (g : Graph) (u v e : ℕ) → has_ends g u v e ≡ true → ((first_end g e ≡ u) × (second_end g e ≡ v)) ⊎ ((first_end g e ≡ v) × (second_end g e ≡ u))
has_ends-cases g u v e h = grind arith

pub adjacent_within : (g : Graph) (s : Set) → IsGraph g → (u v : ℕ) → adjacent g s u v ≡ true → Within g.order u × Within g.order v
adjacent_within g s is u v h = grind (arith, adjacent-edge g s u v h, has_ends-cases g u v)

pub adjacent_from : (g : Graph) (s : Set) (u v e : ℕ) → s u ≡ false → s v ≡ false → Within (size g) e → has_ends g u v e ≡ true → adjacent g s u v ≡ true
adjacent_from g s u v e a b w h = and_from (not (s u) && not (s v)) (some (size g) (has_ends g u v)) (rw (a, b) refl) (true_some (size g) (has_ends g u v) e w h)

pub has_ends-back : (g : Graph) (u v e : ℕ) → has_ends g u v e ≡ true → has_ends g v u e ≡ true
has_ends-back g u v e h = grind arith

pub adjacent_back : (g : Graph) (s : Set) (u v : ℕ) → adjacent g s u v ≡ true → adjacent g s v u ≡ true
adjacent_back g s u v h = grind arith

pub has_ends-own : (g : Graph) (e : ℕ) → has_ends g (first_end g e) (second_end g e) e ≡ true
has_ends-own g e = rw (eq-eqb (first_end g e) (first_end g e) refl, eq-eqb (second_end g e) (second_end g e) refl) refl

-- being joined is an equivalence, and decided
pub joined_self : (g : Graph) (s : Set) (u : ℕ) → Joined g s u u
unfolding Joined
joined_self g s u = ([], refl)

pub joined_back : (g : Graph) (s : Set) (u v : ℕ) → Joined g s u v → Joined g s v u
unfolding Joined
joined_back g s u v j = Walk-back g.order (adjacent g s) (adjacent_back g s) u v j.0 j.1

pub joined_on : (g : Graph) (s : Set) (u v w : ℕ) → Joined g s u v → Joined g s v w → Joined g s u w
unfolding Joined
joined_on g s u v w j k = (j.0 ++ k.0, Walk-join (adjacent g s) u v w j.0 k.0 j.1 k.1)

pub joined_or_not : (g : Graph) (s : Set) → IsGraph g → (u v : ℕ) → Within g.order u → (Joined g s u v) ⊎ (Joined g s u v → ⊥)
unfolding Joined
joined_or_not g s is u v w = grind (arith, walk_or_not g.order (adjacent g s) (adjacent_within g s is) u v w, adjacent_within g s is)

-- two vertices are not joined if a set that no edge leaves separates them
pub parted : (g : Graph) (u v : ℕ) → IsGraph g → Within g.order u → Within g.order v → (Joined g none u v → ⊥) ↔ ((x : Set) × (x u ≡ true) × (x v ≡ false) × ((e : ℕ) → Within (size g) e → in_cut g x e ≡ false))
unfolding Joined IsClosed
parted g u v is wu wv = (there, back)
  where
    adj : ℕ → ℕ → Bool
    adj = adjacent g none

    there : ((ws : List ℕ) × Walk (adjacent g none) u ws v → ⊥) → (x : Set) × (x u ≡ true) × (x v ≡ false) × ((e : ℕ) → Within (size g) e → in_cut g x e ≡ false)
    there alone = grind (arith, flood_own g.order (adjacent g none) u g.order, false_from_ne_true, flood_walk g.order (adjacent g none) u g.order v, go)
      where
        go : (e : ℕ) → Within (size g) e → (a b : Bool) → reaches g.order (adjacent g none) u g.order (first_end g e) ≡ a → reaches g.order (adjacent g none) u g.order (second_end g e) ≡ b → ((a && not b) || (not a && b)) ≡ false
        go e w true true p q = refl
        go e w false false p q = refl
        go e w true false p q = absurd (both_ways _ q (flood_closed g.order (adjacent g none) u wu (first_end g e) (second_end g e) (is e w).0 (is e w).1 p (adjacent_from g none (first_end g e) (second_end g e) e refl refl w (has_ends-own g e))))
        go e w false true p q = absurd (both_ways _ p (flood_closed g.order (adjacent g none) u wu (second_end g e) (first_end g e) (is e w).1 (is e w).0 q (adjacent_from g none (second_end g e) (first_end g e) e refl refl w (has_ends-back g (first_end g e) (second_end g e) e (has_ends-own g e)))))

    back : (x : Set) × (x u ≡ true) × (x v ≡ false) × ((e : ℕ) → Within (size g) e → in_cut g x e ≡ false) → (ws : List ℕ) × Walk (adjacent g none) u ws v → ⊥
    back f j = both_ways (f.0 v) f.2 (Walk-stays g.order (adjacent g none) f.0 (adjacent_within g none is) (λ a b wa wb xa ab.
        let p = adjacent-edge g none a b ab in
        let c = f.3 p.2.0 p.2.1 in
        elim (has_ends-cases g a b p.2.0 p.2.2) [
          | inl k ↦ grind arith
          | inr k ↦ grind arith
        ]) u v j.0 f.1 j.1)
