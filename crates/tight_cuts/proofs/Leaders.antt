-- The leader of a vertex is the least vertex of its component. Idea: in the list of components
-- one alone holds the vertex, and a component's list begins with its least vertex.
use Rattle.graph_core.proofs.from_counting.Common.{◌≡◌, ℕ, ◌≤◌, true, false, cond, ◌==◌, refl, sym, ap, ◌∙◌, arith, ◌&&◌, not, inl, inr, ◌⊎◌, List, [], ◌∷◌, map, subst, eq-eqb, nat_lt, All, cases_lt, cases_Bool, and_parts, or_left, or_right, true≢false, both_ways, false_from_ne_true, not-true, All-head, All-tail, All-nil, All-cons, some_none, rising_holds, rising_only, mem-rising_list, rising_list-rises, first-least, Within, mem, rising_list, IsRisingIn, Set, some}
use Rattle.graph_core.proofs.Common.{joined_outside, walk_joined, joined_self, is_least, components, Graph, IsGraph, joined}
use Rattle.barrier_kit.proofs.Common.{leader_of, leader_same, leads_out, part_same}
use Rattle.tight_cuts.specs.Common.{head_or, leader}

-- a rising list begins with its least number
head-least : (n : ℕ) (x : Set) (d u : ℕ) → Within n u → x u ≡ true → ((w : ℕ) → Within n w → x w ≡ true → u ≤ w) → head_or (rising_list n x) d ≡ u
head-least n x d u wu xu h = go (rising_list n x) refl
  where
    go : (xs : List ℕ) → rising_list n x ≡ xs → head_or xs d ≡ u
    go [] q = absurd (true≢false (sym (rising_holds n x u wu xu) ∙ ap (λ s. mem s u) q))
    go (y ∷ ys) q = first-least n y u ys (subst (IsRisingIn n) q (rising_list-rises n x))
        (record {
          member = ap (λ s. mem s u) (sym q) ∙ rising_holds n x u wu xu;
          before = λ w l. false_from_ne_true (mem (y ∷ ys) w) (λ m. let p = rising_only n x w (ap (λ s. mem s w) q ∙ m) in let k = h w p.0 p.1 in omega arith);
        })

module _ (h : Graph) (s : Set) (is : IsGraph h) where
  abbrev list_from : ℕ → List ℕ
  list_from u = rising_list h.order (joined h s u)

  -- the least vertex of a component leads its list
  list-head : (u d : ℕ) → Within h.order u → is_least h s u ≡ true → head_or (list_from u) d ≡ u
  list-head u d wu l = head-least h.order (joined h s u) d u wu (walk_joined h s is u u wu (joined_self h s u)) (λ w ww j.
      let p = and_parts (not (s u)) (not (some h.order (λ v. joined h s u v && nat_lt v u))) l in
      elim (cases_lt w u) [
        | inl q ↦ absurd (both_ways (joined h s u w && nat_lt w u) (some_none h.order (λ v. joined h s u v && nat_lt v u) (not-true (some h.order (λ v. joined h s u v && nat_lt v u)) p.1) w ww) (grind arith))
        | inr q ↦ q
      ])

  -- what the leader is, for a list of least vertices
  lead : (us : List ℕ) → All (λ u. Within h.order u × (is_least h s u ≡ true)) us → (v : ℕ) → Within h.order v →
      ((leader (map (λ u. rising_list h.order (joined h s u)) us) v ≡ v) × ((u : ℕ) → mem us u ≡ true → joined h s u v ≡ false))
      ⊎ (Within h.order (leader (map (λ u. rising_list h.order (joined h s u)) us) v) × (is_least h s (leader (map (λ u. rising_list h.order (joined h s u)) us) v) ≡ true) × (joined h s (leader (map (λ u. rising_list h.order (joined h s u)) us) v) v ≡ true))
  lead [] a v wv = inl (refl, λ u m. absurd (true≢false (sym m)))
  lead (u ∷ us) a v wv =
      let own = All-head (λ u. Within h.order u × (is_least h s u ≡ true)) u us a in
      let rest = leader (map (λ u. rising_list h.order (joined h s u)) us) v in
      elim (cases_Bool (joined h s u v)) [
        | inl t ↦ grind (arith, mem-rising_list h.order, list-head)
        | inr f ↦
            let q : leader (map (λ u. rising_list h.order (joined h s u)) (u ∷ us)) v ≡ rest = ap (λ b. cond b (head_or (list_from u) v) rest) (mem-rising_list h.order (joined h s u) v wv ∙ f) in
            elim (lead us (All-tail (λ u. Within h.order u × (is_least h s u ≡ true)) u us a) v wv) [
              | inl k ↦ grind arith
              | inr k ↦ inr (subst (Within h.order) (sym q) k.0, ap (is_least h s) q ∙ k.1, ap (λ w. joined h s w v) q ∙ k.2)
            ]
      ]

  all_least : (n : ℕ) → n ≤ h.order → All (λ u. Within h.order u × (is_least h s u ≡ true)) (rising_list n (is_least h s))
  all_least n l = All-from_mem (rising_list n (is_least h s)) (λ u m. let p = rising_only n (is_least h s) u m in (omega arith, p.1))
    where
      All-from_mem : (us : List ℕ) → ((u : ℕ) → mem us u ≡ true → Within h.order u × (is_least h s u ≡ true)) → All (λ u. Within h.order u × (is_least h s u ≡ true)) us
      All-from_mem [] f = All-nil (λ u. Within h.order u × (is_least h s u ≡ true))
      All-from_mem (u ∷ us) f = All-cons (λ u. Within h.order u × (is_least h s u ≡ true)) u us (f u (or_left (u == u) (mem us u) (eq-eqb u u refl))) (All-from_mem us (λ w m. f w (or_right (u == w) (mem us w) m)))

  -- outside s the leader is the least vertex of the component
  pub leader-least : (v : ℕ) → Within h.order v → s v ≡ false → Within h.order (leader (components h s) v) × (is_least h s (leader (components h s) v) ≡ true) × (joined h s (leader (components h s) v) v ≡ true)
  unfolding components
  leader-least v wv sv = grind (arith, lead (rising_list h.order (is_least h s)), all_least h.order, leader_of h s is v wv sv, both_ways, rising_holds h.order (is_least h s))

  -- a vertex of s stands for itself
  pub leader-own : (v : ℕ) → Within h.order v → s v ≡ true → leader (components h s) v ≡ v
  unfolding components
  leader-own v wv sv = grind (arith, lead (rising_list h.order (is_least h s)), all_least h.order, both_ways (s v), joined_outside h s is, leads_out h s)

  -- a least vertex leads itself
  pub leader-fixed : (v : ℕ) → Within h.order v → is_least h s v ≡ true → leader (components h s) v ≡ v
  leader-fixed v wv l = let k = leader-least v wv (leads_out h s v l) in leader_same h s is (leader (components h s) v) v v k.0 wv wv k.1 k.2 l (walk_joined h s is v v wv (joined_self h s v))

  -- joined vertices have one leader
  pub leader-joined : (u v : ℕ) → Within h.order u → Within h.order v → s u ≡ false → joined h s u v ≡ true → leader (components h s) u ≡ leader (components h s) v
  leader-joined u v wu wv su j = grind (arith, leader-least, joined_outside, leader_same, part_same)

  -- vertices with one leader are joined
  pub leader-joins : (u v : ℕ) → Within h.order u → Within h.order v → s u ≡ false → s v ≡ false → leader (components h s) u ≡ leader (components h s) v → joined h s u v ≡ true
  leader-joins u v wu wv su sv e = grind (arith, leader-least u wu su, leader-least v wv sv, part_same h s is (leader (components h s) u) u)
