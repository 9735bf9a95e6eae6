-- By leaders the pieces of an edge become groups: one end with the piece of x, the other with the
-- piece of y or alone, and each other piece. Idea: an end leads itself and no leader of a piece
-- is an end, so a group's name says which vertices are in it.
use Rattle.graph_core.proofs.from_counting.Common.{◌≡◌, ℕ, ◌≢◌, true, false, cond, ◌==◌, refl, sym, ap, ◌∙◌, arith, inl, inr, ◌⊎◌, [], ◌∷◌, subst, eq-eqb, ne_eqb, eqb-true, cases_Bool, or_cases, or_left, or_right, both_ways, Within, Set, pair_set}
use Rattle.graph_core.proofs.Common.{joined_walk, walk_joined, joined_self, is_least, components, Graph, IsGraph, Joined, joined}
use Rattle.barrier_kit.proofs.Common.{leads_out}
use Rattle.tight_cuts.proofs.Leaders.{leader-fixed, leader-joined, leader-joins, leader-least, leader-own}
use Rattle.tight_cuts.specs.Common.{leader, group_of, in_piece, IsGrouping}

-- a walk of h without s from a vertex of s leads to that vertex alone
removed_alone : (h : Graph) (s : Set) (u v : ℕ) → s u ≡ true → Joined h s u v → u ≡ v
unfolding Joined
removed_alone h s u v t ([], e) = e
removed_alone h s u v t (w ∷ ws, p) = absurd (both_ways (s u) (grind arith) t)

-- two groups of one name: both vertices are in it by their leaders, or both lead the same
group-cases : (a b x y l k : ℕ) → a ≢ b → group_of a b x y l ≡ group_of a b x y k → l ≢ a → l ≢ b → k ≢ a → k ≢ b → (l ≡ k) ⊎ (((l ≡ x) × (k ≡ x)) ⊎ ((l ≡ y) × (k ≡ y)))
group-cases a b x y l k d q la lb ka kb = grind arith

module _ (g h : Graph) (is : IsGraph h) (order : h.order ≡ g.order) (a b : ℕ) (wa : Within g.order a) (wb : Within g.order b) (ab : a ≢ b) (x y : ℕ) (wx : Within g.order x) (wy : Within g.order y) (lx : is_least h (pair_set a b) x ≡ true) (second : ((is_least h (pair_set a b) y ≡ true) × (x ≢ y)) ⊎ (y ≡ b)) where
  abbrev pub piece_leader : ℕ → ℕ
  piece_leader v = leader (components h (pair_set a b)) v

  abbrev pub group : ℕ → ℕ
  group v = group_of a b x y (piece_leader v)

  inside : (v : ℕ) → Within g.order v → Within h.order v
  inside v w = subst (λ n. Within n v) (sym order) w

  is_a : pair_set a b a ≡ true
  is_a = or_left (a == a) (b == a) (eq-eqb a a refl)

  is_b : pair_set a b b ≡ true
  is_b = or_right (a == b) (b == b) (eq-eqb b b refl)

  -- what leads a vertex outside the pair is neither a nor b
  off_pair : (v : ℕ) → Within g.order v → pair_set a b v ≡ false → (piece_leader v ≢ a) × (piece_leader v ≢ b)
  off_pair v w o = grind (arith, leader-least h (pair_set a b) is v (inside v w) o, leads_out h (pair_set a b) (piece_leader v), both_ways (pair_set a b (piece_leader v)), is_a, is_b)

  off_x : (v : ℕ) → pair_set a b v ≡ true → v ≢ x
  off_x v t e = both_ways (pair_set a b v) (ap (pair_set a b) e ∙ leads_out h (pair_set a b) x lx) t

  x_not_y : x ≢ y
  x_not_y = grind arith

  -- y names no end of the edge but b
  end_kept : (v : ℕ) → pair_set a b v ≡ true → cond (v == y) b v ≡ v
  end_kept v t = grind arith

  -- an end of the edge is a group by itself so far
  group_end : (v : ℕ) → Within g.order v → pair_set a b v ≡ true → group v ≡ v
  group_end v w t = grind (arith, leader-own h (pair_set a b) is v (inside v w) t, ne_eqb v x (off_x v t), off_x v t, end_kept v t)

  lead_x : group_of a b x y x ≡ a
  lead_x = ap (λ s. cond s a (cond (x == y) b x)) (eq-eqb x x refl)

  lead_y : group_of a b x y y ≡ b
  lead_y = ap (λ s. cond s a (cond (y == y) b y)) (ne_eqb y x (λ e. x_not_y (sym e))) ∙ ap (λ s. cond s b y) (eq-eqb y y refl)

  led_by : (u v : ℕ) → Within g.order u → Within g.order v → is_least h (pair_set a b) u ≡ true → joined h (pair_set a b) u v ≡ true → piece_leader v ≡ u
  led_by u v wu wv l j = sym (leader-joined h (pair_set a b) is u v (inside u wu) (inside v wv) (leads_out h (pair_set a b) u l) j) ∙ leader-fixed h (pair_set a b) is u (inside u wu) l

  in_source : (v : ℕ) → Within g.order v → in_piece h a b a x v ≡ true → group v ≡ a
  in_source v w t = grind (arith, or_cases (a == v) (joined h (pair_set a b) x v) t, eqb-true a v, group_end a wa is_a, is_a, led_by x v wx w lx, lead_x)

  in_sink : (v : ℕ) → Within g.order v → in_piece h a b b y v ≡ true → group v ≡ b
  in_sink v w t = elim (or_cases (b == v) (joined h (pair_set a b) y v) t) [
    | inl e ↦ let q = eqb-true b v e in ap group (sym q) ∙ group_end b wb is_b
    | inr j ↦ grind (arith, led_by y v wy w, lead_y, removed_alone h (pair_set a b) y v, is_b, joined_walk h (pair_set a b) y v j, group_end b wb is_b)
  ]

  within_group : (l : ℕ) → Within g.order l → Within g.order (group_of a b x y l)
  within_group l w = grind arith

  leader_within : (v : ℕ) → Within g.order v → Within g.order (piece_leader v)
  leader_within v w = grind (arith, cases_Bool (pair_set a b v), leader-own h (pair_set a b) is v (inside v w), leader-least h (pair_set a b) is v (inside v w))

  kept_together : (u v : ℕ) → Within g.order u → Within g.order v → joined h (pair_set a b) u v ≡ true → group u ≡ group v
  kept_together u v wu wv j = grind (arith, cases_Bool (pair_set a b u), joined_alone u v, leader-joined h (pair_set a b) is u v (inside u wu) (inside v wv))
    where
      joined_alone : (u v : ℕ) → pair_set a b u ≡ true → joined h (pair_set a b) u v ≡ true → u ≡ v
      joined_alone u v t j = removed_alone h (pair_set a b) u v t (joined_walk h (pair_set a b) u v j)

  own_joined : (v : ℕ) → Within g.order v → joined h (pair_set a b) v v ≡ true
  own_joined v w = walk_joined h (pair_set a b) is v v (inside v w) (joined_self h (pair_set a b) v)

  group_a : (l : ℕ) → l ≢ a → group_of a b x y l ≡ a → l ≡ x
  group_a l la q = grind arith

  group_b : (l : ℕ) → l ≢ b → group_of a b x y l ≡ b → l ≡ y
  group_b l lb q = grind arith

  -- a vertex that u leads is in the piece of u
  led_joined : (u v : ℕ) → Within g.order u → Within g.order v → is_least h (pair_set a b) u ≡ true → pair_set a b v ≡ false → piece_leader v ≡ u → joined h (pair_set a b) u v ≡ true
  led_joined u v wu wv l o e = leader-joins h (pair_set a b) is u v (inside u wu) (inside v wv) (leads_out h (pair_set a b) u l) o (leader-fixed h (pair_set a b) is u (inside u wu) l ∙ sym e)

  abbrev OneGroup : ℕ → ℕ → Type 0
  OneGroup u v = (joined h (pair_set a b) u v ≡ true) ⊎ (((in_piece h a b a x u ≡ true) × (in_piece h a b a x v ≡ true)) ⊎ ((in_piece h a b b y u ≡ true) × (in_piece h a b b y v ≡ true)))

  -- an end of the edge and a vertex outside in one group
  end_apart : (u v : ℕ) → Within g.order u → Within g.order v → pair_set a b u ≡ true → pair_set a b v ≡ false → group u ≡ group v → ((in_piece h a b a x u ≡ true) × (in_piece h a b a x v ≡ true)) ⊎ ((in_piece h a b b y u ≡ true) × (in_piece h a b b y v ≡ true))
  end_apart u v wu wv pu pv q = grind (arith, off_pair, group_end, or_cases, eqb-true, or_left, or_right, led_joined, group_a, group_b, joined, pair_set)

  apart_groups : (u v : ℕ) → Within g.order u → Within g.order v → group u ≡ group v → OneGroup u v
  apart_groups u v wu wv q = grind (arith, cases_Bool, pair_set, group_end, own_joined, end_apart, off_pair, group-cases, leader-joins, or_right, led_joined)

  -- the leaders give the groups
  pub leaders_group : IsGrouping g h a b (x, y) g.order group
  leaders_group = grind (arith, within_group, leader_within, in_source, in_sink, kept_together, apart_groups)
