-- The first of the components is that of vertex 1, since no vertex is less; a graph is connected
-- where it holds all vertices. A walk from one vertex to another leads over 1.
use Rattle.graph_core.proofs.from_counting.Common.{◌≡◌, ℕ, suc, zero, ◌≤◌, ◌<◌, true, false, not, ◌&&◌, ◌↔◌, List, [], ◌∷◌, ◌++◌, length, cond, sym, ap, ◌∙◌, arith, subst, nat_lt, ltb-true, IfNone, IfSome, Option, Some, slice_get, both_ways, and_parts, false_from_ne_true, mem-rising_list, some_true, but_fails_second, Within, IsLeastOf, mem, rising_list, Set, none, IsLeastWithout}
use Rattle.graph_core.proofs.Common.{IsConnected, components, is_least, Graph, IsGraph, Joined, joined, joined_walk, walk_joined, joined_back, joined_on}

-- an increasing list that may begin with 1 does
begins_with_one : (n : ℕ) (x : Set) → 1 ≤ n → x 1 ≡ true → (ys : List ℕ) × (rising_list n x ≡ 1 ∷ ys)
begins_with_one zero x l h = absurd (omega arith)
begins_with_one (suc zero) x l h = ([], ap (λ b. cond b (1 ∷ []) []) h)
begins_with_one (suc (suc n)) x l h =
    let r = begins_with_one (suc n) x (omega arith) h in
    let last = cond (x (suc (suc n))) (suc (suc n) ∷ []) [] in
    (r.0 ++ last, ap (λ zs. zs ++ last) r.1)

-- 1 is the least vertex of its component
one_is_least : (g : Graph) → is_least g none 1 ≡ true
one_is_least g = grind (arith, false_from_ne_true, nat_lt, some_true g.order, and_parts, ltb-true)

-- the first component is that of 1
first_component : (g : Graph) (part : List ℕ) → 1 ≤ g.order → slice_get (components g none) 0 ≡ Some part → part ≡ rising_list g.order (joined g none 1)
unfolding components
first_component g part l h = grind (arith, begins_with_one g.order (is_least g none) l (one_is_least g), one_is_least g, slice_get)

-- there is a component where there is a vertex
pub some_component : (g : Graph) → 1 ≤ g.order → 0 < length (components g none)
unfolding components
some_component g l = grind (arith, begins_with_one g.order (is_least g none) l (one_is_least g), one_is_least g)

-- a vertex is in this list if and only if a walk joins it to 1
in_first : (g : Graph) → IsGraph g → 1 ≤ g.order → (v : ℕ) → Within g.order v → mem (rising_list g.order (joined g none 1)) v ≡ true → Joined g none 1 v
in_first g is l v w m = joined_walk g none 1 v (sym (mem-rising_list g.order (joined g none 1) v w) ∙ m)

-- the parts of the graph without nothing are its components, the first of them is read, and the
-- others are all vertices outside it
module _ (g : Graph) (is : IsGraph g) (l : 1 ≤ g.order) (nothing : List ℕ) (nothing_is : nothing ≡ []) (parts : List (List ℕ)) (parts_are : parts ≡ components g (mem nothing)) (part : List ℕ) (part_is : slice_get parts 0 ≡ Some part)
    (n : ℕ) (order : n ≡ g.order) (all : List ℕ) (all_are : (v : ℕ) → (mem all v ≡ true) ↔ Within n v) (others : List ℕ) (others_are : (v : ℕ) → mem others v ≡ (mem all v && not (mem part v))) where
  first_is : part ≡ rising_list g.order (joined g none 1)
  first_is = first_component g part l (ap (λ (ps : List (List ℕ)). slice_get ps 0) (sym (parts_are ∙ ap (λ (xs : List ℕ). components g (mem xs)) nothing_is)) ∙ part_is)

  full : (v : ℕ) → (mem all v ≡ true) ↔ Within g.order v
  full = subst (λ (n : ℕ). (v : ℕ) → (mem all v ≡ true) ↔ Within n v) order all_are

  outside : (v : ℕ) → mem others v ≡ (mem all v && not (mem (rising_list g.order (joined g none 1)) v))
  outside v = others_are v ∙ ap (λ (xs : List ℕ). mem all v && not (mem xs v)) first_is

  -- a vertex that is not one of the others
  reached : (w : ℕ) → Within g.order w → mem others w ≡ false → Joined g none 1 w
  reached w ww h = in_first g is l w ww (but_fails_second (mem all w) (mem (rising_list g.order (joined g none 1)) w) ((full w).1 ww) (sym (outside w) ∙ h))

  -- the least of the others is the least that no walk joins to 1
  pub first_apart : (b : ℕ) → IsLeastOf others b → IsLeastWithout g.order (Joined g none 1) b
  first_apart b least = grind (arith, and_parts, mem, rising_list, joined, none, outside, full, both_ways, mem-rising_list, walk_joined, reached)

  -- where there is no other, the graph is connected
  pub all_joined : others ≡ [] → IsConnected g
  all_joined empty u v wu wv = joined_on g none u 1 v (joined_back g none 1 u (from_one u wu)) (from_one v wv)
    where
      from_one : (w : ℕ) → Within g.order w → Joined g none 1 w
      from_one w ww = reached w ww (ap (λ (xs : List ℕ). mem xs w) empty)

-- what is said of the value in an option, and of there being none
pub some_weaker : (o : Option ℕ) (P Q : ℕ → Type 0) → ((v : ℕ) → P v → Q v) → IfSome o P → IfSome o Q
some_weaker o P Q f h = grind arith

pub none_weaker : (o : Option ℕ) (P Q : Type 0) → (P → Q) → IfNone o P → IfNone o Q
none_weaker o P Q f h = grind arith
