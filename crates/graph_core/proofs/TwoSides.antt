-- Along a walk the side changes with each step, so the length of a walk says whether its ends are
-- on the same side: hence no closed walk is odd, and the left side is fixed by the least vertices.
-- In a search tree the sides are the parities of depths.
use Rattle.vset_core.proofs.from_counting.Common.{◌≡◌, ℕ, suc, ◌+◌, Bool, true, false, cond, refl, sym, ap, ap₂, ◌∙◌, arith, ◌&&◌, ◌||◌, not, List, [], ◌∷◌, ◌++◌, subst, length, append_assoc, and_parts, both_ways, length-append, bit_true, odd-add, mem-rising_list, rising_list-rises, same_rising_list, some_term, Within, is_odd, mem, rising_list, Set, none}
use Rattle.graph_core.specs.Common.{is_least, Graph, IsBipartite, IsGraph, first_end, in_cut, second_end, size, IsLeftSide, IsRooted, depth_at, parent_at, IsForest, above, way_down, way_up, IsOddClosedWalk, Joined, Walk, adjacent}
use Rattle.graph_core.specs.declared.tree.TreeNode.{TreeNode}
use Rattle.graph_core.proofs.Components.{joined_walk, some_leader}
use Rattle.graph_core.proofs.Trees.{StandsAt, above_joined, above_root, down_walk, least_same, length-way_down, length-way_up, up_walk}
use Rattle.graph_core.proofs.Walks.{Walk-join, adjacent-edge, adjacent_back, adjacent_within, has_ends-cases, joined_back, joined_on}

-- each edge has exactly one end in x
abbrev AllInCut : Graph → Set → Type 0
AllInCut g x = (e : ℕ) → Within (size g) e → in_cut g x e ≡ true

-- neighbours are on different sides
other_side : (g : Graph) (x : Set) → AllInCut g x → (u v : ℕ) → adjacent g none u v ≡ true → x v ≡ not (x u)
other_side g x cut u v a = grind (arith, adjacent-edge g none u v a, has_ends-cases g u v, both_ways false refl)

-- the side at the end of a walk
side_after : (g : Graph) (x : Set) → AllInCut g x → (u v : ℕ) (ws : List ℕ) → Walk (adjacent g none) u ws v → x v ≡ cond (is_odd (length ws)) (not (x u)) (x u)
side_after g x cut u v [] w = ap x (sym w)
side_after g x cut u v (y ∷ ws) w = side_after g x cut y v ws w.1 ∙ step (is_odd (length ws)) (x u) (x y) (other_side g x cut u y w.0)
  where
    step : (odd s t : Bool) → t ≡ not s → cond odd (not t) t ≡ cond (not odd) (not s) s
    step odd s t e = grind arith

-- an odd closed walk excludes that the graph is bipartite
pub odd_walk_excludes : (g : Graph) (ws : List ℕ) → IsOddClosedWalk g ws → IsBipartite g → ⊥
odd_walk_excludes g [] o b = o
odd_walk_excludes g (v ∷ vs) o b =
    let l : length (vs ++ v ∷ []) ≡ suc (length vs) = length-append vs (v ∷ []) ∙ omega arith in
    never (b.0 v) (is_odd (length (vs ++ v ∷ []))) (ap is_odd l ∙ o.1) (side_after g b.0 b.1 v v (vs ++ v ∷ []) o.0)
  where
    never : (s odd : Bool) → odd ≡ true → s ≡ cond odd (not s) s → ⊥
    never s odd h e = grind arith

-- the left side makes the graph bipartite
pub left_bipartite : (g : Graph) (left : List ℕ) → IsLeftSide g left → IsBipartite g
left_bipartite g left is = (mem left, is.cut)

-- there is one left side
pub left_side_only : (g : Graph) (xs ys : List ℕ) → IsGraph g → IsLeftSide g xs → IsLeftSide g ys → xs ≡ ys
unfolding Joined
left_side_only g xs ys is a b = same_rising_list g.order xs ys a.rising b.rising same_within
  where
    same_within : (v : ℕ) → Within g.order v → mem xs v ≡ mem ys v
    same_within v w = grind (arith, some_term g.order, some_leader g none is v w refl, and_parts, bit_true, joined_walk g none, side_after g (mem xs) a.cut, side_after g (mem ys) b.cut)

module _ (g : Graph) (parent depth : ℕ → ℕ) (is : IsGraph g) (forest : IsForest g none (is_least g none) parent depth) where
  place : (v : ℕ) → Within g.order v → StandsAt g none (is_least g none) parent depth (depth v) v
  place v w = record { within = w; outside = refl; deep = refl }

  -- the least vertex of a component has depth 0
  pub least_depth : (v : ℕ) → Within g.order v → is_least g none v ≡ true → depth v ≡ 0
  least_depth v w l =
      let r = above_root g none (is_least g none) parent depth is forest (depth v) v (place v w) in
      let e = least_same g none is v (above parent (depth v) v) w r.1.within l r.0 (above_joined g none (is_least g none) parent depth is forest (depth v) v (place v w)) in
      ap depth e ∙ r.1.deep

  -- two adjacent vertices of like depths close an odd walk
  pub odd_walk : (a b : ℕ) → adjacent g none a b ≡ true → is_odd (depth a) ≡ is_odd (depth b) → IsOddClosedWalk g (a ∷ (way_up parent (depth a) a ++ way_down parent (depth b) b))
  unfolding Joined
  odd_walk a b j odd = (
    subst (λ ws. Walk (adjacent g none) a ws a) (sym (append_assoc (way_up parent (depth a) a) (way_down parent (depth b) b) (a ∷ [])))
        (Walk-join (adjacent g none) a top a (way_up parent (depth a) a) (way_down parent (depth b) b ++ a ∷ []) (up_walk g none (is_least g none) parent depth is forest (depth a) a (place a wa))
        (Walk-join (adjacent g none) top b a (way_down parent (depth b) b) (a ∷ []) down (back, refl))),
    ap (λ k. not (is_odd k)) (length-append (way_up parent (depth a) a) (way_down parent (depth b) b) ∙ ap₂ ◌+◌ (length-way_up parent (depth a) a) (length-way_down parent (depth b) b))
        ∙ ap not (odd-add (depth a) (depth b)) ∙ (grind arith),
  )
    where
      wa : Within g.order a
      wa = (adjacent_within g none is a b j).0

      wb : Within g.order b
      wb = (adjacent_within g none is a b j).1

      top : ℕ
      top = above parent (depth a) a

      other : ℕ
      other = above parent (depth b) b

      back : adjacent g none b a ≡ true
      back = adjacent_back g none a b j

      same_top : other ≡ top
      same_top =
          let r = above_root g none (is_least g none) parent depth is forest (depth a) a (place a wa) in
          let q = above_root g none (is_least g none) parent depth is forest (depth b) b (place b wb) in
          let ja = above_joined g none (is_least g none) parent depth is forest (depth a) a (place a wa) in
          let jb = above_joined g none (is_least g none) parent depth is forest (depth b) b (place b wb) in
          least_same g none is other top q.1.within r.1.within q.0 r.0
          (joined_on g none other b top (joined_back g none b other jb) (joined_on g none b a top (a ∷ [], (back, refl)) ja))

      down : Walk (adjacent g none) top (way_down parent (depth b) b) b
      down = subst (λ r. Walk (adjacent g none) r (way_down parent (depth b) b) b) same_top (down_walk g none (is_least g none) parent depth is forest (depth b) b (place b wb))

  -- where the ends of each edge are at depths of different parity, the even depths are the left
  -- side
  pub even_side : ((e : ℕ) → Within (size g) e → is_odd (depth (first_end g e)) ≡ not (is_odd (depth (second_end g e)))) → IsLeftSide g (rising_list g.order (λ v. not (is_odd (depth v))))
  even_side differ = record {
    rising = rising_list-rises g.order (λ v. not (is_odd (depth v)));
    cut = λ e w. let i = is e w in
        ap₂ (λ s t. (s && not t) || (not s && t)) (mem-rising_list g.order (λ v. not (is_odd (depth v))) (first_end g e) i.0) (mem-rising_list g.order (λ v. not (is_odd (depth v))) (second_end g e) i.1)
        ∙ (grind arith);
    least = λ v w l. mem-rising_list g.order (λ v. not (is_odd (depth v))) v w ∙ ap (λ k. not (is_odd k)) (least_depth v w l);
  }

-- the tree as the code keeps it has a parent for each vertex below a root
pub forest_rooted : (g : Graph) (roots : Set) (nodes : List TreeNode) → IsGraph g → length nodes ≡ g.order → IsForest g none roots (parent_at nodes) (depth_at nodes) → IsRooted nodes
forest_rooted g roots nodes is len forest = grind (arith, adjacent_within g none is)
