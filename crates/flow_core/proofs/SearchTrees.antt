-- Search trees: how they grow, that each node is reached from the root over residual arcs, and that
-- no arc is used twice. Idea: a visit is at a new node, so its arc has an end that no earlier arc
-- has.
use Rattle.std.proofs.Common.{◌≡◌, ◌≢◌, ℕ, zero, suc, ◌+◌, ◌≤◌, ◌<◌, ◌^◌, ◌==◌, ◌||◌, true, false, List, [], ◌∷◌, ◌++◌, length, refl, sym, ◌∙◌, ap, subst, arith, inl, inr, eq-eqb, ne_eqb, length-append, ℤ}
use Rattle.vset_core.proofs.from_counting.Common.{get_or-append_seam, cases_eq, both_ways, or_right, or_left, get_or_append_left, mem-item, count_of_one, count_congr, count_le, count_put, Within, count, bit, Set, put, everything, mem, IsRisingIn}
use Rattle.flow_core.specs.Common.{Arc, Net, HasRoom, IsReached, IsScanned, IsReachedSet, visit_at, visited_node, IsVisitStep, IsVisit, IsTree, IsSetOfVisited, IsSearch}
use Rattle.flow_core.specs.declared.search.Visit.{Visit}

-- the default visit
abbrev none_visited : Visit
none_visited = record { node = 0; parent = 0; arc = 0; room = 0 }

pub visit_at-push : (visits : List Visit) (visit : Visit) (j : ℕ) → j < length visits → visit_at (visits ++ visit ∷ []) j ≡ visit_at visits j
visit_at-push visits visit j l = get_or_append_left visits (visit ∷ []) none_visited j l

visit_at-last : (visits : List Visit) (visit : Visit) → visit_at (visits ++ visit ∷ []) (length visits) ≡ visit
visit_at-last visits visit = get_or-append_seam visits visit [] none_visited

length-push : (visits : List Visit) (visit : Visit) → length (visits ++ visit ∷ []) ≡ length visits + 1
length-push visits visit = omega (arith, length-append visits (visit ∷ []))

-- an earlier visit stays one
IsVisit-push : (arcs : List Arc) (amounts : List ℤ) (visits : List Visit) (visit : Visit) (j : ℕ) → j < length visits → IsVisit arcs amounts visits j → IsVisit arcs amounts (visits ++ visit ∷ []) j
IsVisit-push arcs amounts visits visit j l v = grind (arith, visit_at-push)

-- the last visit
IsVisit-last : (arcs : List Arc) (amounts : List ℤ) (visits : List Visit) (visit : Visit) → visit.parent < length visits → IsVisitStep arcs amounts (visit_at visits visit.parent) visit → IsVisit arcs amounts (visits ++ visit ∷ []) (length visits)
IsVisit-last arcs amounts visits visit l s = grind (arith, visit_at-push, visit_at-last)

-- a new node adds one to the size of the set
count-with : (n : ℕ) (x y : Set) (v : ℕ) → Within n v → x v ≡ false → ((w : ℕ) → y w ≡ (x w || v == w)) → count n y ≡ count n x + 1
count-with n x y v w f h =
    let c = count_congr n y (put x v true) (λ u t. h u ∙ (grind arith)) in
    let p = count_put n x v true w in
    let z : bit (x v) ≡ 0 = ap bit f in omega arith

pub IsSetOfVisited-root : (net : Net) (visit : Visit) (seen : List ℕ) → Within net.nodes visit.node → ((v : ℕ) → mem seen v ≡ (visit.node == v)) → IsSetOfVisited net (visit ∷ []) seen
IsSetOfVisited-root net visit seen w h = grind (arith, eq-eqb visit.node visit.node refl, count_congr net.nodes (mem seen), count_of_one net.nodes everything visit.node w)

-- a place of the longer list is old or the last
old_place : (visits : List Visit) (visit : Visit) (j : ℕ) → j < length (visits ++ visit ∷ []) → j ≢ length visits → j < length visits
old_place visits visit j l d = omega (arith, length-push visits visit)

old_node : (visits : List Visit) (visit : Visit) (j : ℕ) → j < length visits → visited_node (visits ++ visit ∷ []) j ≡ visited_node visits j
old_node visits visit j l = ap (λ (u : Visit). u.node) (visit_at-push visits visit j l)

new_node : (visits : List Visit) (visit : Visit) (j : ℕ) → j ≡ length visits → visited_node (visits ++ visit ∷ []) j ≡ visit.node
new_node visits visit j e = ap (visited_node (visits ++ visit ∷ [])) e ∙ ap (λ (u : Visit). u.node) (visit_at-last visits visit)

-- one visit more, at a new node
pub IsTree-push : (net : Net) (amounts : List ℤ) (visits : List Visit) → IsTree net amounts visits
    → (visit : Visit) → visit.parent < length visits → IsVisitStep net.arcs amounts (visit_at visits visit.parent) visit → Within net.nodes visit.node → ((j : ℕ) → j < length visits → visited_node visits j ≢ visit.node)
    → IsTree net amounts (visits ++ visit ∷ [])
IsTree-push net amounts visits tree visit p s w new = record {
  some = let l = tree.some in omega (arith, length-push visits visit);
  root = ap (λ (u : Visit). u.room) (visit_at-push visits visit 0 tree.some) ∙ tree.root;
  each = λ j q l. elim (cases_eq j (length visits)) [
    | inl e ↦ subst (IsVisit net.arcs amounts (visits ++ visit ∷ [])) (sym e) (IsVisit-last net.arcs amounts visits visit p s)
    | inr d ↦ IsVisit-push net.arcs amounts visits visit j (old_place visits visit j l d) (tree.each j q (old_place visits visit j l d))
  ];
  nodes = λ j l. elim (cases_eq j (length visits)) [
    | inl e ↦ subst (Within net.nodes) (sym (new_node visits visit j e)) w
    | inr d ↦ subst (Within net.nodes) (sym (old_node visits visit j (old_place visits visit j l d))) (tree.nodes j (old_place visits visit j l d))
  ];
  distinct = λ i j k l e. elim (cases_eq j (length visits)) [
    | inl g ↦ new i (omega arith) (sym (old_node visits visit i (omega arith)) ∙ e ∙ new_node visits visit j g)
    | inr d ↦ grind (arith, old_place visits visit j l d, old_node visits visit i, old_node visits visit j)
  ];
}

pub IsSetOfVisited-push : (net : Net) (visits : List Visit) (seen : List ℕ) → IsSetOfVisited net visits seen
    → (visit : Visit) (more : List ℕ) → Within net.nodes visit.node → mem seen visit.node ≡ false → ((v : ℕ) → mem more v ≡ (mem seen v || visit.node == v))
    → IsSetOfVisited net (visits ++ visit ∷ []) more
IsSetOfVisited-push net visits seen set visit more w f h = record {
  all_seen = λ j l. elim (cases_eq j (length visits)) [
    | inl e ↦ ap (mem more) (new_node visits visit j e) ∙ h visit.node ∙ or_right (mem seen visit.node) (visit.node == visit.node) (eq-eqb visit.node visit.node refl)
    | inr d ↦ grind (arith, old_place visits visit j l d, old_node visits visit j, or_left (mem seen (visited_node visits j)) (visit.node == visited_node visits j))
  ];
  seen_only = λ v m. (grind (arith, length-push visits visit, old_node visits visit, cases_eq visit.node v, new_node visits visit (length visits) refl, both_ways (mem more v), ne_eqb visit.node v));
  size = length-push visits visit ∙ ap (λ k. k + 1) set.size ∙ sym (count-with net.nodes (mem seen) (mem more) visit.node w f h);
}

-- a node that is not seen was not visited
pub unseen-new : (net : Net) (visits : List Visit) (seen : List ℕ) → IsSetOfVisited net visits seen → (v : ℕ) → mem seen v ≡ false → (j : ℕ) → j < length visits → visited_node visits j ≢ v
unseen-new net visits seen set v f j l e = both_ways (mem seen v) f (ap (mem seen) (sym e) ∙ set.all_seen j l)

-- something can go to each visit
pub room-some : (net : Net) (amounts : List ℤ) (visits : List Visit) → IsTree net amounts visits → (j : ℕ) → j < length visits → 0 < (visit_at visits j).room
room-some net amounts visits tree j l = grind arith

-- and no more than 2^63 - 1
pub room-below : (net : Net) (amounts : List ℤ) (visits : List Visit) → IsTree net amounts visits → (j : ℕ) → j < length visits → (visit_at visits j).room < 2 ^ 63
room-below net amounts visits tree j l = go (suc j) j (omega arith) l
  where
    go : (fuel k : ℕ) → k < fuel → k < length visits → (visit_at visits k).room < 2 ^ 63
    go zero k h m = absurd (omega arith)
    go (suc fuel) k h m = elim (cases_eq k 0) [
      | inl e ↦ subst (λ i. (visit_at visits i).room < 2 ^ 63) (sym e) (let r = tree.root in omega arith)
      | inr d ↦
          let v = tree.each k (omega arith) m in
          let p = go fuel (visit_at visits k).parent (let e = v.earlier in omega arith) (let e = v.earlier in omega arith) in
          let b = v.step.below in omega arith
    ]

-- no more visits than nodes
pub visits-le-nodes : (net : Net) (visits : List Visit) (seen : List ℕ) → IsSetOfVisited net visits seen → length visits ≤ net.nodes
visits-le-nodes net visits seen set = grind (arith, count_le net.nodes (mem seen))

-- the arc of a visit has room out of its parent's node
step-HasRoom : (arcs : List Arc) (amounts : List ℤ) (from visit : Visit) → IsVisitStep arcs amounts from visit → HasRoom arcs amounts from.node visit.node
step-HasRoom arcs amounts from visit s = grind arith

-- the node of each visit is reached from the root
pub tree-reaches : (net : Net) (amounts : List ℤ) (visits : List Visit) → IsTree net amounts visits → (j : ℕ) → j < length visits → IsReached net.arcs amounts (visited_node visits 0) (visited_node visits j)
tree-reaches net amounts visits tree j l = go (suc j) j (omega arith) l
  where
    go : (fuel k : ℕ) → k < fuel → k < length visits → IsReached net.arcs amounts (visited_node visits 0) (visited_node visits k)
    go zero k h m = absurd (omega arith)
    go (suc fuel) k h m = elim (cases_eq k 0) [
      | inl e ↦ ([], ap (visited_node visits) (sym e))
      | inr d ↦
          let v = tree.each k (omega arith) m in
          let p = (visit_at visits k).parent in
          let w = go fuel p (let e = v.earlier in omega arith) (let e = v.earlier in omega arith) in
          (visited_node visits p ∷ w.0, (w.1, step-HasRoom net.arcs amounts (visit_at visits p) (visit_at visits k) v.step))
    ]

-- different visits come over different arcs
pub arcs-differ : (net : Net) (amounts : List ℤ) (visits : List Visit) → IsTree net amounts visits → (i j : ℕ) → 0 < i → i < j → j < length visits → (visit_at visits i).arc ≢ (visit_at visits j).arc
arcs-differ net amounts visits tree i j p k l e = grind arith

-- an increasing list whose members are numbers 1 to n
rising-within : (m n : ℕ) (xs : List ℕ) → IsRisingIn m xs → ((v : ℕ) → mem xs v ≡ true → Within n v) → IsRisingIn n xs
rising-within m n xs r h = grind (arith, mem-item xs)

-- a search that has scanned all its visits has found the nodes that are reached from its root,
-- and the sink is not among them
pub search-ends : (net : Net) (amounts : List ℤ) (source sink head : ℕ) (visits : List Visit) (seen : List ℕ) → IsSearch net amounts sink head visits seen → length visits ≤ head → visited_node visits 0 ≡ source → IsRisingIn 128 seen → IsReachedSet net amounts source sink seen
search-ends net amounts source sink head visits seen s e root r = record {
  nodes = rising-within 128 net.nodes seen r (λ v m. let k = set.seen_only v m in subst (Within net.nodes) k.2 (tree.nodes k.0 k.1));
  separates = record { holds = ap (mem seen) (sym root) ∙ set.all_seen 0 tree.some; lacks = s.unseen };
  reached = λ v m. let k = set.seen_only v m in subst (λ u. IsReached net.arcs amounts u v) root (subst (IsReached net.arcs amounts (visited_node visits 0)) k.2 (tree-reaches net amounts visits tree k.0 k.1));
  closed = λ u m. let k = set.seen_only u m in subst (IsScanned net.arcs amounts (mem seen)) k.2 (s.scanned k.0 (let l = k.1 in omega arith));
}
  where
    tree : IsTree net amounts visits
    tree = s.tree

    set : IsSetOfVisited net visits seen
    set = s.set
