-- The arcs at one node, scanned one by one: each is not residual out of the node, or leads to a
-- node that has then been seen. Idea: the arcs scanned so far stay scanned while the set of seen
-- nodes grows, and the rows list every arc at the node.
use Rattle.std.proofs.Common.{◌≡◌, ◌≢◌, ℕ, ◌+◌, ◌≤◌, ◌<◌, ◌==◌, ◌||◌, true, false, List, [], ◌∷◌, ◌++◌, length, get_or, min, refl, sym, ◌∙◌, ap, subst, arith, inl, inr, eq-eqb, ne_eqb, below_more, length-append, ℤ, pos, ◌<ℤ◌, Contains}
use Rattle.vset_core.proofs.from_counting.Common.{ints, or_right, or_left, get_or_read, get_or-append_seam, Within, Set, mem, row_of}
use Rattle.flow_core.specs.Common.{Arc, Net, IsArc, IsNet, arc_at, amount_at, Joins, room_from, HasRoom, IsScanned, HasEnd, IsIncidence, visit_at, visited_node, first_node, last_node, IsVisitStep, IsTree, IsSetOfVisited, IsSearch}
use Rattle.flow_core.specs.declared.search.Visit.{Visit}
use Rattle.flow_core.proofs.SearchTrees.{IsTree-push, IsSetOfVisited-push, unseen-new, visit_at-push, room-some}

-- arc i has no room out of u, or leads into x
abbrev pub IsArcScanned : List Arc → List ℤ → Set → ℕ → ℕ → Type 0
IsArcScanned arcs amounts x u i = (w : ℕ) → Joins (arc_at arcs i) u w → pos 0 <ℤ room_from u (arc_at arcs i) (amount_at amounts i) → x w ≡ true

-- a search that is scanning the row of its visit `head`, up to a place in it
pub record IsScanning (net : Net) (amounts : List ℤ) (sink head : ℕ) (from : Visit) (row : List ℕ) (place : ℕ) (visits : List Visit) (seen : List ℕ) : Type 0 where
  pub search : IsSearch net amounts sink head visits seen
  pub long : head < length visits
  pub at_head : visit_at visits head ≡ from
  pub done : (p : ℕ) → p < place → IsArcScanned net.arcs amounts (mem seen) from.node (get_or row p 0)

-- an arc has one other end
pub other_end : (n : ℕ) (arc : Arc) (u v w : ℕ) → IsArc n arc → Joins arc u v → Joins arc u w → w ≡ v
other_end n arc u v w is h k = grind arith

-- the other end is a node
pub end_within : (n : ℕ) (arc : Arc) (u w : ℕ) → IsArc n arc → Joins arc u w → Within n w
end_within n arc u w is h = grind arith

-- the item at a place of a row: an arc of the net with an end at the row's node
pub record IsPlaced (net : Net) (u : ℕ) (row : List ℕ) (place : ℕ) : Type 0 where
  pub is_arc : get_or row place 0 < length net.arcs
  pub end : HasEnd (arc_at net.arcs (get_or row place 0)) u

-- where an arc at the row's node leads, and how much more it can take there
pub record Leads (net : Net) (amounts : List ℤ) (u : ℕ) (row : List ℕ) (place node room : ℕ) : Type 0 where
  pub is_arc : get_or row place 0 < length net.arcs
  pub in_order : IsArc net.nodes (arc_at net.arcs (get_or row place 0))
  pub joins : Joins (arc_at net.arcs (get_or row place 0)) u node
  pub room_is : pos room ≡ room_from u (arc_at net.arcs (get_or row place 0)) (amount_at amounts (get_or row place 0))

-- as the code reads it
pub Leads-read : (net : Net) → IsNet net → (rows : List (List ℕ)) → IsIncidence net rows → (amounts : List ℤ) (u : ℕ) (row : List ℕ) → row ≡ row_of rows u → (place : ℕ) → place < length row
    → (node : ℕ) → Joins (arc_at net.arcs (get_or row place 0)) u node → (room : ℕ) → pos room ≡ room_from u (arc_at net.arcs (get_or row place 0)) (amount_at amounts (get_or row place 0))
    → Leads net amounts u row place node room
Leads-read net is rows lists amounts u row e place l node joins room r = grind arith

-- a visit with these parts
abbrev pub taken : ℕ → ℕ → ℕ → ℕ → Visit
taken node parent arc room = record { node = node; parent = parent; arc = arc; room = room }

-- the state after an arc is taken to a new node: the tree with a visit more, and where the node is
-- not the sink, a search that scans on
pub record IsTaken (net : Net) (amounts : List ℤ) (sink head : ℕ) (from : Visit) (row : List ℕ) (place : ℕ) (visits : List Visit) (node : ℕ) (longer : List Visit) (more : List ℕ) : Type 0 where
  pub first : first_node longer ≡ first_node visits
  pub tree : IsTree net amounts longer
  pub last : last_node longer ≡ node
  pub scanning : node ≢ sink → IsScanning net amounts sink head from row (place + 1) longer more

-- an arc is taken: it has room, and its other end is new
module _ (net : Net) (amounts : List ℤ) (sink head : ℕ) (from : Visit) (row : List ℕ) (place : ℕ) (visits : List Visit) (seen : List ℕ) (s : IsScanning net amounts sink head from row place visits seen)
    (node room : ℕ) (t : Leads net amounts from.node row place node room) (some : room ≢ 0) (new : mem seen node ≡ false) (least : ℕ) (is_least : least ≡ min room from.room) (longer : List Visit) (pushed : longer ≡ visits ++ taken node head (get_or row place 0) least ∷ []) (more : List ℕ) (h : (v : ℕ) → mem more v ≡ (mem seen v || node == v)) where
  abbrev last : Visit
  last = taken node head (get_or row place 0) (min room from.room)

  grown : longer ≡ visits ++ taken node head (get_or row place 0) (min room from.room) ∷ []
  grown = pushed ∙ ap (λ r. visits ++ taken node head (get_or row place 0) r ∷ []) is_least

  stays : (v : ℕ) → mem seen v ≡ true → mem more v ≡ true
  stays v m = h v ∙ or_left (mem seen v) (node == v) m

  is_seen : mem more node ≡ true
  is_seen = h node ∙ or_right (mem seen node) (node == node) (eq-eqb node node refl)

  node_within : Within net.nodes node
  node_within = end_within net.nodes (arc_at net.arcs (get_or row place 0)) from.node node t.in_order t.joins

  from_some : 0 < from.room
  from_some = subst (λ (u : Visit). 0 < u.room) s.at_head (room-some net amounts visits s.search.tree head s.long)

  -- the tree with the new visit
  taken-tree : IsTree net amounts longer
  taken-tree = subst (IsTree net amounts) (sym grown) (
      IsTree-push net amounts visits s.search.tree last s.long
      (subst (λ (u : Visit). IsVisitStep net.arcs amounts u last) (sym s.at_head) (record {
        is_arc = t.is_arc;
        joins = t.joins;
        some = let f = from_some in omega arith;
        within = let e = t.room_is in omega (arith, ints);
        below = omega arith;
      }))
      node_within (unseen-new net visits seen s.search.set node new)
      )

  -- its last node
  taken-last : last_node longer ≡ node
  taken-last = grind (arith, length-append visits (last ∷ []), get_or-append_seam visits last)

  -- an earlier visit stays
  earlier : (j : ℕ) → j < length visits → visit_at longer j ≡ visit_at visits j
  earlier j l = ap (λ (vs : List Visit). visit_at vs j) grown ∙ visit_at-push visits last j l

  -- the first among them
  taken-first : first_node longer ≡ first_node visits
  taken-first = ap (λ (u : Visit). u.node) (earlier 0 s.search.tree.some)

  -- where the new node is not the sink, the scan goes on
  IsScanning-take : node ≢ sink → IsScanning net amounts sink head from row (place + 1) longer more
  IsScanning-take d = record {
    search = record {
      tree = taken-tree;
      set = subst (λ (vs : List Visit). IsSetOfVisited net vs more) (sym grown) (IsSetOfVisited-push net visits seen s.search.set last more node_within new h);
      unseen = h sink ∙ ap (λ b. b || node == sink) s.search.unseen ∙ ne_eqb node sink d;
      scanned = λ j l w r. stays w (s.search.scanned j l w (subst (λ u. HasRoom net.arcs amounts u w) (ap (λ (u : Visit). u.node) (earlier j (let k = s.long in omega arith))) r));
    };
    long = let l = s.long in let g = ap (λ (vs : List Visit). length vs) grown in omega (arith, length-append visits (last ∷ []));
    at_head = earlier head s.long ∙ s.at_head;
    done = below_more (λ p. IsArcScanned net.arcs amounts (mem more) from.node (get_or row p 0)) place (λ p l w j r. stays w (s.done p l w j r)) (λ w j r. ap (mem more) (other_end net.nodes (arc_at net.arcs (get_or row place 0)) from.node node w t.in_order t.joins j) ∙ is_seen);
  }

  pub taken-facts : IsTaken net amounts sink head from row place visits node longer more
  taken-facts = record { first = taken-first; tree = taken-tree; last = taken-last; scanning = IsScanning-take }

-- at the end of the row the node is scanned
pub IsScanning-end : (net : Net) (rows : List (List ℕ)) (amounts : List ℤ) (sink head : ℕ) (from : Visit) (row : List ℕ) (place : ℕ) (visits : List Visit) (seen : List ℕ) → IsIncidence net rows → row ≡ row_of rows from.node → length row ≤ place
    → IsScanning net amounts sink head from row place visits seen → IsSearch net amounts sink (head + 1) visits seen
IsScanning-end net rows amounts sink head from row place visits seen lists is e s = record {
  tree = s.search.tree;
  set = s.search.set;
  unseen = s.search.unseen;
  scanned = below_more (λ j. IsScanned net.arcs amounts (mem seen) (visited_node visits j)) head s.search.scanned (λ w r. here w (subst (λ u. HasRoom net.arcs amounts u w) (ap (λ (u : Visit). u.node) s.at_head) r));
}
  where
    listed : (i u w : ℕ) → i < length net.arcs → Joins (arc_at net.arcs i) u w → Contains (row_of rows u) i
    listed i u w l (inl x) = subst (λ v. Contains (row_of rows v) i) x.0 (lists.at_a i l)
    listed i u w l (inr x) = subst (λ v. Contains (row_of rows v) i) x.0 (lists.at_b i l)

    here : (w : ℕ) → HasRoom net.arcs amounts from.node w → mem seen w ≡ true
    here w r =
        let k : Contains row r.arc = subst (λ (xs : List ℕ). Contains xs r.arc) (sym is) (listed r.arc from.node w r.is_arc r.joins) in
        let i : get_or row k.0 0 ≡ r.arc = sym (get_or_read row k.0 r.arc k.1 (sym k.2) 0) in
        s.done k.0 (let l = k.1 in omega arith) w (subst (λ j. Joins (arc_at net.arcs j) from.node w) (sym i) r.joins) (subst (λ j. pos 0 <ℤ room_from from.node (arc_at net.arcs j) (amount_at amounts j)) (sym i) r.room)
