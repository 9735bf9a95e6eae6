-- A path that goes from level to level: how it grows, goes back and starts again, and that the
-- remaining work always decreases. Idea: visit j is at level j, so no node comes twice; each arc is
-- skipped once, and a path is no longer than the number of levels.
use Rattle.std.proofs.Common.{◌≡◌, ◌≢◌, ℕ, zero, suc, ◌+◌, ◌-◌, ◌≤◌, ◌<◌, List, [], ◌∷◌, ◌++◌, length, get_or, set, take, min, sym, ◌∙◌, ap, subst, arith, inl, inr, length-append, slice_index, ℤ, get_or-set_same, get_or-set_other, length-take}
use Rattle.vset_core.proofs.from_counting.Common.{ints, get_or-append_seam, cases_eq, get_or_read, total_congr, Within, total, row_of}
use Rattle.flow_core.specs.Common.{Net, arc_at, visit_at, visited_node, IsVisitStep, IsLaid, arcs_left, work_left}
use Rattle.flow_core.specs.declared.search.Visit.{Visit}
use Rattle.flow_core.proofs.SearchTrees.{IsTree-push, visit_at-push, room-some}
use Rattle.flow_core.proofs.Scanning.{Leads, taken, end_within}

-- one term falls by one
total-less : (n : ℕ) (f g : ℕ → ℕ) (a : ℕ) → Within n a → ((v : ℕ) → Within n v → v ≢ a → f v ≡ g v) → f a + 1 ≡ g a → total n f + 1 ≡ total n g
total-less zero f g a w h e = absurd (omega arith)
total-less (suc n) f g a w h e = elim (cases_eq a (suc n)) [
  | inl t ↦ grind (arith, total_congr n f g)
  | inr d ↦
      let less = total-less n f g a (omega arith) (λ v u k. h v (omega arith) k) e in
      let last = h (suc n) (omega arith) (omega arith) in omega arith
]

-- an arc that is passed over is one arc less
pub arcs_left-pass : (nodes : ℕ) (rows : List (List ℕ)) (places : List ℕ) (v : ℕ) → Within nodes v → v < length places → slice_index places v < length (row_of rows v)
    → arcs_left nodes rows (set places v (slice_index places v + 1)) + 1 ≡ arcs_left nodes rows places
arcs_left-pass nodes rows places v w l p =
    total-less nodes (λ u. length (row_of rows u) - slice_index (set places v (slice_index places v + 1)) u) (λ u. length (row_of rows u) - slice_index places u) v w
    (λ u k d. ap (λ x. length (row_of rows u) - x) (get_or-set_other places v u (slice_index places v + 1) 0 d))
    (let e = get_or-set_same places v (slice_index places v + 1) 0 l in omega arith)

long-take : (path : List Visit) (n : ℕ) → n ≤ length path → length (take n path) ≡ n
long-take path n l = let e = length-take n path in omega arith

-- what the code reads at the last visit of a path that is laid
pub record IsLastRead (net : Net) (places : List ℕ) (path : List Visit) (last : ℕ) (from : Visit) (place : ℕ) : Type 0 where
  pub is : visit_at path last ≡ from
  pub within : Within net.nodes from.node
  pub at : slice_index places from.node ≡ place

pub last-read : (net : Net) (rows : List (List ℕ)) (amounts : List ℤ) (levels places : List ℕ) (path : List Visit) → IsLaid net rows amounts levels places path → (last : ℕ) → length path ≡ last + 1 → (from : Visit) → from ≡ get_or path last from
    → (place : ℕ) → place ≡ get_or places from.node place → IsLastRead net places path last from place
last-read net rows amounts levels places path laid last long from f place p = grind (arith, get_or_read path last from, slice_index places from.node, get_or_read places from.node place)

-- the path goes on to a node of the next level
module _ (net : Net) (rows : List (List ℕ)) (amounts : List ℤ) (levels places : List ℕ) (path : List Visit) (laid : IsLaid net rows amounts levels places path)
    (last : ℕ) (long : length path ≡ last + 1) (from : Visit) (is : visit_at path last ≡ from) (row : List ℕ) (lists : row ≡ row_of rows from.node) (place : ℕ) (at : slice_index places from.node ≡ place) (here : place < length row)
    (node room : ℕ) (t : Leads net amounts from.node row place node room) (some : 0 < room) (level : slice_index levels node ≡ last + 1) where
  abbrev visit : Visit
  visit = taken node last (get_or row place 0) (min room from.room)

  old : (j : ℕ) → j < length path → visited_node (path ++ visit ∷ []) j ≡ visited_node path j
  old j m = ap (λ (u : Visit). u.node) (visit_at-push path visit j m)

  on : slice_index places (visited_node path last) < length (row_of rows (visited_node path last))
  on = grind arith

  pub IsLaid-push : IsLaid net rows amounts levels places (path ++ taken node last (get_or row place 0) (min room from.room) ∷ [])
  IsLaid-push = record {
    tree = IsTree-push net amounts path laid.tree visit (omega arith)
        (subst (λ (u : Visit). IsVisitStep net.arcs amounts u visit) (sym is) (record {
          is_arc = t.is_arc;
          joins = t.joins;
          some = let f = room-some net amounts path laid.tree last (omega arith) in let e = ap (λ (u : Visit). u.room) is in omega arith;
          within = let e = t.room_is in omega (arith, ints);
          below = omega arith;
        }))
        (end_within net.nodes (arc_at net.arcs (get_or row place 0)) from.node node t.in_order t.joins)
        (λ j k e. let r = laid.rising j k in let s = ap (slice_index levels) e in omega arith);
    all_levels = laid.all_levels;
    all_places = laid.all_places;
    rising = λ j k. elim (cases_eq j (length path)) [
      | inl e ↦ ap (slice_index levels) (ap (visited_node (path ++ visit ∷ [])) e ∙ ap (λ (u : Visit). u.node) (get_or-append_seam path visit [] (record { node = 0; parent = 0; arc = 0; room = 0 }))) ∙ level ∙ sym long ∙ sym e
      | inr d ↦ let m : j < length path = omega (arith, length-append path (visit ∷ [])) in ap (slice_index levels) (old j m) ∙ laid.rising j m
    ];
    ahead = λ j k.
        let m : j < length path = omega (arith, length-append path (visit ∷ [])) in
        subst (λ v. slice_index places v < length (row_of rows v)) (sym (old j m)) (elim (cases_eq j last) [
          | inl e ↦ subst (λ i. slice_index places (visited_node path i) < length (row_of rows (visited_node path i))) (sym e) on
          | inr d ↦ laid.ahead j (omega arith)
        ]);
  }

-- with a step back there is less left
pub work-back : (nodes : ℕ) (rows : List (List ℕ)) (places : List ℕ) (path : List Visit) (v last : ℕ) → length path ≡ last + 1 → Within nodes v → v < length places → slice_index places v < length (row_of rows v)
    → work_left nodes rows (set places v (slice_index places v + 1)) (take last path) < work_left nodes rows places path
work-back nodes rows places path v last l w m p = grind (arith, arcs_left-pass nodes rows places v w m p, long-take path last)

-- and with an arc that is passed over
pub work-pass : (nodes : ℕ) (rows : List (List ℕ)) (places : List ℕ) (path : List Visit) (v : ℕ) → Within nodes v → v < length places → slice_index places v < length (row_of rows v)
    → work_left nodes rows (set places v (slice_index places v + 1)) path < work_left nodes rows places path
work-pass nodes rows places path v w m p = let a = arcs_left-pass nodes rows places v w m p in omega arith

-- a new start adds at most the levels
pub work-start : (nodes : ℕ) (rows : List (List ℕ)) (places : List ℕ) (path : List Visit) → work_left nodes rows places (take 1 path) ≤ work_left nodes rows places path + 256
work-start nodes rows places path = omega arith
