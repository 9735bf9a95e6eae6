-- The first cut of a list stays the first while shores add more. A step leaves the list or
-- appends to it; so the first cut of the first classes is the first of all.
use Rattle.std.proofs.Common.{◌≡◌, ℕ, sym, ap, ◌∙◌, List, [], ◌∷◌, ◌++◌, Some, None, flat_map, fold, take, slice_get, length, ◌≤◌, ◌<◌, ◌+◌, get_or, append-nil, take-append-drop, arith}
use Rattle.graph_core.proofs.from_counting.Common.{flat_map-append, fold-append, take_more, mem}
use Rattle.graph_core.proofs.Common.{components, Graph, classes, with_cut}
use Rattle.barrier_kit.proofs.CutLists.{barrier_cuts-all}
use Rattle.barrier_kit.specs.Common.{barrier_cuts, barrier_shores}

first-append : (cuts : List (List ℕ)) (d c : List ℕ) → slice_get cuts 0 ≡ Some c → slice_get (cuts ++ d ∷ []) 0 ≡ Some c
first-append [] d c h = absurd cc
first-append (b ∷ cuts) d c h = h

pub first-kept : (n : ℕ) (cuts shores : List (List ℕ)) (c : List ℕ) → slice_get cuts 0 ≡ Some c → slice_get (fold (with_cut n) cuts shores) 0 ≡ Some c
first-kept n cuts [] c h = h
first-kept n cuts (s ∷ shores) c h = first-kept n (with_cut n cuts s) shores c (grind (arith, first-append))

-- the first cut of some shores is the first with more shores after them
pub first-of_part : (n : ℕ) (cuts shores more : List (List ℕ)) (c : List ℕ) → cuts ≡ fold (with_cut n) [] shores → slice_get cuts 0 ≡ Some c → Some c ≡ slice_get (fold (with_cut n) [] (shores ++ more)) 0
first-of_part n cuts shores more c is h = grind (arith, slice_get, fold-append (with_cut n), first-kept n cuts more c h)

-- the first cut of the first classes
first_barrier : (g : Graph) (cuts items : List (List ℕ)) (i : ℕ) → items ≡ classes g → cuts ≡ fold (with_cut g.order) [] (flat_map (λ s. components g (mem s)) (take i items)) → (c : List ℕ) → slice_get cuts 0 ≡ Some c → Some c ≡ slice_get (barrier_cuts g) 0
unfolding barrier_cuts barrier_shores
first_barrier g cuts items i is old c h = grind (arith, first-of_part g.order cuts, slice_get, flat_map-append, take-append-drop i items)

module _ (g : Graph) (cuts items : List (List ℕ)) (i : ℕ) (is : items ≡ classes g) (old : cuts ≡ fold (with_cut g.order) [] (flat_map (λ s. components g (mem s)) (take i items))) where
  -- a class more
  pub next_barrier : (item : List ℕ) (after : List (List ℕ)) (c : List ℕ) → i < length items → item ≡ get_or items i item → after ≡ fold (with_cut g.order) cuts (components g (mem item)) → slice_get after 0 ≡ Some c → Some c ≡ slice_get (barrier_cuts g) 0
  next_barrier item after c l read new h = grind (arith, first_barrier g after items (i + 1) is, fold-append (with_cut g.order), append-nil, flat_map-append, take_more items i item l)

  -- no class has a cut
  pub no_first_barrier : length items ≤ i → cuts ≡ [] → None ≡ slice_get (barrier_cuts g) 0
  no_first_barrier l none = ap (λ (list : List (List ℕ)). slice_get list 0) (sym none ∙ barrier_cuts-all g cuts items i is l old)
