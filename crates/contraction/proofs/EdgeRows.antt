-- Each edge that joins two blocks is in the row of the lesser of its ends, and in no other. So the
-- edges with two given different ends are those of one row that pass a test.
use Rattle.std.proofs.Common.{◌≡◌, ◌≢◌, ℕ, zero, suc, ◌+◌, ◌-◌, ◌<◌, ◌==◌, ◌&&◌, not, min, Bool, true, false, cond, List, [], ◌∷◌, ◌++◌, append-nil, filter, get_or, length, set, take, refl, sym, subst, ap, ap₂, ◌∙◌, arith, eqb-true, inl, inr, All, get_or-set_same, get_or-set_other, length-set}
use Rattle.std.specs.Global.{Vec}
use Rattle.graph_core.proofs.from_counting.Common.{map-set, take_more, filter-append, All-head, All-tail, cases_Bool, cases_eq, get_or-map, length-map, row_of, rising_list, rising_list-rises, Set, Within}
use Rattle.graph_core.proofs.Common.{Graph, are_ends, has_ends, size, graph_of, has_ends-graph_of, pair-graph_of, size-graph_of}
use Rattle.graph_core.specs.declared.ends.Ends.{Ends}
use Rattle.contraction.specs.EdgeRows.{AreEdgeRows, lists_of, starts_at}

-- a filter of an increasing list by a test that only its members pass
filter-rising : (n : ℕ) (x y : Set) → ((k : ℕ) → y k ≡ true → x k ≡ true) → filter y (rising_list n x) ≡ rising_list n y
filter-rising zero x y h = refl
filter-rising (suc n) x y h = grind (arith, filter-append, filter-rising n x y h, cases_Bool, h (suc n))

-- an edge with two different ends starts at the lesser
ends-start : (g : Graph) (a b e : ℕ) → a ≢ b → has_ends g a b e ≡ true → starts_at g (min a b) e ≡ true
ends-start g a b e d h = grind (arith, eqb-true)

-- the edges of a row are edges
pub row-edge : (es : List Ends) (rows : List (List ℕ)) (x : ℕ) (items : List ℕ) (i : ℕ) → AreEdgeRows (graph_of 0 es) rows → items ≡ row_of rows x → i < length items → Within (length es) (get_or items i 0)
row-edge es rows x items i are same l =
    let all : items ≡ rising_list (length es) (starts_at (graph_of 0 es) x) = same ∙ are.each x ∙ ap (λ n. rising_list n (starts_at (graph_of 0 es) x)) (size-graph_of 0 es) in
    (subst (λ (xs : List ℕ). (k d : ℕ) → k < length xs → Within (length es) (get_or xs k d)) (sym all) (rising_list-rises (length es) (starts_at (graph_of 0 es) x)).within) i 0 l

-- the next edge goes after those before it where it has the two ends
pub found-more : (es : List Ends) (a b : ℕ) (items : List ℕ) (i : ℕ) (d : Ends) (before after : List ℕ) → Within (length es) (get_or items i 0) → i < length items →
    before ≡ filter (has_ends (graph_of 0 es) a b) (take i items) → after ≡ before ++ cond (are_ends a b (get_or es (get_or items i 0 - 1) d)) (get_or items i 0 ∷ []) [] → after ≡ filter (has_ends (graph_of 0 es) a b) (take (i + 1) items)
found-more es a b items i d before after w l old new =
    let k : ℕ = get_or items i 0 in
    let back : suc (k - 1) ≡ k = omega arith in
    let test : has_ends (graph_of 0 es) a b k ≡ are_ends a b (get_or es (k - 1) d) = subst (λ n. has_ends (graph_of 0 es) a b n ≡ are_ends a b (get_or es (k - 1) d)) back (has_ends-graph_of 0 es a b (k - 1) d (omega arith)) in
    new ∙ ap₂ (λ (xs : List ℕ) t. xs ++ cond t (k ∷ []) []) old (sym test) ∙ sym (filter-append (has_ends (graph_of 0 es) a b) (take i items) (k ∷ [])) ∙ ap (filter (has_ends (graph_of 0 es) a b)) (sym (take_more items i 0 l))

-- in the end these are all edges with the two ends
pub found-all : (es : List Ends) (a b : ℕ) (rows : List (List ℕ)) (items : List ℕ) (i : ℕ) (found : List ℕ) → AreEdgeRows (graph_of 0 es) rows → items ≡ row_of rows (min a b) → a ≢ b → take i items ≡ items →
    found ≡ filter (has_ends (graph_of 0 es) a b) (take i items) → found ≡ rising_list (length es) (has_ends (graph_of 0 es) a b)
found-all es a b rows items i found are same d all f =
    f ∙ ap (filter (has_ends (graph_of 0 es) a b)) (all ∙ same ∙ are.each (min a b)) ∙ filter-rising (size (graph_of 0 es)) (starts_at (graph_of 0 es) (min a b)) (has_ends (graph_of 0 es) a b) (λ k. ends-start (graph_of 0 es) a b k d) ∙ ap (λ n. rising_list n (has_ends (graph_of 0 es) a b)) (size-graph_of 0 es)

pub hit : (t : Bool) (xs ys : List ℕ) (e : ℕ) → t ≡ true → ys ≡ xs ++ e ∷ [] → ys ≡ xs ++ cond t (e ∷ []) []
hit t xs ys e h s = s ∙ ap (λ b. xs ++ cond b (e ∷ []) []) (sym h)

pub miss : (t : Bool) (xs ys : List ℕ) (e : ℕ) → t ≡ false → ys ≡ xs → ys ≡ xs ++ cond t (e ∷ []) []
miss t xs ys e h s = s ∙ sym (append-nil xs) ∙ ap (λ b. xs ++ cond b (e ∷ []) []) (sym h)

-- the rows of the first k edges
pub record ListsFirst (es : List Ends) (n k : ℕ) (rows : List (List ℕ)) : Type 0 where
  pub long : length rows ≡ n + 1
  pub each : (a : ℕ) → row_of rows a ≡ rising_list k (starts_at (graph_of 0 es) a)

-- where the next edge starts, by the item that the code reads
starts-next : (es : List Ends) (k a : ℕ) (d : Ends) → k < length es → starts_at (graph_of 0 es) a (suc k) ≡ (not ((get_or es k d).a == (get_or es k d).b) && (min (get_or es k d).a (get_or es k d).b == a))
starts-next es k a d l = let p = pair-graph_of 0 es k d l in rw (p.0, p.1) refl

-- the next edge goes into the row of its lesser end
pub rows-more : (es : List Ends) (n k : ℕ) (d : Ends) (v : ℕ) (rows new : List (List ℕ)) → k < length es → v ≡ min (get_or es k d).a (get_or es k d).b → (get_or es k d).a ≢ (get_or es k d).b → v < length rows → ListsFirst es n k rows →
    new ≡ set rows v (row_of rows v ++ (k + 1) ∷ []) → ListsFirst es n (k + 1) new
rows-more es n k d v rows new l is o w h s = record {
  long = ap length s ∙ length-set rows v (row_of rows v ++ (k + 1) ∷ []) ∙ h.long;
  each = λ a. elim (cases_eq a v) [
    | inl e ↦ ap (λ (r : List (List ℕ)). row_of r a) s ∙ ap (row_of grown) e ∙ get_or-set_same rows v (row_of rows v ++ (k + 1) ∷ []) [] w ∙ here a e
    | inr f ↦ ap (λ (r : List (List ℕ)). row_of r a) s ∙ get_or-set_other rows v a (row_of rows v ++ (k + 1) ∷ []) [] f ∙ there a f
  ];
}
  where
    grown : List (List ℕ)
    grown = set rows v (row_of rows v ++ (k + 1) ∷ [])

    here : (a : ℕ) → a ≡ v → row_of rows v ++ (k + 1) ∷ [] ≡ rising_list (k + 1) (starts_at (graph_of 0 es) a)
    here a e = grind (arith, h.each v, starts-next es k a d l)

    there : (a : ℕ) → a ≢ v → row_of rows a ≡ rising_list (k + 1) (starts_at (graph_of 0 es) a)
    there a f = grind (arith, h.each a, starts-next es k a d l, append-nil (rising_list k (starts_at (graph_of 0 es) a)))

-- a loop goes into no row
pub rows-same : (es : List Ends) (n k : ℕ) (d : Ends) (rows : List (List ℕ)) → k < length es → (get_or es k d).a ≡ (get_or es k d).b → ListsFirst es n k rows → ListsFirst es n (k + 1) rows
rows-same es n k d rows l e h = record { long = h.long; each = λ a. grind (arith, h.each a, starts-next es k a d l, append-nil (rising_list k (starts_at (graph_of 0 es) a))) }

-- a row that has grown at its end
pub lists-push : (rows : List (Vec ℕ)) (view : List (List ℕ)) → lists_of rows ≡ view → (v : ℕ) → v < length view → (row new : Vec ℕ) → row ≡ get_or rows v row → (i : ℕ) → new.items ≡ row.items ++ i ∷ [] → lists_of (set rows v new) ≡ set view v (row_of view v ++ i ∷ [])
lists-push rows view is v l row new e i grown = grind (arith, length-map, get_or-map, map-set)

-- rows that are all empty
pub lists-empty : (rows : List (Vec ℕ)) → All (λ (row : Vec ℕ). row.items ≡ []) rows → (v : ℕ) → row_of (lists_of rows) v ≡ []
lists-empty [] h v = refl
lists-empty (row ∷ rows) h zero = All-head (λ (r : Vec ℕ). r.items ≡ []) row rows h
lists-empty (row ∷ rows) h (suc v) = lists-empty rows (All-tail (λ (r : Vec ℕ). r.items ≡ []) row rows h) v
