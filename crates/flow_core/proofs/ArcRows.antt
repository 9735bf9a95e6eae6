-- Arc by arc the rows come to list all arcs of the net: with each arc, its place goes to the rows
-- of its two ends. Idea: a row that grows at its end keeps what it has, and every other row
-- stays.
use Rattle.std.proofs.Common.{◌≡◌, ℕ, ◌+◌, ◌<◌, ◌≢◌, List, [], ◌∷◌, ◌++◌, length, set, sym, ◌∙◌, subst, arith, inl, inr, length-append, All, Contains, get_or-set_same, get_or-set_other, length-set}
use Rattle.vset_core.proofs.from_counting.Common.{All-push, All-weaker, get_or-append_seam, cases_eq, get_or_append_left, row_of}
use Rattle.flow_core.specs.Common.{Net, IsArc, arc_at, HasEnd, ListsArcs}

-- the rows with i at the end of the row of v
abbrev pub with_place : List (List ℕ) → ℕ → ℕ → List (List ℕ)
with_place rows v i = set rows v (row_of rows v ++ i ∷ [])

Contains-push : (xs : List ℕ) (i j : ℕ) → Contains xs j → Contains (xs ++ i ∷ []) j
Contains-push xs i j h = grind (arith, length-append xs (i ∷ []), get_or_append_left xs (i ∷ []) j h.0 h.1)

Contains-last : (xs : List ℕ) (i : ℕ) → Contains (xs ++ i ∷ []) i
Contains-last xs i = (length xs, omega (arith, length-append xs (i ∷ [])), get_or-append_seam xs i [] i)

row_of-same : (rows : List (List ℕ)) (v i : ℕ) → v < length rows → row_of (with_place rows v i) v ≡ row_of rows v ++ i ∷ []
row_of-same rows v i l = get_or-set_same rows v (row_of rows v ++ i ∷ []) [] l

row_of-other : (rows : List (List ℕ)) (v i w : ℕ) → w ≢ v → row_of (with_place rows v i) w ≡ row_of rows w
row_of-other rows v i w d = get_or-set_other rows v w (row_of rows v ++ i ∷ []) [] d

-- the rows keep what they have
kept : (rows : List (List ℕ)) (v i w j : ℕ) → v < length rows → Contains (row_of rows w) j → Contains (row_of (with_place rows v i) w) j
kept rows v i w j l h = elim (cases_eq w v) [
  | inl e ↦
      let g : Contains (row_of rows v) j = subst (λ u. Contains (row_of rows u) j) e h in
      subst (λ u. Contains (row_of (with_place rows v i) u) j) (sym e) (subst (λ (r : List ℕ). Contains r j) (sym (row_of-same rows v i l)) (Contains-push (row_of rows v) i j g))
  | inr d ↦ subst (λ (r : List ℕ). Contains r j) (sym (row_of-other rows v i w d)) h
]

-- and have the new place
added : (rows : List (List ℕ)) (v i : ℕ) → v < length rows → Contains (row_of (with_place rows v i) v) i
added rows v i l = subst (λ (r : List ℕ). Contains r i) (sym (row_of-same rows v i l)) (Contains-last (row_of rows v) i)

-- what is true of all places in a row, and of the new one, holds after it too
each : (P : ℕ → Type 0) (rows : List (List ℕ)) (v i w : ℕ) → v < length rows → All P (row_of rows w) → (w ≡ v → P i) → All P (row_of (with_place rows v i) w)
each P rows v i w l h p = elim (cases_eq w v) [
  | inl e ↦
      let g : All P (row_of rows v) = subst (λ u. All P (row_of rows u)) e h in
      subst (λ u. All P (row_of (with_place rows v i) u)) (sym e) (subst (All P) (sym (row_of-same rows v i l)) (All-push P (row_of rows v) i g (p e)))
  | inr d ↦ subst (All P) (sym (row_of-other rows v i w d)) h
]

-- one arc more
pub ListsArcs-more : (net : Net) (n : ℕ) → IsArc net.nodes (arc_at net.arcs n) → (rows : List (List ℕ)) → ListsArcs net n rows
    → ListsArcs net (n + 1) (with_place (with_place rows (arc_at net.arcs n).a n) (arc_at net.arcs n).b n)
ListsArcs-more net n is rows h = record {
  size = length-set one b (row_of one b ++ n ∷ []) ∙ longer ∙ h.size;
  ends = λ v. each (Holds (n + 1) v) one b n v in_b (each (Holds (n + 1) v) rows a n v in_a (All-weaker (Holds n v) (Holds (n + 1) v) (λ i k. (let m = k.0 in omega arith, k.1)) (row_of rows v) (h.ends v)) (λ e. (omega arith, inl (sym e)))) (λ e. (omega arith, inr (sym e)));
  at_a = λ i k. kept one b n (arc_at net.arcs i).a i in_b (elim (cases_eq i n) [
    | inl e ↦ subst (λ j. Contains (row_of one (arc_at net.arcs j).a) j) (sym e) (added rows a n in_a)
    | inr d ↦ kept rows a n (arc_at net.arcs i).a i in_a (h.at_a i (omega arith))
  ]);
  at_b = λ i k. elim (cases_eq i n) [
    | inl e ↦ subst (λ j. Contains (row_of (with_place one b n) (arc_at net.arcs j).b) j) (sym e) (added one b n in_b)
    | inr d ↦ kept one b n (arc_at net.arcs i).b i in_b (kept rows a n (arc_at net.arcs i).b i in_a (h.at_b i (omega arith)))
  ];
}
  where
    a : ℕ
    a = (arc_at net.arcs n).a

    b : ℕ
    b = (arc_at net.arcs n).b

    one : List (List ℕ)
    one = with_place rows a n

    Holds : ℕ → ℕ → ℕ → Type 0
    Holds m v i = (i < m) × HasEnd (arc_at net.arcs i) v

    longer : length one ≡ length rows
    longer = length-set rows a (row_of rows a ++ n ∷ [])

    in_a : a < length rows
    in_a = let w = is.from_a in let s = h.size in omega arith

    in_b : b < length one
    in_b = let w = is.to_b in let s = h.size in omega (arith, longer)
