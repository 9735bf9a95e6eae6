-- The classes of the skeleton as increasing lists. Idea: an increasing list is fixed by its
-- members, and all of them are vertices.
use Rattle.graph_core.proofs.from_counting.Common.{◌≡◌, ℕ, suc, zero, ◌+◌, ◌-◌, ◌≤◌, ◌<◌, Bool, true, false, cond, ◌==◌, ◌&&◌, ◌||◌, not, ◌⊎◌, inl, inr, List, [], ◌∷◌, length, get_or, take, map, refl, ◌∙◌, arith, eq-eqb, slice_index, cases_lt, or_cases, or_left, or_right, and_parts, false_from_ne_true, take_more, map-append, mem-append, rising_only, mem-within, same_rising_list, rising_list-rises, mem-rising_list, mem-outside, set-wider, Within, Set, union, mem, rising_list, IsRisingIn}
use Rattle.grow_gen.specs.declared.pieces.Piece.{Piece}
use Rattle.grow_gen.specs.Common.{piece_order, is_bipartite_piece, side, new_number, Growth, eligible, next_class}
use Rattle.grow_gen.proofs.PieceFacts.{piece-two}

-- an increasing list with the members of a set of 1 to n is the list of that set
pub rising_list-of : (n m : ℕ) (xs : List ℕ) (x : Set) → n ≤ m → IsRisingIn m xs → ((v : ℕ) → mem xs v ≡ x v) → ((v : ℕ) → x v ≡ true → Within n v) → xs ≡ rising_list n x
rising_list-of n m xs x l r same within = same_rising_list m xs (rising_list n x) r (set-wider n m (rising_list n x) l (rising_list-rises n x)) (λ v w. same v ∙ go v w (cases_lt n v))
  where
    go : (v : ℕ) → Within m v → (n < v) ⊎ (v ≤ n) → x v ≡ mem (rising_list n x) v
    go v w h = grind (arith, false_from_ne_true (x v), mem-outside n (rising_list n x) (rising_list-rises n x) v, rising_list-rises n x, mem-rising_list n x v)

-- the union of two classes
pub union-rising : (n m : ℕ) (xs ys us : List ℕ) → n ≤ m → IsRisingIn n xs → IsRisingIn n ys → IsRisingIn m us → ((v : ℕ) → mem us v ≡ (mem xs v || mem ys v)) → us ≡ rising_list n (union (mem xs) (mem ys))
union-rising n m xs ys us l rx ry ru h = rising_list-of n m us (union (mem xs) (mem ys)) l ru h (λ v t. elim (or_cases (mem xs v) (mem ys v) t) [ inl a ↦ mem-within n xs rx v a | inr a ↦ mem-within n ys ry v a ])

-- an item is a member
item-member : (xs : List ℕ) (i : ℕ) → i < length xs → mem xs (slice_index xs i) ≡ true
item-member [] i l = absurd (omega arith)
item-member (x ∷ xs) zero l = or_left (x == x) (mem xs x) (eq-eqb x x refl)
item-member (x ∷ xs) (suc i) l = or_right (x == slice_index xs i) (mem xs (slice_index xs i)) (item-member xs i (omega arith))

-- each vertex where a piece may be spliced is one of the graph
pub eligible-within : (s : Growth) (p : Piece) → IsRisingIn s.graph.order s.in_a → (i : ℕ) → i < length (eligible s p) → Within s.graph.order (slice_index (eligible s p) i)
eligible-within s p r i l = go (is_bipartite_piece p) (item-member (eligible s p) i l)
  where
    go : (b : Bool) → mem (cond b (rising_list s.graph.order (union (mem s.in_a) (mem s.in_b))) s.in_a) (slice_index (eligible s p) i) ≡ true → Within s.graph.order (slice_index (eligible s p) i)
    go true m = (rising_only s.graph.order (union (mem s.in_a) (mem s.in_b)) (slice_index (eligible s p) i) m).0
    go false m = mem-within s.graph.order s.in_a r (slice_index (eligible s p) i) m

-- a class without w and with what it gains
pub next_class-rising : (n m w : ℕ) (p : Piece) (class next : List ℕ) (opposite : Bool) → n + piece_order p - 2 ≤ m → Within n w → IsRisingIn n class → IsRisingIn m next →
    ((v : ℕ) → mem next v ≡ ((mem class v && not (w == v)) || mem (map (new_number n w) (side p opposite)) v)) → next ≡ next_class n w p class opposite
next_class-rising n m w p class next opposite l ww rc rn h = rising_list-of (n + piece_order p - 2) m next (λ v. (mem class v && not (w == v)) || mem (map (new_number n w) (side p opposite)) v) l rn h within
  where
    within : (v : ℕ) → ((mem class v && not (w == v)) || mem (map (new_number n w) (side p opposite)) v) ≡ true → Within (n + piece_order p - 2) v
    within v t = elim (or_cases (mem class v && not (w == v)) (mem (map (new_number n w) (side p opposite)) v) t) [
      | inl a ↦ let b = mem-within n class rc v (and_parts (mem class v) (not (w == v)) a).0 in let c = piece-two p in (omega arith, omega arith)
      | inr a ↦ grind arith
    ]

-- one more vertex
pub mem-image_more : (f : ℕ → ℕ) (xs : List ℕ) (i v : ℕ) (b : Bool) → i < length xs → ((b || mem (map f (take i xs)) v) || (f (get_or xs i 0) == v)) ≡ (b || mem (map f (take (i + 1) xs)) v)
mem-image_more f xs i v b l = grind (arith, take_more xs i 0 l, map-append f (take i xs) (get_or xs i 0 ∷ []), mem-append (map f (take i xs)) (f (get_or xs i 0) ∷ []) v)
