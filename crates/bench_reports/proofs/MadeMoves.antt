-- The tree that the first moves of a script make, move by move; and what a refused move makes is
-- refused.
use Rattle.std.proofs.Common.{◌≡◌, ◌≤◌, ◌<◌, ◌∙◌, inl, inr, ℕ, zero, suc, ◌+◌, ◌-◌, List, [], ◌∷◌, length, drop, slice_get, Option, Some, None, option_and_then, refl, sym, ap, subst₂, arith}
use Rattle.std.proofs.lemmas.Option.{none-some, same_Some}
use Rattle.graph_core.proofs.Common.{Graph}
use Rattle.tree_core.proofs.Common.{PlainMove, Shape, move_of, move_result, moves_of}
use Rattle.tree_core.specs.declared.moves.Move.{Move}
use Rattle.bench_outcomes.specs.from_tree_check.Common.{IsRefused, IsRefusedMoveAt, IsStuckAt, Why}
use Rattle.refusals.specs.declared.faults.StuckFault.{StuckFault}
use Rattle.bench_outcomes.specs.Common.{HasNoResult, IsNextMove, IsStuckBy, made_by}

-- a list from a place on
drop-here : (ms : List Move) (i : ℕ) (m : Move) → slice_get ms i ≡ Some m → drop i ms ≡ m ∷ drop (suc i) ms
drop-here [] i m is = absurd (none-some m is)
drop-here (x ∷ ms) zero m is = ap (λ (y : Move). y ∷ ms) (same_Some x m is)
drop-here (x ∷ ms) (suc i) m is = drop-here ms i m is

drop-past : (ms : List Move) (i : ℕ) → length ms ≤ i → drop i ms ≡ []
drop-past [] zero few = refl
drop-past [] (suc i) few = refl
drop-past (x ∷ ms) zero few = absurd (omega (arith, few))
drop-past (x ∷ ms) (suc i) few = drop-past ms i (omega (arith, few))

module _ (n : ℕ) (t : Shape) (ms : List Move) (i count : ℕ) (all : Option Shape) (less : i < count) (left : made_by n t (moves_of (drop i ms)) (count - i) ≡ all) where
  one-more : count - i ≡ suc (count - suc i)
  one-more = omega (arith, less)

  step : (m : Move) → slice_get ms i ≡ Some m → option_and_then (λ made. made_by n made (moves_of (drop (suc i) ms)) (count - suc i)) (move_result n t (move_of m)) ≡ all
  step m is =
      sym (ap (λ (l : List Move). made_by n t (moves_of l) (count - i)) (drop-here ms i m is) ∙ ap (λ (k : ℕ). made_by n t (moves_of (m ∷ drop (suc i) ms)) k) one-more) ∙ left

  -- the moves that are left after the next one
  pub made-next : (m : Move) (next : Shape) → slice_get ms i ≡ Some m → move_result n t (move_of m) ≡ Some next → made_by n next (moves_of (drop (i + 1) ms)) (count - (i + 1)) ≡ all
  made-next m next is result = grind (arith, step m is)

  -- the next move has no result, or there is none
  pub made-stuck : (m : Move) → slice_get ms i ≡ Some m → move_result n t (move_of m) ≡ None → None ≡ all
  made-stuck m is result = grind (arith, step m is)

  pub made-none : length ms ≤ i → None ≡ all
  made-none few = grind (arith, drop-past ms i few, one-more, left)

-- the tree that a refused move makes is the one that is refused
pub made-refused : (g : Graph) (s : Shape) (ms : List PlainMove) (at node : ℕ) (why : Why) → IsRefusedMoveAt g s ms at node why → (made : Shape) × (made_by g.order s ms at ≡ Some made) × IsRefused g made node why
made-refused g s [] at node why refused = absurd refused
made-refused g s (m ∷ ms) at node why refused = elim refused.2 [
  | inl here ↦ (refused.0, after 0 here.0, here.1)
  | inr later ↦
      let rest = made-refused g refused.0 ms later.1.0 node why later.1.2 in
      let next : at ≡ suc later.1.0 = omega (arith, later.1.1) in
      (rest.0, after later.1.0 next ∙ rest.1, rest.2)
]
  where
    after : (j : ℕ) → at ≡ suc j → made_by g.order s (m ∷ ms) at ≡ made_by g.order refused.0 ms j
    after j is = ap (λ (k : ℕ). made_by g.order s (m ∷ ms) k) is ∙ ap (option_and_then (λ made. made_by g.order made ms j)) refused.1

-- a move that has no result is made on the tree that those before it make
pub made-stuck_at : (g : Graph) (s : Shape) (ms : List PlainMove) (at : ℕ) → IsStuckAt g s ms at → (reached : Shape) × (move : PlainMove) × IsNextMove g.order s ms at reached move × HasNoResult g.order reached move
made-stuck_at g s [] at stuck = absurd stuck
made-stuck_at g s (m ∷ ms) at (inl here) = (s, m, record { before = 0; counted = here.0; made = refl; is = refl }, here.1)
made-stuck_at g s (m ∷ ms) at (inr later) =
    let rest = made-stuck_at g later.0 ms later.3.0 later.3.2 in
    let next = rest.2 in
    let one = later.3.1 in
    let few = next.counted in
    (rest.0, rest.1, record { before = suc next.before; counted = omega arith; made = ap (option_and_then (λ made. made_by g.order made ms next.before)) later.1 ∙ next.made; is = next.is }, rest.3)

-- the code's move at a place
pub move-at : (ms : List Move) (i : ℕ) (m : PlainMove) → slice_get (moves_of ms) i ≡ Some m → (move : Move) × (slice_get ms i ≡ Some move) × (move_of move ≡ m) × (i < length ms)
move-at [] i m is = absurd (none-some m is)
move-at (x ∷ ms) zero m is = (x, refl, same_Some (move_of x) m is, omega arith)
move-at (x ∷ ms) (suc i) m is = let rest = move-at ms i m is in let less = rest.3 in (rest.0, rest.1, rest.2, omega arith)

-- the move with a number is that at the place before it, on the tree that is made before it
module _ (n : ℕ) (t : Shape) (ms : List Move) (at : ℕ) (reached : Shape) (move : PlainMove) (next : IsNextMove n t (moves_of ms) at reached move) where
  place : next.before ≡ at - 1
  place = let is = next.counted in omega arith

  pub next-less : (0 < at) × (at - 1 < length ms)
  next-less = let is = next.counted in let less = (move-at ms next.before move next.is).3 in (omega arith, omega arith)

  pub next-made : made_by n t (moves_of ms) (at - 1) ≡ Some reached
  next-made = ap (λ (k : ℕ). made_by n t (moves_of ms) k) (sym place) ∙ next.made

  pub stuck-by : HasNoResult n reached move → (tree : Shape) (x : Move) (fault : StuckFault) → made_by n t (moves_of ms) (at - 1) ≡ Some tree → slice_get ms (at - 1) ≡ Some x →
      (HasNoResult n tree (move_of x) → IsStuckBy n tree (move_of x) fault) → IsStuckBy n reached move fault
  stuck-by none tree x fault made is by =
      let item = move-at ms next.before move next.is in
      let same : tree ≡ reached = same_Some tree reached (sym made ∙ next-made) in
      let moved : move_of x ≡ move = ap move_of (same_Some x item.0 (sym is ∙ (ap (slice_get ms) (sym place) ∙ item.1))) ∙ item.2 in
      subst₂ (λ (r : Shape) (m : PlainMove). IsStuckBy n r m fault) same moved (by (subst₂ (λ (r : Shape) (m : PlainMove). HasNoResult n r m) (sym same) (sym moved) none))
