-- The text of moves grows by the line of the next move. Idea: the lines of the first i + 1 moves
-- are those of the first i and one more, and what is true of each move is carried along.
use Rattle.std.proofs.Common.{◌≡◌, ◌+◌, ◌≤◌, ◌<◌, ℕ, zero, suc, List, [], ◌∷◌, get_or, length, map, take, take_all, refl, sym, ap, subst, arith}
use Rattle.counting.proofs.Common.{AllByRecursion}
use Rattle.tree_text.specs.from_line_text.Common.{written}
use Rattle.tree_text.specs.from_tree_core.declared.moves.Move.{Move}
use Rattle.tree_text.proofs.from_tree_core.Common.{PlainMove, move_of, moves_of}
use Rattle.move_text.specs.Common.{move_words, header_words, moves_text}

-- all moves
map-moves : (moves : List Move) → map (λ m. move_words (move_of m)) moves ≡ map move_words (moves_of moves)
map-moves [] = refl
map-moves (m ∷ moves) = ap (λ (lines : List (List (List ℕ))). move_words (move_of m) ∷ lines) (map-moves moves)

pub moves_text-by_moves : (n : ℕ) (moves : List Move) (i : ℕ) → length moves ≤ i → written (header_words n ∷ map (λ m. move_words (move_of m)) (take i moves)) ≡ moves_text n (moves_of moves)
unfolding moves_text
moves_text-by_moves n moves i done = grind (arith, take_all i moves, map-moves moves)

-- what is true of the first moves and of the next
all-suc : (P : PlainMove → Type 0) (moves : List Move) (i : ℕ) (m : Move) → i < length moves → get_or moves i m ≡ m → AllByRecursion P (moves_of (take i moves)) → P (move_of m) → AllByRecursion P (moves_of (take (suc i) moves))
all-suc P [] i m less is each last = absurd (omega arith)
all-suc P (x ∷ moves) zero m less is each last = (subst (λ (y : Move). P (move_of y)) (sym is) last, tt)
all-suc P (x ∷ moves) (suc i) m less is each last = (each.0, all-suc P moves i m (omega arith) is each.1 last)

pub all-next : (P : PlainMove → Type 0) (moves : List Move) (i : ℕ) (m : Move) → i < length moves → get_or moves i m ≡ m → AllByRecursion P (moves_of (take i moves)) → P (move_of m) → AllByRecursion P (moves_of (take (i + 1) moves))
all-next P moves i m less is each last = grind (arith, all-suc P moves i m less is each last)
