-- A replay as far as it has come: the first moves turn the first tree through derivations into
-- the tree that is reached. The next move goes on, or it is the first failing one.
use Rattle.graph_core.proofs.from_counting.Common.{◌≡◌, ◌+◌, ℕ, zero, suc, List, [], ◌∷◌, slice_get, take, Some, None, refl, subst, arith, none-some}
use Rattle.graph_core.proofs.Common.{Graph}
use Rattle.tree_core.proofs.Common.{IsDerivation, PlainMove, TurnsThrough, move_result, move_of, moves_of, Shape}
use Rattle.tree_core.specs.declared.moves.Move.{Move}
use Rattle.tree_check.specs.Common.{Why, IsRefused, IsStuckAt, IsRefusedMoveAt}

-- the tree that is reached is a derivation
pub reached-derivation : (g : Graph) (s t : Shape) (ms : List PlainMove) → IsDerivation g s → TurnsThrough g s ms t → IsDerivation g t
reached-derivation g s t [] derives turns = subst (IsDerivation g) turns derives
reached-derivation g s t (m ∷ ms) derives turns = reached-derivation g turns.0 t ms turns.2 turns.3

module _ (g : Graph) where
  turns-suc : (s t r : Shape) (ms : List Move) (i : ℕ) (m : Move) → slice_get ms i ≡ Some m → TurnsThrough g s (moves_of (take i ms)) t → move_result g.order t (move_of m) ≡ Some r → IsDerivation g r → TurnsThrough g s (moves_of (take (suc i) ms)) r
  turns-suc s t r [] i m is turns result derives = absurd (none-some _ is)
  turns-suc s t r (x ∷ ms) zero m is turns result derives = grind arith
  turns-suc s t r (x ∷ ms) (suc i) m is turns result derives = grind (arith, turns-suc turns.0 t r ms i m is turns.3 result derives)

  -- one move more
  pub turns-next : (s t r : Shape) (ms : List Move) (i : ℕ) (m : Move) → slice_get ms i ≡ Some m → TurnsThrough g s (moves_of (take i ms)) t → move_result g.order t (move_of m) ≡ Some r → IsDerivation g r → TurnsThrough g s (moves_of (take (i + 1) ms)) r
  turns-next s t r ms i m is turns result derives = grind (arith, turns-suc s t r ms i m is turns result derives)

  -- the next move has no result
  pub stuck-next : (s t : Shape) (ms : List Move) (i at : ℕ) (m : Move) → slice_get ms i ≡ Some m → at ≡ i + 1 → TurnsThrough g s (moves_of (take i ms)) t → move_result g.order t (move_of m) ≡ None → IsStuckAt g s (moves_of ms) at
  stuck-next s t [] i at m is number turns result = absurd (none-some _ is)
  stuck-next s t (x ∷ ms) zero at m is number turns result = grind arith
  stuck-next s t (x ∷ ms) (suc i) at m is number turns result = grind (arith, stuck-next turns.0 t ms i (i + 1) m is refl turns.3 result)

  -- the result of the next move is not a derivation
  pub refused_move-next : (s t r : Shape) (ms : List Move) (i at node : ℕ) (why : Why) (m : Move) → slice_get ms i ≡ Some m → at ≡ i + 1 → TurnsThrough g s (moves_of (take i ms)) t → move_result g.order t (move_of m) ≡ Some r → IsRefused g r node why → IsRefusedMoveAt g s (moves_of ms) at node why
  refused_move-next s t r [] i at node why m is number turns result refused = absurd (none-some _ is)
  refused_move-next s t r (x ∷ ms) zero at node why m is number turns result refused = grind arith
  refused_move-next s t r (x ∷ ms) (suc i) at node why m is number turns result refused = grind (arith, refused_move-next turns.0 t r ms i (i + 1) node why m is refl turns.3 result refused)
