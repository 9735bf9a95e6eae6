use Rattle.counting.proofs.Common.{◌≡◌, ◌∷◌, map, take, string_bytes, AllByRecursion}
use Rattle.tree_text.specs.from_line_text.Common.{written}
use Rattle.tree_text.proofs.from_tree_core.Common.{move_of, moves_of}
use Rattle.move_text.specs.Common.{header_words, move_words, SetsRise}
use Rattle.move_text.proofs.writing.write_moves.Given as goal

-- the header and the lines of the first moves are written, and the sets of these moves are
-- increasing
abbrev pub invariant-loop-i : goal.invariant-loop-i
invariant-loop-i l = record {
  text : string_bytes l.text ≡ written (header_words l.fn.n ∷ map (λ m. move_words (move_of m)) (take l.i l.moves));
  rising : AllByRecursion SetsRise (moves_of (take l.i l.moves));
}
