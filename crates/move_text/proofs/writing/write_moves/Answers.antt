use Rattle.std.proofs.Common.{◌≡◌, ◌<◌, ◌≤◌, ◌^◌, [], ◌∷◌, ◌++◌, ℕ, List, length, get_or, take, take_all, subst, sym, ◌∙◌, ap, ap₂, arith}
use Rattle.counting.proofs.Common.{AllByRecursion, length-map, get_or_from_slice_get}
use Rattle.tree_text.specs.from_line_text.Common.{Stands, written}
use Rattle.tree_text.proofs.from_line_text.ExactlyOne.{StandsAlone-stands}
use Rattle.tree_text.proofs.from_line_text.WrittenLines.{written-more}
use Rattle.tree_text.specs.from_tree_core.declared.moves.Move.{Move}
use Rattle.tree_text.proofs.from_tree_core.Common.{move_of, moves_of}
use Rattle.move_text.specs.Common.{move_format, most_moves, header_words, move_words, HasShortPath, HasSets, SetsRise, IsWritable}
use Rattle.move_text.proofs.MovesReadBack.{Stands-moves_text}
use Rattle.move_text.proofs.TextSoFar.{all-next, moves_text-by_moves}
use Rattle.move_text.proofs.writing.write_moves.Goals as goal

-- moves all of which have been written
writable : (n : ℕ) (moves : List Move) (i : ℕ) → n < 10 ^ 9 → length moves ≤ most_moves → AllByRecursion HasShortPath (moves_of moves) → AllByRecursion (HasSets n) (moves_of moves) → take i moves ≡ moves → AllByRecursion SetsRise (moves_of (take i moves)) → IsWritable n (moves_of moves)
writable n moves i order few paths sets all rising = grind (arith, length-map moves move_of)

pub loop-i-preserved : goal.loop-i-preserved
loop-i-preserved c =
    let moves = c.args.moves.now in
    let i = c.loop-i.i in
    let item = c.get.result.now in
    let less : i < length moves = let all = c.len-i-end.ensures in let test = c.loop-i-test.true in omega arith in
    let same : get_or moves i item ≡ item = get_or_from_slice_get moves i item item c.get.ensures in
    record {
      text =
          c.in_ok-push_move.ensures.text
          ∙ ap₂ (λ t (line : List ℕ). t ++ line) c.loop-i.invariant.text (ap (λ (m : Move). written (move_words (move_of m) ∷ [])) (sym same))
          ∙ sym (written-more (λ (m : Move). move_words (move_of m)) (header_words c.args.n ∷ []) moves i item less);
      rising = all-next SetsRise moves i item less same c.loop-i.invariant.rising c.push_move.ensures.rising;
    }

pub returns-clause-text : goal.returns-clause-text
returns-clause-text c = grind (arith, moves_text-by_moves c.args.n c.args.moves.now c.loop-i.i)

pub returns-clause-stands : goal.returns-clause-stands
returns-clause-stands c =
    let n = c.args.n in
    let moves = moves_of c.args.moves.now in
    let order = c.requires.order in
    let all = take_all c.loop-i.i c.args.moves.now (let end = c.len-i-end.ensures in let test = c.loop-i-test.false in omega arith) in
    let is : IsWritable n moves = writable n c.args.moves.now c.loop-i.i (omega arith) c.requires.few c.requires.paths c.requires.sets all c.loop-i.invariant.rising in
    subst (λ bytes. Stands (move_format n) bytes moves) (sym (returns-clause-text c)) (Stands-moves_text n moves is)

pub returns-clause-alone : goal.returns-clause-alone
returns-clause-alone c = StandsAlone-stands (move_format c.args.n) _ (moves_of c.args.moves.now) (returns-clause-stands c)
