-- The text written for moves is read as these moves. The header leads to no moves, and the line of
-- a move adds it to the moves before, since no test of the table applies.
use Rattle.counting.proofs.Common.{◌≡◌, ◌+◌, ◌≤◌, ◌<◌, ◌^◌, codes, nat_le, ℕ, List, [], ◌∷◌, ◌++◌, All, length, map, true, false, Some, Ok, refl, ap, subst, arith, append_assoc, AllByRecursion, list_all, list_any, nat_tests, append-nil, length-append, Within}
use Rattle.tree_text.specs.from_line_text.Common.{Begins, Stands, has_form, is_word, IsSignificant, is_number, is_out_of_range}
use Rattle.tree_text.proofs.from_line_text.Decimals.{number_of-decimal, is_word-decimal, numbers-decimal, values-decimal}
use Rattle.tree_text.proofs.from_line_text.ReadBack.{Stands-written}
use Rattle.tree_text.proofs.from_line_text.InRange.{in_range-tests, few-digits}
use Rattle.tree_text.proofs.from_tree_core.Common.{PlainMove, rotate_at, switch_at}
use Rattle.tree_text.specs.from_tree_core.declared.path.Side.{Side}
use Rattle.tree_text.proofs.TreeReadBack.{rising-tests}
use Rattle.move_text.specs.Common.{move_format, is_rotate_line, is_switch_line, is_path_word, path_of, are_numbers, vertices_of, most_moves, most_steps, header_words, path_word, set_word, move_words, moves_text, HasShortPath, HasSets, SetsRise, IsWritable}
use Rattle.move_text.proofs.MoveWords.{is_path_word-path_word, path_of-path_word, is_word-path_word, parts_of-set_word, is_word-set_word}

-- the header line
header-taken : (n : ℕ) → n < 10 ^ 9 → (move_format n).header (header_words n) ≡ Ok []
unfolding has_form
header-taken n small = rw (number_of-decimal n small) (grind (arith, nat_tests))

-- which line it is
is-rotate : (path : List ℕ) → is_path_word path ≡ true → is_rotate_line (codes "rotate" ∷ path ∷ []) ≡ true
unfolding has_form
is-rotate path is = is

not-rotate : (path u v : List ℕ) → is_rotate_line (codes "switch" ∷ path ∷ u ∷ v ∷ []) ≡ false
unfolding has_form
not-rotate path u v = refl

is-switch : (path u v : List ℕ) → is_path_word path ≡ true → is_switch_line (codes "switch" ∷ path ∷ u ∷ v ∷ []) ≡ true
unfolding has_form
is-switch path u v is = is

few_moves : (moves : List PlainMove) → length moves < most_moves → nat_le most_moves (length moves) ≡ false
few_moves moves few = grind (arith, nat_tests)

-- the line of a Rotate
rotate-taken : (n : ℕ) (moves : List PlainMove) (path : List Side) → length moves < most_moves → length path ≤ most_steps → (move_format n).line moves (move_words (rotate_at path)) ≡ Ok (moves ++ rotate_at path ∷ [])
rotate-taken n moves path few short = grind (arith, is-rotate (path_word path) (is_path_word-path_word path short), is_path_word-path_word path short, path_of-path_word path, few_moves moves few)

pub vertices_of-set_word : (n : ℕ) (x : List ℕ) → n < 10 ^ 9 → 0 < length x → All (Within n) x → (vertices_of (set_word x) ≡ x) × (are_numbers (set_word x) ≡ true)
vertices_of-set_word n [] small some within = absurd (omega arith)
vertices_of-set_word n (v ∷ x) small some within = grind (arith, few-digits n (v ∷ x) small within, parts_of-set_word v x, values-decimal (v ∷ x), list_all is_number, numbers-decimal (v ∷ x))

word-set : (n : ℕ) (x : List ℕ) → n < 10 ^ 9 → 0 < length x → All (Within n) x → is_word (set_word x) ≡ true
word-set n [] small some within = absurd (omega arith)
word-set n (v ∷ x) small some within = is_word-set_word v x (few-digits n (v ∷ x) small within)

-- the line of a Switch
switch-taken : (n : ℕ) (moves : List PlainMove) (path : List Side) (u v : List ℕ) → n < 10 ^ 9 → length moves < most_moves → length path ≤ most_steps → HasSets n (switch_at path u v) → SetsRise (switch_at path u v) → (move_format n).line moves (move_words (switch_at path u v)) ≡ Ok (moves ++ switch_at path u v ∷ [])
switch-taken n moves path u v small few short sets rising =
    let first = sets.0 in let second = sets.1 in
    let read_u = vertices_of-set_word n u small first.0 first.1 in
    let read_v = vertices_of-set_word n v small second.0 second.1 in
    taken (path_word path) (set_word u) (set_word v) (not-rotate (path_word path) (set_word u) (set_word v)) (is-switch (path_word path) (set_word u) (set_word v) (is_path_word-path_word path short)) (path_of-path_word path) read_u.1 read_v.1 read_u.0 read_v.0 (in_range-tests n u first.1) (in_range-tests n v second.1)
  where
    taken : (word x y : List ℕ) → is_rotate_line (codes "switch" ∷ word ∷ x ∷ y ∷ []) ≡ false → is_switch_line (codes "switch" ∷ word ∷ x ∷ y ∷ []) ≡ true → path_of word ≡ path → are_numbers x ≡ true → are_numbers y ≡ true → vertices_of x ≡ u → vertices_of y ≡ v → list_any (is_out_of_range n) u ≡ false → list_any (is_out_of_range n) v ≡ false → (move_format n).line moves (codes "switch" ∷ word ∷ x ∷ y ∷ []) ≡ Ok (moves ++ switch_at path u v ∷ [])
    taken word x y other is same numbers_x numbers_y vertices_x vertices_y range_u range_v = grind (arith, few_moves moves few, rising-tests u rising.0, rising-tests v rising.1)

-- the lines of moves
move-taken : (n : ℕ) (moves : List PlainMove) (m : PlainMove) → n < 10 ^ 9 → length moves < most_moves → HasShortPath m → HasSets n m → SetsRise m → (move_format n).line moves (move_words m) ≡ Ok (moves ++ m ∷ [])
move-taken n moves m small few short sets rising = grind (arith, rotate-taken n moves, switch-taken n moves)

moves-taken : (n : ℕ) (before moves : List PlainMove) → n < 10 ^ 9 → length before + length moves ≤ most_moves → AllByRecursion HasShortPath moves → AllByRecursion (HasSets n) moves → AllByRecursion SetsRise moves → Begins (move_format n) (Some before) (map move_words moves) (Some (before ++ moves))
moves-taken n before [] small few paths sets rising = ap (λ (ms : List PlainMove). Some ms) (append-nil before)
moves-taken n before (m ∷ moves) small few paths sets rising = (
  before ++ m ∷ [],
  move-taken n before m small (omega arith) paths.0 sets.0 rising.0,
  subst (λ (ms : List PlainMove). Begins (move_format n) (Some (before ++ m ∷ [])) (map move_words moves) (Some ms)) (append_assoc before (m ∷ []) moves)
      (moves-taken n (before ++ m ∷ []) moves small (omega (arith, length-append before (m ∷ []))) paths.1 sets.1 rising.1),
)

-- each line is significant
move-significant : (n : ℕ) (m : PlainMove) → n < 10 ^ 9 → HasSets n m → IsSignificant (move_words m)
move-significant n m small sets = grind (arith, is_word-path_word, word-set n)

moves-significant : (n : ℕ) (moves : List PlainMove) → n < 10 ^ 9 → AllByRecursion (HasSets n) moves → AllByRecursion IsSignificant (map move_words moves)
moves-significant n [] small sets = tt
moves-significant n (m ∷ moves) small sets = (move-significant n m small sets.0, moves-significant n moves small sets.1)

-- the text of moves stands for them
pub Stands-moves_text : (n : ℕ) (moves : List PlainMove) → IsWritable n moves → Stands (move_format n) (moves_text n moves) moves
unfolding moves_text
Stands-moves_text n moves is =
    let few = is.few in
    Stands-written (move_format n) (header_words n ∷ map move_words moves) (Some moves) moves
    (record { kept = refl; each = (refl, (refl, (is_word-decimal n is.order, tt))) }, moves-significant n moves is.order is.sets)
    ([], header-taken n is.order, moves-taken n [] moves is.order (omega arith) is.paths is.sets is.rising)
    refl
