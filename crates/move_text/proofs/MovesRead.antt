-- What is read of a text can be written again. Along the lines of a text the moves read so far keep
-- the limits, and their sets are nonempty, increasing and within 1 to n: each line keeps this,
-- since it passed the tests of the table.
use Rattle.counting.proofs.Common.{◌≡◌, ◌≤◌, ◌<◌, ◌&&◌, ◌||◌, ◌^◌, codes, not, nat_le, if◌then◌else◌, ℕ, List, [], ◌∷◌, ◌++◌, Bool, length, true, false, Option, Some, None, Result, Ok, Err, IfOk, refl, sym, ◌∙◌, ap, subst, arith, length-slice_split, AllByRecursion, list_all, list_any, and_parts, or_parts, not-false, nat_tests, length-map, length-append}
use Rattle.tree_text.specs.from_line_text.Common.{Begins, Stands, finish, has_form, word_at, value_of, is_out_of_range}
use Rattle.tree_text.proofs.from_line_text.Tables.{all_passed, no_value, value_or}
use Rattle.tree_text.specs.from_line_text.declared.faults.FaultKind.{FaultKind}
use Rattle.tree_text.specs.from_line_text.declared.faults.FaultKind.TheVariants as kind
use Rattle.tree_text.proofs.from_tree_core.Common.{PlainMove, switch_at}
use Rattle.tree_text.specs.Common.{is_rising}
use Rattle.tree_text.proofs.ShoreLists.{rising_read}
use Rattle.move_text.specs.Common.{move_format, move_line, rotate_line, switch_line, is_rotate_line, is_switch_line, is_path_word, is_comma, path_of, parts_of, are_numbers, vertices_of, most_moves, most_steps, HasShortPath, HasSets, SetsRise, IsWritable}

-- what is said of the moves read so far
record Keeps (n : ℕ) (moves : List PlainMove) : Type 0 where
  few : length moves ≤ most_moves
  paths : AllByRecursion HasShortPath moves
  sets : AllByRecursion (HasSets n) moves
  rising : AllByRecursion SetsRise moves

-- what not-false of each item and of one more after
all-more : {X : Type 0} (P : X → Type 0) (xs : List X) (x : X) → AllByRecursion P xs → P x → AllByRecursion P (xs ++ x ∷ [])
all-more P [] x each last = (last, tt)
all-more P (y ∷ xs) x each last = (each.0, all-more P xs x each.1 last)

keeps-more : (n : ℕ) (moves : List PlainMove) (m : PlainMove) → length moves < most_moves → Keeps n moves → HasShortPath m → HasSets n m → SetsRise m → Keeps n (moves ++ m ∷ [])
keeps-more n moves m few keeps short sets rising = grind (arith, length-append, all-more)

-- a word that writes a path writes a short one
at_most : (k : ℕ) → nat_le k most_steps ≡ true → k ≤ most_steps
at_most k is = grind (arith, nat_tests)

short-path : (word : List ℕ) → is_path_word word ≡ true → length (path_of word) ≤ most_steps
short-path word is = grind (arith, and_parts, nat_le, list_all, at_most, length-map)

-- a word between blanks has at least one part
some-vertices : (word : List ℕ) → 0 < length (vertices_of word)
some-vertices word = grind (arith, length-slice_split is_comma word, length-map (parts_of word) value_of)

-- the line of a Switch
abbrev switch_tests : ℕ → (u v : List ℕ) → List (Bool × FaultKind)
switch_tests n u v =
    (not (are_numbers u && are_numbers v), kind.Number)
    ∷ (list_any (is_out_of_range n) (vertices_of u) || list_any (is_out_of_range n) (vertices_of v), kind.Range)
    ∷ (not (is_rising (vertices_of u) && is_rising (vertices_of v)), kind.NotRising)
    ∷ []

switch-keeps : (n : ℕ) (moves : List PlainMove) (path u v : List ℕ) (next : List PlainMove) → length moves < most_moves → is_path_word path ≡ true → Keeps n moves → switch_line n moves path u v ≡ Ok next → Keeps n next
switch-keeps n moves path u v next few is keeps same =
    let m : PlainMove = switch_at (path_of path) (vertices_of u) (vertices_of v) in
    let through = all_passed (switch_tests n u v) (moves ++ m ∷ []) next same in
    let tests = through.0 in
    let range = or_parts (list_any (is_out_of_range n) (vertices_of u)) (list_any (is_out_of_range n) (vertices_of v)) tests.1.0 in
    let order = and_parts (is_rising (vertices_of u)) (is_rising (vertices_of v)) (not-false (is_rising (vertices_of u) && is_rising (vertices_of v)) tests.1.1.0) in
    let first = rising_read n (vertices_of u) range.0 order.0 in
    let second = rising_read n (vertices_of v) range.1 order.1 in
    subst (Keeps n) through.1 (keeps-more n moves m few keeps (short-path path is) ((some-vertices u, first.within), (some-vertices v, second.within)) (first.rising, second.rising))

-- the line of a move
few_moves : (moves : List PlainMove) → nat_le most_moves (length moves) ≡ false → length moves < most_moves
few_moves moves is = grind (arith, nat_tests)

abbrev behind_rotate : ℕ → List PlainMove → List (List ℕ) → Result (List PlainMove) FaultKind
behind_rotate n moves words = if is_switch_line words then switch_line n moves (word_at words 1) (word_at words 2) (word_at words 3) else Err kind.Word

abbrev behind_limit : ℕ → List PlainMove → List (List ℕ) → Result (List PlainMove) FaultKind
behind_limit n moves words = if is_rotate_line words then rotate_line moves words else behind_rotate n moves words

line-keeps : (n : ℕ) (moves : List PlainMove) (words : List (List ℕ)) (next : List PlainMove) → Keeps n moves → move_line n moves words ≡ Ok next → Keeps n next
line-keeps n moves words next keeps same = grind (arith, no_value, rotated, few_moves)
  where
    switched : length moves < most_moves → (is : Bool) → is_switch_line words ≡ is → behind_rotate n moves words ≡ Ok next → Keeps n next
    switched few true is same =
        switch-keeps n moves (word_at words 1) (word_at words 2) (word_at words 3) next few (and_parts (has_form words 4 (codes "switch" ∷ [])) (is_path_word (word_at words 1)) is).1 keeps
        (sym (ap (λ b. if b then switch_line n moves (word_at words 1) (word_at words 2) (word_at words 3) else Err kind.Word) is) ∙ same)
    switched few false is same = absurd (no_value kind.Word next (sym (ap (λ b. if b then switch_line n moves (word_at words 1) (word_at words 2) (word_at words 3) else Err kind.Word) is) ∙ same))

    rotated : length moves < most_moves → (is : Bool) → is_rotate_line words ≡ is → behind_limit n moves words ≡ Ok next → Keeps n next
    rotated few true is same = grind (arith, and_parts (has_form words 2 (codes "rotate" ∷ [])) (is_path_word (word_at words 1)) is, value_or, keeps-more n moves, short-path (word_at words 1))
    rotated few false is same = switched few (is_switch_line words) refl (sym (ap (λ b. if b then rotate_line moves words else behind_rotate n moves words) is) ∙ same)

-- what is said of the state that the lines lead to
abbrev KeepsReached : ℕ → Option (List PlainMove) → Type 0
KeepsReached n None = Unit {0}
KeepsReached n (Some moves) = Keeps n moves

lines-keep : (n : ℕ) (moves : List PlainMove) (lines : List (List (List ℕ))) (reached : Option (List PlainMove)) → Keeps n moves → Begins (move_format n) (Some moves) lines reached → KeepsReached n reached
lines-keep n moves [] reached keeps begins = subst (KeepsReached n) (sym begins) keeps
lines-keep n moves (words ∷ lines) reached keeps begins =
    lines-keep n begins.0 lines reached (line-keeps n moves words begins.0 keeps begins.1) begins.2

keeps-none : (n : ℕ) → Keeps n []
keeps-none n = record { few = omega arith; paths = tt; sets = tt; rising = tt }

all-keep : (n : ℕ) (lines : List (List (List ℕ))) (reached : Option (List PlainMove)) → Begins (move_format n) None lines reached → KeepsReached n reached
all-keep n [] reached begins = subst (KeepsReached n) (sym begins) tt
all-keep n (words ∷ lines) reached begins = grind (arith, all_passed, lines-keep, keeps-none)

-- the moves at the end
reached-keeps : (n : ℕ) (reached : Option (List PlainMove)) (moves : List PlainMove) → n < 10 ^ 9 → KeepsReached n reached → finish (move_format n) reached ≡ Ok moves → IsWritable n moves
reached-keeps n reached moves small keeps ends = grind arith

-- the moves that a text stands for
pub writable-read : (n : ℕ) (text : List ℕ) (moves : List PlainMove) → n < 10 ^ 9 → Stands (move_format n) text moves → IsWritable n moves
writable-read n text moves small stands = grind (arith, reached-keeps n stands.reached moves small, all-keep n)

-- whatever a reader returned
pub all-read : {X Fault : Type 0} (n : ℕ) (text : List ℕ) (view : X → List PlainMove) (result : Result X Fault) → n ≤ 128 → IfOk result (λ x. Stands (move_format n) text (view x)) → IfOk result (λ x. IsWritable n (view x))
all-read n text view result few stands = grind (arith, writable-read n text)
