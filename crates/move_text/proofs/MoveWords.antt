-- The word of a path writes this path, and the word of a set its vertices: what comes between two
-- commas is the decimal of one vertex.
use Rattle.counting.proofs.Common.{◌≡◌, ◌≤◌, ◌<◌, ◌||◌, ◌^◌, not, nat_le, ℕ, suc, List, [], ◌∷◌, Bool, length, map, true, false, refl, ◌∙◌, ap, arith, All, decimal, decimal_nonempty, list_all-append, slice_split_at, slice_split_none, list_all, and_from, and_parts, not-true, le-leb, nat_tests, length-map, length-append, append-nil, All-nil, All-cons}
use Rattle.std.specs.List.{All as AllOf, slice_split}
use Rattle.tree_text.specs.from_line_text.Common.{is_line_feed, is_blank, is_word}
use Rattle.tree_text.proofs.from_line_text.Decimals.{digits-decimal, is_word-decimal, list_all-digits, nonempty}
use Rattle.tree_text.specs.from_tree_core.declared.path.Side.{Side}
use Rattle.tree_text.specs.from_tree_core.declared.path.Side.TheVariants.{Kept, Merged}
use Rattle.move_text.specs.Common.{is_step, side_of, is_path_word, path_of, is_comma, parts_of, most_steps, letter_of, path_word, behind_commas, set_word}

-- the letters of steps write these steps
letters-steps : (path : List Side) → list_all is_step (map letter_of path) ≡ true
letters-steps [] = refl
letters-steps (Kept ∷ path) = letters-steps path
letters-steps (Merged ∷ path) = letters-steps path

sides-letters : (path : List Side) → map side_of (map letter_of path) ≡ path
sides-letters [] = refl
sides-letters (Kept ∷ path) = ap (λ (sides : List Side). Kept ∷ sides) (sides-letters path)
sides-letters (Merged ∷ path) = ap (λ (sides : List Side). Merged ∷ sides) (sides-letters path)

few-letters : (path : List Side) → length path ≤ most_steps → nat_le (length (map letter_of path)) most_steps ≡ true
few-letters path few = rw (length-map path letter_of) (grind (arith, nat_tests))

some_letters : (letter : ℕ) (letters : List ℕ) → nat_le 1 (length (letter ∷ letters)) ≡ true
some_letters letter letters = le-leb 1 (length (letter ∷ letters)) (omega arith)

-- the word of a path
pub is_path_word-path_word : (path : List Side) → length path ≤ most_steps → is_path_word (path_word path) ≡ true
is_path_word-path_word path few = grind (arith, and_from, some_letters 107 (map letter_of path), few-letters, letters-steps, some_letters 109 (map letter_of path))

pub path_of-path_word : (path : List Side) → path_of (path_word path) ≡ path
path_of-path_word [] = refl
path_of-path_word (Kept ∷ path) = sides-letters (Kept ∷ path)
path_of-path_word (Merged ∷ path) = sides-letters (Merged ∷ path)

-- it is a word
abbrev is_plain : ℕ → Bool
is_plain byte = not (is_blank byte || is_line_feed byte)

letters-plain : (path : List Side) → list_all is_plain (map letter_of path) ≡ true
letters-plain [] = refl
letters-plain (Kept ∷ path) = letters-plain path
letters-plain (Merged ∷ path) = letters-plain path

pub is_word-path_word : (path : List Side) → is_word (path_word path) ≡ true
is_word-path_word [] = refl
is_word-path_word (Kept ∷ path) = and_from _ _ (nonempty (map letter_of (Kept ∷ path)) (omega arith)) (letters-plain (Kept ∷ path))
is_word-path_word (Merged ∷ path) = and_from _ _ (nonempty (map letter_of (Merged ∷ path)) (omega arith)) (letters-plain (Merged ∷ path))

-- no digit is a comma
no_comma : (byte : ℕ) → 48 ≤ byte → byte ≤ 57 → not (is_comma byte) ≡ true
no_comma byte low high = grind (arith, nat_tests)

commaless : (word : List ℕ) → list_all (λ byte. not (is_comma byte)) word ≡ true → AllOf (λ byte. is_comma byte ≡ false) word
commaless [] none = All-nil _
commaless (byte ∷ word) none =
    let each = and_parts (not (is_comma byte)) (list_all (λ b. not (is_comma b)) word) none in
    All-cons (λ b. is_comma b ≡ false) byte word (not-true _ each.0) (commaless word each.1)

commaless-decimal : (v : ℕ) → v < 10 ^ 9 → AllOf (λ byte. is_comma byte ≡ false) (decimal v)
commaless-decimal v small = commaless (decimal v) (list_all-digits (λ byte. not (is_comma byte)) no_comma (decimal v) (digits-decimal v small))

-- the parts of the word of a set
pub parts_of-set_word : (v : ℕ) (vertices : List ℕ) → All (λ w. w < 10 ^ 9) (v ∷ vertices) → parts_of (set_word (v ∷ vertices)) ≡ map decimal (v ∷ vertices)
parts_of-set_word v [] small =
    ap (slice_split is_comma) (append-nil (decimal v)) ∙ slice_split_none is_comma (decimal v) (commaless-decimal v (small 0 0 (omega arith)))
parts_of-set_word v (w ∷ vertices) small =
    slice_split_at is_comma (decimal v) 44 (set_word (w ∷ vertices)) (commaless-decimal v (small 0 0 (omega arith))) refl
    ∙ ap (λ (parts : List (List ℕ)). decimal v ∷ parts) (parts_of-set_word w vertices (λ k d less. small (suc k) d (omega arith)))

-- it is a word
plain-decimal : (v : ℕ) → v < 10 ^ 9 → list_all is_plain (decimal v) ≡ true
plain-decimal v small = (and_parts _ _ (is_word-decimal v small)).1

plain-behind_commas : (vertices : List ℕ) → All (λ w. w < 10 ^ 9) vertices → list_all is_plain (behind_commas vertices) ≡ true
plain-behind_commas [] small = refl
plain-behind_commas (v ∷ vertices) small =
    list_all-append is_plain (decimal v) (behind_commas vertices)
    ∙ and_from _ _ (plain-decimal v (small 0 0 (omega arith))) (plain-behind_commas vertices (λ k d less. small (suc k) d (omega arith)))

pub is_word-set_word : (v : ℕ) (vertices : List ℕ) → All (λ w. w < 10 ^ 9) (v ∷ vertices) → is_word (set_word (v ∷ vertices)) ≡ true
is_word-set_word v vertices small =
    let less : v < 10 ^ 9 = small 0 0 (omega arith) in
    let some : 0 < length (decimal v) = decimal_nonempty v (omega arith) in
    and_from _ _ (nonempty (set_word (v ∷ vertices)) (omega (arith, length-append (decimal v) (behind_commas vertices))))
    (list_all-append is_plain (decimal v) (behind_commas vertices)
    ∙ and_from _ _ (plain-decimal v less) (plain-behind_commas vertices (λ k d in_order. small (suc k) d (omega arith))))
