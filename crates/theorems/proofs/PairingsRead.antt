-- The report of `compare` is read back: its lines, cut into words, are the counts, the moves, and for
-- each leaf its partner and the images of its blocks. The text is written words, and numbers of at
-- most nine digits and sets that are not empty are words.
use Rattle.std.proofs.Common.{◌≡◌, ℕ, ◌<◌, ◌^◌, true, List, [], ◌∷◌, ◌++◌, All, length, map, flat_map, refl, sym, ap, ap₂, ◌∙◌, arith, append_assoc, codes, decimal}
use Rattle.tree_check.proofs.from_counting.Common.{AllByRecursion, Within}
use Rattle.graph_core.proofs.from_line_text.Decimals.{is_word-decimal}
use Rattle.graph_core.proofs.from_line_text.ReadBack.{lines_of-written, words_of-unwords}
use Rattle.graph_core.proofs.from_line_text.WrittenLines.{written-append}
use Rattle.graph_core.specs.from_line_text.Common.{AreWords, is_word, lines_of, unwords, words_of, written}
use Rattle.move_text.proofs.MoveWords.{is_word-path_word, is_word-set_word}
use Rattle.move_text.proofs.from_tree_core.Common.{PlainMove, rotate_at, switch_at}
use Rattle.move_text.specs.Common.{HasSets, move_words, set_word}
use Rattle.report_text.specs.Common.{image_line, image_lines, map_text, map_texts, move_lines, pairing_text, partner_line, reported_move_line, same_line}
use Rattle.report_text.specs.declared.comparisons.MapLine.{MapLine}
use Rattle.theorems.specs.Outcomes.{image_words, leaf_words, pairing_words}

abbrev reported_words : PlainMove → List (List ℕ)
reported_words m = codes "move" ∷ move_words m

same-written : (leaves moves : ℕ) → same_line leaves moves ≡ written ((codes "same" ∷ codes "leaves" ∷ decimal leaves ∷ codes "moves" ∷ decimal moves ∷ []) ∷ [])
same-written leaves moves = ap (λ text. text ++ codes "\n") (append_assoc (codes "same leaves " ++ decimal leaves) (codes " moves ") (decimal moves) ∙ append_assoc (codes "same leaves ") (decimal leaves) (codes " moves " ++ decimal moves))

move-written : (m : PlainMove) → reported_move_line m ≡ written (reported_words m ∷ [])
move-written (rotate_at path) = refl
move-written (switch_at path u v) = refl

partner-written : (leaf partner : ℕ) → partner_line leaf partner ≡ written ((codes "leaf" ∷ decimal leaf ∷ codes "with" ∷ decimal partner ∷ []) ∷ [])
partner-written leaf partner = ap (λ text. text ++ codes "\n") (append_assoc (codes "leaf " ++ decimal leaf) (codes " with ") (decimal partner) ∙ append_assoc (codes "leaf ") (decimal leaf) (codes " with " ++ decimal partner))

image-written : (name image : ℕ) → image_line name image ≡ written ((codes "map" ∷ decimal name ∷ codes "to" ∷ decimal image ∷ []) ∷ [])
image-written name image = ap (λ text. text ++ codes "\n") (append_assoc (codes "map " ++ decimal name) (codes " to ") (decimal image) ∙ append_assoc (codes "map ") (decimal name) (codes " to " ++ decimal image))

-- two texts of lines, one after the other
both-written : (text more : List ℕ) (lines others : List (List (List ℕ))) → text ≡ written lines → more ≡ written others → text ++ more ≡ written (lines ++ others)
both-written text more lines others e d = ap₂ ◌++◌ e d ∙ sym (written-append lines others)

moves-written : (moves : List PlainMove) → move_lines moves ≡ written (map reported_words moves)
moves-written [] = refl
moves-written (m ∷ moves) = both-written (reported_move_line m) (move_lines moves) (reported_words m ∷ []) (map reported_words moves) (move-written m) (moves-written moves)

images-written : (names images : List ℕ) → image_lines names images ≡ written (image_words names images)
images-written [] images = refl
images-written (name ∷ names) [] = refl
images-written (name ∷ names) (image ∷ images) =
    both-written (image_line name image) (image_lines names images) ((codes "map" ∷ decimal name ∷ codes "to" ∷ decimal image ∷ []) ∷ []) (image_words names images) (image-written name image) (images-written names images)

leaf-written : (line : MapLine) → map_text line ≡ written (leaf_words line)
leaf-written line =
    both-written (partner_line line.leaf line.partner) (image_lines line.names line.images) ((codes "leaf" ∷ decimal line.leaf ∷ codes "with" ∷ decimal line.partner ∷ []) ∷ []) (image_words line.names line.images)
    (partner-written line.leaf line.partner) (images-written line.names line.images)

leaves-written : (maps : List MapLine) → map_texts maps ≡ written (flat_map leaf_words maps)
leaves-written [] = refl
leaves-written (line ∷ maps) = both-written (map_text line) (map_texts maps) (leaf_words line) (flat_map leaf_words maps) (leaf-written line) (leaves-written maps)

pairing-written : (moves : List PlainMove) (maps : List MapLine) → pairing_text moves maps ≡ written (pairing_words moves maps)
unfolding pairing_text
pairing-written moves maps =
    let counts = (codes "same" ∷ codes "leaves" ∷ decimal (length maps) ∷ codes "moves" ∷ decimal (length moves) ∷ []) ∷ [] in
    both-written (same_line (length maps) (length moves) ++ move_lines moves) (map_texts maps) (counts ++ map reported_words moves) (flat_map leaf_words maps)
    (both-written (same_line (length maps) (length moves)) (move_lines moves) counts (map reported_words moves) (same-written (length maps) (length moves)) (moves-written moves)) (leaves-written maps)

-- written words are read back
words-back : (lines : List (List (List ℕ))) → AllByRecursion AreWords lines → map words_of (map unwords lines) ≡ lines
words-back [] are = refl
words-back (words ∷ lines) are = ap₂ ◌∷◌ (words_of-unwords words are.0) (words-back lines are.1)

-- numbers of at most nine digits
abbrev pub AreShort : List ℕ → Type 0
AreShort ns = AllByRecursion (λ n. n < 10 ^ 9) ns

pub record IsShortLine (line : MapLine) : Type 0 where
  pub leaf : line.leaf < 10 ^ 9
  pub partner : line.partner < 10 ^ 9
  pub names : AreShort line.names
  pub images : AreShort line.images

set-word : (n : ℕ) (x : List ℕ) → n < 10 ^ 9 → 0 < length x → All (Within n) x → is_word (set_word x) ≡ true
set-word n [] small some within = absurd (omega arith)
set-word n (v ∷ x) small some within = is_word-set_word v x (λ i d l. let w = within i d l in omega arith)

move-are : (n : ℕ) (m : PlainMove) → n < 10 ^ 9 → HasSets n m → AreWords (reported_words m)
move-are n (rotate_at path) small sets = (refl, (refl, (is_word-path_word path, tt)))
move-are n (switch_at path u v) small sets = let a = sets.0 in let b = sets.1 in (refl, (refl, (is_word-path_word path, (set-word n u small a.0 a.1, (set-word n v small b.0 b.1, tt)))))

all-both : (lines others : List (List (List ℕ))) → AllByRecursion AreWords lines → AllByRecursion AreWords others → AllByRecursion AreWords (lines ++ others)
all-both [] others are more = more
all-both (words ∷ lines) others are more = (are.0, all-both lines others are.1 more)

moves-are : (n : ℕ) (moves : List PlainMove) → n < 10 ^ 9 → AllByRecursion (HasSets n) moves → AllByRecursion AreWords (map reported_words moves)
moves-are n [] small sets = tt
moves-are n (m ∷ moves) small sets = (move-are n m small sets.0, moves-are n moves small sets.1)

images-are : (names images : List ℕ) → AreShort names → AreShort images → AllByRecursion AreWords (image_words names images)
images-are [] images a b = tt
images-are (name ∷ names) [] a b = tt
images-are (name ∷ names) (image ∷ images) a b = ((refl, (is_word-decimal name a.0, (refl, (is_word-decimal image b.0, tt)))), images-are names images a.1 b.1)

leaves-are : (maps : List MapLine) → AllByRecursion IsShortLine maps → AllByRecursion AreWords (flat_map leaf_words maps)
leaves-are [] short = tt
leaves-are (line ∷ maps) short =
    let s = short.0 in all-both (leaf_words line) (flat_map leaf_words maps) ((refl, (is_word-decimal line.leaf s.leaf, (refl, (is_word-decimal line.partner s.partner, tt)))), images-are line.names line.images s.names s.images) (leaves-are maps short.1)

pub pairing-read : (n : ℕ) (moves : List PlainMove) (maps : List MapLine) → n < 10 ^ 9 → length maps < 10 ^ 9 → length moves < 10 ^ 9 → AllByRecursion (HasSets n) moves → AllByRecursion IsShortLine maps →
    map words_of (lines_of (pairing_text moves maps)) ≡ pairing_words moves maps
pairing-read n moves maps small leaves steps sets short =
    let are : AllByRecursion AreWords (pairing_words moves maps) = ((refl, (refl, (is_word-decimal (length maps) leaves, (refl, (is_word-decimal (length moves) steps, tt))))), all-both (map reported_words moves) (flat_map leaf_words maps) (moves-are n moves small sets) (leaves-are maps short)) in
    ap (λ t. map words_of (lines_of t)) (pairing-written moves maps) ∙ ap (map words_of) (lines_of-written (pairing_words moves maps) are) ∙ words-back (pairing_words moves maps) are
