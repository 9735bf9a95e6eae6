-- The lines after the text of a decomposition, and those that name vertices after it, are
-- comments: each is written of words, the first of which is `c`.
use Rattle.move_text.proofs.from_counting.Common.{◌≡◌, ℕ, zero, suc, ◌-◌, ◌<◌, ◌≤◌, ◌^◌, ◌==◌, not, Bool, true, List, [], ◌∷◌, ◌++◌, length, map, get_or, All, ap, refl, subst, append_assoc, arith, codes, eq-eqb, decimal, All-get_or, All-from_get_or, count_by-le-length, get_or-eq_default, AllByRecursion, cases_lt, or_left, or_right, All-nil, rising_list-rises, Within, last_of, mem}
use Rattle.graph_core.proofs.Common.{Graph, size, first_end, second_end, has_ends, IsPartition, block, contracted, quotient, remembered}
use Rattle.graph_text.proofs.NamedReadBack.{is_word-name}
use Rattle.graph_text.specs.Common.{AreNames, is_name}
use Rattle.graph_core.specs.from_line_text.Common.{AreWords, is_word, written}
use Rattle.graph_core.proofs.from_line_text.Decimals.{is_word-decimal, words-decimal}
use Rattle.graph_core.proofs.from_line_text.WrittenLines.{spaced, unwords-spaced}
use Rattle.report_text.specs.Common.{HasFewLeaves, IsCommented, adjacent_line, adjacent_lines, block_lines, derivation_text, numbered_leaf_line, numbered_leaf_lines, leaf_text, name_at, tally_line, leaf_kind_word, list_line, name_line, name_lines, numbers_text, with_names_text}
use Rattle.move_text.proofs.from_tree_core.Common.{leaf_at, is_brick, kind_at, tally_of}
use Rattle.move_text.specs.from_tree_core.declared.tallies.LeafKind.{LeafKind}
use Rattle.move_text.specs.from_tree_core.declared.tallies.LeafKind.TheVariants.{Brick, Brace}
use Rattle.move_text.specs.from_tree_core.declared.tallies.Tally.{Tally}
use Rattle.report_text.proofs.Comments.{commented-both, commented-line, commented-more, commented-none, commented-tail}

-- the numbers of a line, each after a space
numbers-spaced : (ns : List ℕ) → numbers_text ns ≡ spaced (map decimal ns)
numbers-spaced [] = refl
numbers-spaced (n ∷ ns) = ap (λ (t : List ℕ). 32 ∷ (decimal n ++ t)) (numbers-spaced ns)

-- the word of a kind is one
is_word-kind : (kind : LeafKind) → is_word (leaf_kind_word kind) ≡ true
is_word-kind Brick = refl
is_word-kind Brace = refl

-- the line of a leaf
leaf-commented : (number : ℕ) (kind : LeafKind) → number < 10 ^ 9 → IsCommented [] (numbered_leaf_line number kind)
leaf-commented number kind small =
    commented-line (numbered_leaf_line number kind) (codes "c" ∷ codes "leaf" ∷ decimal number ∷ leaf_kind_word kind ∷ [])
    (record { skipped = refl; each = (refl, (refl, (is_word-decimal number small, (is_word-kind kind, tt)))) })
    (simp append_assoc)

-- the line of a block
block-commented : (b : List ℕ) → All (λ v. v < 10 ^ 9) b → IsCommented [] (list_line (codes "c block") b)
block-commented b small =
    commented-line (list_line (codes "c block") b) (codes "c" ∷ codes "block" ∷ map decimal b)
    (record { skipped = refl; each = (refl, (refl, words-decimal b small)) })
    (simp (append_assoc, numbers-spaced b, unwords-spaced (codes "block") (map decimal b)))

-- the line of two adjacent blocks
adjacent-commented : (a b : ℕ) (edges : List ℕ) → a < 10 ^ 9 → b < 10 ^ 9 → All (λ v. v < 10 ^ 9) edges → IsCommented [] (adjacent_line a b edges)
adjacent-commented a b edges first second small =
    commented-line (adjacent_line a b edges) (codes "c" ∷ codes "edge" ∷ decimal a ∷ decimal b ∷ codes "by" ∷ map decimal edges)
    (record { skipped = refl; each = (refl, (refl, (is_word-decimal a first, (is_word-decimal b second, (refl, words-decimal edges small))))) })
    (rw (numbers-spaced edges) (by-line (decimal a) (decimal b) (map decimal edges)))
  where
    by-line : (a b : List ℕ) (words : List (List ℕ)) → codes "c edge " ++ a ++ codes " " ++ b ++ codes " by" ++ spaced words ++ codes "\n" ≡ written ((codes "c" ∷ codes "edge" ∷ a ∷ b ∷ codes "by" ∷ words) ∷ [])
    by-line a b words = grind (arith, spaced, append_assoc, unwords-spaced)

-- the line of the counts
tally-commented : (tally : Tally) → tally.leaves < 10 ^ 9 → tally.bricks < 10 ^ 9 → tally.braces < 10 ^ 9 → IsCommented [] (tally_line tally)
tally-commented tally leaves bricks braces =
    commented-line (tally_line tally)
    (codes "c" ∷ codes "leaves" ∷ decimal tally.leaves ∷ codes "bricks" ∷ decimal tally.bricks ∷ codes "braces" ∷ decimal tally.braces ∷ [])
    (record { skipped = refl; each = (refl, (refl, (is_word-decimal tally.leaves leaves, (refl, (is_word-decimal tally.bricks bricks, (refl, (is_word-decimal tally.braces braces, tt))))))) })
    (simp append_assoc)

-- the line that names a vertex
name-commented : (vertex : ℕ) (name : List ℕ) → vertex < 10 ^ 9 → is_word name ≡ true → IsCommented [] (name_line true vertex name)
name-commented vertex name small word = grind (arith, commented-line (name_line true vertex name) (codes "c" ∷ codes "name" ∷ decimal vertex ∷ name ∷ []), is_word-decimal vertex small, append_assoc)

-- an item of a list, or 0 or the empty list after it
within-default : {X : Type 0} (P : X → Type 0) (xs : List X) (d : X) (i : ℕ) → P d → All P xs → P (get_or xs i d)
within-default P xs d i plain all = grind (arith, cases_lt i (length xs), get_or-eq_default xs d)

-- the last of small numbers
last-small : (xs : List ℕ) → All (λ v. v < 10 ^ 9) xs → last_of xs < 10 ^ 9
last-small [] small = omega arith
last-small (x ∷ []) small = small 0 0 (omega arith)
last-small (x ∷ y ∷ xs) small = last-small (y ∷ xs) (λ k d less. small (suc k) d (omega arith))

-- a list of numbers of 1 to n
listed-small : (n : ℕ) (xs : List ℕ) → n < 10 ^ 9 → ((v : ℕ) → mem xs v ≡ true → Within n v) → All (λ v. v < 10 ^ 9) xs
listed-small n [] few within k d less = absurd (omega arith)
listed-small n (x ∷ xs) few within zero d less = let first = within x (or_left (x == x) (mem xs x) (eq-eqb x x refl)) in omega arith
listed-small n (x ∷ xs) few within (suc k) d less = listed-small n xs few (λ v is. within v (or_right (x == v) (mem xs v) is)) k d (omega arith)

-- the vertices of the blocks of a partition
blocks-small : (n : ℕ) (p : List (List ℕ)) → n < 10 ^ 9 → IsPartition n p → All (λ (b : List ℕ). All (λ v. v < 10 ^ 9) b) p
blocks-small n p few is =
    All-from_get_or (λ (b : List ℕ). All (λ v. v < 10 ^ 9) b) p []
    (λ i less. listed-small n (get_or p i []) few
    (λ v among. is.partition.within (suc i) v (omega arith) (let place : i ≡ suc i - 1 = omega arith in subst (λ (k : ℕ). mem (get_or p k []) v ≡ true) place among)))

-- the name of a block
name-small : (p : List (List ℕ)) (i : ℕ) → All (λ (b : List ℕ). All (λ v. v < 10 ^ 9) b) p → name_at p i < 10 ^ 9
name-small p i small = last-small (block p i) (within-default (λ (b : List ℕ). All (λ v. v < 10 ^ 9) b) p [] (i - 1) (All-nil (λ v. v < 10 ^ 9)) small)

-- the edges between two blocks
edges-small : (g : Graph) (p : List (List ℕ)) (k : ℕ) → size g < 10 ^ 9 → All (λ v. v < 10 ^ 9) (remembered g p k)
edges-small g p k few j d less = grind (arith, rising_list-rises (size g) (has_ends (contracted g p) (first_end (quotient g p) k) (second_end (quotient g p) k)))

-- the lines of the first blocks
blocks-commented : (p : List (List ℕ)) (k : ℕ) → All (λ (b : List ℕ). All (λ v. v < 10 ^ 9) b) p → IsCommented [] (block_lines p k)
blocks-commented p zero small = commented-none []
blocks-commented p (suc k) small =
    commented-both (block_lines p k) (list_line (codes "c block") (get_or p k [])) (blocks-commented p k small)
    (block-commented (get_or p k []) (within-default (λ (b : List ℕ). All (λ v. v < 10 ^ 9) b) p [] k (All-nil (λ v. v < 10 ^ 9)) small))

-- the lines of the first pairs of adjacent blocks
pairs-commented : (g : Graph) (p : List (List ℕ)) (k : ℕ) → size g < 10 ^ 9 → All (λ (b : List ℕ). All (λ v. v < 10 ^ 9) b) p → IsCommented [] (adjacent_lines g p k)
pairs-commented g p zero few small = commented-none []
pairs-commented g p (suc k) few small =
    commented-both (adjacent_lines g p k)
    (adjacent_line (name_at p (first_end (quotient g p) (suc k))) (name_at p (second_end (quotient g p) (suc k))) (remembered g p (suc k)))
    (pairs-commented g p k few small)
    (adjacent-commented (name_at p (first_end (quotient g p) (suc k))) (name_at p (second_end (quotient g p) (suc k))) (remembered g p (suc k))
    (name-small p (first_end (quotient g p) (suc k)) small) (name-small p (second_end (quotient g p) (suc k)) small) (edges-small g p (suc k) few))

-- all lines of a leaf
whole_leaf-commented : (g : Graph) (number : ℕ) (p : List (List ℕ)) (kind : LeafKind) → number < 10 ^ 9 → size g < 10 ^ 9 → All (λ (b : List ℕ). All (λ v. v < 10 ^ 9) b) p → IsCommented [] (leaf_text g number p kind)
unfolding leaf_text
whole_leaf-commented g number p kind numbered few small =
    commented-both (numbered_leaf_line number kind ++ block_lines p (length p)) (adjacent_lines g p (size (quotient g p)))
    (commented-both (numbered_leaf_line number kind) (block_lines p (length p)) (leaf-commented number kind numbered) (blocks-commented p (length p) small))
    (pairs-commented g p (size (quotient g p)) few small)

-- the lines of the first leaves
leaves-commented : (g : Graph) (ps : List (List (List ℕ))) (kinds : List LeafKind) (k : ℕ) → HasFewLeaves g ps kinds → k ≤ length ps → IsCommented [] (numbered_leaf_lines g ps kinds k)
leaves-commented g ps kinds zero few some = commented-none []
leaves-commented g ps kinds (suc k) few some =
    let leaves = few.leaves in
    commented-both (numbered_leaf_lines g ps kinds k) (leaf_text g (suc k) (leaf_at ps (suc k)) (kind_at kinds (suc k)))
    (leaves-commented g ps kinds k few (omega arith))
    (whole_leaf-commented g (suc k) (leaf_at ps (suc k)) (kind_at kinds (suc k)) (omega arith) few.edges
    (blocks-small g.order (leaf_at ps (suc k)) few.order (All-get_or (IsPartition g.order) ps (suc k - 1) [] (omega arith) few.partitions)))

-- what follows the text of a decomposition
pub derivation-commented : (text : List ℕ) (g : Graph) (ps : List (List (List ℕ))) (kinds : List LeafKind) → HasFewLeaves g ps kinds → IsCommented text (derivation_text text g ps kinds)
unfolding derivation_text
derivation-commented text g ps kinds few =
    let leaves = few.leaves in
    let each_one = few.each_one in
    let bricks = count_by-le-length is_brick kinds in
    let braces = count_by-le-length (λ kind. not (is_brick kind)) kinds in
    commented-more text (text ++ numbered_leaf_lines g ps kinds (length ps)) (text ++ numbered_leaf_lines g ps kinds (length ps) ++ tally_line (tally_of kinds))
    (commented-tail text (numbered_leaf_lines g ps kinds (length ps)) (leaves-commented g ps kinds (length ps) few (omega arith)))
    (commented-tail (text ++ numbered_leaf_lines g ps kinds (length ps)) (tally_line (tally_of kinds)) (tally-commented (tally_of kinds) (omega arith) (omega arith) (omega arith)))

-- a word among words
word-among : (names : List (List ℕ)) (k : ℕ) → AreWords names → k < length names → is_word (get_or names k []) ≡ true
word-among [] k each less = absurd (omega arith)
word-among (name ∷ names) zero each less = each.0
word-among (name ∷ names) (suc k) each less = word-among names k each.1 (omega arith)

-- the lines that name the first vertices
first_names-commented : (names : List (List ℕ)) (k : ℕ) → AreWords names → length names < 10 ^ 9 → k ≤ length names → IsCommented [] (name_lines true names k)
first_names-commented names zero each few some = commented-none []
first_names-commented names (suc k) each few some =
    commented-both (name_lines true names k) (name_line true (suc k) (get_or names k []))
    (first_names-commented names k each few (omega arith))
    (name-commented (suc k) (get_or names k []) (omega arith) (word-among names k each (omega arith)))

-- the lines that name the vertices
pub names-commented : (report : List ℕ) (names : List (List ℕ)) → AreWords names → length names < 10 ^ 9 → IsCommented report (with_names_text report names true)
unfolding with_names_text
names-commented report names each few = grind (arith, commented-tail report (name_lines true names (length names)), first_names-commented names (length names) each few)

words-names : (names : List (List ℕ)) → AllByRecursion (λ (name : List ℕ). is_name name ≡ true) names → AreWords names
words-names [] each = tt
words-names (name ∷ names) each = (is_word-name name each.0, words-names names each.1)

-- the lines that name the first vertices of a graph are comments, where they are written so
pub given_names-commented : (report text : List ℕ) (names : List (List ℕ)) (comments : Bool) (k : ℕ) → AreNames names → k ≤ length names → text ≡ report ++ name_lines comments names k → comments ≡ true → IsCommented report text
given_names-commented report text names comments k are some is marked = grind (arith, commented-tail, first_names-commented, words-names)
