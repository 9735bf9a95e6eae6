-- The text written for a tree is read as this tree. The header leads to the root, and by induction
-- the lines of a tree lead from any place to this tree put at the place: the line of a cut leads
-- below it, its `kept` tree put there leads to the place of its `merged` tree, and this one put
-- there completes the cut. No test of the table applies.
use Rattle.counting.proofs.Common.{◌≡◌, ◌+◌, ◌-◌, ◌≤◌, ◌<◌, ◌^◌, nat_lt, ℕ, suc, List, [], ◌∷◌, ◌++◌, All, length, map, get_or, codes, true, false, Some, Ok, refl, sym, subst, arith, decimal, IsStrictlyIncreasing, AllByRecursion, list_all, list_any, length-map, and_from, false_from_ne_true, nat_tests, mem-within, Within, mem}
use Rattle.graph_core.specs.from_line_text.Common.{Begins, Stands, has_form, words_of, unwords, is_skipped, IsSignificant, lines_of, is_number, value_of, is_out_of_range}
use Rattle.graph_core.proofs.from_line_text.Decimals.{number_of-decimal, is_word-decimal, numbers-decimal, values-decimal, words-decimal}
use Rattle.graph_core.proofs.from_line_text.InRange.{in_range-tests}
use Rattle.graph_core.proofs.from_line_text.ReadBack.{Stands-written, Stands-comments, is_closed-unlines, Begins-append, significant-append}
use Rattle.tree_core.proofs.Common.{Shape, leaf, cut, Fits, node_count}
use Rattle.tree_text.specs.Common.{Place, root, in_kept, in_merged, Reading, wanted, whole, put, TreeSoFar, tree_format, is_rising, is_leaf_line, is_cut_line, most_nodes, header_words, cut_words, node_words, tree_text, HasVertices, ShoresRise, IsWritable}

-- so many nodes read, and what they say
abbrev at : ℕ → Reading → TreeSoFar
at nodes reading = record { nodes = nodes; reading = reading }

-- the header line
header-taken : (n : ℕ) → n < 10 ^ 9 → (tree_format n).header (header_words n) ≡ Ok (at 0 (wanted root))
unfolding has_form
header-taken n few = rw (number_of-decimal n few) (grind (arith, nat_tests))

-- the line of a leaf
leaf-taken : (n nodes : ℕ) (place : Place) → nodes < most_nodes → (tree_format n).line (at nodes (wanted place)) (codes "leaf" ∷ []) ≡ Ok (at (nodes + 1) (put place leaf))
unfolding has_form
leaf-taken n nodes place few = grind (arith, nat_tests)

-- they lie in range, and are increasing
shore-in_range : (n : ℕ) (x : List ℕ) → All (Within (n - 1)) x → list_any (is_out_of_range n) x ≡ false
shore-in_range n x within = in_range-tests n x (λ k d less. let in_order = within k d less in (in_order.0, (let high = in_order.1 in omega arith)))

pub rising-tests : (x : List ℕ) → IsStrictlyIncreasing x → is_rising x ≡ true
rising-tests [] rising = refl
rising-tests (v ∷ []) rising = refl
rising-tests (v ∷ w ∷ x) rising =
    and_from (nat_lt v w) (is_rising (w ∷ x)) (first (rising 0 (omega arith))) (rising-tests (w ∷ x) (λ k less.
    let next : suc k + 1 ≡ suc (k + 1) = omega arith in
    subst (λ j. get_or (w ∷ x) k 0 < get_or (v ∷ w ∷ x) j 0) next (rising (suc k) (omega arith))))
  where
    first : v < w → nat_lt v w ≡ true
    first less = grind (arith, nat_tests)

without-greatest : (n : ℕ) (x : List ℕ) → IsStrictlyIncreasing x → All (Within (n - 1)) x → mem x n ≡ false
without-greatest n x rising within = grind (arith, false_from_ne_true (mem x n), mem-within (n - 1) x)

-- the words of a cut are not leaf's
not-leaf : (words : List (List ℕ)) → is_leaf_line (codes "cut" ∷ words) ≡ false
unfolding has_form
not-leaf words = grind arith

is-cut : (words : List (List ℕ)) → 0 < length words → is_cut_line (codes "cut" ∷ words) ≡ true
unfolding has_form
is-cut words some = grind arith

-- the line of a cut
cut-taken : (n nodes : ℕ) (place : Place) (x : List ℕ) → nodes < most_nodes → n < 10 ^ 9 → 0 < length x → IsStrictlyIncreasing x → All (Within (n - 1)) x → (tree_format n).line (at nodes (wanted place)) (cut_words x) ≡ Ok (at (nodes + 1) (wanted (in_kept x place)))
cut-taken n nodes place x few small some rising within =
    taken (map decimal x) (not-leaf (map decimal x)) (is-cut (map decimal x) (subst (λ k. 0 < k) (sym (length-map x decimal)) some)) (values-decimal x below) (numbers-decimal x below)
  where
    below : All (λ v. v < 10 ^ 9) x
    below k d less = let in_order = within k d less in omega arith

    taken : (words : List (List ℕ)) → is_leaf_line (codes "cut" ∷ words) ≡ false → is_cut_line (codes "cut" ∷ words) ≡ true → map value_of words ≡ x → list_all is_number words ≡ true → (tree_format n).line (at nodes (wanted place)) (codes "cut" ∷ words) ≡ Ok (at (nodes + 1) (wanted (in_kept x place)))
    taken words other is values numbers = rw (other, is, values, numbers, shore-in_range n x within, rising-tests x rising, without-greatest n x rising within) (grind (arith, nat_tests))

-- the lines of a tree
nodes-taken : (n nodes : ℕ) (place : Place) (t : Shape) → nodes + node_count t ≤ most_nodes → n < 10 ^ 9 → Fits n t → HasVertices t → ShoresRise t → Begins (tree_format n) (Some (at nodes (wanted place))) (node_words t) (Some (at (nodes + node_count t) (put place t)))
nodes-taken n nodes place leaf few small fits some rising = (at (nodes + 1) (put place leaf), leaf-taken n nodes place (omega arith), refl)
nodes-taken n nodes place (cut x k m) few small fits some rising =
    let kept = nodes-taken n (nodes + 1) (in_kept x place) k (omega arith) small fits.1 some.1 rising.1 in
    let merged = nodes-taken n (nodes + 1 + node_count k) (in_merged x k place) m (omega arith) small fits.2 some.2 rising.2 in
    let sum : nodes + 1 + node_count k + node_count m ≡ nodes + (1 + node_count k + node_count m) = omega arith in (
      at (nodes + 1) (wanted (in_kept x place)),
      cut-taken n nodes place x (omega arith) small some.0 rising.0 fits.0,
      Begins-append (tree_format n) (Some (at (nodes + 1) (wanted (in_kept x place)))) (node_words k) (Some (at (nodes + 1 + node_count k) (wanted (in_merged x k place)))) (node_words m) (Some (at (nodes + (1 + node_count k + node_count m)) (put place (cut x k m)))) kept
          (subst (λ c. Begins (tree_format n) (Some (at (nodes + 1 + node_count k) (wanted (in_merged x k place)))) (node_words m) (Some (at c (put place (cut x k m))))) sum merged),
    )

nodes-significant : (n : ℕ) (t : Shape) → n < 10 ^ 9 → Fits n t → AllByRecursion IsSignificant (node_words t)
nodes-significant n leaf small fits = (record { kept = refl; each = (refl, tt) }, tt)
nodes-significant n (cut x k m) small fits = (
  record { kept = refl; each = (refl, words-decimal x (λ j d less. let within = fits.0 j d less in omega arith)) },
  significant-append (node_words k) (node_words m) (nodes-significant n k small fits.1) (nodes-significant n m small fits.2),
)

-- the text of a tree stands for it
pub Stands-tree_text : (n : ℕ) (t : Shape) → IsWritable n t → Stands (tree_format n) (tree_text n t) t
unfolding tree_text
Stands-tree_text n t is =
    let few = is.few in
    Stands-written (tree_format n) (header_words n ∷ node_words t) (Some (at (0 + node_count t) (whole t))) t
    (record { kept = refl; each = (refl, (refl, (is_word-decimal n is.order, tt))) }, nodes-significant n t is.order is.fits)
    (at 0 (wanted root), header-taken n is.order, nodes-taken n 0 root t (omega arith) is.order is.fits is.vertices is.rising)
    refl

-- comments after it change nothing
pub Stands-commented : (n : ℕ) (t : Shape) (comments : List ℕ) → IsWritable n t → AllByRecursion (λ line. is_skipped (words_of line) ≡ true) (lines_of comments) → Stands (tree_format n) (tree_text n t ++ comments) t
unfolding tree_text
Stands-commented n t comments is skipped =
    Stands-comments (tree_format n) (tree_text n t) comments t (is_closed-unlines (map unwords (header_words n ∷ node_words t))) skipped (Stands-tree_text n t is)
