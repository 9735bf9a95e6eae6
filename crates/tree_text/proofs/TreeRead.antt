-- What is read of a text can be written again. Along the lines of a text the shores read so far are
-- nonempty, increasing and below n, and the nodes are counted: each line keeps this, since it
-- passed the tests of the table, and so does a tree put at a place.
use Rattle.counting.proofs.Common.{◌≡◌, ◌+◌, ◌-◌, ◌≤◌, ◌<◌, ◌||◌, ◌^◌, nat_le, if◌then◌else◌, ℕ, List, [], ◌∷◌, All, Bool, length, map, true, false, Option, Some, None, Result, Ok, IfOk, refl, sym, subst, arith, IsStrictlyIncreasing, and_parts, both_ways, not-false, nat_tests, Within}
use Rattle.graph_core.specs.from_line_text.Common.{Begins, Stands, finish, value_of}
use Rattle.graph_core.proofs.from_line_text.Tables.{all_passed, no_value}
use Rattle.graph_core.specs.from_line_text.declared.faults.FaultKind.TheVariants as kind
use Rattle.tree_core.proofs.Common.{Shape, leaf, cut, Fits, node_count, below-without_greatest}
use Rattle.tree_text.specs.Common.{Place, root, in_kept, in_merged, Reading, wanted, whole, put, TreeSoFar, tree_format, node_line, line_behind, behind_first, is_leaf_line, is_cut_line, most_nodes, HasVertices, ShoresRise, IsWritable}
use Rattle.tree_text.proofs.ShoreLists.{rising_read}

-- a nonempty increasing list below n
abbrev KeepsShore : ℕ → List ℕ → Type 0
KeepsShore n x = All (Within (n - 1)) x × (0 < length x) × IsStrictlyIncreasing x

-- each shore of the tree is such a list
abbrev KeepsTree : ℕ → Shape → Type 0
KeepsTree n t = Fits n t × HasVertices t × ShoresRise t

-- and each shore at a place
abbrev KeepsPlace : ℕ → Place → Type 0
KeepsPlace n root = Unit {0}
KeepsPlace n (in_kept x above) = KeepsShore n x × KeepsPlace n above
KeepsPlace n (in_merged x k above) = KeepsShore n x × KeepsTree n k × KeepsPlace n above

-- the nodes that have been read if the next one is at a place
abbrev nodes_at : Place → ℕ
nodes_at root = 0
nodes_at (in_kept x above) = 1 + nodes_at above
nodes_at (in_merged x k above) = 1 + node_count k + nodes_at above

abbrev Keeps : ℕ → ℕ → Reading → Type 0
Keeps n nodes (wanted place) = KeepsPlace n place × (nodes ≡ nodes_at place) × (nodes ≤ most_nodes)
Keeps n nodes (whole t) = KeepsTree n t × (nodes ≡ node_count t) × (nodes ≤ most_nodes)

-- a tree put at a place
keeps-put : (n nodes : ℕ) (place : Place) (t : Shape) → KeepsPlace n place → KeepsTree n t → nodes ≡ nodes_at place + node_count t → nodes ≤ most_nodes → Keeps n nodes (put place t)
keeps-put n nodes root t place tree count few = (tree, omega arith, few)
keeps-put n nodes (in_kept x above) t place tree count few = ((place.0, tree, place.1), omega arith, few)
keeps-put n nodes (in_merged x k above) t place tree count few =
    let shore = place.0 in let kept = place.1 in
    keeps-put n nodes above (cut x k t) place.2 ((shore.0, kept.0, tree.0), (shore.1, kept.1, tree.1), (shore.2, kept.2, tree.2)) (omega arith) few

-- the tests of the line of a node, and what it leads to
abbrev vertices_of : List (List ℕ) → List ℕ
vertices_of words = map value_of (behind_first words)

few_nodes : (nodes : ℕ) → nat_le most_nodes nodes ≡ false → nodes + 1 ≤ most_nodes
few_nodes nodes is = grind (arith, nat_tests)

two_words : (words : List (List ℕ)) → nat_le 2 (length words) ≡ true → 0 < length (vertices_of words)
two_words [] is = absurd (both_ways (nat_le 2 0) refl is)
two_words (word ∷ []) is = absurd (both_ways (nat_le 2 1) refl is)
two_words (word ∷ next ∷ words) is = omega arith

-- the line of a node keeps what is said
node-keeps : (n nodes : ℕ) (place : Place) (words : List (List ℕ)) (next : TreeSoFar) → KeepsPlace n place → nodes ≡ nodes_at place → node_line n nodes place words ≡ Ok next → Keeps n next.nodes next.reading
node-keeps n nodes place words next keeps count same = grind (arith, all_passed, few_nodes, rising_read, not-false, below-without_greatest, go)
  where
    go : (leafy : Bool) → is_leaf_line words ≡ leafy → nodes + 1 ≤ most_nodes → (is_leaf_line words || is_cut_line words) ≡ true → All (Within (n - 1)) (vertices_of words) → IsStrictlyIncreasing (vertices_of words) → Keeps n (nodes + 1) (if is_leaf_line words then put place leaf else wanted (in_kept (vertices_of words) place))
    go leafy is few known below rising = grind (arith, keeps-put n (nodes + 1) place leaf keeps (tt, tt, tt), and_parts (nat_le 2 (length words)), nat_le 2 (length words), two_words words)

line-keeps : (n nodes : ℕ) (reading : Reading) (words : List (List ℕ)) (next : TreeSoFar) → Keeps n nodes reading → line_behind n nodes reading words ≡ Ok next → Keeps n next.nodes next.reading
line-keeps n nodes reading words next keeps same = grind (arith, no_value, node-keeps n nodes)

-- what is said of the state that the lines lead to
abbrev KeepsReached : ℕ → Option TreeSoFar → Type 0
KeepsReached n None = Unit {0}
KeepsReached n (Some body) = Keeps n body.nodes body.reading

lines-keep : (n : ℕ) (body : TreeSoFar) (lines : List (List (List ℕ))) (reached : Option TreeSoFar) → Keeps n body.nodes body.reading → Begins (tree_format n) (Some body) lines reached → KeepsReached n reached
lines-keep n body [] reached keeps begins = subst (KeepsReached n) (sym begins) keeps
lines-keep n body (words ∷ lines) reached keeps begins =
    lines-keep n begins.0 lines reached (line-keeps n body.nodes body.reading words begins.0 keeps begins.1) begins.2

all-keep : (n : ℕ) (lines : List (List (List ℕ))) (reached : Option TreeSoFar) → Begins (tree_format n) None lines reached → KeepsReached n reached
all-keep n [] reached begins = subst (KeepsReached n) (sym begins) tt
all-keep n (words ∷ lines) reached begins = grind (arith, all_passed, lines-keep)

reached-keeps : (n : ℕ) (reached : Option TreeSoFar) (t : Shape) → n < 10 ^ 9 → KeepsReached n reached → finish (tree_format n) reached ≡ Ok t → IsWritable n t
reached-keeps n reached t small keeps ends = grind arith

-- the tree that a text stands for
pub writable-read : (n : ℕ) (text : List ℕ) (t : Shape) → n < 10 ^ 9 → Stands (tree_format n) text t → IsWritable n t
writable-read n text t small stands = grind (arith, reached-keeps n stands.reached t small, all-keep n)

-- with at most 128 vertices
pub tree_read : (n : ℕ) (text : List ℕ) (t : Shape) → n ≤ 128 → Stands (tree_format n) text t → IsWritable n t
tree_read n text t few = writable-read n text t (omega arith)

-- whatever a reader returned
pub all-read : {X Fault : Type 0} (n : ℕ) (text : List ℕ) (view : X → Shape) (result : Result X Fault) → n ≤ 128 → IfOk result (λ x. Stands (tree_format n) text (view x)) → IfOk result (λ x. IsWritable n (view x))
all-read n text view result few stands = grind (arith, tree_read n text)
