-- The derivation format for a graph of order n: a header `t mcg N`, and a line for each node in
-- preorder, `leaf`, or `cut` and the vertices of the shore; after a cut come the nodes of its
-- `kept` tree and then those of its `merged` tree.
-- Stated by: tree_text, bench_tasks. Used by: move_text, bench_outcomes, bench_top, theorems.
use Rattle.std.specs.Prelude.{ℕ, ◌+◌, ◌==◌, ◌&&◌, ◌||◌, not, nat_lt, nat_le, Bool, true, List, [], ◌∷◌, length, map, codes, Result, Ok, Err, if◌then◌else◌}
use Rattle.std.specs.List.{list_all, list_any}
use Rattle.counting.specs.Common.{mem}
use Rattle.graph_core.specs.from_line_text.Common.{Rules, checked, has_form, word_at, is_number, value_of, is_out_of_range}
use Rattle.graph_core.specs.from_line_text.declared.faults.FaultKind.{FaultKind}
use Rattle.graph_core.specs.from_line_text.declared.faults.FaultKind.TheVariants as kind
use Rattle.tree_core.specs.Common.{Shape, leaf}
use Rattle.tree_text.specs.Places.{Place, root, in_kept, Reading, wanted, whole, put}

-- the most nodes
abbrev pub most_nodes : ℕ
most_nodes = 127

-- how many nodes have been read, and what they give
pub record TreeSoFar : Type 0 where
  pub nodes : ℕ
  pub reading : Reading

-- the words after the first
abbrev pub behind_first : List (List ℕ) → List (List ℕ)
behind_first [] = []
behind_first (word ∷ words) = words

-- each number is below the next
abbrev pub is_rising : List ℕ → Bool
is_rising [] = true
is_rising (v ∷ []) = true
is_rising (v ∷ w ∷ vs) = nat_lt v w && is_rising (w ∷ vs)

-- the words of a leaf: `leaf` alone
abbrev pub is_leaf_line : List (List ℕ) → Bool
is_leaf_line words = has_form words 1 (codes "leaf" ∷ [])

-- the words of a cut: `cut` and at least one more
abbrev pub is_cut_line : List (List ℕ) → Bool
is_cut_line words = nat_le 2 (length words) && has_form words (length words) (codes "cut" ∷ [])

-- the header, by its words
abbrev pub tree_header : ℕ → List (List ℕ) → Result TreeSoFar FaultKind
tree_header n words =
    checked ((not (has_form words 3 (codes "t" ∷ codes "mcg" ∷ [])), kind.Header)
    ∷ (not (is_number (word_at words 2)), kind.Number)
    ∷ (not (value_of (word_at words 2) == n), kind.Header)
    ∷ [])
    (record { nodes = 0; reading = wanted root })

-- the words of a node
abbrev pub is_node_line : List (List ℕ) → Bool
is_node_line words = is_leaf_line words || is_cut_line words

-- the vertices that a line names after its first word
abbrev pub shore_told : List (List ℕ) → List ℕ
shore_told words = map value_of (behind_first words)

-- the tests of these vertices
abbrev pub shore_tests : ℕ → List (List ℕ) → List (Bool × FaultKind)
shore_tests n words =
    (not (list_all is_number (behind_first words)), kind.Number)
    ∷ (list_any (is_out_of_range n) (shore_told words), kind.Range)
    ∷ (not (is_rising (shore_told words)), kind.NotRising)
    ∷ (mem (shore_told words) n, kind.HasGreatest)
    ∷ []

-- what has been read after a node at a place
abbrev pub with_node : Place → (is_leaf : Bool) → List ℕ → Reading
with_node place is_leaf shore = if is_leaf then put place leaf else wanted (in_kept shore place)

-- the line of a node at a place, after so many nodes
abbrev pub node_line : ℕ → ℕ → Place → List (List ℕ) → Result TreeSoFar FaultKind
node_line n nodes place words =
    checked ((nat_le most_nodes nodes, kind.Limit) ∷ (not (is_node_line words), kind.Word) ∷ shore_tests n words)
    (record { nodes = nodes + 1; reading = with_node place (is_leaf_line words) (shore_told words) })

-- a significant line after the header is a node, or an error if the tree is complete
abbrev pub line_behind : ℕ → ℕ → Reading → List (List ℕ) → Result TreeSoFar FaultKind
line_behind n nodes (whole t) words = Err kind.Extra
line_behind n nodes (wanted place) words = node_line n nodes place words

-- the text may end when the tree is complete
abbrev pub tree_end : Reading → Result Shape FaultKind
tree_end (whole t) = Ok t
tree_end (wanted place) = Err kind.Missing

-- the format
abbrev pub tree_format : ℕ → Rules TreeSoFar Shape FaultKind
tree_format n = record {
  header = tree_header n;
  line = λ body words. line_behind n body.nodes body.reading words;
  close = λ body. tree_end body.reading;
  headless = kind.Header;
}
