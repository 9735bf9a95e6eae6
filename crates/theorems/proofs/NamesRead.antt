-- The names of a graph that a file gives differ, and there is one for each vertex. They do so from
-- line to line: a further name has the form of one and is new, and at the end their number is that
-- of the vertices.
use Rattle.tree_check.proofs.from_counting.Common.{◌≡◌, ℕ, ◌+◌, ◌≤◌, nat_lt, Bool, true, false, cond, List, [], ◌∷◌, length, Option, Some, None, Result, Ok, Err, refl, arith, ltb-true, codes, ForSome, result_map_both, not-false, none-some}
use Rattle.graph_core.proofs.Common.{Graph, size}
use Rattle.graph_core.specs.from_line_text.declared.faults.FaultKind.{FaultKind}
use Rattle.graph_core.specs.from_line_text.declared.faults.FaultKind.TheVariants as kind
use Rattle.graph_text.proofs.NameLists.{AreNames-more}
use Rattle.graph_text.specs.Common.{EitherSoFar, NamedGraph, either_header, either_version, end_behind, line_behind, named_edge_line, vertex_line, GraphSoFar, graph_end, graph_line, AreNames}
use Rattle.graph_core.specs.from_line_text.Common.{checked, finish, step, lines_of, go_on, reading_from, reading_of, SignificantLine, significant_lines_of}
use Rattle.bench_top.proofs.ReadGraphs.{GoesOn}

-- the names read so far differ, and there are not too many vertices
abbrev AreSoFar : ℕ → Option (List (List ℕ)) → Type 0
AreSoFar n None = Unit {0}
AreSoFar n (Some names) = (n ≤ 128) × AreNames names

abbrev KeepsNames : EitherSoFar → Type 0
KeepsNames s = AreSoFar s.so_far.graph.order s.names

abbrev pub HasNames : NamedGraph → Type 0
HasNames named = ForSome named.names (λ names. AreNames names × (length names ≡ named.graph.order))

-- a line with three tests
three-tests : (a b c : Bool) (i j k : FaultKind) (value : EitherSoFar) → (b ≡ false → c ≡ false → KeepsNames value) → GoesOn KeepsNames (checked ((a, i) ∷ (b, j) ∷ (c, k) ∷ []) value)
three-tests true b c i j k value give = tt
three-tests false true c i j k value give = tt
three-tests false false true i j k value give = tt
three-tests false false false i j k value give = give refl refl

-- a further name
vertex-keeps : (body : GraphSoFar) (names words : List (List ℕ)) → nat_lt (length names) body.graph.order ≡ true → body.graph.order ≤ 128 → AreNames names → GoesOn KeepsNames (vertex_line body names words)
vertex-keeps body names words more few are = grind (arith, ltb-true, length, three-tests, codes, AreNames-more, not-false)

-- an edge
edge-keeps : (body : GraphSoFar) (names words : List (List ℕ)) → body.graph.order ≤ 128 → AreNames names → GoesOn KeepsNames (named_edge_line body names words)
edge-keeps body names words few are = grind arith

-- no names
plain-keeps : (r : Result GraphSoFar FaultKind) → GoesOn KeepsNames (result_map_both (λ next. record { so_far = next; names = None }) (λ k. k) r)
plain-keeps (Ok next) = tt
plain-keeps (Err fault) = tt

-- a line after the header
line-keeps : (body : GraphSoFar) (names : Option (List (List ℕ))) (words : List (List ℕ)) → AreSoFar body.graph.order names → GoesOn KeepsNames (line_behind body names words)
line-keeps body None words are = plain-keeps (graph_line body words)
line-keeps body (Some names) words are = grind (arith, nat_lt, length, size, cond, vertex-keeps, edge-keeps)

-- the header
header-keeps : (words : List (List ℕ)) → GoesOn KeepsNames (either_header words)
header-keeps words = grind arith

abbrev KeepsFrom : Option EitherSoFar → Type 0
KeepsFrom None = Unit {0}
KeepsFrom (Some s) = KeepsNames s

step-keeps : (from : Option EitherSoFar) (words : List (List ℕ)) → KeepsFrom from → GoesOn KeepsNames (step either_version from words)
step-keeps None words keeps = header-keeps words
step-keeps (Some s) words keeps = line-keeps s.so_far s.names words keeps

-- the end
plain-ends : (r : Result Graph FaultKind) → GoesOn HasNames (result_map_both (λ g. record { graph = g; names = None }) (λ k. k) r)
plain-ends (Ok g) = λ names e. absurd (none-some _ e)
plain-ends (Err fault) = tt

end-keeps : (body : GraphSoFar) (names : Option (List (List ℕ))) → AreSoFar body.graph.order names → GoesOn HasNames (end_behind body names)
end-keeps body None are = plain-ends (graph_end body)
end-keeps body (Some names) are = grind arith

finish-keeps : (from : Option EitherSoFar) → KeepsFrom from → GoesOn HasNames (finish either_version from)
finish-keeps None keeps = tt
finish-keeps (Some s) keeps = end-keeps s.so_far s.names keeps

-- and so line by line
goes-further : {A : Type 0} (P : A → Type 0) (number : ℕ) (r : Result A FaultKind) (next : A → Result NamedGraph (ℕ × FaultKind)) → GoesOn P r → ((a : A) → P a → GoesOn HasNames (next a)) → GoesOn HasNames (go_on number r next)
goes-further P number (Ok a) next goes give = give a goes
goes-further P number (Err fault) next goes give = tt

reading-keeps : (from : Option EitherSoFar) (lines : List SignificantLine) (count : ℕ) → KeepsFrom from → GoesOn HasNames (reading_from either_version from lines count)
reading-keeps from [] count keeps = goes-further HasNames (count + 1) (finish either_version from) (λ value. Ok value) (finish-keeps from keeps) (λ named has. has)
reading-keeps from (line ∷ lines) count keeps =
    goes-further KeepsNames line.number (step either_version from line.words) (λ body. reading_from either_version (Some body) lines count) (step-keeps from line.words keeps)
    (λ body is. reading-keeps (Some body) lines count is)

pub read-names : (text : List ℕ) → GoesOn HasNames (reading_of either_version text)
read-names text = reading-keeps None (significant_lines_of text) (length (lines_of text)) tt
