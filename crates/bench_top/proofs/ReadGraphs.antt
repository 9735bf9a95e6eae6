-- The graph that a text stands for is a multigraph within the limits: the ends of each edge are
-- vertices, and differ. What has been read so far keeps this from line to line, and has no more
-- names than vertices, so that the vertex of a name is one of the graph.
use Rattle.std.proofs.Common.{◌≡◌, ◌≢◌, ℕ, zero, suc, ◌+◌, ◌<◌, ◌≤◌, ◌==◌, ◌||◌, not, nat_lt, Bool, true, false, cond, List, [], ◌∷◌, ◌++◌, length, Option, Some, None, Result, Ok, Err, refl, sym, arith, length-append, slice_index_or, ltb-true, bytes_eq}
use Rattle.move_text.proofs.from_counting.Common.{position_or_len, result_map_both, eqb-false, AllByRecursion, list_any, and_parts, both_ways, or_parts, true≢false, not-false, nat_tests, bytes_eq-Decides, Within}
use Rattle.graph_core.proofs.Common.{Graph, HasNoLoop, IsGraph, IsMultigraph, size}
use Rattle.graph_core.specs.from_line_text.declared.faults.FaultKind.TheVariants as kind
use Rattle.graph_core.specs.from_line_text.Common.{checked, finish, step, go_on, reading_from, reading_of, SignificantLine, significant_lines_of, lines_of}
use Rattle.graph_core.proofs.from_line_text.InRange.{in_range}
use Rattle.graph_text.specs.Common.{EitherSoFar, NamedGraph, either_header, either_version, end_behind, line_behind, named_edge_line, vertex_line, GraphSoFar, edge_line, graph_line, is_among, vertex_of}

-- the two are different vertices
abbrev JoinsTwo : ℕ → ℕ × ℕ → Type 0
JoinsTwo n pair = Within n pair.0 × Within n pair.1 × (pair.0 ≢ pair.1)

-- each pair is one of different vertices
abbrev AreEnds : ℕ → List (ℕ × ℕ) → Type 0
AreEnds n ends = AllByRecursion (JoinsTwo n) ends

ends-more : (n : ℕ) (ends : List (ℕ × ℕ)) (a b : ℕ) → AreEnds n ends → JoinsTwo n (a, b) → AreEnds n (ends ++ (a, b) ∷ [])
ends-more n [] a b each joins = (joins, tt)
ends-more n (pair ∷ ends) a b each joins = (each.0, ends-more n ends a b each.1 joins)

ends-at : (n : ℕ) (ends : List (ℕ × ℕ)) (i : ℕ) → AreEnds n ends → i < length ends → JoinsTwo n (slice_index_or ends i (0, 0))
ends-at n [] i each less = absurd (omega arith)
ends-at n (pair ∷ ends) zero each less = each.0
ends-at n (pair ∷ ends) (suc i) each less = ends-at n ends i each.1 (omega arith)

ends-graph : (g : Graph) → AreEnds g.order g.ends → IsMultigraph g
ends-graph g each = grind (arith, ends-at g.order g.ends)

-- there are at most as many names as vertices
abbrev NamesFit : ℕ → Option (List (List ℕ)) → Type 0
NamesFit n None = Unit {0}
NamesFit n (Some names) = length names ≤ n

-- what has been read so far is kept well
record KeepsEnds (body : GraphSoFar) : Type 0 where
  each : AreEnds body.graph.order body.graph.ends
  vertices : body.graph.order ≤ 128
  edges : body.edges ≤ 2048

abbrev IsKept : EitherSoFar → Type 0
IsKept s = KeepsEnds s.so_far × NamesFit s.so_far.graph.order s.names

-- the fact holds of the value if there is one
abbrev pub GoesOn : {A Kind : Type 0} → (A → Type 0) → Result A Kind → Type 0
GoesOn P (Ok a) = P a
GoesOn P (Err k) = Unit {0}

module _ {A Kind : Type 0} (P : A → Type 0) where
  -- a table goes on only if each test is false
  goes-on : (tests : List (Bool × Kind)) (value : A) → (AllByRecursion (λ test. test.0 ≡ false) tests → P value) → GoesOn P (checked tests value)
  goes-on [] value give = give tt
  goes-on ((true, k) ∷ tests) value give = tt
  goes-on ((false, k) ∷ tests) value give = goes-on tests value (λ each. give (refl, each))

  goes-unless : (b : Bool) (k : Kind) (r : Result A Kind) → GoesOn P r → GoesOn P (cond b (Err k) r)
  goes-unless b k r goes = grind arith

  goes-either : (b : Bool) (r s : Result A Kind) → (b ≡ true → GoesOn P r) → GoesOn P s → GoesOn P (cond b r s)
  goes-either b r s first second = grind arith

goes-mapped : {A B Kind : Type 0} (P : A → Type 0) (Q : B → Type 0) (f : A → B) (r : Result A Kind) → ((a : A) → P a → Q (f a)) → GoesOn P r → GoesOn Q (result_map_both f (λ k. k) r)
goes-mapped P Q f r give goes = grind arith

goes-further : {A B Kind : Type 0} (P : A → Type 0) (Q : B → Type 0) (number : ℕ) (r : Result A Kind) (next : A → Result B (ℕ × Kind)) → GoesOn P r → ((a : A) → P a → GoesOn Q (next a)) → GoesOn Q (go_on number r next)
goes-further P Q number r next goes give = grind arith

-- the place of a name is below their number
place-among : (names : List (List ℕ)) (word : List ℕ) → is_among names word ≡ true → position_or_len (bytes_eq word) names < length names
place-among [] word is = absurd (true≢false (sym is))
place-among (name ∷ names) word is = go (bytes_eq word name) is (place-among names word)
  where
    go : (b : Bool) → (b || list_any (bytes_eq word) names) ≡ true → (is_among names word ≡ true → position_or_len (bytes_eq word) names < length names) → cond (not b) (1 + position_or_len (bytes_eq word) names) 0 < length (name ∷ names)
    go b e below = grind arith

vertex-within : (n : ℕ) (names : List (List ℕ)) (word : List ℕ) → length names ≤ n → is_among names word ≡ true → Within n (vertex_of names word)
vertex-within n names word fits is = let less = place-among names word is in (omega arith, omega arith)

-- two different names have different places
places-differ : (names : List (List ℕ)) (x y : List ℕ) → is_among names x ≡ true → is_among names y ≡ true → bytes_eq x y ≡ false → position_or_len (bytes_eq x) names ≡ position_or_len (bytes_eq y) names → ⊥
places-differ [] x y one two other same = true≢false (sym one)
places-differ (name ∷ names) x y one two other same = go (bytes_eq x name) (bytes_eq y name) refl refl one two same (places-differ names x y)
  where
    go : (b c : Bool) → bytes_eq x name ≡ b → bytes_eq y name ≡ c → (b || is_among names x) ≡ true → (c || is_among names y) ≡ true → cond (not b) (1 + position_or_len (bytes_eq x) names) 0 ≡ cond (not c) (1 + position_or_len (bytes_eq y) names) 0 →
        (is_among names x ≡ true → is_among names y ≡ true → bytes_eq x y ≡ false → position_or_len (bytes_eq x) names ≡ position_or_len (bytes_eq y) names → ⊥) → ⊥
    go b c e f first second at later = grind (arith, both_ways, bytes_eq-Decides)

vertices-differ : (names : List (List ℕ)) (x y : List ℕ) → is_among names x ≡ true → is_among names y ≡ true → bytes_eq x y ≡ false → vertex_of names x ≢ vertex_of names y
vertices-differ names x y one two other = λ same. places-differ names x y one two other (omega arith)

-- an edge between numbered vertices
edge-kept : (body : GraphSoFar) (words : List (List ℕ)) → KeepsEnds body → GoesOn KeepsEnds (edge_line body words)
edge-kept body words kept = grind (arith, goes-on, or_parts, ends-more, in_range, eqb-false)

plain-kept : (body : GraphSoFar) (words : List (List ℕ)) → KeepsEnds body → GoesOn KeepsEnds (graph_line body words)
plain-kept body words each = goes-unless KeepsEnds (size body.graph == body.edges) kind.Extra (edge_line body words) (edge-kept body words each)

-- a name of the next vertex
vertex-kept : (body : GraphSoFar) (names words : List (List ℕ)) → KeepsEnds body → length names < body.graph.order → GoesOn IsKept (vertex_line body names words)
vertex-kept body names words each more = grind (arith, goes-on, length-append)

-- an edge between named vertices
named_edge-kept : (body : GraphSoFar) (names words : List (List ℕ)) → KeepsEnds body → length names ≤ body.graph.order → GoesOn IsKept (named_edge_line body names words)
named_edge-kept body names words kept fits = grind (arith, goes-on, and_parts, not-false, ends-more, vertex-within, vertices-differ)

-- a line after the header
behind-kept : (body : GraphSoFar) (names : Option (List (List ℕ))) (words : List (List ℕ)) → KeepsEnds body → NamesFit body.graph.order names → GoesOn IsKept (line_behind body names words)
behind-kept body None words each fits = goes-mapped KeepsEnds IsKept (λ next. record { so_far = next; names = None }) (graph_line body words) (λ next kept. (kept, tt)) (plain-kept body words each)
behind-kept body (Some names) words each fits = grind (arith, goes-either, nat_lt, vertex-kept, ltb-true, goes-unless, named_edge-kept)

header-kept : (words : List (List ℕ)) → GoesOn IsKept (either_header words)
header-kept words = grind arith

-- so far
abbrev KeptFrom : Option EitherSoFar → Type 0
KeptFrom None = Unit {0}
KeptFrom (Some s) = IsKept s

step-kept : (from : Option EitherSoFar) (words : List (List ℕ)) → KeptFrom from → GoesOn IsKept (step either_version from words)
step-kept from words kept = grind (arith, header-kept, behind-kept)

-- the graph at the end
pub record IsRead (g : Graph) : Type 0 where
  pub ends : IsGraph g
  pub no_loop : HasNoLoop g
  pub vertices : g.order ≤ 128
  pub edges : size g ≤ 2048

abbrev pub HasGraph : NamedGraph → Type 0
HasGraph named = IsRead named.graph

is-read : (body : GraphSoFar) → KeepsEnds body → (size body.graph == body.edges) ≡ true → IsRead body.graph
is-read body kept full = let is = ends-graph body.graph kept.each in record { ends = is.ends; no_loop = is.no_loop; vertices = kept.vertices; edges = let few = kept.edges in grind (arith, nat_tests, few) }

goes-where : {A : Type 0} (P : A → Type 0) (b : Bool) (value : A) → (b ≡ true → P value) → GoesOn P (cond b (Ok value) (Err kind.Missing))
goes-where P b value is = grind arith

end-kept : (body : GraphSoFar) (names : Option (List (List ℕ))) → KeepsEnds body → GoesOn HasGraph (end_behind body names)
end-kept body names kept = grind (arith, goes-mapped, goes-where, is-read, and_parts)

finish-kept : (from : Option EitherSoFar) → KeptFrom from → GoesOn HasGraph (finish either_version from)
finish-kept from kept = grind (arith, end-kept)

reading-kept : (from : Option EitherSoFar) (lines : List SignificantLine) (count : ℕ) → KeptFrom from → GoesOn HasGraph (reading_from either_version from lines count)
reading-kept from [] count kept = goes-further HasGraph HasGraph (count + 1) (finish either_version from) (λ value. Ok value) (finish-kept from kept) (λ named is. is)
reading-kept from (line ∷ lines) count kept =
    goes-further IsKept HasGraph line.number (step either_version from line.words) (λ body. reading_from either_version (Some body) lines count) (step-kept from line.words kept)
    (λ body is. reading-kept (Some body) lines count is)

-- what a text is read as
pub read-graph : (text : List ℕ) → GoesOn HasGraph (reading_of either_version text)
read-graph text = reading-kept None (significant_lines_of text) (length (lines_of text)) tt
