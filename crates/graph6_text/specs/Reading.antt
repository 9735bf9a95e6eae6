-- What a graph6 text stands for, or its first error (B. D. McKay, "Description of graph6, sparse6
-- and digraph6 encodings").
-- Stated by: graph6_text, mcg6_lines, bench_tasks. Used by: bench_top, theorems.
use Rattle.std.specs.Prelude.{◌≡◌, ℕ, ◌+◌, ◌*◌, ◌-◌, ◌/◌, ◌==◌, ◌&&◌, not, nat_le, nat_lt, nat_eq, Bool, if◌then◌else◌, List, [], ◌∷◌, length, take, drop, slice_index, codes, Option, Some, None, Result, Ok, Err}
use Rattle.std.specs.List.{list_all, list_any, starts_with, ends_with}
use Rattle.graph_core.specs.Common.{Graph, size}
use Rattle.graph_core.specs.from_line_text.declared.faults.FaultKind.{FaultKind}
use Rattle.graph_core.specs.from_line_text.declared.faults.FaultKind.TheVariants.{Missing, Extra, Range, Limit, Padding, LongForm}
use Rattle.graph6_text.specs.Digits.{base, digit_of, is_digit, bits_of}
use Rattle.graph6_text.specs.Pairs.{column_pairs, chosen}

-- a text without its header, if it has one
abbrev pub without_header : List ℕ → List ℕ
without_header text = if starts_with nat_eq text (codes ">>graph6<<") then drop 10 text else text

-- a text without its line end, if it has one: a carriage return and a line feed, or a line feed
-- alone
abbrev pub without_line_end : List ℕ → List ℕ
without_line_end text =
    if ends_with nat_eq text (codes "\r\n") then take (length text - 2) text else
    if ends_with nat_eq text (codes "\n") then take (length text - 1) text else text

-- the body, what is left after header and line end are removed: the size and then the data
unfoldable pub body_of : List ℕ → List ℕ
body_of text = without_line_end (without_header text)

-- a text without header and line end
abbrev pub IsBare : List ℕ → Type 0
IsBare text = body_of text ≡ text

-- the most vertices of a graph
abbrev pub most_vertices : ℕ
most_vertices = 128

-- the most edges of a graph
abbrev pub most_edges : ℕ
most_edges = 2048

-- the largest number of vertices that one digit writes
abbrev pub most_short : ℕ
most_short = 62

-- the byte that begins a size in the long form
abbrev pub long_byte : ℕ
long_byte = 126

-- the size is written in the long form: that byte and three digits
abbrev pub is_long : List ℕ → Bool
is_long body = slice_index body 0 == long_byte

-- digit k of the size, counted from 0
abbrev pub digit_at : List ℕ → ℕ → ℕ
digit_at body k = digit_of (slice_index body k)

-- the number of vertices: 18 bits in the long form, the most significant first, otherwise one digit
unfoldable pub order_of : List ℕ → ℕ
order_of body =
    if is_long body then digit_at body 1 * (base * base) + digit_at body 2 * base + digit_at body 3 else digit_at body 0

-- the bytes after the size
unfoldable pub data_of : List ℕ → List ℕ
data_of body = drop (if is_long body then 4 else 1) body

-- the number of pairs of n vertices
abbrev pub pair_count : ℕ → ℕ
pair_count n = n * (n - 1) / 2

-- the number of bytes that hold one bit for each pair
abbrev pub data_len : ℕ → ℕ
data_len n = (pair_count n + 5) / 6

-- the padding bits: those after the bits of the pairs
abbrev pub filling_of : List ℕ → List Bool
filling_of body = drop (pair_count (order_of body)) (bits_of (data_of body))

-- the graph whose edges are the pairs with a set bit, in the order of the bits
unfoldable pub graph_of_bits : List ℕ → Graph
graph_of_bits body = record { order = order_of body; ends = chosen (column_pairs (order_of body)) (bits_of (data_of body)) }

-- a line and the kind of an error there
abbrev pub Fault : Type 0
Fault = ℕ × FaultKind

-- the errors of a body in their order, each with its test
abbrev pub faults_of : List ℕ → List (Bool × Fault)
faults_of body =
    (length body == 0, (1, Missing)) ∷
    (list_any (λ byte. byte == 10) body, (2, Extra)) ∷
    (not (list_all is_digit body), (1, Range)) ∷
    (is_long body && nat_lt (length body) 4, (1, Missing)) ∷
    (is_long body && (slice_index body 1 == long_byte), (1, Limit)) ∷
    (is_long body && nat_le (order_of body) most_short, (1, LongForm)) ∷
    (nat_lt most_vertices (order_of body), (1, Limit)) ∷
    (nat_lt (length (data_of body)) (data_len (order_of body)), (1, Missing)) ∷
    (nat_lt (data_len (order_of body)) (length (data_of body)), (1, Extra)) ∷
    (list_any (λ bit. bit) (filling_of body), (1, Padding)) ∷
    (nat_lt most_edges (size (graph_of_bits body)), (1, Limit)) ∷ []

-- the first error whose test is true
abbrev pub first_fault : List (Bool × Fault) → Option Fault
first_fault [] = None
first_fault (row ∷ rows) = if row.0 then Some row.1 else first_fault rows

-- the graph, unless there is an error
abbrev pub graph_unless : Option Fault → Graph → Result Graph Fault
graph_unless None g = Ok g
graph_unless (Some fault) g = Err fault

-- what a text stands for: a graph, or otherwise its first error
unfoldable pub outcome_of : List ℕ → Result Graph Fault
outcome_of text = graph_unless (first_fault (faults_of (body_of text))) (graph_of_bits (body_of text))
