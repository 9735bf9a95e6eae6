-- A text without header and line end that is accepted is the text of its graph. Idea: its bits
-- can be read off the edges that they choose, and are written again as its bytes; and the size
-- has one form.
use Rattle.graph_core.proofs.from_counting.Common.{◌≡◌, ℕ, ◌+◌, ◌*◌, ◌/◌, ◌%◌, ◌<◌, ◌≤◌, ◌==◌, Bool, true, false, cond, List, [], ◌∷◌, ◌++◌, length, map, take, drop, Some, None, Ok, refl, sym, ap, ◌∙◌, arith, leb, eqb-true, leb-true, take-append-drop, eqb-false, cond-true, cond-false, and_parts, le-leb, lt-leb, list_all, list_any, none}
use Rattle.graph_core.proofs.Common.{Graph, IsSimple, adjacent, adjacent-ends}
use Rattle.graph6_text.specs.Common.{byte_of, is_digit, bits_of, bytes_of, column_pairs, Fault, first_fault, faults_of, is_long, digit_at, order_of, data_of, filling_of, graph_of_bits, body_of, outcome_of, size_of, adjacency_bits, graph6_of}
use Rattle.graph6_text.proofs.Columns.{length-column_pairs, distinct_column_pairs}
use Rattle.graph6_text.proofs.DistinctPairs.{present, present_chosen, distinct_chosen, simple_from_distinct}
use Rattle.graph6_text.proofs.Passing.{IsFormed, formed, digits-data, enough_bits, all_fail, first_fault-append}
use Rattle.graph6_text.proofs.RoundTrip.{AreZeros, bytes-bits_of}

-- the adjacency bits say which pairs are among the edges
pub present-adjacent : (g : Graph) (ps : List (ℕ × ℕ)) → map (λ p. adjacent g none p.0 p.1) ps ≡ present g.ends ps
present-adjacent g ps = grind (arith, adjacent-ends g)

none-front : (xs ys : List (Bool × Fault)) → first_fault (xs ++ ys) ≡ None → first_fault xs ≡ None
none-front [] ys h = refl
none-front (row ∷ xs) ys h = go row.0 (none-front xs ys) h
  where
    go : (b : Bool) → (first_fault (xs ++ ys) ≡ None → first_fault xs ≡ None) → cond b (Some row.1) (first_fault (xs ++ ys)) ≡ None → cond b (Some row.1) (first_fault xs) ≡ None
    go b ih h = grind arith

-- what an accepted text is
pub accepted : (text : List ℕ) (g : Graph) → outcome_of text ≡ Ok g → (first_fault (faults_of (body_of text)) ≡ None) × (graph_of_bits (body_of text) ≡ g)
unfolding outcome_of
accepted text g h = grind arith

-- the two forms of a size, written and read
pub size-short : (n : ℕ) → n ≤ 62 → size_of n ≡ byte_of n ∷ []
unfolding size_of
size-short n h = cond-true (leb n 62) _ _ (le-leb n 62 h)

pub size-long : (n : ℕ) → 62 < n → size_of n ≡ 126 ∷ byte_of (n / 4096) ∷ byte_of (n / 64 % 64) ∷ byte_of (n % 64) ∷ []
unfolding size_of
size-long n h = cond-false (leb n 62) _ _ (lt-leb n 62 h)

pub order-short : (body : List ℕ) → is_long body ≡ false → order_of body ≡ digit_at body 0
unfolding order_of
order-short body h = cond-false (is_long body) _ _ h

pub order-long : (body : List ℕ) → is_long body ≡ true → order_of body ≡ digit_at body 1 * 4096 + digit_at body 2 * 64 + digit_at body 3
unfolding order_of
order-long body h = cond-true (is_long body) _ _ h

pub digit_bounds : (byte : ℕ) → is_digit byte ≡ true → (63 ≤ byte) × (byte ≤ 126)
digit_bounds byte h = let p = and_parts (leb 63 byte) (leb byte 126) h in (leb-true 63 byte p.0, leb-true byte 126 p.1)

-- the size that is read from a body is written as the bytes that it was read from
short_taken : (a : ℕ) (rest : List ℕ) → IsFormed (a ∷ rest) → (a == 126) ≡ false → size_of (order_of (a ∷ rest)) ≡ a ∷ []
short_taken a rest h e = grind (arith, order-short, digit_bounds, and_parts, list_all, eqb-false, size-short)

long_taken : (a : ℕ) (rest : List ℕ) → IsFormed (a ∷ rest) → (a == 126) ≡ true → size_of (order_of (a ∷ rest)) ≡ take 4 (a ∷ rest)
long_taken a rest h e = grind (arith, order-long, eqb-true a 126 e, and_parts (is_digit a), list_all is_digit, and_parts, list_all is_digit rest, digit_bounds, size-long)

size_taken : (body : List ℕ) → IsFormed body → size_of (order_of body) ≡ take (cond (is_long body) 4 1) body
size_taken body h = grind (arith, long_taken, short_taken)

-- its data are written as the bytes that they were read from
data_taken : (body : List ℕ) → IsFormed body → AreZeros (filling_of body) → bytes_of (adjacency_bits (graph_of_bits body)) ≡ data_of body
unfolding adjacency_bits graph_of_bits
data_taken body h zeros =
    let n = order_of body in
    let ps = column_pairs n in
    let bits = bits_of (data_of body) in
    let many = length-column_pairs n in
    ap bytes_of (present-adjacent (graph_of_bits body) ps ∙ present_chosen ps bits (distinct_column_pairs n) (enough_bits body h))
    ∙ bytes-bits_of (data_of body) (length ps) (digits-data body h) (h.due ∙ ap (λ (t : ℕ). (t + 5) / 6) (sym many))
    (ap (λ (t : ℕ). list_any (λ bit. bit) (drop t bits)) many ∙ zeros)

pub simple-graph_of : (body : List ℕ) → IsSimple (graph_of_bits body)
unfolding graph_of_bits
simple-graph_of body = simple_from_distinct (graph_of_bits body) (distinct_chosen (column_pairs (order_of body)) (bits_of (data_of body)) (distinct_column_pairs (order_of body)))

-- what a text holds without header and line end is the text of its graph
pub canonical_body : (text : List ℕ) (g : Graph) → outcome_of text ≡ Ok g → IsSimple g × (graph6_of g ≡ body_of text)
unfolding graph6_of data_of graph_of_bits
canonical_body text g h = grind (arith, accepted text g h, none-front, formed, all_fail, first_fault-append, size_taken, data_taken, take-append-drop, simple-graph_of)

pub bare_written : (text : List ℕ) (g : Graph) → outcome_of text ≡ Ok g → body_of text ≡ graph6_of g
bare_written text g h = sym (canonical_body text g h).1

pub canonical : (text : List ℕ) (g : Graph) → body_of text ≡ text → outcome_of text ≡ Ok g → IsSimple g × (graph6_of g ≡ text)
canonical text g bare h = let c = canonical_body text g h in (c.0, c.1 ∙ bare)
