-- The text of a graph is accepted, with a graph of the same order and the same adjacent pairs.
-- Idea: each of its bytes writes a digit, so nothing is removed from it; the bits that are read are
-- those that were written, with zeros after them.
use Rattle.graph_core.proofs.from_counting.Common.{◌≡◌, ℕ, ◌+◌, ◌-◌, ◌/◌, ◌%◌, ◌<◌, ◌≤◌, ◌≢◌, ◌==◌, ◌&&◌, Bool, true, false, cond, List, [], ◌∷◌, ◌++◌, length, map, take, drop, None, refl, sym, ap, ap₂, ◌∙◌, arith, leb, ltb, inl, inr, subst, codes, nat_eq, get_or, ne_eqb, le-ltb, drop_at, not_from_true, cond-false, Decides-eqb, list_all-append, ends_is, starts_with, ends_with, and_parts, and_from, and_left, or_from, both_ways, cases_lt, cases_order, false_from_ne_true, lt-leb, length-map, list_all, list_any, none}
use Rattle.graph_core.proofs.Common.{Graph, size, IsWithinLimits, adjacent, joins, adjacent-ends, adjacent-edge, adjacent_back, adjacent_within}
use Rattle.graph6_text.specs.Common.{byte_of, is_digit, bits_of, bytes_of, column_pairs, chosen, without_header, without_line_end, first_fault, faults_of, is_long, order_of, data_of, data_len, pair_count, filling_of, graph_of_bits, body_of, size_of, adjacency_bits, graph6_of, ReadsBack}
use Rattle.graph6_text.proofs.Canonical.{digit_bounds, size-short, size-long, order-short, order-long, present-adjacent, simple-graph_of}
use Rattle.graph6_text.proofs.Choosing.{chosen-filled}
use Rattle.graph6_text.proofs.Columns.{length-column_pairs, distinct_column_pairs, any_column_pair}
use Rattle.graph6_text.proofs.DistinctPairs.{present, present_at_most, any_chosen, any_none, joins-own, joins-turned}
use Rattle.graph6_text.proofs.Passing.{none_from_all_fail, outcome-graph}
use Rattle.graph6_text.proofs.RoundTrip.{AreZeros, Filled, bits-bytes_of, length-bytes_of, is_digit-byte_of, digits-bytes_of}

-- a list of digits holds no byte that is none
digits_only : (xs ys : List ℕ) (byte : ℕ) → is_digit byte ≡ false → list_all is_digit (xs ++ byte ∷ ys) ≡ true → ⊥
digits_only xs ys byte other h = grind (arith, both_ways, and_parts, list_all-append)

-- such a list neither begins nor ends with other bytes
not_begun : (text : List ℕ) (byte : ℕ) (bytes : List ℕ) → is_digit byte ≡ false → list_all is_digit text ≡ true → starts_with nat_eq text (byte ∷ bytes) ≡ false
not_begun text byte bytes other h = grind arith

not_ended : (text : List ℕ) (byte : ℕ) (bytes : List ℕ) → is_digit byte ≡ false → list_all is_digit text ≡ true → ends_with nat_eq text (byte ∷ bytes) ≡ false
not_ended text byte bytes other h = false_from_ne_true (ends_with nat_eq text (byte ∷ bytes)) (λ t.
    let cut = (ends_is Decides-eqb text (byte ∷ bytes) (ends_with nat_eq text (byte ∷ bytes)) refl).0 t in
    digits_only (take (length text - length (byte ∷ bytes)) text) bytes byte other (ap (list_all is_digit) (sym cut) ∙ h))

-- so that nothing of it is set aside
no_header : (text : List ℕ) → list_all is_digit text ≡ true → without_header text ≡ text
no_header text h = cond-false (starts_with nat_eq text (codes ">>graph6<<")) (drop 10 text) text (not_begun text 62 (codes ">graph6<<") refl h)

no_line_end : (text : List ℕ) → list_all is_digit text ≡ true → without_line_end text ≡ text
no_line_end text h =
    cond-false (ends_with nat_eq text (codes "\r\n")) (take (length text - 2) text) (cond (ends_with nat_eq text (codes "\n")) (take (length text - 1) text) text) (not_ended text 13 (10 ∷ []) refl h)
    ∙ cond-false (ends_with nat_eq text (codes "\n")) (take (length text - 1) text) text (not_ended text 10 [] refl h)

bare : (text : List ℕ) → list_all is_digit text ≡ true → body_of text ≡ text
unfolding body_of
bare text h = ap without_line_end (no_header text h) ∙ no_line_end text h

pub no_line_feed : (text : List ℕ) → list_all is_digit text ≡ true → list_any (λ byte. byte == 10) text ≡ false
no_line_feed [] h = refl
no_line_feed (byte ∷ text) h =
    let p = and_parts (is_digit byte) (list_all is_digit text) h in
    let least = digit_bounds byte p.0 in
    or_from (byte == 10) (list_any (λ byte. byte == 10) text) (ne_eqb byte 10 (omega arith)) (no_line_feed text p.1)

-- the size is read as the number that it was written for, and has no error
record Sized (n : ℕ) (rest body : List ℕ) : Type 0 where
  order : order_of body ≡ n
  behind : data_of body ≡ rest
  some : (length body == 0) ≡ false
  digits : list_all is_digit body ≡ list_all is_digit rest
  whole : (is_long body && ltb (length body) 4) ≡ false
  not_longer : (is_long body && (get_or body 1 0 == 126)) ≡ false
  due_form : (is_long body && leb (order_of body) 62) ≡ false

sized_short : (n : ℕ) (rest : List ℕ) → n ≤ 62 → Sized n rest (byte_of n ∷ rest)
unfolding data_of
sized_short n rest h = grind (arith, ne_eqb (byte_of n) 126, order-short (byte_of n ∷ rest), ne_eqb (length (byte_of n ∷ rest)) 0, is_digit-byte_of n, and_left)

first_digit : (d : ℕ) (rest : List ℕ) → d < 64 → list_all is_digit (byte_of d ∷ rest) ≡ list_all is_digit rest
first_digit d rest h = ap (λ (b : Bool). b && list_all is_digit rest) (is_digit-byte_of d h)

sized_long : (n : ℕ) (rest : List ℕ) → 62 < n → n ≤ 128 → Sized n rest (126 ∷ byte_of (n / 4096) ∷ byte_of (n / 64 % 64) ∷ byte_of (n % 64) ∷ rest)
unfolding data_of
sized_long n rest h k = grind (arith, order-long, ne_eqb, first_digit, le-ltb, lt-leb)

sized : (n : ℕ) (rest : List ℕ) → n ≤ 128 → Sized n rest (size_of n ++ rest)
sized n rest k = grind (arith, cases_lt 62 n, size-long n, sized_long n rest, size-short n, sized_short n rest)

-- the bits of an accepted text of g
module _ (g : Graph) (limits : IsWithinLimits g) where
  abbrev pairs : List (ℕ × ℕ)
  pairs = column_pairs g.order

  abbrev bits : List Bool
  bits = adjacency_bits g

  bits-tested : bits ≡ map (λ p. adjacent g none p.0 p.1) pairs
  unfolding adjacency_bits
  bits-tested = refl

  length-bits : length bits ≡ length pairs
  length-bits = ap length bits-tested ∙ length-map pairs (λ p. adjacent g none p.0 p.1)

  size-text : Sized g.order (bytes_of bits) (graph6_of g)
  unfolding graph6_of
  size-text = sized g.order (bytes_of bits) limits.vertices

  digits-text : list_all is_digit (graph6_of g) ≡ true
  digits-text = size-text.digits ∙ digits-bytes_of bits

  read_bits : Filled bits (bits_of (data_of (graph6_of g)))
  read_bits = subst (λ (xs : List ℕ). Filled bits (bits_of xs)) (sym size-text.behind) (bits-bytes_of bits)

  graph-text : graph_of_bits (graph6_of g) ≡ record { order = g.order; ends = chosen pairs bits }
  unfolding graph_of_bits
  graph-text =
      let make : ℕ → List (ℕ × ℕ) → Graph = λ k es. record { order = k; ends = es } in
      ap₂ make size-text.order (ap₂ chosen (ap column_pairs size-text.order) read_bits.behind ∙ chosen-filled pairs bits read_bits.filling length-bits)

  -- no error
  many_pairs : length pairs ≡ pair_count g.order
  many_pairs = length-column_pairs g.order

  due-text : length (data_of (graph6_of g)) ≡ data_len (order_of (graph6_of g))
  due-text = ap length size-text.behind ∙ length-bytes_of bits ∙ ap (λ (t : ℕ). (t + 5) / 6) (length-bits ∙ many_pairs) ∙ ap data_len (sym size-text.order)

  zeros-text : AreZeros (filling_of (graph6_of g))
  zeros-text =
      let place : pair_count (order_of (graph6_of g)) ≡ length bits = ap pair_count size-text.order ∙ sym (length-bits ∙ many_pairs) in
      grind (arith, list_any, drop_at bits read_bits.filling (length bits) refl)

  few-text : size (graph_of_bits (graph6_of g)) ≤ 2048
  few-text =
      let e : size (graph_of_bits (graph6_of g)) ≡ length (chosen pairs (present g.ends pairs)) =
      ap size graph-text ∙ ap (λ (bs : List Bool). length (chosen pairs bs)) (bits-tested ∙ present-adjacent g pairs) in
      let most = present_at_most g.ends pairs (distinct_column_pairs g.order) in
      let limit = limits.edges in
      omega arith

  no_fault-text : first_fault (faults_of (graph6_of g)) ≡ None
  no_fault-text =
      let order = limit (order_of (graph6_of g)) g.order size-text.order limits.vertices in
      let due = same_length (length (data_of (graph6_of g))) (data_len (order_of (graph6_of g))) due-text in
      none_from_all_fail (faults_of (graph6_of g)) (
        size-text.some,
        (
          no_line_feed (graph6_of g) digits-text,
          (
            not_from_true (list_all is_digit (graph6_of g)) digits-text,
            (size-text.whole, (size-text.not_longer, (size-text.due_form, (order, (due.0, (due.1, (zeros-text, (le-ltb 2048 (size (graph_of_bits (graph6_of g))) few-text, tt)))))))),
          ),
        ),
      )
    where
      limit : (x n : ℕ) → x ≡ n → n ≤ 128 → ltb 128 x ≡ false
      limit x n e h = le-ltb 128 x (omega arith)

      same_length : (x y : ℕ) → x ≡ y → (ltb x y ≡ false) × (ltb y x ≡ false)
      same_length x y e = (le-ltb x y (omega arith), le-ltb y x (omega arith))

  -- the same adjacent pairs
  abbrev is_edge : ℕ → ℕ → ℕ × ℕ → Bool
  is_edge u v p = adjacent g none p.0 p.1 && joins u v p

  -- a pair that is u and v is adjacent where they are
  not_edge : (u v : ℕ) → adjacent g none u v ≡ false → (p : ℕ × ℕ) → is_edge u v p ≡ false
  not_edge u v none_there p = grind arith

  some_edge : (u v : ℕ) → adjacent g none u v ≡ true → list_any (is_edge u v) pairs ≡ true
  some_edge u v there =
      let w = adjacent_within g none limits.multigraph.ends u v there in
      let e = (adjacent-edge g none u v there).2 in
      let differ : u ≢ v = λ same. limits.multigraph.no_loop e.0 e.1 (grind arith) in
      elim (cases_order u v) [
        | inl same ↦ absurd (differ same)
        | inr c ↦ elim c [
          | inl l ↦ any_column_pair (is_edge u v) g.order u v w.0.0 l w.1.1 (and_from (adjacent g none u v) (joins u v (u, v)) there (joins-own (u, v)))
          | inr l ↦ any_column_pair (is_edge u v) g.order v u w.1.0 l w.0.1 (and_from (adjacent g none v u) (joins u v (v, u)) (adjacent_back g none u v there) (joins-turned u v))
        ]
      ]

  adjacent-text : (u v : ℕ) → adjacent (graph_of_bits (graph6_of g)) none u v ≡ adjacent g none u v
  adjacent-text u v = grind (arith, adjacent-ends (graph_of_bits (graph6_of g)) u v, list_any (joins u v), graph-text, bits-tested, any_chosen, go (adjacent g none u v) refl)
    where
      go : (b : Bool) → adjacent g none u v ≡ b → list_any (is_edge u v) pairs ≡ adjacent g none u v
      go true h = some_edge u v h ∙ sym h
      go false h = any_none (is_edge u v) pairs (not_edge u v h) ∙ sym h

  pub reads_back : ReadsBack (graph6_of g) g
  reads_back = grind (arith, bare (graph6_of g) digits-text, digits-text, outcome-graph (graph6_of g), no_fault-text, graph-text, simple-graph_of (graph6_of g), adjacent-text)
