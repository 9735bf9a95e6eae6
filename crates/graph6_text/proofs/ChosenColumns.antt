-- The chosen pairs of a column come one after the other, and so do those of the columns. Idea: the
-- bits of a pair, or of a column, are taken off the front.
use Rattle.graph_core.proofs.from_counting.Common.{◌≡◌, ℕ, ◌+◌, ◌<◌, ◌≤◌, Bool, true, false, List, [], ◌∷◌, ◌++◌, length, drop, get_or, slice_get, Some, refl, sym, ap, ◌∙◌, arith, drop_all, drop_more, get_or-drop, length-drop, append-nil, get_or_from_slice_get, length-append}
use Rattle.graph6_text.specs.Common.{chosen, chosen_one, column, column_pairs, pair_count}
use Rattle.graph6_text.proofs.Choosing.{chosen-no_bits, chosen_step}
use Rattle.graph6_text.proofs.Columns.{column_drop, column_pairs-zero, column_pairs-next, columns_front, length-column, length-column_pairs, length-next}

-- the chosen pairs of two lists, one after the other
pub chosen-append : (pairs others : List (ℕ × ℕ)) (bits : List Bool) → chosen (pairs ++ others) bits ≡ chosen pairs bits ++ chosen others (drop (length pairs) bits)
chosen-append [] others bits = refl
chosen-append (pair ∷ pairs) others [] = sym (chosen-no_bits others)
chosen-append (pair ∷ pairs) others (true ∷ bits) = ap (λ (xs : List (ℕ × ℕ)). pair ∷ xs) (chosen-append pairs others bits)
chosen-append (pair ∷ pairs) others (false ∷ bits) = chosen-append pairs others bits

-- the loop over a column: one more pair
pub column_chosen_more : (edges : List (ℕ × ℕ)) (before i : ℕ) (bits : List Bool) → i < before → before ≤ length bits →
    edges ++ chosen (drop i (column before (before + 1))) (drop i bits) ≡ (edges ++ chosen_one (i + 1, before + 1) (get_or bits i false)) ++ chosen (drop (i + 1) (column before (before + 1))) (drop (i + 1) bits)
column_chosen_more edges before i bits h long = grind (arith, column_drop, drop_more, chosen_step, get_or)

-- the same with the bit that was read, where the bits of the column begin at a place of others
pub column_read_more : (edges : List (ℕ × ℕ)) (before i from : ℕ) (all : List Bool) (bit : Bool) → i < before → from + before ≤ length all → slice_get all (from + i) ≡ Some bit →
    edges ++ chosen (drop i (column before (before + 1))) (drop i (drop from all)) ≡ (edges ++ chosen_one (i + 1, before + 1) bit) ++ chosen (drop (i + 1) (column before (before + 1))) (drop (i + 1) (drop from all))
column_read_more edges before i from all bit h long read = grind (arith, length-drop, get_or, get_or-drop, get_or_from_slice_get, column_chosen_more)

-- where it has come to its end
pub column_chosen_all : (edges all : List (ℕ × ℕ)) (before i : ℕ) (bits : List Bool) → before ≤ i → edges ++ chosen (drop i (column before (before + 1))) (drop i bits) ≡ all → edges ≡ all
column_chosen_all edges all before i bits h inv = grind (arith, length-column, drop_all, append-nil)

-- no column chooses no pair
pub columns_chosen_none : (bits : List Bool) → chosen (column_pairs 0) bits ≡ []
columns_chosen_none bits = ap (λ (pairs : List (ℕ × ℕ)). chosen pairs bits) column_pairs-zero

-- the loop over columns: one column more
pub columns_chosen_more : (edges : List (ℕ × ℕ)) (i : ℕ) (bits rest : List Bool) → edges ≡ chosen (column_pairs i) bits → rest ≡ drop (length (column_pairs i)) bits →
    edges ++ chosen (column i (i + 1)) rest ≡ chosen (column_pairs (i + 1)) bits
columns_chosen_more edges i bits rest is at = grind (arith, chosen-append, column_pairs-next)

-- the bits from the place of the next column on are enough for it
pub columns_long : (i n from many : ℕ) → i < n → pair_count n ≤ many → from ≡ length (column_pairs i) → from + i ≤ many
columns_long i n from many h long at =
    let front = columns_front (i + 1) n (omega arith) in
    let all : length (column_pairs n) ≡ length (column_pairs (i + 1)) + length front.0 = ap length front.1 ∙ length-append (column_pairs (i + 1)) front.0 in
    let next = length-next i in
    let total = length-column_pairs n in
    omega arith

-- the chosen pairs of the first columns come first
pub columns_chosen_front : (b n : ℕ) (bits : List Bool) → b ≤ n → (more : List (ℕ × ℕ)) × (chosen (column_pairs b) bits ++ more ≡ chosen (column_pairs n) bits)
columns_chosen_front b n bits h = let p = columns_front b n h in (chosen p.0 (drop (length (column_pairs b)) bits), sym (chosen-append (column_pairs b) p.0 bits) ∙ ap (λ (pairs : List (ℕ × ℕ)). chosen pairs bits) (sym p.1))
