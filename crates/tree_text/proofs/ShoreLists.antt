-- Lists of vertices as the reader walks over them: what goes into the set is taken off the list,
-- and a set with the numbers of an increasing list is this list. A list that passes the tests of
-- the format is increasing and lies in range.
use Rattle.counting.proofs.Common.{◌≡◌, ◌||◌, ◌==◌, ◌+◌, ◌≤◌, ◌<◌, ℕ, suc, List, [], ◌∷◌, All, true, false, length, nat_lt, subst, arith, list_any, and_parts, or_parts, nat_tests, Rises, same_rising_list, set-from_rises, set-wider, or_false, Within, mem, IsRisingIn}
use Rattle.graph_core.specs.from_line_text.Common.{is_out_of_range}
use Rattle.graph_core.proofs.from_line_text.InRange.{in_range}
use Rattle.tree_text.specs.Common.{is_rising}

pub moved : (vertices shore next behind rest : List ℕ) (v : ℕ) → rest ≡ v ∷ behind → ((w : ℕ) → mem next w ≡ (mem shore w || v == w)) → ((w : ℕ) → mem vertices w ≡ (mem shore w || mem rest w)) → (w : ℕ) → mem vertices w ≡ (mem next w || mem behind w)
moved vertices shore next behind rest v front gains same w = grind arith

-- what is true of a list is true of what is after its first number
pub all-behind : (n : ℕ) (rest behind : List ℕ) (v : ℕ) → rest ≡ v ∷ behind → All (Within n) rest → All (Within n) behind
all-behind n rest behind v front all k d less = subst (All (Within n)) front all (suc k) d (omega arith)

pub all_moved : (vertices shore rest : List ℕ) → length rest ≡ 0 → IsRisingIn 128 shore → IsRisingIn 128 vertices → ((w : ℕ) → mem vertices w ≡ (mem shore w || mem rest w)) → shore ≡ vertices
all_moved vertices shore [] none rises in_order same = grind (arith, same_rising_list 128 shore vertices rises in_order, or_false)
all_moved vertices shore (v ∷ rest) none rises in_order same = absurd (omega arith)

less-from_test : (v w : ℕ) → nat_lt v w ≡ true → v < w
less-from_test v w is = grind (arith, nat_tests)

rises-from_tests : (low n v : ℕ) (vs : List ℕ) → low ≤ v → list_any (is_out_of_range n) (v ∷ vs) ≡ false → is_rising (v ∷ vs) ≡ true → Rises low n (v ∷ vs)
rises-from_tests low n v [] least within rising = grind arith
rises-from_tests low n v (w ∷ ws) least within rising =
    let ranges = or_parts (is_out_of_range n v) (list_any (is_out_of_range n) (w ∷ ws)) within in
    let order = and_parts (nat_lt v w) (is_rising (w ∷ ws)) rising in
    let less = less-from_test v w order.0 in
    (least, (in_range n v ranges.0).1, rises-from_tests (v + 1) n w ws (omega arith) ranges.1 order.1)

-- the tests of the format say that the list is increasing and lies within 1 to n
pub rising_read : (n : ℕ) (vs : List ℕ) → list_any (is_out_of_range n) vs ≡ false → is_rising vs ≡ true → IsRisingIn n vs
rising_read n [] within rising = set-from_rises n [] tt
rising_read n (v ∷ vs) within rising =
    let first = in_range n v (or_parts (is_out_of_range n v) (list_any (is_out_of_range n) vs) within).0 in
    set-from_rises n (v ∷ vs) (rises-from_tests 1 n v vs first.0 within rising)

-- and within 1 to the most vertices
pub rising_shore : (n : ℕ) (vs : List ℕ) → n ≤ 128 → list_any (is_out_of_range n) vs ≡ false → is_rising vs ≡ true → IsRisingIn 128 vs
rising_shore n vs few within rising = set-wider n 128 vs few (rising_read n vs within rising)
