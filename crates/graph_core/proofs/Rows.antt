-- The intersection of a row of the adjacency matrix with the set of vertices that are left is the
-- set of neighbours that are left.
use Rattle.vset_core.proofs.from_counting.Common.{◌≡◌, ℕ, ◌-◌, true, false, ◌&&◌, sym, ◌∙◌, arith, List, [], length, get_or, and_parts, both_ways, false_from_ne_true, and_from, get_or_read, Within, mem, none}
use Rattle.graph_core.specs.Common.{Graph, AreRows, adjacent}

-- the row that was read for v holds the vertices adjacent to v
pub row-adjacent : (g : Graph) (rows : List (List ℕ)) (row : List ℕ) (v w : ℕ) → AreRows g rows → Within (length rows) v → row ≡ get_or rows (v - 1) row → mem row w ≡ adjacent g none v w
row-adjacent g rows row v w are i read = grind (arith, get_or_read rows (v - 1) row)

-- nothing in the row is left
pub none_left : (g : Graph) (rows : List (List ℕ)) (row left met : List ℕ) (v : ℕ) → AreRows g rows → Within (length rows) v → row ≡ get_or rows (v - 1) row → ((w : ℕ) → mem met w ≡ (mem row w && mem left w)) → met ≡ [] →
    (w : ℕ) → adjacent g none v w ≡ true → mem left w ≡ false
none_left g rows row left met v are i read meets empty w a = grind (arith, false_from_ne_true, both_ways, and_from, row-adjacent)

-- what is in the row and left is a neighbour that is left
pub one_left : (g : Graph) (rows : List (List ℕ)) (row left met : List ℕ) (v w : ℕ) → AreRows g rows → Within (length rows) v → row ≡ get_or rows (v - 1) row → ((w : ℕ) → mem met w ≡ (mem row w && mem left w)) → mem met w ≡ true →
    (adjacent g none v w ≡ true) × (mem left w ≡ true)
one_left g rows row left met v w are i read meets h = grind (arith, and_parts (mem row w) (mem left w) (sym (meets w) ∙ h), row-adjacent g rows row v w are i read)
