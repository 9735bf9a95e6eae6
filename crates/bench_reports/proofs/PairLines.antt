-- The lines of the leaves from a place on: that of the leaf there, and then those from the next
-- place on.
use Rattle.move_text.proofs.from_counting.Common.{◌≡◌, ℕ, zero, suc, ◌+◌, List, [], ◌∷◌, ◌++◌, Some, append_assoc, drop, length, slice_get, refl, ap, arith, none-some, same_Some}
use Rattle.tree_core.proofs.Common.{PlainLeafMap}
use Rattle.bench_outcomes.specs.from_report_text.declared.comparisons.MapLine.{MapLine}
use Rattle.bench_outcomes.specs.Common.{line_of, map_lines_of}

-- a list from a place on
drop-at : (i : ℕ) (ps : List (List (List ℕ))) (p : List (List ℕ)) → slice_get ps i ≡ Some p → drop i ps ≡ p ∷ drop (suc i) ps
drop-at i [] p is = absurd (none-some _ is)
drop-at zero (q ∷ ps) p is = ap (λ (b : List (List ℕ)). b ∷ ps) (same_Some _ _ is)
drop-at (suc i) (q ∷ ps) p is = drop-at i ps p is

-- one line more is written, and one map less is left
pub lines-more : (i : ℕ) (ps : List (List (List ℕ))) (p : List (List ℕ)) (m : PlainLeafMap) (left maps : List PlainLeafMap) (all lines next : List MapLine) (line : MapLine) → slice_get ps i ≡ Some p →
    all ≡ lines ++ map_lines_of i (drop i ps) left → left ≡ m ∷ maps → line ≡ line_of (i + 1) p m → next ≡ lines ++ line ∷ [] → all ≡ next ++ map_lines_of (i + 1) (drop (i + 1) ps) maps
lines-more i ps p m left maps all lines next line at before first is more = grind (arith, drop-at i ps p at, append_assoc lines (line_of (suc i) p m ∷ []) (map_lines_of (suc i) (drop (suc i) ps) maps))

-- if no map is left, there is no line
pub lines-none : (i : ℕ) (ps : List (List (List ℕ))) (maps : List PlainLeafMap) → length maps ≡ 0 → map_lines_of i ps maps ≡ []
lines-none i [] [] none = refl
lines-none i (p ∷ ps) [] none = refl
lines-none i [] (m ∷ maps) none = refl
lines-none i (p ∷ ps) (m ∷ maps) none = absurd (omega arith)
