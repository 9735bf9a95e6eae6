-- The pairs whose bit is set, in order: they are the edges that the loop has collected at its end.
-- Idea: induction on the pairs and their bits together. Whether any of the bits is set.
use Rattle.graph_core.proofs.from_counting.Common.{◌≡◌, ℕ, ◌+◌, ◌≤◌, ◌||◌, ◌∙◌, Bool, true, false, List, [], ◌∷◌, ◌++◌, drop, length, slice_get, refl, ap, arith, append_assoc, nat_lt, Option, Some, None, drop_all, drop_more, slice_get_within, cases_Bool, get_or_from_slice_get, list_any, nat_tests, append-nil, length-append}
use Rattle.graph_core.specs.from_line_text.declared.faults.FaultKind.{FaultKind}
use Rattle.graph_core.specs.from_line_text.declared.faults.TextFault.{TextFault}
use Rattle.graph_core.specs.from_line_text.declared.faults.TextFault.TheVariants as fault
use Rattle.graph6_text.specs.Common.{IsFirstFaultOfRows, limit_row, chosen, chosen_one}

pub chosen-no_bits : (pairs : List (ℕ × ℕ)) → chosen pairs [] ≡ []
chosen-no_bits [] = refl
chosen-no_bits (pair ∷ pairs) = refl

-- bits after those of the pairs choose nothing
pub chosen-filled : (pairs : List (ℕ × ℕ)) (bits filling : List Bool) → length bits ≡ length pairs → chosen pairs (bits ++ filling) ≡ chosen pairs bits
chosen-filled [] bits filling h = refl
chosen-filled (pair ∷ pairs) [] filling h = absurd (omega arith)
chosen-filled (pair ∷ pairs) (true ∷ bits) filling h = ap (λ (xs : List (ℕ × ℕ)). pair ∷ xs) (chosen-filled pairs bits filling (omega arith))
chosen-filled (pair ∷ pairs) (false ∷ bits) filling h = chosen-filled pairs bits filling (omega arith)

-- the first pair, if its bit is set, and then the others
pub chosen_step : (ends : List (ℕ × ℕ)) (pair : ℕ × ℕ) (bit : Bool) (pairs : List (ℕ × ℕ)) (bits : List Bool) → ends ++ chosen (pair ∷ pairs) (bit ∷ bits) ≡ (ends ++ chosen_one pair bit) ++ chosen pairs bits
chosen_step ends pair bit pairs bits = grind (arith, append_assoc ends (pair ∷ []) (chosen pairs bits), append-nil ends)

-- the limit of edges is passed by more of them too
pub longer_limit : (edges more all : List (ℕ × ℕ)) (f : TextFault) → edges ++ more ≡ all → IsFirstFaultOfRows (limit_row edges) f → IsFirstFaultOfRows (limit_row all) f
longer_limit edges more all fault.Memory is first = tt
longer_limit edges more all (fault.At line kind) is first = grind (arith, cases_Bool, nat_lt, over_longer, no_fault)
  where
    no_fault : (line : ℕ) (kind : FaultKind) → ◌≡◌ {A = Option (ℕ × FaultKind)} None (Some (line, kind)) → ⊥
    no_fault line kind e = cc e

    over_longer : (edges more all : List (ℕ × ℕ)) → edges ++ more ≡ all → nat_lt 2048 (length edges) ≡ true → nat_lt 2048 (length all) ≡ true
    over_longer edges more all is over = let e = ap length is in let f = length-append edges more in grind (arith, nat_tests)

-- whether a bit from place k on is set, by the bit there
pub any_set-more : (bits : List Bool) (k : ℕ) (b : Bool) → slice_get bits k ≡ Some b → list_any (λ bit. bit) (drop k bits) ≡ (b || list_any (λ bit. bit) (drop (k + 1) bits))
any_set-more bits k b read = ap (list_any (λ bit. bit)) (drop_more bits k false (slice_get_within bits k b read)) ∙ ap (λ (bit : Bool). bit || list_any (λ bit. bit) (drop (k + 1) bits)) (get_or_from_slice_get bits k b false read)

pub any_set-end : (bits : List Bool) (k : ℕ) → length bits ≤ k → list_any (λ bit. bit) (drop k bits) ≡ false
any_set-end bits k h = ap (list_any (λ bit. bit)) (drop_all k bits h)
