-- What the checks of a body say about it. Idea: where no error of a list of tests is first, each
-- test fails; and the first error of two lists of tests is that of the one, or else that of the
-- other.
use Rattle.graph_core.proofs.from_counting.Common.{◌≡◌, ℕ, ◌<◌, ◌≤◌, ◌==◌, Bool, true, false, cond, List, [], ◌∷◌, ◌++◌, length, take, drop, Option, Some, None, Ok, Err, refl, ap, ◌∙◌, arith, nat_lt, list_all, list_any}
use Rattle.graph_core.specs.from_line_text.Common.{IsFault}
use Rattle.graph_core.specs.from_line_text.declared.faults.FaultKind.TheVariants.{Padding}
use Rattle.graph_core.specs.from_line_text.declared.faults.TextFault.{TextFault}
use Rattle.graph_core.specs.from_line_text.declared.faults.TextFault.TheVariants as fault
use Rattle.graph6_text.specs.Common.{is_digit, bits_of, column_pairs, chosen, limit_row, Checks, IsFirstFaultOfRows, Fault, first_fault, faults_of, is_long, order_of, data_of, data_len, graph_of_bits, graph_unless, body_of, outcome_of}
use Rattle.graph6_text.proofs.SixBits.{length-bits_of}
use Rattle.graph6_text.proofs.Columns.{length-column_pairs}

-- each test of the list fails
abbrev pub AllFail : List (Bool × Fault) → Type 0
AllFail [] = Unit {0}
AllFail (row ∷ rows) = (row.0 ≡ false) × AllFail rows

pub all_fail : (rows : List (Bool × Fault)) → first_fault rows ≡ None → AllFail rows
all_fail [] h = tt
all_fail (row ∷ rows) h = go (all_fail rows) row.0 refl h
  where
    go : (first_fault rows ≡ None → AllFail rows) → (b : Bool) → row.0 ≡ b → cond b (Some row.1) (first_fault rows) ≡ None → (row.0 ≡ false) × AllFail rows
    go ih b e h = grind arith

pub none_from_all_fail : (rows : List (Bool × Fault)) → AllFail rows → first_fault rows ≡ None
none_from_all_fail [] h = refl
none_from_all_fail (row ∷ rows) h = rw (h.0) (none_from_all_fail rows h.1)

pub first_fault-append : (xs ys : List (Bool × Fault)) → first_fault xs ≡ None → first_fault (xs ++ ys) ≡ first_fault ys
first_fault-append [] ys h = refl
first_fault-append (row ∷ xs) ys h = go (first_fault-append xs ys) row.0 h
  where
    go : (first_fault xs ≡ None → first_fault (xs ++ ys) ≡ first_fault ys) → (b : Bool) → cond b (Some row.1) (first_fault xs) ≡ None → cond b (Some row.1) (first_fault (xs ++ ys)) ≡ first_fault ys
    go ih b h = grind arith

pub first_fault-front : (xs ys : List (Bool × Fault)) (f : Fault) → first_fault xs ≡ Some f → first_fault (xs ++ ys) ≡ Some f
first_fault-front [] ys f h = absurd cc
first_fault-front (row ∷ xs) ys f h = go (first_fault-front xs ys f) row.0 h
  where
    go : (first_fault xs ≡ Some f → first_fault (xs ++ ys) ≡ Some f) → (b : Bool) → cond b (Some row.1) (first_fault xs) ≡ Some f → cond b (Some row.1) (first_fault (xs ++ ys)) ≡ Some f
    go ih b h = grind arith

-- a body with size and length of a graph
pub record IsFormed (body : List ℕ) : Type 0 where
  pub some : 0 < length body
  pub one_line : list_any (λ byte. byte == 10) body ≡ false
  pub digits : list_all is_digit body ≡ true
  pub whole : is_long body ≡ true → 4 ≤ length body
  pub due_form : is_long body ≡ true → 63 ≤ order_of body
  pub limit : order_of body ≤ 128
  pub due : length (data_of body) ≡ data_len (order_of body)

pub formed : (body : List ℕ) → first_fault (take 9 (faults_of body)) ≡ None → IsFormed body
formed body h = grind arith

-- the data of such a body are digits, with a bit for each pair
pub digits-data : (body : List ℕ) → IsFormed body → list_all is_digit (data_of body) ≡ true
unfolding data_of
digits-data body h = grind arith

pub enough_bits : (body : List ℕ) → IsFormed body → length (column_pairs (order_of body)) ≤ length (bits_of (data_of body))
enough_bits body h = grind (arith, length-column_pairs (order_of body), length-bits_of (data_of body))

-- the first error of two lists of tests
pub is_first-front : (xs ys : List (Bool × Fault)) (e : TextFault) → Checks (Err e) xs → IsFirstFaultOfRows (xs ++ ys) e
is_first-front xs ys (fault.At line kind) h = first_fault-front xs ys (line, kind) h
is_first-front xs ys fault.Memory h = tt

pub is_first-behind : (xs ys : List (Bool × Fault)) (e : TextFault) → first_fault xs ≡ None → IsFirstFaultOfRows ys e → IsFirstFaultOfRows (xs ++ ys) e
is_first-behind xs ys (fault.At line kind) none h = first_fault-append xs ys none ∙ h
is_first-behind xs ys fault.Memory none h = tt

-- the last two rows of the table, which depend on the bits
abbrev pub padding_row : ℕ → List Bool → List (Bool × Fault)
padding_row from bits = (list_any (λ bit. bit) (drop from bits), (1, Padding)) ∷ []

pub graph-from_bits : (body : List ℕ) (n : ℕ) (pairs : List (ℕ × ℕ)) (bits : List Bool) → n ≡ order_of body → pairs ≡ column_pairs n → bits ≡ bits_of (data_of body) →
    record { order = n; ends = chosen pairs bits } ≡ graph_of_bits body
unfolding graph_of_bits
graph-from_bits body n pairs bits order columns turned = grind arith

pub last_rows : (body : List ℕ) (n from : ℕ) (pairs : List (ℕ × ℕ)) (bits again : List Bool) → n ≡ order_of body → pairs ≡ column_pairs n → from ≡ length pairs →
    bits ≡ bits_of (data_of body) → again ≡ bits_of (data_of body) → padding_row from bits ++ limit_row (chosen pairs again) ≡ drop 9 (faults_of body)
last_rows body n from pairs bits again order columns place turned same = grind (arith, length-column_pairs, list_any, nat_lt, graph-from_bits)

-- a text whose body has this first error, or none
pub outcome-fault : (text : List ℕ) (e : TextFault) → IsFirstFaultOfRows (faults_of (body_of text)) e → IsFault e (outcome_of text)
unfolding outcome_of
outcome-fault text (fault.At line kind) h = ap (λ (f : Option Fault). graph_unless f (graph_of_bits (body_of text))) h
outcome-fault text fault.Memory h = tt

pub outcome-graph : (text : List ℕ) → first_fault (faults_of (body_of text)) ≡ None → outcome_of text ≡ Ok (graph_of_bits (body_of text))
unfolding outcome_of
outcome-graph text h = ap (λ (f : Option Fault). graph_unless f (graph_of_bits (body_of text))) h
