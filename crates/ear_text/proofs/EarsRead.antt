-- What is read of a text can be written again. Along the lines of a text the numbers of the ears
-- read so far are in range and no ear is empty: each line keeps this, since it passed the tests
-- of the table.
use Rattle.ear_core.proofs.from_counting.Common.{◌≡◌, ◌<◌, ◌==◌, ◌||◌, ◌&&◌, ◌++◌, codes, not, nat_le, if◌then◌else◌, ℕ, List, [], ◌∷◌, Bool, length, map, true, Option, Some, None, is_some, Result, Ok, Err, IfOk, refl, sym, subst, arith, AllByRecursion, list_all, list_any, and_parts, or_parts, both_ways, not-false, Within}
use Rattle.graph_core.specs.from_line_text.Common.{Begins, Stands, finish, has_form, word_at, is_number, value_of, is_out_of_range}
use Rattle.graph_core.proofs.from_line_text.Tables.{all_passed, no_value, value_or}
use Rattle.graph_core.proofs.from_line_text.InRange.{all-in_range, in_range}
use Rattle.graph_core.specs.from_line_text.declared.faults.FaultKind.{FaultKind}
use Rattle.graph_core.specs.from_line_text.declared.faults.FaultKind.TheVariants as kind
use Rattle.ear_core.specs.Common.{PlainEar, PlainStep, PlainEars, FitsEar, FitsStep, FitsEars, HasEdges}
use Rattle.ear_text.specs.EarFormat.{EarsSoFar, headed, started, ear_format, ear_line, line_behind, ears_end, behind_two, is_ear_line, is_with_line, ear_at, closed, paired}

-- the numbers of an ear are in range, and it is not empty
abbrev KeepsEar : ℕ → ℕ → PlainEar → Type 0
KeepsEar n m a = FitsEar n m a × (0 < length a.edges)

abbrev KeepsLast : ℕ → ℕ → Option PlainEar → Type 0
KeepsLast n m None = Unit {0}
KeepsLast n m (Some a) = KeepsEar n m a

-- the same of all ears of the steps
abbrev KeepsSteps : ℕ → ℕ → List PlainStep → Type 0
KeepsSteps n m steps = AllByRecursion (FitsStep n m) steps × AllByRecursion HasEdges steps

abbrev Keeps : ℕ → ℕ → EarsSoFar → Type 0
Keeps n m headed = Unit {0}
Keeps n m (started start steps last) = Within m start × KeepsSteps n m steps × KeepsLast n m last

-- a step more
keeps-one_more : (n m : ℕ) (steps : List PlainStep) (s : PlainStep) → KeepsSteps n m steps → FitsStep n m s → HasEdges s → KeepsSteps n m (steps ++ s ∷ [])
keeps-one_more n m [] s keeps fits some = ((fits, tt), (some, tt))
keeps-one_more n m (t ∷ steps) s keeps fits some =
    let first = keeps.0 in let second = keeps.1 in
    let rest = keeps-one_more n m steps s (first.1, second.1) fits some in
    ((first.0, rest.0), (second.0, rest.1))

keeps-closed : (n m : ℕ) (steps : List PlainStep) (last : Option PlainEar) → KeepsSteps n m steps → KeepsLast n m last → KeepsSteps n m (closed steps last)
keeps-closed n m steps last keeps kept = grind (arith, keeps-one_more n m steps)

keeps-paired : (n m : ℕ) (steps : List PlainStep) (last : Option PlainEar) (b : PlainEar) → KeepsSteps n m steps → KeepsLast n m last → KeepsEar n m b → KeepsSteps n m (paired steps last b)
keeps-paired n m steps last b keeps kept ear = grind (arith, keeps-one_more n m steps)

three_words : (words : List (List ℕ)) → nat_le 3 (length words) ≡ true → 0 < length (map value_of (behind_two words))
three_words [] is = absurd (both_ways (nat_le 3 0) refl is)
three_words (word ∷ []) is = absurd (both_ways (nat_le 3 1) refl is)
three_words (word ∷ next ∷ []) is = absurd (both_ways (nat_le 3 2) refl is)
three_words (word ∷ next ∷ more ∷ words) is = omega arith

-- the line of an ear keeps what is said
abbrev line_tests : ℕ → ℕ → Option PlainEar → List (List ℕ) → List (Bool × FaultKind)
line_tests n m last words =
    (not (is_ear_line words || (is_some last && is_with_line words)), kind.Word)
    ∷ (not (is_number (word_at words 1) && list_all is_number (behind_two words)), kind.Number)
    ∷ (is_out_of_range n (value_of (word_at words 1)) || list_any (is_out_of_range m) (map value_of (behind_two words)), kind.Range)
    ∷ []

abbrev line_read : ℕ → List PlainStep → Option PlainEar → List (List ℕ) → EarsSoFar
line_read start steps last words = if is_ear_line words then started start (closed steps last) (Some (ear_at words)) else started start (paired steps last (ear_at words)) None

ear_line-keeps : (n m start : ℕ) (steps : List PlainStep) (last : Option PlainEar) (words : List (List ℕ)) (next : EarsSoFar) → Keeps n m (started start steps last) → ear_line n m start steps last words ≡ Ok next → Keeps n m next
ear_line-keeps n m start steps last words next keeps same =
    let through = all_passed (line_tests n m last words) (line_read start steps last words) next same in
    let tests = through.0 in
    let range = or_parts (is_out_of_range n (value_of (word_at words 1))) (list_any (is_out_of_range m) (map value_of (behind_two words))) tests.1.1.0 in
    grind (arith, go, not-false, is_some, in_range, all-in_range)
  where
    go : (first : Bool) → is_ear_line words ≡ first → Within m start → KeepsSteps n m steps → KeepsLast n m last → (is_ear_line words || (is_some last && is_with_line words)) ≡ true → FitsEar n m (ear_at words) → Keeps n m (line_read start steps last words)
    go first is begins kept ear known fits = grind (arith, and_parts, nat_le, keeps-closed, three_words, is_some, keeps-paired)

-- and so does each line after the header
line-keeps : (n m : ℕ) (body : EarsSoFar) (words : List (List ℕ)) (next : EarsSoFar) → Keeps n m body → line_behind n m body words ≡ Ok next → Keeps n m next
line-keeps n m headed words next keeps same = grind arith
line-keeps n m (started start steps last) words next keeps same = ear_line-keeps n m start steps last words next keeps same

-- what is said of the state that the lines lead to
abbrev KeepsReached : ℕ → ℕ → Option EarsSoFar → Type 0
KeepsReached n m None = Unit {0}
KeepsReached n m (Some body) = Keeps n m body

lines-keep : (n m : ℕ) (body : EarsSoFar) (lines : List (List (List ℕ))) (reached : Option EarsSoFar) → Keeps n m body → Begins (ear_format n m) (Some body) lines reached → KeepsReached n m reached
lines-keep n m body [] reached keeps begins = subst (KeepsReached n m) (sym begins) keeps
lines-keep n m body (words ∷ lines) reached keeps begins =
    lines-keep n m begins.0 lines reached (line-keeps n m body words begins.0 keeps begins.1) begins.2

abbrev header_tests : ℕ → ℕ → List (List ℕ) → List (Bool × FaultKind)
header_tests n m words =
    (not (has_form words 4 (codes "r" ∷ codes "mcg" ∷ [])), kind.Header)
    ∷ (not (is_number (word_at words 2) && is_number (word_at words 3)), kind.Number)
    ∷ (not ((value_of (word_at words 2) == n) && (value_of (word_at words 3) == m)), kind.Header)
    ∷ []

all-keep : (n m : ℕ) (lines : List (List (List ℕ))) (reached : Option EarsSoFar) → Begins (ear_format n m) None lines reached → KeepsReached n m reached
all-keep n m [] reached begins = subst (KeepsReached n m) (sym begins) tt
all-keep n m (words ∷ lines) reached begins = grind (arith, all_passed (header_tests n m words) headed begins.0 begins.1, lines-keep n m begins.0 lines reached)

-- the list at the end
abbrev pub KeepsList : ℕ → ℕ → PlainEars → Type 0
KeepsList n m list = FitsEars n m list × AllByRecursion HasEdges list.steps

end-keeps : (n m : ℕ) (body : EarsSoFar) (list : PlainEars) → Keeps n m body → ears_end body ≡ Ok list → KeepsList n m list
end-keeps n m headed list keeps ends = absurd (no_value _ list ends)
end-keeps n m (started start steps last) list keeps ends = grind (arith, keeps-closed n m steps last keeps.1 keeps.2, value_or)

reached-keeps : (n m : ℕ) (reached : Option EarsSoFar) (list : PlainEars) → KeepsReached n m reached → finish (ear_format n m) reached ≡ Ok list → KeepsList n m list
reached-keeps n m reached list keeps ends = grind (arith, no_value, end-keeps n m)

-- the list that a text stands for
pub list-read : (n m : ℕ) (text : List ℕ) (list : PlainEars) → Stands (ear_format n m) text list → KeepsList n m list
list-read n m text list stands = reached-keeps n m stands.reached list (all-keep n m _ stands.reached stands.begins) stands.ends

-- and of what a reader returned
pub fits-read : {X Fault : Type 0} (n m : ℕ) (text : List ℕ) (view : X → PlainEars) (result : Result X Fault) → IfOk result (λ x. Stands (ear_format n m) text (view x)) → IfOk result (λ x. FitsEars n m (view x))
fits-read n m text view (Ok x) stands = (list-read n m text (view x) stands).0
fits-read n m text view (Err fault) stands = tt

pub filled-read : {X Fault : Type 0} (n m : ℕ) (text : List ℕ) (view : X → PlainEars) (result : Result X Fault) → IfOk result (λ x. Stands (ear_format n m) text (view x)) → IfOk result (λ x. AllByRecursion HasEdges (view x).steps)
filled-read n m text view (Ok x) stands = (list-read n m text (view x) stands).1
filled-read n m text view (Err fault) stands = tt
