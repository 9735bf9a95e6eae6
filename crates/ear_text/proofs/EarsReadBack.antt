-- The text written for an ear list is read as this list. Line by line the tests of the table pass,
-- since the numbers are in range and no ear is empty; the pending ear goes to the steps with the
-- next line, or at the end.
use Rattle.ear_core.proofs.from_counting.Common.{◌≡◌, ◌<◌, ◌^◌, ◌++◌, codes, ℕ, List, [], ◌∷◌, All, length, map, true, false, Option, Some, None, Ok, refl, sym, ◌∙◌, ap, subst, arith, append_assoc, decimal, AllByRecursion, list_all, length-map, append-nil, nat_tests, Within}
use Rattle.graph_core.specs.from_line_text.Common.{Begins, Stands, has_form, IsSignificant, is_number, value_of}
use Rattle.graph_core.proofs.from_line_text.Decimals.{number_of-decimal, is_word-decimal, value-decimal, number-decimal, values-decimal, numbers-decimal, words-decimal}
use Rattle.graph_core.proofs.from_line_text.InRange.{in_range-test, in_range-tests, few-digits}
use Rattle.graph_core.proofs.from_line_text.ReadBack.{Stands-written}
use Rattle.ear_core.specs.Common.{PlainEar, PlainStep, one, two, PlainEars, FitsEar, FitsStep, HasEdges}
use Rattle.ear_text.specs.EarFormat.{EarsSoFar, headed, started, ear_format, is_ear_line, is_with_line, closed, ears_end}
use Rattle.ear_text.specs.Writing.{header_words, start_words, ear_words, step_words, ears_text, IsWritable}

-- the header line
header-taken : (n m : ℕ) → n < 10 ^ 9 → m < 10 ^ 9 → (ear_format n m).header (header_words n m) ≡ Ok headed
unfolding has_form
header-taken n m order size = rw (number_of-decimal n order, number_of-decimal m size) (grind (arith, nat_tests))

-- the line of the first stage
start-taken : (n m e : ℕ) → m < 10 ^ 9 → Within m e → (ear_format n m).line headed (start_words e) ≡ Ok (started e [] None)
unfolding has_form
start-taken n m e size within = grind (arith, number_of-decimal e, in_range-test m e within, nat_tests)

-- which line it is
is-ear : (word : List ℕ) (words : List (List ℕ)) → 0 < length words → is_ear_line (codes "ear" ∷ word ∷ words) ≡ true
unfolding has_form
is-ear word words some = grind arith

is-with : (word : List ℕ) (words : List (List ℕ)) → 0 < length words → is_with_line (codes "with" ∷ word ∷ words) ≡ true
unfolding has_form
is-with word words some = grind arith

not-ear : (word : List ℕ) (words : List (List ℕ)) → is_ear_line (codes "with" ∷ word ∷ words) ≡ false
unfolding has_form
not-ear word words = grind arith

-- the line of the first ear of a step
ear-taken : (n m start : ℕ) (steps : List PlainStep) (last : Option PlainEar) (a : PlainEar) → n < 10 ^ 9 → m < 10 ^ 9 → FitsEar n m a → 0 < length a.edges → (ear_format n m).line (started start steps last) (ear_words (codes "ear") a) ≡ Ok (started start (closed steps last) (Some a))
ear-taken n m start steps last a order size fits some =
    taken (map decimal a.edges) (is-ear (decimal a.begin) (map decimal a.edges) (subst (λ k. 0 < k) (sym (length-map a.edges decimal)) some)) (value-decimal a.begin small) (number-decimal a.begin small) (values-decimal a.edges edges) (numbers-decimal a.edges edges)
  where
    small : a.begin < 10 ^ 9
    small = let high = fits.0.1 in omega arith

    edges : All (λ v. v < 10 ^ 9) a.edges
    edges = few-digits m a.edges size fits.1

    taken : (words : List (List ℕ)) → is_ear_line (codes "ear" ∷ decimal a.begin ∷ words) ≡ true → value_of (decimal a.begin) ≡ a.begin → is_number (decimal a.begin) ≡ true → map value_of words ≡ a.edges → list_all is_number words ≡ true → (ear_format n m).line (started start steps last) (codes "ear" ∷ decimal a.begin ∷ words) ≡ Ok (started start (closed steps last) (Some a))
    taken words is value number values numbers = rw (is, value, number, values, numbers, in_range-test n a.begin fits.0, in_range-tests m a.edges fits.1) refl

-- the line of the second ear
with-taken : (n m start : ℕ) (steps : List PlainStep) (a b : PlainEar) → n < 10 ^ 9 → m < 10 ^ 9 → FitsEar n m b → 0 < length b.edges → (ear_format n m).line (started start steps (Some a)) (ear_words (codes "with") b) ≡ Ok (started start (steps ++ two a b ∷ []) None)
with-taken n m start steps a b order size fits some =
    taken (map decimal b.edges) (not-ear (decimal b.begin) (map decimal b.edges)) (is-with (decimal b.begin) (map decimal b.edges) (subst (λ k. 0 < k) (sym (length-map b.edges decimal)) some)) (value-decimal b.begin small) (number-decimal b.begin small) (values-decimal b.edges edges) (numbers-decimal b.edges edges)
  where
    small : b.begin < 10 ^ 9
    small = let high = fits.0.1 in omega arith

    edges : All (λ v. v < 10 ^ 9) b.edges
    edges = few-digits m b.edges size fits.1

    taken : (words : List (List ℕ)) → is_ear_line (codes "with" ∷ decimal b.begin ∷ words) ≡ false → is_with_line (codes "with" ∷ decimal b.begin ∷ words) ≡ true → value_of (decimal b.begin) ≡ b.begin → is_number (decimal b.begin) ≡ true → map value_of words ≡ b.edges → list_all is_number words ≡ true → (ear_format n m).line (started start steps (Some a)) (codes "with" ∷ decimal b.begin ∷ words) ≡ Ok (started start (steps ++ two a b ∷ []) None)
    taken words other is value number values numbers = rw (other, is, value, number, values, numbers, in_range-test n b.begin fits.0, in_range-tests m b.edges fits.1) refl

-- what the lines of steps lead to
abbrev after : ℕ → List PlainStep → Option PlainEar → List PlainStep → EarsSoFar
after start before last [] = started start before last
after start before last (one a ∷ steps) = after start (closed before last) (Some a) steps
after start before last (two a b ∷ steps) = after start (closed before last ++ two a b ∷ []) None steps

steps-taken : (n m start : ℕ) (before : List PlainStep) (last : Option PlainEar) (steps : List PlainStep) → n < 10 ^ 9 → m < 10 ^ 9 → AllByRecursion (FitsStep n m) steps → AllByRecursion HasEdges steps → Begins (ear_format n m) (Some (started start before last)) (step_words steps) (Some (after start before last steps))
steps-taken n m start before last [] order size fits some = refl
steps-taken n m start before last (one a ∷ steps) order size fits some = (
  started start (closed before last) (Some a),
  ear-taken n m start before last a order size fits.0 some.0,
  steps-taken n m start (closed before last) (Some a) steps order size fits.1 some.1,
)
steps-taken n m start before last (two a b ∷ steps) order size fits some =
    let ears = fits.0 in let filled = some.0 in (
      started start (closed before last) (Some a),
      ear-taken n m start before last a order size ears.0 filled.0,
      (started start (closed before last ++ two a b ∷ []) None, with-taken n m start (closed before last) a b order size ears.1 filled.1, steps-taken n m start (closed before last ++ two a b ∷ []) None steps order size fits.1 some.1),
    )

-- and what they are at the end
abbrev list_from : ℕ → List PlainStep → PlainEars
list_from start steps = record { start = start; steps = steps }

after-ends : (start : ℕ) (before : List PlainStep) (last : Option PlainEar) (steps : List PlainStep) → ears_end (after start before last steps) ≡ Ok (list_from start (closed before last ++ steps))
after-ends start before last [] = ap (λ all. Ok (list_from start all)) (sym (append-nil (closed before last)))
after-ends start before last (one a ∷ steps) = after-ends start (closed before last) (Some a) steps ∙ ap (λ all. Ok (list_from start all)) (append_assoc (closed before last) (one a ∷ []) steps)
after-ends start before last (two a b ∷ steps) = after-ends start (closed before last ++ two a b ∷ []) None steps ∙ ap (λ all. Ok (list_from start all)) (append_assoc (closed before last) (two a b ∷ []) steps)

-- each line is significant
ear-significant : (n m : ℕ) (a : PlainEar) → n < 10 ^ 9 → m < 10 ^ 9 → FitsEar n m a → IsSignificant (ear_words (codes "ear") a)
ear-significant n m a order size fits = grind (arith, is_word-decimal a.begin, words-decimal a.edges (few-digits m a.edges size fits.1), few-digits m a.edges size fits.1)

with-significant : (n m : ℕ) (a : PlainEar) → n < 10 ^ 9 → m < 10 ^ 9 → FitsEar n m a → IsSignificant (ear_words (codes "with") a)
with-significant n m a order size fits = grind (arith, is_word-decimal a.begin, words-decimal a.edges (few-digits m a.edges size fits.1), few-digits m a.edges size fits.1)

steps-significant : (n m : ℕ) (steps : List PlainStep) → n < 10 ^ 9 → m < 10 ^ 9 → AllByRecursion (FitsStep n m) steps → AllByRecursion IsSignificant (step_words steps)
steps-significant n m [] order size fits = tt
steps-significant n m (one a ∷ steps) order size fits = (ear-significant n m a order size fits.0, steps-significant n m steps order size fits.1)
steps-significant n m (two a b ∷ steps) order size fits = grind (arith, ear-significant n m a order size, with-significant n m b order size, steps-significant n m steps order size fits.1)

-- the text of an ear list stands for it
pub Stands-ears_text : (n m : ℕ) (list : PlainEars) → IsWritable n m list → Stands (ear_format n m) (ears_text n m list) list
unfolding ears_text
Stands-ears_text n m list is =
    let first = is.fits.start.1 in
    let size = is.size in
    Stands-written (ear_format n m) (header_words n m ∷ start_words list.start ∷ step_words list.steps) (Some (after list.start [] None list.steps)) list
    (record { kept = refl; each = (refl, (refl, (is_word-decimal n is.order, (is_word-decimal m is.size, tt)))) }, (record { kept = refl; each = (refl, (is_word-decimal list.start (omega arith), tt)) }, steps-significant n m list.steps is.order is.size is.fits.steps))
    (headed, header-taken n m is.order is.size, (started list.start [] None, start-taken n m list.start is.size is.fits.start, steps-taken n m list.start [] None list.steps is.order is.size is.fits.steps is.filled))
    (after-ends list.start [] None list.steps)
