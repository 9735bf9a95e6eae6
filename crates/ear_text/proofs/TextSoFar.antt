-- The lines of an ear, of a step and of an ear list. Idea: the text written so far is always a list
-- of complete lines, and appending the line of an ear makes a longer such list.
use Rattle.ear_core.proofs.from_counting.Common.{◌≡◌, ℕ, List, [], ◌∷◌, ◌++◌, codes, length, map, sym, ◌∙◌, ap, append_assoc, arith, decimal, append-nil}
use Rattle.graph_core.specs.from_line_text.Common.{written}
use Rattle.graph_core.proofs.from_line_text.WrittenLines.{spaced, unwords-spaced, written-append}
use Rattle.ear_core.specs.Common.{PlainEar, PlainStep, two, PlainEars}
use Rattle.ear_text.specs.Writing.{ear_words, header_words, start_words, step_words, ears_text}

-- the line of an ear is whole when no edge is left
pub ear_text-line : (old text new keyword edges rest : List ℕ) (v : ℕ) → length rest ≡ 0 → old ++ (keyword ++ spaced (map decimal (v ∷ edges))) ≡ text ++ spaced (map decimal rest) → new ≡ text ++ 10 ∷ [] → new ≡ old ++ written (ear_words keyword (record { begin = v; edges = edges }) ∷ [])
ear_text-line old text new keyword edges (e ∷ rest) v none same is = absurd (omega arith)
ear_text-line old text new keyword edges [] v none same is = grind (arith, append-nil text, unwords-spaced keyword (map decimal (v ∷ edges)), append_assoc old)

-- the lines of two ears, one after the other
pub pair_lines : (old first second : List ℕ) (a b : PlainEar) → first ≡ old ++ written (ear_words (codes "ear") a ∷ []) → second ≡ first ++ written (ear_words (codes "with") b ∷ []) → second ≡ old ++ written (step_words (two a b ∷ []))
pair_lines old first second a b is_first is_second = grind (arith, append_assoc, written-append)

-- the bytes of the first two lines
abbrev pub first_lines : ℕ → ℕ → ℕ → List ℕ
first_lines n m e = codes "r mcg " ++ (decimal n ++ 32 ∷ (decimal m ++ 10 ∷ (codes "start " ++ (decimal e ++ 10 ∷ []))))

first_lines-written : (n m e : ℕ) → first_lines n m e ≡ written (header_words n m ∷ start_words e ∷ [])
first_lines-written n m e = ap (λ text. codes "r mcg " ++ text) (sym (append_assoc (decimal n) (32 ∷ decimal m) (10 ∷ (codes "start " ++ (decimal e ++ 10 ∷ [])))))

-- the first two lines, and the lines of the steps
pub ears_text-lines : (n m : ℕ) (list : PlainEars) (steps : List PlainStep) (head text : List ℕ) → steps ≡ list.steps → head ≡ first_lines n m list.start → text ≡ head ++ written (step_words steps) → text ≡ ears_text n m list
unfolding ears_text
ears_text-lines n m list steps head text same is_head is_text =
    is_text ∙ ap (λ all. head ++ written (step_words all)) same ∙ ap (λ h. h ++ written (step_words list.steps)) (is_head ∙ first_lines-written n m list.start)
    ∙ sym (written-append (header_words n m ∷ start_words list.start ∷ []) (step_words list.steps))
