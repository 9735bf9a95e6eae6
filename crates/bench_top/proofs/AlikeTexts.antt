-- Two texts that differ at most in one list of numbers, between texts that are the same.
-- Idea: what is put in front of both, or after both, goes to the text before the two lists, or
-- after them.
use Rattle.move_text.proofs.from_counting.Common.{◌≡◌, ℕ, List, [], ◌++◌, length, false, inr, sym, append_assoc, arith, append-nil}
use Rattle.mcg6_lines.specs.from_report_text.Common.{graph6_line, name_lines, numbers_text, with_names_text}
use Rattle.bench_top.specs.Fixed.{DifferAtMostIn}

-- with no right list the texts are one
pub alike-none : (fact : List ℕ → Type 0) (a b : List ℕ) → ((numbers : List ℕ) → fact numbers → ⊥) → DifferAtMostIn fact a b → a ≡ b
alike-none fact a b none h = grind arith

-- a weaker fact
pub alike-wider : (fact other : List ℕ → Type 0) (a b : List ℕ) → ((numbers : List ℕ) → fact numbers → other numbers) → DifferAtMostIn fact a b → DifferAtMostIn other a b
alike-wider fact other a b wider h = grind arith

-- texts that are equal to such
pub alike-along : (fact : List ℕ → Type 0) (a b x y : List ℕ) → a ≡ x → b ≡ y → DifferAtMostIn fact x y → DifferAtMostIn fact a b
alike-along fact a b x y e f h = grind arith

-- one text more in front of both, or after both
pub alike-behind : (fact : List ℕ → Type 0) (text a b : List ℕ) → DifferAtMostIn fact a b → DifferAtMostIn fact (text ++ a) (text ++ b)
alike-behind fact text a b h = grind (arith, append_assoc text)

pub alike-before : (fact : List ℕ → Type 0) (text a b : List ℕ) → DifferAtMostIn fact a b → DifferAtMostIn fact (a ++ text) (b ++ text)
alike-before fact text a b h = grind (arith, append_assoc)

-- the two lists themselves
pub alike-lists : (fact : List ℕ → Type 0) (first second : List ℕ) → fact first → fact second → DifferAtMostIn fact (numbers_text first) (numbers_text second)
alike-lists fact first second is_first is_second = inr (record {
  before = [];
  after = [];
  first = first;
  second = second;
  is_first = is_first;
  is_second = is_second;
  output_is = sym (append-nil (numbers_text first));
  other_is = sym (append-nil (numbers_text second));
})

-- a report with names after it, and one with the line of a graph6 text
pub named-alike : (fact : List ℕ → Type 0) (names : List (List ℕ)) (a b : List ℕ) → DifferAtMostIn fact a b → DifferAtMostIn fact (with_names_text a names false) (with_names_text b names false)
unfolding with_names_text
named-alike fact names a b alike = alike-before fact (name_lines false names (length names)) a b alike

pub graph6-alike : (fact : List ℕ → Type 0) (text a b : List ℕ) → DifferAtMostIn fact a b → DifferAtMostIn fact (graph6_line a text) (graph6_line b text)
graph6-alike fact text a b alike = grind (arith, alike-before)
