-- The lines D, A and C of a report of `analyse` are read back as the sets that they list. The first
-- eight lines of the report are written words, so they are cut and read as they were meant, and the
-- words in front differ.
use Rattle.std.proofs.Common.{◌≡◌, ℕ, ◌<◌, ◌≤◌, ◌^◌, ◌==◌, Bool, true, false, cond, List, [], ◌∷◌, ◌++◌, map, drop, Option, Some, None, refl, sym, ap, ◌∙◌, arith, append_assoc, append-nil, eq-eqb, codes, decimal}
use Rattle.tree_check.proofs.from_counting.Common.{AllByRecursion, list_all, and_from, count_le, mem-within, or_left, or_right, Lists, mem, none}
use Rattle.graph_core.proofs.Common.{component_count, missed_count, Graph, InA, InC, InD, size}
use Rattle.graph_core.proofs.from_line_text.Decimals.{is_word-decimal, number-decimal, value-decimal}
use Rattle.graph_core.proofs.from_line_text.ReadBack.{is_closed-unlines, lines_of-append, lines_of-written, words_of-unwords}
use Rattle.graph_core.proofs.from_line_text.WrittenLines.{spaced, unwords-spaced, written-append}
use Rattle.graph_core.specs.from_line_text.Common.{AreWords, begin_with, is_number, is_word, lines_of, numbers_of, unwords, value_of, written}
use Rattle.report_text.specs.Common.{analysis_text, bipartite_line, components_line, count_line, deficiency_line, size_line, graph_lines, list_line, matching_line, numbers_text, numbers_told, verdict_lines, with_names_text, with_structure, with_three_sets}
use Rattle.report_text.specs.declared.analyses.AnalysisLines.{AnalysisLines}
use Rattle.report_text.specs.declared.structures.Structure.{Structure}
use Rattle.bench_top.specs.from_bench_outcomes.Common.{with_given_names, IsAnalysis}
use Rattle.bench_top.proofs.ReadGraphs.{IsRead}
use Rattle.theorems.specs.Outcomes.{ListsSet, words_behind}

-- numbers that are small are words, and are read back
module _ (bound : ℕ) (small : bound < 10 ^ 9) where
  pub decimal-words : (xs : List ℕ) → ((v : ℕ) → mem xs v ≡ true → v ≤ bound) → AreWords (map decimal xs)
  decimal-words [] each = tt
  decimal-words (x ∷ xs) each = (is_word-decimal x (let l = each x (or_left (x == x) (mem xs x) (eq-eqb x x refl)) in omega arith), decimal-words xs (λ v i. each v (or_right (x == v) (mem xs v) i)))

  decimal-numbers : (xs : List ℕ) → ((v : ℕ) → mem xs v ≡ true → v ≤ bound) → list_all is_number (map decimal xs) ≡ true
  decimal-numbers [] each = refl
  decimal-numbers (x ∷ xs) each =
      and_from (is_number (decimal x)) (list_all is_number (map decimal xs))
      (number-decimal x (let l = each x (or_left (x == x) (mem xs x) (eq-eqb x x refl)) in omega arith)) (decimal-numbers xs (λ v i. each v (or_right (x == v) (mem xs v) i)))

  decimal-values : (xs : List ℕ) → ((v : ℕ) → mem xs v ≡ true → v ≤ bound) → map value_of (map decimal xs) ≡ xs
  decimal-values [] each = refl
  decimal-values (x ∷ xs) each =
      let first = value-decimal x (let l = each x (or_left (x == x) (mem xs x) (eq-eqb x x refl)) in omega arith) in
      let others = decimal-values xs (λ v i. each v (or_right (x == v) (mem xs v) i)) in
      ap (λ n. n ∷ map value_of (map decimal xs)) first ∙ ap (λ ns. x ∷ ns) others

  pub decimals-read : (xs : List ℕ) → ((v : ℕ) → mem xs v ≡ true → v ≤ bound) → numbers_of (map decimal xs) ≡ Some xs
  decimals-read xs each = ap (λ b. cond b (Some (map value_of (map decimal xs))) None) (decimal-numbers xs each) ∙ ap (λ ns. Some ns) (decimal-values xs each)

-- lines of the report as written words
abbrev pub yes_word : Bool → List ℕ
yes_word holds = cond holds (codes "yes") (codes "no")

numbers-spaced : (ns : List ℕ) → numbers_text ns ≡ spaced (map decimal ns)
numbers-spaced [] = refl
numbers-spaced (n ∷ ns) = ap (λ text. 32 ∷ (decimal n ++ text)) (numbers-spaced ns)

pub list-written : (word : List ℕ) (ns : List ℕ) → list_line word ns ≡ written ((word ∷ map decimal ns) ∷ [])
list-written word ns = grind (arith, numbers-spaced, append_assoc, spaced, unwords-spaced)

pub count-written : (word : List ℕ) (n : ℕ) → count_line word n ≡ written ((word ∷ decimal n ∷ []) ∷ [])
count-written word n = ap (λ text. text ++ codes "\n") (append_assoc word (codes " ") (decimal n))

graph-written : (n m : ℕ) → size_line n m ≡ written ((codes "graph" ∷ decimal n ∷ decimal m ∷ []) ∷ [])
graph-written n m = ap (λ text. codes "graph " ++ (text ++ codes "\n")) (append_assoc (decimal n) (codes " ") (decimal m))

bipartite-written : (holds : Bool) → bipartite_line holds ≡ written ((codes "bipartite" ∷ yes_word holds ∷ []) ∷ [])
bipartite-written true = refl
bipartite-written false = refl

next-written : (before : List (List (List ℕ))) (words : List (List ℕ)) (text line : List ℕ) → text ≡ written before → line ≡ written (words ∷ []) → text ++ line ≡ written (before ++ words ∷ [])
next-written before words text line first second = ap (λ t. t ++ line) first ∙ ap (λ t. written before ++ t) second ∙ sym (written-append before (words ∷ []))

module _ (lines : AnalysisLines) where
  abbrev pub graph_words : List (List ℕ)
  graph_words = codes "graph" ∷ decimal lines.order ∷ decimal lines.size ∷ []

  abbrev pub components_words : List (List ℕ)
  components_words = codes "components" ∷ decimal lines.components ∷ []

  abbrev pub bipartite_words : List (List ℕ)
  bipartite_words = codes "bipartite" ∷ yes_word lines.bipartite ∷ []

  abbrev pub matching_words : List (List ℕ)
  matching_words = codes "matching" ∷ decimal lines.matching ∷ []

  abbrev pub deficiency_words : List (List ℕ)
  deficiency_words = codes "deficiency" ∷ decimal lines.deficiency ∷ []

  abbrev pub number_lines : List (List (List ℕ))
  number_lines = graph_words ∷ components_words ∷ bipartite_words ∷ matching_words ∷ deficiency_words ∷ []

  abbrev pub d_words : List (List ℕ)
  d_words = codes "D" ∷ map decimal lines.d

  abbrev pub a_words : List (List ℕ)
  a_words = codes "A" ∷ map decimal lines.a

  abbrev pub c_words : List (List ℕ)
  c_words = codes "C" ∷ map decimal lines.c

  abbrev pub first_lines : List (List (List ℕ))
  first_lines = number_lines ++ d_words ∷ a_words ∷ c_words ∷ []

  numbers-written : numbers_told lines ≡ written number_lines
  numbers-written =
      let a = graph-written lines.order lines.size in
      let b = next-written (graph_words ∷ []) components_words (size_line lines.order lines.size) (components_line lines.components) a (count-written (codes "components") lines.components) in
      let c = next-written (graph_words ∷ components_words ∷ []) bipartite_words (size_line lines.order lines.size ++ components_line lines.components) (bipartite_line lines.bipartite) b (bipartite-written lines.bipartite) in
      let d = next-written (graph_words ∷ components_words ∷ bipartite_words ∷ []) matching_words (graph_lines lines) (matching_line lines.matching) c (count-written (codes "matching") lines.matching) in
      next-written (graph_words ∷ components_words ∷ bipartite_words ∷ matching_words ∷ []) deficiency_words (graph_lines lines ++ matching_line lines.matching) (deficiency_line lines.deficiency) d (count-written (codes "deficiency") lines.deficiency)

  pub sets-written : with_three_sets (numbers_told lines) lines ≡ written first_lines
  sets-written =
      let d = next-written number_lines d_words (numbers_told lines) (list_line (codes "D") lines.d) numbers-written (list-written (codes "D") lines.d) in
      let a = next-written (number_lines ++ d_words ∷ []) a_words (numbers_told lines ++ list_line (codes "D") lines.d) (list_line (codes "A") lines.a) d (list-written (codes "A") lines.a) in
      next-written (number_lines ++ d_words ∷ a_words ∷ []) c_words ((numbers_told lines ++ list_line (codes "D") lines.d) ++ list_line (codes "A") lines.a) (list_line (codes "C") lines.c) a (list-written (codes "C") lines.c)

  -- what follows them in the report
  abbrev BeginsSo : List ℕ → Type 0
  BeginsSo text = (tail : List ℕ) × (text ≡ written first_lines ++ tail)

  goes-on : (text more : List ℕ) → BeginsSo text → BeginsSo (text ++ more)
  goes-on text more begins = (begins.0 ++ more, ap (λ t. t ++ more) begins.1 ∙ append_assoc (written first_lines) begins.0 more)

  verdict-begins : BeginsSo (verdict_lines lines)
  unfolding verdict_lines
  verdict-begins =
      goes-on (with_three_sets (numbers_told lines) lines ++ list_line (codes "allowed") lines.allowed) _
      (goes-on (with_three_sets (numbers_told lines) lines) (list_line (codes "allowed") lines.allowed) ([], sets-written ∙ sym (append-nil (written first_lines))))

  structure-begins : (structure : Option Structure) → BeginsSo (with_structure (verdict_lines lines) structure)
  structure-begins None = verdict-begins
  structure-begins (Some structure) = goes-on (verdict_lines lines) _ verdict-begins

  report-begins : BeginsSo (analysis_text lines)
  unfolding analysis_text
  report-begins = structure-begins lines.structure

  names-begin : (names : Option (List (List ℕ))) → BeginsSo (with_given_names (analysis_text lines) names false)
  unfolding with_names_text
  names-begin None = report-begins
  names-begin (Some names) = goes-on (analysis_text lines) _ report-begins

-- a line of other words is passed over, and the line of the word is read
module _ (word : List ℕ) where
  pass : (words : List (List ℕ)) (rest : List (List ℕ)) → AreWords words → begin_with words (word ∷ []) ≡ false → words_behind word (unwords words ∷ rest) ≡ words_behind word rest
  pass words rest are other = grind (arith, words_of-unwords)

  pub past : (lines : List (List (List ℕ))) (rest : List (List ℕ)) → AllByRecursion AreWords lines → AllByRecursion (λ words. begin_with words (word ∷ []) ≡ false) lines → words_behind word (map unwords lines ++ rest) ≡ words_behind word rest
  past [] rest are other = refl
  past (words ∷ lines) rest are other = pass words (map unwords lines ++ rest) are.0 other.0 ∙ past lines rest are.1 other.1

  pub take_line : (words : List (List ℕ)) (rest : List (List ℕ)) → AreWords words → begin_with words (word ∷ []) ≡ true → words_behind word (unwords words ∷ rest) ≡ Some (drop 1 words)
  take_line words rest are this = grind (arith, words_of-unwords)

module _ (g : Graph) (read : IsRead g) (lines : AnalysisLines) (right : IsAnalysis g lines) (names : Option (List (List ℕ))) (output : List ℕ) (told : output ≡ with_given_names (analysis_text lines) names false) where
  few : (n : ℕ) → n ≤ 2048 → n < 10 ^ 9
  few n l = omega arith

  small-vertices : (xs : List ℕ) (P : ℕ → Type 0) → Lists g.order xs P → (v : ℕ) → mem xs v ≡ true → v ≤ 2048
  small-vertices xs P lists v i = let w = mem-within g.order xs lists.rising v i in let n = read.vertices in omega arith

  list-words : (word : List ℕ) → is_word word ≡ true → (xs : List ℕ) (P : ℕ → Type 0) → Lists g.order xs P → AreWords (word ∷ map decimal xs)
  list-words word is xs P lists = (is, decimal-words 2048 (few 2048 (omega arith)) xs (small-vertices xs P lists))

  number-words : (word : List ℕ) → is_word word ≡ true → (n : ℕ) → n ≤ 2048 → AreWords (word ∷ decimal n ∷ [])
  number-words word is n l = (is, (is_word-decimal n (few n l), tt))

  yes-words : (holds : Bool) → AreWords (codes "bipartite" ∷ yes_word holds ∷ [])
  yes-words true = (refl, (refl, tt))
  yes-words false = (refl, (refl, tt))

  small-size : lines.size ≤ 2048
  small-size = let e = right.edges in let n = read.edges in omega arith

  small-order : lines.order ≤ 2048
  small-order = let e = right.order in let n = read.vertices in omega arith

  small-components : lines.components ≤ 2048
  unfolding component_count
  small-components = let e = right.components in let n = read.vertices in let c : component_count g none ≤ g.order = count_le g.order _ in omega arith

  small-matching : lines.matching ≤ 2048
  small-matching = let e = right.maximum.size_is in let n = read.edges in let c = count_le (size g) right.maximum.matching in omega arith

  small-deficiency : lines.deficiency ≤ 2048
  unfolding missed_count
  small-deficiency = let e = right.maximum.misses in let n = read.vertices in let c : missed_count g none right.maximum.matching ≤ g.order = count_le g.order _ in omega arith

  graph-words : AreWords (codes "graph" ∷ decimal lines.order ∷ decimal lines.size ∷ [])
  graph-words = (refl, (is_word-decimal lines.order (few lines.order small-order), (is_word-decimal lines.size (few lines.size small-size), tt)))

  components-words : AreWords (codes "components" ∷ decimal lines.components ∷ [])
  components-words = number-words (codes "components") refl lines.components small-components

  matching-words : AreWords (codes "matching" ∷ decimal lines.matching ∷ [])
  matching-words = number-words (codes "matching") refl lines.matching small-matching

  deficiency-words : AreWords (codes "deficiency" ∷ decimal lines.deficiency ∷ [])
  deficiency-words = number-words (codes "deficiency") refl lines.deficiency small-deficiency

  d-words : AreWords (codes "D" ∷ map decimal lines.d)
  d-words = list-words (codes "D") refl lines.d (InD g) right.d

  a-words : AreWords (codes "A" ∷ map decimal lines.a)
  a-words = list-words (codes "A") refl lines.a (InA g) right.a

  c-words : AreWords (codes "C" ∷ map decimal lines.c)
  c-words = list-words (codes "C") refl lines.c (InC g) right.c

  numbers-words : AllByRecursion AreWords (number_lines lines)
  numbers-words = (graph-words, (components-words, (yes-words lines.bipartite, (matching-words, (deficiency-words, tt)))))

  pub first-words : AllByRecursion AreWords (first_lines lines)
  first-words = (graph-words, (components-words, (yes-words lines.bipartite, (matching-words, (deficiency-words, (d-words, (a-words, (c-words, tt))))))))

  begins : BeginsSo lines output
  begins = let b = names-begin lines names in (b.0, told ∙ b.1)

  tail : List (List ℕ)
  tail = lines_of begins.0

  cut : lines_of output ≡ map unwords (first_lines lines) ++ tail
  unfolding tail
  cut =
      ap lines_of begins.1 ∙ lines_of-append (written (first_lines lines)) begins.0 (is_closed-unlines (map unwords (first_lines lines)))
      ∙ ap (λ ls. ls ++ lines_of begins.0) (lines_of-written (first_lines lines) first-words)

  listed : (word xs : List ℕ) (P : ℕ → Type 0) → Lists g.order xs P → words_behind word (lines_of output) ≡ Some (map decimal xs) → ListsSet g.order output word P
  listed word xs P lists line = record { words = map decimal xs; line = line; numbers = xs; read = decimals-read 2048 (few 2048 (omega arith)) xs (small-vertices xs P lists); lists = lists }

  pub d-read : ListsSet g.order output (codes "D") (InD g)
  d-read =
      let after = unwords (a_words lines) ∷ unwords (c_words lines) ∷ tail in
      listed (codes "D") lines.d (InD g) right.d
      (ap (words_behind (codes "D")) cut ∙ past (codes "D") (number_lines lines) (unwords (d_words lines) ∷ after) numbers-words (refl, (refl, (refl, (refl, (refl, tt))))) ∙ take_line (codes "D") (d_words lines) after d-words refl)

  pub a-read : ListsSet g.order output (codes "A") (InA g)
  a-read =
      let after = unwords (c_words lines) ∷ tail in
      listed (codes "A") lines.a (InA g) right.a
      (ap (words_behind (codes "A")) cut ∙ past (codes "A") (number_lines lines) (unwords (d_words lines) ∷ unwords (a_words lines) ∷ after) numbers-words (refl, (refl, (refl, (refl, (refl, tt)))))
      ∙ pass (codes "A") (d_words lines) (unwords (a_words lines) ∷ after) d-words refl ∙ take_line (codes "A") (a_words lines) after a-words refl)

  pub c-read : ListsSet g.order output (codes "C") (InC g)
  c-read =
      listed (codes "C") lines.c (InC g) right.c
      (ap (words_behind (codes "C")) cut ∙ past (codes "C") (number_lines lines) (unwords (d_words lines) ∷ unwords (a_words lines) ∷ unwords (c_words lines) ∷ tail) numbers-words (refl, (refl, (refl, (refl, (refl, tt)))))
      ∙ pass (codes "C") (d_words lines) (unwords (a_words lines) ∷ unwords (c_words lines) ∷ tail) d-words refl ∙ pass (codes "C") (a_words lines) (unwords (c_words lines) ∷ tail) a-words refl ∙ take_line (codes "C") (c_words lines) tail c-words refl)
