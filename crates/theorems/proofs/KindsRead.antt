-- The line `kind` of a report of `analyse` on a matching covered graph is read back as the kind and
-- the shore that it gives. The lines before it are written words and begin with another one, so they
-- are passed over.
use Rattle.std.proofs.Common.{◌≡◌, ℕ, ◌<◌, ◌≤◌, ◌^◌, Bool, true, false, cond, List, [], ◌∷◌, ◌++◌, length, map, find, Option, Some, None, option_map, All, IfSome, refl, sym, ap, ◌∙◌, arith, subst, append_assoc, append-nil, codes, decimal}
use Rattle.tree_check.proofs.from_counting.Common.{AllByRecursion, All-head, All-map, All-tail, length-map, length-rising_list, count_le, mem-within, rising_list-rises, IsRisingIn, mem, rising_list, rising_pairs}
use Rattle.barrier_kit.proofs.Common.{all_rising, pairs_rise}
use Rattle.graph_core.proofs.Common.{classes, cut_pair, equivalent_pair, is_equivalent, is_least_of_class, pair_of, Graph, IsCovered, IsGraph}
use Rattle.graph_core.proofs.from_line_text.Decimals.{is_word-decimal}
use Rattle.graph_core.proofs.from_line_text.ReadBack.{is_closed-unlines, lines_of-append, lines_of-written}
use Rattle.graph_core.proofs.from_line_text.WrittenLines.{unwords-spaced}
use Rattle.graph_core.specs.declared.ends.Ends.{Ends}
use Rattle.graph_core.specs.declared.verdict.Kind.{Kind}
use Rattle.graph_core.specs.declared.verdict.Kind.TheVariants.{Brace, Brick, Composite}
use Rattle.graph_core.specs.declared.verdict.Verdict.{Verdict}
use Rattle.graph_core.specs.declared.verdict.Verdict.TheVariants.{Covered, NotCovered}
use Rattle.graph_core.specs.from_line_text.Common.{AreWords, begin_with, is_word, lines_of, unwords, written}
use Rattle.tree_check.proofs.from_tight_cuts.Completeness.{candidates_found}
use Rattle.tree_check.specs.from_tight_cuts.Common.{Candidate, IsTightCandidate, candidates, first_shore}
use Rattle.report_text.specs.Common.{analysis_text, bicritical_line, class_line, class_lines, classes_lines, cut_pair_line, kind_word, leaf_kind_line, list_line, numbers_told, pair_line, shore_of, structure_text, verdict_lines, verdict_text, with_names_text, with_structure, with_three_sets}
use Rattle.report_text.specs.declared.analyses.AnalysisLines.{AnalysisLines}
use Rattle.report_text.specs.declared.structures.Structure.{Structure}
use Rattle.bench_top.specs.from_bench_outcomes.Common.{IsAnalysis, IsStructure, TellsStructure, with_given_names}
use Rattle.bench_top.specs.from_leaf_kinds.LeafKinds.{cut_of}
use Rattle.bench_top.proofs.ReadGraphs.{IsRead}
use Rattle.theorems.proofs.SetsRead.{count-written, decimal-words, decimals-read, first-words, first_lines, list-written, past, sets-written, take_line}
use Rattle.theorems.specs.Outcomes.{SaysKind, words_behind}

-- what is found in a list has what all its items have
found-has : {X : Type 0} (p : X → Bool) (P : X → Type 0) (xs : List X) → All P xs → IfSome (find p xs) P
found-has p P [] all = tt
found-has p P (x ∷ xs) all = go (p x) (found-has p P xs (All-tail P x xs all))
  where
    go : (b : Bool) → IfSome (find p xs) P → IfSome (cond b (Some x) (find p xs)) P
    go true later = All-head P x xs all
    go false later = later

-- two numbers of at most that size
abbrev ArePair : ℕ → ℕ × ℕ → Type 0
ArePair n k = (k.0 ≤ n) × (k.1 ≤ n)

pair-small : (n : ℕ) (p : ℕ × ℕ → Bool) (o : Option Ends) → option_map pair_of o ≡ find p (rising_pairs n) → IfSome (option_map pair_of o) (ArePair n)
pair-small n p o e = subst (λ (k : Option (ℕ × ℕ)). IfSome k (ArePair n)) (sym e) (found-has p (ArePair n) (rising_pairs n) (λ i d l. let w = pairs_rise n i d l in (w.0.1, w.1.1)))

-- the shore of the first candidate
first-rises : (g : Graph) (list : List Candidate) → All (IsTightCandidate g) list → IfSome (first_shore list) (IsRisingIn g.order)
first-rises g [] all = tt
first-rises g (c ∷ list) all = let first : IsTightCandidate g c = All-head (IsTightCandidate g) c list all in first.rising

few : (n : ℕ) → n ≤ 2048 → n < 10 ^ 9
few n l = omega arith

abbrev kind : List ℕ
kind = codes "kind"

-- no line of the text begins with the word `kind`
abbrev Skips : List ℕ → Type 0
Skips text = (tail : List ℕ) → words_behind kind (lines_of (text ++ tail)) ≡ words_behind kind (lines_of tail)

lines-after : (lines : List (List (List ℕ))) (tail : List ℕ) → AllByRecursion AreWords lines → lines_of (written lines ++ tail) ≡ map unwords lines ++ lines_of tail
lines-after lines tail are = lines_of-append (written lines) tail (is_closed-unlines (map unwords lines)) ∙ ap (λ ls. ls ++ lines_of tail) (lines_of-written lines are)

skip-lines : (text : List ℕ) (lines : List (List (List ℕ))) → text ≡ written lines → AllByRecursion AreWords lines → AllByRecursion (λ words. begin_with words (kind ∷ []) ≡ false) lines → Skips text
skip-lines text lines e are others tail = ap (λ t. words_behind kind (lines_of (t ++ tail))) e ∙ ap (words_behind kind) (lines-after lines tail are) ∙ past kind lines (lines_of tail) are others

skip-both : (a b : List ℕ) → Skips a → Skips b → Skips (a ++ b)
skip-both a b sa sb tail = ap (λ t. words_behind kind (lines_of t)) (append_assoc a b tail) ∙ sa (b ++ tail) ∙ sb tail

skip-list : (word xs : List ℕ) → is_word word ≡ true → ((v : ℕ) → mem xs v ≡ true → v ≤ 2048) → begin_with (word ∷ map decimal xs) (kind ∷ []) ≡ false → Skips (list_line word xs)
skip-list word xs is small other = skip-lines (list_line word xs) ((word ∷ map decimal xs) ∷ []) (list-written word xs) ((is, decimal-words 2048 (few 2048 (omega arith)) xs small), tt) (other, tt)

pair-written : (word : List ℕ) (e : Ends) → pair_line word e ≡ written ((word ∷ decimal e.a ∷ decimal e.b ∷ []) ∷ [])
pair-written word e = ap (λ text. text ++ codes "\n")
    (append_assoc ((word ++ codes " ") ++ decimal e.a) (codes " ") (decimal e.b) ∙ append_assoc (word ++ codes " ") (decimal e.a) (32 ∷ decimal e.b) ∙ append_assoc word (codes " ") (decimal e.a ++ 32 ∷ decimal e.b))

ends-words : (e : Ends) → ArePair 2048 (pair_of e) → AreWords (decimal e.a ∷ decimal e.b ∷ [])
ends-words e small = (is_word-decimal e.a (few e.a small.0), (is_word-decimal e.b (few e.b small.1), tt))

skip-bicritical : (o : Option Ends) → IfSome (option_map pair_of o) (ArePair 2048) → Skips (bicritical_line o)
skip-bicritical None small = skip-lines (bicritical_line None) ((codes "bicritical" ∷ codes "yes" ∷ []) ∷ []) refl ((refl, (refl, tt)), tt) (refl, tt)
skip-bicritical (Some e) small = skip-lines (bicritical_line (Some e)) ((codes "bicritical" ∷ codes "no" ∷ decimal e.a ∷ decimal e.b ∷ []) ∷ []) (pair-written (codes "bicritical no") e) ((refl, (refl, ends-words e small)), tt) (refl, tt)

skip-cut_pair : (o : Option Ends) → IfSome (option_map pair_of o) (ArePair 2048) → Skips (cut_pair_line o)
skip-cut_pair None small = skip-lines (cut_pair_line None) ((codes "cutpair" ∷ codes "none" ∷ []) ∷ []) refl ((refl, (refl, tt)), tt) (refl, tt)
skip-cut_pair (Some e) small = skip-lines (cut_pair_line (Some e)) ((codes "cutpair" ∷ decimal e.a ∷ decimal e.b ∷ []) ∷ []) (pair-written (codes "cutpair") e) ((refl, ends-words e small), tt) (refl, tt)

-- the numbers of a class
abbrev AreFew : List ℕ → Type 0
AreFew xs = (v : ℕ) → mem xs v ≡ true → v ≤ 2048

skip-classes : (classes : List (List ℕ)) → All AreFew classes → Skips (class_lines classes)
skip-classes [] small = λ tail. refl
skip-classes (c ∷ cs) small = skip-both (class_line c) (class_lines cs) (skip-list (codes "class") c refl (All-head AreFew c cs small) refl) (skip-classes cs (All-tail AreFew c cs small))

-- the line of the kind
kind-written : (k : Kind) → leaf_kind_line k ≡ written ((kind ∷ kind_word k ∷ map decimal (shore_of k)) ∷ [])
kind-written Brace = refl
kind-written Brick = refl
kind-written (Composite x) = list-written (codes "kind composite") x ∙ ap (λ text. text ++ codes "\n") (unwords-spaced (codes "kind composite") (map decimal x) ∙ sym (unwords-spaced kind (codes "composite" ∷ map decimal x)))

kind-is_word : (k : Kind) → is_word (kind_word k) ≡ true
kind-is_word Brace = refl
kind-is_word Brick = refl
kind-is_word (Composite x) = refl

kind-found : (k : Kind) → AreFew (shore_of k) → (tail : List ℕ) → words_behind kind (lines_of (leaf_kind_line k ++ tail)) ≡ Some (kind_word k ∷ map decimal (shore_of k))
kind-found k small tail =
    let words = kind ∷ kind_word k ∷ map decimal (shore_of k) in
    let are : AreWords words = (refl, (kind-is_word k, decimal-words 2048 (few 2048 (omega arith)) (shore_of k) small)) in
    ap (λ t. words_behind kind (lines_of (t ++ tail))) (kind-written k) ∙ ap (words_behind kind) (lines-after (words ∷ []) tail (are, tt)) ∙ take_line kind words (lines_of tail) are refl

-- names may follow
named-tail : (text : List ℕ) (names : Option (List (List ℕ))) → (tail : List ℕ) × (with_given_names text names false ≡ text ++ tail)
unfolding with_names_text
named-tail text None = ([], sym (append-nil text))
named-tail text (Some names) = (_, refl)

covered-verdict : (g : Graph) (v : Verdict) (o : Option Structure) (s : Structure) → o ≡ Some s → TellsStructure g v o → v ≡ Covered
covered-verdict g Covered o s e told = refl
covered-verdict g (NotCovered reason) None s e told = absurd cc
covered-verdict g (NotCovered reason) (Some other) s e told = absurd told

module _ (g : Graph) (read : IsRead g) (is : IsGraph g) (cov : IsCovered g) (lines : AnalysisLines) (right : IsAnalysis g lines) (names : Option (List (List ℕ))) (output : List ℕ) (told : output ≡ with_given_names (analysis_text lines) names false)
    (s : Structure) (is_told : lines.structure ≡ Some s) (structure : IsStructure g s) where
  wider : (n : ℕ) → n ≤ g.order → n ≤ 2048
  wider n l = let v = read.vertices in omega arith

  wider-pair : (o : Option Ends) → IfSome (option_map pair_of o) (ArePair g.order) → IfSome (option_map pair_of o) (ArePair 2048)
  wider-pair None small = tt
  wider-pair (Some e) small = (wider e.a small.0, wider e.b small.1)

  classes-few : All AreFew s.classes
  unfolding classes
  classes-few = subst (λ (cs : List (List ℕ)). All AreFew cs) (sym structure.partition)
      (All-map AreFew (λ a. rising_list g.order (is_equivalent g a)) (rising_list g.order (is_least_of_class g))
      (all_rising g.order (is_least_of_class g) (λ a. AreFew (rising_list g.order (is_equivalent g a))) (λ a wa t v i. wider v (mem-within g.order (rising_list g.order (is_equivalent g a)) (rising_list-rises g.order (is_equivalent g a)) v i).1)))

  classes-counted : length s.classes ≤ 2048
  unfolding classes
  classes-counted =
      let e = ap length structure.partition in
      let m = length-map (rising_list g.order (is_least_of_class g)) (λ a. rising_list g.order (is_equivalent g a)) in
      let r = length-rising_list g.order (is_least_of_class g) in
      let c = count_le g.order (is_least_of_class g) in wider (length s.classes) (omega arith)

  shore-few : AreFew (shore_of s.kind)
  shore-few = of_kind s.kind (subst (λ (o : Option (List ℕ)). IfSome o (IsRisingIn g.order)) (sym structure.cut) (first-rises g (candidates g) (candidates_found g is cov)))
    where
      of_kind : (k : Kind) → IfSome (cut_of k) (IsRisingIn g.order) → AreFew (shore_of k)
      of_kind Brace rises v i = absurd cc
      of_kind Brick rises v i = absurd cc
      of_kind (Composite x) rises v i = wider v (mem-within g.order x rises v i).1

  skip-three : Skips (with_three_sets (numbers_told lines) lines)
  skip-three = skip-lines (with_three_sets (numbers_told lines) lines) (first_lines lines) (sets-written lines) (first-words g read lines right names output told) (refl, (refl, (refl, (refl, (refl, (refl, (refl, (refl, tt))))))))

  skip-allowed : Skips (list_line (codes "allowed") lines.allowed)
  skip-allowed = skip-list (codes "allowed") lines.allowed refl (λ v i. let a = right.allowed in let w = mem-within _ lines.allowed a.rising v i in let n = read.edges in omega arith) refl

  skip-verdict : Skips (verdict_text lines.verdict)
  unfolding verdict_text
  skip-verdict = subst (λ (v : Verdict). Skips (verdict_text v)) (sym (covered-verdict g lines.verdict lines.structure s is_told right.structure)) (skip-lines (codes "covered yes\n") ((codes "covered" ∷ codes "yes" ∷ []) ∷ []) refl ((refl, (refl, tt)), tt) (refl, tt))

  skip-first : Skips (verdict_lines lines)
  unfolding verdict_lines
  skip-first = skip-both (with_three_sets (numbers_told lines) lines ++ list_line (codes "allowed") lines.allowed) (verdict_text lines.verdict) (skip-both (with_three_sets (numbers_told lines) lines) (list_line (codes "allowed") lines.allowed) skip-three skip-allowed) skip-verdict

  -- the lines on the structure but the last
  abbrev before : List ℕ
  before = (classes_lines s.classes ++ bicritical_line s.unlike) ++ cut_pair_line s.cutpair

  skip-before : Skips before
  unfolding equivalent_pair cut_pair
  skip-before = skip-both (classes_lines s.classes ++ bicritical_line s.unlike) (cut_pair_line s.cutpair)
      (skip-both (classes_lines s.classes) (bicritical_line s.unlike)
      (skip-both (codes "classes " ++ decimal (length s.classes) ++ codes "\n") (class_lines s.classes)
      (skip-lines (codes "classes " ++ decimal (length s.classes) ++ codes "\n") ((codes "classes" ∷ decimal (length s.classes) ∷ []) ∷ []) (count-written (codes "classes") (length s.classes)) ((refl, (is_word-decimal (length s.classes) (few (length s.classes) classes-counted), tt)), tt) (refl, tt))
      (skip-classes s.classes classes-few))
      (skip-bicritical s.unlike (wider-pair s.unlike (pair-small g.order _ s.unlike structure.equivalent))))
      (skip-cut_pair s.cutpair (wider-pair s.cutpair (pair-small g.order _ s.cutpair structure.separates)))

  tail : List ℕ
  tail = (named-tail (analysis_text lines) names).0

  whole : output ≡ verdict_lines lines ++ (before ++ (leaf_kind_line s.kind ++ tail))
  unfolding analysis_text structure_text tail
  whole = told ∙ (named-tail (analysis_text lines) names).1 ∙ ap (λ o. with_structure (verdict_lines lines) o ++ tail) is_told ∙ append_assoc (verdict_lines lines) (structure_text s) tail ∙ ap (λ t. verdict_lines lines ++ t) (append_assoc before (leaf_kind_line s.kind) tail)

  pub kind-read : SaysKind output s.kind
  kind-read = record {
    numbers = map decimal (shore_of s.kind);
    line = ap (λ t. words_behind kind (lines_of t)) whole ∙ skip-first (before ++ (leaf_kind_line s.kind ++ tail)) ∙ skip-before (leaf_kind_line s.kind ++ tail) ∙ kind-found s.kind shore-few tail;
    read = decimals-read 2048 (few 2048 (omega arith)) (shore_of s.kind) shore-few;
  }
