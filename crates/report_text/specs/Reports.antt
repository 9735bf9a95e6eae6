-- The lines of the reports as functions of the values in them; the report of `analyse` is in
-- Analyses.antt.
-- Stated by: report_text, mcg6_lines. Used by: bench_outcomes, bench_reports, bench_top, theorems.
use Rattle.std.specs.Prelude.{ℕ, zero, suc, List, [], ◌∷◌, ◌++◌, length, slice_index_or, Bool, if◌then◌else◌, codes, decimal}
use Rattle.graph_core.specs.declared.verdict.Reason.{Reason}
use Rattle.graph_core.specs.declared.verdict.Reason.TheVariants.{Small, Parted, Unmatched, Unallowed}
use Rattle.graph_core.specs.declared.verdict.Verdict.{Verdict}
use Rattle.graph_core.specs.declared.verdict.Verdict.TheVariants.{Covered, NotCovered}
use Rattle.report_text.specs.Words.{reason_word, yes_or_no}

-- the line with the number of vertices and of edges
abbrev pub size_line : ℕ → ℕ → List ℕ
size_line order size = codes "graph " ++ decimal order ++ codes " " ++ decimal size ++ codes "\n"

-- a line of a word and a number
abbrev pub count_line : List ℕ → ℕ → List ℕ
count_line word count = word ++ codes " " ++ decimal count ++ codes "\n"

-- the line with the number of components
abbrev pub components_line : ℕ → List ℕ
components_line count = count_line (codes "components") count

-- the line that says whether the graph is bipartite
abbrev pub bipartite_line : Bool → List ℕ
bipartite_line holds = codes "bipartite " ++ yes_or_no holds ++ codes "\n"

-- one space before each number of the list
abbrev pub numbers_text : List ℕ → List ℕ
numbers_text [] = []
numbers_text (n ∷ ns) = codes " " ++ (decimal n ++ numbers_text ns)

-- a line of a word and a list of numbers
abbrev pub list_line : List ℕ → List ℕ → List ℕ
list_line word ns = word ++ (numbers_text ns ++ codes "\n")

-- the numbers that show a reason: two vertices in different components, a Berge set, or an edge
abbrev pub reason_numbers : Reason → List ℕ
reason_numbers Small = []
reason_numbers (Parted a b) = a ∷ b ∷ []
reason_numbers (Unmatched berge) = berge
reason_numbers (Unallowed edge) = edge ∷ []

-- what a reason adds to the line of a graph that is not covered
abbrev pub reason_text : Reason → List ℕ
reason_text reason = codes " " ++ reason_word reason ++ numbers_text (reason_numbers reason)

-- the line of the verdict
unfoldable pub verdict_text : Verdict → List ℕ
verdict_text Covered = codes "covered yes\n"
verdict_text (NotCovered reason) = codes "covered no" ++ reason_text reason ++ codes "\n"

-- the line with the number of edges of a maximum matching
abbrev pub matching_line : ℕ → List ℕ
matching_line edges = count_line (codes "matching") edges

-- the line with the number of vertices that a maximum matching misses
abbrev pub deficiency_line : ℕ → List ℕ
deficiency_line missed = count_line (codes "deficiency") missed

-- the report of a file that is outside its format: its place among the named files, the line and
-- the kind of the error
unfoldable pub bad_input_text : (file line kind : ℕ) → List ℕ
bad_input_text file line kind = codes "file " ++ decimal file ++ codes " line " ++ decimal line ++ codes " kind " ++ decimal kind ++ codes "\n"

-- the line that names a vertex, which may be a comment
abbrev pub name_line : (comments : Bool) (vertex : ℕ) → List ℕ → List ℕ
name_line comments vertex name =
    (if comments then codes "c " else []) ++ codes "name " ++ decimal vertex ++ codes " " ++ name ++ codes "\n"

-- the lines that name the first vertices, so many
abbrev pub name_lines : (comments : Bool) → List (List ℕ) → ℕ → List ℕ
name_lines comments names zero = []
name_lines comments names (suc k) = name_lines comments names k ++ name_line comments (suc k) (slice_index_or names k [])

-- a report and then a line for each name, in order
unfoldable pub with_names_text : (report : List ℕ) → List (List ℕ) → (comments : Bool) → List ℕ
with_names_text report names comments = report ++ name_lines comments names (length names)

-- a report and then the line of a graph6 text
abbrev pub graph6_line : (report text : List ℕ) → List ℕ
graph6_line report text = report ++ codes "graph6 " ++ text ++ codes "\n"
