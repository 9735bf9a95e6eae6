-- The lines on the structure of a matching covered graph, as functions of the values in them.
-- Stated by: report_text. Used by: theorems.
use Rattle.std.specs.Prelude.{ℕ, List, [], ◌∷◌, ◌++◌, length, codes, Option, Some, None, decimal}
use Rattle.graph_core.specs.declared.ends.Ends.{Ends}
use Rattle.graph_core.specs.declared.verdict.Kind.{Kind}
use Rattle.graph_core.specs.declared.verdict.Kind.TheVariants.{Brace, Brick, Composite}
use Rattle.report_text.specs.Reports.{list_line}
use Rattle.report_text.specs.Words.{kind_word}
use Rattle.report_text.specs.declared.structures.Structure.{Structure}

-- the line of a class
abbrev pub class_line : List ℕ → List ℕ
class_line class = list_line (codes "class") class

-- the lines of these classes
abbrev pub class_lines : List (List ℕ) → List ℕ
class_lines [] = []
class_lines (class ∷ classes) = class_line class ++ class_lines classes

-- the line with the number of classes, and their lines
abbrev pub classes_lines : List (List ℕ) → List ℕ
classes_lines classes = (codes "classes " ++ decimal (length classes) ++ codes "\n") ++ class_lines classes

-- a line of words and two vertices
abbrev pub pair_line : List ℕ → Ends → List ℕ
pair_line words pair = words ++ codes " " ++ decimal pair.a ++ codes " " ++ decimal pair.b ++ codes "\n"

-- the line that says whether the graph is bicritical, and if not, gives two vertices that show it
abbrev pub bicritical_line : Option Ends → List ℕ
bicritical_line None = codes "bicritical yes\n"
bicritical_line (Some pair) = pair_line (codes "bicritical no") pair

-- the line of a cut pair
abbrev pub cut_pair_line : Option Ends → List ℕ
cut_pair_line None = codes "cutpair none\n"
cut_pair_line (Some pair) = pair_line (codes "cutpair") pair

-- the shore that shows a composite graph; none of a brick or a brace
abbrev pub shore_of : Kind → List ℕ
shore_of Brace = []
shore_of Brick = []
shore_of (Composite cut) = cut

-- the line of the kind
abbrev pub leaf_kind_line : Kind → List ℕ
leaf_kind_line kind = list_line (codes "kind " ++ kind_word kind) (shore_of kind)

-- all lines on the structure
unfoldable pub structure_text : Structure → List ℕ
structure_text structure =
    ((classes_lines structure.classes ++ bicritical_line structure.unlike) ++ cut_pair_line structure.cutpair) ++ leaf_kind_line structure.kind
