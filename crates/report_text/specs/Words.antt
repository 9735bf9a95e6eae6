-- Words that lines of several reports share: yes and no, reasons why a graph is not matching
-- covered, kinds of graphs and of leaves, and counts of leaves.
-- Stated by: report_text. Used by: mcg6_lines, theorems.
use Rattle.std.specs.Prelude.{List, ℕ, Bool, ◌++◌, if◌then◌else◌, codes, decimal}
use Rattle.graph_core.specs.declared.verdict.Kind.{Kind}
use Rattle.graph_core.specs.declared.verdict.Kind.TheVariants.{Brace, Brick, Composite}
use Rattle.graph_core.specs.declared.verdict.Reason.{Reason}
use Rattle.graph_core.specs.declared.verdict.Reason.TheVariants.{Small, Parted, Unmatched, Unallowed}
use Rattle.move_text.specs.from_tree_core.declared.tallies.LeafKind.{LeafKind}
use Rattle.move_text.specs.from_tree_core.declared.tallies.LeafKind.TheVariants as leaf
use Rattle.move_text.specs.from_tree_core.declared.tallies.Tally.{Tally}

-- `yes` or `no`
abbrev pub yes_or_no : Bool → List ℕ
yes_or_no holds = if holds then codes "yes" else codes "no"

-- the word of a reason why a graph is not matching covered
abbrev pub reason_word : Reason → List ℕ
reason_word Small = codes "order"
reason_word (Parted a b) = codes "parts"
reason_word (Unmatched berge) = codes "berge"
reason_word (Unallowed edge) = codes "edge"

-- the word of the kind of a matching covered graph
abbrev pub kind_word : Kind → List ℕ
kind_word Brace = codes "brace"
kind_word Brick = codes "brick"
kind_word (Composite cut) = codes "composite"

-- the word of the kind of a leaf
abbrev pub leaf_kind_word : LeafKind → List ℕ
leaf_kind_word leaf.Brick = codes "brick"
leaf_kind_word leaf.Brace = codes "brace"

-- the end of a line that says how many leaves there are, and how many of each kind
abbrev pub tally_end : Tally → List ℕ
tally_end tally = codes " leaves " ++ decimal tally.leaves ++ codes " bricks " ++ decimal tally.bricks ++ codes " braces " ++ decimal tally.braces ++ codes "\n"
