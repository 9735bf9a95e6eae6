-- The line of a refusal is told by its value: the text of the whole line, or the line from its
-- beginning on.
use Rattle.std.proofs.Common.{◌≡◌, ◌∙◌, ℕ, List, ◌++◌, length, drop, codes, refl, sym, ap, append_assoc, drop_at}
use Rattle.graph_core.specs.declared.verdict.Reason.{Reason}
use Rattle.graph_core.specs.declared.verdict.Reason.TheVariants.{Small, Parted, Unmatched, Unallowed}
use Rattle.graph_core.specs.declared.verdict.Verdict.TheVariants.{NotCovered}
use Rattle.bench_outcomes.specs.from_tree_check.Common.{Why, not_blocks, even, trivial, not_tight, not_leaf, why_number}
use Rattle.bench_outcomes.specs.from_report_text.Common.{judgement_text, refused_move_text, refused_line, shown_text, verdict_text, numbers_text}
use Rattle.bench_outcomes.specs.from_report_text.declared.judgements.Shown.{Shown}
use Rattle.bench_outcomes.specs.from_report_text.declared.judgements.TreeLine.TheVariants as tree
use Rattle.bench_outcomes.specs.Common.{begun_by, cover_fault_of, cover_told, node_fault_of, node_number, refused_words}

-- a text that begins with the words is the one with the words at its beginning
begun : (words rest output : List ℕ) → output ≡ words ++ rest → output ≡ begun_by words output
begun words rest output is = is ∙ ap (λ (l : List ℕ). words ++ l) (sym (ap (drop (length words)) is ∙ drop_at words rest (length words) refl))

-- the numbers of the reasons are those of the faults
node-numbers : (why : Why) → why_number why ≡ node_number (node_fault_of why)
node-numbers not_blocks = refl
node-numbers even = refl
node-numbers trivial = refl
node-numbers (not_tight m) = refl
node-numbers (not_leaf c) = refl

refused-begun : (words : List ℕ) (number node : ℕ) (why : Why) (shown : Shown) (output : List ℕ) → output ≡ refused_line words number node (why_number why) shown →
    output ≡ begun_by (refused_words words number node (node_number (node_fault_of why))) output
refused-begun words number node why shown output is =
    begun (refused_words words number node (node_number (node_fault_of why))) (shown_text shown ++ codes "\n") output
    (is ∙ (ap (λ (n : ℕ). refused_line words number node n shown) (node-numbers why)
    ∙ append_assoc (refused_words words number node (node_number (node_fault_of why))) (shown_text shown) (codes "\n")))

pub tree-told : (number node : ℕ) (why : Why) (shown : Shown) (output : List ℕ) → output ≡ judgement_text (tree.Refused number node (why_number why) shown) →
    output ≡ begun_by (refused_words (codes "tree ") number node (node_number (node_fault_of why))) output
unfolding judgement_text
tree-told number node why shown output is = refused-begun (codes "tree ") number node why shown output is

pub move-told : (number node : ℕ) (why : Why) (shown : Shown) (output : List ℕ) → output ≡ refused_move_text number node (why_number why) shown →
    output ≡ begun_by (refused_words (codes "move ") number node (node_number (node_fault_of why))) output
unfolding refused_move_text
move-told number node why shown output is = refused-begun (codes "move ") number node why shown output is

-- the line of the reason why a graph is not covered
pub cover-told : (reason : Reason) (output : List ℕ) → output ≡ verdict_text (NotCovered reason) → output ≡ cover_told (cover_fault_of reason) output
unfolding verdict_text
cover-told Small output is = is
cover-told (Parted a b) output is = is
cover-told (Unmatched berge) output is = begun (codes "covered no berge") (numbers_text berge ++ codes "\n") output is
cover-told (Unallowed edge) output is = is
