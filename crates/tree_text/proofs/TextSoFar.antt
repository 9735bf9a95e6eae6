-- The lines of a cut and of a tree. Idea: the text written so far is always a list of complete
-- lines, and appending the lines of a node or of a subtree makes a longer such list.
use Rattle.counting.proofs.Common.{◌≡◌, ℕ, List, [], ◌∷◌, ◌++◌, codes, map, sym, ◌∙◌, ap, append_assoc, arith, decimal, append-nil}
use Rattle.graph_core.specs.from_line_text.Common.{unwords, written}
use Rattle.graph_core.proofs.from_line_text.WrittenLines.{spaced, unwords-spaced, written-append}
use Rattle.tree_core.proofs.Common.{Shape, cut}
use Rattle.tree_text.specs.Common.{cut_words, header_words, node_words, tree_text}

-- the line of a cut is whole when no vertex is left
pub cut_line : (old text new : List ℕ) (shore rest : List ℕ) → rest ≡ [] → old ++ (codes "cut" ++ spaced (map decimal shore)) ≡ text ++ spaced (map decimal rest) → new ≡ text ++ 10 ∷ [] → new ≡ old ++ written (cut_words shore ∷ [])
cut_line old text new shore rest none same is = grind (arith, spaced, append-nil text, unwords-spaced (codes "cut") (map decimal shore), append_assoc old (unwords (cut_words shore)) (10 ∷ []))

-- the header, and the lines of the nodes
pub tree_text-lines : (n : ℕ) (t : Shape) (head text : List ℕ) → head ≡ written (header_words n ∷ []) → text ≡ head ++ written (node_words t) → text ≡ tree_text n t
unfolding tree_text
tree_text-lines n t head text is_head is_text = is_text ∙ ap (λ h. h ++ written (node_words t)) is_head ∙ sym (written-append (header_words n ∷ []) (node_words t))

-- the lines of a cut, of its `kept` tree and of its `merged` tree, one after the other
pub cut_lines : (old first second third : List ℕ) (x : List ℕ) (k m : Shape) → first ≡ old ++ written (cut_words x ∷ []) → second ≡ first ++ written (node_words k) → third ≡ second ++ written (node_words m) → third ≡ old ++ written (node_words (cut x k m))
cut_lines old first second third x k m is_first is_second is_third = grind (arith, append_assoc, written-append)
