-- The text of the first items of a list grows by the line of the next item: a written list of lines
-- with one more line is the text of the list and then the text of that line. The text of a graph is
-- its header and then the lines of its parts.
use Rattle.std.proofs.Common.{◌≡◌, ◌≤◌, ◌<◌, ◌+◌, ℕ, List, [], ◌∷◌, ◌++◌, length, get_or, map, take, take_all, append_assoc, sym, ◌∙◌, ap, arith, codes, decimal}
use Rattle.graph_core.specs.from_line_text.Common.{written}
use Rattle.graph_core.proofs.from_line_text.WrittenLines.{written-append, written-more}
use Rattle.graph_core.proofs.Common.{Graph, size, first_end, second_end}
use Rattle.graph_text.specs.Common.{edge_words, header_words, graph_text, name_words, named_edge_words, named_header_words, named_text}

module _ {X : Type 0} (words_of : X → List (List ℕ)) (start : List ℕ) (xs : List X) (i : ℕ) where
  -- the line of the next item
  pub lines-more : (d : X) (now next : List ℕ) → i < length xs → now ≡ start ++ written (map words_of (take i xs)) → next ≡ now ++ written (words_of (get_or xs i d) ∷ []) → next ≡ start ++ written (map words_of (take (i + 1) xs))
  lines-more d now next less first second =
      second ∙ ap (λ (t : List ℕ). t ++ written (words_of (get_or xs i d) ∷ [])) first
      ∙ append_assoc start (written (map words_of (take i xs))) (written (words_of (get_or xs i d) ∷ []))
      ∙ ap (λ (t : List ℕ). start ++ t) (sym (written-more words_of [] xs i d less))

  -- the lines of all items
  pub lines-all : (now : List ℕ) → length xs ≤ i → now ≡ start ++ written (map words_of (take i xs)) → now ≡ start ++ written (map words_of xs)
  lines-all now done is = is ∙ ap (λ (ys : List X). start ++ written (map words_of ys)) (take_all i xs done)

-- the ends of the next edge
pub ends-next : (g : Graph) (i a b : ℕ) → a ≡ first_end g (i + 1) → b ≡ second_end g (i + 1) → (a, b) ≡ get_or g.ends i (0, 0)
ends-next g i a b first second = grind arith

-- the line of a header, and then other lines
header-first : (header : List (List ℕ)) (lines : List (List (List ℕ))) (text : List ℕ) → text ≡ written (header ∷ []) → text ++ written lines ≡ written (header ∷ lines)
header-first header lines text is = ap (λ (t : List ℕ). t ++ written lines) is ∙ sym (written-append (header ∷ []) lines)

-- the header and the lines of the edges
pub graph_text-lines : (g : Graph) (order edges : ℕ) (text next : List ℕ) → order ≡ g.order → edges ≡ size g → text ≡ codes "p mcg " ++ (decimal order ++ (codes " " ++ (decimal edges ++ codes "\n"))) → next ≡ text ++ written (map edge_words g.ends) → next ≡ graph_text g
unfolding graph_text
graph_text-lines g order edges text next vertices all first second = grind (arith, header-first (header_words order edges) (map edge_words g.ends) text (first ∙ simp append_assoc), append_assoc)

-- the header, the lines of the names and those of the edges between named vertices
pub named_text-lines : (g : Graph) (names : List (List ℕ)) (order edges : ℕ) (text middle next : List ℕ) → order ≡ g.order → edges ≡ size g → text ≡ codes "p mcg2 " ++ (decimal order ++ (codes " " ++ (decimal edges ++ codes "\n"))) → middle ≡ text ++ written (map name_words names) → next ≡ middle ++ written (map (named_edge_words names) g.ends) → next ≡ named_text g names
unfolding named_text
named_text-lines g names order edges text middle next vertices all first second third = grind (arith, append_assoc text, written-append, header-first (named_header_words order edges), append_assoc)
