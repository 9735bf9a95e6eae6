-- The text written for a graph in version 1 is read as this graph: the header leads to the graph
-- without edges, and the line of each edge adds it, by induction over the edges. No test of the
-- tables applies.
use Rattle.graph_core.proofs.from_counting.Common.{◌≡◌, ◌+◌, ◌≤◌, ◌<◌, ℕ, List, [], ◌∷◌, ◌++◌, length, map, true, Some, Ok, refl, ap, arith, append_assoc, AllByRecursion, nat_tests, append-nil, length-append}
use Rattle.graph_core.specs.from_line_text.Common.{Begins, Stands, lines_of, has_form, words_of, unwords, is_skipped, IsSignificant}
use Rattle.graph_core.proofs.from_line_text.Decimals.{number_of-decimal, is_word-decimal}
use Rattle.graph_core.proofs.from_line_text.ReadBack.{Stands-written, Stands-comments, is_closed-unlines}
use Rattle.graph_core.proofs.Common.{Graph, size}
use Rattle.graph_text.specs.Common.{GraphSoFar, version_one, FitsVersionOne, edge_words, header_words, graph_words, graph_text}
use Rattle.graph_text.proofs.Edges.{IsEdgeIn, edges-multigraph}

-- the edges read so far, of so many
abbrev body : ℕ → ℕ → List (ℕ × ℕ) → GraphSoFar
body order edges done = record { graph = record { order = order; ends = done }; edges = edges }

-- the header line
header-taken : (order edges : ℕ) → order ≤ 64 → edges ≤ 512 → version_one.header (header_words order edges) ≡ Ok (body order edges [])
unfolding has_form
header-taken order edges few_vertices few_edges = grind (arith, number_of-decimal order, number_of-decimal edges, nat_tests)

-- the line of an edge, where one is wanted
edge-taken : (order edges a b : ℕ) (done : List (ℕ × ℕ)) → length done < edges → order ≤ 128 → IsEdgeIn order (a, b) → version_one.line (body order edges done) (edge_words (a, b)) ≡ Ok (body order edges (done ++ (a, b) ∷ []))
unfolding has_form
edge-taken order edges a b done wanted few is = grind (arith, number_of-decimal a, number_of-decimal b, nat_tests)

-- the lines of all edges
edges-taken : (order edges : ℕ) (done more : List (ℕ × ℕ)) → length done + length more ≡ edges → order ≤ 128 → AllByRecursion (IsEdgeIn order) more → Begins version_one (Some (body order edges done)) (map edge_words more) (Some (body order edges (done ++ more)))
edges-taken order edges done [] all few is = ap (λ (ends : List (ℕ × ℕ)). Some (body order edges ends)) (append-nil done)
edges-taken order edges done (edge ∷ more) all few is = grind (arith, length-append, edge-taken, append_assoc, edges-taken order edges (done ++ edge ∷ []) more)

-- each line is significant
pub edges-significant : (order : ℕ) (ends : List (ℕ × ℕ)) → order ≤ 128 → AllByRecursion (IsEdgeIn order) ends → AllByRecursion IsSignificant (map edge_words ends)
edges-significant order [] few is = tt
edges-significant order (edge ∷ ends) few is = grind (arith, is_word-decimal edge.0, is_word-decimal edge.1, edges-significant order ends few is.1)

-- the text of a graph stands for it
pub Stands-graph_text : (g : Graph) → FitsVersionOne g → Stands version_one (graph_text g) g
unfolding graph_text
Stands-graph_text g fits =
    let vertices = fits.vertices in let edges = fits.edges in
    let each = edges-multigraph g fits.multigraph in
    Stands-written version_one (graph_words g) (Some (body g.order (size g) g.ends)) g
    (record { kept = refl; each = (refl, (refl, (is_word-decimal g.order (omega arith), (is_word-decimal (size g) (omega arith), tt)))) }, edges-significant g.order g.ends (omega arith) each)
    (body g.order (size g) [], header-taken g.order (size g) vertices edges, edges-taken g.order (size g) [] g.ends (omega arith) (omega arith) each)
    (grind (arith, nat_tests))

-- comments after it change nothing
pub Stands-commented : (g : Graph) (comments : List ℕ) → FitsVersionOne g → AllByRecursion (λ line. is_skipped (words_of line) ≡ true) (lines_of comments) → Stands version_one (graph_text g ++ comments) g
unfolding graph_text
Stands-commented g comments fits skipped =
    Stands-comments version_one (graph_text g) comments g (is_closed-unlines (map unwords (graph_words g))) skipped (Stands-graph_text g fits)
