-- The text written for a graph with names is read as this graph with these names: the header leads
-- to no names and no edges, the lines of the names add them one by one, and the line of each edge
-- adds it, since different names have different places.
use Rattle.graph_core.proofs.from_counting.Common.{nat_le, ◌≡◌, ◌≢◌, ◌+◌, ◌-◌, ◌≤◌, ◌<◌, ◌==◌, ◌||◌, ◌&&◌, not, ℕ, List, [], ◌∷◌, ◌++◌, length, map, get_or, true, false, Some, Ok, refl, sym, ap, subst, arith, append_assoc, bytes_eq, get_or-append, AllByRecursion, list_all, cases_Bool, and_parts, and_from, nat_tests, append-nil, length-append, bytes_eq-Decides, get_or-append_seam, Within}
use Rattle.graph_core.specs.from_line_text.Common.{Begins, Stands, is_line_feed, has_form, is_word, is_blank, IsSignificant}
use Rattle.graph_core.proofs.from_line_text.Decimals.{number_of-decimal, is_word-decimal}
use Rattle.graph_core.proofs.from_line_text.ReadBack.{Stands-written, Begins-append, significant-append}
use Rattle.graph_core.proofs.Common.{Graph, size}
use Rattle.graph_text.specs.Common.{EitherSoFar, either_version, is_name, is_name_byte, is_among, vertex_of, AreNames, named_header_words, name_words, named_edge_words, named_words, named_text, FitsNames}
use Rattle.graph_text.proofs.Edges.{IsEdgeIn, edges-multigraph}
use Rattle.graph_text.proofs.NameLists.{among-none, none-among, place-first, each-name}

-- the names and edges read so far
abbrev either : ℕ → ℕ → List (List ℕ) → List (ℕ × ℕ) → EitherSoFar
either order edges names done = record { so_far = record { graph = record { order = order; ends = done }; edges = edges }; names = Some names }

-- the header line
header-taken : (order edges : ℕ) → order ≤ 128 → edges ≤ 2048 → either_version.header (named_header_words order edges) ≡ Ok (either order edges [] [])
unfolding has_form
header-taken order edges few_vertices few_edges = grind (arith, number_of-decimal order, number_of-decimal edges, nat_tests)

-- the line of a name
name-taken : (order edges : ℕ) (names : List (List ℕ)) (name : List ℕ) → length names < order → is_name name ≡ true → is_among names name ≡ false → either_version.line (either order edges names []) (name_words name) ≡ Ok (either order edges (names ++ name ∷ []) [])
unfolding has_form
name-taken order edges names name wanted is none = rw (is, none) (grind (arith, nat_tests))

-- a name of the list is not among those before it
fresh : (done : List (List ℕ)) (name : List ℕ) (more : List (List ℕ)) → AreNames (done ++ name ∷ more) → is_among done name ≡ false
fresh done name more are = grind (arith, among-none done name, length-append done (name ∷ more), get_or-append done (name ∷ more), get_or-append_seam done name more)

form : (done : List (List ℕ)) (name : List ℕ) (more : List (List ℕ)) → AreNames (done ++ name ∷ more) → is_name name ≡ true
form done name more are = grind (arith, get_or-append_seam done name more, each-name (done ++ name ∷ more) (length done) are.each, length-append done (name ∷ more))

-- the lines of all names
names-taken : (order edges : ℕ) (done more : List (List ℕ)) → length done + length more ≡ order → AreNames (done ++ more) → Begins either_version (Some (either order edges done [])) (map name_words more) (Some (either order edges (done ++ more) []))
names-taken order edges done [] all are = ap (λ names. Some (either order edges names [])) (append-nil done)
names-taken order edges done (name ∷ more) all are = grind (arith, append_assoc, length-append, name-taken, form, fresh, names-taken order edges (done ++ name ∷ []) more)

-- the name of a vertex is among the names, at its place
place-name : (names : List (List ℕ)) (v : ℕ) → AreNames names → Within (length names) v → vertex_of names (get_or names (v - 1) []) ≡ v
place-name names v are within = grind (arith, place-first names (get_or names (v - 1) []) (v - 1))

among-name : (names : List (List ℕ)) (v : ℕ) → Within (length names) v → is_among names (get_or names (v - 1) []) ≡ true
among-name names v within = grind (arith, cases_Bool (is_among names (get_or names (v - 1) [])), none-among names (get_or names (v - 1) []))

different-names : (names : List (List ℕ)) (a b : ℕ) → AreNames names → Within (length names) a → Within (length names) b → a ≢ b → bytes_eq (get_or names (a - 1) []) (get_or names (b - 1) []) ≡ false
different-names names a b are first second other = grind (arith, cases_Bool, place-name, bytes_eq-Decides)

-- the line of an edge, where one is wanted
edge-taken : (order edges : ℕ) (names : List (List ℕ)) (a b : ℕ) (done : List (ℕ × ℕ)) → length names ≡ order → AreNames names → length done < edges → IsEdgeIn order (a, b) → either_version.line (either order edges names done) (named_edge_words names (a, b)) ≡ Ok (either order edges names (done ++ (a, b) ∷ []))
unfolding has_form
edge-taken order edges names a b done all are wanted is = grind (arith, among-name names a, among-name names b, different-names names a b are, place-name names a are, place-name names b are)

-- the lines of all edges
edges-taken : (order edges : ℕ) (names : List (List ℕ)) (done more : List (ℕ × ℕ)) → length names ≡ order → AreNames names → length done + length more ≡ edges → AllByRecursion (IsEdgeIn order) more → Begins either_version (Some (either order edges names done)) (map (named_edge_words names) more) (Some (either order edges names (done ++ more)))
edges-taken order edges names done [] few are all is = ap (λ (ends : List (ℕ × ℕ)). Some (either order edges names ends)) (append-nil done)
edges-taken order edges names done (edge ∷ more) few are all is = grind (arith, length-append, edge-taken, append_assoc, edges-taken order edges names (done ++ edge ∷ []) more few are)

-- a name is a word
name_byte-plain : (byte : ℕ) → is_name_byte byte ≡ true → not (is_blank byte || is_line_feed byte) ≡ true
unfolding is_name_byte
name_byte-plain byte is = grind (arith, nat_tests)

bytes-plain : (word : List ℕ) → list_all is_name_byte word ≡ true → list_all (λ byte. not (is_blank byte || is_line_feed byte)) word ≡ true
bytes-plain [] all = refl
bytes-plain (byte ∷ word) all =
    let parts = and_parts (is_name_byte byte) _ all in
    and_from _ _ (name_byte-plain byte parts.0) (bytes-plain word parts.1)

some-bytes : (n : ℕ) → nat_le 1 n ≡ true → not (n == 0) ≡ true
some-bytes n some = grind (arith, nat_tests)

pub is_word-name : (word : List ℕ) → is_name word ≡ true → is_word word ≡ true
unfolding is_name
is_word-name word is = grind (arith, and_parts (nat_le 1 (length word)), nat_le 1 (length word), and_from, some-bytes (length word), bytes-plain word, and_parts)

-- each line is significant
names-significant : (names : List (List ℕ)) → AllByRecursion (λ name. is_name name ≡ true) names → AllByRecursion IsSignificant (map name_words names)
names-significant [] each = tt
names-significant (name ∷ names) each = grind (arith, is_word-name name each.0, names-significant names each.1)

edges-significant : (names : List (List ℕ)) (ends : List (ℕ × ℕ)) → AreNames names → AllByRecursion (IsEdgeIn (length names)) ends → AllByRecursion IsSignificant (map (named_edge_words names) ends)
edges-significant names [] are is = tt
edges-significant names (edge ∷ ends) are is = grind (arith, is_word-name, get_or, each-name, edges-significant names ends are is.1)

-- the text of a graph with names stands for them
pub Stands-named_text : (g : Graph) (names : List (List ℕ)) → FitsNames g names → Stands either_version (named_text g names) (record { graph = g; names = Some names })
unfolding named_text
Stands-named_text g names fits =
    let few = fits.named.few in
    let all = fits.one_each in
    let each = edges-multigraph g fits.multigraph in
    let each_by_name = subst (λ n. AllByRecursion (IsEdgeIn n) g.ends) (sym all) each in
    Stands-written either_version (named_words g names) (Some (either g.order (size g) names g.ends)) (record { graph = g; names = Some names }) (
      record { kept = refl; each = (refl, (refl, (is_word-decimal g.order (omega arith), (is_word-decimal (size g) (let edges = fits.edges in omega arith), tt)))) },
      significant-append (map name_words names) (map (named_edge_words names) g.ends) (names-significant names fits.named.each) (edges-significant names g.ends fits.named each_by_name),
    ) (
      either g.order (size g) [] [],
      header-taken g.order (size g) (omega arith) fits.edges,
      Begins-append either_version (Some (either g.order (size g) [] [])) (map name_words names) (Some (either g.order (size g) names [])) (map (named_edge_words names) g.ends) (Some (either g.order (size g) names g.ends))
          (names-taken g.order (size g) [] names (omega arith) fits.named)
          (edges-taken g.order (size g) names [] g.ends all fits.named (omega arith) each),
    )
    (rw (closes (length names) g.order (size g) all) refl)
  where
    closes : (k n m : ℕ) → k ≡ n → (k == n) && (m == m) ≡ true
    closes k n m same = grind (arith, nat_tests)
