-- The pieces are cubic, matching covered multigraphs. Idea: tests that compute, with three perfect
-- matchings that contain all edges, and all vertices reached from vertex 1 along the edges.
use Rattle.graph_core.proofs.from_counting.Common.{◌≡◌, ℕ, ◌≤◌, Bool, true, false, cond, ◌==◌, ◌&&◌, ◌||◌, not, inl, inr, List, [], ◌∷◌, refl, sym, ap, ◌∙◌, arith, eqb-true, nat_le, leb-true, eqb-false, and_parts, or_cases, not-true, true≢false, implied, every_true, Within, Set, everything, none, mem, every}
use Rattle.graph_core.proofs.Common.{Graph, size, degree, first_end, second_end, has_ends, IsMultigraph, Allowed, is_perfect, IsConnected, IsCovered, IsSimple, is_perfect_true}
use Rattle.grow_gen.specs.declared.pieces.Piece.{Piece}
use Rattle.grow_gen.specs.declared.pieces.Piece.TheVariants.{K33, K4, Prism, Cube}
use Rattle.grow_gen.specs.Common.{piece_order, piece_graph, IsCubic}
use Rattle.grow_gen.proofs.EdgeSums.{Each}
use Rattle.grow_gen.proofs.Connecting.{Stays, connected-steady}

-- each edge is between two different vertices, as a test
abbrev is_multigraph : Graph → Bool
is_multigraph g = every (size g) (λ e. (nat_le 1 (first_end g e) && nat_le (first_end g e) g.order) && ((nat_le 1 (second_end g e) && nat_le (second_end g e) g.order) && not (first_end g e == second_end g e)))

multigraph-says : (g : Graph) → is_multigraph g ≡ true → IsMultigraph g
multigraph-says g h = record { ends = λ e w. (range (first_end g e) (at e w).0, range (second_end g e) (and_parts _ _ (at e w).1).0); no_loop = λ e w. eqb-false _ _ (not-true _ (and_parts _ _ (at e w).1).1) }
  where
    at : (e : ℕ) → Within (size g) e → ((nat_le 1 (first_end g e) && nat_le (first_end g e) g.order) ≡ true) × (((nat_le 1 (second_end g e) && nat_le (second_end g e) g.order) && not (first_end g e == second_end g e)) ≡ true)
    at e w = and_parts _ _ (every_true (size g) _ h e w)

    range : (v : ℕ) → (nat_le 1 v && nat_le v g.order) ≡ true → Within g.order v
    range v h = let p = and_parts _ _ h in (leb-true 1 v p.0, leb-true v g.order p.1)

pub piece-multigraph : (p : Piece) → IsMultigraph (piece_graph p)
piece-multigraph K33 = multigraph-says (piece_graph K33) refl
piece-multigraph K4 = multigraph-says (piece_graph K4) refl
piece-multigraph Prism = multigraph-says (piece_graph Prism) refl
piece-multigraph Cube = multigraph-says (piece_graph Cube) refl

cubic-says : (g : Graph) → every g.order (λ v. degree g everything v == 3) ≡ true → IsCubic g
cubic-says g h v w = eqb-true _ _ (every_true g.order _ h v w)

pub piece-cubic : (p : Piece) → IsCubic (piece_graph p)
piece-cubic K33 = cubic-says (piece_graph K33) refl
piece-cubic K4 = cubic-says (piece_graph K4) refl
piece-cubic Prism = cubic-says (piece_graph Prism) refl
piece-cubic Cube = cubic-says (piece_graph Cube) refl

-- an edge with the ends of another is that one, as a test
simple-says : (g : Graph) → every (size g) (λ e. every (size g) (λ f. not (has_ends g (first_end g e) (second_end g e) f) || (e == f))) ≡ true → IsSimple g
simple-says g h e f we wf j = eqb-true e f (implied (has_ends g (first_end g e) (second_end g e) f) (e == f) (every_true (size g) _ (every_true (size g) _ h e we) f wf) j)

pub piece-simple : (p : Piece) → IsSimple (piece_graph p)
piece-simple K33 = simple-says (piece_graph K33) refl
piece-simple K4 = simple-says (piece_graph K4) refl
piece-simple Prism = simple-says (piece_graph Prism) refl
piece-simple Cube = simple-says (piece_graph Cube) refl

-- vertices with what one walk along the edges adds to them
abbrev reached : List (ℕ × ℕ) → List ℕ → List ℕ
reached [] r = r
reached (e ∷ es) r = reached es (cond (mem r e.0) (e.1 ∷ r) (cond (mem r e.1) (e.0 ∷ r) r))

-- they are all on one side of a set that no edge leaves
reached-stay : (x : Set) (b : Bool) (es : List (ℕ × ℕ)) (r : List ℕ) → Each (Stays x) es → ((v : ℕ) → mem r v ≡ true → x v ≡ b) → (v : ℕ) → mem (reached es r) v ≡ true → x v ≡ b
reached-stay x b [] r c h v m = h v m
reached-stay x b (e ∷ es) r c h v m = reached-stay x b es (cond (mem r e.0) (e.1 ∷ r) (cond (mem r e.1) (e.0 ∷ r) r)) c.1 (grind arith) v m

connected-says : (g : Graph) → IsMultigraph g → every g.order (mem (reached g.ends (1 ∷ []))) ≡ true → IsConnected g
connected-says g m h = connected-steady g m.ends (λ x s u v wu wv. all x s u wu ∙ sym (all x s v wv))
  where
    own : (x : Set) (v : ℕ) → mem (1 ∷ []) v ≡ true → x v ≡ x 1
    own x v k = elim (or_cases (1 == v) false k) [ inl t ↦ ap x (sym (eqb-true 1 v t)) | inr t ↦ absurd (true≢false (sym t)) ]

    all : (x : Set) → Each (Stays x) g.ends → (v : ℕ) → Within g.order v → x v ≡ x 1
    all x s v w = reached-stay x (x 1) g.ends (1 ∷ []) s (own x) v (every_true g.order _ h v w)

-- three perfect matchings that contain all edges
allowed-says : (g : Graph) (k l m : List ℕ) → is_perfect g none (mem k) ≡ true → is_perfect g none (mem l) ≡ true → is_perfect g none (mem m) ≡ true → every (size g) (λ e. mem k e || (mem l e || mem m e)) ≡ true → (e : ℕ) → Within (size g) e → Allowed g e
allowed-says g k l m pk pl pm h e w = elim (or_cases (mem k e) (mem l e || mem m e) (every_true (size g) _ h e w)) [
  | inl t ↦ (mem k, is_perfect_true g none (mem k) pk, t)
  | inr t ↦ grind (arith, or_cases (mem l e) (mem m e) t, is_perfect_true g none (mem l) pl, is_perfect_true g none (mem m) pm)
]

piece-allowed : (p : Piece) (e : ℕ) → Within (size (piece_graph p)) e → Allowed (piece_graph p) e
piece-allowed K33 = allowed-says (piece_graph K33) (1 ∷ 5 ∷ 9 ∷ []) (2 ∷ 6 ∷ 7 ∷ []) (3 ∷ 4 ∷ 8 ∷ []) refl refl refl refl
piece-allowed K4 = allowed-says (piece_graph K4) (1 ∷ 6 ∷ []) (2 ∷ 5 ∷ []) (3 ∷ 4 ∷ []) refl refl refl refl
piece-allowed Prism = allowed-says (piece_graph Prism) (1 ∷ 4 ∷ 9 ∷ []) (2 ∷ 5 ∷ 8 ∷ []) (3 ∷ 6 ∷ 7 ∷ []) refl refl refl refl
piece-allowed Cube = allowed-says (piece_graph Cube) (1 ∷ 3 ∷ 5 ∷ 7 ∷ []) (2 ∷ 4 ∷ 6 ∷ 8 ∷ []) (9 ∷ 10 ∷ 11 ∷ 12 ∷ []) refl refl refl refl

piece-connected : (p : Piece) → IsConnected (piece_graph p)
piece-connected K33 = connected-says (piece_graph K33) (piece-multigraph K33) refl
piece-connected K4 = connected-says (piece_graph K4) (piece-multigraph K4) refl
piece-connected Prism = connected-says (piece_graph Prism) (piece-multigraph Prism) refl
piece-connected Cube = connected-says (piece_graph Cube) (piece-multigraph Cube) refl

pub piece-two : (p : Piece) → 2 ≤ piece_order p
piece-two K33 = omega arith
piece-two K4 = omega arith
piece-two Prism = omega arith
piece-two Cube = omega arith

pub piece-covered : (p : Piece) → IsCovered (piece_graph p)
piece-covered p = record { two = piece-two p; connected = piece-connected p; allowed = λ e w d. piece-allowed p e w }
