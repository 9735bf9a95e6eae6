-- A graph that grows stays a covered cubic multigraph, and each piece finds a vertex. Idea: class
-- A gets at least two vertices with each bipartite piece and gives up at most one with each other
-- piece, and no two others come in a row.
use Rattle.graph_core.proofs.from_counting.Common.{◌≡◌, ℕ, ◌+◌, ◌-◌, ◌*◌, ◌%◌, ◌≤◌, ◌<◌, ◌≢◌, Bool, true, false, cond, ◌==◌, ◌&&◌, ◌||◌, not, inl, inr, List, [], ◌∷◌, length, map, filter, refl, sym, ap₂, ◌∙◌, arith, eq-eqb, ne_eqb, slice_index, mod_below, length-append, length-map, cases_eq, cases_Bool, or_left, or_right, true≢false, rising_holds, mem-within, some-member, rising_list-rises, Within, union, mem, rising_list, IsRisingIn}
use Rattle.graph_core.proofs.Common.{size, IsMultigraph, IsCovered, IsSimple}
use Rattle.grow_gen.specs.declared.pieces.Piece.{Piece}
use Rattle.grow_gen.specs.declared.pieces.Piece.TheVariants.{K33, K4, Prism, Cube}
use Rattle.grow_gen.specs.Common.{piece_order, piece_ends, piece_graph, is_bipartite_piece, side, further_piece, IsCubic, is_at, new_number, permutation, splice, renumbered_edge, rehung_edges, targets_of, Growth, first_growth, eligible, next_class, with_piece, MayTake}
use Rattle.grow_gen.proofs.Rehanging.{length-rehung_edges}
use Rattle.grow_gen.proofs.PieceFacts.{piece-multigraph, piece-cubic, piece-simple, piece-covered, piece-two}
use Rattle.grow_gen.proofs.Skeleton.{eligible-within}
use Rattle.grow_gen.proofs.Splicing.{splice-multigraph, splice-cubic}
use Rattle.grow_gen.proofs.Parallel.{splice-simple}
use Rattle.grow_gen.proofs.CoveredSplices.{splice-covered}

-- what holds before further piece i
pub record IsSound (i : ℕ) (s : Growth) : Type 0 where
  pub multigraph : IsMultigraph s.graph
  pub cubic : IsCubic s.graph
  pub simple : IsSimple s.graph
  pub covered : IsCovered s.graph
  pub vertices : s.graph.order ≤ 8 * (i + 1)
  pub edges : size s.graph ≤ 12 * (i + 1)
  pub in_a : IsRisingIn s.graph.order s.in_a
  pub in_b : IsRisingIn s.graph.order s.in_b
  pub some : (v : ℕ) × (mem s.in_a v ≡ true)
  pub other : is_bipartite_piece (further_piece i) ≡ false → (w : ℕ) → (v : ℕ) × (v ≢ w) × (mem s.in_a v ≡ true)

-- two members: one of them is not w
other_member : (xs : List ℕ) (a b : ℕ) → a ≢ b → mem xs a ≡ true → mem xs b ≡ true → (w : ℕ) → (v : ℕ) × (v ≢ w) × (mem xs v ≡ true)
other_member xs a b d p q w = grind (arith, cases_eq a w)

-- after a piece that is not bipartite comes one that is
bipartite_next : (i : ℕ) → is_bipartite_piece (further_piece i) ≡ false → is_bipartite_piece (further_piece (i + 1)) ≡ true
bipartite_next i h = grind arith

-- what passes is in the next class
next-member : (n w : ℕ) (p : Piece) (class : List ℕ) (opposite : Bool) (v : ℕ) → Within (n + piece_order p - 2) v → mem (map (new_number n w) (side p opposite)) v ≡ true → mem (next_class n w p class opposite) v ≡ true
next-member n w p class opposite v u m = rising_holds (n + piece_order p - 2) _ v u (or_right (mem class v && not (w == v)) (mem (map (new_number n w) (side p opposite)) v) m)

is_first : (a : ℕ) (b : Bool) → (a == a || b) ≡ true
is_first a b = or_left (a == a) b (eq-eqb a a refl)

is_second : (x a : ℕ) (b : Bool) → (x == a || (a == a || b)) ≡ true
is_second x a b = or_right (x == a) (a == a || b) (is_first a b)

-- a bipartite piece brings at least two vertices into each class
two_gains : (n w : ℕ) → Within n w → (p : Piece) (opposite : Bool) → is_bipartite_piece p ≡ true → (a : ℕ) × (b : ℕ) × (a ≢ b) × (Within (n + piece_order p - 2) a × (mem (map (new_number n w) (side p opposite)) a ≡ true)) × (Within (n + piece_order p - 2) b × (mem (map (new_number n w) (side p opposite)) b ≡ true))
two_gains n w u K33 true e = (n + 4 - 2, n + 5 - 2, (λ q. absurd (omega arith)), ((omega arith, omega arith), is_first (n + 4 - 2) _), ((omega arith, omega arith), is_second (n + 4 - 2) (n + 5 - 2) _))
two_gains n w u K33 false e = (n + 3 - 2, w, (λ q. absurd (omega arith)), ((omega arith, omega arith), is_second w (n + 3 - 2) _), ((omega arith, omega arith), is_first w _))
two_gains n w u K4 o e = absurd (true≢false (sym e))
two_gains n w u Prism o e = absurd (true≢false (sym e))
two_gains n w u Cube true e = (n + 4 - 2, w, (λ q. absurd (omega arith)), ((omega arith, omega arith), is_second w (n + 4 - 2) _), ((omega arith, omega arith), is_first w _))
two_gains n w u Cube false e = (n + 3 - 2, n + 6 - 2, (λ q. absurd (omega arith)), ((omega arith, omega arith), is_first (n + 3 - 2) _), ((omega arith, omega arith), is_second (n + 3 - 2) (n + 6 - 2) _))

module _ (i : ℕ) (s : Growth) (sound : IsSound i s) (x : ℕ) where
  -- the piece, and the number of vertices so far
  abbrev piece : Piece
  piece = further_piece i

  abbrev n : ℕ
  n = s.graph.order

  -- there is a vertex for the piece
  pub some-eligible : 0 < length (eligible s piece)
  some-eligible = go (is_bipartite_piece piece)
    where
      go : (b : Bool) → 0 < length (cond b (rising_list n (union (mem s.in_a) (mem s.in_b))) s.in_a)
      go true = some-member (rising_list n (union (mem s.in_a) (mem s.in_b))) sound.some.0 (rising_holds n (union (mem s.in_a) (mem s.in_b)) sound.some.0 (mem-within n s.in_a sound.in_a sound.some.0 sound.some.1) (or_left (mem s.in_a sound.some.0) (mem s.in_b sound.some.0) sound.some.1))
      go false = some-member s.in_a sound.some.0 sound.some.1

  -- the vertex that is picked
  abbrev picked : ℕ
  picked = slice_index (eligible s piece) (x % length (eligible s piece))

  -- it is one of the graph
  pub picked-within : Within n picked
  picked-within = eligible-within s piece sound.in_a (x % length (eligible s piece)) (mod_below x (length (eligible s piece)) some-eligible)

  order-bound : piece_order piece ≤ 8
  order-bound = grind arith

  -- the piece can be spliced, as long as there are at most fifteen pieces: with it at most 16
  pub may-take : i ≤ 14 → MayTake s piece
  may-take l = grind (arith, order-bound, some-eligible)

  -- the second draw names a permutation
  permutation-below : (y : ℕ) → y % 6 < 6
  permutation-below y = mod_below y 6 (omega arith)

  -- the edges of the piece that stay are at most twelve
  few-kept : length (filter (λ e. not (is_at 1 e)) (piece_ends piece)) ≤ 12
  few-kept = grind arith

  -- class A after the piece has a vertex
  next_some : (v : ℕ) × (mem (next_class n picked piece s.in_a (mem s.in_a picked)) v ≡ true)
  next_some = elim (cases_Bool (is_bipartite_piece piece)) [
    | inl b ↦ let t = two_gains n picked picked-within piece (mem s.in_a picked) b in (t.0, next-member n picked piece s.in_a (mem s.in_a picked) t.0 t.3.0 t.3.1)
    | inr b ↦ let o = sound.other b picked in let w = mem-within n s.in_a sound.in_a o.0 o.2 in let k = piece-two piece in
        (o.0, rising_holds (n + piece_order piece - 2) _ o.0 (omega arith) (or_left (mem s.in_a o.0 && not (picked == o.0)) _ (stays o.0 o.1 o.2)))
  ]
    where
      stays : (v : ℕ) → v ≢ picked → mem s.in_a v ≡ true → (mem s.in_a v && not (picked == v)) ≡ true
      stays v d m = ap₂ (λ a b. a && not b) m (ne_eqb picked v (λ q. d (sym q)))

  -- and another one before a piece that is not bipartite
  next_other : is_bipartite_piece (further_piece (i + 1)) ≡ false → (w : ℕ) → (v : ℕ) × (v ≢ w) × (mem (next_class n picked piece s.in_a (mem s.in_a picked)) v ≡ true)
  next_other f w = elim (cases_Bool (is_bipartite_piece piece)) [
    | inl b ↦ let t = two_gains n picked picked-within piece (mem s.in_a picked) b in
        other_member (next_class n picked piece s.in_a (mem s.in_a picked)) t.0 t.1 t.2 (next-member n picked piece s.in_a (mem s.in_a picked) t.0 t.3.0 t.3.1) (next-member n picked piece s.in_a (mem s.in_a picked) t.1 t.4.0 t.4.1) w
    | inr b ↦ absurd (true≢false (sym (bipartite_next i b) ∙ f))
  ]

  -- one more piece keeps all this
  pub sound-next : (y : ℕ) → IsSound (i + 1) (with_piece s piece x y)
  unfolding with_piece splice
  sound-next y = record {
    multigraph = splice-multigraph s.graph (piece_graph piece) picked (y % 6) sound.multigraph (piece-multigraph piece) sound.cubic (piece-cubic piece) (piece-two piece) picked-within (permutation-below y);
    cubic = splice-cubic s.graph (piece_graph piece) picked (y % 6) sound.multigraph (piece-multigraph piece) sound.cubic (piece-cubic piece) (piece-two piece) picked-within (permutation-below y);
    simple = splice-simple s.graph (piece_graph piece) picked (y % 6) sound.multigraph (piece-multigraph piece) sound.cubic (piece-cubic piece) (piece-two piece) picked-within (permutation-below y) sound.simple (piece-simple piece);
    covered = splice-covered s.graph (piece_graph piece) picked (y % 6) sound.multigraph (piece-multigraph piece) sound.cubic (piece-cubic piece) sound.covered (piece-covered piece) picked-within (permutation-below y);
    vertices = let a = sound.vertices in let b = order-bound in omega arith;
    edges = let a = sound.edges in let b = few-kept in
        let c = length-append (rehung_edges picked (targets_of n picked (piece_graph piece) (permutation (y % 6))) s.graph.ends) (map (renumbered_edge n picked) (filter (λ e. not (is_at 1 e)) (piece_ends piece))) in
        let d = length-rehung_edges picked (targets_of n picked (piece_graph piece) (permutation (y % 6))) s.graph.ends in
        let e = length-map (filter (λ e. not (is_at 1 e)) (piece_ends piece)) (renumbered_edge n picked) in
        omega (arith, a, b, c, d, e);
    in_a = rising_list-rises (n + piece_order piece - 2) _;
    in_b = rising_list-rises (n + piece_order piece - 2) _;
    some = next_some;
    other = next_other;
  }

-- the first piece alone
pub sound-first : IsSound 0 first_growth
sound-first = record {
  multigraph = piece-multigraph K33;
  cubic = piece-cubic K33;
  simple = piece-simple K33;
  covered = piece-covered K33;
  vertices = omega arith;
  edges = omega arith;
  in_a = rising_list-rises 6 (mem (1 ∷ 2 ∷ 3 ∷ []));
  in_b = rising_list-rises 6 (mem (4 ∷ 5 ∷ 6 ∷ []));
  some = (1, refl);
  other = λ b w. other_member (1 ∷ 2 ∷ 3 ∷ []) 1 2 (λ q. absurd (omega arith)) refl refl w;
}
