-- The graph of the edges that listed matchings hold together with one edge, made edge by edge.
-- Idea: each edge of it comes from one of the edges so far, and each of these that is held with e
-- is in it.
use Rattle.std.proofs.Common.{◌≡◌, ℕ, ◌+◌, ◌≤◌, ◌<◌, ◌≢◌, true, ◌&&◌, List, [], ◌∷◌, ◌++◌, ap, ◌∙◌, arith, inl, inr, subst, ◌-◌, length-append, slice_index_or}
use Rattle.graph_core.proofs.from_counting.Common.{Any-from_list_any, list_any_at, and_from, and_parts, cases_lt, get_or_append_left, get_or-append_seam, Within, mem, none}
use Rattle.graph_core.proofs.Common.{Graph, size, first_end, second_end, with_edge, IsPerfect, Together}
use Rattle.barrier_kit.specs.from_allowed_edges.PairTables.{PairsValue, SettlesEdges, edge_lists, holds_both}
use Rattle.tight_cuts.specs.Common.{IsBeside}

-- the edges 1 to k are treated: those that a matching of ms holds together with e are in h
pub record BesideSoFar (g : Graph) (ms : List (List ℕ)) (e k : ℕ) (h : Graph) : Type 0 where
  pub order : h.order ≡ g.order
  pub few : size h ≤ k
  pub from : (f : ℕ) → Within (size h) f → (d : ℕ) × Within (size g) d × (d ≢ e) × Together g e d × (first_end h f ≡ first_end g d) × (second_end h f ≡ second_end g d)
  pub every : (d : ℕ) → Within k d → d ≢ e → holds_both ms e d ≡ true → (f : ℕ) × Within (size h) f × (first_end h f ≡ first_end g d) × (second_end h f ≡ second_end g d)

-- an edge that is e or that no matching holds together with it
pub beside-skip : (g h : Graph) (ms : List (List ℕ)) (e k : ℕ) → BesideSoFar g ms e k h → ((k + 1 ≢ e) → holds_both ms e (k + 1) ≡ true → ⊥) → BesideSoFar g ms e (k + 1) h
beside-skip g h ms e k b n = grind arith

-- the ends of the edges of a graph with one edge more
pub size-more : (h : Graph) (a b : ℕ) → size (with_edge h a b) ≡ size h + 1
size-more h a b = length-append h.ends ((a, b) ∷ [])

pub ends-old : (h : Graph) (a b f : ℕ) → Within (size h) f → (first_end (with_edge h a b) f ≡ first_end h f) × (second_end (with_edge h a b) f ≡ second_end h f)
ends-old h a b f w = let q = get_or_append_left h.ends ((a, b) ∷ []) (0, 0) (f - 1) (omega arith) in (ap (λ p. p.0) q, ap (λ p. p.1) q)

pub ends-new : (h : Graph) (a b : ℕ) → (first_end (with_edge h a b) (size h + 1) ≡ a) × (second_end (with_edge h a b) (size h + 1) ≡ b)
ends-new h a b = grind (arith, slice_index_or (h.ends ++ (a, b) ∷ []), get_or-append_seam h.ends (a, b))

-- an edge that lies together with e
pub beside-more : (g h : Graph) (ms : List (List ℕ)) (e k a b : ℕ) → BesideSoFar g ms e k h → k < size g → k + 1 ≢ e → Together g e (k + 1) → a ≡ first_end g (k + 1) → b ≡ second_end g (k + 1) → BesideSoFar g ms e (k + 1) (with_edge h a b)
beside-more g h ms e k a b s l ne t qa qb =
    let more = size-more h a b in
    let new = ends-new h a b in
    record {
      order = s.order;
      few = let f = s.few in omega arith;
      from = λ f w. elim (cases_lt (size h) f) [
        | inl u ↦ grind arith
        | inr u ↦ let v : Within (size h) f = (w.0, u) in let r = s.from f v in let o = ends-old h a b f v in (r.0, r.1, r.2, r.3, o.0 ∙ r.4, o.1 ∙ r.5)
      ];
      every = λ d w n u. elim (cases_lt k d) [
        | inl v ↦ grind arith
        | inr v ↦ let r = s.every d (omega arith) n u in let o = ends-old h a b r.0 r.1 in (r.0, (r.1.0, let x = r.1.1 in omega arith), o.0 ∙ r.2, o.1 ∙ r.3)
      ];
    }

-- all edges are treated, and a listed matching holds e
pub beside-whole : (g h : Graph) (p : PairsValue) (e k : ℕ) → SettlesEdges g 1 p → holds_both (edge_lists p) e e ≡ true → size g ≤ k → BesideSoFar g (edge_lists p) e k h → IsBeside g e h
beside-whole g h p e k s held l b =
    let a = Any-from_list_any (λ m. mem m e && mem m e) (edge_lists p) held in
    let he = (and_parts (mem a.1 e) (mem a.1 e) a.4).0 in
    record {
      order = b.order;
      from = b.from;
      base = mem a.1;
      perfect = subst (λ (m : List ℕ). IsPerfect g none (mem m)) a.3 (s.grown.perfect a.0 a.1 a.2);
      held = he;
      every = λ d w n hd. b.every d (w.0, let x = w.1 in omega arith) n
          (list_any_at (λ m. mem m e && mem m d) (edge_lists p) a.0 a.1 a.2 (ap (λ m. mem m e && mem m d) a.3 ∙ and_from (mem a.1 e) (mem a.1 d) he hd));
    }
