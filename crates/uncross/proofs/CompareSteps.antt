-- The steps of turning a derivation into another, as the code takes them: what its two calls
-- below the root may ask, and that the whole is a script of few moves.
use Rattle.std.proofs.Common.{◌≡◌, ℕ, ◌+◌, ◌*◌, ◌≤◌, List, ◌++◌, length, map, sym, arith, subst}
use Rattle.graph_core.proofs.Common.{IsCovered, Graph, IsGraph, IsPartition, quotient}
use Rattle.tree_core.proofs.Common.{IsDerivationAt, kept_at, merged_at, PlainMove, below, Shape, cut, cut_count, leaf}
use Rattle.tree_core.specs.declared.path.Side.TheVariants.{Kept, Merged}
use Rattle.move_laws.proofs.BigShores.{cut_big}
use Rattle.move_laws.proofs.Comparison.{square}
use Rattle.uncross.proofs.ExposeSteps.{stage_of}
use Rattle.move_laws.proofs.NestedShores.{leaf_not}
use Rattle.move_laws.proofs.Rising.{rising-derivation_at}
use Rattle.move_laws.proofs.Scripts.{length_below, length_join, script_end, script_join, script_kept, script_merged}
use Rattle.uncross.specs.Common.{IsBrought}
use Rattle.move_laws.specs.Common.{AreRising, IsProperScript}

-- a derivation where another is a leaf is a leaf
pub both_leaves : (g : Graph) (n : ℕ) (p : List (List ℕ)) (s t : Shape) → IsGraph g → n ≡ g.order → IsPartition n p → IsCovered (quotient g p) → t ≡ leaf → IsDerivationAt g p s → IsDerivationAt g p t → s ≡ t
both_leaves g n p leaf t is e list cov l ds dt = sym l
both_leaves g n p (cut x a b) t is e list cov l ds dt = grind (arith, stage_of g n p is e list cov, leaf_not g p x, cut_big g p)

-- where the shore y of t was exposed in s: what may be asked of the two pairs of trees below it,
-- and that the moves that turn the one into the other make a script of few moves from s to t
pub record IsCompared (g : Graph) (p : List (List ℕ)) (s t : Shape) (y : List ℕ) (k1 r1 k2 r2 : Shape) (ms : List PlainMove) : Type 0 where
  pub kept : (q : List (List ℕ)) (a b : Shape) → q ≡ kept_at g.order p y → a ≡ k1 → b ≡ k2 → IsDerivationAt g q a × IsDerivationAt g q b
  pub merged : (q : List (List ℕ)) (a b : Shape) → q ≡ merged_at g.order p y → a ≡ r1 → b ≡ r2 → IsDerivationAt g q a × IsDerivationAt g q b
  pub whole : (q r : List (List ℕ)) (ks ns : List PlainMove) (k1' k2' r1' r2' : Shape) → q ≡ kept_at g.order p y → r ≡ merged_at g.order p y → k1' ≡ k1 → k2' ≡ k2 → r1' ≡ r1 → r2' ≡ r2 →
      IsProperScript g q k1' ks k2' → IsProperScript g r r1' ns r2' → length ks ≤ 5 * (cut_count k1' * cut_count k1') → length ns ≤ 5 * (cut_count r1' * cut_count r1') →
      (all : List PlainMove) → all ≡ (ms ++ map (below Kept) ks) ++ map (below Merged) ns → IsProperScript g p s all t × (length all ≤ 5 * (cut_count s * cut_count s))

module _ (g : Graph) (n : ℕ) (p : List (List ℕ)) (s t : Shape) (y : List ℕ) (k2 r2 : Shape) (is : IsGraph g) (e : n ≡ g.order) (list : IsPartition n p) (cov : IsCovered (quotient g p)) (w : t ≡ cut y k2 r2) (ds : IsDerivationAt g p s) (dt : IsDerivationAt g p t) where
  second : IsDerivationAt g p (cut y k2 r2)
  second = subst (IsDerivationAt g p) w dt

  -- what may be asked of bringing
  module _ (k1 r1 : Shape) (ms : List PlainMove) (brought : IsBrought g p s y k1 r1 ms) where
    script : IsProperScript g p s ms (cut y k1 r1)
    script = brought.script

    ended : IsDerivationAt g p (cut y k1 r1) × AreRising g.order (cut y k1 r1) × (cut_count (cut y k1 r1) ≡ cut_count s)
    ended = script_end g p s ms (cut y k1 r1) ds (rising-derivation_at g p s ds) script

    asks_kept_both : (q : List (List ℕ)) (a b : Shape) → q ≡ kept_at g.order p y → a ≡ k1 → b ≡ k2 → IsDerivationAt g q a × IsDerivationAt g q b
    asks_kept_both q a b eq ea eb = grind (arith, kept_at, ended, second)

    asks_merged_both : (q : List (List ℕ)) (a b : Shape) → q ≡ merged_at g.order p y → a ≡ r1 → b ≡ r2 → IsDerivationAt g q a × IsDerivationAt g q b
    asks_merged_both q a b eq ea eb = grind (arith, merged_at, ended, second)

    module _ (q r : List (List ℕ)) (ks ns : List PlainMove) (k1' k2' r1' r2' : Shape) (eq : q ≡ kept_at g.order p y) (er : r ≡ merged_at g.order p y) (e1 : k1' ≡ k1) (e2 : k2' ≡ k2) (e3 : r1' ≡ r1) (e4 : r2' ≡ r2)
        (wk : IsProperScript g q k1' ks k2') (wr : IsProperScript g r r1' ns r2') (bk : length ks ≤ 5 * (cut_count k1' * cut_count k1')) (br : length ns ≤ 5 * (cut_count r1' * cut_count r1')) where
      at_kept : IsProperScript g (kept_at g.order p y) k1 ks k2
      at_kept = subst (λ q. IsProperScript g q k1 ks k2) eq (subst (λ a. IsProperScript g q a ks k2) e1 (subst (IsProperScript g q k1' ks) e2 wk))

      at_merged : IsProperScript g (merged_at g.order p y) r1 ns r2
      at_merged = subst (λ q. IsProperScript g q r1 ns r2) er (subst (λ a. IsProperScript g r a ns r2) e3 (subst (IsProperScript g r r1' ns) e4 wr))

      whole : List PlainMove
      whole = (ms ++ map (below Kept) ks) ++ map (below Merged) ns

      whole_script : IsProperScript g p s ((ms ++ map (below Kept) ks) ++ map (below Merged) ns) t
      whole_script =
          let w1 = script_kept g p y k1 r1 ks k2 ended.0 ended.1 at_kept in
          let w2 = script_join g p s ms (map (below Kept) ks) (cut y k1 r1) (cut y k2 r1) script w1 in
          let q2 = script_end g p (cut y k1 r1) (map (below Kept) ks) (cut y k2 r1) ended.0 ended.1 w1 in
          let w3 = script_merged g p y k2 r1 ns r2 q2.0 q2.1 at_merged in
          subst (IsProperScript g p s ((ms ++ map (below Kept) ks) ++ map (below Merged) ns)) (sym w) (script_join g p s (ms ++ map (below Kept) ks) (map (below Merged) ns) (cut y k2 r1) (cut y k2 r2) w2 w3)

      whole_few : length ((ms ++ map (below Kept) ks) ++ map (below Merged) ns) ≤ 5 * (cut_count s * cut_count s)
      whole_few =
          let l1 = length_join (ms ++ map (below Kept) ks) (map (below Merged) ns) in let l2 = length_join ms (map (below Kept) ks) in
          let l3 = length_below Kept ks in let l4 = length_below Merged ns in
          let c : cut_count s ≡ 1 + cut_count k1 + cut_count r1 = sym ended.2 in
          let sq = square (cut_count k1) (cut_count r1) (cut_count s) c in
          let b0 = brought.few in
          let b1 : length ks ≤ 5 * (cut_count k1 * cut_count k1) = subst (λ a. length ks ≤ 5 * (cut_count a * cut_count a)) e1 bk in
          let b2 : length ns ≤ 5 * (cut_count r1 * cut_count r1) = subst (λ a. length ns ≤ 5 * (cut_count a * cut_count a)) e3 br in
          omega arith

    pub compared : IsCompared g p s t y k1 r1 k2 r2 ms
    compared = grind (arith, asks_kept_both, asks_merged_both, whole_script, whole_few)
