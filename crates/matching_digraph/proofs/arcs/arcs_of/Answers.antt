use Rattle.graph_core.proofs.from_counting.Common.{◌≡◌, ℕ, ◌∙◌, ◌++◌, List, length, take, drop, sym, ap, arith, take-append_seam, mem}
use Rattle.barrier_kit.specs.from_match_core.Common.{edges_of}
use Rattle.matching_digraph.proofs.MatchedArcs.{arcs_from, list_any-mates}
use Rattle.matching_digraph.proofs.arcs.arcs_of.Goals as goal

written_back : (len : ℕ) (new rows : List (List ℕ)) → length new ≡ len → take len (new ++ drop (length new) rows) ≡ new
written_back len new rows long = ap (λ k. take k (new ++ drop (length new) rows)) (sym long) ∙ take-append_seam new (drop (length new) rows)

pub returns : goal.returns
returns c = grind (arith, written_back c.in_ok-rows.rows.len, arcs_from c.args.g.now (mem c.args.side) (mem (edges_of c.args.m.now)), list_any-mates c.args.g.now c.args.m.now)
