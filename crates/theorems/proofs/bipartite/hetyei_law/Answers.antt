use Rattle.theorems.proofs.BipartiteCovered.{by_neighbours, by_pairs, four_by_neighbours, four_by_pairs}
use Rattle.theorems.proofs.BipartiteEars.{by_ears}
use Rattle.theorems.proofs.StrongBipartite.{by_digraph}
use Rattle.theorems.proofs.bipartite.hetyei_law.Goals as goal

pub returns : goal.returns
returns c = record { neighbours = by_neighbours; pairs = by_pairs; four_neighbours = four_by_neighbours; four_pairs = four_by_pairs; ears = by_ears; digraph = λ g a m is two many perfect. by_digraph g a m is two perfect many }
