-- The lines of `cuts`: for each candidate of a matching covered graph, in the order of the
-- candidates, the number of the line in the list, the graph6 text of the graph, the part of the
-- list of candidates that it comes from, and its canonical shore. A graph that is not covered has no
-- line.
-- Stated by: mcg6_lines. Used by: theorems.
use Rattle.std.specs.Prelude.{◌≡◌, ◌↔◌, ◌⊎◌, true, ℕ, ◌++◌, List, [], ◌∷◌, All, codes}
use Rattle.std.specs.List.{AllPairs, list_any}
use Rattle.allowed_edges.specs.from_counting.Common.{Set, Within}
use Rattle.graph_core.specs.Common.{Graph, HasOnlyTrivialTightCuts, IsCovered, IsNontrivial, IsTight, in_cut, size}
use Rattle.leaf_kinds.specs.from_tight_cuts.Common.{Barrier, Candidate, Flow, IsTightCandidate, Origin, Separation, ShoresDiffer, candidates, cuts}
use Rattle.report_text.specs.Common.{numbers_text}
use Rattle.mcg6_lines.specs.LeafLines.{line_front}

-- the word for the part of the list that a candidate comes from
abbrev pub origin_word : Origin → List ℕ
origin_word Barrier = codes "barrier"
origin_word Separation = codes "separation"
origin_word Flow = codes "flow"

-- the line of a candidate
abbrev pub cut_line : (front : List ℕ) → Candidate → List ℕ
cut_line front c = front ++ origin_word c.origin ++ numbers_text c.shore ++ codes "\n"

-- the lines of candidates, in order, each with the same front
abbrev pub cut_lines : (front : List ℕ) → List Candidate → List ℕ
cut_lines front [] = []
cut_lines front (c ∷ list) = cut_line front c ++ cut_lines front list

-- the bytes are the lines of the candidates of the covered graph. These are nontrivial tight cuts,
-- none of which comes twice; each edge of each nontrivial tight cut is in the cut of one of them; so
-- there is no line exactly if the graph is a brick or a brace
pub record TellsCuts (front : List ℕ) (g : Graph) (bytes : List ℕ) : Type 0 where
  pub covered : IsCovered g
  pub lines : bytes ≡ cut_lines front (candidates g)
  pub tight : All (IsTightCandidate g) (candidates g)
  pub once : AllPairs ShoresDiffer (candidates g)
  pub cover : (x : Set) (e : ℕ) → Within (size g) e → IsTight g x → IsNontrivial g.order x → in_cut g x e ≡ true → list_any (cuts g e) (candidates g) ≡ true
  pub none : (candidates g ≡ []) ↔ HasOnlyTrivialTightCuts g

-- the lines of the candidates of a covered graph, and nothing for one that is not
abbrev pub AreCutLines : ℕ → Graph → List ℕ → Type 0
AreCutLines number g bytes = TellsCuts (line_front number g) g bytes ⊎ ((¬ IsCovered g) × (bytes ≡ []))
