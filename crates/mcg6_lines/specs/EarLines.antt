-- The line of `ears`: the number of the line in the list, the graph6 text of the graph, the numbers
-- of steps with one ear and with two, the edge of the first stage, and the steps. An ear is its
-- vertices in order, joined by hyphens; the two ears of a step are joined by `+`. Any ear
-- decomposition may be written that adds two ears only where no ear decomposition goes on by a
-- single one. A graph that is not covered has no line.
-- Stated by: mcg6_lines. Used by: theorems.
use Rattle.std.specs.Prelude.{◌≡◌, ◌⊎◌, ℕ, ◌++◌, Bool, true, false, not, List, [], ◌∷◌, codes, count_by, decimal}
use Rattle.std.specs.List.{AllByRecursion}
use Rattle.ear_core.specs.Common.{IsEarList, IsSingle, IsUnrefinable, PlainEar, PlainEars, PlainStep, TakesSingles, one, trail, two}
use Rattle.graph_core.specs.Common.{Graph, IsBipartite, IsCovered}
use Rattle.leaf_kinds.specs.from_tight_cuts.Common.{greater_end, lesser_end}
use Rattle.mcg6_lines.specs.LeafLines.{line_front}

-- vertices, joined by hyphens
abbrev pub hyphened : List ℕ → List ℕ
hyphened [] = []
hyphened (v ∷ []) = decimal v
hyphened (v ∷ w ∷ vs) = decimal v ++ codes "-" ++ hyphened (w ∷ vs)

-- the vertices along an ear
abbrev pub path_text : Graph → PlainEar → List ℕ
path_text g a = hyphened (trail g a.begin a.edges)

-- the ear of a step, or the two
abbrev pub step_text : Graph → PlainStep → List ℕ
step_text g (one a) = path_text g a
step_text g (two a b) = path_text g a ++ codes "+" ++ path_text g b

-- steps, each after a space
abbrev pub steps_text : Graph → List PlainStep → List ℕ
steps_text g [] = []
steps_text g (s ∷ steps) = codes " " ++ step_text g s ++ steps_text g steps

-- an edge by its ends, the lesser first
abbrev pub edge_text : Graph → ℕ → List ℕ
edge_text g e = decimal (lesser_end g e) ++ codes "-" ++ decimal (greater_end g e)

-- the step has one ear
abbrev pub has_one_ear : PlainStep → Bool
has_one_ear (one a) = true
has_one_ear (two a b) = false

-- how many steps have one ear, and how many have two
abbrev pub single_steps : List PlainStep → ℕ
single_steps steps = count_by has_one_ear steps

abbrev pub double_steps : List PlainStep → ℕ
double_steps steps = count_by (λ step. not (has_one_ear step)) steps

-- the line of an ear list
unfoldable pub ear_line : (front : List ℕ) → Graph → PlainEars → List ℕ
ear_line front g list =
    front ++ decimal (single_steps list.steps) ++ codes " " ++ decimal (double_steps list.steps) ++ codes " " ++ edge_text g list.start ++ steps_text g list.steps ++ codes "\n"

-- the bytes are the line of an ear list of the covered graph: it adds two ears only at stages from
-- which no ear list goes on by a single one, no step of it can be refined, and it has single ears
-- alone if the graph is bipartite
pub record TellsEarList (front : List ℕ) (g : Graph) (bytes : List ℕ) : Type 0 where
  pub covered : IsCovered g
  pub list : PlainEars
  pub is : IsEarList g list
  pub singles : TakesSingles g list
  pub unrefinable : IsUnrefinable g list
  pub single : IsBipartite g → AllByRecursion IsSingle list.steps
  pub line : bytes ≡ ear_line front g list

-- the line of a covered graph, and nothing for one that is not
abbrev pub AreEarLines : ℕ → Graph → List ℕ → Type 0
AreEarLines number g bytes = TellsEarList (line_front number g) g bytes ⊎ ((¬ IsCovered g) × (bytes ≡ []))

-- two lines differ at most in the ear list: they have the number of the line and the graph in common
pub record DifferInEars (first second : List ℕ) : Type 0 where
  pub number : ℕ
  pub graph : Graph
  pub list : PlainEars
  pub other : PlainEars
  pub one_is : first ≡ ear_line (line_front number graph) graph list
  pub two_is : second ≡ ear_line (line_front number graph) graph other
