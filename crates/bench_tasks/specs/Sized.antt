-- The sizes that a stop carries are those of the graph that the first file stands for.
-- Stated by: bench_tasks. Used by: bench_top.
use Rattle.std.specs.Prelude.{◌≡◌, ℕ, List, [], ◌∷◌, Option, Some, None}
use Rattle.graph_core.specs.Common.{size}
use Rattle.graph_text.specs.Common.{NamedGraph}
use Rattle.outside.specs.Common.{Answer, NamedFile, file_named}
use Rattle.bench_tasks.specs.Answered.{GaveFile, place_name}
use Rattle.bench_tasks.specs.Loading.{Loaded, All, Bad, Absent, graph_file}
use Rattle.bench_tasks.specs.declared.stop.LoadStop.{LoadStop}
use Rattle.bench_tasks.specs.declared.stop.LoadStop.TheVariants as stop

-- the numbers of the vertices and of the edges of a graph, if it was loaded
abbrev pub sizes_held : Loaded NamedGraph → Option (ℕ × ℕ)
sizes_held (All named) = Some (named.graph.order, size named.graph)
sizes_held (Bad file line kind) = None
sizes_held (Absent file) = None

-- a read of that name gave a graph with these numbers of vertices and of edges
pub record GaveSizes {S : Type 0} (reads : S → List ℕ → Answer → S → Type 0) (name : List ℕ) (sizes : ℕ × ℕ) (first : S) : Type 0 where
  pub answer : Answer
  pub next : S
  pub read : reads first name answer next
  pub are : (files : List NamedFile) → GaveFile answer (file_named (place_name 1) files) → sizes_held (graph_file files (place_name 1)) ≡ Some sizes

-- the sizes that a stop carries, if it carries any
abbrev pub sizes_carried : LoadStop → Option (ℕ × ℕ)
sizes_carried (stop.ReadFault file unread) = None
sizes_carried (stop.Bad file line kind found) = found.sizes
sizes_carried stop.Memory = None

-- they are those of the graph that the read of the first name gave
abbrev pub CarriesSizes : {S : Type 0} → (S → List ℕ → Answer → S → Type 0) → (name : List ℕ) → (first : S) → LoadStop → Type 0
CarriesSizes reads name first stopped = (sizes : ℕ × ℕ) → sizes_carried stopped ≡ Some sizes → GaveSizes reads name sizes first

-- the same of the first of some names
abbrev pub CarriesFirstSizes : {S : Type 0} → (S → List ℕ → Answer → S → Type 0) → List (List ℕ) → (first : S) → LoadStop → Type 0
CarriesFirstSizes reads [] first stopped = sizes_carried stopped ≡ None
CarriesFirstSizes reads (name ∷ names) first stopped = CarriesSizes reads name first stopped
