-- What `convert` writes stands for the graph with the names that it writes, and for nothing else.
-- So a file that holds it is read as this graph with these names, and the text of them is the
-- same text.
use Rattle.std.proofs.Common.{◌≡◌, ℕ, ◌≤◌, List, [], ◌∷◌, length, Some, refl, subst, codes, arith}
use Rattle.outside.specs.Common.{NamedFile, file_named, most_bytes}
use Rattle.graph_core.specs.from_line_text.Common.{reading_of}
use Rattle.graph_core.proofs.from_line_text.ExactlyOne.{Stands-reading_of}
use Rattle.graph_text.specs.Common.{NamedGraph, either_version}
use Rattle.bench_reports.specs.from_bench_tasks.Common.{Loaded, All, loaded_as, graph_file}
use Rattle.bench_reports.specs.from_bench_outcomes.Common.{LoadedGives, Outcome, Converted, given_or_plain}
use Rattle.bench_reports.specs.from_bench_tasks.Tasks as task
use Rattle.bench_reports.specs.from_bench_tasks.declared.verbs.GraphVerb.TheVariants.{Convert}
use Rattle.bench_reports.specs.from_bench_outcomes.declared.status.Status.{Status}
use Rattle.bench_reports.specs.from_bench_outcomes.declared.status.Status.TheVariants.{Done}
use Rattle.bench_top.proofs.Completeness.{status-once}
use Rattle.bench_top.proofs.FileReads.{file_read-value}

-- the graph with the names that are written
abbrev written_graph : NamedGraph → NamedGraph
written_graph named = record { graph = named.graph; names = Some (given_or_plain named.graph.order named.names) }

-- the conversion of what was written
again : (named : NamedGraph) (output : List ℕ) → Converted named Done output → Converted (written_graph named) Done output
again named output first = record { done = refl; text = first.text; stands = first.stands }

convert-again : (held : Loaded NamedGraph) (again_held : Loaded NamedGraph) (output : List ℕ) → ((named : NamedGraph) → Converted named Done output → again_held ≡ All (written_graph named)) → LoadedGives (loaded_as (task.OnGraph Convert) held) Done output → LoadedGives (loaded_as (task.OnGraph Convert) again_held) Done output
convert-again held again_held output holds gives = grind arith

pub convert-twice : (files others : List NamedFile) (name other : List ℕ) (output : List ℕ) → LoadedGives (loaded_as (task.OnGraph Convert) (graph_file files name)) Done output → file_named other others ≡ Some output → length output ≤ most_bytes → LoadedGives (loaded_as (task.OnGraph Convert) (graph_file others other)) Done output
convert-twice files others name other output gives held within =
    convert-again (graph_file files name) (graph_file others other) output
    (λ named first. file_read-value 1 (reading_of either_version) (file_named other others) output (written_graph named) held within (Stands-reading_of either_version output (written_graph named) first.stands))
    gives

-- the conversion of a file that holds one is done and gives it
convert-one : (held : Loaded NamedGraph) (output other : List ℕ) → LoadedGives (loaded_as (task.OnGraph Convert) held) Done output → LoadedGives (loaded_as (task.OnGraph Convert) held) Done other → other ≡ output
convert-one held output other one two = grind arith

pub convert-only : (files again : List NamedFile) (name other : List ℕ) (output : List ℕ) (status : Status) (text : List ℕ) → Outcome (codes "convert" ∷ name ∷ []) files Done output → file_named other again ≡ Some output → length output ≤ most_bytes →
    Outcome (codes "convert" ∷ other ∷ []) again status text → (status ≡ Done) × (text ≡ output)
convert-only files again name other output status text gives held within told =
    let done = convert-twice files again name other output gives held within in
    let same = status-once (codes "convert" ∷ other ∷ []) again status Done text output told done in
    (same, convert-one (graph_file again other) output text done (subst (λ (s : Status). Outcome (codes "convert" ∷ other ∷ []) again s text) same told))
