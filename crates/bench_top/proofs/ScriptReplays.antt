-- What `script` writes stands for a script from the first tree to the second. So a file that
-- holds it is read as this script, and its replay on the first tree is done and reports the second.
use Rattle.std.proofs.Common.{◌≡◌, ◌∙◌, ℕ, ◌≤◌, List, [], ◌∷◌, length, Option, Some, refl, sym, ap, ap₂, subst, inl, codes, arith}
use Rattle.outside.specs.Common.{NamedFile, file_named, most_bytes}
use Rattle.graph_core.specs.from_line_text.Common.{reading_of}
use Rattle.graph_core.proofs.from_line_text.ExactlyOne.{Stands-reading_of}
use Rattle.graph_text.specs.Common.{NamedGraph, either_version}
use Rattle.tree_core.proofs.Common.{PlainMove, Shape}
use Rattle.move_text.specs.from_tree_text.Common.{tree_format, tree_text}
use Rattle.move_text.specs.Common.{move_format}
use Rattle.mcg6_lines.specs.from_report_text.Common.{replayed_text}
use Rattle.bench_reports.specs.from_bench_outcomes.Common.{ScriptGives, Scripted, LoadedGives, Outcome}
use Rattle.bench_reports.specs.from_bench_tasks.Common.{Loaded, All, Bad, Absent, and_then, file_read, loaded_as, move_file, moves_given, on_moves, on_trees, tree_file, tree_given, trees_given, OnMoves}
use Rattle.bench_top.specs.RoundTrips.{ReplaysScript}
use Rattle.bench_reports.specs.from_bench_tasks.declared.verbs.MovesVerb.TheVariants.{Replay}
use Rattle.bench_reports.specs.from_bench_tasks.declared.verbs.TreesVerb.TheVariants.{Script}
use Rattle.bench_reports.specs.from_bench_outcomes.declared.status.Status.{Status}
use Rattle.bench_reports.specs.from_bench_outcomes.declared.status.Status.TheVariants.{Done}
use Rattle.bench_top.proofs.Completeness.{status-once}
use Rattle.bench_top.proofs.OneOutput.{output-once}
use Rattle.bench_top.proofs.WrittenBack.{done-asks}
use Rattle.bench_top.proofs.FileReads.{file_read-value}

-- the graph and the tree that two texts are read as
abbrev tree_read : (graph tree : Option (List ℕ)) → Loaded (NamedGraph × Shape)
tree_read graph tree =
    and_then (file_read 1 (reading_of either_version) graph)
    (λ named. loaded_as (λ t. (named, t)) (file_read 2 (reading_of (tree_format named.graph.order)) tree))

-- other files that hold the same of both names
tree_given-same : (files again : List NamedFile) (graph tree : List ℕ) → file_named graph again ≡ file_named graph files → file_named tree again ≡ file_named tree files → tree_given again graph tree ≡ tree_given files graph tree
tree_given-same files again graph tree one two = ap₂ tree_read one two

module _ (files again : List NamedFile) (graph first second script output : List ℕ) (held : file_named script again ≡ Some output) (within : length output ≤ most_bytes) where
  -- a script that was reported
  replays : (named : NamedGraph) (s t : Shape) → tree_given again graph first ≡ All (named, s) → trees_given files graph first second ≡ All (named, (s, t)) → Scripted named.graph s t Done output → ReplaysScript files again graph first second script output
  replays named s t given both told = record {
    named = named;
    source = s;
    target = t;
    held = both;
    moves = told.moves;
    told = told.text;
    replayed = done;
    only = λ status report gives.
        let same = status-once (codes "replay" ∷ graph ∷ first ∷ script ∷ []) again status Done report (replayed_text (tree_text named.graph.order t) (length told.moves)) gives done in (
          same,
          output-once (codes "replay" ∷ graph ∷ first ∷ script ∷ []) again (OnMoves Replay graph first script) (on_moves Replay (named, (s, told.moves))) report (replayed_text (tree_text named.graph.order t) (length told.moves)) refl
              (ap (loaded_as (on_moves Replay)) read) tt (subst (λ (st : Status). Outcome (codes "replay" ∷ graph ∷ first ∷ script ∷ []) again st report) same gives) done,
        );
    asks = done-asks (codes "replay" ∷ graph ∷ first ∷ script ∷ []) again (replayed_text (tree_text named.graph.order t) (length told.moves)) done;
  }
    where
      moves_are : move_file again script named.graph.order ≡ All told.moves
      moves_are =
          file_read-value 3 (reading_of (move_format named.graph.order)) (file_named script again) output told.moves held within
          (Stands-reading_of (move_format named.graph.order) output told.moves told.stands)

      read : moves_given again graph first script ≡ All (named, (s, told.moves))
      read = grind (arith, moves_are)

      done : Outcome (codes "replay" ∷ graph ∷ first ∷ script ∷ []) again Done (replayed_text (tree_text named.graph.order t) (length told.moves))
      done = subst (λ (h : Loaded (NamedGraph × (Shape × List PlainMove))). LoadedGives (loaded_as (on_moves Replay) h) Done (replayed_text (tree_text named.graph.order t) (length told.moves)))
          (sym read)
          (inl (inl (record { derivation = told.script.first; reached = t; turns = told.script.turns; done = refl; text = refl })))

  -- what `script` gives if it is done
  gives : (named : NamedGraph) (s t : Shape) → tree_given again graph first ≡ All (named, s) → trees_given files graph first second ≡ All (named, (s, t)) → ScriptGives named.graph s t Done output → ReplaysScript files again graph first second script output
  gives named s t given both h = grind (arith, replays named s t given both)

  -- by what the file of the second tree is read as
  second_read : (named : NamedGraph) (s : Shape) (h : Loaded Shape) → tree_file files 3 second named.graph.order ≡ h → tree_given again graph first ≡ All (named, s) → tree_given files graph first ≡ All (named, s) →
      LoadedGives (loaded_as (on_trees Script) (loaded_as (λ t. (named, (s, t))) h)) Done output → ReplaysScript files again graph first second script output
  second_read named s (All t) is given before done =
      gives named s t given
      (ap (λ (h : Loaded (NamedGraph × Shape)). and_then h (λ given. loaded_as (λ t. (given.0, (given.1, t))) (tree_file files 3 second given.0.graph.order))) before
      ∙ ap (loaded_as (λ (t : Shape). (named, (s, t)))) is)
      done
  second_read named s (Bad file line kind) is given before done = let no = done.0 in cc no
  second_read named s (Absent file) is given before done = absurd done

  -- by what the files of the graph and of the first tree are read as
  first_read : (h : Loaded (NamedGraph × Shape)) → tree_given files graph first ≡ h → tree_given again graph first ≡ h →
      LoadedGives (loaded_as (on_trees Script) (and_then h (λ given. loaded_as (λ t. (given.0, (given.1, t))) (tree_file files 3 second given.0.graph.order)))) Done output → ReplaysScript files again graph first second script output
  first_read (All given) before now done = second_read given.0 given.1 (tree_file files 3 second given.0.graph.order) refl now before done
  first_read (Bad file line kind) before now done = let no = done.0 in cc no
  first_read (Absent file) before now done = absurd done

-- what was written is replayed
pub script-replayed : (files again : List NamedFile) (graph first second script output : List ℕ) → LoadedGives (loaded_as (on_trees Script) (trees_given files graph first second)) Done output →
    file_named graph again ≡ file_named graph files → file_named first again ≡ file_named first files → file_named script again ≡ Some output → length output ≤ most_bytes → ReplaysScript files again graph first second script output
script-replayed files again graph first second script output done one two held within = grind (arith, first_read, tree_given-same)
