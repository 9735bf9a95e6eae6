-- Where each file of a command is held, by its place, and none is too long, each read returned its
-- file: so the files are the texts that the reads returned, named by their places.
use Rattle.move_text.proofs.from_counting.Common.{lt-ltb}
use Rattle.std.proofs.Common.{◌≡◌, ◌∙◌, ◌<◌, ℕ, ◌+◌, false, cond, List, [], ◌∷◌, map, length, Option, Some, None, Result, Ok, Err, refl, sym, ap, arith, bytes_eq}
use Rattle.std.proofs.lemmas.Bool.Decides.{nat_tests}
use Rattle.outside.specs.Common.{Answer, AnswersInTurn, NamedFile, file_named, most_bytes}
use Rattle.outside.specs.declared.shelf.ShelfFault.TheVariants.{Failed, TooLong, Memory}
use Rattle.graph_core.specs.from_line_text.declared.faults.FaultKind.{FaultKind}
use Rattle.graph_core.specs.from_line_text.Common.{reading_of}
use Rattle.graph_core.specs.Common.{size}
use Rattle.graph_text.specs.Common.{NamedGraph, either_version}
use Rattle.graph6_text.specs.Common.{outcome_of}
use Rattle.tree_core.specs.Common.{Shape}
use Rattle.move_text.specs.from_tree_text.Common.{pick_format, tree_format}
use Rattle.move_text.specs.Common.{move_format}
use Rattle.ear_text.specs.EarFormat.{ear_format}
use Rattle.bench_reports.specs.from_bench_tasks.Common.{Command, OnGraph, OnSimpleGraph, OnTree, OnPicks, OnEars, OnMoves, OnTrees, OnNumbers, All, Bad, Absent, Loaded, Task, and_then, by_place, ear_file, ears_given, file_names, file_read, graph6_file, graph_file, loaded, loaded_as, move_file, moves_given, on_ears, on_moves, on_picks, on_tree, on_trees, pick_file, picks_given, place_name, tree_file, tree_given, trees_given}
use Rattle.bench_reports.specs.from_bench_tasks.Tasks as task
use Rattle.bench_top.specs.Given.{AreGiven}
use Rattle.bench_top.specs.Installed.{placed}

-- the file of this name is held, and is not too long
abbrev pub HoldsShort : List ℕ → List NamedFile → Type 0
HoldsShort name files = (bytes : List ℕ) × (file_named name files ≡ Some bytes) × (most_bytes < length bytes → ⊥)

-- so are those of this place and the following ones, one for each name
abbrev pub HoldsPlaces : (place : ℕ) → List (List ℕ) → List NamedFile → Type 0
HoldsPlaces place [] files = Unit {0}
HoldsPlaces place (name ∷ names) files = HoldsShort (place_name place) files × HoldsPlaces (place + 1) names files

other-place : (place later : ℕ) → place < later → bytes_eq (place_name place) (place_name later) ≡ false
other-place place later before = grind (arith, nat_tests, before)

earlier-place : (place later : ℕ) → place < later → bytes_eq (place_name later) (place_name place) ≡ false
earlier-place place later before = grind (arith, nat_tests, before)

-- a file with the name of another place is not found under this one
passes : (place later : ℕ) (bytes : List ℕ) (rest : List NamedFile) → place < later → file_named (place_name later) ((place_name place, bytes) ∷ rest) ≡ file_named (place_name later) rest
passes place later bytes rest before = ap (λ b. cond b (Some bytes) (file_named (place_name later) rest)) (other-place place later before)

behind : (place later : ℕ) (bytes : List ℕ) (rest : List NamedFile) → place < later → file_named (place_name place) ((place_name later, bytes) ∷ rest) ≡ file_named (place_name place) rest
behind place later bytes rest before = ap (λ b. cond b (Some bytes) (file_named (place_name place) rest)) (earlier-place place later before)

-- the files from a later place on have none of this one
none-placed : (place later : ℕ) → place < later → (answers : List Answer) (files : List NamedFile) → AreGiven later answers files → file_named (place_name place) files ≡ None
none-placed place later before [] files given = ap (file_named (place_name place)) given
none-placed place later before (Ok bytes ∷ answers) files given =
    ap (file_named (place_name place)) given.are ∙ behind place later bytes given.rest before ∙ none-placed place (later + 1) (omega arith) answers given.rest given.others_hold
none-placed place later before (Err Failed ∷ answers) files given = none-placed place (later + 1) (omega arith) answers files given
none-placed place later before (Err TooLong ∷ answers) files given =
    ap (file_named (place_name place)) given.2.are ∙ behind place later given.0 given.2.rest before ∙ none-placed place (later + 1) (omega arith) answers given.2.rest given.2.others_hold
none-placed place later before (Err Memory ∷ answers) files given = none-placed place (later + 1) (omega arith) answers files given

not-held : (name : List ℕ) (files : List NamedFile) → file_named name files ≡ None → HoldsShort name files → ⊥
not-held name files none held = let no : None ≡ Some held.0 = sym none ∙ held.1 in cc no

-- the later places do not see an earlier file
without-first : (place later : ℕ) (bytes : List ℕ) (rest files : List NamedFile) (names : List (List ℕ)) → place < later → files ≡ (place_name place, bytes) ∷ rest → HoldsPlaces later names files → HoldsPlaces later names rest
without-first place later bytes rest files [] before are held = tt
without-first place later bytes rest files (name ∷ names) before are held = (
  (held.0.0, sym (passes place later bytes rest before) ∙ ap (file_named (place_name later)) (sym are) ∙ held.0.1, held.0.2),
  without-first place (later + 1) bytes rest files names (omega arith) are held.1,
)

-- what is loaded was held
read-held : {A : Type 0} (place : ℕ) (reading : List ℕ → Result A (ℕ × FaultKind)) (value : A) (name : List ℕ) (files : List NamedFile) → file_read place reading (file_named name files) ≡ All value → HoldsShort name files
read-held {A} place reading value name files e = at (file_named name files) refl e
  where
    at : (file : Option (List ℕ)) → file_named name files ≡ file → file_read place reading file ≡ All value → HoldsShort name files
    at None is e = let no : ⊥ = cc e in absurd no
    at (Some bytes) is e = (bytes, is, λ long. let f = rw (lt-ltb most_bytes (length bytes) long) at e in cc f)

made-all : {A B : Type 0} (make : A → B) (held : Loaded A) (b : B) → loaded_as make held ≡ All b → (a : A) × (held ≡ All a)
made-all make (All a) b e = (a, refl)
made-all make (Bad file line fault) b e = let no : ⊥ = cc e in absurd no
made-all make (Absent file) b e = let no : ⊥ = cc e in absurd no

then-all : {A B : Type 0} (held : Loaded A) (next : A → Loaded B) (b : B) → and_then held next ≡ All b → (a : A) × (held ≡ All a) × (next a ≡ All b)
then-all (All a) next b e = (a, refl, e)
then-all (Bad file line fault) next b e = let no : ⊥ = cc e in absurd no
then-all (Absent file) next b e = let no : ⊥ = cc e in absurd no

made-then : {A B C : Type 0} (first : Loaded A) (second : A → Loaded B) (make : A → B → C) (c : C) → and_then first (λ a. loaded_as (make a) (second a)) ≡ All c → (a : A) × (b : B) × (first ≡ All a) × (second a ≡ All b)
made-then (All a) second make c e = let b = made-all (make a) (second a) c e in (a, b.0, refl, b.1)
made-then (Bad file line fault) second make c e = let no : ⊥ = cc e in absurd no
made-then (Absent file) second make c e = let no : ⊥ = cc e in absurd no

module _ (files : List NamedFile) where
  graph-held : (named : NamedGraph) → graph_file files (place_name 1) ≡ All named → HoldsShort (place_name 1) files
  graph-held named e = read-held 1 (reading_of either_version) named (place_name 1) files e

  tree-held : (place n : ℕ) (t : Shape) → tree_file files place (place_name place) n ≡ All t → HoldsShort (place_name place) files
  tree-held place n t e = read-held place (reading_of (tree_format n)) t (place_name place) files e

  trees-held : (given : NamedGraph × Shape) → tree_given files (place_name 1) (place_name 2) ≡ All given → HoldsShort (place_name 1) files × HoldsShort (place_name 2) files
  trees-held given e =
      let b = made-then (graph_file files (place_name 1)) (λ named. tree_file files 2 (place_name 2) named.graph.order) (λ named t. (named, t)) given e in
      (graph-held b.0 b.2, tree-held 2 b.0.graph.order b.1 b.3)

  -- each file of a command was held whose files are good
  pub loaded-places : (command : Command) (given : Task) → loaded files (by_place command) ≡ All given → HoldsPlaces 1 (file_names command) files
  loaded-places (OnGraph verb graph) given e =
      let a = made-all (task.OnGraph verb) (graph_file files (place_name 1)) given e in (graph-held a.0 a.1, tt)
  loaded-places (OnSimpleGraph verb graph) given e =
      let a = made-all (task.OnSimpleGraph verb) (graph6_file files (place_name 1)) given e in (read-held 1 outcome_of a.0 (place_name 1) files a.1, tt)
  loaded-places (OnTree verb graph tree) given e =
      let a = made-all (on_tree verb) (tree_given files (place_name 1) (place_name 2)) given e in
      let b = trees-held a.0 a.1 in (b.0, (b.1, tt))
  loaded-places (OnPicks verb graph picks) given e =
      let a = made-all (on_picks verb) (picks_given files (place_name 1) (place_name 2)) given e in
      let b = made-then (graph_file files (place_name 1)) (λ named. pick_file files (place_name 2)) (λ named list. (named, list)) a.0 a.1 in
      (graph-held b.0 b.2, (read-held 2 (reading_of pick_format) b.1 (place_name 2) files b.3, tt))
  loaded-places (OnEars verb graph ears) given e =
      let a = made-all (on_ears verb) (ears_given files (place_name 1) (place_name 2)) given e in
      let b = made-then (graph_file files (place_name 1)) (λ named. ear_file files (place_name 2) named.graph) (λ named list. (named, list)) a.0 a.1 in
      (graph-held b.0 b.2, (read-held 2 (reading_of (ear_format b.0.graph.order (size b.0.graph))) b.1 (place_name 2) files b.3, tt))
  loaded-places (OnMoves verb graph tree moves) given e =
      let a = made-all (on_moves verb) (moves_given files (place_name 1) (place_name 2) (place_name 3)) given e in
      let b = made-then (tree_given files (place_name 1) (place_name 2)) (λ held. move_file files (place_name 3) held.0.graph.order) (λ held ms. (held.0, (held.1, ms))) a.0 a.1 in
      let c = trees-held b.0 b.2 in
      (c.0, (c.1, (read-held 3 (reading_of (move_format b.0.0.graph.order)) b.1 (place_name 3) files b.3, tt)))
  loaded-places (OnTrees verb graph first second) given e =
      let a = made-all (on_trees verb) (trees_given files (place_name 1) (place_name 2) (place_name 3)) given e in
      let b = made-then (tree_given files (place_name 1) (place_name 2)) (λ held. tree_file files 3 (place_name 3) held.0.graph.order) (λ held t. (held.0, (held.1, t))) a.0 a.1 in
      let c = trees-held b.0 b.2 in
      (c.0, (c.1, (tree-held 3 b.0.0.graph.order b.1 b.3, tt)))
  loaded-places (OnNumbers verb seed pieces) given e = tt

-- each read returned its file
module _ {S : Type 0} (reads : S → List ℕ → Answer → S → Type 0) where
  pub all-returned : (place : ℕ) (names : List (List ℕ)) (answers : List Answer) (files : List NamedFile) (first last : S) → AnswersInTurn reads names answers first last → AreGiven place answers files → HoldsPlaces place names files →
      (texts : List (List ℕ)) × (answers ≡ map Ok texts) × (length texts ≡ length names) × (files ≡ placed place texts)
  all-returned place [] [] files first last turn given held = ([], refl, refl, given)
  all-returned place [] (answer ∷ answers) files first last turn given held = absurd turn
  all-returned place (name ∷ names) [] files first last turn given held = absurd (not-held (place_name place) files (ap (file_named (place_name place)) given) held.0)
  all-returned place (name ∷ names) (Ok bytes ∷ answers) files first last turn given held =
      let more = all-returned (place + 1) names answers given.rest turn.0 last turn.1.1 given.others_hold (without-first place (place + 1) bytes given.rest files names (omega arith) given.are held.1) in
      (bytes ∷ more.0, ap (λ rest. Ok bytes ∷ rest) more.1, omega (arith, more.2), given.are ∙ ap (λ fs. (place_name place, bytes) ∷ fs) more.3)
  all-returned place (name ∷ names) (Err Failed ∷ answers) files first last turn given held = absurd (not-held (place_name place) files (none-placed place (place + 1) (omega arith) answers files given) held.0)
  all-returned place (name ∷ names) (Err TooLong ∷ answers) files first last turn given held = grind arith
  all-returned place (name ∷ names) (Err Memory ∷ answers) files first last turn given held = absurd (not-held (place_name place) files (none-placed place (place + 1) (omega arith) answers files given) held.0)
