-- What a stop carries at its place, and the sizes of the graph that the first file stands for.
-- Idea: the first load was good, so its one read gave the graph; a later stop carries its sizes.
use Rattle.std.proofs.Common.{◌≡◌, ◌∙◌, ℕ, zero, suc, ◌-◌, List, [], ◌∷◌, ◌++◌, Option, Some, None, Result, Ok, Err, IfErr, ap, refl, sym, subst, arith, slice_get, length}
use Rattle.std.proofs.lemmas.Option.{none-some, same_Some}
use Rattle.graph_core.specs.Common.{size}
use Rattle.graph_text.specs.Common.{named_graph}
use Rattle.graph_text.specs.declared.named.Named.{Named}
use Rattle.outside.specs.Common.{Answer, AnswersInTurn, NamedFile}
use Rattle.outside.specs.declared.explain.FailureReason.{FailureReason}
use Rattle.bench_tasks.specs.Common.{CarriesFile, CarriesSizes, File, file_seen, GaveSizes, HoldGiven, LoadsAnswered, LoadsAs, StopsAt, StopsOn, graph_file, place_name, sizes_held}
use Rattle.bench_tasks.proofs.AnswersMade.{IsMade}
use Rattle.bench_tasks.specs.declared.stop.LoadStop.{LoadStop}
use Rattle.bench_tasks.specs.declared.stop.LoadStop.TheVariants.{ReadFault, Bad, Memory}

-- a stop at a place, at the file there, carries it
pub carries-at : (files : List File) (place : ℕ) (file : File) (sizes : Option (ℕ × ℕ)) (reason : Option FailureReason) (stopped : LoadStop) → slice_get files (place - 1) ≡ Some file → StopsAt place stopped → StopsOn file sizes reason stopped →
    CarriesFile files reason stopped
carries-at files place file sizes reason (ReadFault at unread) is here on = (subst (λ (p : ℕ). slice_get files (p - 1) ≡ Some (file_seen unread.file)) (sym here) (is ∙ ap Some (sym on.0)), on.1)
carries-at files place file sizes reason (Bad at line kind found) is here on = subst (λ (p : ℕ). slice_get files (p - 1) ≡ Some (file_seen found.file)) (sym here) (is ∙ ap Some (sym on.0))
carries-at files place file sizes reason Memory is here on = tt

-- what stands in a list stands there where further items follow
get-more : {A : Type 0} (list more : List A) (place : ℕ) (item : A) → slice_get list place ≡ Some item → slice_get (list ++ more) place ≡ Some item
get-more [] more place item is = absurd (none-some item is)
get-more (first ∷ list) more zero item is = is
get-more (first ∷ list) more (suc place) item is = get-more list more place item is

-- further files change nothing of what is carried
pub carries-more : (files more : List File) (reason : Option FailureReason) (stopped : LoadStop) → CarriesFile files reason stopped → CarriesFile (files ++ more) reason stopped
carries-more files more reason (ReadFault at unread) carries = (get-more files more (at - 1) _ carries.0, carries.1)
carries-more files more reason (Bad at line kind found) carries = get-more files more (at - 1) _ carries
carries-more files more reason Memory carries = tt

module _ {S : Type 0} (reads : S → List ℕ → Answer → S → Type 0) (name : List ℕ) where
  -- a graph that was loaded first was given by a read
  pub gave-sizes : (named : Named) (first last : S) → LoadsAnswered reads (name ∷ []) named_graph (λ files. graph_file files (place_name 1)) (Ok named) first last →
      GaveSizes reads name (named.graph.order, size named.graph) first
  gave-sizes named first last made = go made.answers made.in_turn made.counts made.loads
    where
      go : (answers : List Answer) → AnswersInTurn reads (name ∷ []) answers first last → length answers ≡ 1 → ((files : List NamedFile) → HoldGiven files 1 answers → LoadsAs named_graph (Ok named) (graph_file files (place_name 1))) →
          GaveSizes reads name (named.graph.order, size named.graph) first
      go [] in_turn count loads = absurd (omega (arith, count))
      go (answer ∷ []) in_turn count loads = record { answer = answer; next = in_turn.0; read = in_turn.1.0; are = λ files gave. ap sizes_held (loads files (gave, tt)) }
      go (answer ∷ next ∷ answers) in_turn count loads = absurd (omega (arith, count))

  -- a stop at a file for that graph carries its sizes
  pub carries-sizes : (file : File) (sizes : ℕ × ℕ) (reason : Option FailureReason) (stopped : LoadStop) (first : S) → StopsOn file (Some sizes) reason stopped → GaveSizes reads name sizes first → CarriesSizes reads name first stopped
  carries-sizes file sizes reason (ReadFault at unread) first on gave other is = absurd (none-some other is)
  carries-sizes file sizes reason (Bad at line kind found) first on gave other is = subst (λ (s : ℕ × ℕ). GaveSizes reads name s first) (same_Some sizes other (sym on.1 ∙ is)) gave
  carries-sizes file sizes reason Memory first on gave other is = absurd (none-some other is)

  -- a stop at a file for no graph carries none
  pub carries-none : (file : File) (reason : Option FailureReason) (stopped : LoadStop) (first : S) → StopsOn file None reason stopped → CarriesSizes reads name first stopped
  carries-none file reason (ReadFault at unread) first on other is = absurd (none-some other is)
  carries-none file reason (Bad at line kind found) first on other is = absurd (none-some other (sym on.1 ∙ is))
  carries-none file reason Memory first on other is = absurd (none-some other is)

-- what holds of the stop of a load holds where something is made of what was loaded
pub stop-kept : {X Z A C : Type 0} (view : X → A) (out : Z → C) (make : A → C) (loaded : Result X LoadStop) (made : Result Z LoadStop) → IsMade view out make loaded made → (P : LoadStop → Type 0) → IfErr loaded P → IfErr made P
stop-kept view out make (Ok x) (Ok z) is P holds = tt
stop-kept view out make (Ok x) (Err stopped) is P holds = absurd is
stop-kept view out make (Err stopped) made is P holds = subst (λ (m : Result _ LoadStop). IfErr m P) (sym is) holds

-- the first file that is loaded is carried, and no sizes where it is for no graph
pub first-carries : {X : Type 0} (file : File) (sizes : Option (ℕ × ℕ)) (reason : Option FailureReason) (loaded : Result X LoadStop) → IfErr loaded (StopsAt 1) → IfErr loaded (StopsOn file sizes reason) → IfErr loaded (CarriesFile (file ∷ []) reason)
first-carries file sizes reason (Ok x) here on = tt
first-carries file sizes reason (Err stopped) here on = carries-at (file ∷ []) 1 file sizes reason stopped refl here on

pub first-sized : {S X : Type 0} (reads : S → List ℕ → Answer → S → Type 0) (name : List ℕ) (first : S) (file : File) (reason : Option FailureReason) (loaded : Result X LoadStop) → IfErr loaded (StopsOn file None reason) →
    IfErr loaded (CarriesSizes reads name first)
first-sized reads name first file reason (Ok x) on = tt
first-sized reads name first file reason (Err stopped) on = carries-none reads name file reason stopped first on
