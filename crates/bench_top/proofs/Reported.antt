-- What a run was given and what it printed, if it ended with status 0 or 1: its shelf notes the
-- files that it gives, and its sink the bytes that it takes.
use Rattle.std.proofs.Common.{◌≡◌, ◌∙◌, ℕ, List, [], ◌∷◌, ◌++◌, map, false, Option, Some, None, Ok, refl, sym, ap, subst, append_assoc, append-nil, inl, inr}
use Rattle.std.proofs.lemmas.List.{append_cancel_left}
use Rattle.outside.specs.Common.{Answer, AnswersInTurn, HasPrinted, IsOpened, NamedFile, NotesFiles, OpenState, PrintState, named_texts}
use Rattle.bench_reports.specs.from_bench_tasks.Common.{All, Bad, Absent, Command, Loaded, Task, by_place, command_of, loaded, names_in}
use Rattle.bench_reports.specs.from_bench_outcomes.Common.{CommandGives, IsSettled, LoadedGives, code_of}
use Rattle.bench_reports.specs.from_bench_outcomes.declared.status.Status.{Status}
use Rattle.bench_reports.specs.from_bench_outcomes.declared.status.Status.TheVariants.{Done, Negative, BadInput}
use Rattle.bench_top.proofs.PlacedFiles.{all-returned, loaded-places}
use Rattle.bench_top.specs.Given.{GivenOutcome}
use Rattle.bench_top.specs.Installed.{EndsOn, HasReported, IsReportOn, nothing_given, nothing_printed}
use Rattle.bench_top.specs.Runs.{Runs}
use Rattle.bench_top.specs.Writes.{WritesAs, WroteWhole}

-- files that were noted in turn
module _ {S : Type 0} (reads : S → List ℕ → Answer → S → Type 0) (given : S → List NamedFile) (notes : NotesFiles reads given) where
  pub given-in_turn : (names texts : List (List ℕ)) (first last : S) → AnswersInTurn reads names (map Ok texts) first last → given last ≡ given first ++ named_texts names texts
  given-in_turn [] [] first last turn = ap given turn ∙ sym (append-nil (given first))
  given-in_turn (name ∷ names) [] first last turn = ap given turn ∙ sym (append-nil (given first))
  given-in_turn [] (text ∷ texts) first last turn = absurd turn
  given-in_turn (name ∷ names) (text ∷ texts) first last turn =
      given-in_turn names texts turn.0 last turn.1.1
      ∙ ap (λ (fs : List NamedFile). fs ++ named_texts names texts) (notes first name text turn.0 turn.1.0)
      ∙ append_assoc (given first) ((name, text) ∷ []) (named_texts names texts)

-- bytes that are told were printed
module _ {K : Type 0} (printed : K → List ℕ) (writes : K → List ℕ → ℕ → K → Type 0) where
  pub told-printed : (gives : List ℕ → Type 0) (before now : K) → (w : WroteWhole (λ k. Some (printed k)) writes gives before now) → printed now ≡ printed before ++ w.output
  told-printed gives before now w = let same : Some (printed now) ≡ Some (printed before ++ w.output) = w.now in cc same

-- a run with status 0 or 1 wrote its output whole
settled-wrote : {K : Type 0} (written : K → Option (List ℕ)) (writes : K → List ℕ → ℕ → K → Type 0) (gives : Status → List ℕ → Type 0) (status : Status) (before now : K) → IsSettled status → WritesAs written writes gives status before now → WroteWhole written writes (gives status) before now
settled-wrote written writes gives status before now (inl done) wrote = subst (λ (s : Status). WroteWhole written writes (gives s) before now) (sym done) (subst (λ (s : Status). WritesAs written writes gives s before now) done wrote)
settled-wrote written writes gives status before now (inr negative) wrote = subst (λ (s : Status). WroteWhole written writes (gives s) before now) (sym negative) (subst (λ (s : Status). WritesAs written writes gives s before now) negative wrote)

-- and its files were good
settled-held : (held : Loaded Task) (status : Status) (output : List ℕ) → IsSettled status → LoadedGives held status output → (given : Task) × (held ≡ All given)
settled-held (All given) status output settled gives = (given, refl)
settled-held (Bad file line kind) status output (inl done) gives = let no : Done ≡ BadInput = sym done ∙ gives.0 in cc no
settled-held (Bad file line kind) status output (inr negative) gives = let no : Negative ≡ BadInput = sym negative ∙ gives.0 in cc no
settled-held (Absent file) status output settled gives = absurd gives

module _ {S K : Type 0} (reads : S → List ℕ → Answer → S → Type 0) (given : S → List NamedFile) (notes : NotesFiles reads given) (printed : K → List ℕ) (writes : K → List ℕ → ℕ → K → Type 0) where
  pub has-reported : (row : Option Command) (status : Status) (first last : S) (before now : K) → IsSettled status → GivenOutcome reads (λ k. Some (printed k)) writes row status first last before now →
      HasReported row status (given first) (given last) (printed before) (printed now)
  has-reported None status first last before now settled o =
      absurd (settled-wrote (λ k. Some (printed k)) writes (CommandGives o.files None) status before now settled o.wrote).right
  has-reported (Some command) status first last before now settled o =
      let w = settled-wrote (λ k. Some (printed k)) writes (CommandGives o.files (Some (by_place command))) status before now settled o.wrote in
      let held = settled-held (loaded o.files (by_place command)) status w.output settled w.right in
      let all = all-returned reads 1 (names_in (Some command)) o.answers o.files first last o.in_turn o.given (loaded-places o.files command held.0 held.1) in
      record {
        files = named_texts (names_in (Some command)) all.0;
        bytes = w.output;
        given = given-in_turn reads given notes (names_in (Some command)) all.0 first last (subst (λ (answers : List Answer). AnswersInTurn reads (names_in (Some command)) answers first last) all.1 o.in_turn);
        printed = told-printed printed writes (CommandGives o.files (Some (by_place command)) status) before now w;
        is_report = record { texts = all.0; count = all.2; are = refl; gives = subst (λ (files : List NamedFile). CommandGives files (Some (by_place command)) status w.output) all.3 w.right };
      }

  -- whatever files were given and bytes printed, they are these
  pub reported-other : (row : Option Command) (status : Status) (first last : S) (before now : K) → IsSettled status → GivenOutcome reads (λ k. Some (printed k)) writes row status first last before now →
      (files : List NamedFile) (bytes : List ℕ) → given last ≡ given first ++ files → printed now ≡ printed before ++ bytes → IsReportOn row status files bytes
  reported-other row status first last before now settled o files bytes gave is =
      let r = has-reported row status first last before now settled o in
      let same_files = append_cancel_left (given first) r.files files (sym r.given ∙ gave) in
      let same_bytes = append_cancel_left (printed before) r.bytes bytes (sym r.printed ∙ is) in
      subst (λ (b : List ℕ). IsReportOn row status files b) same_bytes (subst (λ (fs : List NamedFile). IsReportOn row status fs r.bytes) same_files r.is_report)

-- the program, of one of its runs
pub ends_on : (words : List (List ℕ)) (status : Status) (shelf : OpenState) (sink : PrintState) →
    Runs (λ (s : OpenState). None) (λ (s : OpenState). false) (λ (s : OpenState). s.faults) IsOpened (λ (k : PrintState). Some k.printed) HasPrinted (λ (k : PrintState). k.faults) (command_of words) status nothing_given shelf nothing_printed sink →
    EndsOn words (code_of status) shelf sink
ends_on words status shelf sink runs = record {
  status = status;
  is_code = refl;
  ran = runs;
  reported = λ settled. reported-other IsOpened (λ (s : OpenState). s.given) (λ before name bytes now read. read.given) (λ (k : PrintState). k.printed) HasPrinted (command_of words) status nothing_given shelf nothing_printed sink settled runs.answered shelf.given sink.printed refl refl;
  silent = λ without. ap (λ (k : PrintState). k.printed) (runs.nothing without);
}

abbrev RunsFrom : List (List ℕ) → Status → (first last : OpenState) → (before now : PrintState) → Type 0
RunsFrom words status first last before now = Runs (λ (s : OpenState). None) (λ (s : OpenState). false) (λ (s : OpenState). s.faults) IsOpened (λ (k : PrintState). Some k.printed) HasPrinted (λ (k : PrintState). k.faults) (command_of words) status first last before now

-- the same, of what is equal to it
pub ends_from : (words given : List (List ℕ)) (code : ℕ) (status : Status) (first last shelf : OpenState) (before now sink : PrintState) → words ≡ given → first ≡ nothing_given → before ≡ nothing_printed → shelf ≡ last → sink ≡ now → code ≡ code_of status →
    RunsFrom words status first last before now → EndsOn given code shelf sink
ends_from words given code status first last shelf before now sink same from_shelf from_sink to_shelf to_sink is runs =
    let start = subst (λ (k : PrintState). RunsFrom given status nothing_given last k now) from_sink (subst (λ (s : OpenState). RunsFrom given status s last before now) from_shelf (subst (λ (ws : List (List ℕ)). RunsFrom ws status first last before now) same runs)) in
    subst (λ (n : ℕ). EndsOn given n shelf sink) (sym is) (subst (λ (k : PrintState). EndsOn given (code_of status) shelf k) (sym to_sink) (subst (λ (s : OpenState). EndsOn given (code_of status) s now) (sym to_shelf) (ends_on given status last now start)))
