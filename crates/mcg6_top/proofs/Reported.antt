-- What the program was given and what it printed, of a run at the source and the sink that are
-- installed. Idea: the source notes what its reads returned, and the run says what these bytes give.
use Rattle.std.proofs.Common.{◌≡◌, ◌∙◌, ℕ, List, [], ◌++◌, IsSomeAnd, Option, Some, None, refl, sym, ap, subst, append-nil}
use Rattle.std.proofs.lemmas.List.{append_cancel_left}
use Rattle.mcg6_encoder.specs.from_outside.Common.{HasPrinted, PrintState, ReadState, ReaderState}
use Rattle.mcg6_reader.specs.Common.{Appended}
use Rattle.mcg6_encoder.proofs.TakenBytes.{file-taken, gave-takes}
use Rattle.mcg6_top.specs.Common.{Mcg6Command, Answer, Encode, EncodeOutcome, EndsOn, HasListReport, InstalledRun, RowGives, code_of, command_of, file_named_by, nothing_printed, nothing_read}
use Rattle.mcg6_top.specs.declared.status.ListStatus.{ListStatus}
use Rattle.mcg6_top.proofs.Ended.{appended_encoding}

-- what was appended to bytes that are told was printed
printed-is : (holds : List ℕ → Type 0) (before now : PrintState) → (a : Appended holds (Some before.printed) (Some now.printed)) → now.printed ≡ before.printed ++ a.output
printed-is holds before now a = let same : Some now.printed ≡ Some (before.printed ++ a.output) = a.written in cc same

module _ (words : List (List ℕ)) (status : ListStatus) (first last : ReadState) (before now : PrintState) (runs : InstalledRun words status first last before now) where
  report-of : (row : Option Mcg6Command) → command_of words ≡ row → HasListReport row status first last before now
  report-of None is =
      let usage = runs.usage.1 is in
      record {
        read = [];
        printed = [];
        opened = ap (λ (s : ReadState). s.name) (runs.unread usage);
        given = ap (λ (s : ReadState). s.read) (runs.unread usage) ∙ sym (append-nil first.read);
        took = ap (λ (k : PrintState). k.printed) (runs.nothing usage) ∙ sym (append-nil before.printed);
        gives = (usage, refl, refl);
      }
  report-of (Some (Answer list)) is =
      let told = runs.from_read list is in
      let takes = gave-takes told.count told.bytes first last told.gave in
      record {
        read = told.bytes;
        printed = told.outcome.output;
        opened = takes.name;
        given = takes.read;
        took = printed-is _ before now told.outcome;
        gives = told.outcome.right;
      }
  report-of (Some (Encode name)) is =
      let order = runs.reads_first name is in
      let taken = file-taken (λ (k : PrintState). Some k.printed) HasPrinted order.ending first last before now order.order in
      let encodes = appended_encoding taken.file order.ending (Some before.printed) (Some now.printed) taken.encodes in
      record {
        read = taken.file;
        printed = encodes.output;
        opened = taken.takes.name;
        given = taken.takes.read;
        took = printed-is _ before now encodes;
        gives = subst (λ (s : ListStatus). EncodeOutcome taken.file s encodes.output) (sym order.of_status) encodes.right;
      }

  pub has-list-report : HasListReport (command_of words) status first last before now
  has-list-report = report-of (command_of words) refl

  -- whatever bytes were read and printed, they are these
  pub list-report-other : (read printed : List ℕ) → last.read ≡ first.read ++ read → now.printed ≡ before.printed ++ printed → RowGives (command_of words) status read printed
  list-report-other read printed gave took =
      let r = has-list-report in
      let same_read = append_cancel_left first.read r.read read (sym r.given ∙ gave) in
      let same_printed = append_cancel_left before.printed r.printed printed (sym r.took ∙ took) in
      subst (λ (p : List ℕ). RowGives (command_of words) status read p) same_printed (subst (λ (t : List ℕ). RowGives (command_of words) status t r.printed) same_read r.gives)

-- the program, of one of its runs
pub ends_on : (words : List (List ℕ)) (status : ListStatus) (source : ReadState) (sink : PrintState) →
    InstalledRun words status (nothing_read (file_named_by words)) source nothing_printed sink → EndsOn words (code_of status) source sink
ends_on words status source sink runs = record {
  status = status;
  is_code = refl;
  ran = runs;
  opened = (has-list-report words status (nothing_read (file_named_by words)) source nothing_printed sink runs).opened;
  gives = list-report-other words status (nothing_read (file_named_by words)) source nothing_printed sink runs source.read sink.printed refl refl;
}

-- what was opened by a name is that before it is read
pub opened-is : (opened : ReaderState) (source : ReadState) (name file : Option (List ℕ)) → source ≡ record { name = opened.name; read = opened.read; faults = 0; reason = None } → opened ≡ record { name = name; read = [] } → name ≡ file →
    source ≡ nothing_read file
opened-is opened source name file is at same = is ∙ ap (λ (o : ReaderState). record { name = o.name; read = o.read; faults = 0; reason = None }) at ∙ ap nothing_read same

-- the same, of what is equal to it
pub ends_from : (words given : List (List ℕ)) (status : ListStatus) (first last : ReadState) (before now sink : PrintState) (code : ℕ) (out : ℕ × Option ReadState) → words ≡ given → first ≡ nothing_read (file_named_by words) → before ≡ nothing_printed → sink ≡ now →
    out ≡ (code, Some last) → code ≡ code_of status → InstalledRun words status first last before now → IsSomeAnd out.1 (λ source. EndsOn given out.0 source sink)
ends_from words given status first last before now sink code out same from_source from_sink to_sink to_out is runs =
    let start : InstalledRun words status (nothing_read (file_named_by words)) last nothing_printed now =
    subst (λ (k : PrintState). InstalledRun words status (nothing_read (file_named_by words)) last k now) from_sink (subst (λ (s : ReadState). InstalledRun words status s last before now) from_source runs) in
    let on_given : InstalledRun given status (nothing_read (file_named_by given)) last nothing_printed now =
    subst (λ (ws : List (List ℕ)). InstalledRun ws status (nothing_read (file_named_by ws)) last nothing_printed now) same start in
    let ends : EndsOn given code last sink =
    subst (λ (n : ℕ). EndsOn given n last sink) (sym is) (subst (λ (k : PrintState). EndsOn given (code_of status) last k) (sym to_sink) (ends_on given status last now on_given)) in
    subst (λ (o : ℕ × Option ReadState). IsSomeAnd o.1 (λ source. EndsOn given o.0 source sink)) (sym to_out) ends
