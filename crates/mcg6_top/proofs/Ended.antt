-- What a list or a graph file gives up to an ending is what it stands for with the status of that
-- ending: one case for each ending.
use Rattle.std.proofs.Common.{◌≡◌, ◌∙◌, inl, inr, ℕ, List, [], ◌∷◌, refl, sym, subst, Option, Some, None}
use Rattle.std.proofs.lemmas.Option.{none-some}
use Rattle.mcg6_lines.specs.declared.query.Query.{Query}
use Rattle.mcg6_reader.specs.declared.ending.InputEnding.{InputEnding}
use Rattle.mcg6_reader.specs.declared.ending.InputEnding.TheVariants.{Done, Bad, ReadFault, WriteFault, Memory}
use Rattle.mcg6_reader.specs.declared.ending.BadLine.{BadLine}
use Rattle.mcg6_reader.specs.Common.{lines_of, first_place, Appended, Reports, TellsList, TellsRead}
use Rattle.mcg6_top.proofs.Skipping.{added_whole, all_plain}
use Rattle.mcg6_top.specs.Common.{Mcg6Command, Answer, Encode, ListCommand, ListRuns, ListRunsTo, AnswersList, command_of, list_asked, TellsOrSkips, ListStopsAt, SkipsLine, lacks_of, EndsWith, SkipsUpTo, ListOutcome, OutcomeOfRead, TellsSome, status_in, status_after, status_encoded, EncodeOutcome, EncodesSome}
use Rattle.mcg6_top.specs.declared.command.AtBadLine.{AtBadLine}
use Rattle.mcg6_top.specs.declared.status.ListEnding.{ListEnding}
use Rattle.mcg6_top.specs.declared.status.ListRunEnding.{ListRunEnding}
use Rattle.mcg6_top.specs.declared.status.ListRunEnding.TheVariants.{Answered, Encoded}
use Rattle.mcg6_top.specs.declared.status.ListStatus.TheVariants as status
use Rattle.mcg6_top.specs.declared.status.ListStatus.TheVariants.{Usage}
use Rattle.mcg6_reader.specs.declared.ending.InputEnding.TheVariants as encoding
use Rattle.mcg6_encoder.specs.Files.{Encodes}
use Rattle.mcg6_encoder.specs.Reads.{EncodesFile}

-- what a list gives up to an ending, by its status: without a report on a skipped line all lines
-- are answered
pub outcome_of_ending :
    (query : Query) (at_bad : AtBadLine) (bytes : List ℕ) (ending : InputEnding) (skipped : List BadLine) (output : List ℕ) →
    EndsWith query at_bad bytes ending output → SkipsUpTo query at_bad bytes ending skipped →
    ListOutcome query at_bad bytes (status_after ending skipped) output
outcome_of_ending query at_bad bytes Done [] output gives skips =
    record { told = all_plain query at_bad first_place (lines_of bytes) output gives.told skips; ends = gives.ends }
outcome_of_ending query at_bad bytes Done (found ∷ founds) output gives skips =
    inr (record { told = gives; first = found; others = founds; skipped = skips })
outcome_of_ending query at_bad bytes (Bad found) skipped output gives skips = inl (record { found = found; told = gives })
outcome_of_ending query at_bad bytes ReadFault skipped output gives skips = gives
outcome_of_ending query at_bad bytes WriteFault skipped output gives skips = gives
outcome_of_ending query at_bad bytes Memory skipped output gives skips = gives

-- what was appended up to an ending, by its status
pub appended_outcome :
    (query : Query) (at_bad : AtBadLine) (bytes : List ℕ) (ending : InputEnding) (skipped : List BadLine) (before now : Option (List ℕ)) →
    Appended (EndsWith query at_bad bytes ending) before now → SkipsUpTo query at_bad bytes ending skipped →
    Appended (ListOutcome query at_bad bytes (status_after ending skipped)) before now
appended_outcome query at_bad bytes ending skipped before now appended skips = record {
  output = appended.output;
  right = outcome_of_ending query at_bad bytes ending skipped appended.output appended.right skips;
  written = appended.written;
}

-- the answer to some list, by the status
pub tells_some :
    (query : Query) (at_bad : AtBadLine) (ending : InputEnding) (skipped : List BadLine) (left before now : Option (List ℕ)) →
    TellsList (TellsOrSkips query at_bad) (ListStopsAt query at_bad) (lacks_of query) (Reports (SkipsLine query at_bad)) ending left before now [] skipped →
    TellsSome query at_bad (status_after ending skipped) left before now
tells_some query at_bad ending skipped left before now list = record {
  bytes = list.bytes;
  is_left = list.is_left;
  outcome =
      appended_outcome query at_bad list.bytes ending skipped before now list.gives
      (added_whole (SkipsUpTo query at_bad list.bytes ending) skipped list.reported);
}

-- and of what was read
pub outcome_of_read :
    {S : Type 0} (query : Query) (at_bad : AtBadLine) (ending : InputEnding) (skipped : List BadLine) (reads : S → Option (List ℕ) → S → Type 0) (first last : S) (before now : Option (List ℕ)) →
    TellsRead (TellsOrSkips query at_bad) (ListStopsAt query at_bad) (lacks_of query) (Reports (SkipsLine query at_bad)) reads ending first last before now [] skipped →
    OutcomeOfRead query at_bad reads (status_after ending skipped) first last before now
outcome_of_read query at_bad ending skipped reads first last before now told = record {
  bytes = told.bytes;
  count = told.count;
  gave = told.gave;
  outcome =
      appended_outcome query at_bad told.bytes ending skipped before now told.gives
      (added_whole (SkipsUpTo query at_bad told.bytes ending) skipped told.reported);
}

encode_outcome_of_ending :
    (file : List ℕ) (ending : InputEnding) (output : List ℕ) → Encodes file ending output → EncodeOutcome file (status_encoded ending) output
encode_outcome_of_ending file encoding.Done output encodes = encodes
encode_outcome_of_ending file (encoding.Bad found) output encodes = record { found = found; bad = encodes.0; nothing = encodes.1 }
encode_outcome_of_ending file encoding.ReadFault output encodes = encodes
encode_outcome_of_ending file encoding.WriteFault output encodes = encodes
encode_outcome_of_ending file encoding.Memory output encodes = encodes

-- the same of a graph file
pub appended_encoding :
    (file : List ℕ) (ending : InputEnding) (before now : Option (List ℕ)) →
    Appended (Encodes file ending) before now → Appended (EncodeOutcome file (status_encoded ending)) before now
appended_encoding file ending before now appended = record {
  output = appended.output;
  right = encode_outcome_of_ending file ending appended.output appended.right;
  written = appended.written;
}

pub encodes_some :
    (ending : InputEnding) (left before now : Option (List ℕ)) → EncodesFile ending left before now → EncodesSome (status_encoded ending) left before now
encodes_some ending left before now encodes = record {
  file = encodes.file;
  is_left = encodes.is_left;
  outcome = appended_encoding encodes.file ending before now encodes.encodes;
}

-- a list that ended so ended with the status of that ending
not_usage : (ending : InputEnding) (skipped : List BadLine) → status_after ending skipped ≡ Usage → ⊥
not_usage Done [] is = cc is
not_usage Done (found ∷ founds) is = cc is
not_usage (Bad found) skipped is = cc is
not_usage ReadFault skipped is = cc is
not_usage WriteFault skipped is = cc is
not_usage Memory skipped is = cc is

read_of : (ending : InputEnding) (skipped : List BadLine) → status_after ending skipped ≡ status.ReadFault → ending ≡ ReadFault
read_of Done [] is = absurd (cc is)
read_of Done (found ∷ founds) is = absurd (cc is)
read_of (Bad found) skipped is = absurd (cc is)
read_of ReadFault skipped is = refl
read_of WriteFault skipped is = absurd (cc is)
read_of Memory skipped is = absurd (cc is)

write_of : (ending : InputEnding) (skipped : List BadLine) → status_after ending skipped ≡ status.WriteFault → ending ≡ WriteFault
write_of Done [] is = absurd (cc is)
write_of Done (found ∷ founds) is = absurd (cc is)
write_of (Bad found) skipped is = absurd (cc is)
write_of ReadFault skipped is = absurd (cc is)
write_of WriteFault skipped is = refl
write_of Memory skipped is = absurd (cc is)

-- the same of a graph file
not_usage-file : (ending : InputEnding) → status_encoded ending ≡ Usage → ⊥
not_usage-file encoding.Done is = cc is
not_usage-file (encoding.Bad found) is = cc is
not_usage-file encoding.ReadFault is = cc is
not_usage-file encoding.WriteFault is = cc is
not_usage-file encoding.Memory is = cc is

read_of-file : (ending : InputEnding) → status_encoded ending ≡ status.ReadFault → ending ≡ encoding.ReadFault
read_of-file encoding.Done is = absurd (cc is)
read_of-file (encoding.Bad found) is = absurd (cc is)
read_of-file encoding.ReadFault is = refl
read_of-file encoding.WriteFault is = absurd (cc is)
read_of-file encoding.Memory is = absurd (cc is)

write_of-file : (ending : InputEnding) → status_encoded ending ≡ status.WriteFault → ending ≡ encoding.WriteFault
write_of-file encoding.Done is = absurd (cc is)
write_of-file (encoding.Bad found) is = absurd (cc is)
write_of-file encoding.ReadFault is = absurd (cc is)
write_of-file encoding.WriteFault is = refl
write_of-file encoding.Memory is = absurd (cc is)

-- words that ask for one thing ask for no other
same_list : (list other : ListCommand) (o : Option Mcg6Command) → o ≡ Some (Answer list) → o ≡ Some (Answer other) → list ≡ other
same_list list other o is at = let same : Some (Answer list) ≡ Some (Answer other) = sym is ∙ at in cc same

list_or_file : (list : ListCommand) (name : List ℕ) (o : Option Mcg6Command) → o ≡ Some (Answer list) → o ≡ Some (Encode name) → ⊥
list_or_file list name o is at = let same : Some (Answer list) ≡ Some (Encode name) = sym is ∙ at in cc same

module _ {S K : Type 0} (left : S → Option (List ℕ)) (faults : S → ℕ) (reads : S → Option (List ℕ) → S → Type 0) (written : K → Option (List ℕ)) (writes : K → List ℕ → ℕ → K → Type 0) (sink_faults : K → ℕ) where
  -- the answer to the list that the words ask for
  list_answered :
      (words : List (List ℕ)) (list command : ListCommand) (end : ListEnding) (first last : S) (before now : K) →
      AnswersList list.query list.at_bad left faults reads written writes sink_faults end first last before now →
      command_of words ≡ Some (Answer list) → command_of words ≡ Some (Answer command) →
      AnswersList command.query command.at_bad left faults reads written writes sink_faults end first last before now
  list_answered words list command end first last before now answers is asked =
      subst (λ (c : ListCommand). AnswersList c.query c.at_bad left faults reads written writes sink_faults end first last before now)
      (same_list list command (command_of words) is asked) answers

  -- a run by its status
  pub runs_by_status :
      (words : List (List ℕ)) (ended : Option ListRunEnding) (first last : S) (before now : K) →
      ListRunsTo left faults reads written writes sink_faults words ended first last before now →
      ListRuns left faults reads written writes sink_faults words (status_in ended) first last before now
  runs_by_status words None first last before now runs =
      let no_command : (command : Mcg6Command) → command_of words ≡ Some command → ⊥ = λ command is. none-some command (sym (runs.usage.0 refl) ∙ is) in
      record {
        usage = (λ e. runs.usage.0 refl, λ e. refl);
        unread = λ e. runs.unread refl;
        nothing = λ e. runs.nothing refl;
        read_fault = λ e. cc e;
        write_fault = λ e. cc e;
        outcome = λ command bytes is told. absurd (no_command (Answer command) is);
        tells = λ command is. absurd (no_command (Answer command) is);
        from_read = λ command is. absurd (no_command (Answer command) is);
        torn = λ command is fault. absurd (no_command (Answer command) is);
        streams = λ command is. absurd (no_command (Answer command) is);
        encodes = λ name file is told. absurd (no_command (Encode name) is);
        encodes_some = λ name is. absurd (no_command (Encode name) is);
        reads_first = λ name is. absurd (no_command (Encode name) is);
      }
  runs_by_status words (Some (Answered list end)) first last before now runs =
      let asked : command_of words ≡ Some (Answer (list_asked list)) = runs.command (Answered list end) refl in
      let answers = runs.performs (Answered list end) refl in
      let of = λ (command : ListCommand) (is : command_of words ≡ Some (Answer command)).
      list_answered words (list_asked list) command end first last before now answers asked is in
      record {
        usage = (λ e. absurd (not_usage end.ending end.skipped.items e), λ none. absurd (none-some _ (sym none ∙ asked)));
        unread = λ e. absurd (not_usage end.ending end.skipped.items e);
        nothing = λ e. absurd (not_usage end.ending end.skipped.items e);
        read_fault = λ e. answers.read_fault (read_of end.ending end.skipped.items e);
        write_fault = λ e. answers.write_fault (write_of end.ending end.skipped.items e);
        outcome = λ command bytes is told.
            let told_list = of command is in
            appended_outcome command.query command.at_bad bytes end.ending end.skipped.items (written before) (written now) (told_list.outcome bytes told) (told_list.skips bytes told);
        tells = λ command is.
            tells_some command.query command.at_bad end.ending end.skipped.items (left first) (written before) (written now) (of command is).tells;
        from_read = λ command is.
            outcome_of_read command.query command.at_bad end.ending end.skipped.items reads first last (written before) (written now) (of command is).from_read;
        torn = λ command is fault. (of command is).torn (read_of end.ending end.skipped.items fault);
        streams = λ command is.
            let told_list = of command is in
            record { ending = end.ending; skipped = end.skipped.items; of_status = refl; none_skipped = told_list.skips_none; stream = told_list.streams };
        encodes = λ name file is told. absurd (list_or_file (list_asked list) name (command_of words) asked is);
        encodes_some = λ name is. absurd (list_or_file (list_asked list) name (command_of words) asked is);
        reads_first = λ name is. absurd (list_or_file (list_asked list) name (command_of words) asked is);
      }
  runs_by_status words (Some (Encoded file ending)) first last before now runs =
      let asked : command_of words ≡ Some (Encode file.now) = runs.command (Encoded file ending) refl in
      let answers = runs.performs (Encoded file ending) refl in
      let no_list : (command : ListCommand) → command_of words ≡ Some (Answer command) → ⊥ =
      λ command is. list_or_file command file.now (command_of words) is asked in
      record {
        usage = (λ e. absurd (not_usage-file ending e), λ none. absurd (none-some _ (sym none ∙ asked)));
        unread = λ e. absurd (not_usage-file ending e);
        nothing = λ e. absurd (not_usage-file ending e);
        read_fault = λ e. answers.read_fault (read_of-file ending e);
        write_fault = λ e. answers.write_fault (write_of-file ending e);
        outcome = λ command bytes is told. absurd (no_list command is);
        tells = λ command is. absurd (no_list command is);
        from_read = λ command is. absurd (no_list command is);
        torn = λ command is fault. absurd (no_list command is);
        streams = λ command is. absurd (no_list command is);
        encodes = λ name bytes is told. appended_encoding bytes ending (written before) (written now) (answers.encodes bytes told);
        encodes_some = λ name is. encodes_some ending (left first) (written before) (written now) answers.encodes_some;
        reads_first = λ name is. record { ending = ending; of_status = refl; order = answers.reads_first };
      }
