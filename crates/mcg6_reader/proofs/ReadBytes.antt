-- What the reads of a source returned: the bytes of the steps so far, and then the last piece. What
-- was written, and what was reported, is what the lines of these bytes give.
use Rattle.std.proofs.Common.{◌≡◌, ℕ, zero, suc, List, [], ◌++◌, refl, sym, subst, ◌∙◌, ap, append_assoc, append-nil, Option, Some, None}
use Rattle.outside.specs.Common.{bytes_given}
use Rattle.outside.proofs.Pieces.{appended-nil}
use Rattle.line_text.specs.declared.faults.FaultKind.{FaultKind}
use Rattle.mcg6_reader.specs.declared.ending.BadLine.{BadLine}
use Rattle.mcg6_reader.specs.declared.ending.InputEnding.{InputEnding}
use Rattle.mcg6_reader.specs.declared.ending.InputEnding.TheVariants.{ReadFault, Memory}
use Rattle.mcg6_reader.specs.declared.place.LinePlace.{LinePlace}
use Rattle.mcg6_reader.specs.Common.{lines_of, BeginningTold, first_place, GivesOutput, Reported, ReportsWith, Added, StopsWith, WroteUpTo, Stage, Steps, ReadsGave, TellsRead}
use Rattle.mcg6_reader.proofs.Joins.{BeginningTold-none}
use Rattle.mcg6_reader.proofs.Stages.{wrote_appended}
use Rattle.mcg6_reader.proofs.Readings.{SoFar, gives_behind, reported_behind, so_far_begins, so_far_reports, written_behind}

-- the reads of the steps returned what the last stage has read
steps-gave :
    {S K : Type 0} (tells : LinePlace → List ℕ → List ℕ → Type 0) (reads : S → Option (List ℕ) → S → Type 0) (writes : K → List ℕ → ℕ → K → Type 0)
    (count : ℕ) (first last : Stage S K) (origin : S) (before : ℕ) →
    ReadsGave reads before first.read origin first.source → Steps tells reads writes count first last → (after : ℕ) × ReadsGave reads after last.read origin last.source
steps-gave {S} {K} tells reads writes zero first last origin before gave steps =
    (before, subst (λ (s : Stage S K). ReadsGave reads before s.read origin s.source) (sym steps) gave)
steps-gave tells reads writes (suc count) first last origin before gave steps =
    let step = steps.1.0 in
    steps-gave tells reads writes count steps.0 last origin (suc before) (first.read, Some step.piece, first.source, gave, step.read, step.reading) steps.1.1

module _ {S K : Type 0} {tells : LinePlace → List ℕ → List ℕ → Type 0} {reports : LinePlace → List ℕ → List BadLine → Type 0} {left : S → Option (List ℕ)} {reads : S → Option (List ℕ) → S → Type 0} {written : K → Option (List ℕ)} {writes : K → List ℕ → ℕ → K → Type 0} {place : LinePlace} {held : List ℕ} {source : S} {sink : K} {now_source : S} {now_sink : K} {founds now_founds : List BadLine} (so_far : SoFar tells reports left reads written writes place held source sink now_source now_sink founds now_founds) where
  abbrev read : List ℕ
  read = so_far.whole ++ held

  gave_so_far : (after : ℕ) × ReadsGave reads after read source now_source
  gave_so_far = steps-gave tells reads writes so_far.count _ _ source 0 (refl, refl) so_far.steps

  -- one more read, which returned this piece or failed
  gave_more : (piece : Option (List ℕ)) (bytes : List ℕ) (last_source : S) → bytes ≡ read ++ bytes_given piece → reads now_source piece last_source →
      (after : ℕ) × ReadsGave reads after bytes source last_source
  gave_more piece bytes last_source is reading = (suc gave_so_far.0, (read, piece, now_source, gave_so_far.1, is, reading))

  module _ (bad : LinePlace → List ℕ → FaultKind → Type 0) (lacks : ℕ → Option FaultKind) (ending : InputEnding) where
    -- the processing stopped in a piece
    pub read_stops : (piece : List ℕ) (last_source : S) (last_sink : K) (last_founds : List BadLine) → reads now_source (Some piece) last_source →
        WroteUpTo written writes (StopsWith tells bad lacks place (held ++ piece)) ending now_sink last_sink →
        Added (ReportsWith reports bad lacks place (held ++ piece) ending) now_founds last_founds →
        TellsRead tells bad lacks reports reads ending source last_source (written sink) (written last_sink) founds last_founds
    read_stops piece last_source last_sink last_founds reading wrote reported =
        let stops = wrote_appended written writes (StopsWith tells bad lacks place (held ++ piece))
        (λ rest. BeginningTold-none tells place (lines_of ((held ++ piece) ++ rest))) ending now_sink last_sink wrote in
        let joined : so_far.whole ++ ((held ++ piece) ++ []) ≡ read ++ piece =
        ap (λ (t : List ℕ). so_far.whole ++ t) (append-nil (held ++ piece)) ∙ sym (append_assoc so_far.whole held piece) in
        let gave = gave_more (Some piece) (read ++ piece) last_source refl reading in
        record {
          bytes = read ++ piece;
          count = gave.0;
          gave = gave.1;
          gives = record {
            output = so_far.output ++ stops.output;
            right =
                subst (λ (t : List ℕ). GivesOutput tells bad lacks first_place (lines_of t) ending (so_far.output ++ stops.output)) joined
                (gives_behind so_far bad lacks ending ((held ++ piece) ++ []) stops.output (stops.right []));
            written = written_behind (written sink) (written now_sink) (written last_sink) so_far.output stops.output so_far.wrote stops.written;
          };
          reported =
              subst (λ (t : List ℕ). Added (Reported reports bad lacks first_place (lines_of t) ending) founds last_founds) joined
              (reported_behind so_far bad lacks ending ((held ++ piece) ++ []) last_founds
              (record { more = reported.more; right = reported.right []; output = reported.output }));
        }

    -- the list ended
    pub read_end : (last_source : S) (last_sink : K) (last_founds : List BadLine) → reads now_source (Some []) last_source →
        WroteUpTo written writes (GivesOutput tells bad lacks place (lines_of held)) ending now_sink last_sink →
        Added (Reported reports bad lacks place (lines_of held) ending) now_founds last_founds →
        TellsRead tells bad lacks reports reads ending source last_source (written sink) (written last_sink) founds last_founds
    read_end last_source last_sink last_founds reading wrote reported =
        let gives = wrote_appended written writes (GivesOutput tells bad lacks place (lines_of held)) (BeginningTold-none tells place (lines_of held))
        ending now_sink last_sink wrote in
        let gave = gave_more (Some []) read last_source (sym (append-nil read)) reading in
        record {
          bytes = read;
          count = gave.0;
          gave = gave.1;
          gives = record {
            output = so_far.output ++ gives.output;
            right = gives_behind so_far bad lacks ending held gives.output gives.right;
            written = written_behind (written sink) (written now_sink) (written last_sink) so_far.output gives.output so_far.wrote gives.written;
          };
          reported = reported_behind so_far bad lacks ending held last_founds reported;
        }

    -- the processing stopped there, with an ending that asks for no more than a beginning
    read_begun : (after : ℕ) (last_source : S) → ReadsGave reads after read source last_source →
        ((lines : List (List ℕ)) (output : List ℕ) → BeginningTold tells first_place lines output → GivesOutput tells bad lacks first_place lines ending output) →
        ((lines : List (List ℕ)) (more : List BadLine) → BeginningTold reports first_place lines more → Reported reports bad lacks first_place lines ending more) →
        TellsRead tells bad lacks reports reads ending source last_source (written sink) (written now_sink) founds now_founds
    read_begun after last_source gave enough enough_reported = record {
      bytes = read;
      count = after;
      gave = gave;
      gives = record {
        output = so_far.output;
        right = enough (lines_of read) so_far.output (subst (λ (t : List ℕ). BeginningTold tells first_place (lines_of t) so_far.output) (append-nil read) (so_far_begins so_far []));
        written = so_far.wrote;
      };
      reported = record {
        more = so_far.reported.more;
        right = enough_reported (lines_of read) so_far.reported.more (subst (λ (t : List ℕ). BeginningTold reports first_place (lines_of t) so_far.reported.more) (append-nil read) (so_far_reports so_far []));
        output = so_far.reported.output;
      };
    }

  -- a read failed
  pub read_torn : (bad : LinePlace → List ℕ → FaultKind → Type 0) (lacks : ℕ → Option FaultKind) (last_source : S) → reads now_source None last_source →
      TellsRead tells bad lacks reports reads ReadFault source last_source (written sink) (written now_sink) founds now_founds
  read_torn bad lacks last_source reading =
      let gave = gave_more None read last_source (sym (append-nil read)) reading in
      read_begun bad lacks _ gave.0 last_source gave.1 (λ lines output told. told) (λ lines more told. told)

  -- memory ran out between two reads
  pub read_memory : (bad : LinePlace → List ℕ → FaultKind → Type 0) (lacks : ℕ → Option FaultKind) →
      TellsRead tells bad lacks reports reads Memory source now_source (written sink) (written now_sink) founds now_founds
  read_memory bad lacks = read_begun bad lacks _ gave_so_far.0 now_source gave_so_far.1 (λ lines output told. told) (λ lines more told. told)

-- nothing was read or written
pub read_nothing :
    {S : Type 0} (tells : LinePlace → List ℕ → List ℕ → Type 0) (bad : LinePlace → List ℕ → FaultKind → Type 0) (lacks : ℕ → Option FaultKind)
    (reports : LinePlace → List ℕ → List BadLine → Type 0) (reads : S → Option (List ℕ) → S → Type 0) (source : S) (written : Option (List ℕ)) (founds : List BadLine) →
    TellsRead tells bad lacks reports reads Memory source source written written founds founds
read_nothing tells bad lacks reports reads source written founds = record {
  bytes = [];
  count = 0;
  gave = (refl, refl);
  gives = record { output = []; right = BeginningTold-none tells first_place (lines_of []); written = sym (appended-nil written) };
  reported = record { more = []; right = BeginningTold-none reports first_place (lines_of []); output = sym (append-nil founds) };
}
