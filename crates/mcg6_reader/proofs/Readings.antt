-- A list is read piece by piece. What was read so far is lines that have been processed and the
-- bytes held after them; so what the next piece gives, after what is held, is what the lines of the
-- list give there.
use Rattle.std.proofs.Common.{◌≡◌, inl, ℕ, suc, ◌≤◌, List, [], ◌++◌, length, refl, sym, subst, ◌∙◌, ap, arith, append_assoc, append-nil, Option, Some}
use Rattle.std.proofs.lemmas.List.{append_cancel_right}
use Rattle.outside.specs.Common.{appended, prepended, IsAtEnd, most_line}
use Rattle.outside.proofs.Pieces.{appended-nil, appended-appended}
use Rattle.line_text.specs.declared.faults.FaultKind.{FaultKind}
use Rattle.mcg6_reader.specs.declared.ending.BadLine.{BadLine}
use Rattle.mcg6_reader.specs.declared.ending.InputEnding.{InputEnding}
use Rattle.mcg6_reader.specs.declared.ending.InputEnding.TheVariants.{Memory}
use Rattle.mcg6_reader.specs.declared.place.LinePlace.{LinePlace}
use Rattle.mcg6_reader.specs.Common.{lines_of, HasNoFeed, IsClosedText, AllTold, BeginningTold, first_place, place_behind, GivesOutput, Reported, ReportsWith, Added, Appended, ToldThrough, StopsWith, TellsList, ReadsTold, Wrote, WroteUpTo, Steps}
use Rattle.mcg6_reader.proofs.LineCuts.{lines_of-nil, lines_of-closed, IsClosedText-append}
use Rattle.mcg6_reader.proofs.Joins.{place_behind-append, AllTold-append, BeginningTold-none, GivesOutput-behind}
use Rattle.mcg6_reader.proofs.Skips.{Reported-behind}
use Rattle.mcg6_reader.proofs.Stages.{steps_more, wrote_appended}
use Rattle.mcg6_reader.proofs.LeftBytes.{prepended-nil, list_is, list_ends, piece_read}

-- the lines up to that place were processed, these bytes are held after them, and each step was
-- processed as it was read
pub record SoFar {S K : Type 0} (tells : LinePlace → List ℕ → List ℕ → Type 0) (reports : LinePlace → List ℕ → List BadLine → Type 0) (left : S → Option (List ℕ)) (reads : S → Option (List ℕ) → S → Type 0) (written : K → Option (List ℕ)) (writes : K → List ℕ → ℕ → K → Type 0) (place : LinePlace) (held : List ℕ) (source : S) (sink : K) (now_source : S) (now_sink : K) (founds now_founds : List BadLine) : Type 0 where
  pub whole : List ℕ
  pub output : List ℕ
  pub count : ℕ
  pub leaves : left source ≡ prepended (whole ++ held) (left now_source)
  pub closed : IsClosedText whole
  pub told : AllTold tells first_place (lines_of whole) output
  pub reported : Added (AllTold reports first_place (lines_of whole)) founds now_founds
  pub at : place ≡ place_behind first_place (lines_of whole)
  pub wrote : written now_sink ≡ appended (written sink) output
  pub no_feed : HasNoFeed held
  pub short : length held ≤ most_line
  pub steps : Steps tells reads writes count (record { read = []; output = []; source = source; sink = sink }) (record { read = whole ++ held; output = output; source = now_source; sink = now_sink })

-- nothing was read
pub so_far_none :
    {S K : Type 0} (tells : LinePlace → List ℕ → List ℕ → Type 0) (reports : LinePlace → List ℕ → List BadLine → Type 0)
    (left : S → Option (List ℕ)) (reads : S → Option (List ℕ) → S → Type 0) (written : K → Option (List ℕ)) (writes : K → List ℕ → ℕ → K → Type 0)
    (place : LinePlace) (held : List ℕ) (source : S) (sink : K) (founds : List BadLine) →
    place ≡ first_place → held ≡ [] → SoFar tells reports left reads written writes place held source sink source sink founds founds
so_far_none tells reports left reads written writes place held source sink founds start empty =
    subst (λ (t : List ℕ). SoFar tells reports left reads written writes place t source sink source sink founds founds) (sym empty)
    (record {
      whole = [];
      output = [];
      count = 0;
      leaves = sym (prepended-nil (left source));
      closed = inl refl;
      told = subst (λ (ls : List (List ℕ)). AllTold tells first_place ls []) (sym lines_of-nil) refl;
      reported = record {
        more = [];
        right = subst (λ (ls : List (List ℕ)). AllTold reports first_place ls []) (sym lines_of-nil) refl;
        output = sym (append-nil founds);
      };
      at = start ∙ ap (λ (ls : List (List ℕ)). place_behind first_place ls) (sym lines_of-nil);
      wrote = sym (appended-nil (written sink));
      no_feed = refl;
      short = omega arith;
      steps = refl;
    })

pub written_behind :
    (before now next : Option (List ℕ)) (first second : List ℕ) →
    now ≡ appended before first → next ≡ appended now second → next ≡ appended before (first ++ second)
written_behind before now next first second one two =
    two ∙ ap (λ (o : Option (List ℕ)). appended o second) one ∙ appended-appended before first second

module _ {S K : Type 0} {tells : LinePlace → List ℕ → List ℕ → Type 0} {reports : LinePlace → List ℕ → List BadLine → Type 0} {left : S → Option (List ℕ)} {reads : S → Option (List ℕ) → S → Type 0} {written : K → Option (List ℕ)} {writes : K → List ℕ → ℕ → K → Type 0} {place : LinePlace} {held : List ℕ} {source : S} {sink : K} {now_source : S} {now_sink : K} {founds now_founds : List BadLine} (so_far : SoFar tells reports left reads written writes place held source sink now_source now_sink founds now_founds) where
  -- a piece was read, and the lines that it completed were processed
  pub so_far_piece :
      (more_place : LinePlace) (piece more_held : List ℕ) (next_source : S) (next_sink : K) (next_founds : List BadLine) →
      reads now_source (Some piece) next_source → left now_source ≡ prepended piece (left next_source) →
      Wrote written writes (ToldThrough tells place (held ++ piece) more_held more_place) now_sink next_sink →
      Added (ToldThrough reports place (held ++ piece) more_held more_place) now_founds next_founds →
      HasNoFeed more_held → length more_held ≤ most_line →
      SoFar tells reports left reads written writes more_place more_held source sink next_source next_sink founds next_founds
  so_far_piece more_place piece more_held next_source next_sink next_founds reading taken more reported no_feed short =
      let whole = so_far.whole in
      let through = more.right in
      let all : lines_of (whole ++ through.whole) ≡ lines_of whole ++ lines_of through.whole =
      lines_of-closed whole through.whole so_far.closed in
      let joined : whole ++ (held ++ piece) ≡ (whole ++ through.whole) ++ more_held =
      ap (λ (t : List ℕ). whole ++ t) through.cut ∙ sym (append_assoc whole through.whole more_held) in
      let closed = IsClosedText-append whole through.whole so_far.closed through.closed in
      let more_told =
      subst (λ (p : LinePlace). AllTold tells p (lines_of through.whole) more.output) so_far.at through.told in
      let told =
      subst (λ (ls : List (List ℕ)). AllTold tells first_place ls (so_far.output ++ more.output)) (sym all)
      (AllTold-append tells first_place (lines_of whole) (lines_of through.whole) so_far.output more.output so_far.told more_told) in
      let same : reported.right.whole ≡ through.whole =
      append_cancel_right reported.right.whole through.whole more_held (sym reported.right.cut ∙ through.cut) in
      let more_reported =
      subst (λ (p : LinePlace). AllTold reports p (lines_of through.whole) reported.more) so_far.at
      (subst (λ (t : List ℕ). AllTold reports place (lines_of t) reported.more) same reported.right.told) in
      record {
        whole = whole ++ through.whole;
        output = so_far.output ++ more.output;
        count = suc so_far.count;
        leaves =
            piece_read whole held piece (left source) (left now_source) (left next_source) so_far.leaves taken
            ∙ ap (λ (t : List ℕ). prepended t (left next_source)) joined;
        closed = closed;
        told = told;
        reported = record {
          more = so_far.reported.more ++ reported.more;
          right =
              subst (λ (ls : List (List ℕ)). AllTold reports first_place ls (so_far.reported.more ++ reported.more)) (sym all)
              (AllTold-append reports first_place (lines_of whole) (lines_of through.whole) so_far.reported.more reported.more
              so_far.reported.right more_reported);
          output =
              reported.output
              ∙ ap (λ (f : List BadLine). f ++ reported.more) so_far.reported.output
              ∙ append_assoc founds so_far.reported.more reported.more;
        };
        at =
            through.place
            ∙ ap (λ (p : LinePlace). place_behind p (lines_of through.whole)) so_far.at
            ∙ sym (place_behind-append first_place (lines_of whole) (lines_of through.whole))
            ∙ ap (λ (ls : List (List ℕ)). place_behind first_place ls) (sym all);
        wrote =
            more.now
            ∙ ap (λ (o : Option (List ℕ)). appended o more.output) so_far.wrote
            ∙ appended-appended (written sink) so_far.output more.output;
        no_feed = no_feed;
        short = short;
        steps =
            steps_more tells reads writes so_far.count _ _ _ so_far.steps
            (record {
              piece = piece;
              more = more.output;
              reading = reading;
              read = sym joined ∙ sym (append_assoc whole held piece);
              writing = more.whole;
              output = refl;
              told = record {
                whole = whole ++ through.whole;
                part = more_held;
                cut = refl;
                closed = closed;
                no_feed = no_feed;
                short = short;
                told = told;
              };
            });
      }

  -- the processing stopped before a piece was read
  pub so_far_begins : (rest : List ℕ) → BeginningTold tells first_place (lines_of ((so_far.whole ++ held) ++ rest)) so_far.output
  so_far_begins rest = grind (arith, append_assoc so_far.whole held rest, lines_of-closed so_far.whole (held ++ rest) so_far.closed)

  pub so_far_reports : (rest : List ℕ) → BeginningTold reports first_place (lines_of ((so_far.whole ++ held) ++ rest)) so_far.reported.more
  so_far_reports rest = grind (arith, append_assoc so_far.whole held rest, lines_of-closed so_far.whole (held ++ rest) so_far.closed)

  -- a read failed: each complete line of what was read has been processed
  pub so_far_torn : (last_source : S) → left last_source ≡ left now_source → Appended (ReadsTold tells (left source) (left last_source)) (written sink) (written now_sink)
  so_far_torn last_source same = grind arith

  module _ (bad : LinePlace → List ℕ → FaultKind → Type 0) (lacks : ℕ → Option FaultKind) (ending : InputEnding) where
    -- the output of the lines after the processed ones is that of the list
    pub gives_behind : (rest output : List ℕ) → GivesOutput tells bad lacks place (lines_of rest) ending output → GivesOutput tells bad lacks first_place (lines_of (so_far.whole ++ rest)) ending (so_far.output ++ output)
    gives_behind rest output gives =
        subst (λ (ls : List (List ℕ)). GivesOutput tells bad lacks first_place ls ending (so_far.output ++ output))
        (sym (lines_of-closed so_far.whole rest so_far.closed))
        (GivesOutput-behind tells bad lacks first_place (lines_of so_far.whole) (lines_of rest) so_far.output output ending so_far.told
        (subst (λ (p : LinePlace). GivesOutput tells bad lacks p (lines_of rest) ending output) so_far.at gives))

    -- and so are the reports on them
    pub reported_behind : (rest : List ℕ) (last_founds : List BadLine) → Added (Reported reports bad lacks place (lines_of rest) ending) now_founds last_founds → Added (Reported reports bad lacks first_place (lines_of (so_far.whole ++ rest)) ending) founds last_founds
    reported_behind rest last_founds more = record {
      more = so_far.reported.more ++ more.more;
      right =
          subst (λ (ls : List (List ℕ)). Reported reports bad lacks first_place ls ending (so_far.reported.more ++ more.more))
          (sym (lines_of-closed so_far.whole rest so_far.closed))
          (Reported-behind reports bad lacks first_place (lines_of so_far.whole) (lines_of rest) so_far.reported.more more.more ending so_far.reported.right
          (subst (λ (p : LinePlace). Reported reports bad lacks p (lines_of rest) ending more.more) so_far.at more.right));
      output =
          more.output
          ∙ ap (λ (f : List BadLine). f ++ more.more) so_far.reported.output
          ∙ append_assoc founds so_far.reported.more more.more;
    }

    -- the processing stopped in a piece
    pub so_far_stops : (piece : List ℕ) (last_source : S) (last_sink : K) (last_founds : List BadLine) → left now_source ≡ prepended piece (left last_source) →
        WroteUpTo written writes (StopsWith tells bad lacks place (held ++ piece)) ending now_sink last_sink →
        Added (ReportsWith reports bad lacks place (held ++ piece) ending) now_founds last_founds →
        TellsList tells bad lacks reports ending (left source) (written sink) (written last_sink) founds last_founds
    so_far_stops piece last_source last_sink last_founds taken wrote reported =
        let whole = so_far.whole in
        let list = list_is (left source) (left last_source) (whole ++ (held ++ piece))
        (piece_read whole held piece (left source) (left now_source) (left last_source) so_far.leaves taken) in
        let stops = wrote_appended written writes (StopsWith tells bad lacks place (held ++ piece))
        (λ rest. BeginningTold-none tells place (lines_of ((held ++ piece) ++ rest))) ending now_sink last_sink wrote in
        let joined : whole ++ ((held ++ piece) ++ list.rest) ≡ (whole ++ (held ++ piece)) ++ list.rest =
        sym (append_assoc whole (held ++ piece) list.rest) in
        record {
          bytes = (whole ++ (held ++ piece)) ++ list.rest;
          is_left = list.is_left;
          gives = record {
            output = so_far.output ++ stops.output;
            right =
                subst (λ (t : List ℕ). GivesOutput tells bad lacks first_place (lines_of t) ending (so_far.output ++ stops.output)) joined
                (gives_behind ((held ++ piece) ++ list.rest) stops.output (stops.right list.rest));
            written = written_behind (written sink) (written now_sink) (written last_sink) so_far.output stops.output so_far.wrote stops.written;
          };
          reported =
              subst (λ (t : List ℕ). Added (Reported reports bad lacks first_place (lines_of t) ending) founds last_founds) joined
              (reported_behind ((held ++ piece) ++ list.rest) last_founds
              (record { more = reported.more; right = reported.right list.rest; output = reported.output }));
        }

    -- the list ended
    pub so_far_end : (last_source : S) (last_sink : K) (last_founds : List BadLine) → left now_source ≡ prepended [] (left last_source) → IsAtEnd (left last_source) →
        WroteUpTo written writes (GivesOutput tells bad lacks place (lines_of held)) ending now_sink last_sink →
        Added (Reported reports bad lacks place (lines_of held) ending) now_founds last_founds →
        TellsList tells bad lacks reports ending (left source) (written sink) (written last_sink) founds last_founds
    so_far_end last_source last_sink last_founds taken end wrote reported =
        let same : left now_source ≡ left last_source = taken ∙ prepended-nil (left last_source) in
        let gives = wrote_appended written writes (GivesOutput tells bad lacks place (lines_of held)) (BeginningTold-none tells place (lines_of held))
        ending now_sink last_sink wrote in
        record {
          bytes = so_far.whole ++ held;
          is_left =
              list_ends (left source) (left last_source) (so_far.whole ++ held)
              (so_far.leaves ∙ ap (prepended (so_far.whole ++ held)) same) end;
          gives = record {
            output = so_far.output ++ gives.output;
            right = gives_behind held gives.output gives.right;
            written = written_behind (written sink) (written now_sink) (written last_sink) so_far.output gives.output so_far.wrote gives.written;
          };
          reported = reported_behind held last_founds reported;
        }

    -- the processing stopped there, with an ending that asks for no more than a beginning
    pub so_far_begun : ((lines : List (List ℕ)) (output : List ℕ) → BeginningTold tells first_place lines output → GivesOutput tells bad lacks first_place lines ending output) →
        ((lines : List (List ℕ)) (more : List BadLine) → BeginningTold reports first_place lines more → Reported reports bad lacks first_place lines ending more) →
        TellsList tells bad lacks reports ending (left source) (written sink) (written now_sink) founds now_founds
    so_far_begun enough enough_reported =
        let list = list_is (left source) (left now_source) (so_far.whole ++ held) so_far.leaves in
        record {
          bytes = (so_far.whole ++ held) ++ list.rest;
          is_left = list.is_left;
          gives = record {
            output = so_far.output;
            right = enough (lines_of ((so_far.whole ++ held) ++ list.rest)) so_far.output (so_far_begins list.rest);
            written = so_far.wrote;
          };
          reported = record {
            more = so_far.reported.more;
            right = enough_reported (lines_of ((so_far.whole ++ held) ++ list.rest)) so_far.reported.more (so_far_reports list.rest);
            output = so_far.reported.output;
          };
        }

-- nothing was read or written
pub untouched :
    (tells : LinePlace → List ℕ → List ℕ → Type 0) (bad : LinePlace → List ℕ → FaultKind → Type 0) (lacks : ℕ → Option FaultKind)
    (reports : LinePlace → List ℕ → List BadLine → Type 0) (left written : Option (List ℕ)) (founds : List BadLine) →
    TellsList tells bad lacks reports Memory left written written founds founds
untouched tells bad lacks reports left written founds =
    let list = list_is left left [] (sym (prepended-nil left)) in
    record {
      bytes = list.rest;
      is_left = list.is_left;
      gives = record {
        output = [];
        right = BeginningTold-none tells first_place (lines_of list.rest);
        written = sym (appended-nil written);
      };
      reported = record {
        more = [];
        right = BeginningTold-none reports first_place (lines_of list.rest);
        output = sym (append-nil founds);
      };
    }
