-- Two lists one after the other. A line that is not the first has the same output at each place, or
-- the same error, if the query does not look at the number of the line; so the second list may be
-- moved.
use Rattle.std.proofs.Common.{◌≡◌, ◌∙◌, inl, inr, ℕ, ◌+◌, List, [], ◌∷◌, ◌++◌, length, map, false, refl, sym, subst, ap, arith, IsTrue, Option, Some, None}
use Rattle.std.proofs.lemmas.List.{map-append}
use Rattle.line_text.specs.declared.faults.FaultKind.{FaultKind}
use Rattle.mcg6_lines.specs.declared.query.Query.{Query}
use Rattle.mcg6_lines.specs.declared.query.Query.TheVariants.{Kinds, Leaves, Elementary, Matching, Cuts, Ears, Graph, Select}
use Rattle.mcg6_reader.proofs.Joins.{AllTold-append, GivesOutput-behind}
use Rattle.mcg6_reader.proofs.LineCuts.{lines_of-closed}
use Rattle.mcg6_reader.proofs.Skips.{Reported-behind}
use Rattle.mcg6_reader.specs.Common.{lines_of, AllTold, GivesOutput, IsClosedText, LineTold, Reported, Reports, first_place, place_after, place_behind}
use Rattle.mcg6_reader.specs.declared.ending.BadLine.{BadLine}
use Rattle.mcg6_reader.specs.declared.ending.InputEnding.{InputEnding}
use Rattle.mcg6_reader.specs.declared.ending.InputEnding.TheVariants.{Done, Bad, ReadFault, WriteFault, Memory}
use Rattle.mcg6_reader.specs.declared.place.LinePlace.{LinePlace}
use Rattle.mcg6_top.proofs.LaterLines.{EndsAnywhere, IsLater, MayMove, opens_at, number_behind, all_later, begin_later, stop_later, whole_later}
use Rattle.mcg6_top.proofs.Skipping.{good_line, whole_lifted}
use Rattle.mcg6_top.specs.Common.{EndsWith, IsBadLine, ListOutcome, SkipsLine, SkipsUpTo, ListStopsAt, TellsLineOf, TellsOrSkips, ending_behind, found_behind, is_by_line, lacks_of, opens_with_header}
use Rattle.mcg6_top.specs.declared.command.AtBadLine.{AtBadLine}
use Rattle.mcg6_top.specs.declared.command.AtBadLine.TheVariants.{Stop, Skip}
use Rattle.mcg6_top.specs.declared.status.ListStatus.{ListStatus}
use Rattle.mcg6_top.specs.declared.status.ListStatus.TheVariants as status

-- the output of a line does not depend on its place
line_moved : (query : Query) (p q : LinePlace) (line output : List ℕ) → IsTrue (is_by_line query) → TellsLineOf query p line output → TellsLineOf query q line output
line_moved Kinds p q line output by told = (refl, record { graph = told.1.graph; stands = told.1.stands; told = told.1.told })
line_moved Matching p q line output by told = (refl, record { graph = told.1.graph; stands = told.1.stands; told = told.1.told })
line_moved (Select property) p q line output by told = (refl, record { graph = told.1.graph; stands = told.1.stands; told = told.1.told })
line_moved (Leaves order) p q line output by told = absurd (cc by)
line_moved Elementary p q line output by told = absurd (cc by)
line_moved Cuts p q line output by told = absurd (cc by)
line_moved Ears p q line output by told = absurd (cc by)
line_moved Graph p q line output by told = absurd (cc by)

-- nor does the error of a bad one
bad_moved : (query : Query) (p q : LinePlace) (line : List ℕ) (kind : FaultKind) → IsTrue (is_by_line query) → IsBadLine query p line kind → IsBadLine query q line kind
bad_moved Kinds p q line kind by bad = bad
bad_moved Matching p q line kind by bad = bad
bad_moved (Select property) p q line kind by bad = bad
bad_moved (Leaves order) p q line kind by bad = absurd (cc by)
bad_moved Elementary p q line kind by bad = absurd (cc by)
bad_moved Cuts p q line kind by bad = absurd (cc by)
bad_moved Ears p q line kind by bad = absurd (cc by)
bad_moved Graph p q line kind by bad = absurd (cc by)

-- nothing is missing at the end
none_missing : (query : Query) → IsTrue (is_by_line query) → (graphs : ℕ) → lacks_of query graphs ≡ None
none_missing Kinds by graphs = refl
none_missing Matching by graphs = refl
none_missing (Select property) by graphs = refl
none_missing (Leaves order) by graphs = refl
none_missing Elementary by graphs = refl
none_missing Cuts by graphs = absurd (cc by)
none_missing Ears by graphs = absurd (cc by)
none_missing Graph by graphs = absurd (cc by)

told_moved :
    (query : Query) (at_bad : AtBadLine) (p q : LinePlace) (line output : List ℕ) → IsTrue (is_by_line query) →
    TellsOrSkips query at_bad p line output → TellsOrSkips query at_bad q line output
told_moved query Stop p q line output by told = line_moved query p q line output by told
told_moved query Skip p q line output by (inl told) = inl (line_moved query p q line output by told)
told_moved query Skip p q line output by (inr bad) = inr ((bad.0.0, bad_moved query p q line bad.0.0 by bad.0.1), bad.1)

stop_moved :
    (query : Query) (at_bad : AtBadLine) (p q : LinePlace) (line : List ℕ) (kind : FaultKind) → IsTrue (is_by_line query) →
    ListStopsAt query at_bad p line kind → ListStopsAt query at_bad q line kind
stop_moved query Stop p q line kind by stops = bad_moved query p q line kind by stops
stop_moved query Skip p q line kind by stops = stops

skip_moved :
    (query : Query) (at_bad : AtBadLine) (p q : LinePlace) (line : List ℕ) (kind : Option FaultKind) → IsTrue (is_by_line query) →
    SkipsLine query at_bad p line kind → SkipsLine query at_bad q line kind
skip_moved query Stop p q line None by skips = skips
skip_moved query Stop p q line (Some kind) by skips = skips
skip_moved query Skip p q line None by skips = λ kind bad. skips kind (bad_moved query q p line kind by bad)
skip_moved query Skip p q line (Some kind) by skips = bad_moved query p q line kind by skips

-- the number in the report on a line moves with it
reports_moved :
    (query : Query) (at_bad : AtBadLine) (count : ℕ) (p q : LinePlace) (line : List ℕ) (founds : List BadLine) → IsTrue (is_by_line query) →
    q.number ≡ count + p.number → Reports (SkipsLine query at_bad) p line founds → Reports (SkipsLine query at_bad) q line (map (found_behind count) founds)
reports_moved query at_bad count p q line [] by at reports = skip_moved query at_bad p q line None by reports
reports_moved query at_bad count p q line (found ∷ []) by at reports = (
  skip_moved query at_bad p q line (Some found.kind) by reports.0,
  record { numbered = ap (λ (n : ℕ). count + n) reports.1.numbered ∙ sym at; of_kind = refl; kept = reports.1.kept },
)
reports_moved query at_bad count p q line (found ∷ other ∷ founds) by at reports = absurd reports

-- an answered list has no reports
quiet_line :
    (query : Query) (at_bad : AtBadLine) (p : LinePlace) (line output : List ℕ) → LineTold (TellsLineOf query) p line output →
    LineTold (Reports (SkipsLine query at_bad)) p line []
quiet_line query at_bad p line output (inl header) = inl (header.0, refl)
quiet_line query at_bad p line output (inr told) = inr (told.0, told.1, (good_line query at_bad p line output told.2).1)

all_quiet :
    (query : Query) (at_bad : AtBadLine) (p : LinePlace) (lines : List (List ℕ)) (output : List ℕ) → AllTold (TellsLineOf query) p lines output →
    AllTold (Reports (SkipsLine query at_bad)) p lines []
all_quiet query at_bad p [] output told = refl
all_quiet query at_bad p (line ∷ lines) output (first, others, one, rest, out) =
    ([], [], quiet_line query at_bad p line first one, all_quiet query at_bad (place_after p line) lines others rest, refl)

-- the first of the lines is a header at the first place
opens_first : (lines : List (List ℕ)) → opens_with_header lines ≡ false → opens_at first_place lines ≡ false
opens_first [] plain = refl
opens_first (line ∷ lines) plain = plain

outputs_move : (query : Query) (at_bad : AtBadLine) (count : ℕ) → IsTrue (is_by_line query) → MayMove count (TellsOrSkips query at_bad) (λ (t : List ℕ). t)
outputs_move query at_bad count by =
    record { none = refl; joins = λ a b. refl; each = λ p q line output at told. told_moved query at_bad p q line output by told }

reports_move :
    (query : Query) (at_bad : AtBadLine) (count : ℕ) → IsTrue (is_by_line query) → MayMove count (Reports (SkipsLine query at_bad)) (map (found_behind count))
reports_move query at_bad count by =
    record { none = refl; joins = map-append (found_behind count); each = λ p q line founds at reports. reports_moved query at_bad count p q line founds by at reports }

ends_anywhere : (query : Query) (at_bad : AtBadLine) → IsTrue (is_by_line query) → EndsAnywhere (ListStopsAt query at_bad) (lacks_of query)
ends_anywhere query at_bad by = record { each = λ p q line kind stops. stop_moved query at_bad p q line kind by stops; never = none_missing query by }

module _ (query : Query) (at_bad : AtBadLine) (by : IsTrue (is_by_line query)) where
  module _ (count : ℕ) (p q : LinePlace) (lines : List (List ℕ)) (later : IsLater count p q) (plain : opens_at p lines ≡ false) where
    -- the output of lines up to an ending may be moved
    gives_later :
        (ending : InputEnding) (output : List ℕ) → GivesOutput (TellsOrSkips query at_bad) (ListStopsAt query at_bad) (lacks_of query) p lines ending output →
        GivesOutput (TellsOrSkips query at_bad) (ListStopsAt query at_bad) (lacks_of query) q lines (ending_behind count ending) output
    gives_later Done output gives = whole_later (outputs_move query at_bad count by) p q lines later plain (ends_anywhere query at_bad by) output gives
    gives_later (Bad found) output gives = stop_later (outputs_move query at_bad count by) p q lines later plain (ends_anywhere query at_bad by) found output gives
    gives_later ReadFault output gives = begin_later (outputs_move query at_bad count by) p q lines later plain output gives
    gives_later WriteFault output gives = record {
      whole = gives.whole;
      count = gives.count;
      of = begin_later (outputs_move query at_bad count by) p q lines later plain gives.whole gives.of;
      less = gives.less;
      part = gives.part;
    }
    gives_later Memory output gives = begin_later (outputs_move query at_bad count by) p q lines later plain output gives

    -- and so may the reports on skipped lines
    reported_later :
        (ending : InputEnding) (founds : List BadLine) → Reported (Reports (SkipsLine query at_bad)) (ListStopsAt query at_bad) (lacks_of query) p lines ending founds →
        Reported (Reports (SkipsLine query at_bad)) (ListStopsAt query at_bad) (lacks_of query) q lines (ending_behind count ending) (map (found_behind count) founds)
    reported_later Done founds reported = all_later (reports_move query at_bad count by) p q lines founds later plain reported
    reported_later (Bad found) founds reported = stop_later (reports_move query at_bad count by) p q lines later plain (ends_anywhere query at_bad by) found founds reported
    reported_later ReadFault founds reported = begin_later (reports_move query at_bad count by) p q lines later plain founds reported
    reported_later WriteFault founds reported = begin_later (reports_move query at_bad count by) p q lines later plain founds reported
    reported_later Memory founds reported = begin_later (reports_move query at_bad count by) p q lines later plain founds reported

  module _ (first second : List ℕ) (closed : IsClosedText first) (plain : opens_with_header (lines_of second) ≡ false) where
    -- the place of the second list
    second_place : IsLater (length (lines_of first)) first_place (place_behind first_place (lines_of first))
    second_place = record { number = number_behind first_place (lines_of first); some = omega arith }

    -- the output of the first list, and then that of the second, up to its ending
    pub ends_split :
        (ending : InputEnding) (a b : List ℕ) → EndsWith query at_bad first Done a → EndsWith query at_bad second ending b →
        EndsWith query at_bad (first ++ second) (ending_behind (length (lines_of first)) ending) (a ++ b)
    ends_split ending a b one two =
        let count = length (lines_of first) in
        let at = place_behind first_place (lines_of first) in
        subst (λ (ls : List (List ℕ)). GivesOutput (TellsOrSkips query at_bad) (ListStopsAt query at_bad) (lacks_of query) first_place ls (ending_behind count ending) (a ++ b))
        (sym (lines_of-closed first second closed))
        (GivesOutput-behind (TellsOrSkips query at_bad) (ListStopsAt query at_bad) (lacks_of query) first_place (lines_of first) (lines_of second) a b (ending_behind count ending) one.told
        (gives_later count first_place at (lines_of second) second_place (opens_first (lines_of second) plain) ending b two))

    -- and so the reports on skipped lines
    pub skips_split :
        (ending : InputEnding) (a b : List BadLine) → SkipsUpTo query at_bad first Done a → SkipsUpTo query at_bad second ending b →
        SkipsUpTo query at_bad (first ++ second) (ending_behind (length (lines_of first)) ending) (a ++ map (found_behind (length (lines_of first))) b)
    skips_split ending a b one two =
        let count = length (lines_of first) in
        let at = place_behind first_place (lines_of first) in
        subst (λ (ls : List (List ℕ)). Reported (Reports (SkipsLine query at_bad)) (ListStopsAt query at_bad) (lacks_of query) first_place ls (ending_behind count ending) (a ++ map (found_behind count) b))
        (sym (lines_of-closed first second closed))
        (Reported-behind (Reports (SkipsLine query at_bad)) (ListStopsAt query at_bad) (lacks_of query) first_place (lines_of first) (lines_of second) a (map (found_behind count) b) (ending_behind count ending) one
        (reported_later count first_place at (lines_of second) second_place (opens_first (lines_of second) plain) ending b two))

    -- all lines of both are answered
    whole_split : (a b : List ℕ) → ListOutcome query at_bad first status.Done a → ListOutcome query at_bad second status.Done b → ListOutcome query at_bad (first ++ second) status.Done (a ++ b)
    whole_split a b one two =
        let at = place_behind first_place (lines_of first) in
        let moved = all_later (plain_move (length (lines_of first))) first_place at (lines_of second) b second_place (opens_first (lines_of second) plain) two.told in
        record {
          told =
              subst (λ (ls : List (List ℕ)). AllTold (TellsLineOf query) first_place ls (a ++ b)) (sym (lines_of-closed first second closed))
              (AllTold-append (TellsLineOf query) first_place (lines_of first) (lines_of second) a b one.told moved);
          ends = none_missing query by (place_behind first_place (lines_of (first ++ second))).graphs;
        }
      where
        plain_move : (count : ℕ) → MayMove count (TellsLineOf query) (λ (t : List ℕ). t)
        plain_move count = record { none = refl; joins = λ a b. refl; each = λ p q line output at told. line_moved query p q line output by told }

    pub split :
        (last : ListStatus) (a b : List ℕ) → ListOutcome query at_bad first status.Done a → ListOutcome query at_bad second last b →
        ListOutcome query at_bad (first ++ second) last (a ++ b)
    split status.Done a b one two = whole_split a b one two
    split status.Usage a b one two = two
    split status.ReadFault a b one two = ends_split ReadFault a b (whole_lifted query at_bad (lines_of first) a one) two
    split status.BadInput a b one (inl stops) = inl (record {
      found = found_behind (length (lines_of first)) stops.found;
      told = ends_split (Bad stops.found) a b (whole_lifted query at_bad (lines_of first) a one) stops.told;
    })
    split status.BadInput a b one (inr skips) = inr (record {
      told = ends_split Done a b (whole_lifted query at_bad (lines_of first) a one) skips.told;
      first = found_behind (length (lines_of first)) skips.first;
      others = map (found_behind (length (lines_of first))) skips.others;
      skipped = skips_split Done [] (skips.first ∷ skips.others) (all_quiet query at_bad first_place (lines_of first) a one.told) skips.skipped;
    })
    split status.WriteFault a b one two = ends_split WriteFault a b (whole_lifted query at_bad (lines_of first) a one) two
    split status.Memory a b one two = ends_split Memory a b (whole_lifted query at_bad (lines_of first) a one) two
