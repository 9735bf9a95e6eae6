-- Bad lines that are skipped. No line is both answered and bad. So without a report on a skipped
-- line all lines are answered; and where the list ends at a bad line, there is none.
use Rattle.std.proofs.Common.{◌≡◌, ◌∙◌, inl, inr, ℕ, List, [], ◌∷◌, ◌++◌, ap₂, refl, sym, subst, IsFalse, IsTrue, Some, None}
use Rattle.line_text.specs.declared.faults.FaultKind.{FaultKind}
use Rattle.line_text.specs.declared.faults.FaultKind.TheVariants.{Extra}
use Rattle.mcg6_lines.specs.Alike.{is_free}
use Rattle.mcg6_lines.specs.Telling.{HasFault, TellsLine}
use Rattle.mcg6_lines.specs.declared.query.Query.{Query}
use Rattle.mcg6_reader.proofs.Skips.{reported_begin}
use Rattle.mcg6_reader.specs.Common.{lines_of, AllTold, LineTold, WholeTold, Added, HasOneFault, HasOneOutputPerLine, TellsApart, Reported, Reports, first_place, place_after}
use Rattle.mcg6_reader.specs.declared.ending.BadLine.{BadLine}
use Rattle.mcg6_reader.specs.declared.ending.InputEnding.{InputEnding}
use Rattle.mcg6_reader.specs.declared.place.LinePlace.{LinePlace}
use Rattle.mcg6_top.proofs.OneOutput.{one_fault_each, one_output_each, told_or_bad}
use Rattle.mcg6_top.specs.Common.{IsBadLine, is_past_graph, TellsLineOf, TellsOrSkips, ListStopsAt, SkipsLine, lacks_of}
use Rattle.mcg6_top.specs.declared.command.AtBadLine.{AtBadLine}
use Rattle.mcg6_top.specs.declared.command.AtBadLine.TheVariants.{Stop, Skip}

-- a line that no query takes
pub further_bad : (query : Query) (place : LinePlace) (line : List ℕ) → IsTrue (is_past_graph query place) → IsBadLine query place line Extra
further_bad query place line further = inl (further, refl)

pub faulty_bad : (query : Query) (place : LinePlace) (line : List ℕ) (kind : FaultKind) → IsFalse (is_past_graph query place) → HasFault line kind → IsBadLine query place line kind
faulty_bad query place line kind first fault = inr (first, fault)

-- a line that is answered is not skipped
pub good_line :
    (query : Query) (at_bad : AtBadLine) (place : LinePlace) (line bytes : List ℕ) → TellsLineOf query place line bytes →
    TellsOrSkips query at_bad place line bytes × SkipsLine query at_bad place line None
good_line query Stop place line bytes told = (told, tt)
good_line query Skip place line bytes told = (inl told, λ kind bad. told_or_bad query place line bytes kind told bad)

pub answered_line :
    (query : Query) (at_bad : AtBadLine) (place : LinePlace) (line bytes : List ℕ) → IsFalse (is_past_graph query place) →
    TellsLine query place.number line bytes → TellsOrSkips query at_bad place line bytes × SkipsLine query at_bad place line None
answered_line query at_bad place line bytes first told = good_line query at_bad place line bytes (first, told)

-- each line has one output, unless the query is free
pub either_once : (query : Query) (at_bad : AtBadLine) → IsFalse (is_free query) → HasOneOutputPerLine (TellsOrSkips query at_bad)
either_once query Stop fixed place line a b one two = one_output_each query fixed place line a b one two
either_once query Skip fixed place line a b (inl one) (inl two) = one_output_each query fixed place line a b one two
either_once query Skip fixed place line a b (inl one) (inr two) = absurd (told_or_bad query place line a two.0.0 one two.0.1)
either_once query Skip fixed place line a b (inr one) (inl two) = absurd (told_or_bad query place line b one.0.0 two one.0.1)
either_once query Skip fixed place line a b (inr one) (inr two) = one.1 ∙ sym two.1

pub stop_each : (query : Query) (at_bad : AtBadLine) → HasOneFault (ListStopsAt query at_bad)
stop_each query Stop place line kind other one two = one_fault_each query place line kind other one two
stop_each query Skip place line kind other one two = absurd one

pub apart_each : (query : Query) (at_bad : AtBadLine) → TellsApart (TellsOrSkips query at_bad) (ListStopsAt query at_bad)
apart_each query Stop place line output kind told bad = told_or_bad query place line output kind told bad
apart_each query Skip place line output kind told bad = bad

nil_parts : {X : Type 0} (a b : List X) → [] ≡ a ++ b → (a ≡ []) × (b ≡ [])
nil_parts [] b is = (refl, sym is)
nil_parts (x ∷ a) b is = absurd (cc is)

-- a line without a report is answered
plain : (query : Query) (at_bad : AtBadLine) (place : LinePlace) (line output : List ℕ) →
    TellsOrSkips query at_bad place line output → SkipsLine query at_bad place line None → TellsLineOf query place line output
plain query Stop place line output told none = told
plain query Skip place line output (inl told) none = told
plain query Skip place line output (inr bad) none = absurd (none bad.0.0 bad.0.1)

line_plain : (query : Query) (at_bad : AtBadLine) (place : LinePlace) (line output : List ℕ) →
    LineTold (TellsOrSkips query at_bad) place line output → LineTold (Reports (SkipsLine query at_bad)) place line [] →
    LineTold (TellsLineOf query) place line output
line_plain query at_bad place line output (inl header) none = inl header
line_plain query at_bad place line output (inr told) (inl header) = absurd (cc (sym header.0 ∙ told.0))
line_plain query at_bad place line output (inr told) (inr none) = inr (told.0, told.1, plain query at_bad place line output told.2 none.2)

-- and so is a list without one
pub all_plain :
    (query : Query) (at_bad : AtBadLine) (place : LinePlace) (lines : List (List ℕ)) (output : List ℕ) →
    AllTold (TellsOrSkips query at_bad) place lines output → AllTold (Reports (SkipsLine query at_bad)) place lines [] →
    AllTold (TellsLineOf query) place lines output
all_plain query at_bad place [] output told none = told
all_plain query at_bad place (line ∷ lines) output (first, others, one, rest, out) (a, b, none, nones, empty) =
    let parts = nil_parts a b empty in (
      first,
      others,
      line_plain query at_bad place line first one (subst (λ (f : List BadLine). LineTold (Reports (SkipsLine query at_bad)) place line f) parts.0 none),
      all_plain query at_bad (place_after place line) lines others rest
          (subst (λ (f : List BadLine). AllTold (Reports (SkipsLine query at_bad)) (place_after place line) lines f) parts.1 nones),
      out,
    )

-- an answered list, seen as one in which lines may be skipped
lift_line : (query : Query) (at_bad : AtBadLine) (place : LinePlace) (line output : List ℕ) →
    LineTold (TellsLineOf query) place line output → LineTold (TellsOrSkips query at_bad) place line output
lift_line query at_bad place line output (inl header) = inl header
lift_line query at_bad place line output (inr told) = inr (told.0, told.1, (good_line query at_bad place line output told.2).0)

pub all_lifted :
    (query : Query) (at_bad : AtBadLine) (place : LinePlace) (lines : List (List ℕ)) (output : List ℕ) →
    AllTold (TellsLineOf query) place lines output → AllTold (TellsOrSkips query at_bad) place lines output
all_lifted query at_bad place [] output told = told
all_lifted query at_bad place (line ∷ lines) output (first, others, one, rest, out) =
    (first, others, lift_line query at_bad place line first one, all_lifted query at_bad (place_after place line) lines others rest, out)

pub whole_lifted :
    (query : Query) (at_bad : AtBadLine) (lines : List (List ℕ)) (output : List ℕ) → WholeTold (TellsLineOf query) (lacks_of query) first_place lines output →
    WholeTold (TellsOrSkips query at_bad) (lacks_of query) first_place lines output
whole_lifted query at_bad lines output whole = record { told = all_lifted query at_bad first_place lines output whole.told; ends = whole.ends }

-- there is no report on a line that is answered
told_unreported : (query : Query) (at_bad : AtBadLine) (place : LinePlace) (line output : List ℕ) (kind : FaultKind) →
    TellsLineOf query place line output → SkipsLine query at_bad place line (Some kind) → ⊥
told_unreported query Stop place line output kind told is = is
told_unreported query Skip place line output kind told is = told_or_bad query place line output kind told is

line_unreported : (query : Query) (at_bad : AtBadLine) (place : LinePlace) (line output : List ℕ) (founds : List BadLine) →
    LineTold (TellsLineOf query) place line output → LineTold (Reports (SkipsLine query at_bad)) place line founds → founds ≡ []
line_unreported query at_bad place line output founds told (inl header) = header.1
line_unreported query at_bad place line output founds (inl header) (inr none) = absurd (cc (sym header.0 ∙ none.0))
line_unreported query at_bad place line output [] (inr told) (inr none) = refl
line_unreported query at_bad place line output (found ∷ []) (inr told) (inr one) = absurd (told_unreported query at_bad place line output found.kind told.2 one.2.0)
line_unreported query at_bad place line output (found ∷ other ∷ founds) (inr told) (inr one) = absurd one.2

-- nor one on a list that is
pub all_unreported :
    (query : Query) (at_bad : AtBadLine) (place : LinePlace) (lines : List (List ℕ)) (output : List ℕ) (founds : List BadLine) →
    AllTold (TellsLineOf query) place lines output → AllTold (Reports (SkipsLine query at_bad)) place lines founds → founds ≡ []
all_unreported query at_bad place [] output founds told reported = reported
all_unreported query at_bad place (line ∷ lines) output founds (first, others, one, rest, out) (a, b, some, more, is) =
    let none : a ≡ [] = line_unreported query at_bad place line first a one some in
    let nones : b ≡ [] = all_unreported query at_bad (place_after place line) lines others b rest more in
    is ∙ ap₂ ◌++◌ none nones

-- no line is skipped where the list ends at a bad line
line_stop : (query : Query) (place : LinePlace) (line : List ℕ) (founds : List BadLine) → LineTold (Reports (SkipsLine query Stop)) place line founds → founds ≡ []
line_stop query place line founds (inl header) = header.1
line_stop query place line [] (inr none) = refl
line_stop query place line (found ∷ []) (inr one) = absurd one.2.0
line_stop query place line (found ∷ other ∷ founds) (inr one) = absurd one.2

all_stop : (query : Query) (place : LinePlace) (lines : List (List ℕ)) (founds : List BadLine) → AllTold (Reports (SkipsLine query Stop)) place lines founds → founds ≡ []
all_stop query place [] founds told = told
all_stop query place (line ∷ lines) founds (a, b, some, more, is) =
    let none : a ≡ [] = line_stop query place line a some in
    let nones : b ≡ [] = all_stop query (place_after place line) lines b more in
    is ∙ ap₂ ◌++◌ none nones

pub stop_none :
    (query : Query) (at_bad : AtBadLine) (bytes : List ℕ) (ending : InputEnding) (skipped : List BadLine) →
    Reported (Reports (SkipsLine query at_bad)) (ListStopsAt query at_bad) (lacks_of query) first_place (lines_of bytes) ending skipped →
    at_bad ≡ Stop → skipped ≡ []
stop_none query Skip bytes ending skipped reported is = absurd (cc is)
stop_none query Stop bytes ending skipped reported is =
    let begin = reported_begin (Reports (SkipsLine query Stop)) (ListStopsAt query Stop) (lacks_of query) first_place (lines_of bytes) ending skipped reported in
    all_stop query first_place begin.before skipped begin.told

-- what was added to nothing
pub added_whole : {X : Type 0} (holds : List X → Type 0) (now : List X) → Added holds [] now → holds now
added_whole holds now added = subst holds (sym added.output) added.right
