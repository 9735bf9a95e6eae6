-- What the pieces of a text give together: the lines that have been processed so far are complete,
-- so a new line begins after them.
use Rattle.std.proofs.Common.{◌≡◌, inl, inr, ℕ, ◌<◌, ◌≤◌, List, [], ◌∷◌, ◌++◌, length, refl, sym, subst, ◌∙◌, ap, arith, append_assoc, length-append, IsTrue, IsFalse, append-nil, Option, Some}
use Rattle.outside.specs.Common.{most_line}
use Rattle.line_text.specs.declared.faults.FaultKind.{FaultKind}
use Rattle.line_text.specs.declared.faults.FaultKind.TheVariants.{Limit}
use Rattle.mcg6_reader.specs.declared.ending.BadLine.{BadLine}
use Rattle.mcg6_reader.specs.declared.ending.InputEnding.TheVariants.{Bad}
use Rattle.mcg6_reader.specs.declared.ending.ListStop.{ListStop}
use Rattle.mcg6_reader.specs.declared.ending.ListStop.TheVariants as stop
use Rattle.mcg6_reader.specs.declared.place.LinePlace.{LinePlace}
use Rattle.mcg6_reader.specs.Common.{is_header, lines_of, HasNoFeed, IsFirstLine, place_after, place_behind, LineTold, NamesBad, IsReportOn, IfBad, AllTold, BeginningTold, HasBadLine, ToldToBad, Added, ToldThrough, StopsWith}
use Rattle.mcg6_reader.proofs.LineCuts.{lines_of-nil, lines_of-closed, lines_of-last, lines_of-begun, IsClosedText-append}
use Rattle.mcg6_reader.proofs.Joins.{place_behind-append, AllTold-append, AllTold-one, HasBadLine-first, HasBadLine-behind}

-- just the header has an empty output
pub told_header :
    {A : Type 0} (tells : LinePlace → List ℕ → List A → Type 0) (n : LinePlace) (line : List ℕ) (output : List A) →
    IsTrue (is_header n.number line) → Added (LineTold tells n line) output output
told_header tells n line output header = record { more = []; right = inl (header, refl); output = sym (append-nil output) }

-- any other line has the teller's result
pub told_line :
    {A : Type 0} (tells : LinePlace → List ℕ → List A → Type 0) (n : LinePlace) (line : List ℕ) (bytes before now : List A) →
    IsFalse (is_header n.number line) → length line ≤ most_line → tells n line bytes → now ≡ before ++ bytes →
    Added (LineTold tells n line) before now
told_line tells n line bytes before now other short told more = record { more = bytes; right = inr (other, short, told); output = more }

-- a line that is too long is bad
pub names_long :
    (bad : LinePlace → List ℕ → FaultKind → Type 0) (n : LinePlace) (line : List ℕ) (why : ListStop) →
    most_line < length line → IfBad (IsReportOn n.number Limit line) why → IfBad (NamesBad bad n line) why
names_long bad n line stop.Memory long found = tt
names_long bad n line (stop.Bad bad_line) long found = record {
  bad_line = inl (long, found.of_kind);
  number = found.numbered;
  kept = inl found.kept;
}

-- a line in which the teller finds an error is bad
pub names_bad :
    (bad : LinePlace → List ℕ → FaultKind → Type 0) (n : LinePlace) (line : List ℕ) (kind : FaultKind) (why : ListStop) →
    IsFalse (is_header n.number line) → length line ≤ most_line → bad n line kind → IfBad (IsReportOn n.number kind line) why →
    IfBad (NamesBad bad n line) why
names_bad bad n line kind stop.Memory other short is found = tt
names_bad bad n line kind (stop.Bad bad_line) other short is found = record {
  bad_line = inr (other, short, subst (λ (k : FaultKind). bad n line k) (sym found.of_kind) is);
  number = found.numbered;
  kept = inl found.kept;
}

-- nothing has been processed yet
pub through_none :
    {A : Type 0} (tells : LinePlace → List ℕ → List A → Type 0) (n : LinePlace) (text : List ℕ) (output : List A) →
    Added (ToldThrough tells n text text n) output output
through_none tells n text output = record {
  more = [];
  right = record {
    whole = [];
    cut = refl;
    closed = inl refl;
    told = subst (λ (ls : List (List ℕ)). AllTold tells n ls []) (sym lines_of-nil) refl;
    place = ap (λ (ls : List (List ℕ)). place_behind n ls) (sym lines_of-nil);
  };
  output = sym (append-nil output);
}

-- one more line is processed
pub through_more :
    {A : Type 0} (tells : LinePlace → List ℕ → List A → Type 0) (n k next : LinePlace) (text rest line behind : List ℕ) (a b c : List A) →
    Added (ToldThrough tells n text rest k) a b → IsFirstLine rest line behind → next ≡ place_after k line →
    Added (LineTold tells k line) b c → Added (ToldThrough tells n text behind next) a c
through_more {A} tells n k next text rest line behind a b c so_far first after one =
    let whole = so_far.right.whole in
    let lines : lines_of (whole ++ line) ≡ lines_of whole ++ line ∷ [] =
    lines_of-closed whole line so_far.right.closed ∙ ap (λ (ls : List (List ℕ)). lines_of whole ++ ls) first.alone in
    record {
      more = so_far.more ++ one.more;
      right = record {
        whole = whole ++ line;
        cut =
            so_far.right.cut
            ∙ ap (λ (t : List ℕ). whole ++ t) first.whole
            ∙ sym (append_assoc whole line behind);
        closed = IsClosedText-append whole line so_far.right.closed first.closed;
        told =
            subst (λ (ls : List (List ℕ)). AllTold tells n ls (so_far.more ++ one.more)) (sym lines)
            (AllTold-append tells n (lines_of whole) (line ∷ []) so_far.more one.more so_far.right.told
            (AllTold-one tells (place_behind n (lines_of whole)) line one.more
            (subst (λ (p : LinePlace). LineTold tells p line one.more) so_far.right.place one.right)));
        place =
            after
            ∙ ap (λ (p : LinePlace). place_after p line) so_far.right.place
            ∙ sym (place_behind-append n (lines_of whole) (line ∷ []))
            ∙ ap (λ (ls : List (List ℕ)). place_behind n ls) (sym lines);
      };
      output = one.output ∙ ap (λ (t : List A). t ++ one.more) so_far.output ∙ append_assoc a so_far.more one.more;
    }

-- a bad line at that place comes first in a text, whatever is after it
pub record OpensBad (bad : LinePlace → List ℕ → FaultKind → Type 0) (n : LinePlace) (text : List ℕ) (found : BadLine) : Type 0 where
  pub line : List ℕ
  pub others : List (List ℕ)
  pub cut : lines_of text ≡ line ∷ others
  pub named : NamesBad bad n line found

-- a first line that is bad
opens_first :
    (bad : LinePlace → List ℕ → FaultKind → Type 0) (n : LinePlace) (rest line behind tail : List ℕ) (found : BadLine) →
    IsFirstLine rest line behind → NamesBad bad n line found → OpensBad bad n (rest ++ tail) found
opens_first bad n rest line behind tail found first named = record {
  line = line;
  others = lines_of (behind ++ tail);
  cut =
      ap (λ (t : List ℕ). lines_of (t ++ tail)) first.whole
      ∙ ap lines_of (append_assoc line behind tail)
      ∙ lines_of-closed line (behind ++ tail) first.closed
      ∙ ap (λ (ls : List (List ℕ)). ls ++ lines_of (behind ++ tail)) first.alone;
  named = named;
}

-- a line that is too long, before its end was read
opens_long :
    (bad : LinePlace → List ℕ → FaultKind → Type 0) (n : LinePlace) (rest tail : List ℕ) (found : BadLine) →
    HasNoFeed rest → most_line < length rest → IsReportOn n.number Limit rest found → OpensBad bad n (rest ++ tail) found
opens_long bad n rest tail found none long is =
    let some : 0 < length rest = omega arith in
    let begun = lines_of-begun rest tail none some in
    record {
      line = rest ++ begun.more;
      others = begun.others;
      cut = begun.first;
      named = record {
        bad_line = inl (omega (arith, length-append rest begun.more), is.of_kind);
        number = is.numbered;
        kept =
            inr (
              subst (λ (t : List ℕ). most_line < length t) (sym is.kept) long,
              (begun.more, ap (λ (t : List ℕ). t ++ begun.more) (sym is.kept)),
            );
      };
    }

-- the lines of a text and of what is after it, if its lines have been processed up to some place
through_lines :
    {A : Type 0} (tells : LinePlace → List ℕ → List A → Type 0) (n k : LinePlace) (text rest tail : List ℕ) (output : List A) →
    (through : ToldThrough tells n text rest k output) →
    lines_of (text ++ tail) ≡ lines_of through.whole ++ lines_of (rest ++ tail)
through_lines tells n k text rest tail output through =
    ap (λ (t : List ℕ). lines_of (t ++ tail)) through.cut
    ∙ ap lines_of (append_assoc through.whole rest tail)
    ∙ lines_of-closed through.whole (rest ++ tail) through.closed

-- the next line is bad
through_bad :
    {A : Type 0} (tells : LinePlace → List ℕ → List A → Type 0) (bad : LinePlace → List ℕ → FaultKind → Type 0) (lacks : ℕ → Option FaultKind) (n k : LinePlace)
    (text rest : List ℕ) (a b : List A) (found : BadLine) →
    Added (ToldThrough tells n text rest k) a b → ((tail : List ℕ) → OpensBad bad k (rest ++ tail) found) →
    Added (StopsWith tells bad lacks n text (Bad found)) a b
through_bad {A} tells bad lacks n k text rest a b found so_far opens =
    let whole = so_far.right.whole in
    record {
      more = so_far.more;
      right = λ tail.
          let opened = opens tail in
          let named = subst (λ (p : LinePlace). NamesBad bad p opened.line found) so_far.right.place opened.named in
          inl (
          subst (λ (ls : List (List ℕ)). HasBadLine tells bad n ls found so_far.more)
          (sym (through_lines tells n k text rest tail so_far.more so_far.right))
          (subst (λ (t : List A). HasBadLine tells bad n (lines_of whole ++ lines_of (rest ++ tail)) found t) (append-nil so_far.more)
          (HasBadLine-behind tells bad n (lines_of whole) (lines_of (rest ++ tail)) found so_far.more [] so_far.right.told
          (subst (λ (ls : List (List ℕ)). HasBadLine tells bad (place_behind n (lines_of whole)) ls found []) (sym opened.cut)
          (HasBadLine-first tells bad (place_behind n (lines_of whole)) opened.line found opened.others named))))
          );
      output = so_far.output;
    }

-- the processing stopped at the next line
pub through_stopped :
    {A : Type 0} (tells : LinePlace → List ℕ → List A → Type 0) (bad : LinePlace → List ℕ → FaultKind → Type 0) (lacks : ℕ → Option FaultKind) (n k : LinePlace)
    (text rest line behind : List ℕ) (a b c : List A) (why : ListStop) →
    Added (ToldThrough tells n text rest k) a b → IsFirstLine rest line behind →
    IfBad (NamesBad bad k line) why → IfBad (λ found. c ≡ b) why →
    IfBad (λ found. Added (StopsWith tells bad lacks n text (Bad found)) a c) why
through_stopped tells bad lacks n k text rest line behind a b c stop.Memory so_far first named same = tt
through_stopped {A} tells bad lacks n k text rest line behind a b c (stop.Bad found) so_far first named same =
    subst (λ (t : List A). Added (StopsWith tells bad lacks n text (Bad found)) a t) (sym same)
    (through_bad tells bad lacks n k text rest a b found so_far (λ tail. opens_first bad k rest line behind tail found first named))

-- what is left of the text begins a line that is too long
pub through_long :
    {A : Type 0} (tells : LinePlace → List ℕ → List A → Type 0) (bad : LinePlace → List ℕ → FaultKind → Type 0) (lacks : ℕ → Option FaultKind) (n k : LinePlace)
    (text rest : List ℕ) (a b : List A) (why : ListStop) →
    Added (ToldThrough tells n text rest k) a b → HasNoFeed rest → most_line < length rest →
    IfBad (IsReportOn k.number Limit rest) why → IfBad (λ found. Added (StopsWith tells bad lacks n text (Bad found)) a b) why
through_long tells bad lacks n k text rest a b stop.Memory so_far none long is = tt
through_long tells bad lacks n k text rest a b (stop.Bad found) so_far none long is =
    through_bad tells bad lacks n k text rest a b found so_far (λ tail. opens_long bad k rest tail found none long is)

-- nothing is left at the end
pub end_none :
    {A : Type 0} (tells : LinePlace → List ℕ → List A → Type 0) (n : LinePlace) (held : List ℕ) (output : List A) →
    length held ≡ 0 → Added (AllTold tells n (lines_of held)) output output × (n ≡ place_behind n (lines_of held))
end_none tells n [] output empty = (
  record {
    more = [];
    right = subst (λ (ls : List (List ℕ)). AllTold tells n ls []) (sym lines_of-nil) refl;
    output = sym (append-nil output);
  },
  ap (λ (ls : List (List ℕ)). place_behind n ls) (sym lines_of-nil),
)
end_none tells n (byte ∷ held) output empty = absurd (omega arith)

-- what is held at the end is processed as the last line
pub end_told :
    {A : Type 0} (tells : LinePlace → List ℕ → List A → Type 0) (n : LinePlace) (held : List ℕ) (before now : List A) →
    HasNoFeed held → 0 < length held → Added (LineTold tells n held) before now →
    Added (AllTold tells n (lines_of held)) before now
end_told tells n held before now none some told = record {
  more = told.more;
  right =
      subst (λ (ls : List (List ℕ)). AllTold tells n ls told.more) (sym (lines_of-last held none some))
      (AllTold-one tells n held told.more told.right);
  output = told.output;
}

-- and the place after it
pub end_place :
    (n next : LinePlace) (held : List ℕ) → HasNoFeed held → 0 < length held → next ≡ place_after n held →
    next ≡ place_behind n (lines_of held)
end_place n next held none some after = after ∙ ap (λ (ls : List (List ℕ)). place_behind n ls) (sym (lines_of-last held none some))

-- what is held at the end is bad
pub end_stopped :
    {A : Type 0} (tells : LinePlace → List ℕ → List A → Type 0) (bad : LinePlace → List ℕ → FaultKind → Type 0) (lacks : ℕ → Option FaultKind) (n : LinePlace)
    (held : List ℕ) (before now : List A) (why : ListStop) →
    HasNoFeed held → 0 < length held → IfBad (NamesBad bad n held) why → IfBad (λ found. now ≡ before) why →
    IfBad (λ found. Added (ToldToBad tells bad lacks n (lines_of held) found) before now) why
end_stopped tells bad lacks n held before now stop.Memory none some named same = tt
end_stopped tells bad lacks n held before now (stop.Bad found) none some named same = record {
  more = [];
  right =
      inl (
      subst (λ (ls : List (List ℕ)). HasBadLine tells bad n ls found []) (sym (lines_of-last held none some))
      (HasBadLine-first tells bad n held found [] named)
      );
  output = same ∙ sym (append-nil before);
}

-- the lines were processed, and no list may end after them
pub lacking_bad :
    {A : Type 0} (tells : LinePlace → List ℕ → List A → Type 0) (bad : LinePlace → List ℕ → FaultKind → Type 0) (lacks : ℕ → Option FaultKind)
    (n next : LinePlace) (lines : List (List ℕ)) (kind : FaultKind) (before now : List A) (why : ListStop) →
    Added (AllTold tells n lines) before now → next ≡ place_behind n lines → lacks next.graphs ≡ Some kind →
    IfBad (IsReportOn next.number kind []) why → IfBad (λ found. Added (ToldToBad tells bad lacks n lines found) before now) why
lacking_bad tells bad lacks n next lines kind before now stop.Memory told at missing is = tt
lacking_bad tells bad lacks n next lines kind before now (stop.Bad found) told at missing is = record {
  more = told.more;
  right =
      inr (record {
        told = told.right;
        ends = subst (λ (p : LinePlace). lacks p.graphs ≡ Some found.kind) at (missing ∙ ap Some (sym is.of_kind));
        number = is.numbered ∙ ap (λ (p : LinePlace). p.number) at;
        nothing = is.kept;
      });
  output = told.output;
}

-- the lines that are processed in a text are an initial segment, whatever is after it
pub through_begins :
    {A : Type 0} (tells : LinePlace → List ℕ → List A → Type 0) (n k : LinePlace) (text rest tail : List ℕ) (output : List A) →
    ToldThrough tells n text rest k output → BeginningTold tells n (lines_of (text ++ tail)) output
through_begins tells n k text rest tail output through = record {
  before = lines_of through.whole;
  behind = lines_of (rest ++ tail);
  cut = through_lines tells n k text rest tail output through;
  told = through.told;
}
