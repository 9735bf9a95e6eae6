-- Lines at a later place. If what holds of each line holds of it at a later place too, then so does
-- what holds of lines, and of lines up to an ending. Idea: no line is a header at the later place
-- that was none before.
use Rattle.std.proofs.Common.{◌≡◌, ◌∙◌, inl, inr, ℕ, zero, suc, ◌+◌, ◌<◌, List, [], ◌∷◌, ◌++◌, length, Bool, false, refl, sym, subst, ap, arith, Option, None}
use Rattle.std.proofs.lemmas.Bool.Decides.{nat_tests}
use Rattle.std.proofs.lemmas.Option.{none-some}
use Rattle.line_text.specs.declared.faults.FaultKind.{FaultKind}
use Rattle.mcg6_reader.specs.Common.{is_header, AllTold, BeginningTold, HasBadLine, LineBad, LineTold, ToldToBad, WholeTold, place_after, place_behind}
use Rattle.mcg6_reader.specs.declared.ending.BadLine.{BadLine}
use Rattle.mcg6_reader.specs.declared.place.LinePlace.{LinePlace}
use Rattle.mcg6_top.specs.Common.{found_behind}

-- no line but the first is a header
late_header : (number : ℕ) (line : List ℕ) → 1 < number → is_header number line ≡ false
late_header number line late = grind (arith, nat_tests)

stays_plain : (count p q : ℕ) (line : List ℕ) → q ≡ count + p → 0 < p → is_header p line ≡ false → is_header q line ≡ false
stays_plain zero p q line at some plain = let same : p ≡ q = omega (arith, at) in subst (λ (n : ℕ). is_header n line ≡ false) same plain
stays_plain (suc count) p q line at some plain = late_header q line (omega (arith, at, some))

next_number : (p : LinePlace) (line : List ℕ) → (place_after p line).number ≡ p.number + 1
unfolding place_after
next_number p line = refl

-- the place after so many lines
pub number_behind : (p : LinePlace) (lines : List (List ℕ)) → (place_behind p lines).number ≡ length lines + p.number
number_behind p [] = omega arith
number_behind p (line ∷ lines) =
    let next = next_number p line in
    let rest = number_behind (place_after p line) lines in
    omega arith

-- the first of the lines is just the header at that place
abbrev pub opens_at : LinePlace → List (List ℕ) → Bool
opens_at p [] = false
opens_at p (line ∷ lines) = is_header p.number line

later_plain : (p : LinePlace) (lines : List (List ℕ)) → 1 < p.number → opens_at p lines ≡ false
later_plain p [] late = refl
later_plain p (line ∷ lines) late = late_header p.number line late

before_plain : (p : LinePlace) (lines before behind : List (List ℕ)) → lines ≡ before ++ behind → opens_at p lines ≡ false → opens_at p before ≡ false
before_plain p lines [] behind cut plain = refl
before_plain p lines (line ∷ before) behind cut plain = subst (λ (ls : List (List ℕ)). opens_at p ls ≡ false) cut plain

-- the second place is so many lines after the first
pub record IsLater (count : ℕ) (p q : LinePlace) : Type 0 where
  pub number : q.number ≡ count + p.number
  pub some : 0 < p.number

-- what holds of a line holds of it at a place that is so many lines later
pub record MayMove {A : Type 0} (count : ℕ) (tells : LinePlace → List ℕ → List A → Type 0) (shift : List A → List A) : Type 0 where
  pub none : shift [] ≡ []
  pub joins : (a b : List A) → shift (a ++ b) ≡ shift a ++ shift b
  pub each : (p q : LinePlace) (line : List ℕ) (output : List A) → q.number ≡ count + p.number → tells p line output → tells q line (shift output)

-- a line is bad at each place or at none, and a list may end after any line
pub record EndsAnywhere (bad : LinePlace → List ℕ → FaultKind → Type 0) (lacks : ℕ → Option FaultKind) : Type 0 where
  pub each : (p q : LinePlace) (line : List ℕ) (kind : FaultKind) → bad p line kind → bad q line kind
  pub never : (graphs : ℕ) → lacks graphs ≡ None

next_later : (count : ℕ) (p q : LinePlace) (line : List ℕ) → IsLater count p q → IsLater count (place_after p line) (place_after q line)
next_later count p q line later =
    let p_next = next_number p line in
    let q_next = next_number q line in
    let at = later.number in
    record { number = omega arith; some = omega arith }

behind_later : (count : ℕ) (p q : LinePlace) (lines : List (List ℕ)) → IsLater count p q → IsLater count (place_behind p lines) (place_behind q lines)
behind_later count p q [] later = later
behind_later count p q (line ∷ lines) later = behind_later count (place_after p line) (place_after q line) lines (next_later count p q line later)

module _ {A : Type 0} {count : ℕ} {tells : LinePlace → List ℕ → List A → Type 0} {shift : List A → List A} (may : MayMove count tells shift) where
  line_later :
      (p q : LinePlace) (line : List ℕ) (output : List A) → IsLater count p q → is_header p.number line ≡ false → LineTold tells p line output →
      LineTold tells q line (shift output)
  line_later p q line output later plain (inl header) = absurd (cc (sym header.0 ∙ plain))
  line_later p q line output later plain (inr told) =
      inr (stays_plain count p.number q.number line later.number later.some plain, told.1, may.each p q line output later.number told.2)

  -- lines of which the first is no header may be moved
  pub all_later :
      (p q : LinePlace) (lines : List (List ℕ)) (output : List A) → IsLater count p q → opens_at p lines ≡ false → AllTold tells p lines output →
      AllTold tells q lines (shift output)
  all_later p q [] output later plain told = ap shift told ∙ may.none
  all_later p q (line ∷ lines) output later plain (first, others, one, rest, out) =
      let next = next_later count p q line later in
      let number = next_number p line in
      let some = later.some in (
        shift first,
        shift others,
        line_later p q line first later plain one,
        all_later (place_after p line) (place_after q line) lines others next (later_plain (place_after p line) lines (omega arith)) rest,
        ap shift out ∙ may.joins first others,
      )

  module _ (p q : LinePlace) (lines : List (List ℕ)) (later : IsLater count p q) (plain : opens_at p lines ≡ false) where
    pub begin_later : (output : List A) → BeginningTold tells p lines output → BeginningTold tells q lines (shift output)
    begin_later output begin = record {
      before = begin.before;
      behind = begin.behind;
      cut = begin.cut;
      told = all_later p q begin.before output later (before_plain p lines begin.before begin.behind begin.cut plain) begin.told;
    }

    module _ {bad : LinePlace → List ℕ → FaultKind → Type 0} {lacks : ℕ → Option FaultKind} (ends : EndsAnywhere bad lacks) where
      pub whole_later : (output : List A) → WholeTold tells lacks p lines output → WholeTold tells lacks q lines (shift output)
      whole_later output whole = record { told = all_later p q lines output later plain whole.told; ends = ends.never (place_behind q lines).graphs }

      bad_later : (m n : LinePlace) (line : List ℕ) (kind : FaultKind) → IsLater count m n → LineBad bad m line kind → LineBad bad n line kind
      bad_later m n line kind later (inl long) = inl long
      bad_later m n line kind later (inr is) =
          inr (stays_plain count m.number n.number line later.number later.some is.0, is.1, ends.each m n line kind is.2)

      -- the number of a bad line moves with it
      has_bad_later : (found : BadLine) (output : List A) → HasBadLine tells bad p lines found output → HasBadLine tells bad q lines (found_behind count found) (shift output)
      has_bad_later found output stops =
          let at = behind_later count p q stops.before later in
          record {
            before = stops.before;
            line = stops.line;
            behind = stops.behind;
            cut = stops.cut;
            told = all_later p q stops.before output later (before_plain p lines stops.before (stops.line ∷ stops.behind) stops.cut plain) stops.told;
            named = record {
              bad_line = bad_later (place_behind p stops.before) (place_behind q stops.before) stops.line found.kind at stops.named.bad_line;
              number = ap (λ (n : ℕ). count + n) stops.named.number ∙ sym at.number;
              kept = stops.named.kept;
            };
          }

      pub stop_later : (found : BadLine) (output : List A) → ToldToBad tells bad lacks p lines found output → ToldToBad tells bad lacks q lines (found_behind count found) (shift output)
      stop_later found output (inl stops) = inl (has_bad_later found output stops)
      stop_later found output (inr missing) = absurd (none-some found.kind (sym (ends.never _) ∙ missing.ends))
