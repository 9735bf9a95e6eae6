-- If no line has both an output and an error, a list that was processed to its end has no bad line,
-- and the first bad line of any other list is unique: by induction on the lines before it. A header
-- is short, so that it is not bad.
use Rattle.std.proofs.Common.{◌≡◌, inl, inr, ℕ, ◌≤◌, List, [], ◌∷◌, ◌++◌, length, refl, sym, ◌∙◌, ap, ap₂, subst, arith, IsTrue, Option}
use Rattle.std.proofs.lemmas.Bool.{and_parts}
use Rattle.std.proofs.lemmas.Option.{none-some, same_Some}
use Rattle.std.proofs.lemmas.Slice.Eq.{bytes_eq-Decides}
use Rattle.outside.specs.Common.{most_line}
use Rattle.line_text.specs.declared.faults.FaultKind.{FaultKind}
use Rattle.mcg6_reader.specs.declared.ending.BadLine.{BadLine}
use Rattle.mcg6_reader.specs.declared.place.LinePlace.{LinePlace}
use Rattle.mcg6_reader.specs.Common.{is_header, place_after, place_behind, LineTold, LineBad, AllTold, HasBadLine, HasOneFault, HasOneOutputPerLine, LacksLine, TellsApart, ToldToBad, WholeTold}
use Rattle.mcg6_reader.proofs.OneOutput.{one_output}

-- a header is one of three texts
header_short : (number : ℕ) (line : List ℕ) → IsTrue (is_header number line) → length line ≤ most_line
header_short number line is = grind (arith, and_parts, bytes_eq-Decides)

-- the kind of a bad line is one
fault_once :
    (bad : LinePlace → List ℕ → FaultKind → Type 0) (place : LinePlace) (line : List ℕ) (kind other : FaultKind) →
    HasOneFault bad → LineBad bad place line kind → LineBad bad place line other → kind ≡ other
fault_once bad place line kind other one (inl first) (inl second) = first.1 ∙ sym second.1
fault_once bad place line kind other one (inl first) (inr second) = let long = first.0 in let short = second.1 in absurd (omega arith)
fault_once bad place line kind other one (inr first) (inl second) = let short = first.1 in let long = second.0 in absurd (omega arith)
fault_once bad place line kind other one (inr first) (inr second) = one place line kind other first.2 second.2

module _ (tells : LinePlace → List ℕ → List ℕ → Type 0) (bad : LinePlace → List ℕ → FaultKind → Type 0) (apart : TellsApart tells bad) where
  -- a line with an output is not bad
  told_not_bad : (place : LinePlace) (line output : List ℕ) (kind : FaultKind) → LineTold tells place line output → LineBad bad place line kind → ⊥
  told_not_bad place line output kind h k = grind (arith, header_short place.number line)

  -- nor is one of lines that all are
  all_not_bad :
      (place : LinePlace) (before : List (List ℕ)) (line : List ℕ) (behind : List (List ℕ)) (kind : FaultKind) (output : List ℕ) →
      AllTold tells place (before ++ line ∷ behind) output → LineBad bad (place_behind place before) line kind → ⊥
  all_not_bad place [] line behind kind output told is = told_not_bad place line told.0 kind told.2 is
  all_not_bad place (first ∷ before) line behind kind output told is = all_not_bad (place_after place first) before line behind kind told.1 told.3 is

  -- two first bad lines come after the same lines
  same_before :
      (place : LinePlace) (before others : List (List ℕ)) (line another : List ℕ) (behind rest : List (List ℕ)) (kind other : FaultKind) (a b : List ℕ) →
      before ++ line ∷ behind ≡ others ++ another ∷ rest → AllTold tells place before a → AllTold tells place others b →
      LineBad bad (place_behind place before) line kind → LineBad bad (place_behind place others) another other → (before ≡ others) × (line ≡ another)
  same_before place [] [] line another behind rest kind other a b same told too is also = (refl, cc same)
  same_before place [] (first ∷ others) line another behind rest kind other a b same told too is also =
      let head : line ≡ first = cc same in
      absurd (told_not_bad place first too.0 kind too.2 (subst (λ (l : List ℕ). LineBad bad place l kind) head is))
  same_before place (first ∷ before) [] line another behind rest kind other a b same told too is also =
      let head : another ≡ first = cc same in
      absurd (told_not_bad place first told.0 other told.2 (subst (λ (l : List ℕ). LineBad bad place l other) head also))
  same_before place (first ∷ before) (second ∷ others) line another behind rest kind other a b same told too is also =
      let head : second ≡ first = cc same in
      let tail : before ++ line ∷ behind ≡ others ++ another ∷ rest = cc same in
      let later =
      same_before (place_after place first) before others line another behind rest kind other told.1 too.1 tail told.3
      (subst (λ (l : List ℕ). AllTold tells (place_after place l) others too.1) head too.3) is
      (subst (λ (l : List ℕ). LineBad bad (place_behind (place_after place l) others) another other) head also) in
      (ap₂ ◌∷◌ (sym head) later.0, later.1)

  -- a list that was processed to its end has no bad line
  pub whole_not_bad :
      (lacks : ℕ → Option FaultKind) (place : LinePlace) (lines : List (List ℕ)) (found : BadLine) (a b : List ℕ) →
      WholeTold tells lacks place lines a → ToldToBad tells bad lacks place lines found b → ⊥
  whole_not_bad lacks place lines found a b whole (inl stops) =
      all_not_bad place stops.before stops.line stops.behind found.kind a
      (subst (λ (ls : List (List ℕ)). AllTold tells place ls a) stops.cut whole.told) stops.named.bad_line
  whole_not_bad lacks place lines found a b whole (inr ends) = none-some found.kind (sym whole.ends ∙ ends.ends)

  -- nor does one lack a line that has a bad one
  bad_not_lacking :
      (lacks : ℕ → Option FaultKind) (place : LinePlace) (lines : List (List ℕ)) (found other : BadLine) (a b : List ℕ) →
      HasBadLine tells bad place lines found a → LacksLine tells lacks place lines other b → ⊥
  bad_not_lacking lacks place lines found other a b stops ends =
      all_not_bad place stops.before stops.line stops.behind found.kind b
      (subst (λ (ls : List (List ℕ)). AllTold tells place ls b) stops.cut ends.told) stops.named.bad_line

  -- the first bad line is unique, and what comes before it are the same lines
  module _ (one_fault : HasOneFault bad) where
    -- two outputs of the same lines
    abbrev SameTold : LinePlace → (a b : List ℕ) → Type 0
    SameTold place a b = (before : List (List ℕ)) × AllTold tells place before a × AllTold tells place before b

    first_bad_same :
        (place : LinePlace) (lines : List (List ℕ)) (found other : BadLine) (a b : List ℕ) →
        HasBadLine tells bad place lines found a → HasBadLine tells bad place lines other b →
        SameTold place a b × (found.number ≡ other.number) × (found.kind ≡ other.kind)
    first_bad_same place lines found other a b first second =
        let same =
        same_before place first.before second.before first.line second.line first.behind second.behind found.kind other.kind a b
        (sym first.cut ∙ second.cut) first.told second.told first.named.bad_line second.named.bad_line in (
          (second.before, subst (λ (ls : List (List ℕ)). AllTold tells place ls a) same.0 first.told, second.told),
          first.named.number ∙ ap (λ (ls : List (List ℕ)). (place_behind place ls).number) same.0 ∙ sym second.named.number,
          fault_once bad (place_behind place second.before) second.line found.kind other.kind one_fault
              (subst (λ (l : List ℕ). LineBad bad (place_behind place second.before) l found.kind) same.1
              (subst (λ (ls : List (List ℕ)). LineBad bad (place_behind place ls) first.line found.kind) same.0 first.named.bad_line))
              second.named.bad_line,
        )

    pub stop_same :
        (lacks : ℕ → Option FaultKind) (place : LinePlace) (lines : List (List ℕ)) (found other : BadLine) (a b : List ℕ) →
        ToldToBad tells bad lacks place lines found a → ToldToBad tells bad lacks place lines other b →
        ((before : List (List ℕ)) × AllTold tells place before a × AllTold tells place before b) × (found.number ≡ other.number) × (found.kind ≡ other.kind)
    stop_same lacks place lines found other a b (inl first) (inl second) = first_bad_same place lines found other a b first second
    stop_same lacks place lines found other a b (inl first) (inr second) = absurd (bad_not_lacking lacks place lines found other a b first second)
    stop_same lacks place lines found other a b (inr first) (inl second) = absurd (bad_not_lacking lacks place lines other found b a second first)
    stop_same lacks place lines found other a b (inr first) (inr second) = (
      (lines, first.told, second.told),
      first.number ∙ sym second.number,
      same_Some found.kind other.kind (sym first.ends ∙ second.ends),
    )

  -- the output before it is unique if each line has at most one
  pub stop_once :
      HasOneOutputPerLine tells → HasOneFault bad → (lacks : ℕ → Option FaultKind) (place : LinePlace) (lines : List (List ℕ)) (found other : BadLine) (a b : List ℕ) →
      ToldToBad tells bad lacks place lines found a → ToldToBad tells bad lacks place lines other b →
      (a ≡ b) × (found.number ≡ other.number) × (found.kind ≡ other.kind)
  stop_once one one_fault lacks place lines found other a b first second =
      let same = stop_same one_fault lacks place lines found other a b first second in
      (one_output tells place same.0.0 a b one same.0.1 same.0.2, same.1, same.2)
