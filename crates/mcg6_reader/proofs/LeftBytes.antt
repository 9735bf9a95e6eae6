-- What is left of a source after bytes were read: what was left before is these bytes and what is
-- left now. If a source makes nothing known, some list serves.
use Rattle.std.proofs.Common.{◌≡◌, ℕ, List, [], ◌++◌, refl, sym, subst, ◌∙◌, ap, append_assoc, append-nil, arith, Option, Some, None}
use Rattle.outside.specs.Common.{prepended, IsAtEnd}
use Rattle.line_text.specs.declared.faults.FaultKind.{FaultKind}
use Rattle.mcg6_reader.specs.declared.ending.BadLine.{BadLine}
use Rattle.mcg6_reader.specs.declared.ending.InputEnding.{InputEnding}
use Rattle.mcg6_reader.specs.declared.place.LinePlace.{LinePlace}
use Rattle.mcg6_reader.specs.Common.{lines_of, first_place, GivesOutput, Reported, Added, Appended, IsKnownLeft, TellsList}

pub prepended-nil : (left : Option (List ℕ)) → prepended [] left ≡ left
prepended-nil left = grind arith

pub prepended-prepended :
    (first second : List ℕ) (left : Option (List ℕ)) → prepended first (prepended second left) ≡ prepended (first ++ second) left
prepended-prepended first second None = refl
prepended-prepended first second (Some rest) = ap Some (sym (append_assoc first second rest))

-- if bytes were read, the list is these bytes and what is left
pub record ListIs (before : Option (List ℕ)) (read : List ℕ) : Type 0 where
  pub rest : List ℕ
  pub is_left : IsKnownLeft before (read ++ rest)

pub list_is : (before now : Option (List ℕ)) (read : List ℕ) → before ≡ prepended read now → ListIs before read
list_is before None read left = grind arith
list_is before (Some rest) read left = record {
  rest = rest;
  is_left = subst (λ (o : Option (List ℕ)). IsKnownLeft o (read ++ rest)) (sym left) refl;
}

-- at the end nothing is left
pub list_ends : (before now : Option (List ℕ)) (read : List ℕ) → before ≡ prepended read now → IsAtEnd now → IsKnownLeft before read
list_ends before now read left end = grind (arith, append-nil read)

-- what was read once a piece is read
pub piece_read :
    (whole held piece : List ℕ) (before now next : Option (List ℕ)) →
    before ≡ prepended (whole ++ held) now → now ≡ prepended piece next → before ≡ prepended (whole ++ (held ++ piece)) next
piece_read whole held piece before now next left taken =
    left
    ∙ ap (prepended (whole ++ held)) taken
    ∙ prepended-prepended (whole ++ held) piece next
    ∙ ap (λ (t : List ℕ). prepended t next) (append_assoc whole held piece)

-- if the source makes known what is left, the list is that
module _
    (tells : LinePlace → List ℕ → List ℕ → Type 0) (bad : LinePlace → List ℕ → FaultKind → Type 0) (lacks : ℕ → Option FaultKind) (ending : InputEnding)
    (left before now : Option (List ℕ)) (bytes : List ℕ)
    (reports : LinePlace → List ℕ → List BadLine → Type 0) (founds_before founds_now : List BadLine)
    (list : TellsList tells bad lacks reports ending left before now founds_before founds_now) (is : left ≡ Some bytes) where
  same_list : list.bytes ≡ bytes
  same_list = sym (subst (λ (o : Option (List ℕ)). IsKnownLeft o list.bytes) is list.is_left)

  pub told_list : Appended (GivesOutput tells bad lacks first_place (lines_of bytes) ending) before now
  told_list = subst (λ (t : List ℕ). Appended (GivesOutput tells bad lacks first_place (lines_of t) ending) before now) same_list list.gives

  pub reported_list : Added (Reported reports bad lacks first_place (lines_of bytes) ending) founds_before founds_now
  reported_list = subst (λ (t : List ℕ). Added (Reported reports bad lacks first_place (lines_of t) ending) founds_before founds_now) same_list list.reported
