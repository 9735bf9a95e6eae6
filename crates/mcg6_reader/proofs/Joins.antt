-- The outputs of some lines followed by those of the lines after them are the outputs of all of
-- them. Idea: induction over the first lines; the place after them is where the others begin.
use Rattle.std.proofs.Common.{◌≡◌, inl, inr, ℕ, suc, ◌+◌, List, [], ◌∷◌, ◌++◌, length, take, refl, sym, subst, ◌∙◌, ap, arith, append_assoc, length-append, append-nil, Option, Some, None}
use Rattle.line_text.specs.declared.faults.FaultKind.{FaultKind}
use Rattle.mcg6_reader.specs.declared.ending.BadLine.{BadLine}
use Rattle.mcg6_reader.specs.declared.ending.InputEnding.{InputEnding}
use Rattle.mcg6_reader.specs.declared.ending.InputEnding.TheVariants.{Done, Bad, ReadFault, WriteFault, Memory}
use Rattle.mcg6_reader.specs.declared.place.LinePlace.{LinePlace}
use Rattle.mcg6_reader.specs.Common.{place_after, place_behind, LineTold, NamesBad, AllTold, BeginningTold, WholeTold, HasBadLine, LacksLine, ToldToBad, CutShort, GivesOutput}

pub place_behind-append : (n : LinePlace) (xs ys : List (List ℕ)) → place_behind n (xs ++ ys) ≡ place_behind (place_behind n xs) ys
place_behind-append n [] ys = refl
place_behind-append n (x ∷ xs) ys = place_behind-append (place_after n x) xs ys

pub AllTold-append :
    {A : Type 0} (tells : LinePlace → List ℕ → List A → Type 0) (n : LinePlace) (xs ys : List (List ℕ)) (a b : List A) →
    AllTold tells n xs a → AllTold tells (place_behind n xs) ys b → AllTold tells n (xs ++ ys) (a ++ b)
AllTold-append {A} tells n [] ys a b told behind =
    let out : a ++ b ≡ b = ap (λ (t : List A). t ++ b) told in
    subst (λ (t : List A). AllTold tells n ys t) (sym out) behind
AllTold-append {A} tells n (x ∷ xs) ys a b (first, others, one, rest, out) behind = (
  first,
  others ++ b,
  one,
  AllTold-append tells (place_after n x) xs ys others b rest behind,
  ap (λ (t : List A). t ++ b) out ∙ append_assoc first others b,
)

-- one line
pub AllTold-one :
    {A : Type 0} (tells : LinePlace → List ℕ → List A → Type 0) (n : LinePlace) (line : List ℕ) (output : List A) →
    LineTold tells n line output → AllTold tells n (line ∷ []) output
AllTold-one tells n line output told = (output, [], told, refl, sym (append-nil output))

pub BeginningTold-none :
    {A : Type 0} (tells : LinePlace → List ℕ → List A → Type 0) (n : LinePlace) (lines : List (List ℕ)) → BeginningTold tells n lines []
BeginningTold-none tells n lines = record { before = []; behind = lines; cut = refl; told = refl }

pub BeginningTold-behind :
    {A : Type 0} (tells : LinePlace → List ℕ → List A → Type 0) (n : LinePlace) (xs ys : List (List ℕ)) (a b : List A) →
    AllTold tells n xs a → BeginningTold tells (place_behind n xs) ys b → BeginningTold tells n (xs ++ ys) (a ++ b)
BeginningTold-behind tells n xs ys a b told behind = record {
  before = xs ++ behind.before;
  behind = behind.behind;
  cut = ap (λ (l : List (List ℕ)). xs ++ l) behind.cut ∙ sym (append_assoc xs behind.before behind.behind);
  told = AllTold-append tells n xs behind.before a b told behind.told;
}

-- the first line is bad
pub HasBadLine-first :
    {A : Type 0} (tells : LinePlace → List ℕ → List A → Type 0) (bad : LinePlace → List ℕ → FaultKind → Type 0) (n : LinePlace) (line : List ℕ) (found : BadLine)
    (lines : List (List ℕ)) → NamesBad bad n line found → HasBadLine tells bad n (line ∷ lines) found []
HasBadLine-first tells bad n line found lines named = record {
  before = [];
  line = line;
  behind = lines;
  cut = refl;
  told = refl;
  named = named;
}

pub HasBadLine-behind :
    {A : Type 0} (tells : LinePlace → List ℕ → List A → Type 0) (bad : LinePlace → List ℕ → FaultKind → Type 0) (n : LinePlace) (xs ys : List (List ℕ))
    (found : BadLine) (a b : List A) →
    AllTold tells n xs a → HasBadLine tells bad (place_behind n xs) ys found b → HasBadLine tells bad n (xs ++ ys) found (a ++ b)
HasBadLine-behind tells bad n xs ys found a b told behind = record {
  before = xs ++ behind.before;
  line = behind.line;
  behind = behind.behind;
  cut = ap (λ (l : List (List ℕ)). xs ++ l) behind.cut ∙ sym (append_assoc xs behind.before (behind.line ∷ behind.behind));
  told = AllTold-append tells n xs behind.before a b told behind.told;
  named = subst (λ (p : LinePlace). NamesBad bad p behind.line found) (sym (place_behind-append n xs behind.before)) behind.named;
}

pub LacksLine-behind :
    {A : Type 0} (tells : LinePlace → List ℕ → List A → Type 0) (lacks : ℕ → Option FaultKind) (n : LinePlace) (xs ys : List (List ℕ))
    (found : BadLine) (a b : List A) →
    AllTold tells n xs a → LacksLine tells lacks (place_behind n xs) ys found b → LacksLine tells lacks n (xs ++ ys) found (a ++ b)
LacksLine-behind tells lacks n xs ys found a b told behind =
    let at = sym (place_behind-append n xs ys) in
    record {
      told = AllTold-append tells n xs ys a b told behind.told;
      ends = subst (λ (p : LinePlace). lacks p.graphs ≡ Some found.kind) at behind.ends;
      number = subst (λ (p : LinePlace). found.number ≡ p.number) at behind.number;
      nothing = behind.nothing;
    }

pub ToldToBad-behind :
    {A : Type 0} (tells : LinePlace → List ℕ → List A → Type 0) (bad : LinePlace → List ℕ → FaultKind → Type 0) (lacks : ℕ → Option FaultKind) (n : LinePlace)
    (xs ys : List (List ℕ)) (found : BadLine) (a b : List A) →
    AllTold tells n xs a → ToldToBad tells bad lacks (place_behind n xs) ys found b → ToldToBad tells bad lacks n (xs ++ ys) found (a ++ b)
ToldToBad-behind tells bad lacks n xs ys found a b told (inl behind) = inl (HasBadLine-behind tells bad n xs ys found a b told behind)
ToldToBad-behind tells bad lacks n xs ys found a b told (inr behind) = inr (LacksLine-behind tells lacks n xs ys found a b told behind)

-- a prefix of a second list after a first one
take-behind : {A : Type 0} (a b : List A) (n : ℕ) → a ++ take n b ≡ take (length a + n) (a ++ b)
take-behind [] b n = let same : 0 + n ≡ n = omega arith in ap (λ (k : ℕ). take k b) (sym same)
take-behind {A} (x ∷ a) b n =
    let next : length (x ∷ a) + n ≡ suc (length a + n) = omega arith in
    ap (λ (t : List A). x ∷ t) (take-behind a b n) ∙ ap (λ (k : ℕ). take k (x ∷ (a ++ b))) (sym next)

pub CutShort-behind :
    {A : Type 0} (tells : LinePlace → List ℕ → List A → Type 0) (n : LinePlace) (xs ys : List (List ℕ)) (a b : List A) →
    AllTold tells n xs a → CutShort tells (place_behind n xs) ys b → CutShort tells n (xs ++ ys) (a ++ b)
CutShort-behind {A} tells n xs ys a b told behind = record {
  whole = a ++ behind.whole;
  count = length a + behind.count;
  of = BeginningTold-behind tells n xs ys a behind.whole told behind.of;
  less = let less = behind.less in omega (arith, length-append a behind.whole);
  part = ap (λ (t : List A). a ++ t) behind.part ∙ take-behind a behind.whole behind.count;
}

WholeTold-behind :
    {A : Type 0} (tells : LinePlace → List ℕ → List A → Type 0) (lacks : ℕ → Option FaultKind) (n : LinePlace) (xs ys : List (List ℕ)) (a b : List A) →
    AllTold tells n xs a → WholeTold tells lacks (place_behind n xs) ys b → WholeTold tells lacks n (xs ++ ys) (a ++ b)
WholeTold-behind tells lacks n xs ys a b told behind = record {
  told = AllTold-append tells n xs ys a b told behind.told;
  ends = subst (λ (p : LinePlace). lacks p.graphs ≡ None) (sym (place_behind-append n xs ys)) behind.ends;
}

-- lines that have been processed, and the output of the lines after them
pub GivesOutput-behind :
    {A : Type 0} (tells : LinePlace → List ℕ → List A → Type 0) (bad : LinePlace → List ℕ → FaultKind → Type 0) (lacks : ℕ → Option FaultKind) (n : LinePlace)
    (xs ys : List (List ℕ)) (a b : List A) (ending : InputEnding) →
    AllTold tells n xs a → GivesOutput tells bad lacks (place_behind n xs) ys ending b → GivesOutput tells bad lacks n (xs ++ ys) ending (a ++ b)
GivesOutput-behind tells bad lacks n xs ys a b Done told behind = WholeTold-behind tells lacks n xs ys a b told behind
GivesOutput-behind tells bad lacks n xs ys a b (Bad found) told behind = ToldToBad-behind tells bad lacks n xs ys found a b told behind
GivesOutput-behind tells bad lacks n xs ys a b ReadFault told behind = BeginningTold-behind tells n xs ys a b told behind
GivesOutput-behind tells bad lacks n xs ys a b WriteFault told behind = CutShort-behind tells n xs ys a b told behind
GivesOutput-behind tells bad lacks n xs ys a b Memory told behind = BeginningTold-behind tells n xs ys a b told behind
