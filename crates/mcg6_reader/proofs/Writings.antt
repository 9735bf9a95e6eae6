-- What is put into an empty output and then written: all of it if the writes took it whole,
-- else a proper prefix of it.
use Rattle.std.proofs.Common.{◌≡◌, ℕ, ◌<◌, List, [], length, take, sym, subst, refl, arith, Option}
use Rattle.outside.specs.Common.{appended, IsCutOff}
use Rattle.mcg6_reader.specs.declared.place.LinePlace.{LinePlace}
use Rattle.mcg6_reader.specs.Common.{BeginningTold, CutShort, Added, WroteCut}

-- what was added to nothing is the whole output
added_whole : (holds : List ℕ → Type 0) (start out : List ℕ) → Added holds start out → start ≡ [] → holds out
added_whole holds start out added none = grind arith

-- a proper prefix of it was written
pub wrote_cut :
    {K : Type 0} (written : K → Option (List ℕ)) (writes : K → List ℕ → ℕ → K → Type 0) (holds gives : List ℕ → Type 0)
    (start out piece : List ℕ) (first last : K) →
    Added holds start out → start ≡ [] → piece ≡ out →
    ((bytes : List ℕ) (count : ℕ) → holds bytes → count < length bytes → gives (take count bytes)) →
    ((count : ℕ) × (count < length piece) × (written last ≡ appended (written first) (take count piece))
    × IsCutOff writes piece count first last) →
    WroteCut written writes gives first last
wrote_cut written writes holds gives start out piece first last added none same short cut = record {
  whole = piece;
  count = cut.0;
  right = short piece cut.0 (subst holds (sym same) (added_whole holds start out added none)) cut.1;
  now = cut.2;
  cut = cut.3;
}

-- a proper prefix of the output of a beginning
pub begun_cut :
    (tells : LinePlace → List ℕ → List ℕ → Type 0) (n : LinePlace) (lines : List (List ℕ)) (bytes : List ℕ) (count : ℕ) →
    BeginningTold tells n lines bytes → count < length bytes → CutShort tells n lines (take count bytes)
begun_cut tells n lines bytes count begun less = record { whole = bytes; count = count; of = begun; less = less; part = refl }
