-- If any two outputs of a line are alike, so are any two of a list of lines, by induction. A header
-- has an empty output, and so has a line that is skipped.
use Rattle.std.proofs.Common.{◌≡◌, ◌∙◌, ◌⊎◌, inl, inr, ℕ, List, [], ◌∷◌, ◌++◌, ap, ap₂, sym}
use Rattle.mcg6_lines.specs.Alike.{AreAlike}
use Rattle.mcg6_lines.specs.declared.query.Query.{Query}
use Rattle.mcg6_reader.specs.Common.{AllTold, LineTold, place_after}
use Rattle.mcg6_reader.specs.declared.place.LinePlace.{LinePlace}
use Rattle.mcg6_top.proofs.OneOutput.{alike_each, told_or_bad}
use Rattle.mcg6_top.specs.Common.{AreAlikeOutputs, TellsLineOf, TellsOrSkips}
use Rattle.mcg6_top.specs.declared.command.AtBadLine.{AtBadLine}
use Rattle.mcg6_top.specs.declared.command.AtBadLine.TheVariants.{Stop, Skip}

-- two outputs for one line are alike, or nothing is written for it
abbrev AlikeOrNothing : Query → (a b : List ℕ) → Type 0
AlikeOrNothing query a b = AreAlike query a b ⊎ ((a ≡ []) × (b ≡ []))

-- two outputs of a line, and two of the lines after it
alike_before : (query : Query) (a b c d : List ℕ) → AlikeOrNothing query a b → AreAlikeOutputs query c d → AreAlikeOutputs query (a ++ c) (b ++ d)
alike_before query a b c d (inl alike) rest = record {
  pairs = (a, b) ∷ rest.pairs;
  alike = (alike, rest.alike);
  one = ap (λ (t : List ℕ). a ++ t) rest.one;
  two = ap (λ (t : List ℕ). b ++ t) rest.two;
}
alike_before query a b c d (inr nothing) rest = record {
  pairs = rest.pairs;
  alike = rest.alike;
  one = ap₂ ◌++◌ nothing.0 rest.one;
  two = ap₂ ◌++◌ nothing.1 rest.two;
}

module _ (query : Query) (tells : LinePlace → List ℕ → List ℕ → Type 0) (each : (place : LinePlace) (line a b : List ℕ) → tells place line a → tells place line b → AlikeOrNothing query a b) where
  line_alike : (place : LinePlace) (line a b : List ℕ) → LineTold tells place line a → LineTold tells place line b → AlikeOrNothing query a b
  line_alike place line a b (inl first) (inl second) = inr (first.1, second.1)
  line_alike place line a b (inl first) (inr second) = absurd (cc (sym first.0 ∙ second.0))
  line_alike place line a b (inr first) (inl second) = absurd (cc (sym second.0 ∙ first.0))
  line_alike place line a b (inr first) (inr second) = each place line a b first.2 second.2

  all_alike : (place : LinePlace) (lines : List (List ℕ)) (a b : List ℕ) → AllTold tells place lines a → AllTold tells place lines b → AreAlikeOutputs query a b
  all_alike place [] a b first second = record { pairs = []; alike = tt; one = first; two = second }
  all_alike place (line ∷ lines) a b (a1, a2, la, ra, ea) (b1, b2, lb, rb, eb) =
      let both =
      alike_before query a1 b1 a2 b2 (line_alike place line a1 b1 la lb) (all_alike (place_after place line) lines a2 b2 ra rb) in
      record { pairs = both.pairs; alike = both.alike; one = ea ∙ both.one; two = eb ∙ both.two }

-- the outputs of lines that are all told
told_each : (query : Query) (place : LinePlace) (line a b : List ℕ) → TellsLineOf query place line a → TellsLineOf query place line b → AlikeOrNothing query a b
told_each query place line a b one two = inl (alike_each query place line a b one two)

pub told_alike :
    (query : Query) (place : LinePlace) (lines : List (List ℕ)) (a b : List ℕ) → AllTold (TellsLineOf query) place lines a →
    AllTold (TellsLineOf query) place lines b → AreAlikeOutputs query a b
told_alike query place lines a b one two = all_alike query (TellsLineOf query) (told_each query) place lines a b one two

-- and of lines of which some may be skipped
either_each : (query : Query) (at_bad : AtBadLine) (place : LinePlace) (line a b : List ℕ) → TellsOrSkips query at_bad place line a → TellsOrSkips query at_bad place line b → AlikeOrNothing query a b
either_each query Stop place line a b one two = told_each query place line a b one two
either_each query Skip place line a b (inl one) (inl two) = told_each query place line a b one two
either_each query Skip place line a b (inl one) (inr two) = absurd (told_or_bad query place line a two.0.0 one two.0.1)
either_each query Skip place line a b (inr one) (inl two) = absurd (told_or_bad query place line b one.0.0 two one.0.1)
either_each query Skip place line a b (inr one) (inr two) = inr (one.1, two.1)

pub either_alike :
    (query : Query) (at_bad : AtBadLine) (place : LinePlace) (lines : List (List ℕ)) (a b : List ℕ) → AllTold (TellsOrSkips query at_bad) place lines a →
    AllTold (TellsOrSkips query at_bad) place lines b → AreAlikeOutputs query a b
either_alike query at_bad place lines a b one two = all_alike query (TellsOrSkips query at_bad) (either_each query at_bad) place lines a b one two
