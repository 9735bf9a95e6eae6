-- The bytes of a list leave open neither whether its lines are all answered nor what is written, up
-- to what a free query leaves open: any two outputs of a line are alike, and the first bad line is
-- one.
use Rattle.std.proofs.Common.{◌≡◌, inl, inr, ℕ, List, [], ◌∷◌, IsFalse}
use Rattle.mcg6_lines.specs.Alike.{is_free}
use Rattle.mcg6_lines.specs.declared.query.Query.{Query}
use Rattle.mcg6_reader.proofs.OneEnding.{stop_same, whole_not_bad}
use Rattle.mcg6_reader.proofs.OneOutput.{one_output}
use Rattle.mcg6_reader.specs.Common.{AllTold, lines_of, ToldToBad, first_place}
use Rattle.mcg6_reader.specs.declared.ending.BadLine.{BadLine}
use Rattle.mcg6_top.proofs.AlikeOutputs.{either_alike, told_alike}
use Rattle.mcg6_top.proofs.OneOutput.{one_output_each}
use Rattle.mcg6_top.proofs.Skipping.{all_unreported, apart_each, either_once, stop_each, whole_lifted}
use Rattle.mcg6_top.specs.Common.{AreAlikeOutputs, TellsLineOf, TellsOrSkips, ListStopsAt, lacks_of, ListOutcome}
use Rattle.mcg6_top.specs.declared.command.AtBadLine.{AtBadLine}
use Rattle.mcg6_top.specs.declared.status.ListStatus.TheVariants.{BadInput, Done}

-- a list that is done has no bad line
pub done_or_bad :
    (query : Query) (at_bad : AtBadLine) (bytes a b : List ℕ) → ListOutcome query at_bad bytes Done a → ListOutcome query at_bad bytes BadInput b → ⊥
done_or_bad query at_bad bytes a b done (inl bad) =
    whole_not_bad (TellsOrSkips query at_bad) (ListStopsAt query at_bad) (apart_each query at_bad) (lacks_of query) first_place (lines_of bytes) bad.found a b
    (whole_lifted query at_bad (lines_of bytes) a done) bad.told
done_or_bad query at_bad bytes a b done (inr bad) =
    let none : bad.first ∷ bad.others ≡ [] = all_unreported query at_bad first_place (lines_of bytes) a (bad.first ∷ bad.others) done.told bad.skipped in
    cc none

pub done_alike :
    (query : Query) (at_bad : AtBadLine) (bytes a b : List ℕ) → ListOutcome query at_bad bytes Done a → ListOutcome query at_bad bytes Done b → AreAlikeOutputs query a b
done_alike query at_bad bytes a b one two = told_alike query first_place (lines_of bytes) a b one.told two.told

pub done_once :
    (query : Query) (at_bad : AtBadLine) (bytes a b : List ℕ) → IsFalse (is_free query) → ListOutcome query at_bad bytes Done a → ListOutcome query at_bad bytes Done b → a ≡ b
done_once query at_bad bytes a b fixed one two = one_output (TellsLineOf query) first_place (lines_of bytes) a b (one_output_each query fixed) one.told two.told

-- two outputs of the same lines
abbrev SameTold : Query → AtBadLine → (a b : List ℕ) → Type 0
SameTold query at_bad a b = (before : List (List ℕ)) × AllTold (TellsOrSkips query at_bad) first_place before a × AllTold (TellsOrSkips query at_bad) first_place before b

-- the first bad line is one, and what comes before it are the same lines
pub stops_same :
    (query : Query) (at_bad : AtBadLine) (bytes : List ℕ) (found other : BadLine) (a b : List ℕ) →
    ToldToBad (TellsOrSkips query at_bad) (ListStopsAt query at_bad) (lacks_of query) first_place (lines_of bytes) found a →
    ToldToBad (TellsOrSkips query at_bad) (ListStopsAt query at_bad) (lacks_of query) first_place (lines_of bytes) other b →
    ((before : List (List ℕ)) × AllTold (TellsOrSkips query at_bad) first_place before a × AllTold (TellsOrSkips query at_bad) first_place before b)
    × (found.number ≡ other.number) × (found.kind ≡ other.kind)
stops_same query at_bad bytes found other a b one two =
    stop_same (TellsOrSkips query at_bad) (ListStopsAt query at_bad) (apart_each query at_bad) (stop_each query at_bad) (lacks_of query) first_place (lines_of bytes) found other a b one two

-- two outputs of a bad list are of the same lines
bad_same :
    (query : Query) (at_bad : AtBadLine) (bytes a b : List ℕ) → ListOutcome query at_bad bytes BadInput a → ListOutcome query at_bad bytes BadInput b → SameTold query at_bad a b
bad_same query at_bad bytes a b (inl one) (inl two) = (stops_same query at_bad bytes one.found two.found a b one.told two.told).0
bad_same query at_bad bytes a b (inl one) (inr two) =
    absurd
    (whole_not_bad (TellsOrSkips query at_bad) (ListStopsAt query at_bad) (apart_each query at_bad) (lacks_of query) first_place (lines_of bytes) one.found b a two.told one.told)
bad_same query at_bad bytes a b (inr one) (inl two) =
    absurd
    (whole_not_bad (TellsOrSkips query at_bad) (ListStopsAt query at_bad) (apart_each query at_bad) (lacks_of query) first_place (lines_of bytes) two.found a b one.told two.told)
bad_same query at_bad bytes a b (inr one) (inr two) = (lines_of bytes, one.told.told, two.told.told)

pub bad_alike :
    (query : Query) (at_bad : AtBadLine) (bytes a b : List ℕ) → ListOutcome query at_bad bytes BadInput a → ListOutcome query at_bad bytes BadInput b → AreAlikeOutputs query a b
bad_alike query at_bad bytes a b one two = let same = bad_same query at_bad bytes a b one two in either_alike query at_bad first_place same.0 a b same.1 same.2

pub bad_once :
    (query : Query) (at_bad : AtBadLine) (bytes a b : List ℕ) → IsFalse (is_free query) → ListOutcome query at_bad bytes BadInput a →
    ListOutcome query at_bad bytes BadInput b → a ≡ b
bad_once query at_bad bytes a b fixed one two =
    let same = bad_same query at_bad bytes a b one two in
    one_output (TellsOrSkips query at_bad) first_place same.0 a b (either_once query at_bad fixed) same.1 same.2
