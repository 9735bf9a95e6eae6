-- A line has alike outputs or one kind of a first fault, and not both: what reads a graph is a
-- function. A query that is not free has one output for a line.
use Rattle.std.proofs.Common.{ℕ, List, arith, IsFalse}
use Rattle.mcg6_lines.proofs.OneAnswer.{alike_once, outputs_alike}
use Rattle.mcg6_lines.specs.Alike.{AreAlike, is_free}
use Rattle.mcg6_lines.specs.declared.query.Query.{Query}
use Rattle.mcg6_reader.specs.declared.place.LinePlace.{LinePlace}
use Rattle.mcg6_reader.specs.Common.{HasOneFault, HasOneOutputPerLine, TellsApart}
use Rattle.mcg6_top.specs.Common.{IsBadLine, TellsLineOf}

pub alike_each : (query : Query) (place : LinePlace) (line a b : List ℕ) → TellsLineOf query place line a → TellsLineOf query place line b → AreAlike query a b
alike_each query place line a b one two = outputs_alike query place.number line a b one.1 two.1

pub one_output_each : (query : Query) → IsFalse (is_free query) → HasOneOutputPerLine (TellsLineOf query)
one_output_each query fixed place line a b one two = alike_once query a b fixed (alike_each query place line a b one two)

pub one_fault_each : (query : Query) → HasOneFault (IsBadLine query)
one_fault_each query place line kind other h k = grind arith

pub told_or_bad : (query : Query) → TellsApart (TellsLineOf query) (IsBadLine query)
told_or_bad query place line output kind told h = grind arith
