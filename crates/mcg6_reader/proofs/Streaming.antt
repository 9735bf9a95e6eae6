-- The reads and writes of a list that is processed as it is read, joined to one stream: what the
-- last piece gives is what the list gives there, whatever follows it.
use Rattle.std.proofs.Common.{inl, ℕ, List, [], ◌++◌, append_assoc, append-nil, arith, Option, Some}
use Rattle.line_text.specs.declared.faults.FaultKind.{FaultKind}
use Rattle.mcg6_reader.specs.declared.ending.BadLine.{BadLine}
use Rattle.mcg6_reader.specs.declared.ending.InputEnding.{InputEnding}
use Rattle.mcg6_reader.specs.declared.place.LinePlace.{LinePlace}
use Rattle.mcg6_reader.specs.Common.{lines_of, GivesOutput, StopsWith, WroteUpTo, Ends, IsStream, GivesAfter}
use Rattle.mcg6_reader.proofs.Stages.{wrote_otherwise}
use Rattle.mcg6_reader.proofs.Readings.{SoFar, gives_behind}

module _ {S K : Type 0} {tells : LinePlace → List ℕ → List ℕ → Type 0} {reports : LinePlace → List ℕ → List BadLine → Type 0} {left : S → Option (List ℕ)} {reads : S → Option (List ℕ) → S → Type 0} {written : K → Option (List ℕ)} {writes : K → List ℕ → ℕ → K → Type 0} {place : LinePlace} {held : List ℕ} {source : S} {sink : K} {now_source : S} {now_sink : K} {founds now_founds : List BadLine} (so_far : SoFar tells reports left reads written writes place held source sink now_source now_sink founds now_founds) (bad : LinePlace → List ℕ → FaultKind → Type 0) (lacks : ℕ → Option FaultKind) where
  -- what the lines of a piece give is what the list gives, whatever follows it
  stops_after : (piece : List ℕ) (ending : InputEnding) (output : List ℕ) → StopsWith tells bad lacks place (held ++ piece) ending output →
      GivesAfter tells bad lacks (so_far.whole ++ held) piece so_far.output ending output
  stops_after piece ending output stops rest follows = grind (arith, append_assoc, gives_behind so_far bad lacks ending ((held ++ piece) ++ rest) output (stops rest))

  -- what the last lines give is what the list gives, since nothing follows them
  end_after : (ending : InputEnding) (output : List ℕ) → GivesOutput tells bad lacks place (lines_of held) ending output →
      GivesAfter tells bad lacks (so_far.whole ++ held) [] so_far.output ending output
  end_after ending output gives rest follows = grind (arith, append-nil, gives_behind so_far bad lacks ending held output gives)

  module _ (ending : InputEnding) (last_source : S) (last_sink : K) where
    -- the reads and writes so far, and how they end
    pub stream_begun : Ends tells bad lacks reads written writes ending (record { read = so_far.whole ++ held; output = so_far.output; source = now_source; sink = now_sink }) last_source last_sink →
        IsStream tells bad lacks reads written writes ending source sink last_source last_sink
    stream_begun ends = record {
      count = so_far.count;
      last = record { read = so_far.whole ++ held; output = so_far.output; source = now_source; sink = now_sink };
      steps = so_far.steps;
      ends = ends;
    }

    -- they end in a piece
    pub stream_stops : (piece : List ℕ) → reads now_source (Some piece) last_source →
        WroteUpTo written writes (StopsWith tells bad lacks place (held ++ piece)) ending now_sink last_sink →
        IsStream tells bad lacks reads written writes ending source sink last_source last_sink
    stream_stops piece reading wrote =
        stream_begun (
        inl (
        record {
          piece = piece;
          reading = reading;
          writing =
              wrote_otherwise written writes (StopsWith tells bad lacks place (held ++ piece))
              (GivesAfter tells bad lacks (so_far.whole ++ held) piece so_far.output)
              (stops_after piece) ending now_sink last_sink wrote;
        }
        )
        )

    -- they end at the end of the list
    pub stream_end : reads now_source (Some []) last_source →
        WroteUpTo written writes (GivesOutput tells bad lacks place (lines_of held)) ending now_sink last_sink →
        IsStream tells bad lacks reads written writes ending source sink last_source last_sink
    stream_end reading wrote = grind (arith, stream_begun, wrote_otherwise, end_after)
