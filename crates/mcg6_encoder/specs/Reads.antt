-- How a file is read from a source, and what is written once it has been read.
-- Stated by: mcg6_encoder. Used by: mcg6_top.
use Rattle.std.specs.Prelude.{◌≡◌, ◌⊎◌, ℕ, ◌+◌, zero, suc, ◌<◌, ◌≤◌, List, [], ◌++◌, length, take, Option, Some, None}
use Rattle.outside.specs.Common.{appended, IsWritten, IsCutOff, most_bytes}
use Rattle.mcg6_reader.specs.declared.ending.BadLine.{BadLine}
use Rattle.mcg6_reader.specs.declared.ending.InputEnding.{InputEnding}
use Rattle.mcg6_reader.specs.declared.ending.InputEnding.TheVariants.{Done, Bad, ReadFault, WriteFault, Memory}
use Rattle.mcg6_reader.specs.Common.{Appended, IsKnownLeft}
use Rattle.mcg6_encoder.specs.Files.{Encodes, IsEncoded, IsOutside, NamesTooLong}

-- so many reads returned these bytes, one piece after another, and lead from the first source to
-- the last
abbrev pub ReadsGive : {S : Type 0} → (S → Option (List ℕ) → S → Type 0) → ℕ → List ℕ → (first last : S) → Type 0
ReadsGive reads zero bytes first last = (bytes ≡ []) × (last ≡ first)
ReadsGive {S} reads (suc count) bytes first last =
    (before : List ℕ) × (piece : List ℕ) × (next : S) × (ReadsGive reads count before first next)
    × (bytes ≡ before ++ piece) × (reads next (Some piece) last)

-- the source was read to its end, where a read returns nothing, and these bytes are what it
-- returned
pub record IsReadWhole {S : Type 0} (reads : S → Option (List ℕ) → S → Type 0) (bytes : List ℕ) (first last : S) : Type 0 where
  pub count : ℕ
  pub at : S
  pub turns : ReadsGive reads count bytes first at
  pub ended : reads at (Some []) last
  pub short : length bytes ≤ most_bytes

-- the most bytes that one read asks for
abbrev pub most_piece : ℕ
most_piece = 65536

-- the source was read until it had returned more bytes than a file may have, and no further: what
-- came before the last piece was not too long
pub record IsReadPast {S : Type 0} (reads : S → Option (List ℕ) → S → Type 0) (first last : S) : Type 0 where
  pub held : List ℕ
  pub count : ℕ
  pub at : S
  pub turns : ReadsGive reads count held first at
  pub short : length held ≤ most_bytes
  pub piece : List ℕ
  pub small : length piece ≤ most_piece
  pub reading : reads at (Some piece) last
  pub longer : most_bytes < length (held ++ piece)

-- the source was read until a read failed: that read is the last
pub record IsReadTorn {S : Type 0} (reads : S → Option (List ℕ) → S → Type 0) (first last : S) : Type 0 where
  pub bytes : List ℕ
  pub count : ℕ
  pub at : S
  pub turns : ReadsGive reads count bytes first at
  pub short : length bytes ≤ most_bytes
  pub failed : reads at None last

-- some of the source was read, at most a piece more than a file may have, and no read failed
pub record IsReadSome {S : Type 0} (reads : S → Option (List ℕ) → S → Type 0) (first last : S) : Type 0 where
  pub bytes : List ℕ
  pub count : ℕ
  pub turns : ReadsGive reads count bytes first last
  pub few : length bytes ≤ most_bytes + most_piece

-- if a source makes known what is left, it is more than a file may have
abbrev pub LeavesMore : Option (List ℕ) → Type 0
LeavesMore None = Unit {0}
LeavesMore (Some left) = most_bytes < length left

-- the graph6 text of a file was written completely, and nothing else
pub record WroteEncoded {K : Type 0} (written : K → Option (List ℕ)) (writes : K → List ℕ → ℕ → K → Type 0) (file : List ℕ) (first last : K) : Type 0 where
  pub output : List ℕ
  pub encoded : IsEncoded file output
  pub now : written last ≡ appended (written first) output
  pub whole : IsWritten writes output first last

-- a prefix of the graph6 text of a file was written, and then a write of the rest failed
pub record WroteCutOff {K : Type 0} (written : K → Option (List ℕ)) (writes : K → List ℕ → ℕ → K → Type 0) (file : List ℕ) (first last : K) : Type 0 where
  pub output : List ℕ
  pub encoded : IsEncoded file output
  pub count : ℕ
  pub now : written last ≡ appended (written first) (take count output)
  pub cut : IsCutOff writes output count first last

-- what was written of a file with these bytes up to an ending
abbrev pub WritesUpTo :
    {K : Type 0} → (K → Option (List ℕ)) → (K → List ℕ → ℕ → K → Type 0) → (file : List ℕ) → InputEnding → (first last : K) → Type 0
WritesUpTo written writes file Done first last = WroteEncoded written writes file first last
WritesUpTo written writes file (Bad found) first last = IsOutside file found × (last ≡ first)
WritesUpTo written writes file ReadFault first last = ⊥
WritesUpTo written writes file WriteFault first last = WroteCutOff written writes file first last
WritesUpTo written writes file Memory first last = last ≡ first

-- the file was read completely, and then this was written for it
pub record WritesAfter {S K : Type 0} (reads : S → Option (List ℕ) → S → Type 0) (written : K → Option (List ℕ)) (writes : K → List ℕ → ℕ → K → Type 0) (ending : InputEnding) (source : S) (sink : K) (last_source : S) (last_sink : K) : Type 0 where
  pub file : List ℕ
  pub read : IsReadWhole reads file source last_source
  pub wrote : WritesUpTo written writes file ending sink last_sink

-- the file was too long: nothing was written
pub record StopsPast {S K : Type 0} (reads : S → Option (List ℕ) → S → Type 0) (found : BadLine) (source : S) (sink : K) (last_source : S) (last_sink : K) : Type 0 where
  pub read : IsReadPast reads source last_source
  pub named : NamesTooLong found
  pub nothing : last_sink ≡ sink

-- how the file of a source is encoded to a sink: it is read first, to its end, and the first write
-- comes after the last read; nothing is written for a file that is bad or could not be read, and if
-- memory ran out, no read has failed
abbrev pub ReadsThenWrites :
    {S K : Type 0} → (S → Option (List ℕ) → S → Type 0) → (K → Option (List ℕ)) → (K → List ℕ → ℕ → K → Type 0) → InputEnding → S → K → S → K →
    Type 0
ReadsThenWrites reads written writes Done source sink last_source last_sink = WritesAfter reads written writes Done source sink last_source last_sink
ReadsThenWrites reads written writes (Bad found) source sink last_source last_sink =
    StopsPast reads found source sink last_source last_sink ⊎ WritesAfter reads written writes (Bad found) source sink last_source last_sink
ReadsThenWrites reads written writes ReadFault source sink last_source last_sink = IsReadTorn reads source last_source × (last_sink ≡ sink)
ReadsThenWrites reads written writes WriteFault source sink last_source last_sink =
    WritesAfter reads written writes WriteFault source sink last_source last_sink
ReadsThenWrites reads written writes Memory source sink last_source last_sink = IsReadSome reads source last_source × (last_sink ≡ sink)

-- what was written up to the ending is the output of some file: the bytes that were left in the
-- source, if it makes them known
pub record EncodesFile (ending : InputEnding) (left before now : Option (List ℕ)) : Type 0 where
  pub file : List ℕ
  pub is_left : IsKnownLeft left file
  pub encodes : Appended (Encodes file ending) before now
