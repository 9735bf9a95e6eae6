-- What was read of a source that notes what its runtime gave: these bytes, one piece after another.
-- So a graph file that was encoded is the file that was read.
use Rattle.std.proofs.Common.{◌≡◌, ◌∙◌, ◌<◌, ℕ, zero, suc, List, [], ◌++◌, length, refl, sym, ap, inl, inr, append_assoc, append-nil, Option, Some, None}
use Rattle.outside.specs.Common.{appended, bytes_given, HasTaken, ReadState, read_after, most_bytes}
use Rattle.outside.proofs.Pieces.{appended-nil}
use Rattle.mcg6_reader.specs.Common.{Appended, ReadsGave}
use Rattle.mcg6_reader.specs.declared.ending.InputEnding.{InputEnding}
use Rattle.mcg6_reader.specs.declared.ending.InputEnding.TheVariants.{Done, Bad, ReadFault, WriteFault, Memory}
use Rattle.mcg6_encoder.specs.Files.{Encodes}
use Rattle.mcg6_encoder.specs.Reads.{IsReadWhole, ReadsGive, ReadsThenWrites, WritesAfter}
use Rattle.mcg6_encoder.proofs.Encodings.{file_encoded, told_file}

-- these bytes were read between two states, under one name
pub record TakesBytes (bytes : List ℕ) (first last : ReadState) : Type 0 where
  pub name : last.name ≡ first.name
  pub read : last.read ≡ first.read ++ bytes

takes-none : (first last : ReadState) → last ≡ first → TakesBytes [] first last
takes-none first last same = record {
  name = ap (λ (s : ReadState). s.name) same;
  read = ap (λ (s : ReadState). s.read) same ∙ sym (append-nil first.read);
}

after-read : (read : List ℕ) (piece : Option (List ℕ)) → read_after read piece ≡ read ++ bytes_given piece
after-read read None = sym (append-nil read)
after-read read (Some piece) = refl

takes-more : (before : List ℕ) (piece : Option (List ℕ)) (bytes : List ℕ) (first next last : ReadState) → TakesBytes before first next → bytes ≡ before ++ bytes_given piece → HasTaken next piece last → TakesBytes bytes first last
takes-more before piece bytes first next last takes is reading = record {
  name = reading.name ∙ takes.name;
  read =
      reading.read
      ∙ after-read next.read piece
      ∙ ap (λ (r : List ℕ). r ++ bytes_given piece) takes.read
      ∙ append_assoc first.read before (bytes_given piece)
      ∙ ap (λ (b : List ℕ). first.read ++ b) (sym is);
}

-- of a list
pub gave-takes : (count : ℕ) (bytes : List ℕ) (first last : ReadState) → ReadsGave HasTaken count bytes first last → TakesBytes bytes first last
gave-takes zero bytes first last gave = rw gave.0 (takes-none first last gave.1)
gave-takes (suc count) bytes first last gave =
    takes-more gave.0 gave.1 bytes first gave.2 last (gave-takes count gave.0 first gave.2 gave.3) gave.4 gave.5

-- of a graph file
give-takes : (count : ℕ) (bytes : List ℕ) (first last : ReadState) → ReadsGive HasTaken count bytes first last → TakesBytes bytes first last
give-takes zero bytes first last gave = rw gave.0 (takes-none first last gave.1)
give-takes (suc count) bytes first last gave =
    takes-more gave.0 (Some gave.1) bytes first gave.2 last (give-takes count gave.0 first gave.2 gave.3) gave.4 gave.5

-- these bytes were read, and what was written up to an ending is what they give as a graph file
pub record EncodesTaken (ending : InputEnding) (first last : ReadState) (before now : Option (List ℕ)) : Type 0 where
  pub file : List ℕ
  pub takes : TakesBytes file first last
  pub encodes : Appended (Encodes file ending) before now

whole-taken : {K : Type 0} (written : K → Option (List ℕ)) (writes : K → List ℕ → ℕ → K → Type 0) (ending : InputEnding) (first last : ReadState) (before now : K) →
    WritesAfter HasTaken written writes ending first before last now → EncodesTaken ending first last (written before) (written now)
whole-taken written writes ending first last before now after =
    let read = after.read in
    record {
      file = after.file;
      takes = takes-more after.file (Some []) after.file first read.at last (give-takes read.count after.file first read.at read.turns) (sym (append-nil after.file)) read.ended;
      encodes =
          told_file ending (Some after.file) (written before) (written now) after.file
          (file_encoded written writes after.file ending (Some after.file) before now refl read.short after.wrote) refl;
    }

same-written : {K : Type 0} (written : K → Option (List ℕ)) (before now : K) → now ≡ before → written now ≡ appended (written before) []
same-written written before now same = ap written same ∙ sym (appended-nil (written before))

pub file-taken : {K : Type 0} (written : K → Option (List ℕ)) (writes : K → List ℕ → ℕ → K → Type 0) (ending : InputEnding) (first last : ReadState) (before now : K) →
    ReadsThenWrites HasTaken written writes ending first before last now → EncodesTaken ending first last (written before) (written now)
file-taken written writes Done first last before now order = whole-taken written writes Done first last before now order
file-taken written writes (Bad found) first last before now (inl past) =
    let read = past.read in
    record {
      file = read.held ++ read.piece;
      takes = takes-more read.held (Some read.piece) (read.held ++ read.piece) first read.at last (give-takes read.count read.held first read.at read.turns) refl read.reading;
      encodes = record { output = []; right = (inl (read.longer, past.named), refl); written = same-written written before now past.nothing };
    }
file-taken written writes (Bad found) first last before now (inr order) = whole-taken written writes (Bad found) first last before now order
file-taken written writes ReadFault first last before now order =
    let read = order.0 in
    record {
      file = read.bytes;
      takes = takes-more read.bytes None read.bytes first read.at last (give-takes read.count read.bytes first read.at read.turns) (sym (append-nil read.bytes)) read.failed;
      encodes = record { output = []; right = refl; written = same-written written before now order.1 };
    }
file-taken written writes WriteFault first last before now order = whole-taken written writes WriteFault first last before now order
file-taken written writes Memory first last before now order =
    let read = order.0 in
    record {
      file = read.bytes;
      takes = give-takes read.count read.bytes first last read.turns;
      encodes = record { output = []; right = refl; written = same-written written before now order.1 };
    }
