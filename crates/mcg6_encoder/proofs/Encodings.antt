-- What was written for a graph file, by its bytes: one case for each ending. Idea: an ending says
-- what was read and whether a write failed, and in each case this determines what was written.
use Rattle.std.proofs.Common.{◌≡◌, ◌∙◌, ◌<◌, ◌≤◌, ℕ, List, [], length, take, refl, sym, subst, ap, inl, inr, Option, Some, None}
use Rattle.outside.specs.Common.{appended, most_bytes}
use Rattle.outside.proofs.Pieces.{appended-nil}
use Rattle.mcg6_reader.specs.declared.ending.BadLine.{BadLine}
use Rattle.mcg6_reader.specs.declared.ending.InputEnding.{InputEnding}
use Rattle.mcg6_reader.specs.declared.ending.InputEnding.TheVariants.{Done, Bad, ReadFault, WriteFault, Memory}
use Rattle.mcg6_reader.specs.Common.{Appended, IsKnownLeft}
use Rattle.mcg6_encoder.specs.Files.{Encodes, NamesTooLong}
use Rattle.mcg6_encoder.proofs.ReadsSoFar.{some_read}
use Rattle.mcg6_encoder.specs.Reads.{EncodesFile, IsReadWhole, LeavesMore, ReadsThenWrites, WritesUpTo}

-- the file was read whole, and then written up to an ending
pub after_read :
    {S K : Type 0} (reads : S → Option (List ℕ) → S → Type 0) (written : K → Option (List ℕ)) (writes : K → List ℕ → ℕ → K → Type 0)
    (file : List ℕ) (ending : InputEnding) (source : S) (sink : K) (last_source : S) (last_sink : K) →
    IsReadWhole reads file source last_source → WritesUpTo written writes file ending sink last_sink →
    ReadsThenWrites reads written writes ending source sink last_source last_sink
after_read reads written writes file Done source sink last_source last_sink read wrote = record { file = file; read = read; wrote = wrote }
after_read reads written writes file (Bad found) source sink last_source last_sink read wrote =
    inr (record { file = file; read = read; wrote = wrote })
after_read reads written writes file ReadFault source sink last_source last_sink read wrote = absurd wrote
after_read reads written writes file WriteFault source sink last_source last_sink read wrote =
    record { file = file; read = read; wrote = wrote }
after_read reads written writes file Memory source sink last_source last_sink read wrote = (some_read reads file source last_source read, wrote)

-- nothing was written
same_written : {K : Type 0} (written : K → Option (List ℕ)) (sink last : K) → last ≡ sink → written last ≡ appended (written sink) []
same_written written sink last same = ap written same ∙ sym (appended-nil (written sink))

-- the bytes that were written are those that the file gives
pub file_encoded :
    {K : Type 0} (written : K → Option (List ℕ)) (writes : K → List ℕ → ℕ → K → Type 0) (file : List ℕ) (ending : InputEnding)
    (left : Option (List ℕ)) (sink last : K) → IsKnownLeft left file → length file ≤ most_bytes → WritesUpTo written writes file ending sink last →
    EncodesFile ending left (written sink) (written last)
file_encoded written writes file Done left sink last is short wrote = record {
  file = file;
  is_left = is;
  encodes = record { output = wrote.output; right = (short, wrote.encoded); written = wrote.now };
}
file_encoded written writes file (Bad found) left sink last is short wrote = record {
  file = file;
  is_left = is;
  encodes = record { output = []; right = (inr (short, wrote.0), refl); written = same_written written sink last wrote.1 };
}
file_encoded written writes file ReadFault left sink last is short wrote = absurd wrote
file_encoded written writes file WriteFault left sink last is short wrote = record {
  file = file;
  is_left = is;
  encodes = record {
    output = take wrote.count wrote.output;
    right = (short, record { whole = wrote.output; encoded = wrote.encoded; count = wrote.count; less = wrote.cut.less; part = refl });
    written = wrote.now;
  };
}
file_encoded written writes file Memory left sink last is short wrote = record {
  file = file;
  is_left = is;
  encodes = record { output = []; right = refl; written = same_written written sink last wrote };
}

-- the file was too long
pub long_file :
    (found : BadLine) (left told : Option (List ℕ)) (bytes : List ℕ) → LeavesMore left → most_bytes < length bytes → NamesTooLong found →
    EncodesFile (Bad found) left told told
long_file found None told bytes more longer named = record {
  file = bytes;
  is_left = tt;
  encodes = record { output = []; right = (inl (longer, named), refl); written = sym (appended-nil told) };
}
long_file found (Some all) told bytes more longer named = record {
  file = all;
  is_left = refl;
  encodes = record { output = []; right = (inl (more, named), refl); written = sym (appended-nil told) };
}

-- nothing was written of any file
pub no_file :
    (ending : InputEnding) (left told : Option (List ℕ)) → ((file : List ℕ) → Encodes file ending []) → EncodesFile ending left told told
no_file ending None told nothing = record {
  file = [];
  is_left = tt;
  encodes = record { output = []; right = nothing []; written = sym (appended-nil told) };
}
no_file ending (Some all) told nothing = record {
  file = all;
  is_left = refl;
  encodes = record { output = []; right = nothing all; written = sym (appended-nil told) };
}

-- if the source makes known what is left, the file is that
pub told_file :
    (ending : InputEnding) (left before now : Option (List ℕ)) (file : List ℕ) → EncodesFile ending left before now → left ≡ Some file →
    Appended (Encodes file ending) before now
told_file ending left before now file encodes is =
    let same : file ≡ encodes.file = subst (λ (o : Option (List ℕ)). IsKnownLeft o encodes.file) is encodes.is_left in
    subst (λ (t : List ℕ). Appended (Encodes t ending) before now) (sym same) encodes.encodes
