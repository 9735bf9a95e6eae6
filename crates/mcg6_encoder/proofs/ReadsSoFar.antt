-- A file is read piece by piece. What was read so far is held, and what was left of the source
-- before is these bytes and what is left now; so at the end of the source they are all of it, and
-- where they are too many the file is too long.
use Rattle.std.proofs.Common.{◌≡◌, ◌∙◌, ◌≤◌, ◌<◌, append-nil, ℕ, suc, List, [], ◌++◌, length, refl, sym, subst, ap, arith, Option, Some, None}
use Rattle.counting.proofs.Common.{length-append}
use Rattle.outside.specs.Common.{prepended, IsAtEnd, most_bytes}
use Rattle.mcg6_reader.specs.Common.{IsKnownLeft}
use Rattle.mcg6_reader.proofs.LeftBytes.{prepended-nil, prepended-prepended, list_ends}
use Rattle.mcg6_encoder.specs.Reads.{IsReadPast, IsReadSome, IsReadWhole, LeavesMore, ReadsGive, most_piece}

-- these bytes were read
pub record ReadSoFar {S : Type 0} (left : S → Option (List ℕ)) (reads : S → Option (List ℕ) → S → Type 0) (held : List ℕ) (first now : S) : Type 0 where
  pub count : ℕ
  pub turns : ReadsGive reads count held first now
  pub leaves : left first ≡ prepended held (left now)

-- nothing was read
pub so_far_none :
    {S : Type 0} (left : S → Option (List ℕ)) (reads : S → Option (List ℕ) → S → Type 0) (held : List ℕ) (source : S) → held ≡ [] →
    ReadSoFar left reads held source source
so_far_none left reads held source empty =
    subst (λ (t : List ℕ). ReadSoFar left reads t source source) (sym empty)
    (record { count = 0; turns = (refl, refl); leaves = sym (prepended-nil (left source)) })

-- one more piece was
pub so_far_piece :
    {S : Type 0} (left : S → Option (List ℕ)) (reads : S → Option (List ℕ) → S → Type 0) (held piece more : List ℕ) (first now next : S) →
    ReadSoFar left reads held first now → reads now (Some piece) next → left now ≡ prepended piece (left next) → more ≡ held ++ piece →
    ReadSoFar left reads more first next
so_far_piece left reads held piece more first now next so_far reading taken is = record {
  count = suc so_far.count;
  turns = (held, piece, now, so_far.turns, is, reading);
  leaves =
      so_far.leaves ∙ ap (prepended held) taken ∙ prepended-prepended held piece (left next)
      ∙ ap (λ (t : List ℕ). prepended t (left next)) (sym is);
}

pub left_whole :
    {S : Type 0} (left : S → Option (List ℕ)) (reads : S → Option (List ℕ) → S → Type 0) (held : List ℕ) (first now last : S) →
    ReadSoFar left reads held first now → left now ≡ prepended [] (left last) → IsAtEnd (left last) → IsKnownLeft (left first) held
left_whole left reads held first now last so_far taken end =
    list_ends (left first) (left last) held (so_far.leaves ∙ ap (prepended held) (taken ∙ prepended-nil (left last))) end

-- a piece was read after which there are too many bytes
pub read_past :
    {S : Type 0} (left : S → Option (List ℕ)) (reads : S → Option (List ℕ) → S → Type 0) (held piece more : List ℕ) (first now last : S) →
    ReadSoFar left reads held first now → length held ≤ most_bytes → length piece ≤ most_piece → reads now (Some piece) last → more ≡ held ++ piece →
    most_bytes < length more → IsReadPast reads first last
read_past left reads held piece more first now last so_far short small reading is longer = record {
  held = held;
  count = so_far.count;
  at = now;
  turns = so_far.turns;
  short = short;
  piece = piece;
  small = small;
  reading = reading;
  longer = subst (λ (t : List ℕ). most_bytes < length t) is longer;
}

-- a piece was read, and then memory ran out
pub read_some :
    {S : Type 0} (left : S → Option (List ℕ)) (reads : S → Option (List ℕ) → S → Type 0) (held piece : List ℕ) (first now last : S) →
    ReadSoFar left reads held first now → length held ≤ most_bytes → length piece ≤ most_piece → reads now (Some piece) last → IsReadSome reads first last
read_some left reads held piece first now last so_far short small reading = record {
  bytes = held ++ piece;
  count = suc so_far.count;
  turns = (held, piece, now, so_far.turns, refl, reading);
  few = let whole = length-append held piece in omega arith;
}

-- nothing was read
pub read_none : {S : Type 0} (reads : S → Option (List ℕ) → S → Type 0) (source : S) → IsReadSome reads source source
read_none reads source = record { bytes = []; count = 0; turns = (refl, refl); few = omega arith }

-- the source was read to its end, and then memory ran out
pub some_read : {S : Type 0} (reads : S → Option (List ℕ) → S → Type 0) (bytes : List ℕ) (first last : S) → IsReadWhole reads bytes first last → IsReadSome reads first last
some_read reads bytes first last whole = record {
  bytes = bytes;
  count = suc whole.count;
  turns = (bytes, [], whole.at, whole.turns, sym (append-nil bytes), whole.ended);
  few = let short = whole.short in omega arith;
}

leaves_more : (before now : Option (List ℕ)) (held : List ℕ) → before ≡ prepended held now → most_bytes < length held → LeavesMore before
leaves_more before None held leaves longer = subst LeavesMore (sym leaves) tt
leaves_more before (Some rest) held leaves longer = grind (arith, length-append)

pub left_past :
    {S : Type 0} (left : S → Option (List ℕ)) (reads : S → Option (List ℕ) → S → Type 0) (held : List ℕ) (first now : S) →
    ReadSoFar left reads held first now → most_bytes < length held → LeavesMore (left first)
left_past left reads held first now so_far longer = leaves_more (left first) (left now) held so_far.leaves longer
