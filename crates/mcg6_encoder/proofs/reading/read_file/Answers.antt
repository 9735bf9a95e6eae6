use Rattle.std.proofs.Common.{◌≡◌, ◌≤◌, ℕ, List, [], length, take, rules, arith}
use Rattle.std.proofs.lemmas.List.{length-take-le}
use Rattle.outside.specs.Common.{prepended, IsAtEnd, most_bytes}
use Rattle.mcg6_encoder.specs.Reads.{most_piece}
use Rattle.mcg6_encoder.proofs.ReadsSoFar.{left_past, left_whole, read_none, read_past, read_some, so_far_none, so_far_piece}
use Rattle.mcg6_encoder.proofs.reading.read_file.Goals as goal

-- what is taken of a piece is not longer than that
few-taken : (count : ℕ) (piece : List ℕ) → count ≤ length piece → length piece ≤ most_piece → length (take count piece) ≤ most_piece
few-taken count piece within few = let size = length-take-le count piece within in omega (arith, size, few, within)

pub reading-init : goal.reading-init
reading-init g c = grind (arith, so_far_none)

pub reading-preserved : goal.reading-preserved
reading-preserved g c = record {
  so_far =
      so_far_piece g.S.Source.left g.S.Source.reads c.reading.held.items (take c.in-Ok-read.count c.read.new.piece)
      c.extend_from_slice.new.self.items c.args.source.now c.reading.source c.read.new.self c.reading.invariant.so_far
      c.in-Ok-read.ensures.reads c.in-Ok-read.ensures.taken c.in-Ok-extend_from_slice.ensures.items;
  past =
      let short : length c.reading.held.items ≤ most_bytes = omega arith in
      let small : length (take c.in-Ok-read.count c.read.new.piece) ≤ most_piece = few-taken c.in-Ok-read.count c.read.new.piece (let within = c.in-Ok-read.ensures.within in omega arith) (let small = c.reading.invariant.small in omega arith) in
      read_past g.S.Source.left g.S.Source.reads c.reading.held.items (take c.in-Ok-read.count c.read.new.piece)
      c.extend_from_slice.new.self.items c.args.source.now c.reading.source c.read.new.self c.reading.invariant.so_far
      short small c.in-Ok-read.ensures.reads c.in-Ok-extend_from_slice.ensures.items;
  faults = let h1 = c.reading.invariant.faults in let h2 = c.in-Ok-read.ensures in omega arith;
  some = let some = c.reading.invariant.some in omega arith;
  small = let small = c.reading.invariant.small in omega arith;
}

pub returns-in-Ok-eq0-clause-left : goal.returns-in-Ok-eq0-clause-left
returns-in-Ok-eq0-clause-left g c =
    let taken : g.S.Source.left c.reading.source ≡ prepended [] (g.S.Source.left c.read.new.self) = search rules in
    let end : IsAtEnd (g.S.Source.left c.read.new.self) = let some = c.reading.invariant.some in c.in-Ok-eq0.ensures.end (search rules) (omega arith) in
    left_whole g.S.Source.left g.S.Source.reads c.reading.held.items c.args.source.now c.reading.source c.read.new.self
    c.reading.invariant.so_far taken end

pub returns-clause-more : goal.returns-clause-more
returns-clause-more g c is =
    left_past g.S.Source.left g.S.Source.reads c.reading.held.items c.args.source.now c.reading.source c.reading.invariant.so_far (omega arith)

pub returns-in-Err-extend_from_slice-clause-unread : goal.returns-in-Err-extend_from_slice-clause-unread
returns-in-Err-extend_from_slice-clause-unread g c is =
    let short : length c.reading.held.items ≤ most_bytes = omega arith in
    let small : length (take c.in-Ok-read.count c.read.new.piece) ≤ most_piece =
    few-taken c.in-Ok-read.count c.read.new.piece (let within = c.in-Ok-read.ensures.within in omega arith) (let small = c.reading.invariant.small in omega arith) in
    read_some g.S.Source.left g.S.Source.reads c.reading.held.items (take c.in-Ok-read.count c.read.new.piece) c.args.source.now c.reading.source c.read.new.self
    c.reading.invariant.so_far short small c.in-Ok-read.ensures.reads

pub returns-in-Err-clause-unread : goal.returns-in-Err-clause-unread
returns-in-Err-clause-unread g c is = read_none g.S.Source.reads c.args.source.now
