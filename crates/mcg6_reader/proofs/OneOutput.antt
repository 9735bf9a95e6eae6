-- If each line has at most one output, so has each list of lines, by induction. A header has an
-- empty one, and no line is both a header and not.
use Rattle.std.proofs.Common.{◌≡◌, inl, inr, ℕ, List, [], ◌∷◌, sym, ◌∙◌}
use Rattle.mcg6_reader.specs.declared.place.LinePlace.{LinePlace}
use Rattle.mcg6_reader.specs.Common.{place_after, LineTold, AllTold, HasOneOutputPerLine}

one_line :
    (tells : LinePlace → List ℕ → List ℕ → Type 0) (place : LinePlace) (line a b : List ℕ) →
    HasOneOutputPerLine tells → LineTold tells place line a → LineTold tells place line b → a ≡ b
one_line tells place line a b one (inl first) (inl second) = first.1 ∙ sym second.1
one_line tells place line a b one (inl first) (inr second) = cc
one_line tells place line a b one (inr first) (inl second) = cc
one_line tells place line a b one (inr first) (inr second) = one place line a b first.2 second.2

pub one_output :
    (tells : LinePlace → List ℕ → List ℕ → Type 0) (place : LinePlace) (lines : List (List ℕ)) (a b : List ℕ) →
    HasOneOutputPerLine tells → AllTold tells place lines a → AllTold tells place lines b → a ≡ b
one_output tells place [] a b one first second = first ∙ sym second
one_output tells place (line ∷ lines) a b one (a1, a2, la, ra, ea) (b1, b2, lb, rb, eb) =
    let front : a1 ≡ b1 = one_line tells place line a1 b1 one la lb in
    let back : a2 ≡ b2 = one_output tells (place_after place line) lines a2 b2 one ra rb in
    cc
