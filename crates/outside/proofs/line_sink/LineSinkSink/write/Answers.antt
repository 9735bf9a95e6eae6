-- What is printed is what was held, and then what was taken of the piece.
use Rattle.std.proofs.Common.{◌≡◌, ◌∙◌, ◌++◌, ℕ, List, [], take, drop, ap, sym, arith, append_assoc, append-nil}
use Rattle.std.proofs.lemmas.List.{take-append-drop}
use Rattle.std.proofs.lemmas.Slice.{take-put_mid}
use Rattle.outside.specs.Common.{HasBegun}
use Rattle.outside.proofs.line_sink.LineSinkSink.write.Goals as goal

passed : (old now held piece line : List ℕ) → now ≡ old ++ line → line ≡ held ++ piece → now ++ [] ≡ (old ++ held) ++ piece
passed old now held piece line is split = append-nil now ∙ is ∙ ap (λ (l : List ℕ). old ++ l) split ∙ sym (append_assoc old held piece)

begun : (old now held bytes line : List ℕ) (x count : ℕ) → now ≡ old ++ take x line → line ≡ held ++ take count bytes → HasBegun old now (held ++ bytes)
begun old now held bytes line x count is split = record {
  done = take x line;
  rest = drop x line ++ drop count bytes;
  is = ap (λ (l : List ℕ). held ++ l) (sym (take-append-drop count bytes))
      ∙ sym (append_assoc held (take count bytes) (drop count bytes))
      ∙ ap (λ (l : List ℕ). l ++ drop count bytes) (sym split)
      ∙ ap (λ (l : List ℕ). l ++ drop count bytes) (sym (take-append-drop x line))
      ∙ append_assoc (take x line) (drop x line) (drop count bytes);
  printed = is;
}

pub returns-in-Ok-clause-passed : goal.returns-in-Ok-clause-passed
returns-in-Ok-clause-passed g c = grind (arith, passed, take-put_mid)

pub returns-in-Ok-clause-begun : goal.returns-in-Ok-clause-begun
returns-in-Ok-clause-begun g c =
    let b : HasBegun c.self.inside.stream c.write_whole.new.self (take c.self.inside.held c.self.inside.line ++ c.args.bytes.now) =
    begun c.self.inside.stream c.write_whole.new.self (take c.self.inside.held c.self.inside.line) c.args.bytes.now _ c.write_whole.ensures.begun.0 c.min-count.result c.write_whole.ensures.begun.1
    (grind (arith, take-put_mid)) in
    grind (arith, b)

pub returns-in-Err-clause-begun : goal.returns-in-Err-clause-begun
returns-in-Err-clause-begun g c =
    let b : HasBegun c.self.inside.stream c.write_whole.new.self (take c.self.inside.held c.self.inside.line ++ c.args.bytes.now) =
    begun c.self.inside.stream c.write_whole.new.self (take c.self.inside.held c.self.inside.line) c.args.bytes.now _ c.write_whole.ensures.begun.0 c.min-count.result c.write_whole.ensures.begun.1
    (grind (arith, take-put_mid)) in
    grind (arith, b)
