-- What was said whole was printed, or is held.
use Rattle.std.proofs.Common.{◌≡◌, ◌∙◌, ℕ, zero, suc, List, ◌++◌, ap, sym, append_assoc, append-nil}
use Rattle.std.proofs.Math.Seq.{take-append_seam}
use Rattle.bench_top.specs.from_outside.Common.{HasSaid, LineState}
use Rattle.front_words.specs.Saying.{WritesTaken, WritesWhole}

abbrev passed_by : LineState → List ℕ
passed_by k = k.printed ++ k.held

taken-passed : (calls : ℕ) (text : List ℕ) (first last : LineState) → WritesTaken HasSaid calls text first last → passed_by last ≡ passed_by first ++ text
taken-passed zero text first last turns = ap passed_by turns.1 ∙ sym (append-nil (passed_by first)) ∙ ap (λ (t : List ℕ). passed_by first ++ t) (sym turns.0)
taken-passed (suc calls) text first last turns =
    let before = turns.0 in
    let took = turns.1 in
    let left = turns.2 in
    let next = turns.3 in
    let more = taken-passed calls before first next turns.4 in
    turns.7.passed turns.5
    ∙ ap (λ (t : List ℕ). passed_by next ++ t) (take-append_seam took left)
    ∙ ap (λ (p : List ℕ). p ++ took) more
    ∙ append_assoc (passed_by first) before took
    ∙ ap (λ (t : List ℕ). passed_by first ++ t) (sym turns.6)

pub whole-passed : (text : List ℕ) (first last : LineState) → WritesWhole HasSaid text first last → passed_by last ≡ passed_by first ++ text
whole-passed text first last w = taken-passed w.calls text first last w.turns
