-- What was said whole was printed, or is held; and nothing is held of a text that is whole lines.
-- Idea: the last write takes the line feed at the end, and a stream holds nothing of a line that
-- ends.
use Rattle.std.proofs.Common.{◌≡◌, ◌∙◌, ◌<◌, ◌+◌, ℕ, zero, suc, List, [], ◌∷◌, ◌++◌, length, take, Contains, ap, sym, subst, inl, inr, arith, append_assoc, append-nil, length-append, refl}
use Rattle.std.proofs.Math.Seq.{take-append_seam}
use Rattle.std.proofs.lemmas.List.Elements.{Contains-append_right}
use Rattle.mcg6_encoder.specs.from_outside.Common.{HasSaid, LineState}
use Rattle.mcg6_top.specs.from_mcg6_reader.Lines.{IsClosedText}
use Rattle.front_words.specs.Saying.{WritesTaken, WritesWhole}

abbrev passed_by : LineState → List ℕ
passed_by k = k.printed ++ k.held

taken-passed : (calls : ℕ) (text : List ℕ) (first last : LineState) → WritesTaken HasSaid calls text first last → passed_by last ≡ passed_by first ++ text
taken-passed zero text first last turns = ap passed_by turns.1 ∙ sym (append-nil (passed_by first)) ∙ ap (λ (t : List ℕ). passed_by first ++ t) (sym turns.0)
taken-passed (suc calls) text first last turns =
    let before = turns.0 in
    let took = turns.1 in
    let left = turns.2 in
    let next = turns.3 in
    let more = taken-passed calls before first next turns.4 in
    turns.7.passed turns.5
    ∙ ap (λ (t : List ℕ). passed_by next ++ t) (take-append_seam took left)
    ∙ ap (λ (p : List ℕ). p ++ took) more
    ∙ append_assoc (passed_by first) before took
    ∙ ap (λ (t : List ℕ). passed_by first ++ t) (sym turns.6)

-- the end of a text with a line feed at its end has that line feed
last-feed : (before took front : List ℕ) → before ++ took ≡ front ++ 10 ∷ [] → 0 < length took → Contains took 10
last-feed [] took front is some = subst (λ (t : List ℕ). Contains t 10) (sym is) (Contains-append_right front (10 ∷ []) 10 (0, omega arith, refl))
last-feed (byte ∷ before) [] [] is some = absurd (omega (arith, some))
last-feed (byte ∷ before) (first ∷ took) [] is some =
    let none : before ++ first ∷ took ≡ [] = cc is in
    let long : length before + suc (length took) ≡ 0 = sym (length-append before (first ∷ took)) ∙ ap length none in
    absurd (omega (arith, long))
last-feed (byte ∷ before) took (first ∷ front) is some = let rest : before ++ took ≡ front ++ 10 ∷ [] = cc is in last-feed before took front rest some

taken-held : (calls : ℕ) (text : List ℕ) (first last : LineState) → WritesTaken HasSaid calls text first last → IsClosedText text → first.held ≡ [] → last.held ≡ []
taken-held zero text first last turns closed none = ap (λ (k : LineState). k.held) turns.1 ∙ none
taken-held (suc calls) text first last turns (inl empty) none =
    let long : length turns.0 + length turns.1 ≡ 0 = sym (length-append turns.0 turns.1) ∙ ap length (sym turns.6 ∙ empty) in
    let some : 0 < length turns.1 = turns.5 in
    absurd (omega (arith, long, some))
taken-held (suc calls) text first last turns (inr ends) none =
    turns.7.line turns.5 (subst (λ (t : List ℕ). Contains t 10) (sym (take-append_seam turns.1 turns.2)) (last-feed turns.0 turns.1 ends.0 (sym turns.6 ∙ ends.1) turns.5))

-- so what the stream took is the text
pub whole-printed : (text : List ℕ) (first last : LineState) → WritesWhole HasSaid text first last → IsClosedText text → first.held ≡ [] → (last.held ≡ []) × (last.printed ≡ first.printed ++ text)
whole-printed text first last w closed none =
    let nothing = taken-held w.calls text first last w.turns closed none in
    let passed = taken-passed w.calls text first last w.turns in (
      nothing,
      sym (append-nil last.printed)
          ∙ ap (λ (h : List ℕ). last.printed ++ h) (sym nothing)
          ∙ passed
          ∙ ap (λ (h : List ℕ). (first.printed ++ h) ++ text) none
          ∙ ap (λ (p : List ℕ). p ++ text) (append-nil first.printed),
    )
