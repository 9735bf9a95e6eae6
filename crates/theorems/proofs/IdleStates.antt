-- What a state notes grows by what was read or written: so it is not what it was, unless this is
-- empty. Idea: a list that equals itself with another behind it has an empty one behind it.
use Rattle.std.proofs.Common.{◌≡◌, ◌∙◌, ◌<◌, ◌+◌, ℕ, zero, suc, List, [], ◌∷◌, ◌++◌, length, take, drop, ap, sym, arith, append_assoc, append-nil, length-append, take-add, take_all, Ok, Some}
use Rattle.bench_top.specs.from_outside.Common.{HasPrinted, HasTaken, IsOpened, IsWritten, OpenState, PrintState, ReadState, WritesTake}

nothing-behind : {X : Type 0} (front back : List X) → front ≡ front ++ back → 0 < length back → ⊥
nothing-behind front back same some =
    let long : length front ≡ length front + length back = ap length same ∙ length-append front back in
    absurd (omega (arith, long, some))

pub shelf-moves : (state : OpenState) (name bytes : List ℕ) → IsOpened state name (Ok bytes) state → ⊥
shelf-moves state name bytes opened = nothing-behind state.given ((name, bytes) ∷ []) opened.given (omega arith)

pub source-moves : (state : ReadState) (piece : List ℕ) → 0 < length piece → HasTaken state (Some piece) state → ⊥
source-moves state piece some taken = nothing-behind state.read piece taken.read some

-- the bytes that were taken were printed
take-printed : (calls : ℕ) (bytes : List ℕ) (done : ℕ) (first last : PrintState) → WritesTake HasPrinted bytes calls done first last → last.printed ≡ first.printed ++ take done bytes
take-printed zero bytes done first last turns =
    ap (λ (k : PrintState). k.printed) turns.1 ∙ sym (append-nil first.printed) ∙ ap (λ (n : ℕ). first.printed ++ take n bytes) (sym turns.0)
take-printed (suc calls) bytes done first last turns =
    let before = turns.0 in
    let count = turns.1 in
    let next = turns.2 in
    let more = take-printed calls bytes before first next turns.3 in
    turns.6.printed
    ∙ ap (λ (p : List ℕ). p ++ take count (drop before bytes)) more
    ∙ append_assoc first.printed (take before bytes) (take count (drop before bytes))
    ∙ ap (λ (t : List ℕ). first.printed ++ t) (sym (take-add before count bytes))
    ∙ ap (λ (n : ℕ). first.printed ++ take n bytes) (sym turns.5)

pub sink-moves : (state : PrintState) (output : List ℕ) → 0 < length output → IsWritten HasPrinted output state state → ⊥
sink-moves state output some written =
    nothing-behind state.printed output
    (take-printed written.calls output (length output) state state written.turns ∙ ap (λ (t : List ℕ). state.printed ++ t) (take_all (length output) output (omega arith))) some
