-- Writes of one text and then of another are writes of the two joined. The writes of a call that
-- writes a piece, or a beginning of it, are such writes: each took the bytes that follow.
use Rattle.std.proofs.Common.{◌≡◌, ◌≤◌, ◌<◌, ℕ, zero, suc, List, [], ◌++◌, length, take, drop, refl, ap, sym, subst, subst₂, ◌∙◌, arith, append_assoc, append-nil, take-append-drop, length-drop, take_all, take-add}
use Rattle.std.proofs.lemmas.List.{length-take-le}
use Rattle.outside.specs.Common.{IsCutOff, IsWritten, WritesTake}
use Rattle.front_words.specs.Saying.{WritesTaken, WritesUntilFault, WritesWhole}

module _ {K : Type 0} (writes : K → List ℕ → ℕ → K → Type 0) where
  -- before anything is written
  pub whole-none : (sink : K) → WritesWhole writes [] sink sink
  whole-none sink = record { calls = 0; turns = (refl, refl) }

  -- writes of a text after writes of another
  taken-then : (n m : ℕ) (first second : List ℕ) (before mid now : K) → WritesTaken writes n first before mid → WritesTaken writes m second mid now →
      WritesWhole writes (first ++ second) before now
  taken-then n zero first second before mid now one two = grind (arith, append-nil)
  taken-then n (suc m) first second before mid now one two =
      let joined = taken-then n m first two.0 before mid two.3 one two.4 in
      record {
        calls = suc joined.calls;
        turns = (first ++ two.0, two.1, two.2, two.3, joined.turns, two.5, ap (λ (l : List ℕ). first ++ l) two.6 ∙ sym (append_assoc first two.0 two.1), two.7);
      }

  pub whole-then : (first second : List ℕ) (before mid now : K) → WritesWhole writes first before mid → WritesWhole writes second mid now → WritesWhole writes (first ++ second) before now
  whole-then first second before mid now one two = taken-then one.calls two.calls first second before mid now one.turns two.turns

  -- a fault after a text that was written whole
  pub until-then : (first second : List ℕ) (before mid now : K) → WritesWhole writes first before mid → WritesUntilFault writes second mid now → WritesUntilFault writes (first ++ second) before now
  until-then first second before mid now one two =
      let joined = taken-then one.calls two.calls first two.done before mid two.cut_at one.turns two.turns in
      record {
        done = first ++ two.done;
        piece = two.piece;
        rest = two.rest;
        is_text = ap (λ (l : List ℕ). first ++ l) two.is_text ∙ sym (append_assoc first two.done (two.piece ++ two.rest));
        some = two.some;
        calls = joined.calls;
        cut_at = two.cut_at;
        turns = joined.turns;
        failed = two.failed;
      }

  -- a fault before more text
  pub until-more : (first second : List ℕ) (before now : K) → WritesUntilFault writes first before now → WritesUntilFault writes (first ++ second) before now
  until-more first second before now one = grind (arith, append_assoc)

  -- writes of what is left of a piece, in turn
  taken-turns : (bytes : List ℕ) (calls done : ℕ) (first last : K) → done ≤ length bytes → WritesTake writes bytes calls done first last → WritesTaken writes calls (take done bytes) first last
  taken-turns bytes zero done first last within turns = (ap (λ (n : ℕ). take n bytes) turns.0, turns.1)
  taken-turns bytes (suc calls) done first last within turns =
      let is = turns.5 in
      let rest = drop turns.0 bytes in
      let size : length (take turns.1 rest) ≡ turns.1 = length-take-le turns.1 rest (let left = length-drop turns.0 bytes in omega (arith, left, is, within)) in (
        take turns.0 bytes,
        take turns.1 rest,
        drop turns.1 rest,
        turns.2,
        taken-turns bytes calls turns.0 first turns.2 (omega (arith, is, within)) turns.3,
        subst (λ (n : ℕ). 0 < n) (sym size) turns.4,
        ap (λ (n : ℕ). take n bytes) is ∙ take-add turns.0 turns.1 bytes,
        subst₂ (λ (p : List ℕ) (n : ℕ). writes turns.2 p n last) (sym (take-append-drop turns.1 rest)) (sym size) turns.6,
      )

  -- a piece that was written whole
  pub whole-piece : (bytes : List ℕ) (first last : K) → IsWritten writes bytes first last → WritesWhole writes bytes first last
  whole-piece bytes first last made = grind (arith, take_all, taken-turns)

  -- a piece of which a write failed
  pub until-piece : (bytes : List ℕ) (count : ℕ) (first last : K) → IsCutOff writes bytes count first last → WritesUntilFault writes bytes first last
  until-piece bytes count first last cut =
      let less = cut.less in
      record {
        done = take count bytes;
        piece = drop count bytes;
        rest = [];
        is_text = sym (take-append-drop count bytes) ∙ ap (λ (l : List ℕ). take count bytes ++ l) (sym (append-nil (drop count bytes)));
        some = let left = length-drop count bytes in omega (arith, left, less);
        calls = cut.calls;
        cut_at = cut.cut_at;
        turns = taken-turns bytes cut.calls count first cut.cut_at (omega (arith, less)) cut.turns;
        failed = cut.failed;
      }
