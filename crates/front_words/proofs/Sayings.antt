-- Texts that are said one after another are said as one. Each lemma joins the text that was said
-- to the text that is said next; a beginning of a part is a beginning of the whole.
use Rattle.std.proofs.Common.{◌≡◌, ◌≤◌, ℕ, ◌<◌, List, [], ◌++◌, length, take, drop, Ok, Err, OnOk, OnErr, IsErrAnd, Result, refl, ap, subst, sym, ◌∙◌, arith, append_assoc, append-nil, take-append-drop, Option}
use Rattle.outside.specs.Common.{Rose, appended, IsCutOff, IsWritten}
use Rattle.outside.proofs.Pieces.{appended-nil, appended-appended}
use Rattle.front_words.specs.Saying.{Says, WritesUntilFault, WritesWhole}
use Rattle.front_words.proofs.WritesJoined.{until-more, until-piece, until-then, whole-none, whole-piece, whole-then}

module _ {K F : Type 0} (written : K → Option (List ℕ)) (writes : K → List ℕ → ℕ → K → Type 0) (faults : K → ℕ) where
  -- before anything is said nothing was said
  pub says-none : (before : K) → Says {F = F} written writes faults [] (Ok tt) before before
  says-none before = grind (arith, appended-nil, whole-none)

  -- a text that was said, and then a second one
  pub says-then : (first second : List ℕ) (result : Result (Unit {0}) F) (before mid now : K) → Says {F = F} written writes faults first (Ok tt) before mid →
      Says written writes faults second result mid now → Says written writes faults (first ++ second) result before now
  says-then first second result before mid now said next = record {
    whole = whole result next.whole;
    begun = record {
      done = first ++ next.begun.done;
      rest = next.begun.rest;
      is_text = ap (λ (l : List ℕ). first ++ l) next.begun.is_text ∙ sym (append_assoc first next.begun.done next.begun.rest);
      written = next.begun.written ∙ (ap (λ (o : Option (List ℕ)). appended o next.begun.done) said.whole ∙ appended-appended (written before) first next.begun.done);
    };
    writes_whole = joined result next.writes_whole;
    writes_until = cut result next.writes_until;
    later = omega (arith, said.later, next.later);
    failed = failed result next.failed;
  }
    where
      joined : (r : Result (Unit {0}) F) → OnOk r (WritesWhole writes second mid now) → OnOk r (WritesWhole writes (first ++ second) before now)
      joined (Ok u) is = whole-then writes first second before mid now said.writes_whole is
      joined (Err e) is = tt

      cut : (r : Result (Unit {0}) F) → OnErr r (WritesUntilFault writes second mid now) → OnErr r (WritesUntilFault writes (first ++ second) before now)
      cut (Ok u) is = tt
      cut (Err e) is = until-then writes first second before mid now said.writes_whole is

      whole : (r : Result (Unit {0}) F) → OnOk r (written now ≡ appended (written mid) second) → OnOk r (written now ≡ appended (written before) (first ++ second))
      whole (Ok u) is = is ∙ (ap (λ (o : Option (List ℕ)). appended o second) said.whole ∙ appended-appended (written before) first second)
      whole (Err e) is = tt

      failed : (r : Result (Unit {0}) F) → OnErr r (Rose (faults mid) (faults now)) → OnErr r (Rose (faults before) (faults now))
      failed (Ok u) is = tt
      failed (Err e) is = omega (arith, said.later, is)

  -- a text that was not said whole, and then a second one
  pub says-stopped : (first second : List ℕ) (e : F) (before now : K) → Says written writes faults first (Err e) before now →
      Says written writes faults (first ++ second) (Err e) before now
  says-stopped first second e before now said = grind (arith, append_assoc, until-more)

  -- a text of two parts, of which the first was said
  pub says_step : (text first second : List ℕ) (result : Result (Unit {0}) F) (before mid now : K) → text ≡ first ++ second →
      Says {F = F} written writes faults first (Ok tt) before mid → Says written writes faults second result mid now → Says written writes faults text result before now
  says_step text first second result before mid now parts said next =
      subst (λ (l : List ℕ). Says written writes faults l result before now) (sym parts) (says-then first second result before mid now said next)

  -- the same, and the first was not said whole
  pub says_break : (text first second : List ℕ) (e : F) (before now : K) → text ≡ first ++ second →
      Says written writes faults first (Err e) before now → Says written writes faults text (Err e) before now
  says_break text first second e before now parts said =
      subst (λ (l : List ℕ). Says written writes faults l (Err e) before now) (sym parts) (says-stopped first second e before now said)

  -- the same, and a `?` hands the error on
  pub says_passed : (text first second : List ℕ) (result : Result (Unit {0}) F) (e : F) (before now : K) → text ≡ first ++ second → IsErrAnd result (λ f. f ≡ e) →
      Says written writes faults first (Err e) before now → Says written writes faults text result before now
  says_passed text first second (Ok u) e before now parts handed said = absurd handed
  says_passed text first second (Err f) e before now parts handed said =
      says_break text first second f before now parts (subst (λ (x : F). Says written writes faults first (Err x) before now) (sym handed) said)

  -- a text of three parts, of which the first was said and the second was not said whole; a `?`
  -- hands the error on
  pub says_passed_second : (text first second third : List ℕ) (result : Result (Unit {0}) F) (e : F) (before mid now : K) → text ≡ first ++ (second ++ third) →
      IsErrAnd result (λ f. f ≡ e) → Says {F = F} written writes faults first (Ok tt) before mid → Says written writes faults second (Err e) mid now →
      Says written writes faults text result before now
  says_passed_second text first second third (Ok u) e before mid now parts handed said stopped = absurd handed
  says_passed_second text first second third (Err f) e before mid now parts handed said stopped =
      says_step text first (second ++ third) (Err f) before mid now parts said
      (says-stopped second third f mid now (subst (λ (x : F). Says written writes faults second (Err x) mid now) (sym handed) stopped))

  -- what a call that writes a piece or a beginning of it answers
  pub says_piece : (bytes : List ℕ) (result : Result (Unit {0}) F) (before now : K)
      → OnOk result (written now ≡ appended (written before) bytes)
      → OnErr result ((count : ℕ) × (count < length bytes) × (written now ≡ appended (written before) (take count bytes))
      × IsCutOff writes bytes count before now)
      → OnOk result (IsWritten writes bytes before now)
      → faults before ≤ faults now → OnErr result (Rose (faults before) (faults now))
      → Says written writes faults bytes result before now
  says_piece bytes (Ok u) before now ok err written_whole later failed = grind (arith, append-nil, whole-piece)
  says_piece bytes (Err e) before now ok err written_whole later failed = record {
    whole = tt;
    begun = record { done = take err.0 bytes; rest = drop err.0 bytes; is_text = sym (take-append-drop err.0 bytes); written = err.2 };
    writes_whole = tt;
    writes_until = until-piece writes bytes err.0 before now err.3;
    later = later;
    failed = failed;
  }

-- a text of which a beginning was said, and the rest is left
pub record IsSaying {K : Type 0} (written : K → Option (List ℕ)) (writes : K → List ℕ → ℕ → K → Type 0) (faults : K → ℕ) (F : Type 0) (text left : List ℕ) (before now : K) : Type 0 where
  pub done : List ℕ
  pub is_text : text ≡ done ++ left
  pub said : Says {F = F} written writes faults done (Ok tt) before now

module _ {K F : Type 0} (written : K → Option (List ℕ)) (writes : K → List ℕ → ℕ → K → Type 0) (faults : K → ℕ) where
  pub saying-first : (text : List ℕ) (before : K) → IsSaying written writes faults F text text before before
  saying-first text before = record { done = []; is_text = refl; said = says-none written writes faults before }

  -- a piece of what is left is said
  pub saying-next : (text left piece rest : List ℕ) (before mid now : K) → left ≡ piece ++ rest → IsSaying written writes faults F text left before mid →
      Says {F = F} written writes faults piece (Ok tt) mid now → IsSaying written writes faults F text rest before now
  saying-next text left piece rest before mid now parts so_far next = record {
    done = so_far.done ++ piece;
    is_text = so_far.is_text ∙ (ap (λ (l : List ℕ). so_far.done ++ l) parts ∙ sym (append_assoc so_far.done piece rest));
    said = says-then written writes faults so_far.done piece (Ok tt) before mid now so_far.said next;
  }

  -- all that is left is said, or not whole
  pub saying-last : (text left : List ℕ) (result : Result (Unit {0}) F) (before mid now : K) → IsSaying written writes faults F text left before mid →
      Says written writes faults left result mid now → Says written writes faults text result before now
  saying-last text left result before mid now so_far next =
      subst (λ (l : List ℕ). Says written writes faults l result before now) (sym so_far.is_text) (says-then written writes faults so_far.done left result before mid now so_far.said next)

  -- a piece of what is left is not said whole
  pub saying-broken : (text left piece rest : List ℕ) (e : F) (before mid now : K) → left ≡ piece ++ rest → IsSaying written writes faults F text left before mid →
      Says written writes faults piece (Err e) mid now → Says written writes faults text (Err e) before now
  saying-broken text left piece rest e before mid now parts so_far next =
      saying-last text left (Err e) before mid now so_far
      (subst (λ (l : List ℕ). Says written writes faults l (Err e) mid now) (sym parts) (says-stopped written writes faults piece rest e mid now next))

  -- the same, and a `?` hands the error on
  pub saying-passed : (text left piece rest : List ℕ) (result : Result (Unit {0}) F) (e : F) (before mid now : K) → left ≡ piece ++ rest → IsErrAnd result (λ f. f ≡ e) →
      IsSaying written writes faults F text left before mid → Says written writes faults piece (Err e) mid now → Says written writes faults text result before now
  saying-passed text left piece rest (Ok u) e before mid now parts handed so_far next = absurd handed
  saying-passed text left piece rest (Err f) e before mid now parts handed so_far next =
      saying-broken text left piece rest f before mid now parts so_far (subst (λ (x : F). Says written writes faults piece (Err x) mid now) (sym handed) next)

  -- nothing is left
  pub saying-done : (text left : List ℕ) (before now : K) → left ≡ [] → IsSaying written writes faults F text left before now → Says {F = F} written writes faults text (Ok tt) before now
  saying-done text left before now none so_far =
      subst (λ (l : List ℕ). Says {F = F} written writes faults l (Ok tt) before now)
      (sym (so_far.is_text ∙ (ap (λ (l : List ℕ). so_far.done ++ l) none ∙ append-nil so_far.done))) so_far.said
