-- Answers of reads, put together: one more after those that were given, and a stop at it. What was
-- loaded of the first files is what all files hold that give the first answers, and so on with the
-- next: nothing is known of the files but what the answers say.
use Rattle.std.proofs.Common.{◌≡◌, ◌∙◌, ℕ, ◌+◌, ◌≤◌, ◌<◌, List, [], ◌∷◌, ◌++◌, length, take, refl, ap, sym, subst, arith, length-append, Result, Ok, Err, IfErr, IsOkAnd, MatchResult}
use Rattle.move_text.proofs.from_counting.Common.{take_all}
use Rattle.outside.specs.Common.{Answer, AnswersInTurn, NamedFile, ReadsInTurn, file_named}
use Rattle.bench_tasks.specs.Common.{CarriesBytes, CountsAs, FailedAs, LastFailed, failures_in, failures_of, StopsAs, GathersAnswered, GaveFile, HoldGiven, LoadsAnswered, ReadsOnce, by_place, place_name, Command, file_names, Loaded, and_then, loaded, loaded_as, task_of, ReadsAs, StopsAt, last_bytes}
use Rattle.bench_tasks.specs.declared.stop.LoadStop.{LoadStop}
use Rattle.bench_tasks.specs.declared.stop.LoadStop.TheVariants.{ReadFault, Bad, Memory}
use Rattle.bench_tasks.specs.declared.tasks.Task.TheVariants as code

-- a stop stays where more is made of what is loaded
stops-then : {A B : Type 0} (stopped : LoadStop) (loaded : Loaded A) (next : A → Loaded B) → StopsAs stopped loaded → StopsAs stopped (and_then loaded next)
stops-then (ReadFault file unread) loaded next stops = tt
stops-then (Bad file line kind found) loaded next stops = ap (λ (l : Loaded _). and_then l next) stops
stops-then Memory loaded next stops = tt

stops-made : {A B : Type 0} (stopped : LoadStop) (loaded : Loaded A) (make : A → B) → StopsAs stopped loaded → StopsAs stopped (loaded_as make loaded)
stops-made (ReadFault file unread) loaded make stops = tt
stops-made (Bad file line kind found) loaded make stops = ap (loaded_as make) stops
stops-made Memory loaded make stops = tt

module _ {S : Type 0} (reads : S → List ℕ → Answer → S → Type 0) where
  -- one answer more
  in_turn-after : (names : List (List ℕ)) (name : List ℕ) (answers : List Answer) (answer : Answer) (first mid last : S) → AnswersInTurn reads names answers first mid → length answers ≡ length names → reads mid name answer last →
      AnswersInTurn reads (names ++ name ∷ []) (answers ++ answer ∷ []) first last
  in_turn-after [] name [] answer first mid last in_turn all read = (last, (subst (λ (s : S). reads s name answer last) in_turn read, refl))
  in_turn-after (other ∷ names) name [] answer first mid last in_turn all read = absurd (omega (arith, all))
  in_turn-after [] name (given ∷ answers) answer first mid last in_turn all read = absurd in_turn
  in_turn-after (other ∷ names) name (given ∷ answers) answer first mid last in_turn all read =
      (in_turn.0, (in_turn.1.0, in_turn-after names name answers answer in_turn.0 mid last in_turn.1.1 (omega (arith, all)) read))

  -- the names that were asked for stay the first where further names stand after
  in_turn-more : (names more : List (List ℕ)) (answers : List Answer) (first last : S) → AnswersInTurn reads names answers first last → AnswersInTurn reads (names ++ more) answers first last
  in_turn-more [] [] [] first last in_turn = in_turn
  in_turn-more [] (name ∷ more) [] first last in_turn = in_turn
  in_turn-more (other ∷ names) more [] first last in_turn = in_turn
  in_turn-more [] more (given ∷ answers) first last in_turn = absurd in_turn
  in_turn-more (other ∷ names) more (given ∷ answers) first last in_turn = (in_turn.0, (in_turn.1.0, in_turn-more names more answers in_turn.0 last in_turn.1.1))

  -- the names that were asked for
  in_turn-names : (names : List (List ℕ)) (answers : List Answer) (first last : S) → AnswersInTurn reads names answers first last →
      (length answers ≤ length names) × ReadsInTurn reads (take (length answers) names) first last
  in_turn-names [] [] first last in_turn = (omega arith, in_turn)
  in_turn-names (other ∷ names) [] first last in_turn = (omega arith, in_turn)
  in_turn-names [] (given ∷ answers) first last in_turn = absurd in_turn
  in_turn-names (other ∷ names) (given ∷ answers) first last in_turn = grind (arith, in_turn-names names answers in_turn.0 last in_turn.1.1)

  names-up_to : (names : List (List ℕ)) (answers : List Answer) (file : ℕ) (first last : S) → 0 < file → length answers ≡ file → AnswersInTurn reads names answers first last →
      (0 < file) × (file ≤ length names) × ReadsInTurn reads (take file names) first last
  names-up_to names answers file first last positive counts in_turn = grind (arith, in_turn-names names answers first last in_turn)

  -- the reads of what was answered are those of all names, or of those up to the stop
  reads-answered : {X A : Type 0} (names : List (List ℕ)) (view : X → A) (held : List NamedFile → Loaded A) (result : Result X LoadStop) (first last : S) → LoadsAnswered reads names view held result first last → ReadsAs reads names result first last
  reads-answered names view held result first last made = grind (arith, names-up_to, take_all, in_turn-names)

-- a command's answers are those of each command that is the same, and its files were read
pub gathered-as : {S : Type 0} (reads : S → List ℕ → Answer → S → Type 0) (command other : Command) (result : Result code.the_data LoadStop) (first last : S) → command ≡ other → GathersAnswered reads command result first last →
    GathersAnswered reads other result first last × ReadsAs reads (file_names other) result first last
gathered-as reads command other result first last is made =
    let answered = subst (λ (k : Command). GathersAnswered reads k result first last) is made in
    (answered, reads-answered reads (file_names other) task_of (λ files. loaded files (by_place other)) result first last answered)

-- files that give some answers and one more
hold-split : (files : List NamedFile) (place : ℕ) (answers : List Answer) (answer : Answer) → HoldGiven files place (answers ++ answer ∷ []) →
    HoldGiven files place answers × GaveFile answer (file_named (place_name (place + length answers)) files)
hold-split files place [] answer given = grind arith
hold-split files place (other ∷ answers) answer given = grind (arith, hold-split files (place + 1) answers answer given.1)

-- a stop at the place after so many answers is counted by one answer more
counts-at : (X : Type 0) (n m : ℕ) (stopped : LoadStop) → 0 < m → StopsAt m stopped → CountsAs {X = X} n m (Err stopped)
counts-at X n m (ReadFault file unread) positive at = (subst (λ (k : ℕ). 0 < k) (sym at) positive, sym at)
counts-at X n m (Bad file line kind found) positive at = (subst (λ (k : ℕ). 0 < k) (sym at) positive, sym at)
counts-at X n m Memory positive at = tt

counts-stopped : (X Z : Type 0) (n m k : ℕ) (stopped : LoadStop) → CountsAs {X = X} n k (Err stopped) → CountsAs {X = Z} m k (Err stopped)
counts-stopped X Z n m k (ReadFault file unread) counts = counts
counts-stopped X Z n m k (Bad file line kind found) counts = counts
counts-stopped X Z n m k Memory counts = tt

-- the reads that failed of two lists
failures-append : (first second : List Answer) → failures_of (first ++ second) ≡ failures_of first + failures_of second
failures-append [] second = omega arith
failures-append (answer ∷ first) second = let more = failures-append first second in omega (arith, more)

-- after reads that did not fail, one that did is the last
last-failed : (answers : List Answer) (answer : Answer) → failures_of answers ≡ 0 → failures_in answer ≡ 1 → LastFailed (answers ++ answer ∷ [])
last-failed [] answer none is = is
last-failed (first ∷ []) answer none is = (omega (arith, none), is)
last-failed (first ∷ next ∷ answers) answer none is = (omega (arith, none), last-failed (next ∷ answers) answer (omega (arith, none)) is)

none-failed : (answers : List Answer) (answer : Answer) → failures_of answers ≡ 0 → failures_of (answer ∷ []) ≡ 0 → failures_of (answers ++ answer ∷ []) ≡ 0
none-failed answers answer none last = let both = failures-append answers (answer ∷ []) in omega (arith, both, none, last)

-- a stop after reads that did not fail, and then one more
failed-both : (X Z : Type 0) (answers : List Answer) (answer : Answer) (stopped : LoadStop) → failures_of answers ≡ 0 → FailedAs {X = X} (answer ∷ []) (Err stopped) → FailedAs {X = Z} (answers ++ answer ∷ []) (Err stopped)
failed-both X Z answers answer (ReadFault file unread) none failed = last-failed answers answer none failed
failed-both X Z answers answer (Bad file line kind found) none failed = none-failed answers answer none failed
failed-both X Z answers answer Memory none failed = none-failed answers answer none failed

failed-stopped : (X Z : Type 0) (answers : List Answer) (stopped : LoadStop) → FailedAs {X = X} answers (Err stopped) → FailedAs {X = Z} answers (Err stopped)
failed-stopped X Z answers (ReadFault file unread) failed = failed
failed-stopped X Z answers (Bad file line kind found) failed = failed
failed-stopped X Z answers Memory failed = failed

-- the last read of some and one more is that one
last-bytes : (answers : List Answer) (answer : Answer) → last_bytes (answers ++ answer ∷ []) ≡ last_bytes (answer ∷ [])
last-bytes [] answer = refl
last-bytes (first ∷ []) answer = refl
last-bytes (first ∷ next ∷ answers) answer = last-bytes (next ∷ answers) answer

-- a stop carries the bytes of the last read, also after others
carries-both : (answers : List Answer) (answer : Answer) (stopped : LoadStop) → CarriesBytes (answer ∷ []) stopped → CarriesBytes (answers ++ answer ∷ []) stopped
carries-both answers answer (ReadFault file unread) carries = tt
carries-both answers answer (Bad file line kind found) carries = carries ∙ sym (last-bytes answers answer)
carries-both answers answer Memory carries = tt

-- the first file
pub answered-first :
    {S X A : Type 0} (reads : S → List ℕ → Answer → S → Type 0) (name : List ℕ) (view : X → A) (held : List NamedFile → Loaded A) (result : Result X LoadStop) (first last : S) →
    IfErr result (StopsAt 1) → ReadsOnce reads name 1 view held result first last → LoadsAnswered reads (name ∷ []) view held result first last
answered-first {S} {X} reads name view held result first last stops once = record {
  answers = once.answer ∷ [];
  in_turn = (last, (once.read, refl));
  counts = go result stops;
  failed = once.failed;
  carries = once.carries;
  loads = λ files given. once.loads files given.0;
}
  where
    go : (result : Result X LoadStop) → IfErr result (StopsAt 1) → CountsAs 1 1 result
    go result stops = grind arith

-- what is made of what was loaded: of a value the one that it stands for, and of a stop the same
abbrev pub IsMade : {X Z A C : Type 0} (view : X → A) (out : Z → C) (make : A → C) → Result X LoadStop → Result Z LoadStop → Type 0
IsMade view out make loaded made = MatchResult loaded (λ x. IsOkAnd made (λ z. out z ≡ make (view x))) (λ stopped. made ≡ Err stopped)

module _ {S X Z A C : Type 0} (reads : S → List ℕ → Answer → S → Type 0) (names : List (List ℕ)) (view : X → A) (out : Z → C) (held : List NamedFile → Loaded A) where
  -- the first load stops
  pub answered-stopped : (more : List (List ℕ)) (next : List NamedFile → A → Loaded C) (stopped : LoadStop) (first last : S) → LoadsAnswered reads names view held (Err stopped) first last →
      LoadsAnswered reads (names ++ more) out (λ files. and_then (held files) (next files)) (Err stopped) first last
  answered-stopped more next stopped first last made = grind (arith, in_turn-more, counts-stopped, failed-stopped, stops-then)

  -- something is made of what is loaded, if it is
  pub answered-mapped : (make : A → C) (loaded : Result X LoadStop) (made : Result Z LoadStop) (first last : S) → IsMade view out make loaded made →
      LoadsAnswered reads names view held loaded first last → LoadsAnswered reads names out (λ files. loaded_as make (held files)) made first last
  answered-mapped make loaded made first last is one = grind arith

  module _ {Y B : Type 0} (second_view : Y → B) (further : List NamedFile → A → Loaded B) (make : A → B → C) (x : X) (name : List ℕ) (first mid last : S) (one : LoadsAnswered reads names view held (Ok x) first mid) where
    -- the answers of both
    both-in_turn : (answer : Answer) → reads mid name answer last → AnswersInTurn reads (names ++ name ∷ []) (one.answers ++ answer ∷ []) first last
    both-in_turn answer read = in_turn-after reads names name one.answers answer first mid last one.in_turn one.counts read

    both-count : (answer : Answer) → length (one.answers ++ answer ∷ []) ≡ length names + 1
    both-count answer = let size = length-append one.answers (answer ∷ []) in let all = one.counts in omega (arith, size, all)

    -- files that give them give the first file and the second
    both-given : (files : List NamedFile) (answer : Answer) → HoldGiven files 1 (one.answers ++ answer ∷ []) →
        HoldGiven files 1 one.answers × GaveFile answer (file_named (place_name (length names + 1)) files)
    both-given files answer given = grind (arith, hold-split files 1 one.answers answer given)

    -- what is made where the first is good
    made-then : (files : List NamedFile) → HoldGiven files 1 one.answers →
        and_then (held files) (λ a. loaded_as (make a) (further files a)) ≡ loaded_as (make (view x)) (further files (view x))
    made-then files given = ap (λ (l : Loaded A). and_then l (λ a. loaded_as (make a) (further files a))) (one.loads files given)

    -- the second load stops
    pub answered-stopped-second : (stopped : LoadStop) → StopsAt (length names + 1) stopped → ReadsOnce reads name (length names + 1) second_view (λ files. further files (view x)) (Err stopped) mid last →
        LoadsAnswered reads (names ++ name ∷ []) out (λ files. and_then (held files) (λ a. loaded_as (make a) (further files a))) (Err stopped) first last
    answered-stopped-second stopped at two = record {
      answers = one.answers ++ two.answer ∷ [];
      in_turn = both-in_turn two.answer two.read;
      counts =
          subst (λ (m : ℕ). CountsAs {X = Z} (length (names ++ name ∷ [])) m (Err stopped)) (sym (both-count two.answer))
          (counts-at Z (length (names ++ name ∷ [])) (length names + 1) stopped (omega arith) at);
      failed = failed-both Y Z one.answers two.answer stopped one.failed two.failed;
      carries = carries-both one.answers two.answer stopped two.carries;
      loads = λ files given.
          let parts = both-given files two.answer given in
          subst (λ (l : Loaded C). StopsAs stopped l) (sym (made-then files parts.0))
          (stops-made stopped (further files (view x)) (make (view x)) (two.loads files parts.1));
    }

    -- neither stops
    pub answered-both : (y : Y) (z : Z) → out z ≡ make (view x) (second_view y) → ReadsOnce reads name (length names + 1) second_view (λ files. further files (view x)) (Ok y) mid last →
        LoadsAnswered reads (names ++ name ∷ []) out (λ files. and_then (held files) (λ a. loaded_as (make a) (further files a))) (Ok z) first last
    answered-both y z is two = grind (arith, both-in_turn two.answer two.read, both-count two.answer, length-append names (name ∷ []), none-failed one.answers two.answer one.failed two.failed, both-given, made-then)
