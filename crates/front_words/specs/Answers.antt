-- The words that a program answers at once, and what a run makes of them.
-- Stated by: front_words. Used by: front_top, mcg6_front_top.
use Rattle.std.specs.Prelude.{◌≡◌, ◌⊎◌, ℕ, ◌||◌, List, [], ◌∷◌, Bool, true, false, codes, if◌then◌else◌, Option, Some, None, bytes_eq}
use Rattle.outside.specs.Common.{Rose, appended}
use Rattle.front_words.specs.Saying.{IsBegun, WritesUntilFault, WritesWhole}
use Rattle.front_words.specs.Programs.{command_page, program_usage, version_of}
use Rattle.front_words.specs.declared.programs.Program.{Program}

-- the word asks for help
abbrev pub is_help : List ℕ → Bool
is_help word = bytes_eq word (codes "--help") || (bytes_eq word (codes "-h") || bytes_eq word (codes "help"))

-- what one word is answered: the usage, or the version
abbrev pub word_answer : Program → List ℕ → Option (List ℕ)
word_answer program word =
    if is_help word then Some (program_usage program) else
    if bytes_eq word (codes "--version") then Some (version_of program) else None

-- what two words are answered: the page of a command, after a word that asks for help or before
-- `--help`
abbrev pub pair_answer : Program → (word next : List ℕ) → Option (List ℕ)
pair_answer program word next =
    if is_help word then command_page program next else
    if bytes_eq next (codes "--help") then command_page program word else None

-- what the words are answered at once; none if they ask for a run
abbrev pub answer_of : Program → List (List ℕ) → Option (List ℕ)
answer_of program [] = None
answer_of program (word ∷ []) = word_answer program word
answer_of program (word ∷ next ∷ []) = pair_answer program word next
answer_of program (word ∷ next ∷ third ∷ words) = None

-- a text was the whole answer: it was written whole and all is done, or a beginning of it if
-- the sink failed, and the write that failed is the last
pub record Answers {K E : Type 0} (written : K → Option (List ℕ)) (writes : K → List ℕ → ℕ → K → Type 0) (faults : K → ℕ) (done unwritten : E) (text : List ℕ) (ended : E)
    (before now : K) : Type 0 where
  pub ends : (ended ≡ done) ⊎ (ended ≡ unwritten)
  pub whole : ended ≡ done → written now ≡ appended (written before) text
  pub begun : IsBegun text (written before) (written now)
  pub writes_whole : ended ≡ done → WritesWhole writes text before now
  pub writes_until : ended ≡ unwritten → WritesUntilFault writes text before now
  pub failed : ended ≡ unwritten → Rose (faults before) (faults now)

-- a run whose words are answered at once with this text, quiet or not, ended so, and with this to
-- be said. It led from the first input to the last, and from the sink before to the sink now, whose
-- reader is gone or not
pub record AnswersAtOnce {I K E M : Type 0} (written : K → Option (List ℕ)) (writes : K → List ℕ → ℕ → K → Type 0) (faults : K → ℕ) (done unwritten : E) (silence loss : M)
    (text : List ℕ) (is_quiet is_abandoned : Bool) (ended : E) (said : M) (first last : I) (before now : K) : Type 0 where
  -- the text was the whole answer, and nothing was read
  pub answers : Answers written writes faults done unwritten text ended before now
  pub unread : last ≡ first
  -- nothing is to be said of it, unless it could not be written whole although somebody still reads
  -- it: then the words for that
  pub quietly : (ended ≡ done) ⊎ (is_abandoned ≡ true) → said ≡ silence
  pub lost : ended ≡ unwritten → is_abandoned ≡ false → is_quiet ≡ false → said ≡ loss
