-- What the program was given, what it printed and what it said, of a run of the front.
use Rattle.std.proofs.Common.{◌≡◌, ℕ, List, [], ◌++◌, Bool, IsSomeAnd, Option, Some, None, ap, subst, sym, refl}
use Rattle.mcg6_encoder.specs.from_outside.Common.{HasPrinted, HasSaid, HasTaken, LineState, PrintState, ReadState}
use Rattle.mcg6_top.specs.Common.{RowGives, code_of, command_of, file_named_by, nothing_printed, nothing_read}
use Rattle.mcg6_top.specs.declared.status.ListStatus.{ListStatus}
use Rattle.mcg6_top.proofs.Reported.{has-list-report, list-report-other}
use Rattle.front_words.specs.Answers.{answer_of}
use Rattle.front_words.specs.Saying.{IsSaid}
use Rattle.front_words.specs.declared.programs.Program.TheVariants.{Mcg6}
use Rattle.mcg6_front_top.specs.Fronts.{ListFronts}
use Rattle.mcg6_front_top.specs.Installed.{EndsOn, nothing_said}
use Rattle.mcg6_front_top.specs.Words.{message_words}
use Rattle.mcg6_front_top.specs.declared.clues.Clues.{Clues}
use Rattle.mcg6_front_top.specs.declared.ending.ListMessage.{ListMessage}
use Rattle.mcg6_front_top.proofs.MessageLines.{message-closed}
use Rattle.mcg6_front_top.proofs.SaidWhole.{whole-printed}

abbrev FrontRun : List (List ℕ) → (is_quiet is_abandoned : Bool) → ListStatus → ListMessage → (first last : ReadState) → (before now : PrintState) → Type 0
FrontRun words is_quiet is_abandoned status said first last before now =
    ListFronts (λ (s : ReadState). None) (λ (s : ReadState). s.faults) HasTaken (λ (k : PrintState). Some k.printed) HasPrinted (λ (k : PrintState). k.faults) words is_quiet is_abandoned status said first last before now

abbrev IsSaidOn : List ℕ → (before now : LineState) → Type 0
IsSaidOn text before now = IsSaid (λ (k : LineState). None) HasSaid (λ (k : LineState). k.faults) text before now

-- the program, of one of its runs
ends_on : (words : List (List ℕ)) (is_quiet is_abandoned : Bool) (status : ListStatus) (said : ListMessage) (clues : Clues) (source : ReadState) (sink : PrintState) (errors : LineState) →
    FrontRun words is_quiet is_abandoned status said (nothing_read (file_named_by words)) source nothing_printed sink → IsSaidOn (message_words words said clues) nothing_said errors →
    EndsOn words (code_of status) source sink errors
ends_on words is_quiet is_abandoned status said clues source sink errors fronts says = record {
  status = status;
  is_code = refl;
  opened = λ none. (has-list-report words status (nothing_read (file_named_by words)) source nothing_printed sink (fronts.runs none)).opened;
  gives = λ none. list-report-other words status (nothing_read (file_named_by words)) source nothing_printed sink (fronts.runs none) source.read sink.printed refl refl;
  is_quiet = is_quiet;
  message = said;
  speaks = λ none loud. let speaks = fronts.speaks none loud in (speaks.ending, speaks.is_said, speaks.of_status);
  quiet = fronts.quiet;
  clues = clues;
  said = says;
  heard = λ whole. whole-printed (message_words words said clues) nothing_said errors whole (message-closed words said clues) refl;
}

-- the same, of what is equal to it
pub ends_from : (words given : List (List ℕ)) (is_quiet is_abandoned : Bool) (status : ListStatus) (said : ListMessage) (first last : ReadState) (before now sink : PrintState) (code : ℕ) (out : ℕ × Option ReadState) → words ≡ given →
    first ≡ nothing_read (file_named_by words) → before ≡ nothing_printed → sink ≡ now → out ≡ (code, Some last) → code ≡ code_of status →
    (spoken : List (List ℕ)) (clues : Clues) (fresh spoke errors : LineState) → spoken ≡ words → fresh ≡ nothing_said → errors ≡ spoke → IsSaidOn (message_words spoken said clues) fresh spoke →
    FrontRun words is_quiet is_abandoned status said first last before now → IsSomeAnd out.1 (λ source. EndsOn given out.0 source sink errors)
ends_from words given is_quiet is_abandoned status said first last before now sink code out same from_source from_sink to_sink to_out is spoken clues fresh spoke errors spoken_is fresh_is to_errors says fronts =
    let start : FrontRun words is_quiet is_abandoned status said (nothing_read (file_named_by words)) last nothing_printed now =
    subst (λ (k : PrintState). FrontRun words is_quiet is_abandoned status said (nothing_read (file_named_by words)) last k now) from_sink (subst (λ (s : ReadState). FrontRun words is_quiet is_abandoned status said s last before now) from_source fronts) in
    let spoken_so : IsSaidOn (message_words words said clues) nothing_said errors =
    subst (λ (k : LineState). IsSaidOn (message_words words said clues) nothing_said k) (sym to_errors)
    (subst (λ (k : LineState). IsSaidOn (message_words words said clues) k spoke) fresh_is
    (subst (λ (ws : List (List ℕ)). IsSaidOn (message_words ws said clues) fresh spoke) spoken_is says)) in
    let on_words : EndsOn words (code_of status) last now errors = ends_on words is_quiet is_abandoned status said clues last now errors start spoken_so in
    let ends : EndsOn given code last sink errors =
    subst (λ (ws : List (List ℕ)). EndsOn ws code last sink errors) same
    (subst (λ (n : ℕ). EndsOn words n last sink errors) (sym is) (subst (λ (k : PrintState). EndsOn words (code_of status) last k errors) (sym to_sink) on_words)) in
    subst (λ (o : ℕ × Option ReadState). IsSomeAnd o.1 (λ source. EndsOn given o.0 source sink errors)) (sym to_out) ends
