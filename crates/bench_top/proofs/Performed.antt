-- What a command makes of the shelf and the sink is `RunsTo`: it follows from what reading its
-- files made of the shelf, and from how the run ended with what was read.
use Rattle.std.proofs.Common.{◌≡◌, ◌∙◌, ◌⊎◌, ◌↔◌, ℕ, List, Bool, IsTrue, IsOk, IfErr, IfOk, Option, Some, Result, sym, ap, subst, is_some, arith}
use Rattle.std.proofs.lemmas.Option.{none-some, same_Some}
use Rattle.outside.specs.Common.{Answer, NamedFile, ReadsInTurn, Rose}
use Rattle.outside.specs.declared.explain.FailureReason.{FailureReason}
use Rattle.refusals.specs.declared.refusal.Refusal.{Refusal}
use Rattle.bench_reports.specs.from_bench_tasks.Common.{Absent, All, Bad, CarriesFile, CarriesFirstSizes, Command, FailsAs, GathersAnswered, Held, HasNoMissing, IsReadFault, IsTaskOf, Loaded, Loads, LoadsAs, ReadsAs, Task, file_names, files_of, loaded, names_until, task_of}
use Rattle.bench_reports.specs.from_bench_tasks.declared.stop.LoadStop.{LoadStop}
use Rattle.bench_reports.specs.from_bench_tasks.declared.tasks.Task.TheVariants as code
use Rattle.bench_reports.specs.from_bench_outcomes.Common.{Appended, CutShort, GatheredMayRefuse, IsPlaced, IsReported, IsSettled, LoadedGives, is_negative}
use Rattle.bench_reports.specs.from_bench_outcomes.declared.status.Status.{Status}
use Rattle.bench_reports.specs.from_bench_outcomes.declared.status.Status.TheVariants.{Negative, Usage, ReadFault, BadInput, WriteFault}
use Rattle.bench_top.specs.Calm.{HasRead}
use Rattle.bench_top.specs.Endings.{IsStopOf, ReportedBad, ReportedRefusal, stop_in}
use Rattle.bench_top.specs.Runs.{RunsTo}
use Rattle.bench_top.specs.Writes.{GivesTold, WritesAs}
use Rattle.bench_top.proofs.Completeness.{done-given, done-or_memory}
use Rattle.bench_top.proofs.GivenFiles.{given-outcome}
use Rattle.bench_top.proofs.ReadsMade.{absent-fault, first-reads}
use Rattle.bench_top.proofs.Refusals.{may-refuse}
use Rattle.bench_top.proofs.RunsMade.{calm-reads, ends-absent, ends-bad, ends-good}
use Rattle.bench_top.proofs.Stops.{stop-carries, stop-carries-bytes, stop-carries-graph, stop-is, stop-reads, unread}
use Rattle.bench_top.proofs.WritesMade.{writes-more, wrote-appended, wrote-none, wrote-prefix}

-- what was gathered gives this status and this output, whatever files it was read from
abbrev pub GivesGathered : Result code.the_data LoadStop → Status → List ℕ → Type 0
GivesGathered gathered status output = (held : Held) → LoadsAs task_of gathered held → LoadedGives held status output

not-absent : (held : Loaded Task) (task : Task) → held ≡ All task → (file : ℕ) → held ≡ Absent file → ⊥
not-absent held task is file absent = grind arith

bad-not-absent : (held : Loaded Task) (at line kind : ℕ) → held ≡ Bad at line kind → (file : ℕ) → held ≡ Absent file → ⊥
bad-not-absent held at line kind is file absent = grind arith

module _ {S K : Type 0} (holds : S → Option (List NamedFile)) (is_steady : S → Bool) (faults : S → ℕ) (reads : S → List ℕ → Answer → S → Type 0) (reason : S → Option FailureReason)
    (written : K → Option (List ℕ)) (writes : K → List ℕ → ℕ → K → Type 0) (sink_faults : K → ℕ) (k : Command) (gathered : Result code.the_data LoadStop) (first last : S) (before now : K) where
  -- the files of the command were read, and this was gathered
  pub record HasGathered : Type 0 where
    pub loads : Loads holds is_steady faults task_of (λ files. loaded files k) gathered first last
    pub made : ReadsAs reads (file_names k) gathered first last
    pub answered : GathersAnswered reads k gathered first last
    pub carries : IfErr gathered (CarriesFile (files_of k) (reason last))
    pub sized : IfErr gathered (CarriesFirstSizes reads (file_names k) first)
    pub asked : IfOk gathered (λ task. IsTaskOf k (task_of task))

  -- the run ended so with what was gathered
  pub record HasEnded (status : Status) (refused : Option Refusal) : Type 0 where
    pub usage : status ≡ Usage → ⊥
    pub read_fault : (status ≡ ReadFault) ↔ IsReadFault gathered
    pub whole : IsSettled status → IsOk gathered
    pub read : HasRead (is_steady first) status → HasNoMissing gathered ⊎ IsReadFault gathered
    pub refuses : status ≡ Negative → GatheredMayRefuse gathered
    pub wrote : WritesAs written writes (GivesGathered gathered) status before now
    pub write_fault : status ≡ WriteFault → Rose (sink_faults before) (sink_faults now)
    pub bad : status ≡ BadInput → ReportedBad (stop_in gathered) (written before) (written now)
    pub is_refused : is_some refused ≡ is_negative status
    pub refusal : status ≡ Negative → ReportedRefusal refused (written before) (written now)
    pub placed : (task : Task) → LoadsAs task_of gathered (All task) → IsPlaced task refused

  -- all files were read that were to be, if the run has read all that it reads
  read-until : (steady : Bool) (status : Status) (held : Held) → HasRead steady status → (status ≡ ReadFault) ↔ IsReadFault gathered → HasNoMissing gathered ⊎ IsReadFault gathered →
      LoadsAs task_of gathered held → FailsAs steady gathered held → ReadsAs reads (file_names k) gathered first last → ReadsInTurn reads (names_until held (file_names k)) first last
  read-until steady status held has fault read loads fails made = grind arith

  read-all : ReadsAs reads (file_names k) gathered first last → IsOk gathered → ReadsInTurn reads (file_names k) first last
  read-all made whole = grind arith

  pub performed : (status : Status) (refused : Option Refusal) → HasGathered → HasEnded status refused →
      RunsTo holds is_steady faults reads reason written writes sink_faults (Some k) status (stop_in gathered) refused first last before now
  performed status refused got ended =
      let steady = is_steady first in
      let loads = got.loads in
      let wrote : (held : Held) → LoadsAs task_of gathered held → WritesAs written writes (LoadedGives held) status before now =
      λ held is. writes-more written writes (GivesGathered gathered) (LoadedGives held) (λ s output right. right held is) status before now ended.wrote in
      let missing : (files : List NamedFile) → holds first ≡ Some files → status ≡ ReadFault → IsTrue steady → (file : ℕ) × (loaded files k ≡ Absent file) =
      λ files told fault is. absent-fault steady gathered (loaded files k) (ended.read_fault.0 fault) is (loads.absent files told) in
      let read_fault : status ≡ ReadFault → Rose (faults first) (faults last) = λ fault. loads.failed (ended.read_fault.0 fault) in
      let stops : (files : List NamedFile) → holds first ≡ Some files → IsStopOf steady (stop_in gathered) (loaded files k) =
      λ files told. stop-is steady gathered (loaded files k) (loads.loads files told) (loads.absent files told) in
      let appended : (files : List NamedFile) → holds first ≡ Some files → IsReported status → Appended (LoadedGives (loaded files k)) status (written before) (written now) =
      λ files told. wrote-appended written writes (LoadedGives (loaded files k)) status before now (wrote (loaded files k) (loads.loads files told)) in
      let cut : (files : List NamedFile) → holds first ≡ Some files → status ≡ WriteFault → CutShort (LoadedGives (loaded files k)) (written before) (written now) =
      λ files told. wrote-prefix written writes (LoadedGives (loaded files k)) status before now (wrote (loaded files k) (loads.loads files told)) in
      record {
        runs = record {
          usage = (λ e. absurd (ended.usage e), λ none. absurd (none-some k (sym none)));
          unread = λ e. absurd (ended.usage e);
          negative = λ e. may-refuse k gathered got.asked (ended.refuses e);
          read_fault = read_fault;
          write_fault = ended.write_fault;
          nothing = wrote-none written writes (GivesGathered gathered) status before now ended.wrote;
          asks = first-reads reads (file_names k) first last gathered got.made;
          asks_all = λ settled. read-all got.made (ended.whole settled);
          asks_until = λ files command told row has.
              subst (λ (l : Command). ReadsInTurn reads (names_until (loaded files l) (file_names l)) first last) (same_Some k command row)
              (read-until steady status (loaded files k) has ended.read_fault (ended.read has) (loads.loads files told) (loads.absent files told) got.made);
          same_files = loads.files;
          as_steady = loads.as_steady;
          outcome = appended;
          cut = cut;
          writes_made = writes-more written writes (GivesGathered gathered) (GivesTold (holds first) (λ files. LoadedGives (loaded files k))) (λ s output right files told. right (loaded files k) (loads.loads files told))
              status before now ended.wrote;
          answered = given-outcome reads written writes k gathered status first last before now ended.read_fault.0 ended.read_fault.1 got.answered wrote;
          missing = λ files command told row fault is.
              subst (λ (l : Command). (file : ℕ) × (loaded files l ≡ Absent file)) (same_Some k command row) (missing files told fault is);
          absent = λ files command file told row held.
              let same = ap (loaded files) (same_Some k command row) ∙ held in
              ends-absent file status (written before) (written now) ended.usage
              (λ reported. subst (λ (h : Loaded Task). Appended (LoadedGives h) status (written before) (written now)) same (appended files told reported))
              (λ fault. subst (λ (h : Loaded Task). CutShort (LoadedGives h) (written before) (written now)) same (cut files told fault));
          bad = λ files command file line kind told row held calm.
              let same = ap (loaded files) (same_Some k command row) ∙ held in
              ends-bad file line kind status (written before) (written now) ended.usage
              (calm-reads steady _ _ _ _ status (loaded files k) calm read_fault (missing files told) (bad-not-absent (loaded files k) file line kind same))
              (λ fault. calm.sink (ended.write_fault fault))
              (λ reported. subst (λ (h : Loaded Task). Appended (LoadedGives h) status (written before) (written now)) same (appended files told reported));
          good = λ files command task told row held calm.
              let same = ap (loaded files) (same_Some k command row) ∙ held in
              ends-good steady task status (stop_in gathered) (written before) (written now) ended.usage
              (calm-reads steady _ _ _ _ status (loaded files k) calm read_fault (missing files told) (not-absent (loaded files k) task same))
              (λ fault. calm.sink (ended.write_fault fault))
              (subst (λ (h : Loaded Task). IsStopOf steady (stop_in gathered) h) same (stops files told)) ended.bad;
          succeeds = λ files command task told row held succeeds calm.
              let same = ap (loaded files) (same_Some k command row) ∙ held in
              done-or_memory status ended.usage
              (calm-reads steady _ _ _ _ status (loaded files k) calm read_fault (missing files told) (not-absent (loaded files k) task same))
              (λ fault. calm.sink (ended.write_fault fault))
              (λ reported. (done-given files k task status _ same (appended files told reported).outcome).1 succeeds);
        };
        stops = λ files command told row. subst (λ (l : Command). IsStopOf steady (stop_in gathered) (loaded files l)) (same_Some k command row) (stops files told);
        stops_after = stop-reads reads (file_names k) gathered first last got.made;
        carries = stop-carries (files_of k) (reason last) gathered got.carries;
        carries_bytes = stop-carries-bytes reads k gathered first last got.answered;
        carries_graph = stop-carries-graph reads (file_names k) gathered first got.sized;
        reported = ended.bad;
        unread_file = λ fault. unread gathered (ended.read_fault.0 fault);
        is_refused = ended.is_refused;
        reported_refusal = ended.refusal;
        placed = λ files command task told row held.
            ended.placed task (subst (λ (h : Held). LoadsAs task_of gathered h) (ap (loaded files) (same_Some k command row) ∙ held) (loads.loads files told));
      }
