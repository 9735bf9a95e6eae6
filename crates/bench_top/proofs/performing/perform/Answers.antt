use Rattle.std.proofs.Common.{List, ℕ, ◌≡◌, Option, None, take, refl, subst, ap, inl, inr, Err, IsErrOf, Result, arith}
use Rattle.outside.specs.Common.{IsCutOff, IsWritten, appended}
use Rattle.bench_reports.specs.from_bench_tasks.Common.{asked, HasNoMissing, IsReadFault}
use Rattle.bench_reports.specs.from_bench_tasks.declared.stop.LoadStop.{LoadStop}
use Rattle.bench_reports.specs.from_bench_tasks.declared.tasks.Task.TheVariants as code
use Rattle.bench_reports.specs.from_bench_outcomes.Common.{IsReported}
use Rattle.bench_reports.specs.from_bench_outcomes.declared.status.Status.{Status}
use Rattle.bench_reports.specs.from_bench_outcomes.declared.status.Status.TheVariants.{ReadFault, Usage, WriteFault}
use Rattle.bench_top.specs.Endings.{ReportedBad, ReportsBad, stop_in}
use Rattle.bench_top.proofs.Performed.{GivesGathered, performed}
use Rattle.bench_top.proofs.RefusalsReported.{no-report, not-placed, reported-refusal}
use Rattle.bench_top.proofs.WritesMade.{wrote-nothing, wrote-report}
use Rattle.bench_top.proofs.performing.perform.Goals as goal

-- a report has a status of its own, and was made of files that were read
not-reported : (status : Status) → IsReported status → (status ≡ Usage → ⊥) × (status ≡ ReadFault → ⊥) × (status ≡ WriteFault → ⊥)
not-reported status reported = grind arith

read-not-fault : (result : Result code.the_data LoadStop) → HasNoMissing result → IsReadFault result → ⊥
read-not-fault result read fault = grind arith

err-is : {X : Type 0} {status other : Status} → IsErrOf {T = X} (Err status) other → status ≡ other
err-is is = grind arith

reported-bad : (result : Result code.the_data LoadStop) (bytes : List ℕ) (before now : Option (List ℕ)) → ReportsBad result bytes → now ≡ appended before bytes → ReportedBad (stop_in result) before now
reported-bad result bytes before now reports written = grind arith

-- the report was written whole
pub returns-in-Ok-emit : goal.returns-in-Ok-emit
returns-in-Ok-emit g c =
    let report = c.in-Ok.report in
    let got = c.gather-gathered in
    let judged = c.report_on-report in
    let is = c.in-Ok.is in
    let others = not-reported report.status (rw is at judged.ensures.reported) in
    let now = subst (λ (l : List ℕ). g.K.Sink.written c.emit.new.sink ≡ appended (g.K.Sink.written c.args.sink.now) l) c.deref.ensures.value c.in-Ok-emit.ensures.ok in
    rw judged.ensures.stop
    (performed g.S.Shelf.files g.S.Shelf.steady g.S.Shelf.faults g.S.Shelf.reads g.R.Reasons.reason g.K.Sink.written g.K.Sink.writes g.K.Sink.faults (asked c.args.command) got.result c.args.shelf.now got.new.shelf
    c.args.sink.now c.emit.new.sink report.status report.refusal
    (record { loads = got.ensures.loads; made = got.ensures.reads; answered = got.ensures.answered; carries = got.ensures.carries; sized = got.ensures.sized; asked = got.ensures.asked })
    (record {
      usage = others.0;
      read_fault = (λ e. absurd (others.1 e), λ fault. absurd (read-not-fault got.result (rw is at judged.ensures.read) fault));
      whole = (rw is at judged.ensures.whole);
      read = λ has. inl (rw is at judged.ensures.read);
      refuses = (rw is at judged.ensures.refuses);
      wrote = wrote-report g.K.Sink.written g.K.Sink.writes (GivesGathered got.result) report.status report.bytes.items c.args.sink.now c.emit.new.sink (rw is at judged.ensures.reported) (rw is at judged.ensures.gives) now
          (subst (λ (l : List ℕ). IsWritten g.K.Sink.writes l c.args.sink.now c.emit.new.sink) c.deref.ensures.value c.in-Ok-emit.ensures.whole);
      write_fault = λ e. absurd (others.2 e);
      bad = λ e. reported-bad got.result report.bytes.items (g.K.Sink.written c.args.sink.now) (g.K.Sink.written c.emit.new.sink) ((rw is at judged.ensures.bad) e) now;
      is_refused = report.refused;
      refusal = reported-refusal report.status report.refusal report.bytes.items (g.K.Sink.written c.args.sink.now) (g.K.Sink.written c.emit.new.sink) report.refused report.told now;
      placed = (rw is at judged.ensures.placed);
    }))

-- writing the report failed
pub returns-in-Ok : goal.returns-in-Ok
returns-in-Ok g c =
    let report = c.in-Ok.report in
    let got = c.gather-gathered in
    let judged = c.report_on-report in
    let is = c.in-Ok.is in
    let cut = c.in-Err-emit.ensures.err in
    rw judged.ensures.stop
    (performed g.S.Shelf.files g.S.Shelf.steady g.S.Shelf.faults g.S.Shelf.reads g.R.Reasons.reason g.K.Sink.written g.K.Sink.writes g.K.Sink.faults (asked c.args.command) got.result c.args.shelf.now got.new.shelf
    c.args.sink.now c.emit.new.sink WriteFault None
    (record { loads = got.ensures.loads; made = got.ensures.reads; answered = got.ensures.answered; carries = got.ensures.carries; sized = got.ensures.sized; asked = got.ensures.asked })
    (record {
      usage = λ e. cc e;
      read_fault = (λ e. cc e, λ fault. absurd (read-not-fault got.result (rw is at judged.ensures.read) fault));
      whole = λ settled. grind arith;
      read = λ has. inl (rw is at judged.ensures.read);
      refuses = λ e. cc e;
      wrote = record {
        status = report.status;
        output = report.bytes.items;
        count = cut.0;
        right = (rw is at judged.ensures.gives);
        now = subst (λ (l : List ℕ). g.K.Sink.written c.emit.new.sink ≡ appended (g.K.Sink.written c.args.sink.now) (take cut.0 l)) c.deref.ensures.value cut.2;
        cut = subst (λ (l : List ℕ). IsCutOff g.K.Sink.writes l cut.0 c.args.sink.now c.emit.new.sink) c.deref.ensures.value cut.3;
      };
      write_fault = λ e. c.in-Err-emit.ensures.failed;
      bad = λ e. cc e;
      is_refused = refl;
      refusal = λ e. cc e;
      placed = λ task loads. not-placed task;
    }))

-- there was no report
pub returns : goal.returns
returns g c =
    let status = c.in-Err.status in
    let got = c.gather-gathered in
    let judged = c.report_on-report in
    let stops = rw c.in-Err.is at judged.ensures.stops in
    let others = no-report status stops in
    let fault = rw c.in-Err.is at judged.ensures.read_fault in
    rw judged.ensures.stop
    (performed g.S.Shelf.files g.S.Shelf.steady g.S.Shelf.faults g.S.Shelf.reads g.R.Reasons.reason g.K.Sink.written g.K.Sink.writes g.K.Sink.faults (asked c.args.command) got.result c.args.shelf.now got.new.shelf
    c.args.sink.now c.args.sink.now status None
    (record { loads = got.ensures.loads; made = got.ensures.reads; answered = got.ensures.answered; carries = got.ensures.carries; sized = got.ensures.sized; asked = got.ensures.asked })
    (record {
      usage = others.usage;
      read_fault = (λ e. fault.0 (ap Err e), λ failed. err-is (fault.1 failed));
      whole = λ settled. absurd (others.settled settled);
      read = λ has. inr (fault.0 (ap Err (others.read (g.S.Shelf.steady c.args.shelf.now) has)));
      refuses = λ e. absurd (others.negative e);
      wrote = wrote-nothing g.K.Sink.written g.K.Sink.writes (GivesGathered got.result) status c.args.sink.now stops;
      write_fault = λ e. absurd (others.write_fault e);
      bad = λ e. absurd (others.bad e);
      is_refused = others.is_refused;
      refusal = λ e. absurd (others.negative e);
      placed = λ task loads. not-placed task;
    }))
