-- A shelf in memory none of whose reads is to fail is steady, and a sink that only counts has no
-- faults: so each run over them is calm.
use Rattle.std.proofs.Common.{◌≡◌, ◌⊎◌, ◌∙◌, ◌==◌, inl, inr, [], ℕ, List, Bool, IsTrue, length, refl, sym, arith}
use Rattle.std.proofs.lemmas.Option.{none-some, same_Some}
use Rattle.bench_reports.specs.from_bench_outcomes.declared.status.Status.{Status}
use Rattle.bench_reports.specs.from_bench_outcomes.declared.status.Status.TheVariants.{Done, Negative, Usage, ReadFault, BadInput, WriteFault, Memory}
use Rattle.bench_top.specs.Calm.{HasRead, IsCalm}
use Rattle.bench_top.proofs.in_memory.run_in_memory.Goals as goal

calm : (failing : List ℕ) (before now : ℕ) → failing ≡ [] → IsCalm (length failing == 0) before now 0 0
calm failing before now none = grind arith

steady : (failing : List ℕ) → failing ≡ [] → IsTrue (length failing == 0)
steady failing none = grind arith

-- a run that did not run out of memory has read all that it reads
read-or_memory : (is_steady : Bool) (status : Status) → IsTrue is_steady → (status ≡ Usage → ⊥) → (status ≡ Memory) ⊎ HasRead is_steady status
read-or_memory is_steady Done is usage = inr tt
read-or_memory is_steady Negative is usage = inr tt
read-or_memory is_steady Usage is usage = absurd (usage refl)
read-or_memory is_steady ReadFault is usage = inr is
read-or_memory is_steady BadInput is usage = inr tt
read-or_memory is_steady WriteFault is usage = inr tt
read-or_memory is_steady Memory is usage = inl refl

or-then : {A B C : Type 0} → A ⊎ B → (B → C) → A ⊎ C
or-then (inl a) next = inl a
or-then (inr b) next = inr (next b)

pub returns-clause-asks_until : goal.returns-clause-asks_until
returns-clause-asks_until c = λ command row.
    or-then
    (read-or_memory (length c.args.shelf.now.failing == 0) c.run.result (steady c.args.shelf.now.failing c.requires) (λ usage. none-some command (sym (c.run.ensures.usage.0 usage) ∙ row)))
    (λ read. c.run.ensures.asks_until c.args.shelf.now.files command refl row read)

pub returns-clause-files : goal.returns-clause-files
returns-clause-files c = same_Some _ _ c.run.ensures.same_files

pub returns-clause-outcome : goal.returns-clause-outcome
returns-clause-outcome c = λ reported. let told = c.run.ensures.outcome c.args.shelf.now.files refl reported in (told.output, told.outcome)

pub returns-clause-absent : goal.returns-clause-absent
returns-clause-absent c = λ command file row held. c.run.ensures.absent c.args.shelf.now.files command file refl row held

pub returns-clause-bad : goal.returns-clause-bad
returns-clause-bad c = λ command file line kind row held.
    c.run.ensures.bad c.args.shelf.now.files command file line kind refl row held (calm c.args.shelf.now.failing _ _ c.requires)

pub returns-clause-good : goal.returns-clause-good
returns-clause-good c = λ command task row held. c.run.ensures.good c.args.shelf.now.files command task refl row held (calm c.args.shelf.now.failing _ _ c.requires)

pub returns-clause-succeeds : goal.returns-clause-succeeds
returns-clause-succeeds c = λ command task row held done.
    c.run.ensures.succeeds c.args.shelf.now.files command task refl row held done (calm c.args.shelf.now.failing _ _ c.requires)
