-- For every two trees, every tree and every list of ears there is a report: a refusal is found
-- if the rules are not kept, and if they are, the leaves have kinds and a script leads from
-- the first derivation to the second.
use Rattle.tree_check.proofs.from_counting.Common.{◌≡◌, ◌⊎◌, ℕ, List, length, refl, subst, sym, inl, inr, Within}
use Rattle.definition_laws.proofs.Reasons.{covered_or_reason}
use Rattle.graph_core.proofs.Common.{reason-uncovered, IsCovered, IsReason, Reason, Small, Parted, Unmatched, Unallowed, Graph, IsGraph, IsMultigraph, size, singles, reason_of}
use Rattle.graph_core.specs.declared.verdict.Reason.{Reason as ToldReason}
use Rattle.graph_core.specs.declared.verdict.Reason.TheVariants as told
use Rattle.graph_core.specs.declared.verdict.Verdict.TheVariants.{NotCovered}
use Rattle.ear_text.specs.from_ear_core.Common.{PlainEars}
use Rattle.tree_check.proofs.from_move_laws.Rising.{rising-derivation_at}
use Rattle.tree_check.proofs.from_move_laws.ScriptPairs.{script_pairs}
use Rattle.tree_check.proofs.from_move_laws.SingleVertices.{singles_stage}
use Rattle.tree_check.proofs.from_move_laws.Uniqueness.{compare_law, script_through}
use Rattle.tree_check.proofs.FirstRefusals.{derived-or_refused}
use Rattle.tree_check.specs.Common.{HasShores, IsRefused, Why, why_number}
use Rattle.tree_core.proofs.Common.{partitions-leaves, IsDerivation, script_maps, leaves, Shape}
use Rattle.report_text.specs.Common.{pairing_text, ear_judgement_text, judgement_text, verdict_text}
use Rattle.report_text.specs.declared.ear_judgements.EarLine.TheVariants as ear_line
use Rattle.report_text.specs.declared.judgements.TreeLine.TheVariants as line
use Rattle.bench_top.specs.from_bench_outcomes.Common.{CheckGives, RefusedTree, shown_of, CompareGives, Compared, RefusesPair, map_lines_of, EarCheckGives, double_count, named_edge, single_count, Uncovered}
use Rattle.bench_top.specs.from_bench_outcomes.EarChecks as ear
use Rattle.bench_top.specs.from_bench_outcomes.declared.status.Status.{Status}
use Rattle.bench_top.specs.from_bench_outcomes.declared.status.Status.TheVariants.{Done, Negative}
use Rattle.theorems.proofs.EarRefusals.{ears_or_refusal}
use Rattle.theorems.proofs.LeafKindLists.{tally-exists}

-- each reason is one that is reported
told_reason : (r : Reason) → (c : ToldReason) × (reason_of c ≡ r)
told_reason Small = (told.Small, refl)
told_reason (Parted a b) = (told.Parted a b, refl)
told_reason (Unmatched berge) = (told.Unmatched berge, refl)
told_reason (Unallowed edge) = (told.Unallowed edge, refl)

-- a graph is covered, or there is a report that says why not
pub covered_or_told : (g : Graph) → IsMultigraph g → IsCovered g ⊎ ((output : List ℕ) × Uncovered g Negative output)
covered_or_told g is = elim (covered_or_reason g is.ends) [
  | inl cov ↦ inl cov
  | inr r ↦ let c = told_reason r.0 in inr (
    verdict_text (NotCovered c.0),
    record {
      reason = c.0;
      first = subst (IsReason g) (sym c.1) r.1;
      uncovered = reason-uncovered g r.0 is r.1;
      negative = refl;
      text = refl;
    },
  )
]

-- the report on a refused tree
pub refused_tree : (g : Graph) (t : Shape) (place : ℕ) → ((node : ℕ) × (why : Why) × IsRefused g t node why) → (output : List ℕ) × RefusedTree g t place Negative output
refused_tree g t place r = (judgement_text (line.Refused place r.0 (why_number r.1) (shown_of r.1)), record { node = r.0; why = r.1; refused = r.2; negative = refl; text = refl })

pub check-exists : (g : Graph) (t : Shape) → IsMultigraph g → HasShores g.order t → (status : Status) × (output : List ℕ) × CheckGives g t status output
check-exists g t is shores = elim (covered_or_told g is) [
  | inr u ↦ (Negative, u.0, inr (inr u.1))
  | inl cov ↦ elim (derived-or_refused g is.ends t cov shores) [
    | inl d ↦ let tally = tally-exists g is.ends (leaves g.order t) (partitions-leaves g t d) in (Done, judgement_text (line.Accepted tally.0), inl (record { derivation = d; tally = tally.0; counts = tally.1; done = refl; text = refl }))
    | inr r ↦ let told = refused_tree g t 1 r in (Negative, told.0, inr (inl told.1))
  ]
]

pub ear_check-exists : (g : Graph) (list : PlainEars) → IsMultigraph g → Within (size g) list.start → (status : Status) × (output : List ℕ) × EarCheckGives g list status output
ear_check-exists g list is start = elim (covered_or_told g is) [
  | inr u ↦ (Negative, u.0, inr (inr u.1))
  | inl cov ↦ elim (ears_or_refusal g is list start) [
    | inl ears ↦ (Done, ear_judgement_text (ear_line.Accepted (length list.steps) (single_count list.steps) (double_count list.steps)), inl (record { covered = cov; is = ears; done = refl; text = refl }))
    | inr r ↦ (Negative, ear_judgement_text (ear_line.Refused r.0 (ear.ear_why_number r.1) (named_edge r.1)), inr (inl (record { covered = cov; step = r.0; why = r.1; refused = r.2; negative = refl; text = refl })))
  ]
]

-- two trees are derivations, or there is a report that refuses one of them
pub derived_or_refused_pair : (g : Graph) (s t : Shape) → IsMultigraph g → HasShores g.order s → HasShores g.order t → (IsDerivation g s × IsDerivation g t) ⊎ ((output : List ℕ) × RefusesPair g s t Negative output)
derived_or_refused_pair g s t is fs ft = elim (covered_or_told g is) [
  | inr u ↦ inr (u.0, inr (inr u.1))
  | inl cov ↦ elim (derived-or_refused g is.ends s cov fs) [
    | inr r ↦ let told = refused_tree g s 1 r in inr (told.0, inl told.1)
    | inl ds ↦ elim (derived-or_refused g is.ends t cov ft) [
      | inr r ↦ let told = refused_tree g t 2 r in inr (told.0, inr (inl (ds, told.1)))
      | inl dt ↦ inl (ds, dt)
    ]
  ]
]

-- a script of moves from the one to the other pairs their leaves
pub compared : (g : Graph) (s t : Shape) → IsGraph g → IsDerivation g s → IsDerivation g t → (output : List ℕ) × Compared g s t Done output
compared g s t is ds dt =
    let st = singles_stage g is ds.covered in
    let rs = rising-derivation_at g (singles g.order) s ds.derives in
    let r = compare_law g (singles g.order) s t st rs ds.derives (rising-derivation_at g (singles g.order) t dt.derives) dt.derives in (
      pairing_text r.0 (map_lines_of 0 (leaves g.order s) (script_maps g.order s r.0)),
      record {
        moves = r.0;
        script = record { first = ds; second = dt; turns = script_through g s r.0 t ds.covered r.1; few = r.2 };
        maps = script_maps g.order s r.0;
        of_moves = refl;
        paired = script_pairs g s t r.0 st rs ds.derives r.1;
        done = refl;
        text = refl;
      },
    )

pub comparison-exists : (g : Graph) (s t : Shape) → IsMultigraph g → HasShores g.order s → HasShores g.order t → (status : Status) × (output : List ℕ) × CompareGives g s t status output
comparison-exists g s t is fs ft = elim (derived_or_refused_pair g s t is fs ft) [
  | inr refused ↦ (Negative, refused.0, inr refused.1)
  | inl both ↦ let told = compared g s t is.ends both.0 both.1 in (Done, told.0, inl told.1)
]
