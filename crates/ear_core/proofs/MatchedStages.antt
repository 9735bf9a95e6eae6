-- A stage that is kept while a list of ears is checked: an edge of it lies in a perfect matching if
-- its ends are partners, and a single ear between partners on an earlier stage makes a stage.
use Rattle.graph_core.proofs.from_counting.Common.{◌≡◌, ◌↔◌, ℕ, Option, Some, None, true, sym, subst, Within, Set}
use Rattle.graph_core.proofs.Common.{Graph, IsGraph, IsMultigraph, first_end, second_end, size}
use Rattle.ear_core.proofs.EngineGraphs.{edge_serves, ends-met}
use Rattle.ear_core.proofs.ServingPairs.{serving-one}
use Rattle.ear_core.proofs.StagePartners.{alone-serves, step-partners}
use Rattle.ear_core.specs.Common.{AllowedBy, ArePartnersOn, FitsEar, FitsStep, IsAskedBefore, IsEar, IsStage, IsStep, PlainEar, PlainStep, last_vertex, next_stage, plain_step, with_edges}
use Rattle.ear_core.specs.declared.asking.Asked.{Asked}
use Rattle.ear_core.specs.declared.ears.Ear.{Ear}

-- an edge of the stage lies in a perfect matching of it if its ends are partners
pub partners-allowed : (g : Graph) → IsMultigraph g → (f : Set) (e : ℕ) → Within (size g) e → f e ≡ true → ArePartnersOn g f (first_end g e) (second_end g e) ↔ AllowedBy g f e
partners-allowed g is f e we on =
    let serves = edge_serves g f e is.ends we (is.no_loop e we) on in
    let met = ends-met g f e we on in
    (λ p. serves.1 p.3, λ a. (is.no_loop e we, met.0, met.1, serves.0 a))

-- a stage before a step
pub asked-on : (g : Graph) (f new : Set) (asked : Asked) (s : PlainStep) → IsAskedBefore g f asked → IsStep g f s → new ≡ next_stage f s → IsAskedBefore g new asked
asked-on g f new asked s before step is = subst (λ (h : Set). IsAskedBefore g h asked) (sym is) (record { stage = before.stage; asks = before.asks; partners = λ u v p. step-partners g f s step u v (before.partners u v p) })

-- a single ear between partners on an earlier stage
pub known-ear : (g : Graph) → IsGraph g → (f : Set) (a : PlainEar) (last : ℕ) → last ≡ last_vertex g a.begin a.edges → IsStage g f → IsEar g f a.begin a.edges → ArePartnersOn g f a.begin last → IsStage g (with_edges f a.edges)
known-ear g is f a last at stage ear p = serving-one g is f stage a ear (alone-serves g f a last at p)

-- the ends as they are read
pub row-says : (g : Graph) (f : Set) (e a b : ℕ) → a ≡ first_end g e → b ≡ second_end g e → ArePartnersOn g f a b → ArePartnersOn g f (first_end g e) (second_end g e)
row-says g f e a b at_a at_b p = subst (λ x. ArePartnersOn g f x (second_end g e)) at_a (subst (λ y. ArePartnersOn g f a y) at_b p)

pub says-row : (g : Graph) (f : Set) (e a b : ℕ) → a ≡ first_end g e → b ≡ second_end g e → ArePartnersOn g f (first_end g e) (second_end g e) → ArePartnersOn g f a b
says-row g f e a b at_a at_b p = subst (λ x. ArePartnersOn g f x b) (sym at_a) (subst (λ y. ArePartnersOn g f (first_end g e) y) (sym at_b) p)

-- so a step of one ear
pub known-step : (g : Graph) → IsGraph g → (f : Set) (a : PlainEar) (second : Option Ear) → second ≡ None → (last : ℕ) → last ≡ last_vertex g a.begin a.edges → IsStage g f → IsStep g f (plain_step a second) → ArePartnersOn g f a.begin last → IsStage g (next_stage f (plain_step a second))
known-step g is f a second none last at stage step p =
    subst (λ (o : Option Ear). IsStage g (next_stage f (plain_step a o))) (sym none) (known-ear g is f a last at stage (subst (λ (o : Option Ear). IsStep g f (plain_step a o)) none step) p)

pub first-ear-fits : (n m : ℕ) (a : PlainEar) (second : Option Ear) → FitsStep n m (plain_step a second) → FitsEar n m a
first-ear-fits n m a None fits = fits
first-ear-fits n m a (Some b) fits = fits.0
