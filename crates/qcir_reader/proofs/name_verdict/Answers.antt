-- `qcir_reader::name_verdict` meets its contract: 11, 13 and 12 are tested in this order.
-- Assumes nothing.
use mathlib.Core.Path.{◌∙◌}
use Rattle.qcir.specs.Refusals.{misplaced, not_used_once, unbound}
use Rattle.qcir_reader.proofs.Stages.{nothing_found, misplaced_first, misused_first, unbound_first, none_first}
use Rattle.qcir_reader.proofs.name_verdict.Goals as goal

pub returns-in-Some : goal.returns-in-Some
returns-in-Some c = λ f p g v. c.refusal.ensures ∙ misplaced_first f _ (cc)

pub returns-in-Some-gate : goal.returns-in-Some-gate
returns-in-Some-gate c =
    λ f p g v. let m = nothing_found (misplaced f) (cc) in
    c.refusal-in-Some-gate.ensures ∙ misused_first f _ m (cc)

pub returns-in-Some-variable : goal.returns-in-Some-variable
returns-in-Some-variable c =
    λ f p g v. let m = nothing_found (misplaced f) (cc) in
    let u = nothing_found (not_used_once f) (cc) in
    c.refusal-in-Some-variable.ensures ∙ unbound_first f _ m u (cc (v m u))

pub returns : goal.returns
returns c =
    λ f p g v. let m = nothing_found (misplaced f) (cc) in
    let u = nothing_found (not_used_once f) (cc) in
    c.accepted.ensures ∙ none_first f m u (nothing_found (unbound f) (cc (v m u)))
