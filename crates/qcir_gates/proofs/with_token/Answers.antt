-- `qcir_gates::with_token` meets its contract: the token defines a gate that is not used once, or nothing changes.
-- Assumes nothing.
use mathlib.Core.Bool.{not}
use mathlib.Core.List.{◌∷◌}
use mathlib.Core.Path.{sym, ◌∙◌, ap}
use native.Mathlib.Omega.{arith}
use lib.ListN.{get_or}
use borrow.Author.Tests.{eq-eqb, ne_eqb}
use Rattle.lists.specs.Choice.{pick_yes, pick_no, and_both, and_off_left, and_off_right}
use Rattle.qcir_tokens.specs.Held.{found_of, with_number}
use Rattle.qcir_tokens.specs.Tokens.{is_definition}
use Rattle.qcir_tokens.proofs.Lowest.{found_with}
use Rattle.qcir_gates.proofs.with_token.Goals as goal

pub returns-then-not-is_definition : goal.returns-then-not-is_definition
returns-then-not-is_definition c = λ xs e. e ∙ ap found_of (sym (pick_no _ _ _ (and_off_left _ _ (sym c.is_definition.ensures ∙ c.if-not-is_definition.true))))

pub returns-then-uses-number-eq1 : goal.returns-then-uses-number-eq1
returns-then-uses-number-eq1 c =
    λ xs e. let a = c.args in
    e ∙ ap found_of (sym (pick_no _ (a.number ∷ xs) xs (and_off_right (is_definition a.role) _ (ap not (eq-eqb (get_or a.uses.now a.number 0) 1 (omega arith))))))

pub returns : goal.returns
returns c =
    λ xs e. let a = c.args in
    c.with_number.ensures ∙ ap (λ l. with_number l a.number) e ∙ found_with a.number xs ∙ ap found_of (sym (pick_yes _ _ _ (and_both _ _ (sym c.is_definition.ensures ∙ c.if-not-is_definition.false) (ap not (ne_eqb (get_or a.uses.now a.number 0) 1 (λ z. omega arith))))))
