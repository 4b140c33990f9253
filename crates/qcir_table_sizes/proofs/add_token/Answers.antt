-- `qcir_table_sizes::add_token` meets its contract: by the token's role.
-- Assumes nothing.
use mathlib.Core.Path.{sym, ◌∙◌}
use Rattle.lists.specs.Choice.{pick_yes, pick_no}
use Rattle.qcir_table_sizes.specs.Pass.{gate_step, line_begun, variable_added, constant_added}
use Rattle.qcir_table_sizes.proofs.add_token.Goals as goal

pub returns-then-is_definition : goal.returns-then-is_definition
unfolding gate_step line_begun
returns-then-is_definition c = sym (pick_yes _ _ _ (sym c.is_definition.ensures ∙ c.if-is_definition.true))

pub returns-then-is_bound : goal.returns-then-is_bound
unfolding gate_step variable_added
returns-then-is_bound c = sym (pick_no _ _ _ (sym c.is_definition.ensures ∙ c.if-is_definition.false) ∙ pick_yes _ _ _ (sym c.is_bound.ensures ∙ c.if-is_bound.true))

pub returns-then-is_input : goal.returns-then-is_input
unfolding gate_step
returns-then-is_input c = c.add_input.ensures ∙ sym (pick_no _ _ _ (sym c.is_definition.ensures ∙ c.if-is_definition.false) ∙ pick_no _ _ _ (sym c.is_bound.ensures ∙ c.if-is_bound.false) ∙ pick_yes _ _ _ (sym c.is_input.ensures ∙ c.if-is_input.true))

pub returns : goal.returns
unfolding gate_step constant_added
returns c = sym (pick_no _ _ _ (sym c.is_definition.ensures ∙ c.if-is_definition.false) ∙ pick_no _ _ _ (sym c.is_bound.ensures ∙ c.if-is_bound.false) ∙ pick_no _ _ _ (sym c.is_input.ensures ∙ c.if-is_input.false))
