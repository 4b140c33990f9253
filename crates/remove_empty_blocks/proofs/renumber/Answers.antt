-- `remove_empty_blocks::renumber` meets its contract, by the node's kind.
-- Assumes nothing.
use mathlib.Core.Path.{sym, ◌∙◌}
use borrow.Author.Rules.{rules}
use Rattle.empty_blocks.proofs.Words.{operand_below, left_below_lem, right_below, body_below}
use Rattle.remove_empty_blocks.proofs.Renumbered.{renumbered_operator, renumbered_negation, renumbered_block, renumbered_leaf}
use Rattle.remove_empty_blocks.proofs.renumber.Goals as goal

pub bounds-indices-node : goal.bounds-indices-node
bounds-indices-node c = left_below_lem _ _ c.requires c.if-node-eq-OPERATOR.true

pub overflow_cast-left-then-node-eq-OPERATOR : goal.overflow_cast-left-then-node-eq-OPERATOR
overflow_cast-left-then-node-eq-OPERATOR c = search (rules, c.type_inv.indices c.args.node.b)

pub bounds-indices-node-then-node-eq-OPERATOR : goal.bounds-indices-node-then-node-eq-OPERATOR
bounds-indices-node-then-node-eq-OPERATOR c = right_below _ _ c.requires c.if-node-eq-OPERATOR.true

pub overflow_cast-right-then-node-eq-OPERATOR : goal.overflow_cast-right-then-node-eq-OPERATOR
overflow_cast-right-then-node-eq-OPERATOR c = search (rules, c.type_inv.indices c.args.node.c)

pub returns-then-node-eq-OPERATOR : goal.returns-then-node-eq-OPERATOR
returns-then-node-eq-OPERATOR c = c.operator_node.ensures ∙ renumbered_operator _ _ c.if-node-eq-OPERATOR.true

pub bounds-indices-node-then-is_block_kind : goal.bounds-indices-node-then-is_block_kind
bounds-indices-node-then-is_block_kind c = body_below _ _ c.requires (sym c.is_block_kind.ensures ∙ c.if-is_block_kind.true)

pub overflow_cast-body-then-is_block_kind : goal.overflow_cast-body-then-is_block_kind
overflow_cast-body-then-is_block_kind c = search (rules, c.type_inv.indices c.args.node.c)

pub returns-then-is_block_kind : goal.returns-then-is_block_kind
returns-then-is_block_kind c = c.block_node.ensures ∙ renumbered_block _ _ c.if-node-eq-OPERATOR.false (sym c.is_block_kind.ensures ∙ c.if-is_block_kind.true)

pub bounds-indices-node-then-node-eq-NEGATION : goal.bounds-indices-node-then-node-eq-NEGATION
bounds-indices-node-then-node-eq-NEGATION c = operand_below _ _ c.requires c.if-node-eq-NEGATION.true

pub overflow_cast-operand-then-node-eq-NEGATION : goal.overflow_cast-operand-then-node-eq-NEGATION
overflow_cast-operand-then-node-eq-NEGATION c = search (rules, c.type_inv.indices c.args.node.a)

pub returns-then-node-eq-NEGATION : goal.returns-then-node-eq-NEGATION
returns-then-node-eq-NEGATION c = renumbered_negation _ _ c.if-node-eq-NEGATION.true

pub returns : goal.returns
returns c = renumbered_leaf _ _ c.if-node-eq-OPERATOR.false (sym c.is_block_kind.ensures ∙ c.if-is_block_kind.false) c.if-node-eq-NEGATION.false
