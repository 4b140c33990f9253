-- `qdimacs_clauses::put_gate` meets its contract, by the kind of the node.
-- Assumes nothing.
use mathlib.Core.Path.{refl, sym, ◌∙◌, ap}
use mathlib.Core.Bool.{not}
use native.Mathlib.Omega.{arith}
use Rattle.formula.specs.declared.NodeWords.{NodeWords}
use Rattle.qdimacs_words.proofs.Loose.{loose_as}
use Rattle.qdimacs_rows.specs.Rows.{lines_text}
use Rattle.qdimacs_clauses.proofs.Nodes.{table_low, else_constant, left_low, right_low, only_low, no_clauses, constant_clauses, operator_clauses, negation_clauses, left_above, right_above, word_at, some_word, nothing_put}
use Rattle.qdimacs_clauses.proofs.put_gate.Goals as goal

pub returns-then-node-eq-VARIABLE : goal.returns-then-node-eq-VARIABLE
returns-then-node-eq-VARIABLE c =
    let ns = c.args.nodes.now in
    let ws = c.args.words.now in
    let h = c.requires.i_bound.0 in
    let e = c.node_at-node.ensures in
    let last = c.requires.i_bound.1 (ap (λ (v : NodeWords). v.kind) (sym e) ∙ c.if-node-eq-VARIABLE.true) in record {
      loose = λ held. nothing_put _ (no_clauses ns c.requires.accepted_within c.args.i h _ e held.variables c.if-node-eq-VARIABLE.true last);
      upper_bound = omega arith;
    }

pub bounds-words-left : goal.bounds-words-left
bounds-words-left c =
    let ns = c.args.nodes.now in
    let ws = c.args.words.now in
    let h = c.requires.i_bound.0 in
    let e = c.node_at-node.ensures in
    omega (arith, left_low ns c.requires.accepted_within c.args.i h _ e c.if-node-eq-OPERATOR.true, c.requires.words_held.wide, c.requires.accepted_within.nodes_limit)

pub bounds-words-right : goal.bounds-words-right
bounds-words-right c =
    let ns = c.args.nodes.now in
    let ws = c.args.words.now in
    let h = c.requires.i_bound.0 in
    let e = c.node_at-node.ensures in
    omega (arith, right_low ns c.requires.accepted_within c.args.i h _ e c.if-node-eq-OPERATOR.true, c.requires.words_held.wide, c.requires.accepted_within.nodes_limit)

pub put_operator-requires : goal.put_operator-requires
put_operator-requires c =
    let ns = c.args.nodes.now in
    let ws = c.args.words.now in
    let h = c.requires.i_bound.0 in
    let e = c.node_at-node.ensures in
    let k = c.if-node-eq-OPERATOR.true in (
      some_word ns ws c.requires.words_held c.args.i h,
      some_word ns ws c.requires.words_held _ (left_low ns c.requires.accepted_within c.args.i h _ e k),
      some_word ns ws c.requires.words_held _ (right_low ns c.requires.accepted_within c.args.i h _ e k),
      table_low ns c.requires.accepted_within c.args.i h _ e k,
      c.requires.i_bound.2,
    )

pub returns-then-node-eq-OPERATOR : goal.returns-then-node-eq-OPERATOR
returns-then-node-eq-OPERATOR c =
    let ns = c.args.nodes.now in
    let ws = c.args.words.now in
    let h = c.requires.i_bound.0 in
    let e = c.node_at-node.ensures in
    let k = c.if-node-eq-OPERATOR.true in record {
      loose = λ held. loose_as (ap lines_text (operator_clauses ns c.requires.accepted_within c.args.i h _ e held.variables k))
          (c.put_operator.ensures.by_index (held.variables c.args.i) _ _
          (word_at ns ws held c.args.i h)
          (word_at ns ws held _ (left_low ns c.requires.accepted_within c.args.i h _ e k))
          (word_at ns ws held _ (right_low ns c.requires.accepted_within c.args.i h _ e k))
          (left_above ns c.requires.accepted_within c.args.i h _ e ws held k)
          (right_above ns c.requires.accepted_within c.args.i h _ e ws held k));
      upper_bound = c.put_operator.ensures.upper_bound;
    }

pub bounds-words-operand : goal.bounds-words-operand
bounds-words-operand c =
    let ns = c.args.nodes.now in
    let ws = c.args.words.now in
    let h = c.requires.i_bound.0 in
    let e = c.node_at-node.ensures in
    omega (arith, only_low ns c.requires.accepted_within c.args.i h _ e c.if-node-eq-NEGATION.true, c.requires.words_held.wide, c.requires.accepted_within.nodes_limit)

pub put_one_operand-requires : goal.put_one_operand-requires
put_one_operand-requires c =
    let ns = c.args.nodes.now in
    let ws = c.args.words.now in
    let h = c.requires.i_bound.0 in
    let e = c.node_at-node.ensures in
    let k = c.if-node-eq-NEGATION.true in (
      some_word ns ws c.requires.words_held c.args.i h,
      some_word ns ws c.requires.words_held _ (only_low ns c.requires.accepted_within c.args.i h _ e k),
      c.requires.i_bound.2,
    )

pub returns-then-node-eq-NEGATION : goal.returns-then-node-eq-NEGATION
returns-then-node-eq-NEGATION c =
    let ns = c.args.nodes.now in
    let ws = c.args.words.now in
    let h = c.requires.i_bound.0 in
    let e = c.node_at-node.ensures in
    let k = c.if-node-eq-NEGATION.true in record {
      loose = λ held. loose_as (ap lines_text (negation_clauses ns c.requires.accepted_within c.args.i h _ e ws held k))
          (c.put_one_operand.ensures.by_index (held.variables c.args.i) _ not
          (word_at ns ws held c.args.i h)
          (word_at ns ws held _ (only_low ns c.requires.accepted_within c.args.i h _ e k))
          refl
          refl);
      upper_bound = omega arith;
    }

pub put_no_operand-requires : goal.put_no_operand-requires
put_no_operand-requires c =
    let ns = c.args.nodes.now in
    let ws = c.args.words.now in
    let h = c.requires.i_bound.0 in
    let e = c.node_at-node.ensures in (
      some_word ns ws c.requires.words_held c.args.i h,
      omega (arith, c.requires.i_bound.2),
    )

pub returns : goal.returns
returns c =
    let ns = c.args.nodes.now in
    let ws = c.args.words.now in
    let h = c.requires.i_bound.0 in
    let e = c.node_at-node.ensures in
    let k = else_constant ns c.requires.accepted_within c.args.i h _ e c.if-node-eq-VARIABLE.false c.if-node-eq-OPERATOR.false c.if-node-eq-NEGATION.false in record {
      loose = λ held. loose_as (ap lines_text (constant_clauses ns c.requires.accepted_within c.args.i h _ e held.variables k))
          (c.put_no_operand.ensures.by_index (held.variables c.args.i) (word_at ns ws held c.args.i h));
      upper_bound = omega arith;
    }
