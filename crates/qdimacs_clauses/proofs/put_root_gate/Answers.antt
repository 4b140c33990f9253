-- `qdimacs_clauses::put_root_gate` meets its contract: a variable root has a gate too.
-- Assumes nothing.
use mathlib.Core.Path.{refl, ◌∙◌, ap}
use Prim.Native.Nat.{◌<◌}
use native.Mathlib.Omega.{arith}
use Rattle.formula.specs.declared.NodeWords.{NodeWords}
use Rattle.formula.specs.Words.{node_count}
use Rattle.qdimacs_words.proofs.Loose.{loose_as}
use Rattle.qdimacs_rows.specs.Rows.{lines_text}
use Rattle.qdimacs_clauses.proofs.Nodes.{variable_low, root_clauses, word_at, some_word}
use Rattle.qdimacs_clauses.proofs.put_root_gate.Goals as goal

pub numeral_word-word-requires : goal.numeral_word-word-requires
numeral_word-word-requires c =
    let ns = c.args.nodes.now in
    let ws = c.args.words.now in
    let h : c.args.root < node_count ns = omega (arith, c.requires.root_value) in
    let e = c.node_at-node.ensures in
    variable_low ns c.requires.accepted_within c.args.root h _ e c.if-node-eq-VARIABLE.true

pub put_one_operand-requires : goal.put_one_operand-requires
put_one_operand-requires c =
    let ns = c.args.nodes.now in
    let ws = c.args.words.now in
    let h : c.args.root < node_count ns = omega (arith, c.requires.root_value) in
    let e = c.node_at-node.ensures in
    let low = variable_low ns c.requires.accepted_within c.args.root h _ e c.if-node-eq-VARIABLE.true in (
      some_word ns ws c.requires.words_held c.args.root h,
      (_, record { word_of = c.numeral_word-word.ensures; writable = low }),
      omega arith,
    )

pub returns-then-node-eq-VARIABLE : goal.returns-then-node-eq-VARIABLE
returns-then-node-eq-VARIABLE c =
    let ns = c.args.nodes.now in
    let ws = c.args.words.now in
    let h : c.args.root < node_count ns = omega (arith, c.requires.root_value) in
    let e = c.node_at-node.ensures in
    let k = c.if-node-eq-VARIABLE.true in
    let low = variable_low ns c.requires.accepted_within c.args.root h _ e k in record {
      loose = λ held. loose_as (ap lines_text (root_clauses ns c.requires.accepted_within c.args.root h _ e ws held k c.requires.root_value))
          (c.put_one_operand.ensures.by_index (held.variables c.args.root) _ (λ a. a)
          (word_at ns ws held c.args.root h)
          (record { word_of = c.numeral_word-word.ensures; writable = low })
          refl
          refl);
      upper_bound = omega arith;
    }

pub put_gate-requires : goal.put_gate-requires
put_gate-requires c =
    let ns = c.args.nodes.now in
    let ws = c.args.words.now in
    let h : c.args.root < node_count ns = omega (arith, c.requires.root_value) in
    let e = c.node_at-node.ensures in record {
      accepted_within = c.requires.accepted_within;
      words_held = c.requires.words_held;
      i_bound = (h, λ k. absurd (c.if-node-eq-VARIABLE.false (ap (λ (v : NodeWords). v.kind) e ∙ k)), omega arith);
    }
