-- `table_check::node_fault` meets its contract: at each kind the answer is that of `node_fault`, and the names counted are the node's, once
-- its words are read as the table's fields.
-- Assumes nothing.
use mathlib.Core.Path.{refl, sym, ◌∙◌, ap}
use Prim.Native.Nat.{ℕ, ◌+◌}
use Rattle.lists.specs.Choice.{clash}
use Rattle.formula.specs.Words.{is_block_kind}
use Rattle.formula.specs.declared.NodeWords.{NodeWords}
use Rattle.table_check.proofs.Faults.{fault_words, fault_block, fault_no_kind, words_passed, binds_none, variable_words, constant_words}
use Rattle.acceptance.proofs.Accepted.{count_block}
use Rattle.tree_check.proofs.Named.{names_none, counted_room, counted_more, counted_still}
use native.Mathlib.Omega.{arith}
use Rattle.table_check.proofs.node_fault.Goals.{After-node_at-node}
use Rattle.table_check.proofs.node_fault.Goals as goal

-- a field of the node that was read is the table's
abbrev kind_of : NodeWords → ℕ
kind_of w = w.kind

pub returns-then-node-eq-VARIABLE : goal.returns-then-node-eq-VARIABLE
unfolding is_block_kind
returns-then-node-eq-VARIABLE c =
    let a = c.args in
    let e = c.node_at-node.ensures in
    let k = sym (ap kind_of e) ∙ c.if-node-eq-VARIABLE.true in
    let r = rw (c.is_number.ensures, e) at c.leaf_fault.ensures ∙ sym (variable_words a.i _ k) in
    let f = r ∙ sym (fault_words a.words.now a.list.now a.i (rw k refl)) in
    let bound = sym (binds_none a.words.now a.i a.chains.now.entries (rw k refl)) in record {
      value = f;
      entries_after = λ p. bound;
      ready_2 = λ p. c.requires.ready;
      counted_2 = λ p. counted_still _ _ _ (names_none _ (rw k refl) (rw k refl) (rw k refl)) c.requires.counted;
    }

pub operator_fault-requires : goal.operator_fault-requires
operator_fault-requires c =
    record {
      kind_value = c.if-node-eq-OPERATOR.true;
      room = counted_room _ _ _ (omega (arith, c.requires.i_bound)) c.requires.counted;
    }

pub returns-then-node-eq-OPERATOR : goal.returns-then-node-eq-OPERATOR
unfolding is_block_kind
returns-then-node-eq-OPERATOR c =
    let a = c.args in
    let e = c.node_at-node.ensures in
    let k = sym (ap kind_of e) ∙ c.if-node-eq-OPERATOR.true in
    let r = rw e at c.operator_fault.ensures in
    let f = r.value ∙ sym (fault_words a.words.now a.list.now a.i (rw k refl)) in
    let bound = sym (binds_none a.words.now a.i a.chains.now.entries (rw k refl)) in record {
      value = f;
      entries_after = λ p. bound;
      ready_2 = λ p. c.requires.ready;
      counted_2 = λ p. counted_more _ _ _ _ c.operator_fault.auto.named c.requires.counted (r.x_after (words_passed _ _ _ r.value p));
    }

pub block_node_fault-requires : goal.block_node_fault-requires
block_node_fault-requires c =
    let room = counted_room _ _ _ (omega (arith, c.requires.i_bound)) c.requires.counted in record {
      kind_value = sym c.is_block_kind.ensures ∙ c.if-is_block_kind.true;
      entries_le_limit = c.requires.entries_value.1;
      ready = c.requires.ready;
      room = room;
    }

pub returns-then-is_block_kind : goal.returns-then-is_block_kind
returns-then-is_block_kind c =
    let a = c.args in
    let e = c.node_at-node.ensures in
    let k = rw e at (sym c.is_block_kind.ensures ∙ c.if-is_block_kind.true) in
    let f = rw (e, c.requires.entries_value.0) at c.block_node_fault.ensures.value in
    let named = rw e at c.block_node_fault.ensures.x_after in
    let bound = ap (λ m. a.chains.now.entries + m) (ap (λ (w : NodeWords). w.b) e ∙ sym (count_block _ _ k)) in
    let g = f ∙ sym (fault_block a.words.now a.list.now a.i k) in record {
      value = g;
      entries_after = λ p. c.block_node_fault.ensures.entries_after p ∙ bound;
      ready_2 = c.block_node_fault.ensures.ready_2;
      counted_2 = λ p. counted_more _ _ _ _ c.block_node_fault.auto.named c.requires.counted (named p);
    }

pub negation_fault-requires : goal.negation_fault-requires
negation_fault-requires c =
    record {
      kind_value = c.if-node-eq-NEGATION.true;
      room = counted_room _ _ _ (omega (arith, c.requires.i_bound)) c.requires.counted;
    }

pub returns-then-node-eq-NEGATION : goal.returns-then-node-eq-NEGATION
unfolding is_block_kind
returns-then-node-eq-NEGATION c =
    let a = c.args in
    let e = c.node_at-node.ensures in
    let k = sym (ap kind_of e) ∙ c.if-node-eq-NEGATION.true in
    let r = rw e at c.negation_fault.ensures in
    let f = r.value ∙ sym (fault_words a.words.now a.list.now a.i (rw k refl)) in
    let bound = sym (binds_none a.words.now a.i a.chains.now.entries (rw k refl)) in record {
      value = f;
      entries_after = λ p. bound;
      ready_2 = λ p. c.requires.ready;
      counted_2 = λ p. counted_more _ _ _ _ c.negation_fault.auto.named c.requires.counted (r.x_after (words_passed _ _ _ r.value p));
    }

pub returns-then-node-eq-CONSTANT : goal.returns-then-node-eq-CONSTANT
unfolding is_block_kind
returns-then-node-eq-CONSTANT c =
    let a = c.args in
    let e = c.node_at-node.ensures in
    let k = sym (ap kind_of e) ∙ c.if-node-eq-CONSTANT.true in
    let r = rw e at c.leaf_fault-then-node-eq-CONSTANT.ensures ∙ sym (constant_words a.i _ k) in
    let f = r ∙ sym (fault_words a.words.now a.list.now a.i (rw k refl)) in
    let bound = sym (binds_none a.words.now a.i a.chains.now.entries (rw k refl)) in record {
      value = f;
      entries_after = λ p. bound;
      ready_2 = λ p. c.requires.ready;
      counted_2 = λ p. counted_still _ _ _ (names_none _ (rw k refl) (rw k refl) (rw k refl)) c.requires.counted;
    }

pub returns : goal.returns
returns c =
    let e = c.node_at-node.ensures in
    let d1 = rw e at c.if-node-eq-CONSTANT.false in
    let d2 = rw e at c.if-node-eq-VARIABLE.false in
    let d3 = rw e at c.if-node-eq-NEGATION.false in
    let d4 = rw e at c.if-node-eq-OPERATOR.false in
    let k = rw e at (sym c.is_block_kind.ensures ∙ c.if-is_block_kind.false) in record {
      value = sym (fault_no_kind _ _ c.args.i d1 d2 d3 d4 k);
      entries_after = λ p. clash p refl;
      ready_2 = λ p. clash p refl;
      counted_2 = λ p. clash p refl;
    }
