-- `binders::step` meets its contract: it leaves a block, passes a variable node, or enters a block, and counts the steps.
-- Assumes nothing.
use mathlib.Core.Path.{◌≡◌, refl, sym, ◌∙◌, ap}
use mathlib.Core.Bool.{true}
use Prim.Native.Nat.{ℕ, suc, ◌*◌, ◌-◌, ◌≤◌}
use native.Mathlib.Omega.{arith}
use lib.ListN.{get_or}
use Rattle.formula.specs.Node.{is_block}
use Rattle.formula.specs.Words.{field, table_of}
use Rattle.formula.specs.declared.NodeWords.{NodeWords}
use Rattle.acceptance.specs.Limits.{limit}
use Rattle.binders.proofs.Tables.{kind_block}
use Rattle.binders.proofs.Search.{variable_head, head_binds}
use Rattle.binders.proofs.Walked.{block_left, Indexed, indexed, steps_few, count_few, leaves, link_lt, link-is_member, link_open, passes, enters}
use Rattle.binders.proofs.step.Goals.{Else-node-eq-VARIABLE, Else-place-eq0, Start, Then-node-eq-VARIABLE, Then-place-eq0}
use Rattle.binders.proofs.step.Goals as goal

-- the steps taken before
few : (c : Start) → c.args.place.steps ≤ 4 * limit
few c = omega (arith, c.requires.place_value, steps_few c.args.scopes.now.held)

-- the block that it leaves
left : (c : Then-place-eq0) → Indexed c.args.scopes.now.words.now c.args.scopes.now.parents.now c.args.scopes.now.firsts.now c.args.scopes.now.nexts.now c.args.scopes.now.starts.now c.args.place.scope
left c =
    indexed c.args.scopes.now.held _ (block_left c.requires.walking c.requires.unfinished c.if-place-eq0.true)

-- the node that it comes by
at_node : (link : ℕ) → (link ≡ 0 → ⊥) → link ≡ suc (link - 1)
at_node link n = omega arith

come-by : (c : Else-place-eq0) → Indexed c.args.scopes.now.words.now c.args.scopes.now.parents.now c.args.scopes.now.firsts.now c.args.scopes.now.nexts.now c.args.scopes.now.starts.now (c.args.place.link - 1)
come-by c =
    indexed c.args.scopes.now.held _ (link_lt c.requires.walking (at_node c.args.place.link c.if-place-eq0.false))

-- it is a variable node
variable_here : (c : Then-node-eq-VARIABLE) → field c.args.scopes.now.words.now (c.args.place.link - 1) 0 ≡ 2
variable_here c = sym (ap (λ (w : NodeWords). w.kind) c.node_at-node.ensures) ∙ c.if-node-eq-VARIABLE.true

-- it is a block
block_here : (c : Else-node-eq-VARIABLE) → is_block ((table_of c.args.scopes.now.words.now c.args.scopes.now.list.now).node (c.args.place.link - 1)) ≡ true
unfolding table_of
block_here c =
    kind_block _ _ _ (λ k. c.if-node-eq-VARIABLE.false (ap (λ (w : NodeWords). w.kind) c.node_at-node.ensures ∙ k)) (link-is_member c.requires.walking (at_node c.args.place.link c.if-place-eq0.false))

pub bounds-scopes-block : goal.bounds-scopes-block
bounds-scopes-block c = omega (arith, left (goal.at.bounds-scopes-block c).Then-place-eq0)

pub leave-taken-requires : goal.leave-taken-requires
unfolding table_of
leave-taken-requires c =
    let k = left (goal.at.leave-taken-requires c).Then-place-eq0 in
    let b = c.requires.walking.scope_block k.below in record {
      i_bound = (k.below, b);
      fact = c.requires.walking.opened;
    }

pub bounds-scopes-block-then-place-eq0 : goal.bounds-scopes-block-then-place-eq0
bounds-scopes-block-then-place-eq0 c = omega (arith, left (goal.at.bounds-scopes-block-then-place-eq0 c).Then-place-eq0)

pub overflow_add-result : goal.overflow_add-result
overflow_add-result c = omega (arith, few (goal.at.overflow_add-result c).Start)

pub overflow_add-result-then-place-eq0 : goal.overflow_add-result-then-place-eq0
overflow_add-result-then-place-eq0 c = omega (arith, few (goal.at.overflow_add-result-then-place-eq0 c).Start, c.leave-taken.ensures.value, count_few c.args.scopes.now.held _ (left (goal.at.overflow_add-result-then-place-eq0 c).Then-place-eq0).below)

pub returns-then-place-eq0 : goal.returns-then-place-eq0
returns-then-place-eq0 c = let l = c.leave-taken.ensures in let w = leaves c.args.scopes.now.held c.requires.walking _ _ c.if-place-eq0.true (left (goal.at.returns-then-place-eq0 c).Then-place-eq0).below refl refl refl l.value l.fact_2 in record { walking_2 = w.0; result_value = w.1.0; steps_lt_steps = w.1.1 }

pub node_at-node-requires : goal.node_at-node-requires
node_at-node-requires c = (come-by (goal.at.node_at-node-requires c).Else-place-eq0).in_words

pub bounds-heads-node : goal.bounds-heads-node
bounds-heads-node c =
    let h = variable_head _ _ _ _ _ c.args.scopes.now.held.accepts (come-by (goal.at.bounds-heads-node c).Else-place-eq0).below (variable_here (goal.at.bounds-heads-node c).Then-node-eq-VARIABLE) (link_open c.requires.walking (at_node c.args.place.link c.if-place-eq0.false)) in
    omega (arith, ap (λ (w : NodeWords). w.a) c.node_at-node.ensures)

pub bounds-bindings-i : goal.bounds-bindings-i
bounds-bindings-i c = omega (arith, come-by (goal.at.bounds-bindings-i c).Else-place-eq0, c.requires.walking.bindings_length, c.args.scopes.now.held)

pub bounds-scopes-i : goal.bounds-scopes-i
bounds-scopes-i c = omega (arith, come-by (goal.at.bounds-scopes-i c).Else-place-eq0)

pub overflow_add-result-then-node-eq-VARIABLE : goal.overflow_add-result-then-node-eq-VARIABLE
overflow_add-result-then-node-eq-VARIABLE c = omega (arith, few (goal.at.overflow_add-result-then-node-eq-VARIABLE c).Start)

pub returns-then-node-eq-VARIABLE : goal.returns-then-node-eq-VARIABLE
returns-then-node-eq-VARIABLE c =
    let o = link_open c.requires.walking (at_node c.args.place.link c.if-place-eq0.false) in let w = passes c.args.scopes.now.held c.requires.walking _ (at_node c.args.place.link c.if-place-eq0.false) _ (variable_here (goal.at.returns-then-node-eq-VARIABLE c).Then-node-eq-VARIABLE)
    (λ x v.
    ap (λ n. get_or c.args.heads.now n 0) (ap (λ (w : NodeWords). w.a) c.node_at-node.ensures)
    ∙ head_binds _ _ _ _ _ c.args.scopes.now.held.accepts (come-by (goal.at.returns-then-node-eq-VARIABLE c).Else-place-eq0).below (variable_here (goal.at.returns-then-node-eq-VARIABLE c).Then-node-eq-VARIABLE) o x v)
    refl refl refl in record { walking_2 = w.0; result_value = w.1.0; steps_lt_steps = w.1.1 }

pub bounds-scopes-i-2 : goal.bounds-scopes-i-2
bounds-scopes-i-2 c = omega (arith, come-by (goal.at.bounds-scopes-i-2 c).Else-place-eq0)

pub enter-put-requires : goal.enter-put-requires
unfolding table_of
enter-put-requires c =
    let k = (come-by (goal.at.enter-put-requires c).Else-place-eq0).below in
    let b = block_here (goal.at.enter-put-requires c).Else-node-eq-VARIABLE in record {
      i_bound = (k, b);
      fact = link_open c.requires.walking (at_node c.args.place.link c.if-place-eq0.false);
    }

pub overflow_add-result-2 : goal.overflow_add-result-2
overflow_add-result-2 c = omega (arith, few (goal.at.overflow_add-result-2 c).Start)

pub overflow_add-result-3 : goal.overflow_add-result-3
overflow_add-result-3 c = omega (arith, few (goal.at.overflow_add-result-3 c).Start, c.enter-put.ensures.value, count_few c.args.scopes.now.held _ (come-by (goal.at.overflow_add-result-3 c).Else-place-eq0).below)

pub returns : goal.returns
returns c = let p = c.enter-put.ensures in let w = enters c.args.scopes.now.held c.requires.walking _ (at_node c.args.place.link c.if-place-eq0.false) _ (block_here (goal.at.returns c).Else-node-eq-VARIABLE) refl refl refl p.value p.fact_2 in record { walking_2 = w.0; result_value = w.1.0; steps_lt_steps = w.1.1 }
