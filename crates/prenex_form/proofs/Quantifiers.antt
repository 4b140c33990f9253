-- The quantifier of a kind, and that of a node by its kind.
-- Assumes nothing.
use mathlib.Core.Path.{◌≡◌, sym}
use mathlib.Core.List.{List}
use Prim.Native.Nat.{ℕ, ◌-◌}
use borrow.Author.Tests.{eq-eqb, ne_eqb}
use Rattle.lists.specs.Choice.{pick}
use Rattle.formula.specs.Node.{exists, for_all}
use Rattle.formula.specs.Words.{node_count, field, words_at, node_of, node_at, table_of}
use Rattle.formula.specs.declared.NodeWords.{NodeWords}
use Rattle.formula.specs.Form.{quantifier_of}
use Rattle.formula.proofs.Nodes.{Kind, kind_of_lem, kind_constant, kind_variable, kind_negation, kind_operator, kind_exists, kind_for_all, kind_none}
use Rattle.prenex_form.specs.Levels.{quantifier_at, level_quantifier}

pub exists_read : (kind : ℕ) → kind ≡ 5 → exists ≡ quantifier_of kind
unfolding quantifier_of pick
exists_read kind h = rw (eq-eqb kind 5 h)

pub for_all_read : (kind : ℕ) → (kind ≡ 5 → ⊥) → for_all ≡ quantifier_of kind
unfolding quantifier_of pick
for_all_read kind h = rw (ne_eqb kind 5 h)

quantifier_read_at : (ls : List ℕ) (w : NodeWords) → Kind w.kind → quantifier_at (node_of ls w) ≡ quantifier_of w.kind
unfolding node_of pick quantifier_at quantifier_of
quantifier_read_at ls w (kind_constant e) = rw e
quantifier_read_at ls w (kind_variable e) = rw e
quantifier_read_at ls w (kind_negation e) = rw e
quantifier_read_at ls w (kind_operator e) = rw e
quantifier_read_at ls w (kind_exists e) = rw e
quantifier_read_at ls w (kind_for_all e) = rw e
quantifier_read_at ls w (kind_none e1 e2 e3 e4 e5 e6) = rw (e1, e2, e3, e4, e5, e6)

-- the quantifier of a node is that of its kind
pub quantifier_is : (ws ls : List ℕ) (i : ℕ) → quantifier_at ((table_of ws ls).node i) ≡ quantifier_of (field ws i 0)
unfolding table_of node_at
quantifier_is ws ls i = quantifier_read_at ls (words_at ws i) (kind_of_lem (field ws i 0))

-- level 1 has the quantifier of the root's kind
pub root_quantifier : (ws ls : List ℕ) {w : NodeWords} → w ≡ words_at ws (node_count ws - 1)
    → quantifier_of w.kind ≡ level_quantifier (table_of ws ls) 0
unfolding level_quantifier table_of
root_quantifier ws ls e = rw e (sym (quantifier_is ws ls (node_count ws - 1)))
