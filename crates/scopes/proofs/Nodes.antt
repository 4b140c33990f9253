-- The operands of a table's nodes, from their words as they are read.
-- Assumes nothing.
use mathlib.Core.Path.{◌≡◌, sym, ◌∙◌, ap}
use mathlib.Core.Bool.{true, false}
use mathlib.Core.List.{List, [], ◌∷◌}
use Prim.Native.Nat.{ℕ, ◌<◌}
use native.Mathlib.Omega.{arith}
use Rattle.lists.specs.Choice.{pick, clash}
use Rattle.lists.specs.Members.{mem}
use Rattle.formula.specs.Node.{operands, is_block}
use Rattle.formula.specs.declared.NodeWords.{NodeWords}
use Rattle.formula.specs.Words.{node_count, is_block_kind, words_at, node_of, node_at, table_of}
use Rattle.formula.proofs.Nodes.{Kind, kind_of_lem, kind_constant, kind_variable, kind_negation, kind_operator, kind_exists, kind_for_all, kind_none, node_block}
use Rattle.refusals.specs.Verdict.{accepted}
use Rattle.acceptance.specs.Limits.{limit}
use Rattle.acceptance.specs.Verdict.{verdict}
use Rattle.arrays.proofs.Nodes.{node_read, block_read, accepted_tree, nodes_few}

none_by : (ls : List ℕ) (w : NodeWords) → Kind w.kind → (w.kind ≡ 3 → ⊥) → (w.kind ≡ 4 → ⊥) → is_block (node_of ls w) ≡ false
    → operands (node_of ls w) ≡ []
unfolding node_of pick is_block operands
none_by ls w (kind_constant e) n m h = rw e
none_by ls w (kind_variable e) n m h = rw e
none_by ls w (kind_negation e) n m h = absurd (n e)
none_by ls w (kind_operator e) n m h = absurd (m e)
none_by ls w (kind_exists e) n m h = clash (rw e) h
none_by ls w (kind_for_all e) n m h = clash (rw e) h
none_by ls w (kind_none e1 e2 e3 e4 e5 e6) n m h = rw (e1, e2, e3, e4, e5, e6)

module _ (ws ls : List ℕ) (i : ℕ) (w : NodeWords) (r : w ≡ words_at ws i) where
  -- a kind that is no block's
  pub plain_read : (k : ℕ) → w.kind ≡ k → is_block_kind k ≡ false → is_block (node_at ws ls i) ≡ false
  plain_read k e f = sym (block_read ws ls i w r) ∙ ap is_block_kind e ∙ f

  pub negation_read : w.kind ≡ 3 → operands (node_at ws ls i) ≡ w.a ∷ []
  unfolding node_of pick operands
  negation_read e = rw (node_read ws ls i w r, e)

  pub operator_read : w.kind ≡ 4 → operands (node_at ws ls i) ≡ w.b ∷ w.c ∷ []
  unfolding node_of pick operands
  operator_read e = rw (node_read ws ls i w r, e)

  pub body_read : is_block (node_at ws ls i) ≡ true → operands (node_at ws ls i) ≡ w.c ∷ []
  unfolding operands
  body_read h = ap operands (node_block ws ls i h) ∙ ap (λ (v : NodeWords). v.c ∷ []) (sym r)

  pub none_read : (w.kind ≡ 3 → ⊥) → (w.kind ≡ 4 → ⊥) → is_block (node_at ws ls i) ≡ false → operands (node_at ws ls i) ≡ []
  none_read p q h = ap operands (node_read ws ls i w r) ∙ none_by ls w (kind_of_lem w.kind) p q (ap is_block (sym (node_read ws ls i w r)) ∙ h)

module _ (ws ls : List ℕ) (ok : verdict ws ls ≡ accepted) where
  pub nodes_some : 0 < node_count ws
  unfolding table_of
  nodes_some = (accepted_tree ws ls ok).nonempty

  -- operands index the arrays
  pub operand_lt : (i a : ℕ) (xs : List ℕ) → i < node_count ws → operands (node_at ws ls i) ≡ xs → mem a xs ≡ true → a < limit
  unfolding table_of
  operand_lt i a xs h e m =
      let l : a < i = (accepted_tree ws ls ok).lower i a h (rw e m) in omega (arith, nodes_few ws ls ok)
