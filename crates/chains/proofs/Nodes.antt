-- Variable nodes and blocks of a table, from their words as they are read, and where they index the arrays.
-- Assumes nothing.
use mathlib.Core.Path.{◌≡◌, ◌∙◌, ap}
use mathlib.Core.Bool.{true, false}
use mathlib.Core.List.{List}
use Prim.Native.Nat.{ℕ}
use Rattle.lists.specs.Choice.{pick}
use Rattle.formula.specs.Node.{variable, is_block}
use Rattle.formula.specs.declared.NodeWords.{NodeWords}
use Rattle.formula.specs.Words.{words_at, node_of, node_at}
use Rattle.arrays.specs.Held.{is_member}
use Rattle.arrays.proofs.Members.{no_member}
use Rattle.arrays.proofs.Nodes.{node_read}

module _ (ws ls : List ℕ) (i : ℕ) (w : NodeWords) (r : w ≡ words_at ws i) where
  pub variable_read : w.kind ≡ 2 → node_at ws ls i ≡ variable w.a
  unfolding node_of pick
  variable_read e = rw (node_read ws ls i w r, e)

  pub variable_member : w.kind ≡ 2 → is_member (node_at ws ls i) ≡ true
  unfolding is_member
  variable_member e = rw (variable_read e)

  pub plain_member : (w.kind ≡ 2 → ⊥) → is_block (node_at ws ls i) ≡ false → is_member (node_at ws ls i) ≡ false
  plain_member p e = no_member ws ls i (λ k. p (ap (λ (v : NodeWords). v.kind) r ∙ k)) e
