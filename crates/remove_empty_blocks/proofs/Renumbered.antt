-- A node's words with its operands and its body renumbered, by its kind.
-- Assumes nothing.
use mathlib.Core.Path.{◌≡◌, ap}
use mathlib.Core.Bool.{true, false}
use Prim.Native.Nat.{ℕ}
use borrow.Author.Tests.{ne_eqb}
use Rattle.lists.specs.Choice.{pick, clash}
use Rattle.formula.specs.Node.{operator}
use Rattle.formula.specs.Words.{is_block_kind, words_of, block_words}
use Rattle.formula.specs.declared.NodeWords.{NodeWords}
use Rattle.empty_blocks.specs.Removal.{renumbered}

module _ (index : ℕ → ℕ) (w : NodeWords) where
  pub renumbered_operator : w.kind ≡ 4 → words_of (operator w.a (index w.b) (index w.c)) ≡ renumbered index w
  unfolding renumbered pick is_block_kind words_of
  renumbered_operator e = rw e

  pub renumbered_negation : w.kind ≡ 3 → record { kind = w.kind; a = index w.a; b = w.b; c = w.c } ≡ renumbered index w
  unfolding renumbered pick is_block_kind
  renumbered_negation e = rw e

  module _ (n : w.kind ≡ 4 → ⊥) where
    pub renumbered_block : is_block_kind w.kind ≡ true → block_words w.kind w.a w.b (index w.c) ≡ renumbered index w
    unfolding renumbered pick is_block_kind block_words
    renumbered_block k = rw (k, ne_eqb _ _ n, ne_eqb _ _ (λ e. clash k (ap is_block_kind e)))

    pub renumbered_leaf : is_block_kind w.kind ≡ false → (w.kind ≡ 3 → ⊥) → w ≡ renumbered index w
    unfolding renumbered pick
    renumbered_leaf k m = rw (k, ne_eqb _ _ n, ne_eqb _ _ m)
