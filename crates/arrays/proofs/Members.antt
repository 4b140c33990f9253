-- Laws of `is_member`: the nodes that stand in chains by their enclosing block.
-- Assumes nothing.
use mathlib.Core.Path.{◌≡◌, refl}
use mathlib.Core.Bool.{true, false}
use mathlib.Core.List.{List}
use Prim.Native.Nat.{ℕ}
use Rattle.lists.specs.Choice.{clash}
use Rattle.formula.specs.Node.{Node, constant, variable, negation, operator, block, is_block}
use Rattle.formula.specs.Words.{field, node_at}
use Rattle.formula.proofs.Nodes.{Kind, kind_of_lem, kind_constant, kind_variable, kind_negation, kind_operator, kind_exists, kind_for_all, kind_none, node_constant, node_negation, node_operator, node_exists, node_for_all, node_none}
use Rattle.arrays.specs.Held.{is_member}

pub block_member : (nd : Node) → is_block nd ≡ true → is_member nd ≡ true
unfolding is_block is_member
block_member (constant b) h = h
block_member (variable x) h = refl
block_member (negation a) h = h
block_member (operator f a b) h = h
block_member (block q xs a) h = refl

-- what is neither a variable node nor a block is no member
pub no_member : (ws ls : List ℕ) (i : ℕ) → (field ws i 0 ≡ 2 → ⊥) → is_block (node_at ws ls i) ≡ false → is_member (node_at ws ls i) ≡ false
unfolding is_block is_member
no_member ws ls i n h = go (kind_of_lem (field ws i 0))
  where
    go : Kind (field ws i 0) → is_member (node_at ws ls i) ≡ false
    go (kind_constant e) = rw (node_constant ws ls i e)
    go (kind_variable e) = absurd (n e)
    go (kind_negation e) = rw (node_negation ws ls i e)
    go (kind_operator e) = rw (node_operator ws ls i e)
    go (kind_exists e) = clash (rw (node_exists ws ls i e)) h
    go (kind_for_all e) = clash (rw (node_for_all ws ls i e)) h
    go (kind_none e1 e2 e3 e4 e5 e6) = rw (node_none ws ls i e1 e2 e3 e4 e5 e6)
