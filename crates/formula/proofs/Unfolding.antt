-- The value of a node from those of its operands: where operands are lower than their users, the bound in `value` and
-- `free_at` does not matter.
-- Assumes nothing.
use mathlib.Core.Path.{◌≡◌, refl, ◌∙◌, ap, ap₂}
use mathlib.Core.Bool.{Bool, true, not, ◌&&◌, ◌||◌}
use mathlib.Core.List.{List, [], ◌∷◌}
use Prim.Native.Nat.{ℕ, zero, suc, ◌<◌}
use native.Mathlib.Omega.{arith}
use native.Mathlib.Nat.{not-suc-le-zero}
use Rattle.lists.specs.Members.{mem}
use Rattle.lists.proofs.Members.{mem_head, mem_tail}
use Rattle.formula.specs.Node.{Quantifier, Node, constant, variable, negation, operator, block, Table, operands}
use Rattle.formula.specs.Valuation.{Valuation, quant}
use Rattle.formula.specs.Truth.{operator_value, node_value, value, node_free, free_at}
use Rattle.formula.proofs.Quantify.{quant_cong}

-- The first m nodes have operands lower than themselves.
abbrev pub Lower : (ℕ → Node) → ℕ → Type 0
Lower node m = (i a : ℕ) → i < m → mem a (operands (node i)) ≡ true → a < i

-- Only the values at a node's operands matter.
pub node_cong : (nd : Node) (f g : ℕ → Valuation → Bool)
    → ((a : ℕ) → mem a (operands nd) ≡ true → (v : Valuation) → f a v ≡ g a v)
    → (v : Valuation) → node_value f nd v ≡ node_value g nd v
unfolding node_value operands
node_cong (constant b) f g same v = refl
node_cong (variable x) f g same v = refl
node_cong (negation a) f g same v = ap not (same a (mem_head a []) v)
node_cong (operator o a b) f g same v =
    ap₂ (operator_value o) (same a (mem_head a (b ∷ [])) v) (same b (mem_tail b a (b ∷ []) (mem_head b [])) v)
node_cong (block q xs a) f g same v = quant_cong q xs (f a) (g a) v (same a (mem_head a []))

pub node_free_cong : (x : ℕ) (nd : Node) (f g : ℕ → Bool)
    → ((a : ℕ) → mem a (operands nd) ≡ true → f a ≡ g a) → node_free f x nd ≡ node_free g x nd
unfolding node_free operands
node_free_cong x (constant b) f g same = refl
node_free_cong x (variable y) f g same = refl
node_free_cong x (negation a) f g same = same a (mem_head a [])
node_free_cong x (operator o a b) f g same =
    ap₂ ◌||◌ (same a (mem_head a (b ∷ []))) (same b (mem_tail b a (b ∷ []) (mem_head b [])))
node_free_cong x (block q xs a) f g same = ap (◌&&◌ (not (mem x xs))) (same a (mem_head a []))

-- Tables that agree on the nodes below m.
module _ (t s : Table) (m : ℕ) (agree : (i : ℕ) → i < m → t.node i ≡ s.node i) (lower : Lower t.node m) where
  pub value_tables : (f g i : ℕ) → i < m → i < f → i < g → (v : Valuation) → value f t i v ≡ value g s i v
  unfolding value
  value_tables zero g i h k l v = absurd (not-suc-le-zero k)
  value_tables (suc f) zero i h k l v = absurd (not-suc-le-zero l)
  value_tables (suc f) (suc g) i h k l v =
      node_cong (t.node i) (value f t) (value g s)
      (λ a n. let j : a < i = lower i a h n in value_tables f g a (omega arith) (omega arith) (omega arith)) v
      ∙ ap (λ nd. node_value (value g s) nd v) (agree i h)

  pub free_at_tables : (x f g i : ℕ) → i < m → i < f → i < g → free_at f t x i ≡ free_at g s x i
  unfolding free_at
  free_at_tables x zero g i h k l = absurd (not-suc-le-zero k)
  free_at_tables x (suc f) zero i h k l = absurd (not-suc-le-zero l)
  free_at_tables x (suc f) (suc g) i h k l =
      node_free_cong x (t.node i) (free_at f t x) (free_at g s x)
      (λ a n. let j : a < i = lower i a h n in free_at_tables x f g a (omega arith) (omega arith) (omega arith))
      ∙ ap (node_free (free_at g s x) x) (agree i h)

module _ (t : Table) (lower : Lower t.node t.size) where
  pub value_fuel : (f g i : ℕ) → i < f → i < g → i < t.size → (v : Valuation) → value f t i v ≡ value g t i v
  value_fuel f g i k l h v = value_tables t t t.size (λ j n. refl) lower f g i h k l v

  pub free_at_fuel : (x f g i : ℕ) → i < f → i < g → i < t.size → free_at f t x i ≡ free_at g t x i
  free_at_fuel x f g i k l h = free_at_tables t t t.size (λ j n. refl) lower x f g i h k l

  pub value_node : (i : ℕ) → i < t.size → (v : Valuation) → value t.size t i v ≡ node_value (value t.size t) (t.node i) v
  unfolding value
  value_node i h v = value_fuel t.size (suc t.size) i h (omega arith) h v

  pub free_at_node : (x i : ℕ) → i < t.size → free_at t.size t x i ≡ node_free (free_at t.size t x) x (t.node i)
  unfolding free_at
  free_at_node x i h = free_at_fuel x t.size (suc t.size) i h (omega arith) h

  -- The value at each kind of node.
  module _ (i : ℕ) (h : i < t.size) (v : Valuation) where
    value_at_lem : (nd : Node) → t.node i ≡ nd → value t.size t i v ≡ node_value (value t.size t) nd v
    value_at_lem nd e = value_node i h v ∙ ap (λ n. node_value (value t.size t) n v) e

    pub value_constant : (b : Bool) → t.node i ≡ constant b → value t.size t i v ≡ b
    unfolding node_value
    value_constant b e = value_at_lem (constant b) e

    pub value_variable : (x : ℕ) → t.node i ≡ variable x → value t.size t i v ≡ v x
    unfolding node_value
    value_variable x e = value_at_lem (variable x) e

    pub value_negation : (a : ℕ) → t.node i ≡ negation a → value t.size t i v ≡ not (value t.size t a v)
    unfolding node_value
    value_negation a e = value_at_lem (negation a) e

    pub value_operator : (o a b : ℕ) → t.node i ≡ operator o a b
        → value t.size t i v ≡ operator_value o (value t.size t a v) (value t.size t b v)
    unfolding node_value
    value_operator o a b e = value_at_lem (operator o a b) e

    pub value_block : (q : Quantifier) (xs : List ℕ) (a : ℕ) → t.node i ≡ block q xs a
        → value t.size t i v ≡ quant q xs (value t.size t a) v
    unfolding node_value
    value_block q xs a e = value_at_lem (block q xs a) e
