-- Truth as document 01 tells it ("Truth and size"), sentence by sentence and with no recursion: what values given to the nodes
-- of a table, and to the blocks of a prefix, must be. That there are such values, that there are no others, and that
-- `truth` and `form_truth` are among them are laws (specs/Laws.antt).
-- Assumes nothing.
use Rattle.std.specs.Prelude.{Bool, true, false, not, List, ◌∷◌, ◌↔◌, ◌≡◌, ℕ, suc, ◌<◌, length, drop}
use Rattle.lists.specs.Members.{mem}
use Rattle.formula.specs.Node.{exists, for_all, constant, variable, negation, operator, block, Table}
use Rattle.formula.specs.Valuation.{Valuation}
use Rattle.formula.specs.Truth.{operator_value}
use Rattle.formula.specs.Form.{Block}

-- "differs from this one at most at the numbers in its stretch": u, from v, the stretch being xs
abbrev pub DiffersAtMostAt : List ℕ → Valuation → Valuation → Type 0
DiffersAtMostAt xs v u = (y : ℕ) → mem y xs ≡ false → v y ≡ u y

-- "true under some setting that differs from this one at most at the numbers in its stretch"
abbrev pub UnderSome : List ℕ → (Valuation → Bool) → Valuation → Type 0
UnderSome xs f v = (u : Valuation) × DiffersAtMostAt xs v u × (f u ≡ true)

-- "true under every such setting"
abbrev pub UnderEvery : List ℕ → (Valuation → Bool) → Valuation → Type 0
UnderEvery xs f v = (u : Valuation) → DiffersAtMostAt xs v u → f u ≡ true

-- `val i v` is the value of node i of the table t "under a setting" v:
pub record TableMeaning (t : Table) (val : ℕ → Valuation → Bool) : Type 0 where
  -- "a constant has its value"
  pub at_constant : (i : ℕ) (c : Bool) → i < t.size → t.node i ≡ constant c → (v : Valuation) → val i v ≡ c
  -- "a variable node what its number is given"
  pub at_variable : (i x : ℕ) → i < t.size → t.node i ≡ variable x → (v : Valuation) → val i v ≡ v x
  -- "a not node the opposite of its operand"
  pub at_negation : (i a : ℕ) → i < t.size → t.node i ≡ negation a → (v : Valuation) → val i v ≡ not (val a v)
  -- "an operator node its bit for left and right"
  pub at_operator : (i f a b : ℕ) → i < t.size → t.node i ≡ operator f a b → (v : Valuation)
      → val i v ≡ operator_value f (val a v) (val b v)
  -- "An exists block is true if its body is true under some setting that differs from this one at most at the numbers in
  -- its stretch"
  pub at_exists : (i : ℕ) (xs : List ℕ) (a : ℕ) → i < t.size → t.node i ≡ block exists xs a → (v : Valuation)
      → (val i v ≡ true) ↔ UnderSome xs (val a) v
  -- "a for-all block, if its body is true under every such setting"
  pub at_for_all : (i : ℕ) (xs : List ℕ) (a : ℕ) → i < t.size → t.node i ≡ block for_all xs a → (v : Valuation)
      → (val i v ≡ true) ↔ UnderEvery xs (val a) v

-- Block j of the prefix bs is b.
abbrev pub BlockIs : List Block → ℕ → Block → Type 0
BlockIs bs j b = (rest : List Block) × (drop j bs ≡ b ∷ rest)

-- `val j v` is the value of block j of the prefix bs and all that follows it under the valuation v, and f is the last node's:
-- "each prefix block is read as a block of its kind over all that follows it, block 0 outermost"
pub record PrefixMeaning (bs : List Block) (f : Valuation → Bool) (val : ℕ → Valuation → Bool) : Type 0 where
  pub block_exists : (j : ℕ) (b : Block) → BlockIs bs j b → b.quantifier ≡ exists → (v : Valuation)
      → (val j v ≡ true) ↔ UnderSome b.variables (val (suc j)) v
  pub block_for_all : (j : ℕ) (b : Block) → BlockIs bs j b → b.quantifier ≡ for_all → (v : Valuation)
      → (val j v ≡ true) ↔ UnderEvery b.variables (val (suc j)) v
  -- "the last one over the last node. With no prefix it is that node's alone."
  pub last_node : (v : Valuation) → val (length bs) v ≡ f v
