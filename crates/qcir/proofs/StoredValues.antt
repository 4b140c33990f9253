-- The value of a stored node, in every table that keeps what is stored so far.
-- Assumes nothing.
use mathlib.Core.Path.{◌≡◌, refl, ◌∙◌, ap, ap₂}
use mathlib.Core.Bool.{Bool, not}
use mathlib.Core.List.{List}
use Prim.Native.Nat.{ℕ, zero, suc, ◌≤◌, ◌<◌}
use native.Mathlib.Omega.{arith}
use native.Mathlib.Nat.{not-suc-le-zero}
use Rattle.formula.specs.Node.{Quantifier, Node, constant, variable, negation, operator, block, Table}
use Rattle.formula.specs.Valuation.{Valuation, quant}
use Rattle.formula.specs.Truth.{operator_value, node_value, value}
use Rattle.formula.proofs.Quantify.{quant_cong}

-- s has t's nodes, and possibly more.
pub record Kept (t s : Table) : Type 0 where
  pub grown : t.size ≤ s.size
  pub same : (i : ℕ) → i < t.size → s.node i ≡ t.node i

pub kept_same : (t : Table) → Kept t t
kept_same t = record { grown = omega arith; same = λ i h. refl }

pub kept_more : {t s r : Table} → Kept t s → Kept s r → Kept t r
kept_more p q =
    record { grown = omega (arith, p.grown, q.grown); same = λ i h. q.same i (omega (arith, p.grown)) ∙ p.same i h }

-- Node i of t has the value g, in t and in every table that keeps t, however far down its operands are followed.
pub record Stands (t : Table) (i : ℕ) (g : Valuation → Bool) : Type 0 where
  pub low : i < t.size
  pub gives : (s : Table) → Kept t s → (f : ℕ) → i < f → (v : Valuation) → value f s i v ≡ g v

pub stands_kept : {t s : Table} {i : ℕ} {g : Valuation → Bool} → Kept t s → Stands t i g → Stands s i g
stands_kept k p = record { low = omega (arith, p.low, k.grown); gives = λ r q. p.gives r (kept_more k q) }

pub stands_as : {t : Table} {i : ℕ} {g h : Valuation → Bool} → ((v : Valuation) → g v ≡ h v) → Stands t i g → Stands t i h
stands_as e p = record { low = p.low; gives = λ s k f l v. p.gives s k f l v ∙ e v }

-- a node's value, from one step further down
value_below : (s : Table) (i : ℕ) (nd : Node) → s.node i ≡ nd → (f : ℕ) → i < f → (v : Valuation) (b : Bool)
    → ((n : ℕ) → i ≤ n → node_value (value n s) nd v ≡ b) → value f s i v ≡ b
unfolding value
value_below s i nd e zero l v b h = absurd (not-suc-le-zero l)
value_below s i nd e (suc n) l v b h = ap (λ (m : Node). node_value (value n s) m v) e ∙ h n (omega arith)

-- a node's value where those that it names have theirs one step further down
stands_by : (t : Table) (i : ℕ) (nd : Node) (g : Valuation → Bool) → i < t.size → t.node i ≡ nd
    → ((s : Table) → Kept t s → (f : ℕ) → i ≤ f → (v : Valuation) → node_value (value f s) nd v ≡ g v) → Stands t i g
stands_by t i nd g low e h = record { low = low; gives = go }
  where
    go : (s : Table) → Kept t s → (f : ℕ) → i < f → (v : Valuation) → value f s i v ≡ g v
    go s k f l v = value_below s i nd (k.same i low ∙ e) f l v (g v) (λ n m. h s k n m v)

module _ (t : Table) (i : ℕ) (low : i < t.size) where
  pub stands_constant : (b : Bool) → t.node i ≡ constant b → Stands t i (λ v. b)
  unfolding node_value
  stands_constant b e = stands_by t i (constant b) (λ v. b) low e (λ s k f l v. refl)

  pub stands_variable : (x : ℕ) → t.node i ≡ variable x → Stands t i (λ v. v x)
  unfolding node_value
  stands_variable x e = stands_by t i (variable x) (λ v. v x) low e (λ s k f l v. refl)

  pub stands_negation : (a : ℕ) (g : Valuation → Bool) → t.node i ≡ negation a → a < i → Stands t a g → Stands t i (λ v. not (g v))
  unfolding node_value
  stands_negation a g e l p =
      stands_by t i (negation a) (λ v. not (g v)) low e (λ s k f m v. ap not (p.gives s k f (omega arith) v))

  pub stands_operator : (o a b : ℕ) (g h : Valuation → Bool) → t.node i ≡ operator o a b → a < i → b < i → Stands t a g → Stands t b h
      → Stands t i (λ v. operator_value o (g v) (h v))
  unfolding node_value
  stands_operator o a b g h e l r p q =
      stands_by t i (operator o a b) (λ v. operator_value o (g v) (h v)) low e
      (λ s k f m v. ap₂ (operator_value o) (p.gives s k f (omega arith) v) (q.gives s k f (omega arith) v))

  pub stands_block : (q : Quantifier) (xs : List ℕ) (a : ℕ) (g : Valuation → Bool) → t.node i ≡ block q xs a → a < i → Stands t a g
      → Stands t i (quant q xs g)
  unfolding node_value
  stands_block q xs a g e l p =
      stands_by t i (block q xs a) (quant q xs g) low e
      (λ s k f m v. quant_cong q xs (value f s a) g v (p.gives s k f (omega arith)))
