-- Valuations (document 01: settings) and quantification over a list of variables.
-- Assumes nothing.
use Rattle.std.specs.Prelude.{Bool, true, false, ◌&&◌, ◌||◌, List, [], ◌∷◌, ℕ, eqb}
use Rattle.lists.specs.Choice.{pick}
use Rattle.formula.specs.Node.{Quantifier, exists, for_all}

-- "A setting gives 0 (false) or 1 (true) to each whole number from 1 up."
abbrev pub Valuation : Type 0
Valuation = ℕ → Bool

-- v with x given the value b
unfoldable pub update : Valuation → ℕ → Bool → Valuation
update v x b y = pick (eqb y x) b (v y)

-- exists: one of the two holds; for-all: both do
unfoldable pub join : Quantifier → Bool → Bool → Bool
join exists a b = a || b
join for_all a b = a && b

-- f under the quantifier q over the variables xs, each of them false and true in turn. That this is document 01's
-- "under some setting that differs from this one at most at the numbers in its stretch", and "under every such
-- setting", are the laws `ExistsRead` and `ForAllRead` (specs/Laws.antt).
unfoldable pub quant : Quantifier → List ℕ → (Valuation → Bool) → Valuation → Bool
quant q [] f v = f v
quant q (x ∷ xs) f v = join q (quant q xs f (update v x false)) (quant q xs f (update v x true))
