-- Blocks as document 01 reads them ("Truth and size"): the laws that make `quant` the quantification meant there.
-- Assumes nothing.
use mathlib.Core.Path.{◌≡◌, sym, ◌∙◌}
use mathlib.Core.Bool.{Bool, true}
use mathlib.Core.List.{List}
use mathlib.Core.Logic.{◌↔◌}
use Prim.Native.Nat.{ℕ, ◌<◌}
use Rattle.lists.specs.Choice.{Is, is_true, is_false, look, clash}
use Rattle.formula.specs.Node.{exists, for_all, block, Table}
use Rattle.formula.specs.Valuation.{Valuation, quant}
use Rattle.formula.specs.Truth.{value}
use Rattle.formula.specs.Meaning.{DiffersAtMostAt}
use Rattle.formula.proofs.Quantify.{decides, quant_reach, quant_attain}
use Rattle.formula.proofs.Unfolding.{Lower, value_block}

-- `DiffersAtMostAt xs v u` is the document's "differs from this one at most at the numbers in its stretch".
module _ (xs : List ℕ) (f : Valuation → Bool) (v : Valuation) where
  -- "An exists block is true if its body is true under some setting that differs from this one at most at the numbers in
  -- its stretch"
  pub exists_reading : (quant exists xs f v ≡ true) ↔ ((u : Valuation) × DiffersAtMostAt xs v u × (f u ≡ true))
  unfolding decides
  exists_reading = (
    (λ h. let r = quant_attain exists xs f v in (r.0, r.1, sym r.2 ∙ h)),
    (λ r. quant_reach exists xs f v r.0 r.1 r.2),
  )

  -- "a for-all block, if its body is true under every such setting"
  pub for_all_reading : (quant for_all xs f v ≡ true) ↔ ((u : Valuation) → DiffersAtMostAt xs v u → f u ≡ true)
  unfolding decides
  for_all_reading = ((λ h u out. go h u out (look (f u))), (λ every. let r = quant_attain for_all xs f v in r.2 ∙ every r.0 r.1))
    where
      go : quant for_all xs f v ≡ true → (u : Valuation) → DiffersAtMostAt xs v u → Is (f u) → f u ≡ true
      go h u out (is_true e) = e
      go h u out (is_false e) = clash h (quant_reach for_all xs f v u out e)

-- The same of a block node i with body a, in a table whose operands are lower than their users.
module _ (t : Table) (lower : Lower t.node t.size) (i : ℕ) (h : i < t.size) (xs : List ℕ) (a : ℕ) (v : Valuation) where
  pub exists_block_lem : t.node i ≡ block exists xs a
      → (value t.size t i v ≡ true) ↔ ((u : Valuation) × DiffersAtMostAt xs v u × (value t.size t a u ≡ true))
  exists_block_lem e = rw (value_block t lower i h v exists xs a e) (exists_reading xs (value t.size t a) v)

  pub for_all_block : t.node i ≡ block for_all xs a
      → (value t.size t i v ≡ true) ↔ ((u : Valuation) → DiffersAtMostAt xs v u → value t.size t a u ≡ true)
  for_all_block e = rw (value_block t lower i h v for_all xs a e) (for_all_reading xs (value t.size t a) v)
