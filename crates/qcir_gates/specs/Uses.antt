-- Uses and definitions among tokens. The public contracts cite none of these definitions.
-- Assumes nothing.
use Rattle.std.specs.Prelude.{not, ◌&&◌, List, [], ◌∷◌, ℕ, ◌+◌, eqb}
use Rattle.lists.specs.Choice.{pick}
use Rattle.qcir.specs.Refusals.{keep}
use Rattle.qcir_tokens.specs.Tokens.{Token, is_definition, is_use}

-- How often the tokens use x.
unfoldable pub uses_in : List Token → ℕ → ℕ
uses_in [] x = 0
uses_in (t ∷ ts) x = pick (is_use t.role && eqb t.name.number x) 1 0 + uses_in ts x

-- The numbers of the gates that the tokens define.
unfoldable pub defined_in : List Token → List ℕ
defined_in [] = []
defined_in (t ∷ ts) = pick (is_definition t.role) (t.name.number ∷ defined_in ts) (defined_in ts)

-- Those of them that are not used exactly once.
unfoldable pub misused_in : (ℕ → ℕ) → List Token → List ℕ
misused_in uses ts = keep (λ x. not (eqb (uses x) 1)) (defined_in ts)
