-- The listing in steps: what the functions of this crate compute. The public contract cites none of these definitions.
-- Assumes nothing.
use Rattle.std.specs.Prelude.{Bool, false, List, ◌≡◌, ℕ, ◌<◌, ◌≤◌, length, get_or}
use Rattle.lists.specs.Search.{some_below}
use Rattle.lists.specs.Parts.{passing}
use Rattle.formula.specs.Node.{Table}
use Rattle.prenex_form.specs.Names.{highest_number}
use Rattle.prenex_form.specs.FreeVariables.{unbound_at}
use Rattle.free_variables.specs.declared.FlagsSet.{FlagsSet}

-- x stands at a variable node below node i whose binder is none.
unfoldable pub unbound_below : Table → ℕ → ℕ → Bool
unbound_below t i x = some_below (unbound_at t x) i

-- The numbers whose flag is set, ascending.
unfoldable pub flagged : List Bool → List ℕ
flagged flags = passing (λ x. get_or flags x false) (length flags)

-- So many flags are set, and none below the lowest.
pub record AreSet (flags : List Bool) (s : FlagsSet) : Type 0 where
  pub count_is : s.count ≡ length (flagged flags)
  pub lowest_le : s.lowest ≤ length flags
  pub none_below : (x : ℕ) → x < s.lowest → get_or flags x false ≡ false

-- The flags once the numbers of the variable nodes below node i whose binder is none are flagged: each number of the table has a
-- flag.
pub record Flagged (t : Table) (flags : List Bool) (i : ℕ) (s : FlagsSet) : Type 0 where
  pub wide : highest_number t < length flags
  pub low : length flags ≤ 65536
  pub flag_is : (x : ℕ) → get_or flags x false ≡ unbound_below t i x
  pub are_set : AreSet flags s

-- Before that.
abbrev pub Clear : Table → List Bool → Type 0
Clear t flags = Flagged t flags 0 (record { count = 0; lowest = length flags })
