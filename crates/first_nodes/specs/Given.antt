-- What writing the first nodes reads, and what it has done part of the way.
-- Assumes nothing.
use Rattle.std.specs.Prelude.{true, List, ◌≡◌, ℕ, ◌+◌, ◌<◌, length, get_or}
use Rattle.formula.specs.Node.{Table}
use Rattle.formula.specs.Words.{table_of}
use Rattle.refusals.specs.Verdict.{accepted}
use Rattle.acceptance.specs.Limits.{limit}
use Rattle.acceptance.specs.Verdict.{verdict}
use Rattle.prenex_form.specs.Scope.{inner}
use Rattle.prenex_form.specs.Names.{highest_number, bound_count, inner_bound_below, inner_below, definition_variable}
use Rattle.arrays.specs.Held.{first_new, Bound}
use Rattle.names.specs.declared.NameCounter.{NameCounter}

-- An accepted table, the entry that binds each variable node's number, and the first of the new names.
pub record Given (ws ls bindings : List ℕ) (names : ℕ) : Type 0 where
  pub accepts : verdict ws ls ≡ accepted
  pub entries_bound : Bound ws ls bindings
  pub names_first : names ≡ first_new (table_of ws ls)

-- The next free number where the inner blocks below node i have their definition variables, and the array has room for all.
pub record Counted (ws ls : List ℕ) (i : ℕ) (definitions : List ℕ) (counter : NameCounter) : Type 0 where
  pub definitions_length : length definitions ≡ limit
  pub next_is : counter.next ≡ highest_number (table_of ws ls) + bound_count (table_of ws ls) + inner_bound_below (table_of ws ls) (table_of ws ls).size + 1 + inner_below (table_of ws ls) i

-- The definition variables of the inner blocks below node i.
pub record DefinedBelow (t : Table) (i : ℕ) (definitions : List ℕ) : Type 0 where
  pub definition_is : (j : ℕ) → j < i → inner t j ≡ true → get_or definitions j 0 ≡ definition_variable t j
