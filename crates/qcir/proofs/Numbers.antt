-- The numbers of the names that stand in a file, and that they are variable numbers.
-- Assumes nothing.
use mathlib.Core.Path.{◌≡◌}
use mathlib.Core.Bool.{true}
use mathlib.Core.List.{List, [], ◌∷◌, ◌++◌}
use Prim.Native.Nat.{ℕ}
use Rattle.lists.specs.Members.{mem}
use Rattle.acceptance.specs.Verdict.{is_number}
use Rattle.qcir.specs.File.{Name, Gate, gate_name, gate_variables, gate_inputs, File, numbers_of, names_of}
use Rattle.qcir.specs.Refusals.{outer_names}

-- The names in a gate line.
unfoldable pub line_names : Gate → List Name
line_names g = gate_name g ∷ (gate_variables g ++ names_of (gate_inputs g))

unfoldable pub lines_names : List Gate → List Name
lines_names [] = []
lines_names (g ∷ gs) = line_names g ++ lines_names gs

-- The numbers of all names in a file.
unfoldable pub all_numbers : File → List ℕ
all_numbers f = numbers_of (outer_names f ++ (f.output.name ∷ lines_names f.gates))

-- Every name's number is a variable number.
pub record Ranged (f : File) : Type 0 where
  pub ranged : (x : ℕ) → mem x (all_numbers f) ≡ true → is_number x ≡ true
