-- The table of rows, read row by row.
-- Assumes nothing.
use mathlib.Core.Path.{◌≡◌, refl}
use mathlib.Core.Bool.{Bool, false}
use mathlib.Core.List.{List, [], ◌∷◌, map}
use Prim.Native.Nat.{ℕ, zero, suc}
use lib.ListN.{get_or}
use Rattle.qcir_form.specs.Rows.{OperatorRow, row_in}
use Rattle.qcir_rows.specs.declared.RowKind.{RowKind}
use Rattle.qcir_rows.specs.declared.RowKind.TheVariants.{Constant}
use Rattle.qcir_rows.specs.Shapes.{kind_meant}

abbrev pub Entry : Type 0
Entry = RowKind × Bool × Bool × Bool

abbrev pub entry_meant : Entry → OperatorRow
entry_meant e = record { kind = kind_meant e.0; left = e.1; right = e.2; whole = e.3 }

-- What stands at f in a table is row f of the rows that it stands for, also past the end.
pub entry_at : (es : List Entry) (f : ℕ) → entry_meant (get_or es f (Constant, false, false, false)) ≡ row_in (map entry_meant es) f
unfolding row_in
entry_at [] f = refl
entry_at (e ∷ es) zero = refl
entry_at (e ∷ es) (suc f) = entry_at es f
