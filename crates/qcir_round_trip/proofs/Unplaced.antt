-- In a form's file every position is 0.
-- Assumes nothing.
use mathlib.Core.Path.{◌≡◌, refl, sym, ◌∙◌, ap}
use mathlib.Core.List.{List, [], ◌∷◌, ◌++◌, map, map-append, flat_map}
use Prim.Native.Nat.{ℕ, suc, ◌-◌}
use Rattle.formula.specs.Node.{Quantifier, Table}
use Rattle.formula.specs.Words.{table_of}
use Rattle.formula.specs.Form.{Block, blocks_of}
use Rattle.qcir.specs.File.{Gate}
use Rattle.qcir.specs.Positions.{unplaced_name, unplaced_literal, unplaced_gate, unplaced_line, unplaced}
use Rattle.qcir_form.specs.File.{named, free_names, list_lines, prefix_lines, matrix_file, form_file}
use Rattle.qcir_form.proofs.PlacedForm.{first_of}
use Rattle.qcir_round_trip.proofs.Shapes.{Shape, one, both, differ, Shapes, no_gate, a_gate}
use Rattle.qcir_round_trip.proofs.FormLines.{output_unplaced, gates_shapes}

names_unplaced : (xs : List ℕ) → map unplaced_name (map named xs) ≡ map named xs
unfolding unplaced_name
names_unplaced [] = refl
names_unplaced (x ∷ xs) = ap (λ l. named x ∷ l) (names_unplaced xs)

line_unplaced : (q : Quantifier) (xs : List ℕ) → map unplaced_line (list_lines q xs) ≡ list_lines q xs
unfolding list_lines unplaced_line unplaced_name
line_unplaced q [] = refl
line_unplaced q (x ∷ xs) = ap (λ l. record { quantifier = q; first = named x; others = l } ∷ []) (names_unplaced xs)

lines_unplaced : (bs : List Block) → map unplaced_line (prefix_lines bs) ≡ prefix_lines bs
unfolding prefix_lines flat_map
lines_unplaced [] = refl
lines_unplaced (b ∷ bs) =
    map-append unplaced_line (list_lines b.quantifier b.variables) (prefix_lines bs)
    ∙ (λ i. line_unplaced b.quantifier b.variables i ++ lines_unplaced bs i)

gate_unplaced : (n : ℕ) (g : Gate) → Shape n g → unplaced_gate g ≡ g
unfolding unplaced_gate unplaced_literal unplaced_name
gate_unplaced n _ one = refl
gate_unplaced n _ (both s r x y) = refl
gate_unplaced n _ (differ x y) = refl

gates_unplaced : (n : ℕ) (gs : List Gate) → Shapes n gs → map unplaced_gate gs ≡ gs
gates_unplaced n [] no_gate = refl
gates_unplaced n (g ∷ gs) (a_gate p ps) = λ i. gate_unplaced n g p i ∷ gates_unplaced (suc n) gs ps i

matrix_unplaced : (t : Table) (bs : List Block) → unplaced (matrix_file t bs) ≡ matrix_file t bs
unfolding unplaced matrix_file unplaced_literal unplaced_name
matrix_unplaced t bs =
    let first = first_of t bs in
    λ i.
    record {
      free = names_unplaced (free_names t bs) i;
      prefix = lines_unplaced bs i;
      output = sym (output_unplaced t first (t.size - 1)) i;
      gates = gates_unplaced first _ (gates_shapes t first) i;
    }

pub form_unplaced : (ns ps xs : List ℕ) → unplaced (form_file ns ps xs) ≡ form_file ns ps xs
unfolding form_file
form_unplaced ns ps xs = matrix_unplaced (table_of ns []) (blocks_of ps xs)
