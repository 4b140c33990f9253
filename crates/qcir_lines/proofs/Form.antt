-- The text of a form, by the pieces that the walk puts.
-- Assumes nothing.
use mathlib.Core.Path.{◌≡◌, sym, ◌∙◌, ap}
use mathlib.Core.List.{List, [], ◌∷◌, ◌++◌, map}
use Prim.Native.Nat.{ℕ, suc, ◌+◌, ◌-◌, ◌/◌, ◌≤◌}
use native.Mathlib.Omega.{arith}
use lib.ListN.{length, get_or, length-append}
use Rattle.formula.specs.Node.{Table}
use Rattle.formula.specs.Words.{node_count, table_of}
use Rattle.formula.specs.Form.{Block, prefix_width, blocks_of}
use Rattle.form_check.specs.Accepted.{AcceptedForm}
use Rattle.qcir.specs.Spelling.{newline, header, free_signs, output_signs}
use Rattle.qcir_text.specs.Text.{signs_text}
use Rattle.texts.specs.Put.{Put}
use Rattle.qcir_text.specs.Pieces.{named, literal_of}
use Rattle.texts.proofs.Put.{put_then, put_as}
use Rattle.qcir_text.proofs.Files.{file_text_lem}
use Rattle.qcir_form.specs.File.{node_literal_of, free_names, prefix_lines, first_gate, matrix_file, form_file, form_text}
use Rattle.qcir_form.proofs.Written.{written_root}
use Rattle.qcir_form.proofs.Room.{text_short}
use Rattle.qcir_form.proofs.Numbers.{open_lists}
use Rattle.qcir_literals.specs.Literals.{Filled}
use Rattle.name_flags.specs.Flags.{FreeFlags, flagged_below}
use Rattle.name_flags.proofs.Free.{flagged_list}
use Rattle.qcir_lines.specs.Lines.{text_bound, is_free, blocks_text, gates_text, Writable}
use Rattle.qcir_lines.proofs.Prefix.{prefix_text, form_writable}
use Rattle.qcir_lines.proofs.Gates.{gates_text_lem}

-- The pieces.
abbrev pub header_piece : List ℕ
header_piece = header ++ signs_text (newline ∷ [])

abbrev pub free_piece : List ℕ → ℕ → List ℕ
free_piece names highest = signs_text (free_signs (map named (flagged_below names (suc highest))))

abbrev pub prefix_piece : List ℕ → List ℕ → List ℕ
prefix_piece ps xs = blocks_text ps xs (length ps / prefix_width)

abbrev pub output_piece : List ℕ → List ℕ → List ℕ
output_piece ns literals = signs_text (output_signs (literal_of (get_or literals (node_count ns - 1) 0)))

abbrev pub gates_piece : List ℕ → List ℕ → List ℕ
gates_piece ns literals = gates_text ns literals (node_count ns)

module _ {ns ps xs names : List ℕ} {highest : ℕ} {literals : List ℕ} (form : AcceptedForm ns ps xs)
    (flags : FreeFlags (is_free (table_of ns []) (blocks_of ps xs)) names highest)
    (held : Filled (table_of ns []) (first_gate (free_names (table_of ns []) (blocks_of ps xs)) (prefix_lines (blocks_of ps xs))) literals) where
  abbrev t : Table
  t = table_of ns []

  abbrev bs : List Block
  bs = blocks_of ps xs

  abbrev first : ℕ
  first = first_gate (free_names t bs) (prefix_lines bs)

  free_is : signs_text (free_signs (map named (free_names t bs))) ≡ free_piece names highest
  free_is = ap (λ ys. signs_text (free_signs (map named ys))) (sym (flagged_list (is_free t bs) names highest (free_names t bs) flags (open_lists t bs)))

  output_is : signs_text (output_signs (node_literal_of t first (t.size - 1))) ≡ output_piece ns literals
  unfolding table_of
  output_is =
      ap (λ l. signs_text (output_signs l))
      (sym (held.filled (t.size - 1) (written_root t form.matrix.proper.tree.nonempty)).literal_is)

  pieces : form_text ns ps xs ≡ header_piece ++ (free_piece names highest ++ (prefix_piece ps xs ++ (output_piece ns literals ++ gates_piece ns literals)))
  unfolding form_text form_file matrix_file
  pieces =
      file_text_lem (form_file ns ps xs)
      ∙ (λ i. header_piece ++ (free_is i ++ (prefix_text ps xs i ++ (output_is i ++ sym (gates_text_lem ns first literals form.matrix.proper.tree held) i))))

  -- together they are short
  pub pieces_short : length (free_piece names highest) + (length (prefix_piece ps xs) + (length (output_piece ns literals) + length (gates_piece ns literals))) ≤ text_bound
  pieces_short =
      let f = free_piece names highest in
      let p = prefix_piece ps xs in
      let o = output_piece ns literals in
      let g = gates_piece ns literals in
      omega (
        arith,
        text_short ns ps xs form,
        ap length pieces,
        length-append header_piece (f ++ (p ++ (o ++ g))),
        length-append f (p ++ (o ++ g)),
        length-append p (o ++ g),
        length-append o g,
      )

  pub prefix_writable : Writable ps xs
  prefix_writable = form_writable ns ps xs form (omega (arith, pieces_short))

  pub put_pieces : {l0 l1 l2 l3 l4 l5 : List ℕ} {n1 n2 n3 n4 n5 : ℕ} → Put l0 0 header_piece l1 n1 → Put l1 n1 (free_piece names highest) l2 n2
      → Put l2 n2 (prefix_piece ps xs) l3 n3 → Put l3 n3 (output_piece ns literals) l4 n4 → Put l4 n4 (gates_piece ns literals) l5 n5
      → Put l0 0 (form_text ns ps xs) l5 n5
  put_pieces h f p o g = put_as pieces (put_then h (put_then f (put_then p (put_then o g))))
