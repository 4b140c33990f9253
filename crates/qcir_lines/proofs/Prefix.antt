-- The prefix lines, block by block.
-- Assumes nothing.
use mathlib.Core.Path.{◌≡◌, sym, ◌∙◌, ap}
use mathlib.Core.List.{List, ◌∷◌, ◌++◌, flat_map, append_assoc, append-nil}
use Prim.Native.Nat.{ℕ, zero, suc, ◌+◌, ◌*◌, ◌/◌, ◌≤◌}
use native.Mathlib.Nat.{add-zero, zero-add}
use native.Mathlib.Numerals.{add-one}
use native.Mathlib.Omega.{arith}
use lib.ListN.{length, get_or}
use Rattle.lists.specs.Parts.{up_to}
use Rattle.lists.proofs.Parts.{length-up_to, sum_grows}
use Rattle.formula.specs.Form.{Block, prefix_width, quantifier_of, block_at, blocks_from, blocks_of}
use Rattle.form_check.specs.Accepted.{AcceptedForm}
use Rattle.form_check.proofs.Entries.{read_names, read_names_lem, block_names_below}
use Rattle.qcir.specs.Spelling.{prefix_signs}
use Rattle.qcir_text.specs.Text.{signs_text}
use Rattle.qcir_text.specs.Pieces.{list_lines}
use Rattle.texts.specs.Put.{Put}
use Rattle.texts.proofs.Put.{put_none, put_then}
use Rattle.qcir_text.proofs.Files.{prefix_append}
use Rattle.qcir_form.specs.File.{prefix_lines}
use Rattle.qcir_lines.specs.Lines.{text_bound, block_text, blocks_text, Writable}

line_first : (b : Block) (bs : List Block) → signs_text (prefix_signs (prefix_lines (b ∷ bs))) ≡ block_text b ++ signs_text (prefix_signs (prefix_lines bs))
unfolding prefix_lines flat_map block_text
line_first b bs = prefix_append (list_lines b.quantifier b.variables) (prefix_lines bs)

module _ (ps xs : List ℕ) where
  -- what stands before block j, and the lines of m blocks from there
  lines_from : (m j : ℕ) → blocks_text ps xs j ++ signs_text (prefix_signs (prefix_lines (blocks_from ps xs j m))) ≡ blocks_text ps xs (m + j)
  unfolding blocks_from blocks_text up_to signs_text prefix_signs prefix_lines flat_map
  lines_from zero j = rw zero-add (append-nil (blocks_text ps xs j))
  lines_from (suc m) j =
      let rest = blocks_from ps xs (suc j) m in
      let e : m + suc j ≡ suc m + j = omega arith in
      ap (λ t. blocks_text ps xs j ++ t) (line_first (block_at ps xs j) rest)
      ∙ sym (append_assoc (blocks_text ps xs j) (block_text (block_at ps xs j)) (signs_text (prefix_signs (prefix_lines rest))))
      ∙ lines_from m (suc j)
      ∙ ap (blocks_text ps xs) e

  pub prefix_text : signs_text (prefix_signs (prefix_lines (blocks_of ps xs))) ≡ blocks_text ps xs (length ps / prefix_width)
  unfolding blocks_of blocks_text up_to
  prefix_text = rw add-zero at (lines_from (length ps / prefix_width) 0)

  -- no block put, and one more
  pub blocks_none : (before : List ℕ) (at : ℕ) → Put before at (blocks_text ps xs 0) before at
  unfolding blocks_text up_to
  blocks_none before at = put_none before at

  pub blocks_next : (j : ℕ) {before mid after : List ℕ} {at m n : ℕ} → Put before at (blocks_text ps xs j) mid m
      → Put mid m (block_text (block_at ps xs j)) after n → Put before at (blocks_text ps xs (j + 1)) after n
  unfolding blocks_text up_to
  blocks_next j p q = rw add-one (put_then p q)

  pub begun_short : (j : ℕ) → Writable ps xs → j ≤ length ps / prefix_width → length (blocks_text ps xs j) ≤ text_bound
  unfolding blocks_text
  begun_short j w h =
      let g : ℕ → List ℕ = λ k. block_text (block_at ps xs k) in
      omega (arith, w.short, length-up_to g j, length-up_to g (length ps / prefix_width), sum_grows (λ k. length (g k)) j (length ps / prefix_width) h)

-- A block's line, of its names as the code reads them.
pub read_text : (ps xs : List ℕ) (j : ℕ)
    → block_text (block_at ps xs j) ≡ signs_text (prefix_signs (list_lines (quantifier_of (get_or ps (prefix_width * j) 0)) (read_names ps xs j)))
unfolding block_text block_at
read_text ps xs j = ap (λ ys. signs_text (prefix_signs (list_lines (quantifier_of (get_or ps (prefix_width * j) 0)) ys))) (sym (read_names_lem ps xs j))

pub form_writable : (ns ps xs : List ℕ) → AcceptedForm ns ps xs → length (blocks_text ps xs (length ps / prefix_width)) ≤ text_bound → Writable ps xs
form_writable ns ps xs a short =
    record { fits = a.fits; names = λ j h k l. omega (arith, block_names_below ns ps xs a j h k l); short = short }
