-- The prefix lines of a form's file, kept as prefix, and written again.
-- Assumes nothing.
use mathlib.Core.Path.{◌≡◌, refl, sym, ◌∙◌, ap}
use mathlib.Core.Bool.{true}
use mathlib.Core.List.{List, [], ◌∷◌, ◌++◌, map, flat_map}
use Prim.Native.Nat.{ℕ, zero, suc, ◌+◌, ◌*◌, ◌≤◌, ◌<◌}
use native.Mathlib.Omega.{arith}
use native.Mathlib.Nat.{not-suc-le-zero}
use lib.ListN.{length, get_or, length-append}
use Rattle.lists.specs.Members.{mem}
use Rattle.formula.specs.Node.{Quantifier}
use Rattle.formula.specs.Words.{is_block_kind}
use Rattle.formula.specs.Form.{Block, prefix_width, prefix_words, binds}
use Rattle.formula.proofs.Nodes.{block_kind_of}
use Rattle.form_check.specs.Accepted.{prefix_names}
use Rattle.form_check.proofs.Flags.{binds_names}
use Rattle.qcir.specs.File.{Line, line_variables, prefix_variables, numbers_of}
use Rattle.qcir.specs.Table.{line_block}
use Rattle.qcir.proofs.GateLines.{numbers_append}
use Rattle.qcir_form.specs.File.{named, list_lines, prefix_lines}
use Rattle.qcir_form.proofs.Numbers.{numbers_named, prefix_numbers}

-- the line of a block, before others
line_again : (q : Quantifier) (xs : List ℕ) (ls : List Line)
    → prefix_lines (map line_block (list_lines q xs ++ ls)) ≡ list_lines q xs ++ prefix_lines (map line_block ls)
unfolding prefix_lines flat_map list_lines line_block line_variables numbers_of
line_again q [] ls = refl
line_again q (x ∷ xs) ls =
    ap (λ ys. record { quantifier = q; first = named x; others = map named ys } ∷ prefix_lines (map line_block ls)) (numbers_named xs)

pub lines_again : (bs : List Block) → prefix_lines (map line_block (prefix_lines bs)) ≡ prefix_lines bs
unfolding prefix_lines flat_map
lines_again [] = refl
lines_again (b ∷ bs) =
    line_again b.quantifier b.variables (prefix_lines bs)
    ∙ ap (λ ls. list_lines b.quantifier b.variables ++ ls) (lines_again bs)

-- their names
lines_names_lem : (ls : List Line) → prefix_names (map line_block ls) ≡ numbers_of (prefix_variables ls)
unfolding prefix_names flat_map prefix_variables line_block numbers_of
lines_names_lem [] = refl
lines_names_lem (l ∷ ls) =
    ap (λ xs. numbers_of (line_variables l) ++ xs) (lines_names_lem ls) ∙ sym (numbers_append (line_variables l) (prefix_variables ls))

pub names_again : (bs : List Block) → prefix_names (map line_block (prefix_lines bs)) ≡ prefix_names bs
names_again bs = lines_names_lem (prefix_lines bs) ∙ prefix_numbers bs

pub binds_again : (bs : List Block) (x : ℕ) → binds (map line_block (prefix_lines bs)) x ≡ binds bs x
binds_again bs x = sym (binds_names (map line_block (prefix_lines bs)) x) ∙ ap (mem x) (names_again bs) ∙ binds_names bs x

-- The words of blocks have the kinds of blocks, and their ranges fit in the blocks' variables.
pub words_kinds : (s : ℕ) (bs : List Block) (j : ℕ) → j < length bs → is_block_kind (get_or (prefix_words s bs) (prefix_width * j) 0) ≡ true
unfolding prefix_words
words_kinds s [] j h = absurd (not-suc-le-zero h)
words_kinds s (b ∷ bs) zero h = block_kind_of b.quantifier
words_kinds s (b ∷ bs) (suc j) h =
    let e : prefix_width * suc j ≡ suc (suc (suc (prefix_width * j))) = omega arith in
    ap (λ (k : ℕ). is_block_kind (get_or (prefix_words s (b ∷ bs)) k 0)) e ∙ words_kinds (s + length b.variables) bs j (omega arith)

pub words_fit : (s : ℕ) (bs : List Block) (j : ℕ) → j < length bs
    → get_or (prefix_words s bs) (prefix_width * j + 1) 0 + get_or (prefix_words s bs) (prefix_width * j + 2) 0 ≤ s + length (prefix_names bs)
unfolding prefix_words prefix_names flat_map
words_fit s [] j h = absurd (not-suc-le-zero h)
words_fit s (b ∷ bs) zero h = omega (arith, length-append b.variables (prefix_names bs))
words_fit s (b ∷ bs) (suc j) h =
    let ws = prefix_words s (b ∷ bs) in
    let vs = prefix_words (s + length b.variables) bs in
    let e : prefix_width * suc j + 1 ≡ suc (suc (suc (prefix_width * j + 1))) = omega arith in
    let f : prefix_width * suc j + 2 ≡ suc (suc (suc (prefix_width * j + 2))) = omega arith in
    let g : get_or ws (prefix_width * suc j + 1) 0 ≡ get_or vs (prefix_width * j + 1) 0 = ap (λ (k : ℕ). get_or ws k 0) e in
    let i : get_or ws (prefix_width * suc j + 2) 0 ≡ get_or vs (prefix_width * j + 2) 0 = ap (λ (k : ℕ). get_or ws k 0) f in
    omega (arith, words_fit (s + length b.variables) bs j (omega arith), length-append b.variables (prefix_names bs))
