-- The gate lines by the literals that are held.
-- Assumes nothing.
use mathlib.Core.Path.{◌≡◌, refl, sym, ◌∙◌, ap}
use mathlib.Core.Bool.{Bool, true, false, ◌&&◌}
use mathlib.Core.List.{List, [], ◌++◌}
use Prim.Native.Nat.{ℕ, zero, suc, ◌+◌, ◌/◌, ◌<◌}
use native.Mathlib.Numerals.{add-one}
use native.Mathlib.Omega.{arith}
use lib.Dec.{eqb}
use lib.ListN.{get_or}
use borrow.Author.Tests.{eq-eqb, ne_eqb}
use Rattle.lists.specs.Choice.{pick, pick_yes, pick_no, Is, is_true, is_false, look, clash, and_both, and_off_left, and_off_right}
use Rattle.lists.specs.Parts.{up_to}
use Rattle.lists.proofs.Parts.{up_to_cong}
use Rattle.formula.specs.Node.{Node, constant, variable, negation, operator, block, Table}
use Rattle.formula.specs.Tree.{Tree}
use Rattle.formula.specs.Words.{node_count, node_at, table_of}
use Rattle.qcir.specs.File.{Literal, Gate}
use Rattle.qcir.specs.Spelling.{gates_signs}
use Rattle.qcir_text.specs.Text.{signs_text}
use Rattle.qcir_text.specs.Pieces.{literal_of}
use Rattle.texts.specs.Put.{Put}
use Rattle.texts.proofs.Put.{put_none, put_then}
use Rattle.qcir_text.proofs.Files.{gates_append}
use Rattle.qcir_form.specs.Rows.{RowKind, constant_row, left_row, right_row, and_row, xor_row, row}
use Rattle.qcir_form.specs.File.{row_has_gate, has_gate, row_literal, node_literal, row_gates, node_gates, is_gate, written, gate_number, node_literal_of, gates_of}
use Rattle.qcir_form.proofs.Written.{gates_used, written_down}
use Rattle.qcir_form.proofs.PlacedLines.{number_step}
use Rattle.qcir_literals.specs.Literals.{Filled}
use Rattle.qcir_lines.specs.Lines.{held_gates, gates_text}

-- A node without a gate has no line, and one with a gate stands for its number.
row_without : (k : RowKind) (a b : Bool) (g : ℕ) (l m : Literal) → row_has_gate k ≡ false → row_gates k a b g l m ≡ []
unfolding row_has_gate row_gates
row_without constant_row a b g l m h = clash refl h
row_without left_row a b g l m h = refl
row_without right_row a b g l m h = refl
row_without and_row a b g l m h = clash refl h
row_without xor_row a b g l m h = clash refl h

without_gate : (at : ℕ → Literal) (g : ℕ) (nd : Node) → has_gate nd ≡ false → node_gates at g nd ≡ []
unfolding has_gate node_gates
without_gate at g (constant c) h = clash refl h
without_gate at g (variable x) h = refl
without_gate at g (negation a) h = refl
without_gate at g (operator f a b) h = row_without (row f).kind _ _ g _ _ h
without_gate at g (block q xs a) h = refl

row_with : (k : RowKind) (w : Bool) (g : ℕ) (l m : Literal) → row_has_gate k ≡ true → (row_literal k w g l m).name.number ≡ g
unfolding row_has_gate row_literal
row_with constant_row w g l m h = refl
row_with left_row w g l m h = clash h refl
row_with right_row w g l m h = clash h refl
row_with and_row w g l m h = refl
row_with xor_row w g l m h = refl

with_gate_lem : (at : ℕ → Literal) (g : ℕ) (nd : Node) → has_gate nd ≡ true → (node_literal at g nd).name.number ≡ g
unfolding has_gate node_literal
with_gate_lem at g (constant c) h = refl
with_gate_lem at g (variable x) h = clash h refl
with_gate_lem at g (negation a) h = clash h refl
with_gate_lem at g (operator f a b) h = row_with (row f).kind _ g _ _ h
with_gate_lem at g (block q xs a) h = clash h refl

pick_same : {A : Type 0} (b : Bool) (x : A) → pick b x x ≡ x
unfolding pick
pick_same true x = refl
pick_same false x = refl

-- Lines one after the other.
lines_up_to : (lines : ℕ → List Gate) (n : ℕ) → up_to (λ i. signs_text (gates_signs (lines i))) n ≡ signs_text (gates_signs (up_to lines n))
unfolding up_to gates_signs signs_text
lines_up_to lines zero = refl
lines_up_to lines (suc n) = ap (λ t. t ++ signs_text (gates_signs (lines n))) (lines_up_to lines n) ∙ sym (gates_append (up_to lines n) (lines n))

module _ (t : Table) (tree : Tree t) (first : ℕ) (literals : List ℕ) (held : Filled t first literals) where
  abbrev word : ℕ → ℕ
  word i = get_or literals i 0

  abbrev lines : ℕ → List Gate
  lines i = pick (is_gate t i) (node_gates (node_literal_of t first) (gate_number t first i) (t.node i)) []

  -- the number of a gate is half of its node's word
  half_word : (i : ℕ) → i < t.size → written t i ≡ true → has_gate (t.node i) ≡ true → word i / 2 ≡ gate_number t first i
  unfolding literal_of
  half_word i h w g =
      ap (λ (l : Literal). l.name.number) (held.filled i w).literal_is
      ∙ number_step t tree first i h
      ∙ with_gate_lem (node_literal_of t first) (gate_number t first i) (t.node i) g

  -- its inputs are what stands for the operands
  same_lines : (i g : ℕ) → i < t.size → written t i ≡ true
      → node_gates (λ a. literal_of (word a)) g (t.node i) ≡ node_gates (node_literal_of t first) g (t.node i)
  same_lines i g h w =
      gates_used (t.node i) g (λ a. literal_of (word a)) (node_literal_of t first)
      (λ a m. (held.filled a (written_down t tree i a h w m)).literal_is)

  node_lines : (i : ℕ) → i < t.size → held_gates literals i (t.node i) ≡ lines i
  unfolding held_gates is_gate
  node_lines i h = go (look (written t i)) (look (has_gate (t.node i)))
    where
      go : Is (written t i) → Is (has_gate (t.node i)) → held_gates literals i (t.node i) ≡ lines i
      go (is_false w) g =
          pick_yes (eqb (word i) 0) _ _ (eq-eqb (word i) 0 (held.blank i w))
          ∙ sym (pick_no (written t i && has_gate (t.node i)) _ _ (and_off_left (written t i) _ w))
      go (is_true w) (is_false g) =
          ap (pick (eqb (word i) 0) []) (without_gate _ (word i / 2) (t.node i) g)
          ∙ pick_same (eqb (word i) 0) []
          ∙ sym (pick_no (written t i && has_gate (t.node i)) _ _ (and_off_right (written t i) _ g))
      go (is_true w) (is_true g) =
          let real : 1 < word i = (held.filled i w).real in
          pick_no (eqb (word i) 0) _ _ (ne_eqb (word i) 0 (λ z. omega arith))
          ∙ same_lines i (word i / 2) h w
          ∙ ap (λ n. node_gates (node_literal_of t first) n (t.node i)) (half_word i h w g)
          ∙ sym (pick_yes (written t i && has_gate (t.node i)) _ _ (and_both (written t i) _ w g))

  all_lines : up_to (λ i. signs_text (gates_signs (held_gates literals i (t.node i)))) t.size ≡ signs_text (gates_signs (gates_of t first))
  unfolding gates_of
  all_lines =
      lines_up_to (λ i. held_gates literals i (t.node i)) t.size
      ∙ ap (λ gs. signs_text (gates_signs gs)) (up_to_cong (λ i. held_gates literals i (t.node i)) lines t.size node_lines)

-- No gate line put, and those of one node more.
module _ (ns literals : List ℕ) where
  pub gates_none : (before : List ℕ) (at : ℕ) → Put before at (gates_text ns literals 0) before at
  unfolding gates_text up_to
  gates_none before at = put_none before at

  pub gates_next : (i : ℕ) {before mid after : List ℕ} {at m n : ℕ} → Put before at (gates_text ns literals i) mid m
      → Put mid m (signs_text (gates_signs (held_gates literals i (node_at ns [] i)))) after n → Put before at (gates_text ns literals (i + 1)) after n
  unfolding gates_text up_to
  gates_next i p q = rw add-one (put_then p q)

pub gates_text_lem : (ns : List ℕ) (first : ℕ) (literals : List ℕ) → Tree (table_of ns []) → Filled (table_of ns []) first literals
    → gates_text ns literals (node_count ns) ≡ signs_text (gates_signs (gates_of (table_of ns []) first))
unfolding gates_text table_of
gates_text_lem ns first literals tree held = all_lines (table_of ns []) tree first literals held
