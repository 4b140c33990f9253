-- The text of a form by what is found of it before: header, quantifier lines, the gates' clauses, and those of the root.
-- Assumes nothing.
use mathlib.Core.Path.{◌≡◌, refl, sym, ◌∙◌, ap, fun_ext}
use mathlib.Core.Bool.{true, false}
use mathlib.Core.List.{List, [], ◌∷◌, ◌++◌, flat_map, append_assoc}
use Prim.Native.Nat.{ℕ, zero, suc, ◌+◌, ◌-◌, ◌≤◌, ◌<◌}
use native.Mathlib.Omega.{arith}
use lib.ListN.{length, length-append}
use Rattle.lists.specs.Choice.{pick, pick_no, Is, is_true, is_false, look, clash, or_left}
use Rattle.lists.specs.Members.{mem}
use Rattle.lists.specs.Parts.{up_to, numbers}
use Rattle.lists.proofs.Members.{mem_nil}
use Rattle.lists.proofs.Parts.{flat_map_append, highest_ge}
use Rattle.formula.specs.Node.{Node, constant, variable, negation, operator, block, Table, operands, is_block}
use Rattle.formula.specs.Words.{node_count, table_of}
use Rattle.formula.specs.Form.{Block, blocks_of, form_free}
use Rattle.formula.specs.FreeVariables.{number_at, highest_variable, form_free_variables}
use Rattle.formula.proofs.FreeVariables.{form_free-listed}
use Rattle.acceptance.proofs.Matrix.{no_block}
use Rattle.name_flags.specs.Flags.{flagged_below}
use Rattle.name_flags.proofs.Free.{flagged_list}
use Rattle.texts.specs.Numerals.{digits}
use Rattle.texts.specs.Bounds.{number_bound}
use Rattle.texts.specs.Put.{Put}
use Rattle.texts.proofs.Put.{put_as}
use Rattle.qdimacs.specs.Problem.{Clause}
use Rattle.qdimacs.proofs.Lines.{problem_text_lem}
use Rattle.qdimacs_form.specs.Clauses.{is_gate_node, has_gate, gates_below, first_gate, gate_variable, variable_of, has_value, gate_clauses, written_clauses, node_clauses, matrix_clauses, closed_blocks, filled_blocks, joined_blocks, matrix_problem, form_problem, clauses_text}
use Rattle.qdimacs_form.proofs.Gates.{root_gate, variable_gate, variable_name, gate_last, gate_root, variable_below}
use Rattle.qdimacs_form.proofs.Room.{sum_digits}
use Rattle.qdimacs_words.specs.Words.{Loose}
use Rattle.qdimacs_words.proofs.Loose.{put_loose, loose_then, loose_put}
use Rattle.qdimacs_numbers.proofs.Numbers.{name_under, operand_under}
use Rattle.qdimacs_prefix.specs.Lines.{blocks_text}
use Rattle.qdimacs_rows.specs.Rows.{lines_text}
use Rattle.qdimacs_clauses.specs.Held.{WordsHeld, clauses_at, lines_below, root_text}
use Rattle.qdimacs_clauses.proofs.Root.{root_long}
use Rattle.qdimacs_writer.specs.Writing.{Outlined}
use Rattle.qdimacs_writer.specs.declared.Outline.{Outline}

-- The pieces.
abbrev pub header_text : ℕ → ℕ → List ℕ
header_text highest clauses = 112 ∷ 32 ∷ 99 ∷ 110 ∷ 102 ∷ 32 ∷ (digits highest ++ (32 ∷ (digits clauses ++ (10 ∷ []))))

abbrev pub lines_of_blocks : List ℕ → List ℕ → List ℕ → Outline → List ℕ
lines_of_blocks ps xs names o =
    blocks_text (joined_blocks (filled_blocks (closed_blocks (flagged_below names (suc o.highest)) (blocks_of ps xs) (numbers o.first (o.next - o.first)))))

-- The lines of clauses, part by part.
lines_append : (cs ds : List Clause) → lines_text (cs ++ ds) ≡ lines_text cs ++ lines_text ds
unfolding lines_text
lines_append cs ds = flat_map_append _ cs ds

lines_up_to_lem : (g : ℕ → List Clause) (n : ℕ) → lines_text (up_to g n) ≡ up_to (λ i. lines_text (g i)) n
unfolding up_to lines_text flat_map
lines_up_to_lem g zero = refl
lines_up_to_lem g (suc n) = lines_append (up_to g n) (g n) ∙ ap (λ ls. ls ++ lines_text (g n)) (lines_up_to_lem g n)

-- A node that has operands, and is no block, has a gate.
uses_gate : (a : ℕ) (nd : Node) → is_block nd ≡ false → mem a (operands nd) ≡ true → is_gate_node nd ≡ true
unfolding operands is_gate_node is_block
uses_gate a (constant c) p m = refl
uses_gate a (variable x) p m = clash m (mem_nil a)
uses_gate a (negation b) p m = refl
uses_gate a (operator f b c) p m = refl
uses_gate a (block q xs b) p m = clash refl p

module _ (t : Table) (first : ℕ) where
  -- The clauses at a node by the variables of all nodes are its clauses.
  clauses_at_lem : (i : ℕ) → clauses_at t (variable_of t first) i ≡ node_clauses t first i
  unfolding clauses_at node_clauses
  clauses_at_lem i = go (look (has_gate t i))
    where
      go : Is (has_gate t i) → pick (has_gate t i) (written_clauses (gate_clauses (variable_of t first) (variable_of t first i) (t.node i))) []
          ≡ pick (has_gate t i) (written_clauses (gate_clauses (variable_of t first) (gate_variable t first i) (t.node i))) []
      go (is_true g) = rw (variable_gate t first i g) refl
      go (is_false g) = pick_no _ _ _ g ∙ sym (pick_no _ _ _ g)

  -- The lines of all clauses: those below the root, and the root's.
  matrix_lines : 0 < t.size → lines_text (matrix_clauses t first) ≡ lines_below t (variable_of t first) (t.size - 1) ++ root_text t (variable_of t first)
  unfolding matrix_clauses lines_below root_text up_to
  matrix_lines some =
      let last : ℕ = t.size - 1 in
      let whole : t.size ≡ suc last = omega arith in
      let vs : ℕ → ℕ = variable_of t first in
      let own : List Clause = (has_value (gate_variable t first last) true ∷ []) ∷ [] in
      let at : (i : ℕ) → lines_text (node_clauses t first i) ≡ lines_text (clauses_at t vs i) = λ i. ap lines_text (sym (clauses_at_lem i)) in
      let g : gate_variable t first last ≡ vs last = sym (variable_gate t first last (root_gate t some)) in
      lines_append (up_to (node_clauses t first) t.size) own
      ∙ ap (λ ls. ls ++ lines_text own) (lines_up_to_lem (node_clauses t first) t.size ∙ ap (up_to (λ i. lines_text (node_clauses t first i))) whole)
      ∙ append_assoc (up_to (λ i. lines_text (node_clauses t first i)) last) (lines_text (node_clauses t first last)) (lines_text own)
      ∙ ap (λ ls. ls ++ (lines_text (node_clauses t first last) ++ lines_text own)) (ap (λ f. up_to f last) (fun_ext at))
      ∙ ap (λ ls. lines_below t vs last ++ (ls ++ lines_text own)) (at last)
      ∙ ap (λ x. lines_below t vs last ++ (lines_text (clauses_at t vs last) ++ lines_text ((has_value x true ∷ []) ∷ []))) g

-- No name at a variable node is as high as the first gate.
pub highest_below : (ns ps xs : List ℕ) → highest_variable (table_of ns []) < first_gate (table_of ns []) (blocks_of ps xs)
highest_below ns ps xs = variable_below (table_of ns []) (blocks_of ps xs) (highest_variable (table_of ns [])) (omega arith)

module _ (ns ps xs names words : List ℕ) (o : Outline) (h : Outlined ns ps xs names words o) where
  abbrev t : Table
  t = table_of ns []

  abbrev bs : List Block
  bs = blocks_of ps xs

  abbrev variables : ℕ → ℕ
  variables = variable_of t o.first

  some : 0 < t.size
  some = h.form.matrix.proper.tree.nonempty

  below : highest_variable t < o.first
  below = omega (arith, h.first_is, highest_below ns ps xs)

  next_is : o.next ≡ o.first + gates_below t t.size
  unfolding table_of
  next_is = h.numbered.next_is

  -- Each variable can be written: a name is below the first gate, and a gate below the number after the last.
  pub next_some : 1 ≤ o.next
  next_some = omega (arith, next_is, gate_root t o.first some)

  pub gates_follow : o.first ≤ o.next
  gates_follow = omega (arith, next_is)

  pub next_low : o.next ≤ 118784
  unfolding table_of gates_below
  next_low = omega (arith, next_is, sum_digits (has_gate t) (node_count ns), h.form.matrix.nodes_limit, h.low)

  writable : (i : ℕ) → i < t.size → variables i < number_bound
  unfolding highest_variable
  writable i l = go (look (has_gate t i))
    where
      go : Is (has_gate t i) → variables i < number_bound
      go (is_true g) = omega (arith, variable_gate t o.first i g, gate_last t o.first i l g, next_is, next_low)
      go (is_false g) =
          omega (arith, variable_name t o.first i g, highest_ge (λ j. number_at (t.node j)) t.size i l, below, h.low)

  node_gate : (i a : ℕ) → i < t.size → mem a (operands (t.node i)) ≡ true → has_gate t i ≡ true
  unfolding has_gate table_of
  node_gate i a l m = or_left _ _ (uses_gate a (t.node i) (no_block 40960 77823 ns h.form.matrix i l) m)

  -- The array holds the words of the variables.
  pub words_held : WordsHeld t words
  unfolding table_of
  words_held =
      record {
        variables = variables;
        wide = h.wide;
        words_are = λ i l. record { word_of = h.numbered.filled i l; writable = writable i l };
        above = over;
        above_root = λ x e. omega (arith, name_under t o.first below (t.size - 1) x (omega (arith, some)) e, variable_gate t o.first (t.size - 1) (root_gate t some));
      }
    where
      over : (i a : ℕ) → i < t.size → mem a (operands (t.node i)) ≡ true → variables a < variables i
      over i a l m =
          omega (arith, variable_gate t o.first i (node_gate i a l m), operand_under t o.first below i a l (h.form.matrix.proper.tree.lower i a l m))

  -- The text.
  highest_is : gate_variable t (first_gate t bs) (t.size - 1) ≡ o.next - 1
  highest_is = ap (λ f. gate_variable t f (t.size - 1)) (sym h.first_is) ∙ omega (arith, gate_root t o.first some, next_is)

  count_is : length (matrix_clauses t (first_gate t bs)) ≡ o.clauses
  unfolding matrix_clauses table_of
  count_is =
      ap (λ f. length (matrix_clauses t f)) (sym h.first_is)
      ∙ length-append (up_to (node_clauses t o.first) t.size) _
      ∙ omega (arith, h.numbered.clauses_are)

  free_is : form_free_variables ns ps xs ≡ flagged_below names (suc o.highest)
  free_is =
      sym (flagged_list (form_free ns ps xs) names o.highest (form_free_variables ns ps xs) h.free
      (form_free-listed ns ps xs h.form.matrix.proper.tree))

  gates_are : gates_below t t.size ≡ o.next - o.first
  gates_are = omega (arith, next_is)

  clauses_are : lines_text (matrix_clauses t (first_gate t bs)) ≡ lines_below t variables (t.size - 1) ++ root_text t variables
  clauses_are = ap (λ f. lines_text (matrix_clauses t f)) (sym h.first_is) ∙ matrix_lines t o.first some

  header_is : header_text (gate_variable t (first_gate t bs) (t.size - 1)) (length (matrix_clauses t (first_gate t bs))) ≡ header_text (o.next - 1) o.clauses
  header_is = λ i. header_text (highest_is i) (count_is i)

  blocks_are : blocks_text (joined_blocks (filled_blocks (closed_blocks (form_free_variables ns ps xs) bs (numbers (first_gate t bs) (gates_below t t.size)))))
      ≡ lines_of_blocks ps xs names o
  blocks_are = λ i. blocks_text (joined_blocks (filled_blocks (closed_blocks (free_is i) bs (numbers (sym h.first_is i) (gates_are i)))))

  pieces : clauses_text ns ps xs
      ≡ header_text (o.next - 1) o.clauses
      ++ (lines_of_blocks ps xs names o ++ (lines_below t variables (t.size - 1) ++ root_text t variables))
  unfolding clauses_text form_problem matrix_problem blocks_text lines_text
  pieces =
      problem_text_lem (form_problem ns ps xs)
      ∙ (λ i. header_is i ++ (blocks_are i ++ clauses_are i))

  pub put_pieces : {l0 l1 l2 l3 l4 : List ℕ} {n1 n2 n3 n4 : ℕ} → Put l0 0 (header_text (o.next - 1) o.clauses) l1 n1
      → Loose l1 n1 (lines_of_blocks ps xs names o) l2 n2 → Loose l2 n2 (lines_below t words_held.variables (node_count ns - 1)) l3 n3
      → Put l3 n3 (root_text t words_held.variables) l4 n4 → Put l0 0 (clauses_text ns ps xs) l4 n4
  unfolding words_held table_of
  put_pieces d b g r =
      let e : clauses_text ns ps xs ≡ (header_text (o.next - 1) o.clauses ++ (lines_of_blocks ps xs names o ++ lines_below t variables (t.size - 1))) ++ root_text t variables =
      pieces
      ∙ ap (λ ls. header_text (o.next - 1) o.clauses ++ ls) (sym (append_assoc (lines_of_blocks ps xs names o) (lines_below t variables (t.size - 1)) (root_text t variables)))
      ∙ sym (append_assoc (header_text (o.next - 1) o.clauses) (lines_of_blocks ps xs names o ++ lines_below t variables (t.size - 1)) (root_text t variables)) in
      put_as e (loose_put (loose_then (put_loose d) (loose_then b g)) r (root_long ns words h.form.matrix words_held))
