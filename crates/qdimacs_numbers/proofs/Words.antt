-- The gate of a node of a matrix, by the node's words.
-- Assumes nothing.
use mathlib.Core.Path.{◌≡◌, refl, sym, ◌∙◌, ap}
use mathlib.Core.Bool.{Bool, true, false, not, ◌&&◌}
use mathlib.Core.List.{List, [], ◌∷◌}
use Prim.Native.Nat.{ℕ, suc, ◌+◌, ◌-◌, ◌<◌, ◌≤◌}
use native.Mathlib.Omega.{arith}
use lib.Dec.{eqb, ltb}
use lib.ListN.{length, get_or, set}
use borrow.Author.Tests.{eqb-true, eqb-false, eq-eqb, ne_eqb, ltb-true, ltb-false}
use Rattle.lists.specs.Choice.{pick_yes, Is, is_true, is_false, look, clash, and_left, and_right, and_both, or_left, or_right, or_neither}
use Rattle.lists.specs.Members.{mem}
use Rattle.lists.proofs.Members.{mem_head, mem_tail}
use Rattle.formula.specs.Node.{Node, operands}
use Rattle.formula.specs.Words.{node_count, field, words_at, node_at, table_of}
use Rattle.formula.specs.Truth.{operator_value}
use Rattle.formula.specs.FreeVariables.{number_at, highest_variable}
use Rattle.formula.specs.declared.NodeWords.{NodeWords}
use Rattle.formula.proofs.Nodes.{node_constant, node_variable, node_negation, node_operator}
use Rattle.acceptance.specs.Limits.{matrix_within}
use Rattle.acceptance.specs.Accepted.{AcceptedWithin}
use Rattle.acceptance.proofs.Accepted.{Formed, formed_constant, formed_variable, formed_negation, formed_operator, formed_exists, formed_for_all, formed_cases}
use Rattle.qdimacs_form.specs.Clauses.{is_gate_node, has_gate, gate_variable, variable_of, gate_clauses, written_clauses, node_clauses}
use Rattle.texts.specs.Bounds.{number_bound}
use Rattle.qdimacs_words.specs.Words.{numeral_word}
use Rattle.qdimacs_numbers.specs.Numbering.{WordsBelow, NumberedBelow, clause_count}
use Rattle.qdimacs_numbers.specs.declared.Numbering.{Numbering}
use Rattle.qdimacs_numbers.proofs.Counts.{constant_written, operand_written, operands_written, count_words}
use Rattle.qdimacs_numbers.proofs.Flags.{name_low}
use Rattle.qdimacs_numbers.proofs.Numbers.{name_under, operand_under, number_name, gate_filled, number_gate}

-- A matrix may hold so many nodes and numbers up to this one.
module _ (nodes most : ℕ) (ns : List ℕ) (ok : AcceptedWithin (matrix_within nodes most) ns []) (i : ℕ) (h : i < node_count ns) where
  formed : Formed (matrix_within nodes most) (words_at ns i)
  formed = formed_cases (matrix_within nodes most) (words_at ns i) (ok.formed i h)

  -- Every node but a variable has a gate,
  other_gate : (field ns i 0 ≡ 2 → ⊥) → is_gate_node (node_at ns [] i) ≡ true
  unfolding is_gate_node
  other_gate n = go formed
    where
      go : Formed (matrix_within nodes most) (words_at ns i) → is_gate_node (node_at ns [] i) ≡ true
      go (formed_constant e _ _ _) = ap is_gate_node (node_constant ns [] i e)
      go (formed_variable e _ _ _) = absurd (n e)
      go (formed_negation e _ _) = ap is_gate_node (node_negation ns [] i e)
      go (formed_operator e _) = ap is_gate_node (node_operator ns [] i e)
      go (formed_exists e p) = clash p refl
      go (formed_for_all e p) = clash p refl

  -- and so has the root.
  abbrev plain : Bool
  plain = eqb (field ns i 0) 2 && ltb i (node_count ns - 1)

  gate_else : plain ≡ false → has_gate (table_of ns []) i ≡ true
  unfolding has_gate table_of
  gate_else p = go (look (eqb (field ns i 0) 2)) (look (ltb i (node_count ns - 1)))
    where
      go : Is (eqb (field ns i 0) 2) → Is (ltb i (node_count ns - 1)) → has_gate (table_of ns []) i ≡ true
      go (is_true e) (is_true l) = clash (and_both _ _ e l) p
      go (is_true e) (is_false l) =
          let last : suc i ≡ node_count ns = omega (arith, ltb-false i (node_count ns - 1) l) in
          or_right (is_gate_node (node_at ns [] i)) _ (eq-eqb (suc i) (node_count ns) last)
      go (is_false e) _ = or_left (is_gate_node (node_at ns [] i)) _ (other_gate (eqb-false (field ns i 0) 2 e))

  no_gate : plain ≡ true → has_gate (table_of ns []) i ≡ false
  unfolding has_gate table_of is_gate_node
  no_gate p =
      let e : field ns i 0 ≡ 2 = eqb-true (field ns i 0) 2 (and_left (eqb (field ns i 0) 2) _ p) in
      let l : i < node_count ns - 1 = ltb-true i (node_count ns - 1) (and_right (eqb (field ns i 0) 2) _ p) in
      or_neither (is_gate_node (node_at ns [] i)) _ (ap is_gate_node (node_variable ns [] i e)) (ne_eqb (suc i) (node_count ns) (λ q. omega arith))

  plain_number : plain ≡ true → field ns i 1 ≡ number_at (node_at ns [] i)
  unfolding number_at
  plain_number p = sym (ap number_at (node_variable ns [] i (eqb-true (field ns i 0) 2 (and_left (eqb (field ns i 0) 2) _ p))))

  -- Operands are lower.
  module _ (e : field ns i 0 ≡ 4) where
    lower : (a : ℕ) → mem a (field ns i 2 ∷ field ns i 3 ∷ []) ≡ true → a < i
    unfolding table_of operands
    lower a m = ok.proper.tree.lower i a h (ap (λ nd. mem a (operands nd)) (node_operator ns [] i e) ∙ m)

    left_low : field ns i 2 < i
    left_low = lower (field ns i 2) (mem_head (field ns i 2) _)

    right_low : field ns i 3 < i
    right_low = lower (field ns i 3) (mem_tail (field ns i 3) (field ns i 2) _ (mem_head (field ns i 3) []))

  lower_negation : field ns i 0 ≡ 3 → field ns i 1 < i
  unfolding table_of operands
  lower_negation e = ok.proper.tree.lower i (field ns i 1) h (ap (λ nd. mem (field ns i 1) (operands nd)) (node_negation ns [] i e) ∙ mem_head (field ns i 1) [])

  -- The count of a gate's clauses, the words of the nodes before it being in the array.
  module _ (first : ℕ) (above : highest_variable (table_of ns []) < first) (low : gate_variable (table_of ns []) first i < number_bound) (words : List ℕ)
      (filled : WordsBelow (table_of ns []) first i words) where
    abbrev written : Node → ℕ
    written nd = length (written_clauses (gate_clauses (variable_of (table_of ns []) first) (gate_variable (table_of ns []) first i) nd))

    abbrev counted : ℕ
    counted = clause_count (words_at ns i) (get_or words (field ns i 2) 0) (get_or words (field ns i 3) 0)

    gate_written : counted ≡ written (node_at ns [] i)
    unfolding gate_clauses table_of
    gate_written = go formed
      where
        go : Formed (matrix_within nodes most) (words_at ns i) → counted ≡ written (node_at ns [] i)
        go (formed_constant e _ _ _) = constant_written (words_at ns i) _ _ _ e _ ∙ ap written (sym (node_constant ns [] i e))
        go (formed_variable e _ _ _) =
            let under = name_under (table_of ns []) first above i (field ns i 1) h (node_variable ns [] i e) in
            operand_written (words_at ns i) _ _ _ (λ k. omega arith) (λ k. omega arith) (λ a. a) (field ns i 1) (λ q. omega arith)
            ∙ ap written (sym (node_variable ns [] i e))
        go (formed_negation e _ _) =
            let under = operand_under (table_of ns []) first above i (field ns i 1) h (lower_negation e) in
            operand_written (words_at ns i) _ _ _ (λ k. omega arith) (λ k. omega arith) not _ (λ q. omega arith)
            ∙ ap written (sym (node_negation ns [] i e))
        go (formed_operator e _) =
            let left = operand_under (table_of ns []) first above i (field ns i 2) h (left_low e) in
            let right = operand_under (table_of ns []) first above i (field ns i 3) h (right_low e) in
            rw (filled (field ns i 2) (left_low e), filled (field ns i 3) (right_low e))
            (count_words (words_at ns i) _ _ (omega arith) (omega arith)
            ∙ operands_written (words_at ns i) _ _ _ e (operator_value (field ns i 1)) (λ q. omega arith) (λ q. omega arith)
            ∙ ap written (sym (node_operator ns [] i e)))
        go (formed_exists e p) = clash p refl
        go (formed_for_all e p) = clash p refl

    gate_count : has_gate (table_of ns []) i ≡ true → counted ≡ length (node_clauses (table_of ns []) first i)
    unfolding node_clauses table_of
    gate_count g = gate_written ∙ ap length (sym (pick_yes _ _ _ g))

  -- One node of the pass, w being its words as they are read.
  module _ (w : NodeWords) (r : w ≡ words_at ns i) (words : List ℕ) (room : i < length words) where
    pub operands_room : w.kind ≡ 4 → (w.b < length words) × (w.c < length words)
    operands_room e =
        let k : field ns i 0 ≡ 4 = ap (λ (v : NodeWords). v.kind) (sym r) ∙ e in
        (omega (arith, left_low k, ap (λ (v : NodeWords). v.b) r), omega (arith, right_low k, ap (λ (v : NodeWords). v.c) r))

    abbrev plain_words : Bool
    plain_words = eqb w.kind 2 && ltb i (node_count ns - 1)

    as_read : plain_words ≡ plain
    as_read = ap (λ (v : NodeWords). eqb v.kind 2 && ltb i (node_count ns - 1)) r

    -- the number at a variable node can be written
    pub number_low : eqb w.kind 2 ≡ true → w.a ≤ most
    number_low p =
        let e : field ns i 0 ≡ 2 = ap (λ (v : NodeWords). v.kind) (sym r) ∙ eqb-true w.kind 2 p in
        omega (arith, name_low nodes most ns ok i h e, ap (λ (v : NodeWords). v.a) r)

    module _ (first : ℕ) (s : Numbering) (done : NumberedBelow (table_of ns []) first i words s) where
      pub node_named : plain_words ≡ true → (word : ℕ) → word ≡ numeral_word w.a → NumberedBelow (table_of ns []) first (suc i) (set words i word) s
      unfolding table_of
      node_named p word e =
          let q : plain ≡ true = sym as_read ∙ p in
          number_name (table_of ns []) first i words room s done (no_gate q) word
          (e ∙ ap numeral_word (ap (λ (v : NodeWords). v.a) r ∙ plain_number q))

      pub node_gated : plain_words ≡ false → highest_variable (table_of ns []) < first → s.next < number_bound
          → (word : ℕ) → word ≡ numeral_word s.next → (count : ℕ)
          → count ≡ clause_count w (get_or (set words i word) w.b 0) (get_or (set words i word) w.c 0)
          → NumberedBelow (table_of ns []) first (suc i) (set words i word) (record { next = s.next + 1; clauses = s.clauses + count })
      unfolding gate_variable
      node_gated p above low word word_is count e =
          let g = gate_else (sym as_read ∙ p) in
          let us : List ℕ = set words i word in
          let filled : WordsBelow (table_of ns []) first i us =
          λ j l. gate_filled (table_of ns []) first i words room s done g word word_is j (omega arith) in
          number_gate (table_of ns []) first i words room s done g word word_is count
          (e ∙ ap (λ (v : NodeWords). clause_count v (get_or us v.b 0) (get_or us v.c 0)) r
          ∙ gate_count first above (omega (arith, done.next_is)) us filled g)
