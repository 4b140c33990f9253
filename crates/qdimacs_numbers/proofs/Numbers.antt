-- The pass that numbers the gates, one node after the other.
-- Assumes nothing.
use mathlib.Core.Path.{◌≡◌, refl, sym, ◌∙◌, ap}
use mathlib.Core.Bool.{true, false}
use mathlib.Core.List.{List}
use Prim.Native.Nat.{ℕ, suc, ◌+◌, ◌<◌}
use native.Mathlib.Nat.{add-zero}
use native.Mathlib.Omega.{arith}
use lib.ListN.{length, set, length-append}
use Rattle.lists.specs.Choice.{pick_no, Is, is_true, is_false, look}
use Rattle.lists.specs.Parts.{up_to, sum}
use Rattle.lists.proofs.Parts.{highest_ge}
use Rattle.lists.proofs.Stores.{set_cases}
use Rattle.formula.specs.Node.{variable, Table}
use Rattle.formula.specs.Truth.{digit}
use Rattle.formula.specs.FreeVariables.{number_at, highest_variable}
use Rattle.qdimacs_form.specs.Clauses.{has_gate, gates_below, gate_variable, variable_of, node_clauses}
use Rattle.qdimacs_words.specs.Words.{numeral_word}
use Rattle.qdimacs_form.proofs.Gates.{variable_gate, variable_name, gate_first, gate_next, gate_rises}
use Rattle.qdimacs_numbers.specs.Numbering.{WordsBelow, NumberedBelow}
use Rattle.qdimacs_numbers.specs.declared.Numbering.{Numbering}

module _ (t : Table) (first : ℕ) where
  -- One more node: with its variable stored,
  filled_next : (i : ℕ) (words : List ℕ) (w : ℕ) → i < length words → w ≡ numeral_word (variable_of t first i) → WordsBelow t first i words
      → WordsBelow t first (suc i) (set words i w)
  filled_next i words w h e done j l =
      set_cases words i w 0 h (λ u. u ≡ numeral_word (variable_of t first j)) j
      (λ q. e ∙ ap (λ k. numeral_word (variable_of t first k)) (sym q))
      (λ n. done j (omega arith))

  -- and its clauses.
  clauses_next : (i : ℕ) → length (up_to (node_clauses t first) (suc i)) ≡ length (up_to (node_clauses t first) i) + length (node_clauses t first i)
  unfolding up_to
  clauses_next i = length-append (up_to (node_clauses t first) i) (node_clauses t first i)

  -- No node is done: only the root's own clause is counted.
  pub number_start : (words : List ℕ) → NumberedBelow t first 0 words (record { next = first; clauses = 1 })
  unfolding gates_below sum up_to
  number_start words = record { filled = λ j l. absurd (omega arith); next_is = sym (add-zero first); clauses_are = refl }

  module _ (i : ℕ) (words : List ℕ) (room : i < length words) (s : Numbering) (done : NumberedBelow t first i words s) where
    -- A node without a gate: its own variable stands for it.
    pub number_name : has_gate t i ≡ false → (w : ℕ) → w ≡ numeral_word (number_at (t.node i)) → NumberedBelow t first (suc i) (set words i w) s
    unfolding gates_below sum digit node_clauses
    number_name g w e =
        let none : digit (has_gate t i) ≡ 0 = ap digit g in
        let no_clause : length (node_clauses t first i) ≡ 0 = ap length (pick_no _ _ _ g) in
        record {
          filled = filled_next i words w room (e ∙ ap numeral_word (sym (variable_name t first i g))) done.filled;
          next_is = omega (arith, done.next_is);
          clauses_are = omega (arith, done.clauses_are, clauses_next i);
        }

    -- A gate: it gets the next number.
    pub gate_filled : has_gate t i ≡ true → (w : ℕ) → w ≡ numeral_word s.next → WordsBelow t first (suc i) (set words i w)
    unfolding gate_variable
    gate_filled g w e = filled_next i words w room (e ∙ ap numeral_word (done.next_is ∙ sym (variable_gate t first i g))) done.filled

    pub number_gate : has_gate t i ≡ true → (w : ℕ) → w ≡ numeral_word s.next → (count : ℕ) → count ≡ length (node_clauses t first i)
        → NumberedBelow t first (suc i) (set words i w) (record { next = s.next + 1; clauses = s.clauses + count })
    unfolding gate_variable
    number_gate g w word count e =
        record {
          filled = gate_filled g w word;
          next_is = omega (arith, done.next_is, gate_next t first i g);
          clauses_are = omega (arith, done.clauses_are, clauses_next i);
        }

  -- If no name is as high as the first gate, a name is below every gate, and what stands for an operand is below the gate that uses it.
  module _ (above : highest_variable t < first) where
    number_low : (i : ℕ) → i < t.size → number_at (t.node i) < first
    unfolding highest_variable
    number_low i h = omega (arith, highest_ge (λ j. number_at (t.node j)) t.size i h)

    pub name_under : (i x : ℕ) → i < t.size → t.node i ≡ variable x → x < gate_variable t first i
    unfolding number_at
    name_under i x h v = omega (arith, number_low i h, ap number_at v, gate_first t first i)

    pub operand_under : (i a : ℕ) → i < t.size → a < i → variable_of t first a < gate_variable t first i
    operand_under i a h l = go (look (has_gate t a))
      where
        go : Is (has_gate t a) → variable_of t first a < gate_variable t first i
        go (is_true g) = omega (arith, variable_gate t first a g, gate_rises t first a i l g)
        go (is_false g) = omega (arith, variable_name t first a g, number_low a (omega arith), gate_first t first i)
