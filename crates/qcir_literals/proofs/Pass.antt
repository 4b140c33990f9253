-- The pass upward, one node after the other.
-- Assumes nothing.
use mathlib.Core.Path.{◌≡◌, refl, sym, ◌∙◌, ap, subst}
use mathlib.Core.Bool.{Bool, true, false}
use mathlib.Core.List.{List}
use Prim.Native.Nat.{ℕ, zero, suc, ◌+◌, ◌<◌, ◌≤◌}
use native.Mathlib.Nat.{add-zero}
use native.Mathlib.Omega.{arith}
use lib.Dec.{eqb}
use lib.ListN.{length, get_or, set}
use borrow.Author.Tests.{eqb-true, eqb-false}
use Rattle.lists.specs.Choice.{Is, is_true, is_false, look, clash}
use Rattle.lists.specs.Members.{mem}
use Rattle.lists.specs.Parts.{sum}
use Rattle.lists.proofs.Stores.{set_cases}
use Rattle.formula.specs.Node.{Table}
use Rattle.formula.specs.Truth.{digit}
use Rattle.formula.specs.Tree.{Tree}
use Rattle.qcir_text.specs.Pieces.{literal_of, number_bound}
use Rattle.qcir_form.specs.File.{used_operands, has_gate, node_literal, written, is_gate, gate_number, node_literal_of}
use Rattle.qcir_form.proofs.Written.{written_down, written_from, used_lower, literal_used, literal_step}
use Rattle.qcir_literals.specs.Literals.{HoldsLiteral, FilledTo, Filled, WordFor, NodeFilled, skipped, stored}

-- Gate numbers.
digit_low : (b : Bool) → digit b ≤ 1
unfolding digit
digit_low true = omega arith
digit_low false = omega arith

module _ (t : Table) (first : ℕ) where
  gate_first : gate_number t first 0 ≡ first
  unfolding gate_number sum
  gate_first = add-zero first

  gate_next : (i : ℕ) → gate_number t first (suc i) ≡ gate_number t first i + digit (is_gate t i)
  unfolding gate_number sum
  gate_next i = omega arith

  -- one number at most for each node
  pub gate_low : (i : ℕ) → gate_number t first i ≤ first + i
  gate_low zero = omega (arith, gate_first)
  gate_low (suc i) = omega (arith, gate_low i, gate_next i, digit_low (is_gate t i))

  pub gate_from : (i : ℕ) → first ≤ gate_number t first i
  unfolding gate_number
  gate_from i = omega arith

mark_off : (b : Bool) → digit b ≡ 0 → b ≡ false
unfolding digit
mark_off true e = absurd (omega arith)
mark_off false e = refl

mark_on : (b : Bool) → (digit b ≡ 0 → ⊥) → b ≡ true
unfolding digit
mark_on true n = refl
mark_on false n = absurd (n refl)

mark_low : (b : Bool) → digit b < number_bound
unfolding digit
mark_low true = omega arith
mark_low false = omega arith

module _ (t : Table) (tr : Tree t) (first : ℕ) where
  pub fill_start : (ls : List ℕ) → ((j : ℕ) → get_or ls j 0 ≡ digit (written t j)) → FilledTo t first 0 ls first
  unfolding digit
  fill_start ls marked =
      record {
        filled = λ j h w. absurd (omega arith);
        blank = λ j w. marked j ∙ ap digit w;
        ahead = λ j h. marked j;
        low = λ j. subst (λ x. x < number_bound) (sym (marked j)) (mark_low (written t j));
        gate_is = sym (gate_first t first);
      }

  module _ (i : ℕ) (h : i < t.size) (ls : List ℕ) (room : i < length ls) (gate : ℕ) (f : FilledTo t first i ls gate) where
    -- a node that is not written
    skip_next : get_or ls i 0 ≡ 0 → FilledTo t first (suc i) ls gate
    unfolding is_gate digit
    skip_next z =
        let off : written t i ≡ false = mark_off (written t i) (sym (f.ahead i (omega arith)) ∙ z) in
        record {
          filled = λ j l w. go j l w off (look (eqb j i));
          blank = f.blank;
          ahead = λ j l. f.ahead j (omega arith);
          low = f.low;
          gate_is = f.gate_is ∙ sym (gate_next t first i ∙ rw off (add-zero (gate_number t first i)));
        }
      where
        go : (j : ℕ) → j < suc i → written t j ≡ true → written t i ≡ false → Is (eqb j i) → HoldsLiteral (get_or ls j 0) (node_literal_of t first j)
        go j l w off (is_true e) = clash w (ap (written t) (eqb-true j i e) ∙ off)
        go j l w off (is_false e) = let d = eqb-false j i e in f.filled j (omega arith) w

    -- one that is
    store_next : (get_or ls i 0 ≡ 0 → ⊥) → (word : ℕ) → WordFor (t.node i) ls gate word
        → FilledTo t first (suc i) (set ls i word) (gate + digit (has_gate (t.node i)))
    unfolding is_gate node_literal_of
    store_next n word v =
        record {
          filled = λ j l w. set_cases ls i word 0 room (λ x. HoldsLiteral x (node_literal_of t first j)) j (λ e. subst (λ m. HoldsLiteral word (node_literal_of t first m)) (sym e) own) (λ d. f.filled j (omega arith) w);
          blank = λ j w. set_cases ls i word 0 room (λ x. x ≡ 0) j (λ e. clash on (ap (written t) (sym e) ∙ w)) (λ d. f.blank j w);
          ahead = λ j l. set_cases ls i word 0 room (λ x. x ≡ digit (written t j)) j (λ e. absurd (omega arith)) (λ d. f.ahead j (omega arith));
          low = λ j. set_cases ls i word 0 room (λ x. x < number_bound) j (λ e. v.low) (λ d. f.low j);
          gate_is = ap (λ g. g + digit (has_gate (t.node i))) f.gate_is ∙ sym (gate_next t first i ∙ rw on);
        }
      where
        on : written t i ≡ true
        on = mark_on (written t i) (λ z. n (f.ahead i (omega arith) ∙ z))

        operand : (a : ℕ) → mem a (used_operands (t.node i)) ≡ true → HoldsLiteral (get_or ls a 0) (node_literal_of t first a)
        operand a m = f.filled a (used_lower t tr i a h m) (written_down t tr i a h on m)

        own : HoldsLiteral word (node_literal_of t first i)
        own =
            record {
              literal_is =
                  v.literal_is
                  ∙ literal_used (t.node i) gate (λ a. literal_of (get_or ls a 0)) (node_literal_of t first) (λ a m. (operand a m).literal_is)
                  ∙ ap (λ g. node_literal (node_literal_of t first) g (t.node i)) f.gate_is
                  ∙ sym (literal_step t tr (gate_number t first) i h);
              real = v.real (λ a m. (operand a m).real);
            }

    pub fill_next : (ls' : List ℕ) (gate' : ℕ) → NodeFilled (t.node i) i gate ls ls' gate' → FilledTo t first (suc i) ls' gate'
    fill_next ls' gate' (skipped z) = skip_next z
    fill_next ls' gate' (stored n word v) = store_next n word v

  pub fill_end : (ls : List ℕ) (gate : ℕ) → FilledTo t first t.size ls gate → Filled t first ls
  fill_end ls gate f =
      record { filled = λ j w. f.filled j (written_from t tr j w) w; blank = f.blank; low = f.low }
