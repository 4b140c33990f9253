-- The lines of the root are long enough to take the place of eight spoilt bytes.
-- Assumes nothing.
use mathlib.Core.Path.{◌≡◌, refl, sym, ◌∙◌, ap}
use mathlib.Core.Bool.{Bool, true, false}
use mathlib.Core.List.{List, []}
use Prim.Native.Nat.{ℕ, ◌-◌, ◌≤◌, ◌<◌}
use native.Mathlib.Omega.{arith}
use lib.Dec.{eqb}
use lib.ListN.{length, length-append}
use borrow.Author.Tests.{eqb-true, eqb-false}
use Rattle.lists.specs.Choice.{Is, is_true, is_false, look, clash}
use Rattle.formula.specs.Words.{node_count, words_at, table_of}
use Rattle.acceptance.specs.Accepted.{AcceptedWithin}
use Rattle.acceptance.proofs.Accepted.{Formed, formed_constant, formed_variable, formed_negation, formed_operator, formed_exists, formed_for_all, formed_cases}
use Rattle.form_check.specs.Verdict.{form_limits}
use Rattle.texts.proofs.Lengths.{some_digit}
use Rattle.qdimacs.specs.Problem.{Clause}
use Rattle.qdimacs_form.specs.Clauses.{has_value, no_operand, one_operand, two_operands, written_clauses}
use Rattle.qdimacs_form.proofs.Shapes.{two_written, same_written}
use Rattle.qdimacs_words.specs.Words.{literal_text}
use Rattle.qdimacs_rows.specs.Rows.{lines_text}
use Rattle.qdimacs_clauses.specs.Held.{WordsHeld, clauses_at, root_text}
use Rattle.qdimacs_words.proofs.Pieces.{positive_length}
use Rattle.qdimacs_rows.proofs.Lines.{minus_length, none_size, one_sizes, two_sizes}
use Rattle.qdimacs_clauses.proofs.Nodes.{constant_clauses, operator_clauses, negation_clauses, root_clauses, left_above, right_above}

-- A literal and the space behind it are two bytes at least, and a clause four.
value_long : (g : ℕ) (c : Bool) → 2 ≤ length (literal_text (has_value g c))
value_long g true = omega (arith, positive_length g, some_digit g)
value_long g false = omega (arith, minus_length g, some_digit g)

none_long : (g : ℕ) (c : Bool) → 4 ≤ length (lines_text (no_operand g c))
none_long g c = omega (arith, none_size g c, value_long g c)

one_long : (g : ℕ) (f : Bool → Bool) (x : ℕ) → 4 ≤ length (lines_text (one_operand g f x))
one_long g f x = omega (arith, one_sizes g f x, value_long g (f false))

two_long : (g : ℕ) (f : Bool → Bool → Bool) (x y : ℕ) → x < g → y < g → 4 ≤ length (lines_text (written_clauses (two_operands g f x y)))
two_long g f x y below lower = go (look (eqb x y))
  where
    go : Is (eqb x y) → 4 ≤ length (lines_text (written_clauses (two_operands g f x y)))
    go (is_true t) =
        let e : written_clauses (two_operands g f x y) ≡ one_operand g (λ p. f p p) x =
        ap (λ z. written_clauses (two_operands g f x z)) (sym (eqb-true x y t)) ∙ same_written g f x (λ q. omega arith) in
        omega (arith, ap (λ cs. length (lines_text cs)) e, one_long g (λ p. f p p) x)
    go (is_false t) =
        let e = two_written g f x y (eqb-false x y t) (λ q. omega arith) (λ q. omega arith) in
        omega (arith, ap (λ cs. length (lines_text cs)) e, two_sizes g f x y, value_long g (f false false))

module _ (ns words : List ℕ) (ok : AcceptedWithin form_limits ns []) (held : WordsHeld (table_of ns []) words) where
  abbrev root : ℕ
  root = node_count ns - 1

  root_low : root < node_count ns
  unfolding table_of
  root_low = omega (arith, ok.proper.tree.nonempty)

  gate_long : 4 ≤ length (lines_text (clauses_at (table_of ns []) held.variables root))
  gate_long = go (formed_cases form_limits (words_at ns root) (ok.formed root root_low))
    where
      v : ℕ → ℕ
      v = held.variables

      by : (cs : List Clause) → clauses_at (table_of ns []) v root ≡ cs → 4 ≤ length (lines_text cs)
          → 4 ≤ length (lines_text (clauses_at (table_of ns []) v root))
      by cs e l = rw e l

      go : Formed form_limits (words_at ns root) → 4 ≤ length (lines_text (clauses_at (table_of ns []) v root))
      go (formed_constant e _ _ _) = by _ (constant_clauses ns ok root root_low _ refl v e) (none_long _ _)
      go (formed_variable e _ _ _) = by _ (root_clauses ns ok root root_low _ refl words held e (omega (arith, root_low))) (one_long _ _ _)
      go (formed_negation e _ _) = by _ (negation_clauses ns ok root root_low _ refl words held e) (one_long _ _ _)
      go (formed_operator e _) =
          by _ (operator_clauses ns ok root root_low _ refl v e)
          (two_long _ _ _ _ (left_above ns ok root root_low _ refl words held e) (right_above ns ok root root_low _ refl words held e))
      go (formed_exists e p) = clash p refl
      go (formed_for_all e p) = clash p refl

  pub root_long : 8 ≤ length (root_text (table_of ns []) held.variables)
  unfolding root_text no_operand table_of
  root_long =
      let v : ℕ → ℕ = held.variables in
      omega (
        arith,
        length-append (lines_text (clauses_at (table_of ns []) v root)) (lines_text (no_operand (v root) true)),
        gate_long,
        none_long (v root) true,
      )
