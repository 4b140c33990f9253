-- The lines of a gate's clauses as the bytes of their literals, and how long they are.
-- Assumes nothing.
use mathlib.Core.Path.{◌≡◌, refl, ◌∙◌, ap}
use mathlib.Core.Bool.{Bool, true, false}
use mathlib.Core.List.{List, [], ◌∷◌, ◌++◌, flat_map, append_assoc, append-nil}
use Prim.Native.Nat.{ℕ, ◌+◌, ◌*◌, ◌/◌, ◌%◌, ◌≤◌, ◌<◌}
use native.Mathlib.Omega.{arith}
use lib.Dec.{eqb}
use lib.ListN.{length, length-append}
use borrow.Author.Tests.{eqb-true, eqb-false}
use Rattle.lists.specs.Choice.{Is, is_true, is_false, look}
use Rattle.formula.specs.Truth.{bit, digit, operator_value}
use Rattle.texts.specs.Numerals.{digits}
use Rattle.qdimacs.specs.Problem.{Literal, Clause}
use Rattle.qdimacs.specs.Spelling.{clause_line}
use Rattle.qdimacs.specs.Text.{line_text}
use Rattle.qdimacs.proofs.Lines.{clause_text}
use Rattle.qdimacs_form.specs.Clauses.{false_at, has_value, no_operand, one_operand, two_operands}
use Rattle.qdimacs_words.specs.declared.Piece.{Piece}
use Rattle.qdimacs_words.specs.Words.{literal_text, PieceHolds}
use Rattle.qdimacs_words.proofs.Pieces.{negative_text, positive_length}
use Rattle.qdimacs_rows.specs.Rows.{lines_text}

-- The end of a clause.
abbrev pub ended : List ℕ
ended = 48 ∷ 10 ∷ []

-- A clause of one literal, of two and of three.
line_one : (l : Literal) → line_text (clause_line (l ∷ [])) ≡ literal_text l ++ ended
unfolding flat_map literal_text
line_one l = clause_text (l ∷ []) ∙ simp (append_assoc, append-nil)

line_two : (l m : Literal) → line_text (clause_line (l ∷ m ∷ [])) ≡ literal_text l ++ (literal_text m ++ ended)
unfolding flat_map literal_text
line_two l m = clause_text (l ∷ m ∷ []) ∙ simp (append_assoc, append-nil)

line_three : (l m n : Literal) → line_text (clause_line (l ∷ m ∷ n ∷ [])) ≡ literal_text l ++ (literal_text m ++ (literal_text n ++ ended))
unfolding flat_map literal_text
line_three l m n = clause_text (l ∷ m ∷ n ∷ []) ∙ simp (append_assoc, append-nil)

-- One clause after the other.
lines_next : (c : Clause) (cs : List Clause) → lines_text (c ∷ cs) ≡ line_text (clause_line c) ++ lines_text cs
unfolding lines_text flat_map
lines_next c cs = refl

lines_last : (c : Clause) → lines_text (c ∷ []) ≡ line_text (clause_line c)
unfolding lines_text flat_map
lines_last c = append-nil (line_text (clause_line c))

-- The lines of a gate without operands,
pub none_lines : (g : ℕ) (c : Bool) → lines_text (no_operand g c) ≡ literal_text (has_value g c) ++ ended
unfolding no_operand
none_lines g c = lines_last (has_value g c ∷ []) ∙ line_one (has_value g c)

-- with one: the row in which it has this value,
abbrev pub one_row : ℕ → (Bool → Bool) → ℕ → Bool → List ℕ
one_row g f x p = literal_text (false_at x p) ++ (literal_text (has_value g (f p)) ++ ended)

pub one_lines : (g : ℕ) (f : Bool → Bool) (x : ℕ) → lines_text (one_operand g f x) ≡ one_row g f x false ++ one_row g f x true
unfolding one_operand
one_lines g f x =
    lines_next (false_at x false ∷ has_value g (f false) ∷ []) _
    ∙ (λ i. line_two (false_at x false) (has_value g (f false)) i ++ (lines_last _ ∙ line_two (false_at x true) (has_value g (f true))) i)

-- and with two.
abbrev pub two_row : ℕ → (Bool → Bool → Bool) → ℕ → ℕ → Bool → Bool → List ℕ
two_row g f x y p q = literal_text (false_at x p) ++ (literal_text (false_at y q) ++ (literal_text (has_value g (f p q)) ++ ended))

pub two_lines : (g : ℕ) (f : Bool → Bool → Bool) (x y : ℕ) → lines_text (two_operands g f x y)
    ≡ two_row g f x y false false ++ (two_row g f x y false true ++ (two_row g f x y true false ++ two_row g f x y true true))
unfolding two_operands
two_lines g f x y =
    row false false _
    ∙ ap (λ rest. two_row g f x y false false ++ rest)
    (row false true _
    ∙ ap (λ rest. two_row g f x y false true ++ rest)
    (row true false _
    ∙ ap (λ rest. two_row g f x y true false ++ rest) (lines_last _ ∙ line_three (false_at x true) (false_at y true) (has_value g (f true true)))))
  where
    row : (p q : Bool) (cs : List Clause)
        → lines_text ((false_at x p ∷ false_at y q ∷ has_value g (f p q) ∷ []) ∷ cs) ≡ two_row g f x y p q ++ lines_text cs
    row p q cs = lines_next _ cs ∙ ap (λ l. l ++ lines_text cs) (line_three (false_at x p) (false_at y q) (has_value g (f p q)))

-- How long a literal with a minus sign is, with the space behind it.
pub minus_length : (x : ℕ) → length (literal_text (false_at x true)) ≡ length (digits x) + 2
minus_length x = ap length (negative_text x) ∙ omega (arith, length-append (digits x) (32 ∷ []))

value_length : (g : ℕ) (c : Bool) → length (literal_text (has_value g c)) + digit c ≡ length (digits g) + 2
unfolding digit
value_length g true = omega (arith, positive_length g)
value_length g false = omega (arith, minus_length g)

-- The bits of a truth table are the values of its rows.
module _ (table : ℕ) where
  pub bit_none : eqb (table % 2) 1 ≡ operator_value table false false
  unfolding operator_value bit digit
  bit_none = let e : table ≡ table / 1 = omega arith in ap (λ n. eqb (n % 2) 1) e

  pub bit_right : eqb (table / 2 % 2) 1 ≡ operator_value table false true
  unfolding operator_value bit digit
  bit_right = refl

  pub bit_left : eqb (table / 4 % 2) 1 ≡ operator_value table true false
  unfolding operator_value bit digit
  bit_left = refl

  pub bit_both : table < 16 → eqb (table / 8) 1 ≡ operator_value table true true
  unfolding operator_value bit digit
  bit_both h = let e : table / 8 ≡ table / 8 % 2 = omega arith in ap (λ n. eqb n 1) e

-- A word that is 0 or 1 is the digit of its test.
binary : (n : ℕ) → n ≤ 1 → n ≡ digit (eqb n 1)
unfolding digit
binary n h = go (look (eqb n 1))
  where
    go : Is (eqb n 1) → n ≡ digit (eqb n 1)
    go (is_true t) = eqb-true n 1 t ∙ rw t refl
    go (is_false t) = let z : n ≡ 0 = omega (arith, eqb-false n 1 t) in z ∙ rw t refl

bit_digit : {n : ℕ} {b : Bool} → n ≤ 1 → eqb n 1 ≡ b → n ≡ digit b
bit_digit {n} h e = binary n h ∙ ap digit e

-- How long the lines are, by their literals.
pub none_size : (g : ℕ) (c : Bool) → length (lines_text (no_operand g c)) ≡ length (literal_text (has_value g c)) + 2
none_size g c = ap length (none_lines g c) ∙ length-append (literal_text (has_value g c)) ended

pub one_sizes : (g : ℕ) (f : Bool → Bool) (x : ℕ) → length (lines_text (one_operand g f x))
    ≡ (length (literal_text (false_at x false)) + (length (literal_text (has_value g (f false))) + 2))
    + (length (literal_text (false_at x true)) + (length (literal_text (has_value g (f true))) + 2))
one_sizes g f x = ap length (one_lines g f x) ∙ simp length-append

module _ (g : ℕ) (f : Bool → Bool → Bool) (x y : ℕ) where
  abbrev row_size : Bool → Bool → ℕ
  row_size p q = length (literal_text (false_at x p)) + (length (literal_text (false_at y q)) + (length (literal_text (has_value g (f p q))) + 2))

  pub two_sizes : length (lines_text (two_operands g f x y)) ≡ row_size false false + (row_size false true + (row_size true false + row_size true true))
  two_sizes = ap length (two_lines g f x y) ∙ simp length-append

-- Of two operands it is also known by the truth table: four rows of the numbers, with a minus sign wherever no 1 spares it.
pub two_length : (table g x y : ℕ) → table < 16
    → length (lines_text (two_operands g (operator_value table) x y)) + (table % 2 + table / 2 % 2 + table / 4 % 2 + table / 8)
    ≡ 4 * (length (literal_text (false_at x false)) + length (literal_text (false_at y false)) + length (literal_text (false_at g false))) + 16
two_length table g x y h =
    let f : Bool → Bool → Bool = operator_value table in
    let s = two_sizes g f x y in
    omega (
      arith,
      s,
      bit_digit (omega arith) (bit_none table),
      bit_digit (omega arith) (bit_right table),
      bit_digit (omega arith) (bit_left table),
      bit_digit (omega arith) (bit_both table h),
      value_length g (f false false),
      value_length g (f false true),
      value_length g (f true false),
      value_length g (f true true),
      positive_length x,
      positive_length y,
      positive_length g,
      minus_length x,
      minus_length y,
    )

-- A literal of a value by another name of it.
pub says : {p : Piece} (g : ℕ) {b c : Bool} → b ≡ c → PieceHolds p (literal_text (has_value g b)) → PieceHolds p (literal_text (has_value g c))
says g e h = rw (← e) h
