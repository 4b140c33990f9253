-- The value of clauses: those that are written have the value of those that they are made of, and the clauses of a gate are true exactly if
-- the gate has the value of its node.
-- Assumes nothing.
use mathlib.Core.Path.{◌≡◌, refl, sym, ◌∙◌, ap, ap₂}
use mathlib.Core.Bool.{Bool, true, false, not, ◌&&◌, ◌||◌, xor, and_assoc}
use mathlib.Core.List.{List, [], ◌∷◌, ◌++◌}
use Prim.Native.Nat.{ℕ, zero, suc, ◌<◌}
use native.Mathlib.Omega.{arith}
use native.Mathlib.Nat.{not-suc-le-zero}
use lib.Dec.{eqb, ltb}
use borrow.Author.Tests.{eqb-true, ltb-true, ltb-false}
use Rattle.lists.specs.Choice.{pick, pick_yes, pick_no, Is, is_true, is_false, look, clash, and_left, and_right, and_both, or_left, or_right, or_cases}
use Rattle.lists.specs.Members.{mem}
use Rattle.lists.specs.Parts.{up_to}
use Rattle.lists.proofs.Members.{mem_head, mem_tail}
use Rattle.formula.specs.Node.{Node, constant, variable, negation, operator, block, operands, is_block}
use Rattle.formula.specs.Valuation.{Valuation}
use Rattle.formula.specs.Truth.{operator_value, node_value}
use Rattle.qdimacs.specs.Problem.{Literal, Clause, literal_value, clause_value, clauses_value}
use Rattle.qdimacs_form.specs.Clauses.{no_operand, one_operand, two_operands, gate_clauses, same_literal, opposite, without, once, holds_opposite, is_tautology, written_clauses}

-- Exclusive or, as a test.

pub xor_equal : (a b : Bool) → not (xor a b) ≡ true → a ≡ b
unfolding xor
xor_equal true true h = refl
xor_equal true false h = clash h refl
xor_equal false true h = clash h refl
xor_equal false false h = refl

pub equal_xor : (a b : Bool) → a ≡ b → not (xor a b) ≡ true
unfolding xor
equal_xor true b e = rw (← e)
equal_xor false b e = rw (← e)

other_signs : (a b : Bool) → xor a b ≡ true → a ≡ not b
unfolding xor
other_signs true true h = clash h refl
other_signs true false h = refl
other_signs false true h = refl
other_signs false false h = clash h refl

-- A literal or the opposite one is true.
one_sign : (a b : Bool) → (xor (not a) b || xor a b) ≡ true
unfolding xor
one_sign true true = refl
one_sign true false = refl
one_sign false true = refl
one_sign false false = refl

-- The clause of a gate's literal alone says its value.
value_said : (c b : Bool) → ((xor (not c) b || false) && true) ≡ not (xor b c)
unfolding xor
value_said true true = refl
value_said true false = refl
value_said false true = refl
value_said false false = refl

-- What is true without a part is true with it.
or_part : (a b c : Bool) → (a || c) ≡ true → (a || (b || c)) ≡ true
or_part true b c h = refl
or_part false b c h = or_right b c h

or_first : (a b c : Bool) → (a || b) ≡ true → (a || (b || c)) ≡ true
or_first true b c h = refl
or_first false b c h = or_left b c h

module _ (v : Valuation) where
  -- A literal written twice is written once.

  same_value : (l m : Literal) → same_literal l m ≡ true → literal_value m v ≡ literal_value l v
  unfolding same_literal literal_value
  same_value l m e =
      let x : l.variable ≡ m.variable = eqb-true _ _ (and_left (eqb l.variable m.variable) (not (xor l.minus m.minus)) e) in
      let s : l.minus ≡ m.minus = xor_equal _ _ (and_right (eqb l.variable m.variable) (not (xor l.minus m.minus)) e) in
      ap₂ (λ b y. xor b (v y)) (sym s) (sym x)

  without_false : (l : Literal) → literal_value l v ≡ false → (c : Clause) → clause_value (without l c) v ≡ clause_value c v
  unfolding without clause_value
  without_false l f [] = refl
  without_false l f (m ∷ ms) = go (look (same_literal l m)) (without_false l f ms)
    where
      go : Is (same_literal l m) → clause_value (without l ms) v ≡ clause_value ms v
          → clause_value (pick (same_literal l m) (without l ms) (m ∷ without l ms)) v ≡ (literal_value m v || clause_value ms v)
      go (is_true e) r =
          let n : literal_value m v ≡ false = same_value l m e ∙ f in
          ap (λ c. clause_value c v) (pick_yes _ _ _ e) ∙ r ∙ ap (λ b. b || clause_value ms v) (sym n)
      go (is_false e) r = ap (λ c. clause_value c v) (pick_no _ _ _ e) ∙ ap (λ b. literal_value m v || b) r

  without_value : (l : Literal) (c : Clause) → (literal_value l v || clause_value (without l c) v) ≡ (literal_value l v || clause_value c v)
  without_value l c = go (look (literal_value l v))
    where
      go : Is (literal_value l v) → (literal_value l v || clause_value (without l c) v) ≡ (literal_value l v || clause_value c v)
      go (is_true e) = or_left _ _ e ∙ sym (or_left _ _ e)
      go (is_false e) = ap (λ b. literal_value l v || b) (without_false l e c)

  once_value : (c : Clause) → clause_value (once c) v ≡ clause_value c v
  unfolding once clause_value
  once_value [] = refl
  once_value (l ∷ ls) = without_value l (once ls) ∙ ap (λ b. literal_value l v || b) (once_value ls)

  -- A clause that holds a variable and its opposite is true.

  opposite_value : (l m : Literal) → opposite l m ≡ true → (literal_value l v || literal_value m v) ≡ true
  unfolding opposite literal_value
  opposite_value l m e =
      let x : l.variable ≡ m.variable = eqb-true _ _ (and_left (eqb l.variable m.variable) (xor l.minus m.minus) e) in
      let s : l.minus ≡ not m.minus = other_signs _ _ (and_right (eqb l.variable m.variable) (xor l.minus m.minus) e) in
      ap₂ (λ b y. xor b (v y) || xor m.minus (v m.variable)) s x ∙ one_sign m.minus (v m.variable)

  holds_value : (l : Literal) (c : Clause) → holds_opposite l c ≡ true → (literal_value l v || clause_value c v) ≡ true
  unfolding holds_opposite clause_value
  holds_value l [] e = clash e refl
  holds_value l (m ∷ ms) e =
      or_cases (opposite l m) (holds_opposite l ms) e
      (λ h. or_first (literal_value l v) (literal_value m v) (clause_value ms v) (opposite_value l m h))
      (λ h. or_part (literal_value l v) (literal_value m v) (clause_value ms v) (holds_value l ms h))

  tautology_value : (c : Clause) → is_tautology c ≡ true → clause_value c v ≡ true
  unfolding is_tautology clause_value
  tautology_value [] e = clash e refl
  tautology_value (l ∷ ls) e =
      or_cases (holds_opposite l ls) (is_tautology ls) e (holds_value l ls) (λ h. or_right (literal_value l v) (clause_value ls v) (tautology_value ls h))

  -- The clauses that are written have the value of those that they are made of.
  pub written_value : (cs : List Clause) → clauses_value (written_clauses cs) v ≡ clauses_value cs v
  unfolding written_clauses clauses_value
  written_value [] = refl
  written_value (c ∷ cs) = go (look (is_tautology c)) (written_value cs)
    where
      go : Is (is_tautology c) → clauses_value (written_clauses cs) v ≡ clauses_value cs v
          → clauses_value (pick (is_tautology c) (written_clauses cs) (once c ∷ written_clauses cs)) v ≡ (clause_value c v && clauses_value cs v)
      go (is_true e) r =
          ap (λ l. clauses_value l v) (pick_yes _ _ _ e) ∙ r ∙ ap (λ b. b && clauses_value cs v) (sym (tautology_value c e))
      go (is_false e) r = ap (λ l. clauses_value l v) (pick_no _ _ _ e) ∙ ap₂ ◌&&◌ (once_value c) r

  -- Clauses one list after the other.

  pub clauses_append : (cs ds : List Clause) → clauses_value (cs ++ ds) v ≡ (clauses_value cs v && clauses_value ds v)
  unfolding clauses_value
  clauses_append [] ds = refl
  clauses_append (c ∷ cs) ds =
      ap (λ b. clause_value c v && b) (clauses_append cs ds) ∙ sym (and_assoc (clause_value c v) (clauses_value cs v) (clauses_value ds v))

  pub clauses_up_to : (g : ℕ → List Clause) (n : ℕ) → ((i : ℕ) → i < n → clauses_value (g i) v ≡ true) → clauses_value (up_to g n) v ≡ true
  unfolding up_to clauses_value
  clauses_up_to g zero each = refl
  clauses_up_to g (suc n) each =
      clauses_append (up_to g n) (g n)
      ∙ and_both (clauses_value (up_to g n) v) (clauses_value (g n) v) (clauses_up_to g n (λ i h. each i (omega arith))) (each n (omega arith))

  pub up_to_clauses : (g : ℕ → List Clause) (n i : ℕ) → i < n → clauses_value (up_to g n) v ≡ true → clauses_value (g i) v ≡ true
  unfolding up_to
  up_to_clauses g zero i h all = absurd (not-suc-le-zero h)
  up_to_clauses g (suc n) i h all = go (look (ltb i n)) (up_to_clauses g n i)
    where
      both : (clauses_value (up_to g n) v && clauses_value (g n) v) ≡ true
      both = sym (clauses_append (up_to g n) (g n)) ∙ all

      go : Is (ltb i n) → (i < n → clauses_value (up_to g n) v ≡ true → clauses_value (g i) v ≡ true) → clauses_value (g i) v ≡ true
      go (is_true l) next = next (ltb-true i n l) (and_left (clauses_value (up_to g n) v) (clauses_value (g n) v) both)
      go (is_false l) next =
          let e : i ≡ n = omega (arith, ltb-false i n l) in
          rw e (and_right (clauses_value (up_to g n) v) (clauses_value (g n) v) both)

  -- The clauses of a gate are true exactly if it has the value that its node has by what stands for its operands.

  pub gate_none : (g : ℕ) (c : Bool) → clauses_value (no_operand g c) v ≡ not (xor (v g) c)
  unfolding no_operand clauses_value clause_value literal_value
  gate_none g c = value_said c (v g)

  gate_one : (g : ℕ) (f : Bool → Bool) (x : ℕ) → clauses_value (one_operand g f x) v ≡ not (xor (v g) (f (v x)))
  unfolding one_operand clauses_value clause_value literal_value xor
  gate_one g f x = go (v x) refl
    where
      go : (a : Bool) → v x ≡ a → clauses_value (one_operand g f x) v ≡ not (xor (v g) (f (v x)))
      go true e = rw e (value_said (f true) (v g))
      go false e = rw e (value_said (f false) (v g))

  gate_two : (g : ℕ) (f : Bool → Bool → Bool) (x y : ℕ) → clauses_value (two_operands g f x y) v ≡ not (xor (v g) (f (v x) (v y)))
  unfolding two_operands clauses_value clause_value literal_value xor
  gate_two g f x y = go (v x) (v y) refl refl
    where
      go : (a b : Bool) → v x ≡ a → v y ≡ b → clauses_value (two_operands g f x y) v ≡ not (xor (v g) (f (v x) (v y)))
      go true true d e = rw (d, e) (value_said (f true true) (v g))
      go true false d e = rw (d, e) (value_said (f true false) (v g))
      go false true d e = rw (d, e) (value_said (f false true) (v g))
      go false false d e = rw (d, e) (value_said (f false false) (v g))

  pub gate_value_lem : (at : ℕ → ℕ) (g : ℕ) (nd : Node) → is_block nd ≡ false
      → clauses_value (gate_clauses at g nd) v ≡ not (xor (v g) (node_value (λ a u. u (at a)) nd v))
  unfolding gate_clauses node_value is_block
  gate_value_lem at g (constant c) p = gate_none g c
  gate_value_lem at g (variable x) p = gate_one g (λ a. a) x
  gate_value_lem at g (negation a) p = gate_one g not (at a)
  gate_value_lem at g (operator f a b) p = gate_two g (operator_value f) (at a) (at b)
  gate_value_lem at g (block q xs a) p = clash refl p

-- The value of a node other than a block under two valuations, if its operands have the same values under them and its name has.
pub node_same : (nd : Node) (f g : ℕ → Valuation → Bool) (v u : Valuation) → is_block nd ≡ false
    → ((a : ℕ) → mem a (operands nd) ≡ true → f a v ≡ g a u) → ((x : ℕ) → nd ≡ variable x → v x ≡ u x)
    → node_value f nd v ≡ node_value g nd u
unfolding node_value operands is_block
node_same (constant b) f g v u p same name = refl
node_same (variable x) f g v u p same name = name x refl
node_same (negation a) f g v u p same name = ap not (same a (mem_head a []))
node_same (operator o a b) f g v u p same name =
    ap₂ (operator_value o) (same a (mem_head a (b ∷ []))) (same b (mem_tail b a (b ∷ []) (mem_head b [])))
node_same (block q xs a) f g v u p same name = clash refl p
