-- The clauses of a gate as they are written: all of them if the variables are different; two of an operator whose operands are one variable.
-- Assumes nothing.
use mathlib.Core.Path.{◌≡◌, refl, ◌∙◌, ap}
use mathlib.Core.Bool.{Bool, true, false, not, xor}
use mathlib.Core.List.{List, [], ◌∷◌}
use Prim.Native.Nat.{ℕ}
use lib.Dec.{eqb}
use borrow.Author.Tests.{ne_eqb, eq-eqb}
use Rattle.lists.specs.Choice.{pick_yes, pick_no}
use Rattle.qdimacs.specs.Problem.{Literal, Clause}
use Rattle.qdimacs_form.specs.Clauses.{false_at, has_value, no_operand, one_operand, two_operands, same_literal, opposite, without, once, holds_opposite, is_tautology, written_clauses}

-- Two literals of different variables are neither the same nor opposite.
apart_same : (l m : Literal) → eqb l.variable m.variable ≡ false → same_literal l m ≡ false
unfolding same_literal
apart_same l m e = rw e refl

apart_opposite : (l m : Literal) → eqb l.variable m.variable ≡ false → opposite l m ≡ false
unfolding opposite
apart_opposite l m e = rw e refl

-- A literal is the same as itself, and not its own opposite.
no_xor : (b : Bool) → xor b b ≡ false
unfolding xor
no_xor true = refl
no_xor false = refl

self_same : (l : Literal) → same_literal l l ≡ true
unfolding same_literal
self_same l = rw (eq-eqb l.variable l.variable refl, no_xor l.minus) refl

self_opposite : (l : Literal) → opposite l l ≡ false
unfolding opposite
self_opposite l = rw (eq-eqb l.variable l.variable refl, no_xor l.minus) refl

-- A clause that is no tautology is written, and a tautology is not.
kept : (c : Clause) (cs : List Clause) → is_tautology c ≡ false → written_clauses (c ∷ cs) ≡ once c ∷ written_clauses cs
unfolding written_clauses
kept c cs e = pick_no _ _ _ e

dropped : (c : Clause) (cs : List Clause) → is_tautology c ≡ true → written_clauses (c ∷ cs) ≡ written_clauses cs
unfolding written_clauses
dropped c cs e = pick_yes _ _ _ e

nothing : written_clauses [] ≡ []
unfolding written_clauses
nothing = refl

-- Of different variables nothing goes.
one_plain : (l : Literal) → is_tautology (l ∷ []) ≡ false
unfolding is_tautology holds_opposite
one_plain l = refl

one_once : (l : Literal) → once (l ∷ []) ≡ l ∷ []
unfolding once without
one_once l = refl

module _ (l m : Literal) (e : eqb l.variable m.variable ≡ false) where
  two_plain : is_tautology (l ∷ m ∷ []) ≡ false
  unfolding is_tautology holds_opposite
  two_plain = rw (apart_opposite l m e) refl

  two_once : once (l ∷ m ∷ []) ≡ l ∷ m ∷ []
  unfolding once without
  two_once = ap (λ ms. l ∷ ms) (pick_no _ _ _ (apart_same l m e))

module _ (l m n : Literal) (e : eqb l.variable m.variable ≡ false) (f : eqb l.variable n.variable ≡ false)
    (h : eqb m.variable n.variable ≡ false) where
  three_plain : is_tautology (l ∷ m ∷ n ∷ []) ≡ false
  unfolding is_tautology holds_opposite
  three_plain = rw (apart_opposite l m e, apart_opposite l n f, apart_opposite m n h) refl

  without_both : without l (m ∷ n ∷ []) ≡ m ∷ n ∷ []
  unfolding without
  without_both = pick_no _ _ _ (apart_same l m e) ∙ ap (λ ms. m ∷ ms) (pick_no _ _ _ (apart_same l n f))

  three_once : once (l ∷ m ∷ n ∷ []) ≡ l ∷ m ∷ n ∷ []
  unfolding once
  three_once = ap (λ ms. l ∷ without l ms) (two_once m n h) ∙ ap (λ ms. l ∷ ms) without_both

-- The clauses of a gate without operands,
pub none_written_lem : (g : ℕ) (c : Bool) → written_clauses (no_operand g c) ≡ no_operand g c
unfolding no_operand
none_written_lem g c =
    kept (has_value g c ∷ []) [] (one_plain (has_value g c)) ∙ ap (λ d. d ∷ written_clauses []) (one_once (has_value g c)) ∙ ap (λ cs. (has_value g c ∷ []) ∷ cs) nothing

-- with one,
two_kept : (l m : Literal) (cs : List Clause) → eqb l.variable m.variable ≡ false
    → written_clauses ((l ∷ m ∷ []) ∷ cs) ≡ (l ∷ m ∷ []) ∷ written_clauses cs
two_kept l m cs e = kept _ cs (two_plain l m e) ∙ ap (λ d. d ∷ written_clauses cs) (two_once l m e)

pub one_written : (g : ℕ) (f : Bool → Bool) (x : ℕ) → (x ≡ g → ⊥) → written_clauses (one_operand g f x) ≡ one_operand g f x
unfolding one_operand
one_written g f x n =
    let e : eqb x g ≡ false = ne_eqb x g n in
    two_kept (false_at x false) (has_value g (f false)) _ e
    ∙ ap (λ cs. (false_at x false ∷ has_value g (f false) ∷ []) ∷ cs)
    (two_kept (false_at x true) (has_value g (f true)) [] e
    ∙ ap (λ cs. (false_at x true ∷ has_value g (f true) ∷ []) ∷ cs) nothing)

-- with two,
three_kept : (l m n : Literal) (cs : List Clause) → eqb l.variable m.variable ≡ false → eqb l.variable n.variable ≡ false
    → eqb m.variable n.variable ≡ false → written_clauses ((l ∷ m ∷ n ∷ []) ∷ cs) ≡ (l ∷ m ∷ n ∷ []) ∷ written_clauses cs
three_kept l m n cs e f h = kept _ cs (three_plain l m n e f h) ∙ ap (λ d. d ∷ written_clauses cs) (three_once l m n e f h)

pub two_written : (g : ℕ) (f : Bool → Bool → Bool) (x y : ℕ) → (x ≡ y → ⊥) → (x ≡ g → ⊥) → (y ≡ g → ⊥)
    → written_clauses (two_operands g f x y) ≡ two_operands g f x y
unfolding two_operands
two_written g f x y n p q =
    let e : eqb x y ≡ false = ne_eqb x y n in
    let d : eqb x g ≡ false = ne_eqb x g p in
    let h : eqb y g ≡ false = ne_eqb y g q in
    three_kept (false_at x false) (false_at y false) (has_value g (f false false)) _ e d h
    ∙ ap (λ cs. (false_at x false ∷ false_at y false ∷ has_value g (f false false) ∷ []) ∷ cs)
    (three_kept (false_at x false) (false_at y true) (has_value g (f false true)) _ e d h
    ∙ ap (λ cs. (false_at x false ∷ false_at y true ∷ has_value g (f false true) ∷ []) ∷ cs)
    (three_kept (false_at x true) (false_at y false) (has_value g (f true false)) _ e d h
    ∙ ap (λ cs. (false_at x true ∷ false_at y false ∷ has_value g (f true false) ∷ []) ∷ cs)
    (three_kept (false_at x true) (false_at y true) (has_value g (f true true)) [] e d h
    ∙ ap (λ cs. (false_at x true ∷ false_at y true ∷ has_value g (f true true) ∷ []) ∷ cs) nothing)))

-- and with two that are one variable: the rows in which both have the same value, the doubled literal once.
module _ (l m : Literal) (e : eqb l.variable m.variable ≡ false) where
  doubled_plain : is_tautology (l ∷ l ∷ m ∷ []) ≡ false
  unfolding is_tautology holds_opposite
  doubled_plain = rw (self_opposite l, apart_opposite l m e) refl

  gone : without l (l ∷ m ∷ []) ≡ m ∷ []
  unfolding without
  gone = pick_yes _ _ _ (self_same l) ∙ pick_no _ _ _ (apart_same l m e)

  doubled_once : once (l ∷ l ∷ m ∷ []) ≡ l ∷ m ∷ []
  unfolding once
  doubled_once = ap (λ ms. l ∷ without l ms) (two_once l m e) ∙ ap (λ ms. l ∷ ms) gone

torn : (x : ℕ) (a : Bool) (m : Literal) → is_tautology (false_at x a ∷ false_at x (not a) ∷ m ∷ []) ≡ true
unfolding is_tautology holds_opposite opposite xor
torn x true m = rw (eq-eqb x x refl) refl
torn x false m = rw (eq-eqb x x refl) refl

doubled_kept : (l m : Literal) (cs : List Clause) → eqb l.variable m.variable ≡ false
    → written_clauses ((l ∷ l ∷ m ∷ []) ∷ cs) ≡ (l ∷ m ∷ []) ∷ written_clauses cs
doubled_kept l m cs e = kept _ cs (doubled_plain l m e) ∙ ap (λ d. d ∷ written_clauses cs) (doubled_once l m e)

pub same_written : (g : ℕ) (f : Bool → Bool → Bool) (x : ℕ) → (x ≡ g → ⊥)
    → written_clauses (two_operands g f x x) ≡ one_operand g (λ a. f a a) x
unfolding two_operands one_operand
same_written g f x n =
    let e : eqb x g ≡ false = ne_eqb x g n in
    doubled_kept (false_at x false) (has_value g (f false false)) _ e
    ∙ ap (λ cs. (false_at x false ∷ has_value g (f false false) ∷ []) ∷ cs)
    (dropped _ _ (torn x false (has_value g (f false true)))
    ∙ dropped _ _ (torn x true (has_value g (f true false)))
    ∙ doubled_kept (false_at x true) (has_value g (f true true)) [] e
    ∙ ap (λ cs. (false_at x true ∷ has_value g (f true true) ∷ []) ∷ cs) nothing)
