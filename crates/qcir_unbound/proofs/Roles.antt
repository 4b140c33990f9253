-- What the walk asks of each role, and tokens held in arrays.
-- Assumes nothing.
use mathlib.Core.Path.{◌≡◌, refl, sym, ◌∙◌, ap, subst}
use mathlib.Core.Bool.{Bool, true, false}
use mathlib.Core.List.{List, [], ◌∷◌, ◌++◌}
use Prim.Native.Nat.{ℕ, suc, ◌+◌}
use native.Mathlib.Omega.{arith}
use lib.ListN.{length}
use Rattle.formula.specs.Node.{Quantifier, exists, for_all}
use Rattle.qcir.specs.File.{Name, Literal, conjunction, disjunction, Gate, junction_gate, xor_gate, quantifier_gate, gate_name, gate_variables, gate_inputs, Line, numbers_of, prefix_variables, line_variables}
use Rattle.qcir_tokens.specs.Tokens.{Token, token, free_role, line_role, later_role, output_role, junction_role, xor_role, quantifier_role, bound_role, input_role, empty_role, is_outer, is_output, is_definition, is_bound, is_input, is_use, is_last, list_tokens, free_tokens, prefix_tokens, inputs_tokens, any_inputs_tokens, gate_tokens}
use Rattle.qcir_unbound.specs.Steps.{Tokens, is_end, is_above}

-- The answers to the tests of a role.
pub record Tests (r : ℕ) (uses outer end above definition bound : Bool) : Type 0 where
  pub use_is : is_use r ≡ uses
  pub outer_is : is_outer r ≡ outer
  pub end_is : is_end r ≡ end
  pub above_is : is_above r ≡ above
  pub definition_is : is_definition r ≡ definition
  pub bound_is : is_bound r ≡ bound

unfoldable pub definition_role : Gate → ℕ
definition_role (junction_gate j g ls) = junction_role j
definition_role (xor_gate g l r) = xor_role
definition_role (quantifier_gate q g x xs l) = quantifier_role q

pub definition_tests : (g : Gate) → Tests (definition_role g) false false false false true false
unfolding definition_role junction_role quantifier_role is_use is_input is_output is_outer is_bound is_end is_last is_above is_definition
definition_tests (junction_gate conjunction g ls) = record { use_is = refl; outer_is = refl; end_is = refl; above_is = refl; definition_is = refl; bound_is = refl }
definition_tests (junction_gate disjunction g ls) = record { use_is = refl; outer_is = refl; end_is = refl; above_is = refl; definition_is = refl; bound_is = refl }
definition_tests (xor_gate g l r) = record { use_is = refl; outer_is = refl; end_is = refl; above_is = refl; definition_is = refl; bound_is = refl }
definition_tests (quantifier_gate exists g x xs l) = record { use_is = refl; outer_is = refl; end_is = refl; above_is = refl; definition_is = refl; bound_is = refl }
definition_tests (quantifier_gate for_all g x xs l) = record { use_is = refl; outer_is = refl; end_is = refl; above_is = refl; definition_is = refl; bound_is = refl }

bound_tests : (last : Bool) → Tests (bound_role last) false false false false false true
unfolding bound_role is_use is_input is_output is_outer is_bound is_end is_last is_above is_definition
bound_tests false = record { use_is = refl; outer_is = refl; end_is = refl; above_is = refl; definition_is = refl; bound_is = refl }
bound_tests true = record { use_is = refl; outer_is = refl; end_is = refl; above_is = refl; definition_is = refl; bound_is = refl }

pub input_tests : (minus last : Bool) → Tests (input_role minus last) true false last false false false
unfolding input_role is_use is_input is_output is_outer is_bound is_end is_last is_above is_definition
input_tests false false = record { use_is = refl; outer_is = refl; end_is = refl; above_is = refl; definition_is = refl; bound_is = refl }
input_tests true false = record { use_is = refl; outer_is = refl; end_is = refl; above_is = refl; definition_is = refl; bound_is = refl }
input_tests false true = record { use_is = refl; outer_is = refl; end_is = refl; above_is = refl; definition_is = refl; bound_is = refl }
input_tests true true = record { use_is = refl; outer_is = refl; end_is = refl; above_is = refl; definition_is = refl; bound_is = refl }

pub empty_tests : Tests empty_role false false true false false false
unfolding is_use is_input is_output is_outer is_bound is_end is_last is_above is_definition
empty_tests = record { use_is = refl; outer_is = refl; end_is = refl; above_is = refl; definition_is = refl; bound_is = refl }

pub output_tests : (minus : Bool) → Tests (output_role minus) true false true true false false
unfolding output_role is_use is_input is_output is_outer is_bound is_end is_last is_above is_definition
output_tests false = record { use_is = refl; outer_is = refl; end_is = refl; above_is = refl; definition_is = refl; bound_is = refl }
output_tests true = record { use_is = refl; outer_is = refl; end_is = refl; above_is = refl; definition_is = refl; bound_is = refl }

free_tests : (head last : Bool) → Tests (free_role head last) false true false true false false
unfolding free_role is_use is_input is_output is_outer is_bound is_end is_last is_above is_definition
free_tests true false = record { use_is = refl; outer_is = refl; end_is = refl; above_is = refl; definition_is = refl; bound_is = refl }
free_tests true true = record { use_is = refl; outer_is = refl; end_is = refl; above_is = refl; definition_is = refl; bound_is = refl }
free_tests false false = record { use_is = refl; outer_is = refl; end_is = refl; above_is = refl; definition_is = refl; bound_is = refl }
free_tests false true = record { use_is = refl; outer_is = refl; end_is = refl; above_is = refl; definition_is = refl; bound_is = refl }

line_tests : (q : Quantifier) (last : Bool) → Tests (line_role q last) false true false true false false
unfolding line_role is_use is_input is_output is_outer is_bound is_end is_last is_above is_definition
line_tests exists false = record { use_is = refl; outer_is = refl; end_is = refl; above_is = refl; definition_is = refl; bound_is = refl }
line_tests exists true = record { use_is = refl; outer_is = refl; end_is = refl; above_is = refl; definition_is = refl; bound_is = refl }
line_tests for_all false = record { use_is = refl; outer_is = refl; end_is = refl; above_is = refl; definition_is = refl; bound_is = refl }
line_tests for_all true = record { use_is = refl; outer_is = refl; end_is = refl; above_is = refl; definition_is = refl; bound_is = refl }

later_tests : (last : Bool) → Tests (later_role last) false true false true false false
unfolding later_role is_use is_input is_output is_outer is_bound is_end is_last is_above is_definition
later_tests false = record { use_is = refl; outer_is = refl; end_is = refl; above_is = refl; definition_is = refl; bound_is = refl }
later_tests true = record { use_is = refl; outer_is = refl; end_is = refl; above_is = refl; definition_is = refl; bound_is = refl }

-- Of each token of a list.
pub data Each (P : Token → Type 0) : List Token → Type 0 where
  each_none : Each P []
  each_more : {k : Token} {ks : List Token} → P k → Each P ks → Each P (k ∷ ks)

pub each_append : {P : Token → Type 0} {ks ls : List Token} → Each P ks → Each P ls → Each P (ks ++ ls)
each_append each_none b = b
each_append (each_more p a) b = each_more p (each_append a b)

pub each_map : {P Q : Token → Type 0} {ks : List Token} → ((k : Token) → P k → Q k) → Each P ks → Each Q ks
each_map f each_none = each_none
each_map f (each_more {k} p a) = each_more (f k p) (each_map f a)

-- An entry of the lines above the gates, and of a gate.
abbrev pub OuterEntry : Token → Type 0
OuterEntry k = Tests k.role false true false true false false

abbrev pub GateEntry : Token → Type 0
GateEntry k = Tests k.role false false false false false true

-- A token of a gate line after its entries.
pub record Plain (k : Token) : Type 0 where
  pub above_is : is_above k.role ≡ false
  pub definition_is : is_definition k.role ≡ false
  pub bound_is : is_bound k.role ≡ false

list_each : (P : Token → Type 0) (a b : Bool → ℕ) → ((l : Bool) (x : Name) → P (token (a l) x)) → ((l : Bool) (x : Name) → P (token (b l) x))
    → (x : Name) (xs : List Name) → Each P (list_tokens a b x xs)
unfolding list_tokens
list_each P a b f g x [] = each_more (f true x) each_none
list_each P a b f g x (y ∷ ys) = each_more (f false x) (list_each P b b g g y ys)

-- The entries of a gate.
unfoldable pub bound_tokens : List Name → List Token
bound_tokens [] = []
bound_tokens (x ∷ xs) = list_tokens bound_role bound_role x xs

pub bound_each : (xs : List Name) → Each GateEntry (bound_tokens xs)
unfolding bound_tokens token
bound_each [] = each_none
bound_each (x ∷ xs) = list_each GateEntry bound_role bound_role (λ l y. bound_tests l) (λ l y. bound_tests l) x xs

pub free_each : (xs : List Name) → Each OuterEntry (free_tokens xs)
unfolding free_tokens token
free_each [] = each_none
free_each (x ∷ xs) = list_each OuterEntry (free_role true) (free_role false) (λ l y. free_tests true l) (λ l y. free_tests false l) x xs

pub prefix_each : (ls : List Line) → Each OuterEntry (prefix_tokens ls)
unfolding prefix_tokens token
prefix_each [] = each_none
prefix_each (l ∷ ls) =
    each_append
    (list_each OuterEntry (line_role l.quantifier) later_role (λ b y. line_tests l.quantifier b) (λ b y. later_tests b) l.first l.others)
    (prefix_each ls)

plain_of : {k : Token} {u e d : Bool} → Tests k.role u e d false false false → Plain k
plain_of t = record { above_is = t.above_is; definition_is = t.definition_is; bound_is = t.bound_is }

inputs_each : (l : Literal) (ls : List Literal) → Each Plain (inputs_tokens l ls)
unfolding inputs_tokens token
inputs_each l [] = each_more (plain_of (input_tests l.minus true)) each_none
inputs_each l (m ∷ ms) = each_more (plain_of (input_tests l.minus false)) (inputs_each m ms)

pub any_each : (g : Name) (ls : List Literal) → Each Plain (any_inputs_tokens g ls)
unfolding any_inputs_tokens token
any_each g [] = each_more (plain_of empty_tests) each_none
any_each g (l ∷ ls) = inputs_each l ls

-- A gate line: the definition, the entries, and the inputs or the end of none.
pub gate_line : (g : Gate) → gate_tokens g ≡ token (definition_role g) (gate_name g) ∷ (bound_tokens (gate_variables g) ++ any_inputs_tokens (gate_name g) (gate_inputs g))
unfolding gate_tokens definition_role gate_name gate_variables gate_inputs bound_tokens any_inputs_tokens
gate_line (junction_gate j g ls) = refl
gate_line (xor_gate g l r) = refl
gate_line (quantifier_gate q g x xs l) = refl

-- The numbers of tokens.
unfoldable pub token_numbers : List Token → List ℕ
token_numbers [] = []
token_numbers (k ∷ ks) = k.name.number ∷ token_numbers ks

pub numbers_append : (ks ls : List Token) → token_numbers (ks ++ ls) ≡ token_numbers ks ++ token_numbers ls
unfolding token_numbers
numbers_append [] ls = refl
numbers_append (k ∷ ks) ls = ap (λ xs. k.name.number ∷ xs) (numbers_append ks ls)

list_numbers : (a b : Bool → ℕ) (x : Name) (xs : List Name) → token_numbers (list_tokens a b x xs) ≡ numbers_of (x ∷ xs)
unfolding token_numbers list_tokens numbers_of token
list_numbers a b x [] = refl
list_numbers a b x (y ∷ ys) = ap (λ zs. x.number ∷ zs) (list_numbers b b y ys)

pub bound_numbers : (xs : List Name) → token_numbers (bound_tokens xs) ≡ numbers_of xs
unfolding token_numbers bound_tokens numbers_of
bound_numbers [] = refl
bound_numbers (x ∷ xs) = list_numbers bound_role bound_role x xs

pub free_numbers : (xs : List Name) → token_numbers (free_tokens xs) ≡ numbers_of xs
unfolding token_numbers free_tokens numbers_of
free_numbers [] = refl
free_numbers (x ∷ xs) = list_numbers (free_role true) (free_role false) x xs

pub names_append : (xs ys : List Name) → numbers_of (xs ++ ys) ≡ numbers_of xs ++ numbers_of ys
unfolding numbers_of
names_append [] ys = refl
names_append (x ∷ xs) ys = ap (λ zs. x.number ∷ zs) (names_append xs ys)

pub prefix_numbers : (ls : List Line) → token_numbers (prefix_tokens ls) ≡ numbers_of (prefix_variables ls)
unfolding prefix_tokens prefix_variables line_variables numbers_of token_numbers
prefix_numbers [] = refl
prefix_numbers (l ∷ ls) =
    numbers_append (list_tokens (line_role l.quantifier) later_role l.first l.others) (prefix_tokens ls)
    ∙ ap (λ xs. xs ++ token_numbers (prefix_tokens ls)) (list_numbers (line_role l.quantifier) later_role l.first l.others)
    ∙ ap (λ xs. numbers_of (l.first ∷ l.others) ++ xs) (prefix_numbers ls)
    ∙ sym (names_append (l.first ∷ l.others) (prefix_variables ls))

-- The tokens stand in the arrays from index p on.
pub data Held (t : Tokens) : ℕ → List Token → Type 0 where
  held_none : {p : ℕ} → Held t p []
  held_more : {p : ℕ} {k : Token} {ks : List Token} → t.role p ≡ k.role → t.number p ≡ k.name.number → Held t (suc p) ks → Held t p (k ∷ ks)

pub held_left : (t : Tokens) (p : ℕ) (ks ls : List Token) → Held t p (ks ++ ls) → Held t p ks
held_left t p [] ls h = held_none
held_left t p (k ∷ ks) ls (held_more a b h) = held_more a b (held_left t (suc p) ks ls h)

pub held_right : (t : Tokens) (p : ℕ) (ks ls : List Token) → Held t p (ks ++ ls) → Held t (p + length ks) ls
held_right t p [] ls h = subst (λ q. Held t q ls) (let e : p ≡ p + 0 = omega arith in e) h
held_right t p (k ∷ ks) ls (held_more a b h) =
    let e : suc p + length ks ≡ p + suc (length ks) = omega arith in subst (λ q. Held t q ls) e (held_right t (suc p) ks ls h)
