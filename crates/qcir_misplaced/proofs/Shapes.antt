-- The tokens of a file's parts as tokens of lists of names.
-- Assumes nothing.
use mathlib.Core.Path.{◌≡◌, refl, ◌∙◌, ap}
use mathlib.Core.Bool.{Bool, true, false}
use mathlib.Core.List.{List, [], ◌∷◌, ◌++◌, append_assoc}
use Prim.Native.Nat.{ℕ}
use lib.Dec.{eqb}
use Rattle.formula.specs.Node.{Quantifier, exists, for_all}
use Rattle.qcir.specs.File.{Name, Literal, conjunction, disjunction, Gate, junction_gate, xor_gate, quantifier_gate, gate_name, gate_variables, gate_inputs, Line, line_variables, prefix_variables, File, names_of}
use Rattle.qcir.specs.Refusals.{outer_names}
use Rattle.qcir_tokens.specs.Tokens.{Token, token, free_role, line_role, later_role, junction_role, quantifier_role, bound_role, input_role, empty_role, is_outer, is_bound, is_definition, is_input, list_tokens, free_tokens, prefix_tokens, inputs_tokens, any_inputs_tokens, gate_tokens, gates_tokens}
use Rattle.qcir_misplaced.specs.Faults.{is_entry}
use Rattle.qcir_misplaced.proofs.Entries.{EntryRole, InputRole, Entries, nothing, one, passed, entries_append}

free_role_lem : (a b : Bool) → EntryRole (free_role a b)
unfolding free_role is_entry is_outer
free_role_lem true true = record { entry = refl; no_empty = refl }
free_role_lem true false = record { entry = refl; no_empty = refl }
free_role_lem false true = record { entry = refl; no_empty = refl }
free_role_lem false false = record { entry = refl; no_empty = refl }

line_role_lem : (q : Quantifier) (b : Bool) → EntryRole (line_role q b)
unfolding line_role is_entry is_outer
line_role_lem exists true = record { entry = refl; no_empty = refl }
line_role_lem exists false = record { entry = refl; no_empty = refl }
line_role_lem for_all true = record { entry = refl; no_empty = refl }
line_role_lem for_all false = record { entry = refl; no_empty = refl }

later_role_lem : (b : Bool) → EntryRole (later_role b)
unfolding later_role is_entry is_outer
later_role_lem true = record { entry = refl; no_empty = refl }
later_role_lem false = record { entry = refl; no_empty = refl }

bound_role_lem : (b : Bool) → EntryRole (bound_role b)
unfolding bound_role is_entry is_outer is_bound
bound_role_lem true = record { entry = refl; no_empty = refl }
bound_role_lem false = record { entry = refl; no_empty = refl }

input_role_lem : (m b : Bool) → InputRole (input_role m b)
unfolding input_role is_entry is_outer is_bound is_definition is_input
input_role_lem true true = record { no_entry = refl; no_definition = refl; input = refl; no_empty = refl }
input_role_lem true false = record { no_entry = refl; no_definition = refl; input = refl; no_empty = refl }
input_role_lem false true = record { no_entry = refl; no_definition = refl; input = refl; no_empty = refl }
input_role_lem false false = record { no_entry = refl; no_definition = refl; input = refl; no_empty = refl }

one_token : {P : ℕ → Type 0} (r : ℕ) (x : Name) {ts : List Token} {xs : List Name} → P r → Entries P ts xs → Entries P (token r x ∷ ts) (x ∷ xs)
unfolding token
one_token r x p e = one (record { role = r; name = x }) p e

list_entries : {P : ℕ → Type 0} (first others : Bool → ℕ) → ((b : Bool) → P (first b)) → ((b : Bool) → P (others b)) → (x : Name) (xs : List Name)
    → Entries P (list_tokens first others x xs) (x ∷ xs)
unfolding list_tokens
list_entries first others p q x [] = one_token (first true) x (p true) nothing
list_entries first others p q x (y ∷ ys) = one_token (first false) x (p false) (list_entries others others q q y ys)

free_entries : (xs : List Name) → Entries EntryRole (free_tokens xs) xs
unfolding free_tokens
free_entries [] = nothing
free_entries (x ∷ xs) = list_entries (free_role true) (free_role false) (free_role_lem true) (free_role_lem false) x xs

prefix_entries : (ls : List Line) → Entries EntryRole (prefix_tokens ls) (prefix_variables ls)
unfolding prefix_tokens prefix_variables line_variables
prefix_entries [] = nothing
prefix_entries (l ∷ ls) = entries_append (list_entries (line_role l.quantifier) later_role (line_role_lem l.quantifier) later_role_lem l.first l.others) (prefix_entries ls)

-- the free line and the prefix lines
pub outer_entries : (f : File) → Entries EntryRole (free_tokens f.free ++ prefix_tokens f.prefix) (outer_names f)
unfolding outer_names
outer_entries f = entries_append (free_entries f.free) (prefix_entries f.prefix)

inputs_entries : (l : Literal) (ls : List Literal) → Entries InputRole (inputs_tokens l ls) (names_of (l ∷ ls))
unfolding inputs_tokens names_of
inputs_entries l [] = one_token (input_role l.minus true) l.name (input_role_lem l.minus true) nothing
inputs_entries l (m ∷ ms) = one_token (input_role l.minus false) l.name (input_role_lem l.minus false) (inputs_entries m ms)

any_inputs_entries : (g : Name) (ls : List Literal) → Entries InputRole (any_inputs_tokens g ls) (names_of ls)
unfolding any_inputs_tokens names_of
any_inputs_entries g [] = passed g nothing
any_inputs_entries g (l ∷ ls) = inputs_entries l ls

-- The tokens of a gate line: its definition, its list and its inputs.
pub record GateShape (g : Gate) : Type 0 where
  pub role : ℕ
  pub bound : List Token
  pub inputs : List Token
  pub no_entry : is_entry role ≡ false
  pub definition : is_definition role ≡ true
  pub no_empty : eqb role empty_role ≡ false
  pub shape : gate_tokens g ≡ record { role = role; name = gate_name g } ∷ (bound ++ inputs)
  pub variables : Entries EntryRole bound (gate_variables g)
  pub uses : Entries InputRole inputs (names_of (gate_inputs g))

pub gate_shape : (g : Gate) → GateShape g
unfolding gate_tokens gate_name gate_variables gate_inputs token junction_role quantifier_role is_entry is_outer is_bound is_definition
gate_shape (junction_gate conjunction g ls) =
    record { role = 13; bound = []; inputs = any_inputs_tokens g ls; no_entry = refl; definition = refl; no_empty = refl; shape = refl; variables = nothing; uses = any_inputs_entries g ls }
gate_shape (junction_gate disjunction g ls) =
    record { role = 14; bound = []; inputs = any_inputs_tokens g ls; no_entry = refl; definition = refl; no_empty = refl; shape = refl; variables = nothing; uses = any_inputs_entries g ls }
gate_shape (xor_gate g l r) =
    record { role = 15; bound = []; inputs = inputs_tokens l (r ∷ []); no_entry = refl; definition = refl; no_empty = refl; shape = refl; variables = nothing; uses = inputs_entries l (r ∷ []) }
gate_shape (quantifier_gate exists g x xs l) =
    record { role = 16; bound = list_tokens bound_role bound_role x xs; inputs = inputs_tokens l []; no_entry = refl; definition = refl; no_empty = refl; shape = refl; variables = list_entries bound_role bound_role bound_role_lem bound_role_lem x xs; uses = inputs_entries l [] }
gate_shape (quantifier_gate for_all g x xs l) =
    record { role = 17; bound = list_tokens bound_role bound_role x xs; inputs = inputs_tokens l []; no_entry = refl; definition = refl; no_empty = refl; shape = refl; variables = list_entries bound_role bound_role bound_role_lem bound_role_lem x xs; uses = inputs_entries l [] }

-- The definition of a gate line.
abbrev pub gate_head : Gate → Token
gate_head g = record { role = (gate_shape g).role; name = gate_name g }

pub gates_shape : (g : Gate) (gs : List Gate)
    → gates_tokens (g ∷ gs) ≡ gate_head g ∷ ((gate_shape g).bound ++ ((gate_shape g).inputs ++ gates_tokens gs))
unfolding gates_tokens
gates_shape g gs =
    let s = gate_shape g in
    ap (λ (l : List Token). l ++ gates_tokens gs) s.shape ∙ ap (λ (l : List Token). gate_head g ∷ l) (append_assoc s.bound s.inputs (gates_tokens gs))
