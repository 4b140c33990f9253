-- A file is known by its tokens: arrays hold the tokens of one file only.
-- Assumes nothing.
use mathlib.Core.Path.{◌≡◌, refl, sym, ◌∙◌, ap}
use mathlib.Core.Bool.{Bool, true, false}
use mathlib.Core.List.{List, [], ◌∷◌, ◌++◌, append_assoc}
use Prim.Native.Nat.{ℕ, zero, suc}
use Rattle.formula.specs.Node.{Quantifier, exists, for_all}
use Rattle.qcir.specs.File.{Name, Literal, conjunction, disjunction, Gate, junction_gate, xor_gate, quantifier_gate, Line, File}
use Rattle.qcir_tokens.specs.Tokens.{Token, token, free_role, line_role, later_role, output_role, junction_role, quantifier_role, bound_role, input_role, list_tokens, free_tokens, prefix_tokens, output_token, inputs_tokens, any_inputs_tokens, gate_tokens, gates_tokens, file_tokens}
use Rattle.qcir_tokens.specs.Held.{HoldsFile}

-- In place of a name that is not there.
unfoldable no_name : Name
no_name = record { number = 0; position = 0 }

-- A file that is put together from its tokens, the last one first; the names and inputs are those of the line that is not complete yet.
record Draft : Type 0 where
  file : File
  names : List Name
  inputs : List Literal

unfoldable literal : Bool → Name → Literal
literal minus x = record { minus = minus; name = x }

unfoldable first_name : List Name → Name
first_name [] = no_name
first_name (x ∷ xs) = x

unfoldable other_names : List Name → List Name
other_names [] = []
other_names (x ∷ xs) = xs

unfoldable first_input : List Literal → Literal
first_input [] = literal false no_name
first_input (l ∷ ls) = l

unfoldable other_inputs : List Literal → List Literal
other_inputs [] = []
other_inputs (l ∷ ls) = ls

unfoldable with_free : List Name → File → File
with_free xs f = record { free = xs; prefix = f.prefix; output = f.output; gates = f.gates }

unfoldable with_line : Quantifier → Name → List Name → File → File
with_line q x xs f =
    record { free = f.free; prefix = record { quantifier = q; first = x; others = xs } ∷ f.prefix; output = f.output; gates = f.gates }

unfoldable with_output : Literal → File → File
with_output l f = record { free = f.free; prefix = f.prefix; output = l; gates = f.gates }

unfoldable with_gate : Gate → File → File
with_gate g f = record { free = f.free; prefix = f.prefix; output = f.output; gates = g ∷ f.gates }

unfoldable change : (File → File) → Draft → Draft
change h d = record { file = h d.file; names = d.names; inputs = d.inputs }

unfoldable with_names : List Name → Draft → Draft
with_names xs d = record { file = d.file; names = xs; inputs = d.inputs }

unfoldable with_inputs : List Literal → Draft → Draft
with_inputs ls d = record { file = d.file; names = d.names; inputs = ls }

unfoldable quantified_gate : Quantifier → Name → Draft → Gate
quantified_gate q g d = quantifier_gate q g (first_name d.names) (other_names d.names) (first_input d.inputs)

-- what a token adds, by its role
unfoldable additions : List (Name → Draft → Draft)
additions =
    (λ x d. d)
    -- 1: the free line
    ∷ (λ x d. change (with_free (x ∷ d.names)) d) ∷ (λ x d. change (with_free (x ∷ [])) d)
    ∷ (λ x d. with_names (x ∷ d.names) d) ∷ (λ x d. with_names (x ∷ []) d)
    -- 5: a prefix line
    ∷ (λ x d. change (with_line exists x d.names) d) ∷ (λ x d. change (with_line exists x []) d)
    ∷ (λ x d. change (with_line for_all x d.names) d) ∷ (λ x d. change (with_line for_all x []) d)
    ∷ (λ x d. with_names (x ∷ d.names) d) ∷ (λ x d. with_names (x ∷ []) d)
    -- 11: the output
    ∷ (λ x d. change (with_output (literal false x)) d) ∷ (λ x d. change (with_output (literal true x)) d)
    -- 13: the name of a gate
    ∷ (λ x d. change (with_gate (junction_gate conjunction x d.inputs)) d) ∷ (λ x d. change (with_gate (junction_gate disjunction x d.inputs)) d)
    ∷ (λ x d. change (with_gate (xor_gate x (first_input d.inputs) (first_input (other_inputs d.inputs)))) d)
    ∷ (λ x d. change (with_gate (quantified_gate exists x d)) d) ∷ (λ x d. change (with_gate (quantified_gate for_all x d)) d)
    -- 18: a variable that a gate quantifies
    ∷ (λ x d. with_names (x ∷ d.names) d) ∷ (λ x d. with_names (x ∷ []) d)
    -- 20: an input, and the end of a gate without inputs
    ∷ (λ x d. with_inputs (literal false x ∷ d.inputs) d) ∷ (λ x d. with_inputs (literal true x ∷ d.inputs) d)
    ∷ (λ x d. with_inputs (literal false x ∷ []) d) ∷ (λ x d. with_inputs (literal true x ∷ []) d) ∷ (λ x d. with_inputs [] d) ∷ []

unfoldable addition_at : List (Name → Draft → Draft) → ℕ → Name → Draft → Draft
addition_at [] r x d = d
addition_at (f ∷ fs) zero x d = f x d
addition_at (f ∷ fs) (suc r) x d = addition_at fs r x d

unfoldable empty : Draft
empty = record { file = record { free = []; prefix = []; output = literal false no_name; gates = [] }; names = []; inputs = [] }

unfoldable draft : List Token → Draft
draft [] = empty
draft (t ∷ ts) = addition_at additions t.role t.name (draft ts)

-- Names after a list's first.
later_names : (role : Bool → ℕ)
    → ((x : Name) (d : Draft) → addition_at additions (role false) x d ≡ with_names (x ∷ d.names) d)
    → ((x : Name) (d : Draft) → addition_at additions (role true) x d ≡ with_names (x ∷ []) d)
    → (x : Name) (xs : List Name) (ts : List Token) → draft (list_tokens role role x xs ++ ts) ≡ with_names (x ∷ xs) (draft ts)
unfolding draft list_tokens token with_names
later_names role a b x [] ts = b x (draft ts)
later_names role a b x (y ∷ ys) ts = ap (addition_at additions (role false) x) (later_names role a b y ys ts) ∙ a x _

free_names_lem : (x : Name) (xs : List Name) (ts : List Token) → draft (list_tokens (free_role false) (free_role false) x xs ++ ts) ≡ with_names (x ∷ xs) (draft ts)
unfolding additions addition_at free_role
free_names_lem = later_names (free_role false) (λ x d. refl) (λ x d. refl)

line_names : (x : Name) (xs : List Name) (ts : List Token) → draft (list_tokens later_role later_role x xs ++ ts) ≡ with_names (x ∷ xs) (draft ts)
unfolding additions addition_at later_role
line_names = later_names later_role (λ x d. refl) (λ x d. refl)

bound_names : (x : Name) (xs : List Name) (ts : List Token) → draft (list_tokens bound_role bound_role x xs ++ ts) ≡ with_names (x ∷ xs) (draft ts)
unfolding additions addition_at bound_role
bound_names = later_names bound_role (λ x d. refl) (λ x d. refl)

-- Inputs.
input_next : (m : Bool) (x : Name) (d : Draft) → addition_at additions (input_role m false) x d ≡ with_inputs (literal m x ∷ d.inputs) d
unfolding additions addition_at input_role
input_next true x d = refl
input_next false x d = refl

input_last : (m : Bool) (x : Name) (d : Draft) → addition_at additions (input_role m true) x d ≡ with_inputs (literal m x ∷ []) d
unfolding additions addition_at input_role
input_last true x d = refl
input_last false x d = refl

inputs_draft : (l : Literal) (ls : List Literal) (ts : List Token) → draft (inputs_tokens l ls ++ ts) ≡ with_inputs (l ∷ ls) (draft ts)
unfolding draft inputs_tokens token with_inputs literal
inputs_draft l [] ts = input_last l.minus l.name (draft ts)
inputs_draft l (m ∷ ms) ts =
    ap (addition_at additions (input_role l.minus false) l.name) (inputs_draft m ms ts) ∙ input_next l.minus l.name _

any_draft : (g : Name) (ls : List Literal) (ts : List Token) → draft (any_inputs_tokens g ls ++ ts) ≡ with_inputs ls (draft ts)
unfolding draft any_inputs_tokens token additions addition_at
any_draft g [] ts = refl
any_draft g (l ∷ ls) ts = inputs_draft l ls ts

-- Lines.
quantified_draft : (x : Name) (xs : List Name) (l : Literal) (ts : List Token)
    → draft ((list_tokens bound_role bound_role x xs ++ inputs_tokens l []) ++ ts) ≡ with_names (x ∷ xs) (with_inputs (l ∷ []) (draft ts))
quantified_draft x xs l ts =
    ap draft (append_assoc (list_tokens bound_role bound_role x xs) (inputs_tokens l []) ts)
    ∙ bound_names x xs (inputs_tokens l [] ++ ts) ∙ ap (with_names (x ∷ xs)) (inputs_draft l [] ts)

gate_file : (g : Gate) (ts : List Token) → (draft (gate_tokens g ++ ts)).file ≡ with_gate g (draft ts).file
unfolding draft gate_tokens token additions addition_at change with_names with_inputs junction_role quantifier_role quantified_gate first_name other_names first_input other_inputs
gate_file (junction_gate conjunction g ls) ts = ap (λ d. (addition_at additions 13 g d).file) (any_draft g ls ts)
gate_file (junction_gate disjunction g ls) ts = ap (λ d. (addition_at additions 14 g d).file) (any_draft g ls ts)
gate_file (xor_gate g l r) ts = ap (λ d. (addition_at additions 15 g d).file) (inputs_draft l (r ∷ []) ts)
gate_file (quantifier_gate exists g x xs l) ts = ap (λ d. (addition_at additions 16 g d).file) (quantified_draft x xs l ts)
gate_file (quantifier_gate for_all g x xs l) ts = ap (λ d. (addition_at additions 17 g d).file) (quantified_draft x xs l ts)

gates_file : (gs : List Gate) → (draft (gates_tokens gs)).file ≡ record { free = []; prefix = []; output = empty.file.output; gates = gs }
unfolding draft gates_tokens with_gate empty
gates_file [] = refl
gates_file (g ∷ gs) = gate_file g (gates_tokens gs) ∙ ap (with_gate g) (gates_file gs)

output_by : (m : Bool) (x : Name) (d : Draft) → (addition_at additions (output_role m) x d).file ≡ with_output (literal m x) d.file
unfolding additions addition_at output_role change
output_by true x d = refl
output_by false x d = refl

output_file : (l : Literal) (ts : List Token) → (draft (output_token l ∷ ts)).file ≡ with_output l (draft ts).file
unfolding draft output_token token literal
output_file l ts = output_by l.minus l.name (draft ts)

line_file : (q : Quantifier) (x : Name) (xs : List Name) (ts : List Token)
    → (draft (list_tokens (line_role q) later_role x xs ++ ts)).file ≡ with_line q x xs (draft ts).file
unfolding draft list_tokens token line_role additions addition_at change with_names
line_file exists x [] ts = refl
line_file exists x (y ∷ ys) ts = ap (λ d. (addition_at additions 5 x d).file) (line_names y ys ts)
line_file for_all x [] ts = refl
line_file for_all x (y ∷ ys) ts = ap (λ d. (addition_at additions 7 x d).file) (line_names y ys ts)

prefix_file : (ls : List Line) (ts : List Token) (o : Literal) (gs : List Gate)
    → (draft ts).file ≡ record { free = []; prefix = []; output = o; gates = gs }
    → (draft (prefix_tokens ls ++ ts)).file ≡ record { free = []; prefix = ls; output = o; gates = gs }
unfolding prefix_tokens with_line
prefix_file [] ts o gs h = h
prefix_file (l ∷ ls) ts o gs h =
    ap (λ us. (draft us).file) (append_assoc (list_tokens (line_role l.quantifier) later_role l.first l.others) (prefix_tokens ls) ts)
    ∙ line_file l.quantifier l.first l.others (prefix_tokens ls ++ ts)
    ∙ ap (with_line l.quantifier l.first l.others) (prefix_file ls ts o gs h)

free_file : (xs : List Name) (ts : List Token) (f : File) → (draft ts).file ≡ with_free [] f → (draft (free_tokens xs ++ ts)).file ≡ with_free xs f
unfolding draft free_tokens list_tokens token free_role additions addition_at change with_names with_free
free_file [] ts f h = h
free_file (x ∷ []) ts f h = ap (with_free (x ∷ [])) h
free_file (x ∷ y ∷ ys) ts f h = ap (λ d. (addition_at additions 1 x d).file) (free_names_lem y ys ts) ∙ ap (with_free (x ∷ y ∷ ys)) h

-- The file that its tokens give.
file_draft : (f : File) → (draft (file_tokens f)).file ≡ f
unfolding file_tokens with_free with_output
file_draft f =
    free_file f.free _ f
    (prefix_file f.prefix (output_token f.output ∷ gates_tokens f.gates) f.output f.gates
    (output_file f.output (gates_tokens f.gates) ∙ ap (with_output f.output) (gates_file f.gates)))

pub tokens_injective : (f g : File) → file_tokens f ≡ file_tokens g → f ≡ g
tokens_injective f g h = sym (file_draft f) ∙ ap (λ ts. (draft ts).file) h ∙ file_draft g

-- The law of `HoldsFile`: the arrays hold one file's tokens and no other's.
pub holds_one : (roles numbers positions : List ℕ) (count : ℕ) (f g : File) → HoldsFile roles numbers positions count f → HoldsFile roles numbers positions count g → f ≡ g
holds_one roles numbers positions count f g h k = tokens_injective f g (sym h.tokens ∙ k.tokens)
