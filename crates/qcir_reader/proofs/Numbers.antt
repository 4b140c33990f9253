-- The numbers of a file's names, from those of its tokens.
-- Assumes nothing.
use mathlib.Core.Bool.{Bool, true, false, ◌&&◌}
use mathlib.Core.List.{List, [], ◌∷◌, ◌++◌, map}
use mathlib.Core.Path.{◌≡◌, refl, sym, ◌∙◌, ap, subst}
use Prim.Native.Nat.{ℕ}
use lib.Dec.{leb}
use Rattle.lists.specs.Choice.{and_left, and_right, and_both, or_cases}
use Rattle.lists.specs.Members.{mem, all}
use Rattle.lists.proofs.Members.{mem_left, mem_right, mem_append, all_mem}
use Rattle.acceptance.specs.Verdict.{is_number, is_number_to}
use Rattle.qcir.specs.File.{Name, Literal, Gate, junction_gate, xor_gate, quantifier_gate, gate_name, gate_variables, gate_inputs, Line, line_variables, prefix_variables, File, numbers_of, names_of}
use Rattle.qcir.specs.Refusals.{outer_names}
use Rattle.qcir.proofs.Numbers.{line_names, lines_names, all_numbers, Ranged}
use Rattle.qcir.proofs.GateLines.{numbers_append}
use Rattle.qcir_tokens.specs.Tokens.{Token, token, list_tokens, free_tokens, prefix_tokens, output_token, inputs_tokens, any_inputs_tokens, gate_tokens, gates_tokens, file_tokens, numbered, free_role, line_role, later_role, bound_role}

-- The names of tokens.
unfoldable token_names : List Token → List Name
token_names ts = map (λ t. t.name) ts

names_append : (ts us : List Token) → token_names (ts ++ us) ≡ token_names ts ++ token_names us
unfolding token_names
names_append [] us = refl
names_append (t ∷ ts) us = ap (λ l. t.name ∷ l) (names_append ts us)

list_names : (first others : Bool → ℕ) (x : Name) (xs : List Name) → token_names (list_tokens first others x xs) ≡ x ∷ xs
unfolding token_names list_tokens token
list_names first others x [] = refl
list_names first others x (y ∷ ys) = ap (λ l. x ∷ l) (list_names others others y ys)

free_names_lem : (xs : List Name) → token_names (free_tokens xs) ≡ xs
unfolding token_names free_tokens
free_names_lem [] = refl
free_names_lem (x ∷ xs) = list_names (free_role true) (free_role false) x xs

prefix_names_lem : (ls : List Line) → token_names (prefix_tokens ls) ≡ prefix_variables ls
unfolding token_names prefix_tokens prefix_variables line_variables
prefix_names_lem [] = refl
prefix_names_lem (l ∷ ls) =
    names_append (list_tokens (line_role l.quantifier) later_role l.first l.others) (prefix_tokens ls)
    ∙ (ap (λ z. z ++ token_names (prefix_tokens ls)) (list_names (line_role l.quantifier) later_role l.first l.others) ∙ ap (λ z. (l.first ∷ l.others) ++ z) (prefix_names_lem ls))

input_names : (l : Literal) (ls : List Literal) → token_names (inputs_tokens l ls) ≡ names_of (l ∷ ls)
unfolding token_names inputs_tokens names_of token
input_names l [] = refl
input_names l (m ∷ ms) = ap (λ z. l.name ∷ z) (input_names m ms)

-- Whatever stands among the names of a gate line stands among its tokens' names.
gate_names_lem : (x : ℕ) (g : Gate) → mem x (numbers_of (line_names g)) ≡ true → mem x (numbers_of (token_names (gate_tokens g))) ≡ true
unfolding line_names gate_name gate_variables gate_inputs names_of numbers_of token_names gate_tokens any_inputs_tokens token
gate_names_lem x (junction_gate j g []) h = mem_left x (g.number ∷ []) (g.number ∷ []) h
gate_names_lem x (junction_gate j g (l ∷ ls)) h = subst (λ z. mem x (numbers_of (g ∷ z)) ≡ true) (sym (input_names l ls)) h
gate_names_lem x (xor_gate g l r) h = subst (λ z. mem x (numbers_of (g ∷ z)) ≡ true) (sym (input_names l (r ∷ []))) h
gate_names_lem x (quantifier_gate q g y ys l) h =
    subst (λ z. mem x (numbers_of (g ∷ z)) ≡ true) (sym (names_append (list_tokens bound_role bound_role y ys) (inputs_tokens l [])
    ∙ (ap (λ z. z ++ token_names (inputs_tokens l [])) (list_names bound_role bound_role y ys) ∙ ap (λ z. (y ∷ ys) ++ z) (input_names l [])))) h

numbers_left : (x : ℕ) (xs ys : List Name) → mem x (numbers_of xs) ≡ true → mem x (numbers_of (xs ++ ys)) ≡ true
numbers_left x xs ys h = rw (numbers_append xs ys) (mem_left x (numbers_of xs) (numbers_of ys) h)

numbers_right : (x : ℕ) (xs ys : List Name) → mem x (numbers_of ys) ≡ true → mem x (numbers_of (xs ++ ys)) ≡ true
numbers_right x xs ys h = rw (numbers_append xs ys) (mem_right x (numbers_of xs) (numbers_of ys) h)

numbers_cases : {P : Type 0} (x : ℕ) (xs ys : List Name) → mem x (numbers_of (xs ++ ys)) ≡ true → (mem x (numbers_of xs) ≡ true → P) → (mem x (numbers_of ys) ≡ true → P) → P
numbers_cases x xs ys h f g = or_cases (mem x (numbers_of xs)) (mem x (numbers_of ys)) (sym (mem_append x (numbers_of xs) (numbers_of ys)) ∙ (rw (sym (numbers_append xs ys)) h)) f g

gates_names : (x : ℕ) (gs : List Gate) → mem x (numbers_of (lines_names gs)) ≡ true → mem x (numbers_of (token_names (gates_tokens gs))) ≡ true
unfolding lines_names gates_tokens token_names
gates_names x [] h = h
gates_names x (g ∷ gs) h =
    subst (λ z. mem x (numbers_of z) ≡ true) (sym (names_append (gate_tokens g) (gates_tokens gs)))
    (numbers_cases x (line_names g) (lines_names gs) h
    (λ k. numbers_left x (token_names (gate_tokens g)) (token_names (gates_tokens gs)) (gate_names_lem x g k))
    (λ k. numbers_right x (token_names (gate_tokens g)) (token_names (gates_tokens gs)) (gates_names x gs k)))

-- The output's name, and those of the gate lines.
output_names : (x : ℕ) (f : File) → mem x (numbers_of (f.output.name ∷ lines_names f.gates)) ≡ true → mem x (numbers_of (token_names (output_token f.output ∷ gates_tokens f.gates))) ≡ true
unfolding token_names output_token token
output_names x f h =
    numbers_cases x (f.output.name ∷ []) (lines_names f.gates) h
    (λ k. numbers_left x (f.output.name ∷ []) (token_names (gates_tokens f.gates)) k)
    (λ k. numbers_right x (f.output.name ∷ []) (token_names (gates_tokens f.gates)) (gates_names x f.gates k))

all_numbered : (ts : List Token) → numbered 65535 ts ≡ true → all is_number (numbers_of (token_names ts)) ≡ true
unfolding numbered token_names numbers_of all is_number_to
all_numbered [] h = refl
all_numbered (t ∷ ts) h =
    let n = t.name.number in
    and_both (is_number n) _ (and_left (leb 1 n && leb n 65535) _ h) (all_numbered ts (and_right (leb 1 n && leb n 65535) _ h))

-- All names of a file stand among its tokens.
file_names : (x : ℕ) (f : File) → mem x (all_numbers f) ≡ true → mem x (numbers_of (token_names (file_tokens f))) ≡ true
unfolding all_numbers file_tokens outer_names
file_names x f h =
    let rest = output_token f.output ∷ gates_tokens f.gates in
    let lines = f.output.name ∷ lines_names f.gates in
    let e = names_append (free_tokens f.free) (prefix_tokens f.prefix ++ rest) ∙ (ap (λ z. z ++ token_names (prefix_tokens f.prefix ++ rest)) (free_names_lem f.free)
    ∙ ap (λ z. f.free ++ z) (names_append (prefix_tokens f.prefix) rest ∙ ap (λ z. z ++ token_names rest) (prefix_names_lem f.prefix))) in
    subst (λ z. mem x (numbers_of z) ≡ true) (sym e)
    (numbers_cases x (f.free ++ prefix_variables f.prefix) lines h
    (λ k. numbers_cases x f.free (prefix_variables f.prefix) k
    (λ i. numbers_left x f.free (prefix_variables f.prefix ++ token_names rest) i)
    (λ i. numbers_right x f.free (prefix_variables f.prefix ++ token_names rest) (numbers_left x (prefix_variables f.prefix) (token_names rest) i)))
    (λ k. numbers_right x f.free (prefix_variables f.prefix ++ token_names rest) (numbers_right x (prefix_variables f.prefix) (token_names rest) (output_names x f k))))

pub numbers_ranged : (f : File) → numbered 65535 (file_tokens f) ≡ true → Ranged f
numbers_ranged f h = record { ranged = λ x m. all_mem is_number (numbers_of (token_names (file_tokens f))) x (all_numbered (file_tokens f) h) (file_names x f m) }
