-- The signs of a file lead through the points to the end, and the tokens that end within them are the file's.
-- Assumes nothing.
use mathlib.Core.Path.{◌≡◌, refl, ap}
use mathlib.Core.Bool.{Bool, true, false}
use mathlib.Core.List.{List, [], ◌∷◌, ◌++◌, append_assoc}
use Prim.Native.Nat.{ℕ}
use Rattle.lists.specs.Choice.{pick}
use Rattle.formula.specs.Node.{Quantifier, exists, for_all}
use Rattle.qcir.specs.File.{Name, Literal, Junction, conjunction, disjunction, Gate, junction_gate, xor_gate, quantifier_gate, Line, File}
use Rattle.qcir.specs.Spelling.{Sign, output_word, free_word, word, name, newline, comma, closing, opening, minus_sign, semicolon, equals, literal_signs, names_signs, inputs_signs, any_inputs_signs, list_signs, free_signs, prefix_signs, output_signs, gate_signs, gates_signs, file_signs, quantifier_word, junction_word, xor_word}
use Rattle.qcir_tokens.specs.Tokens.{Token, token, xor_role, free_role, line_role, later_role, output_role, junction_role, quantifier_role, bound_role, input_role, list_tokens, free_tokens, prefix_tokens, output_token, inputs_tokens, any_inputs_tokens, gate_tokens, gates_tokens, file_tokens}
use Rattle.qcir_spelling.specs.Machine.{row, row_at, arrow, arrow_of, same, points}
use Rattle.qcir_spelling.proofs.Signs.{after, go, line_end, emitted, closes}

-- from point c, x being the last name, the signs lead to the end and the tokens end within them
abbrev pub Takes : ℕ → Name → List Sign → List Token → Type 0
Takes c x ss ts = (after c ss ≡ 24) × (emitted c x ss ≡ ts)

-- one more token
more : {us ts : List Token} (t : Token) {c : ℕ} → (c ≡ 24) × (us ≡ ts) → (c ≡ 24) × (◌≡◌ {A = List Token} (t ∷ us) (t ∷ ts))
more t h = (h.0, ap (λ rest. t ∷ rest) h.1)

-- a name that stands before a comma, and one that stands before the last sign of the list
abbrev Next : ℕ → List ℕ → ℕ → ℕ → Type 0
Next c w role d = (p x : Name) (ss : List Sign) (ts : List Token) → Takes d x ss ts → Takes c p (name x ∷ word w ∷ ss) (token role x ∷ ts)

-- Lists of names: from point c with roles by `first`, then from point d with roles by `others`, up to the word and point e.
names_take : (c d e : ℕ) (w : List ℕ) (first others : Bool → ℕ)
    → Next c comma (first false) d → Next c w (first true) e → Next d comma (others false) d → Next d w (others true) e
    → (p x : Name) (xs : List Name) (ss : List Sign) (ts : List Token) → ((y : Name) → Takes e y ss ts)
    → Takes c p (names_signs x xs ++ (word w ∷ ss)) (list_tokens first others x xs ++ ts)
unfolding names_signs list_tokens
names_take c d e w first others a b f g p x [] ss ts h = b p x ss ts (h x)
names_take c d e w first others a b f g p x (y ∷ ys) ss ts h =
    a p x _ _ (names_take d d e w others others f g f g x y ys ss ts h)

-- An input: roles and points by whether a minus sign stands before it, up to the word and point e.
module _ (c e : ℕ) (w : List ℕ) (role : Bool → ℕ)
    (plus : Next c w (role false) e)
    (minus : (p x : Name) (ss : List Sign) (ts : List Token) → Takes e x ss ts → Takes c p (word minus_sign ∷ name x ∷ word w ∷ ss) (token (role true) x ∷ ts)) where
  sign_take : (m : Bool) (p x : Name) (ss : List Sign) (ts : List Token) → Takes e x ss ts
      → Takes c p (literal_signs (record { minus = m; name = x }) ++ (word w ∷ ss)) (token (role m) x ∷ ts)
  unfolding literal_signs pick
  sign_take true p x ss ts h = minus p x ss ts h
  sign_take false p x ss ts h = plus p x ss ts h

  literal_takes : (l : Literal) (p : Name) (ss : List Sign) (ts : List Token) → Takes e l.name ss ts
      → Takes c p (literal_signs l ++ (word w ∷ ss)) (token (role l.minus) l.name ∷ ts)
  literal_takes l p ss ts h = sign_take l.minus p l.name ss ts h

-- the free line
free_takes : (x : Name) (xs : List Name) (p : Name) (ss : List Sign) (ts : List Token) → ((y : Name) → Takes 8 y ss ts)
    → Takes 4 p (names_signs x xs ++ (word closing ∷ ss)) (free_tokens (x ∷ xs) ++ ts)
unfolding free_tokens free_role after go emitted closes points row_at row arrow arrow_of same pick
free_takes x xs p ss ts h =
    names_take 4 6 8 closing (free_role true) (free_role false)
    (λ p x ss ts h. more (token 1 x) h) (λ p x ss ts h. more (token 2 x) h) (λ p x ss ts h. more (token 3 x) h) (λ p x ss ts h. more (token 4 x) h)
    p x xs ss ts h

-- a prefix line after its opening bracket
unfoldable line_start : Quantifier → ℕ
line_start exists = 10
line_start for_all = 13

line_takes : (q : Quantifier) (x : Name) (xs : List Name) (p : Name) (ss : List Sign) (ts : List Token) → ((y : Name) → Takes 8 y ss ts)
    → Takes (line_start q) p (names_signs x xs ++ (word closing ∷ ss)) (list_tokens (line_role q) later_role x xs ++ ts)
unfolding line_start line_role later_role after go emitted closes points row_at row arrow arrow_of same pick
line_takes exists x xs p ss ts h =
    names_take 10 15 8 closing (line_role exists) later_role
    (λ p x ss ts h. more (token 5 x) h) (λ p x ss ts h. more (token 6 x) h) (λ p x ss ts h. more (token 9 x) h) (λ p x ss ts h. more (token 10 x) h)
    p x xs ss ts h
line_takes for_all x xs p ss ts h =
    names_take 13 15 8 closing (line_role for_all) later_role
    (λ p x ss ts h. more (token 7 x) h) (λ p x ss ts h. more (token 8 x) h) (λ p x ss ts h. more (token 9 x) h) (λ p x ss ts h. more (token 10 x) h)
    p x xs ss ts h

-- the variables of a quantified gate
bound_takes : (x : Name) (xs : List Name) (p : Name) (ss : List Sign) (ts : List Token) → ((y : Name) → Takes 41 y ss ts)
    → Takes 44 p (names_signs x xs ++ (word semicolon ∷ ss)) (list_tokens bound_role bound_role x xs ++ ts)
unfolding bound_role after go emitted closes points row_at row arrow arrow_of same pick
bound_takes x xs p ss ts h =
    names_take 44 44 41 semicolon bound_role bound_role
    (λ p x ss ts h. more (token 18 x) h) (λ p x ss ts h. more (token 19 x) h) (λ p x ss ts h. more (token 18 x) h) (λ p x ss ts h. more (token 19 x) h)
    p x xs ss ts h

-- the output
output_takes : (l : Literal) (p : Name) (ss : List Sign) (ts : List Token) → Takes 23 l.name ss ts
    → Takes 19 p (literal_signs l ++ (word closing ∷ ss)) (output_token l ∷ ts)
unfolding output_token output_role after go emitted closes points row_at row arrow arrow_of same pick
output_takes = literal_takes 19 23 closing output_role (λ p x ss ts h. more (token 11 x) h) (λ p x ss ts h. more (token 12 x) h)

-- Inputs at point c, with a comma or a bracket after them.
abbrev Input : ℕ → List ℕ → Bool → ℕ → Type 0
Input c w last d =
    (l : Literal) (p : Name) (ss : List Sign) (ts : List Token) → Takes d l.name ss ts
    → Takes c p (literal_signs l ++ (word w ∷ ss)) (token (input_role l.minus last) l.name ∷ ts)

first_input_lem : Input 32 comma false 33
unfolding input_role after go emitted closes points row_at row arrow arrow_of same pick
first_input_lem = literal_takes 32 33 comma (λ m. input_role m false) (λ p x ss ts h. more (token 20 x) h) (λ p x ss ts h. more (token 21 x) h)

only_input : Input 32 closing true 23
unfolding input_role after go emitted closes points row_at row arrow arrow_of same pick
only_input = literal_takes 32 23 closing (λ m. input_role m true) (λ p x ss ts h. more (token 22 x) h) (λ p x ss ts h. more (token 23 x) h)

next_input : Input 33 comma false 33
unfolding input_role after go emitted closes points row_at row arrow arrow_of same pick
next_input = literal_takes 33 33 comma (λ m. input_role m false) (λ p x ss ts h. more (token 20 x) h) (λ p x ss ts h. more (token 21 x) h)

last_input : Input 33 closing true 23
unfolding input_role after go emitted closes points row_at row arrow arrow_of same pick
last_input = literal_takes 33 23 closing (λ m. input_role m true) (λ p x ss ts h. more (token 22 x) h) (λ p x ss ts h. more (token 23 x) h)

left_input : Input 37 comma false 41
unfolding input_role after go emitted closes points row_at row arrow arrow_of same pick
left_input = literal_takes 37 41 comma (λ m. input_role m false) (λ p x ss ts h. more (token 20 x) h) (λ p x ss ts h. more (token 21 x) h)

right_input : Input 41 closing true 23
unfolding input_role after go emitted closes points row_at row arrow arrow_of same pick
right_input = literal_takes 41 23 closing (λ m. input_role m true) (λ p x ss ts h. more (token 22 x) h) (λ p x ss ts h. more (token 23 x) h)

inputs_take : (c : ℕ) → Input c comma false 33 → Input c closing true 23
    → (l : Literal) (ls : List Literal) (p : Name) (ss : List Sign) (ts : List Token) → ((y : Name) → Takes 23 y ss ts)
    → Takes c p (inputs_signs l ls ++ (word closing ∷ ss)) (inputs_tokens l ls ++ ts)
unfolding inputs_signs inputs_tokens
inputs_take c a b l [] p ss ts h = b l p ss ts (h l.name)
inputs_take c a b l (m ∷ ms) p ss ts h =
    rw (append_assoc (literal_signs l) (word comma ∷ inputs_signs m ms) (word closing ∷ ss))
    (a l p _ _ (inputs_take 33 next_input last_input m ms l.name ss ts h))

-- the inputs of gate g, the last name before them
any_take : (g : Name) (ls : List Literal) (ss : List Sign) (ts : List Token) → ((y : Name) → Takes 23 y ss ts)
    → Takes 32 g (any_inputs_signs ls ++ (word closing ∷ ss)) (any_inputs_tokens g ls ++ ts)
unfolding any_inputs_signs any_inputs_tokens after go emitted closes points row_at row arrow arrow_of same pick
any_take g [] ss ts h = more (token 24 g) (h g)
any_take g (l ∷ ls) ss ts h = inputs_take 32 first_input_lem only_input l ls g ss ts h

junction_takes : (j : Junction) (g p : Name) (ss : List Sign) (ts : List Token) → Takes 32 g ss ts
    → Takes 24 p (name g ∷ word equals ∷ word (junction_word j) ∷ word opening ∷ ss) (token (junction_role j) g ∷ ts)
unfolding junction_word junction_role after go emitted closes points row_at row arrow arrow_of same pick
junction_takes conjunction g p ss ts h = more (token 13 g) h
junction_takes disjunction g p ss ts h = more (token 14 g) h

quantified_takes : (q : Quantifier) (g p : Name) (ss : List Sign) (ts : List Token) → Takes 44 g ss ts
    → Takes 24 p (name g ∷ word equals ∷ word (quantifier_word q) ∷ word opening ∷ ss) (token (quantifier_role q) g ∷ ts)
unfolding quantifier_word quantifier_role after go emitted closes points row_at row arrow arrow_of same pick
quantified_takes exists g p ss ts h = more (token 16 g) h
quantified_takes for_all g p ss ts h = more (token 17 g) h

xor_takes : (g p : Name) (ss : List Sign) (ts : List Token) → Takes 37 g ss ts
    → Takes 24 p (name g ∷ word equals ∷ word xor_word ∷ word opening ∷ ss) (token xor_role g ∷ ts)
unfolding after go emitted closes points row_at row arrow arrow_of same pick
xor_takes g p ss ts h = more (token 15 g) h

-- the end of the output line or a gate line
line_end_takes : (ss : List Sign) (ts : List Token) → ((y : Name) → Takes 24 y ss ts) → (y : Name) → Takes 23 y (newline ∷ ss) ts
unfolding after go emitted line_end points row_at row pick
line_end_takes ss ts h y = h y

gate_takes : (g : Gate) (p : Name) (ss : List Sign) (ts : List Token) → ((y : Name) → Takes 24 y ss ts)
    → Takes 24 p (gate_signs g ++ ss) (gate_tokens g ++ ts)
unfolding gate_signs gate_tokens inputs_tokens
gate_takes (junction_gate j g ls) p ss ts h =
    rw (append_assoc (any_inputs_signs ls) (word closing ∷ newline ∷ []) ss)
    (junction_takes j g p _ _ (any_take g ls (newline ∷ ss) ts (line_end_takes ss ts h)))
gate_takes (xor_gate g l r) p ss ts h =
    rw (append_assoc (literal_signs l) (word comma ∷ (literal_signs r ++ (word closing ∷ newline ∷ []))) ss, append_assoc (literal_signs r) (word closing ∷ newline ∷ []) ss)
    (xor_takes g p _ _ (left_input l g _ _ (right_input r l.name _ _ (line_end_takes ss ts h r.name))))
gate_takes (quantifier_gate q g x xs l) p ss ts h =
    rw (append_assoc (names_signs x xs) (word semicolon ∷ (literal_signs l ++ (word closing ∷ newline ∷ []))) ss, append_assoc (literal_signs l) (word closing ∷ newline ∷ []) ss, append_assoc (list_tokens bound_role bound_role x xs) (inputs_tokens l []) ts)
    (quantified_takes q g p _ _ (bound_takes x xs g _ _ (λ y. right_input l y _ _ (line_end_takes ss ts h l.name))))

gates_take : (gs : List Gate) (p : Name) → Takes 24 p (gates_signs gs) (gates_tokens gs)
unfolding gates_signs gates_tokens after emitted
gates_take [] p = (refl, refl)
gates_take (g ∷ gs) p = gate_takes g p (gates_signs gs) (gates_tokens gs) (gates_take gs)

-- A point from which a prefix line or the output line may come.
record Opens (c : ℕ) : Type 0 where
  line : (q : Quantifier) (p : Name) (ss : List Sign) (ts : List Token) → Takes (line_start q) p ss ts → Takes c p (word (quantifier_word q) ∷ word opening ∷ ss) ts
  output : (p : Name) (ss : List Sign) (ts : List Token) → Takes 19 p ss ts → Takes c p (word output_word ∷ word opening ∷ ss) ts

line_opens : (q : Quantifier) (p : Name) (ss : List Sign) (ts : List Token) → Takes (line_start q) p ss ts
    → Takes 17 p (word (quantifier_word q) ∷ word opening ∷ ss) ts × Takes 2 p (word (quantifier_word q) ∷ word opening ∷ ss) ts
unfolding line_start quantifier_word after go emitted closes points row_at row arrow arrow_of same pick
line_opens exists p ss ts h = (h, h)
line_opens for_all p ss ts h = (h, h)

opens_later : Opens 17
unfolding after go emitted closes points row_at row arrow arrow_of same pick
opens_later = record { line = λ q p ss ts h. (line_opens q p ss ts h).0; output = λ p ss ts h. h }

opens_first : Opens 2
unfolding after go emitted closes points row_at row arrow arrow_of same pick
opens_first = record { line = λ q p ss ts h. (line_opens q p ss ts h).1; output = λ p ss ts h. h }

outer_end_takes : (ss : List Sign) (ts : List Token) → ((y : Name) → Takes 17 y ss ts) → (y : Name) → Takes 8 y (newline ∷ ss) ts
unfolding after go emitted line_end points row_at row pick
outer_end_takes ss ts h y = h y

-- the output line and the gate lines
end_takes : (c : ℕ) → Opens c → (o : Literal) (gs : List Gate) (p : Name) → Takes c p (output_signs o ++ gates_signs gs) (output_token o ∷ gates_tokens gs)
unfolding output_signs
end_takes c opens o gs p =
    rw (append_assoc (literal_signs o) (word closing ∷ newline ∷ []) (gates_signs gs))
    (opens.output p _ _ (output_takes o p _ _ (line_end_takes _ _ (gates_take gs) o.name)))

-- with the prefix lines before them
body_takes : (c : ℕ) → Opens c → (ls : List Line) (o : Literal) (gs : List Gate) (p : Name)
    → Takes c p (prefix_signs ls ++ (output_signs o ++ gates_signs gs)) (prefix_tokens ls ++ (output_token o ∷ gates_tokens gs))
unfolding prefix_signs prefix_tokens list_signs
body_takes c opens [] o gs p = end_takes c opens o gs p
body_takes c opens (l ∷ ls) o gs p =
    let rest : List Sign = output_signs o ++ gates_signs gs in
    let names : List Name → List Sign = names_signs l.first in
    rw (append_assoc (names l.others ++ (word closing ∷ newline ∷ [])) (prefix_signs ls) rest, append_assoc (names l.others) (word closing ∷ newline ∷ []) (prefix_signs ls ++ rest), append_assoc (list_tokens (line_role l.quantifier) later_role l.first l.others) (prefix_tokens ls) (output_token o ∷ gates_tokens gs))
    (opens.line l.quantifier p _ _ (line_takes l.quantifier l.first l.others p _ _ (outer_end_takes _ _ (body_takes 17 opens_later ls o gs))))

first_end_takes : (ss : List Sign) (ts : List Token) (y : Name) → Takes 2 y ss ts → Takes 1 y (newline ∷ ss) ts
unfolding after go emitted line_end points row_at row pick
first_end_takes ss ts y h = h

free_opens : (p : Name) (ss : List Sign) (ts : List Token) → Takes 4 p ss ts → Takes 2 p (word free_word ∷ word opening ∷ ss) ts
unfolding after go emitted closes points row_at row arrow arrow_of same pick
free_opens p ss ts h = h

lines_take : (xs : List Name) (ls : List Line) (o : Literal) (gs : List Gate) (p : Name)
    → Takes 2 p (free_signs xs ++ (prefix_signs ls ++ (output_signs o ++ gates_signs gs))) (free_tokens xs ++ (prefix_tokens ls ++ (output_token o ∷ gates_tokens gs)))
unfolding free_signs free_tokens list_signs
lines_take [] ls o gs p = body_takes 2 opens_first ls o gs p
lines_take (x ∷ xs) ls o gs p =
    rw (append_assoc (names_signs x xs) (word closing ∷ newline ∷ []) (prefix_signs ls ++ (output_signs o ++ gates_signs gs)))
    (free_opens p _ _ (free_takes x xs p _ _ (outer_end_takes _ _ (body_takes 17 opens_later ls o gs))))

pub file_takes : (f : File) (p : Name) → Takes 1 p (newline ∷ file_signs f) (file_tokens f)
unfolding file_signs file_tokens
file_takes f p = first_end_takes _ _ p (lines_take f.free f.prefix f.output f.gates p)
