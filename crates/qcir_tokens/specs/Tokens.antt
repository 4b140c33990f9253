-- A QCIR file as a list of tokens: its names in the order of the text, each with the role that it plays.
-- Assumes nothing.
use Rattle.std.specs.Prelude.{Bool, true, false, ◌&&◌, ◌||◌, List, [], ◌∷◌, ◌++◌, ℕ, suc, eqb, leb}
use Rattle.lists.specs.Choice.{pick}
use Rattle.formula.specs.Node.{Quantifier, exists, for_all}
use Rattle.qcir.specs.File.{Name, Literal, Junction, conjunction, disjunction, Gate, junction_gate, xor_gate, quantifier_gate, Line, File}

pub record Token : Type 0 where
  pub role : ℕ
  pub name : Name

unfoldable pub token : ℕ → Name → Token
token role name = record { role = role; name = name }

-- The roles. Of an entry of the free line: whether it is the line's first, and its last.
unfoldable pub free_role : Bool → Bool → ℕ
free_role true false = 1
free_role true true = 2
free_role false false = 3
free_role false true = 4

-- Of a prefix line's first entry: its quantifier, and whether it is the line's last too.
unfoldable pub line_role : Quantifier → Bool → ℕ
line_role exists false = 5
line_role exists true = 6
line_role for_all false = 7
line_role for_all true = 8

-- Of a prefix line's later entries.
unfoldable pub later_role : Bool → ℕ
later_role false = 9
later_role true = 10

-- Of the output: whether a minus sign stands before it.
unfoldable pub output_role : Bool → ℕ
output_role false = 11
output_role true = 12

-- Of the name that a gate line defines.
unfoldable pub junction_role : Junction → ℕ
junction_role conjunction = 13
junction_role disjunction = 14

abbrev pub xor_role : ℕ
xor_role = 15

unfoldable pub quantifier_role : Quantifier → ℕ
quantifier_role exists = 16
quantifier_role for_all = 17

-- Of a variable that a gate quantifies: whether it is the last.
unfoldable pub bound_role : Bool → ℕ
bound_role false = 18
bound_role true = 19

-- Of an input: whether a minus sign stands before it, and whether it is the gate's last.
unfoldable pub input_role : Bool → Bool → ℕ
input_role false false = 20
input_role true false = 21
input_role false true = 22
input_role true true = 23

-- The end of a gate without inputs; the token holds the gate's name.
abbrev pub empty_role : ℕ
empty_role = 24

-- An entry of the free line or a prefix line.
unfoldable pub is_outer : ℕ → Bool
is_outer r = leb r 10

unfoldable pub is_free : ℕ → Bool
is_free r = leb r 4

unfoldable pub is_output : ℕ → Bool
is_output r = eqb r 11 || eqb r 12

unfoldable pub is_definition : ℕ → Bool
is_definition r = leb 13 r && leb r 17

unfoldable pub is_bound : ℕ → Bool
is_bound r = eqb r 18 || eqb r 19

unfoldable pub is_input : ℕ → Bool
is_input r = leb 20 r && leb r 23

-- A use: an input or the output.
unfoldable pub is_use : ℕ → Bool
is_use r = is_input r || is_output r

-- A minus sign stands before the output or input.
unfoldable pub is_minus : ℕ → Bool
is_minus r = eqb r 12 || (eqb r 21 || eqb r 23)

-- The last token of a gate line.
unfoldable pub is_last : ℕ → Bool
is_last r = leb 22 r

-- The tokens of a list of names: roles of the first and of the others, by whether the name is the last.
unfoldable pub list_tokens : (Bool → ℕ) → (Bool → ℕ) → Name → List Name → List Token
list_tokens first others x [] = token (first true) x ∷ []
list_tokens first others x (y ∷ ys) = token (first false) x ∷ list_tokens others others y ys

unfoldable pub free_tokens : List Name → List Token
free_tokens [] = []
free_tokens (x ∷ xs) = list_tokens (free_role true) (free_role false) x xs

unfoldable pub prefix_tokens : List Line → List Token
prefix_tokens [] = []
prefix_tokens (l ∷ ls) = list_tokens (line_role l.quantifier) later_role l.first l.others ++ prefix_tokens ls

unfoldable pub output_token : Literal → Token
output_token l = token (output_role l.minus) l.name

unfoldable pub inputs_tokens : Literal → List Literal → List Token
inputs_tokens l [] = token (input_role l.minus true) l.name ∷ []
inputs_tokens l (m ∷ ms) = token (input_role l.minus false) l.name ∷ inputs_tokens m ms

-- The tokens of the inputs of gate g.
unfoldable pub any_inputs_tokens : Name → List Literal → List Token
any_inputs_tokens g [] = token empty_role g ∷ []
any_inputs_tokens g (l ∷ ls) = inputs_tokens l ls

unfoldable pub gate_tokens : Gate → List Token
gate_tokens (junction_gate j g ls) = token (junction_role j) g ∷ any_inputs_tokens g ls
gate_tokens (xor_gate g l r) = token xor_role g ∷ inputs_tokens l (r ∷ [])
gate_tokens (quantifier_gate q g x xs l) = token (quantifier_role q) g ∷ (list_tokens bound_role bound_role x xs ++ inputs_tokens l [])

unfoldable pub gates_tokens : List Gate → List Token
gates_tokens [] = []
gates_tokens (g ∷ gs) = gate_tokens g ++ gates_tokens gs

unfoldable pub file_tokens : File → List Token
file_tokens f = free_tokens f.free ++ (prefix_tokens f.prefix ++ (output_token f.output ∷ gates_tokens f.gates))

-- The first definition of x among the tokens, the first of which has index i: one more than its index, 0 if there is none.
unfoldable pub definition_from : ℕ → List Token → ℕ → ℕ
definition_from i [] x = 0
definition_from i (t ∷ ts) x = pick (is_definition t.role && eqb t.name.number x) (suc i) (definition_from (suc i) ts x)

abbrev pub definition : List Token → ℕ → ℕ
definition ts x = definition_from 0 ts x

-- The names stand in the order of the text, from position p on.
unfoldable pub ascending : ℕ → List Token → Bool
ascending p [] = true
ascending p (t ∷ ts) = pick (eqb t.role empty_role) (ascending p ts) (leb p t.name.position && ascending (suc t.name.position) ts)

-- The numbers are 1 to most.
unfoldable pub numbered : ℕ → List Token → Bool
numbered most [] = true
numbered most (t ∷ ts) = leb 1 t.name.number && leb t.name.number most && numbered most ts
