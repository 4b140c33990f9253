-- The roles of a file's tokens, and the tokens among which no role passes a test.
-- Assumes nothing.
use mathlib.Core.Bool.{Bool, true, false}
use mathlib.Core.List.{List, [], ◌∷◌, ◌++◌}
use mathlib.Core.Path.{◌≡◌, refl}
use Prim.Native.Nat.{ℕ}
use Rattle.formula.specs.Node.{Quantifier, exists, for_all}
use Rattle.qcir.specs.File.{Name, Literal, Junction, conjunction, disjunction, Gate, junction_gate, xor_gate, quantifier_gate, gate_name, Line, File}
use Rattle.qcir_tokens.specs.Tokens.{Token, token, free_role, line_role, later_role, output_role, junction_role, xor_role, quantifier_role, bound_role, input_role, is_definition, is_minus, list_tokens, free_tokens, prefix_tokens, inputs_tokens, any_inputs_tokens, gate_tokens}

-- What holds of each number of a kind of role holds of the role.
module _ (P : ℕ → Type 0) where
  pub free_all : P 1 → P 2 → P 3 → P 4 → (a b : Bool) → P (free_role a b)
  unfolding free_role
  free_all p q r s true false = p
  free_all p q r s true true = q
  free_all p q r s false false = r
  free_all p q r s false true = s

  pub line_all : P 5 → P 6 → P 7 → P 8 → (q : Quantifier) (b : Bool) → P (line_role q b)
  unfolding line_role
  line_all p q r s exists false = p
  line_all p q r s exists true = q
  line_all p q r s for_all false = r
  line_all p q r s for_all true = s

  pub later_all : P 9 → P 10 → (b : Bool) → P (later_role b)
  unfolding later_role
  later_all p q false = p
  later_all p q true = q

  pub output_all : P 11 → P 12 → (b : Bool) → P (output_role b)
  unfolding output_role
  output_all p q false = p
  output_all p q true = q

  pub junction_all : P 13 → P 14 → (j : Junction) → P (junction_role j)
  unfolding junction_role
  junction_all p q conjunction = p
  junction_all p q disjunction = q

  pub quantifier_all : P 16 → P 17 → (q : Quantifier) → P (quantifier_role q)
  unfolding quantifier_role
  quantifier_all p q exists = p
  quantifier_all p q for_all = q

  pub bound_all : P 18 → P 19 → (b : Bool) → P (bound_role b)
  unfolding bound_role
  bound_all p q false = p
  bound_all p q true = q

  pub input_all : P 20 → P 21 → P 22 → P 23 → (a b : Bool) → P (input_role a b)
  unfolding input_role
  input_all p q r s false false = p
  input_all p q r s true false = q
  input_all p q r s false true = r
  input_all p q r s true true = s

-- The minus sign that a role tells of.
pub output_minus : (b : Bool) → is_minus (output_role b) ≡ b
unfolding is_minus output_role
output_minus true = refl
output_minus false = refl

pub input_minus : (a b : Bool) → is_minus (input_role a b) ≡ a
unfolding is_minus input_role
input_minus true true = refl
input_minus true false = refl
input_minus false true = refl
input_minus false false = refl

-- Which roles are definitions.
pub output_no_definition : (b : Bool) → is_definition (output_role b) ≡ false
unfolding is_definition
output_no_definition = output_all (λ r. is_definition r ≡ false) refl refl

pub bound_no_definition : (b : Bool) → is_definition (bound_role b) ≡ false
unfolding is_definition
bound_no_definition = bound_all (λ r. is_definition r ≡ false) refl refl

pub input_no_definition : (a b : Bool) → is_definition (input_role a b) ≡ false
unfolding is_definition
input_no_definition = input_all (λ r. is_definition r ≡ false) refl refl refl refl

pub junction_defines : (j : Junction) → is_definition (junction_role j) ≡ true
unfolding is_definition
junction_defines = junction_all (λ r. is_definition r ≡ true) refl refl

pub xor_defines : is_definition xor_role ≡ true
unfolding is_definition
xor_defines = refl

pub quantifier_defines : (q : Quantifier) → is_definition (quantifier_role q) ≡ true
unfolding is_definition
quantifier_defines = quantifier_all (λ r. is_definition r ≡ true) refl refl

-- No token's role passes the test.
pub data Quiet (p : ℕ → Bool) : List Token → Type 0 where
  none : Quiet p []
  more : {t : Token} {ts : List Token} → p t.role ≡ false → Quiet p ts → Quiet p (t ∷ ts)

pub quiet_append : {p : ℕ → Bool} {ts us : List Token} → Quiet p ts → Quiet p us → Quiet p (ts ++ us)
quiet_append none r = r
quiet_append (more h q) r = more h (quiet_append q r)

pub quiet_list : (p : ℕ → Bool) (first others : Bool → ℕ) (x : Name) (xs : List Name) → ((b : Bool) → p (first b) ≡ false) → ((b : Bool) → p (others b) ≡ false) → Quiet p (list_tokens first others x xs)
unfolding list_tokens token
quiet_list p first others x [] f o = more (f true) none
quiet_list p first others x (y ∷ ys) f o = more (f false) (quiet_list p others others y ys o o)

pub quiet_free : (p : ℕ → Bool) (xs : List Name) → ((a b : Bool) → p (free_role a b) ≡ false) → Quiet p (free_tokens xs)
unfolding free_tokens
quiet_free p [] h = none
quiet_free p (x ∷ xs) h = quiet_list p (free_role true) (free_role false) x xs (h true) (h false)

pub quiet_prefix : (p : ℕ → Bool) (ls : List Line) → ((q : Quantifier) (b : Bool) → p (line_role q b) ≡ false) → ((b : Bool) → p (later_role b) ≡ false) → Quiet p (prefix_tokens ls)
unfolding prefix_tokens
quiet_prefix p [] h k = none
quiet_prefix p (l ∷ ls) h k =
    quiet_append (quiet_list p (line_role l.quantifier) later_role l.first l.others (h l.quantifier) k) (quiet_prefix p ls h k)

-- The tokens before the output.
pub quiet_front : (p : ℕ → Bool) (f : File) → ((a b : Bool) → p (free_role a b) ≡ false) → ((q : Quantifier) (b : Bool) → p (line_role q b) ≡ false) → ((b : Bool) → p (later_role b) ≡ false) → Quiet p (free_tokens f.free ++ prefix_tokens f.prefix)
quiet_front p f h k l = quiet_append (quiet_free p f.free h) (quiet_prefix p f.prefix k l)

pub front_no_definition : (f : File) → Quiet is_definition (free_tokens f.free ++ prefix_tokens f.prefix)
unfolding is_definition
front_no_definition f =
    quiet_front is_definition f (free_all (λ r. is_definition r ≡ false) refl refl refl refl)
    (line_all (λ r. is_definition r ≡ false) refl refl refl refl)
    (later_all (λ r. is_definition r ≡ false) refl refl)

inputs_no_definition : (l : Literal) (ls : List Literal) → Quiet is_definition (inputs_tokens l ls)
unfolding inputs_tokens token
inputs_no_definition l [] = more (input_no_definition l.minus true) none
inputs_no_definition l (m ∷ ms) = more (input_no_definition l.minus false) (inputs_no_definition m ms)

any_no_definition : (g : Name) (ls : List Literal) → Quiet is_definition (any_inputs_tokens g ls)
unfolding any_inputs_tokens token is_definition
any_no_definition g [] = more refl none
any_no_definition g (l ∷ ls) = inputs_no_definition l ls

-- A gate's tokens: the definition, and others that define nothing.
pub record GateTokens (g : Gate) : Type 0 where
  pub role : ℕ
  pub others : List Token
  pub defines : is_definition role ≡ true
  pub quiet : Quiet is_definition others
  pub are : gate_tokens g ≡ token role (gate_name g) ∷ others

pub gate_tokens_lem : (g : Gate) → GateTokens g
unfolding gate_tokens gate_name
gate_tokens_lem (junction_gate j g ls) =
    record { role = junction_role j; others = any_inputs_tokens g ls; defines = junction_defines j; quiet = any_no_definition g ls; are = refl }
gate_tokens_lem (xor_gate g l r) =
    record { role = xor_role; others = inputs_tokens l (r ∷ []); defines = xor_defines; quiet = inputs_no_definition l (r ∷ []); are = refl }
gate_tokens_lem (quantifier_gate q g x xs l) =
    record {
      role = quantifier_role q;
      others = list_tokens bound_role bound_role x xs ++ inputs_tokens l [];
      defines = quantifier_defines q;
      quiet = quiet_append (quiet_list is_definition bound_role bound_role x xs bound_no_definition bound_no_definition) (inputs_no_definition l []);
      are = refl;
    }
