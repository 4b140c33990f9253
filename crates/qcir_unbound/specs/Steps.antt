-- The walk through a file's tokens, from the output through the gates: at a use of a gate it enters the gate's line, and past the
-- line's last token it goes back through the line and returns to the use.
-- Assumes nothing.
use Rattle.std.specs.Prelude.{Bool, true, false, not, ◌&&◌, ◌||◌, List, ◌≡◌, ℕ, zero, suc, ◌-◌, ◌≤◌, ◌<◌, eqb, length, get_or, None}
use Rattle.lists.specs.Choice.{pick}
use Rattle.qcir_tokens.specs.Tokens.{is_outer, is_output, is_definition, is_bound, is_use, is_last}
use Rattle.qcir_tokens.specs.Held.{number_count, token_limit, with_number}
use Rattle.qcir_unbound.specs.declared.Walk.{Walk}
use Rattle.qcir_unbound.specs.declared.Token.{Token}

-- What is walked through: the role and the number of each token, and for each number one more than the token that defines it first.
pub record Tokens : Type 0 where
  pub role : ℕ → ℕ
  pub number : ℕ → ℕ
  pub gate : ℕ → ℕ

unfoldable pub tokens_of : List ℕ → List ℕ → List ℕ → Tokens
tokens_of roles numbers gates = record { role = λ i. get_or roles i 0; number = λ i. get_or numbers i 0; gate = λ x. get_or gates x 0 }

-- Token i.
unfoldable pub token_of : Tokens → ℕ → Token
token_of t i = record { role = t.role i; number = t.number i; gate = t.gate (t.number i) }

-- Where the walk stands and what it has found; which numbers are bound there; and what it kept at the tokens on its way for when it
-- is back there: at an entry, whether the number was bound before, and at a gate's definition the token that uses the gate.
pub record State : Type 0 where
  pub walk : Walk
  pub marks : ℕ → Bool
  pub kept : ℕ → ℕ

unfoldable pub state_of : Walk → List Bool → List ℕ → State
state_of w marks kept = record { walk = w; marks = λ x. get_or marks x false; kept = λ i. get_or kept i 0 }

abbrev pub first : ℕ → Walk
first output = record { at = output; leaving = false; lowest = None }

-- The walk starts at the output.
unfoldable pub start : ℕ → List Bool → State
start output marks = record { walk = first output; marks = λ x. get_or marks x false; kept = λ i. 0 }

-- f with v at i
unfoldable pub put : {A : Type 0} → (ℕ → A) → ℕ → A → ℕ → A
put f i v j = pick (eqb j i) v (f j)

-- A mark as it is kept.
unfoldable pub flag : Bool → ℕ
flag true = 1
flag false = 0

-- The state with another walk.
abbrev pub walked : Walk → State → State
walked w s = record { walk = w; marks = s.marks; kept = s.kept }

-- Nothing comes right after such a token: it is a gate line's last, or the output.
unfoldable pub is_end : ℕ → Bool
is_end r = is_last r || is_output r

-- Not of a gate line.
unfoldable pub is_above : ℕ → Bool
is_above r = is_outer r || is_output r

unfoldable pub moved : ℕ → Bool → Walk → Walk
moved i leaving w = record { at = i; leaving = leaving; lowest = w.lowest }

-- Token i, of role r, is done.
unfoldable pub past : ℕ → ℕ → Walk → Walk
past r i w = pick (is_end r) (moved i true w) (moved (suc i) false w)

-- The number x is unbound.
unfoldable pub noted : ℕ → Walk → Walk
noted x w = record { at = w.at; leaving = w.leaving; lowest = with_number w.lowest x }

-- The variable x is used where it is bound or is not.
unfoldable pub judged : Bool → ℕ → Walk → Walk
judged bound x w = pick bound w (noted x w)

-- Token k is an entry: it is no line's last.
unfoldable pub bound : Token → State → State
bound k s =
    record {
      walk = moved (suc s.walk.at) false s.walk;
      marks = put s.marks k.number true;
      kept = put s.kept s.walk.at (flag (s.marks k.number));
    }

-- Token k uses a variable, or a gate: then the walk enters the gate's line.
unfoldable pub used : Token → State → State
used k s =
    pick (eqb k.gate 0) (walked (past k.role s.walk.at (judged (s.marks k.number) k.number s.walk)) s)
    (record { walk = moved (k.gate - 1) false s.walk; marks = s.marks; kept = put s.kept (k.gate - 1) s.walk.at })

-- A step onward, at token k.
unfoldable pub onward : Token → State → State
onward k s =
    pick (is_use k.role) (used k s)
    (pick (is_bound k.role) (bound k s)
    (walked (past k.role s.walk.at s.walk) s))

-- Token k is an entry, and its number is again what it was before.
unfoldable pub freed : Token → State → State
freed k s =
    record {
      walk = moved (s.walk.at - 1) true s.walk;
      marks = put s.marks k.number (not (eqb (s.kept s.walk.at) 0));
      kept = s.kept;
    }

-- A step back through a gate line, at token k: at the definition the walk returns to the token that uses the gate.
unfoldable pub back : (ℕ → ℕ) → Token → State → State
back role k s =
    pick (is_definition k.role) (walked (past (role (s.kept s.walk.at)) (s.kept s.walk.at) s.walk) s)
    (pick (is_bound k.role) (freed k s)
    (walked (moved (s.walk.at - 1) true s.walk) s))

-- A step at token k.
unfoldable pub step_at : (ℕ → ℕ) → Token → State → State
step_at role k s = pick s.walk.leaving (back role k s) (onward k s)

-- The walk is back above the gates, at token k.
unfoldable pub ended : Token → Walk → Bool
ended k w = w.leaving && is_above k.role

unfoldable pub step : Tokens → State → State
step t s =
    let k : Token = token_of t s.walk.at in
    pick (ended k s.walk) s (step_at t.role k s)

unfoldable pub run : Tokens → ℕ → State → State
run t zero s = s
run t (suc n) s = run t n (step t s)

-- What keeps the walk within the arrays.
pub record Within (roles numbers : List ℕ) (count : ℕ) (gates : List ℕ) : Type 0 where
  pub roles_hold : count ≤ length roles
  pub numbers_hold : count ≤ length numbers
  pub few : count ≤ token_limit
  pub gates_wide : length gates ≡ number_count
  pub gates_low : (x : ℕ) → get_or gates x 0 ≤ count
  pub starts_above : is_above (get_or roles 0 0) ≡ true
  pub stops : (i : ℕ) → suc i ≡ count → is_end (get_or roles i 0) ≡ true

-- What keeps a step at token k within them.
pub record StepFits (k : Token) (w : Walk) (marks : List Bool) (kept : List ℕ) : Type 0 where
  pub at_low : w.at < token_limit
  pub gate_low : k.gate ≤ token_limit
  pub marks_wide : length marks ≡ number_count
  pub kept_wide : length kept ≡ token_limit

-- And a step back.
pub record BackFits (roles : List ℕ) (w : Walk) (kept : List ℕ) : Type 0 where
  pub at_some : 0 < w.at
  pub user_low : get_or kept w.at 0 < token_limit
  pub user_held : get_or kept w.at 0 < length roles
