-- What the code's variables and arrays hold of the machine's state.
-- Assumes nothing.
use Rattle.std.specs.Prelude.{true, false, Result, MatchResult, List, ◌≡◌, ℕ, ◌+◌, ◌*◌, ◌-◌, ◌≤◌, ◌<◌, eqb, length, take, drop}
use Rattle.lists.specs.Choice.{pick}
use Rattle.qcir_tokens.specs.Held.{tokens_from, token_limit}
use Rattle.qcir_spelling.specs.Machine.{State, start, run, alive, accepts, tokens_of}
use Rattle.qcir_scan.specs.declared.Progress.{Progress}
use Rattle.qcir_scan.specs.Places.{place_of, spare}
use Rattle.qcir_scan.specs.Tables.{entry_at}

-- The highest number of a name.
abbrev pub highest : ℕ
highest = 65535

unfoldable pub state_of : Progress → List ℕ → List ℕ → List ℕ → State
state_of q roles numbers positions =
    record { place = place_of q.place; taken = q.at; pending = record { number = q.number; position = q.begin }; tokens = tokens_from roles numbers positions 0 q.count }

-- The arrays have room for the tokens of any text.
pub record Wide (roles numbers positions : List ℕ) : Type 0 where
  pub roles_wide : length roles ≡ token_limit
  pub numbers_wide : length numbers ≡ token_limit
  pub positions_wide : length positions ≡ token_limit

-- The machine takes the first `at` bytes, and then as many as it takes from there.
abbrev pub Lives : List ℕ → ℕ → Type 0
Lives text at = alive highest start text ≡ at + alive highest (run highest start (take at text)) (drop at text)

-- Variables and arrays hold the state after the bytes so far; all but the last of them were taken.
pub record Holds (text roles numbers positions : List ℕ) (q : Progress) : Type 0 where
  pub state : run highest start (take q.at text) ≡ state_of q roles numbers positions
  pub lives : Lives text (q.at - 1)
  pub within : q.at ≤ length text
  pub place_low : q.place < 115
  pub number_low : q.number ≤ highest
  pub begin_low : q.begin < 65536
  pub room : 2 * q.count + spare q.place ≤ q.at
  pub wide : Wide roles numbers positions

-- The pending number after a digit, which begins the name if `act` is 25.
unfoldable pub number_after : ℕ → ℕ → ℕ → ℕ
number_after act number digit = pick (eqb act 25) digit (10 * number + digit)

-- The position of the pending name.
unfoldable pub begin_after : ℕ → ℕ → ℕ → ℕ
begin_after act begin at = pick (eqb act 25) at begin

-- How many tokens there are after a byte that ends the pending name in this role.
unfoldable pub count_after : ℕ → ℕ → ℕ
count_after role count = pick (eqb role 0) count (count + 1)

-- Within a name or right after it.
pub record InName (place : ℕ) : Type 0 where
  pub first : 50 ≤ place
  pub last : place < 65

-- Between two signs.
pub record Between (place : ℕ) : Type 0 where
  pub first : 4 ≤ place
  pub last : place < 50

-- Within a comment line.
pub record InComment (place : ℕ) : Type 0 where
  pub first : 65 ≤ place
  pub last : place < 68

-- From a place, two bytes lead to the next, and nothing is done.
pub record Leads (place first second next : ℕ) : Type 0 where
  pub going : 0 < place
  pub middle : 0 < entry_at place first
  pub middle_low : entry_at place first < 115
  pub arrives : entry_at (entry_at place first) second ≡ next
  pub next_low : next < 115
  pub first_low : first < 256
  pub second_low : second < 256

-- From q to r, arrays that hold the state go on to hold it.
abbrev pub GoesOn : List ℕ → Progress → Progress → Type 0
GoesOn text q r = (q.at ≤ r.at) × ((roles numbers positions : List ℕ) → Holds text roles numbers positions q → Holds text roles numbers positions r)

-- The text is a file, some file begins with all of its bytes, and the arrays hold its tokens.
pub record Spelled (text roles numbers positions : List ℕ) (count : ℕ) : Type 0 where
  pub accepted : accepts highest text ≡ true
  pub position_is : length text ≡ alive highest start text
  pub tokens_are : tokens_from roles numbers positions 0 count ≡ tokens_of highest text
  pub few : count ≤ token_limit

-- The text is no file, and some file begins with this many of its bytes, but none with more.
pub record Misspelled (text : List ℕ) (position : ℕ) : Type 0 where
  pub refused : accepts highest text ≡ false
  pub position_is : position ≡ alive highest start text

-- What scanning a text answers, and leaves in the arrays.
abbrev pub Answers : List ℕ → List ℕ → List ℕ → List ℕ → Result ℕ ℕ → Type 0
Answers text roles numbers positions r = MatchResult r (Spelled text roles numbers positions) (Misspelled text)
