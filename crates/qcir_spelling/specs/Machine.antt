-- A machine that takes the bytes of a QCIR text one at a time. It is alive as long as some file begins with the bytes taken
-- (proofs/Spelling.antt), so it finds the place of refusal 10; and it collects the file's tokens.
-- Assumes nothing.
use Rattle.std.specs.Prelude.{Bool, true, false, not, ◌&&◌, ◌||◌, List, [], ◌∷◌, ◌++◌, eqb, leb}
use Prim.Native.Nat.{ℕ, suc, ◌+◌, ◌*◌, ◌-◌}
use Rattle.lists.specs.Choice.{pick}
use Rattle.qcir.specs.File.{Name}
use Rattle.qcir.specs.Spelling.{free_word, output_word, and_word, or_word, xor_word, exists_word, forall_word, opening, closing, comma, semicolon, equals, minus_sign, header, is_space, is_digit}
use Rattle.qcir_tokens.specs.Tokens.{Token, token}

-- A word that may come next: what follows it, and the role in which it ends the pending name, 0 if it ends none.
pub record Arrow : Type 0 where
  pub word : List ℕ
  pub role : ℕ
  pub target : ℕ

unfoldable pub arrow : List ℕ → ℕ → ℕ → Arrow
arrow word role target = record { word = word; role = role; target = target }

-- A point between two signs: the words that may come next; the point after a name, and after a line's end, 0 where none may come;
-- whether it is the start of a line, where blank lines and comment lines are skipped.
pub record Row : Type 0 where
  pub words : List Arrow
  pub named : ℕ
  pub ended : ℕ
  pub starts : Bool

unfoldable pub row : List Arrow → ℕ → ℕ → Bool → Row
row words named ended starts = record { words = words; named = named; ended = ended; starts = starts }

-- The points, each with what was read last.
unfoldable pub points : List Row
points =
    -- 0: nothing
    row [] 0 0 false
    -- 1: after the header
    ∷ row [] 0 2 false
    -- 2: first line
    ∷ row (arrow free_word 0 3 ∷ arrow exists_word 0 9 ∷ arrow forall_word 0 12 ∷ arrow output_word 0 18 ∷ []) 0 0 true
    -- 3: free
    ∷ row (arrow opening 0 4 ∷ []) 0 0 false
    -- 4: free(
    ∷ row [] 5 0 false
    -- 5: free(x
    ∷ row (arrow comma 1 6 ∷ arrow closing 2 8 ∷ []) 0 0 false
    -- 6: free(..,
    ∷ row [] 7 0 false
    -- 7: free(.., x
    ∷ row (arrow comma 3 6 ∷ arrow closing 4 8 ∷ []) 0 0 false
    -- 8: end of the free line or a prefix line
    ∷ row [] 0 17 false
    -- 9: exists
    ∷ row (arrow opening 0 10 ∷ []) 0 0 false
    -- 10: exists(
    ∷ row [] 11 0 false
    -- 11: exists(x
    ∷ row (arrow comma 5 15 ∷ arrow closing 6 8 ∷ []) 0 0 false
    -- 12: forall
    ∷ row (arrow opening 0 13 ∷ []) 0 0 false
    -- 13: forall(
    ∷ row [] 14 0 false
    -- 14: forall(x
    ∷ row (arrow comma 7 15 ∷ arrow closing 8 8 ∷ []) 0 0 false
    -- 15: a prefix line after a comma
    ∷ row [] 16 0 false
    -- 16: a prefix line after a later name
    ∷ row (arrow comma 9 15 ∷ arrow closing 10 8 ∷ []) 0 0 false
    -- 17: a line after the free line or a prefix line
    ∷ row (arrow exists_word 0 9 ∷ arrow forall_word 0 12 ∷ arrow output_word 0 18 ∷ []) 0 0 true
    -- 18: output
    ∷ row (arrow opening 0 19 ∷ []) 0 0 false
    -- 19: output(
    ∷ row (arrow minus_sign 0 20 ∷ []) 21 0 false
    -- 20: output(-
    ∷ row [] 22 0 false
    -- 21: output(x
    ∷ row (arrow closing 11 23 ∷ []) 0 0 false
    -- 22: output(-x
    ∷ row (arrow closing 12 23 ∷ []) 0 0 false
    -- 23: end of the output line or a gate line
    ∷ row [] 0 24 false
    -- 24: a line after the output line
    ∷ row [] 25 0 true
    -- 25: g
    ∷ row (arrow equals 0 26 ∷ []) 0 0 false
    -- 26: g =
    ∷ row (arrow and_word 0 27 ∷ arrow or_word 0 28 ∷ arrow xor_word 0 29 ∷ arrow exists_word 0 30 ∷ arrow forall_word 0 31 ∷ []) 0 0 false
    -- 27: g = and
    ∷ row (arrow opening 13 32 ∷ []) 0 0 false
    -- 28: g = or
    ∷ row (arrow opening 14 32 ∷ []) 0 0 false
    -- 29: g = xor
    ∷ row (arrow opening 15 37 ∷ []) 0 0 false
    -- 30: g = exists
    ∷ row (arrow opening 16 44 ∷ []) 0 0 false
    -- 31: g = forall
    ∷ row (arrow opening 17 44 ∷ []) 0 0 false
    -- 32: g = and( or g = or(
    ∷ row (arrow closing 24 23 ∷ arrow minus_sign 0 34 ∷ []) 35 0 false
    -- 33: its inputs after a comma
    ∷ row (arrow minus_sign 0 34 ∷ []) 35 0 false
    -- 34: a minus sign
    ∷ row [] 36 0 false
    -- 35: an input
    ∷ row (arrow comma 20 33 ∷ arrow closing 22 23 ∷ []) 0 0 false
    -- 36: an input with a minus sign
    ∷ row (arrow comma 21 33 ∷ arrow closing 23 23 ∷ []) 0 0 false
    -- 37: g = xor(
    ∷ row (arrow minus_sign 0 38 ∷ []) 39 0 false
    -- 38: g = xor(-
    ∷ row [] 40 0 false
    -- 39: g = xor(x
    ∷ row (arrow comma 20 41 ∷ []) 0 0 false
    -- 40: g = xor(-x
    ∷ row (arrow comma 21 41 ∷ []) 0 0 false
    -- 41: before the last input of xor or a quantified gate
    ∷ row (arrow minus_sign 0 42 ∷ []) 43 0 false
    -- 42: its minus sign
    ∷ row [] 46 0 false
    -- 43: the last input
    ∷ row (arrow closing 22 23 ∷ []) 0 0 false
    -- 44: g = exists( or g = forall(, or after a comma there
    ∷ row [] 45 0 false
    -- 45: a quantified variable
    ∷ row (arrow comma 18 44 ∷ arrow semicolon 19 41 ∷ []) 0 0 false
    -- 46: the last input with a minus sign
    ∷ row (arrow closing 23 23 ∷ []) 0 0 false
    ∷ []

unfoldable pub row_at : List Row → ℕ → Row
row_at [] c = row [] 0 0 false
row_at (r ∷ rs) Prim.Native.Nat.zero = r
row_at (r ∷ rs) (suc c) = row_at rs c

abbrev pub point : ℕ → Row
point c = row_at points c

-- Where in the text the machine is.
pub data Place : Type 0 where
  -- no file begins so
  dead : Place
  -- within the header: its bytes that are still to come
  heading : List ℕ → Place
  -- right after the header; in the spaces before the count; in the count
  headed : Place
  padded : Place
  counted : Place
  -- between two signs
  ready : ℕ → Place
  -- within a word that may come at a point: its bytes so far
  inside : ℕ → List ℕ → Place
  -- within a name, or right after it: the point after it
  digits : ℕ → Place
  -- within a comment line before a point
  comment : ℕ → Place

-- The place, the bytes taken, the last name read, and the tokens so far.
pub record State : Type 0 where
  pub place : Place
  pub taken : ℕ
  pub pending : Name
  pub tokens : List Token

unfoldable pub start : State
start = record { place = heading header; taken = 0; pending = record { number = 0; position = 0 }; tokens = [] }

-- One byte more, at another place.
unfoldable pub move : State → Place → State
move s p = record { place = p; taken = suc s.taken; pending = s.pending; tokens = s.tokens }

-- One byte more, which belongs to the name x.
unfoldable pub move_name : State → Place → Name → State
move_name s p x = record { place = p; taken = suc s.taken; pending = x; tokens = s.tokens }

-- One byte more, which ends the pending name in a role; none if the role is 0.
unfoldable pub emit : State → Place → ℕ → State
emit s p role =
    record { place = p; taken = suc s.taken; pending = s.pending; tokens = pick (eqb role 0) s.tokens (s.tokens ++ (token role s.pending ∷ [])) }

unfoldable pub same : List ℕ → List ℕ → Bool
same [] [] = true
same [] (y ∷ ys) = false
same (x ∷ xs) [] = false
same (x ∷ xs) (y ∷ ys) = eqb x y && same xs ys

-- The second list begins with the first.
unfoldable pub begins : List ℕ → List ℕ → Bool
begins [] ys = true
begins (x ∷ xs) [] = false
begins (x ∷ xs) (y ∷ ys) = eqb x y && begins xs ys

-- Some word begins with these bytes.
unfoldable pub some_begins : List ℕ → List Arrow → Bool
some_begins w [] = false
some_begins w (a ∷ rest) = begins w a.word || some_begins w rest

-- The arrow of the word with these bytes; target 0 if there is none.
unfoldable pub arrow_of : List ℕ → List Arrow → Arrow
arrow_of w [] = arrow [] 0 0
arrow_of w (a ∷ rest) = pick (same w a.word) a (arrow_of w rest)

-- At point c the bytes w of a word have been read.
unfoldable pub read_word : State → ℕ → List ℕ → State
read_word s c w =
    let a = arrow_of w (point c).words in
    pick (eqb a.target 0)
    (pick (some_begins w (point c).words) (move s (inside c w)) (move s dead))
    (emit s (ready a.target) a.role)

-- A line's end at point c: the line ends, or it was blank.
unfoldable pub end_line : State → ℕ → State
end_line s c =
    pick (eqb (point c).ended 0)
    (pick (point c).starts (move s (ready c)) (move s dead))
    (move s (ready (point c).ended))

-- The number n of a name, if names may be so high.
unfoldable pub read_digit : ℕ → State → ℕ → ℕ → ℕ → State
read_digit most s c n position =
    pick (leb n most) (move_name s (digits c) (record { number = n; position = position })) (move s dead)

-- A byte between two signs, at point c.
unfoldable pub between : ℕ → State → ℕ → ℕ → State
between most s c b =
    pick (is_space b) (move s (ready c))
    (pick (eqb b 10) (end_line s c)
    (pick (eqb b 35 && (point c).starts) (move s (comment c))
    (pick (leb 49 b && leb b 57 && not (eqb (point c).named 0)) (read_digit most s (point c).named (b - 48) s.taken)
    (read_word s c (b ∷ [])))))

-- One byte.
unfoldable pub step_at : ℕ → State → Place → ℕ → State
step_at most s dead b = move s dead
step_at most s (heading []) b = move s dead
step_at most s (heading (h ∷ [])) b = pick (eqb b h) (move s headed) (move s dead)
step_at most s (heading (h ∷ i ∷ hs)) b = pick (eqb b h) (move s (heading (i ∷ hs))) (move s dead)
step_at most s headed b = pick (is_space b) (move s padded) (pick (eqb b 10) (end_line s 1) (move s dead))
step_at most s padded b = pick (is_space b) (move s padded) (pick (is_digit b) (move s counted) (pick (eqb b 10) (end_line s 1) (move s dead)))
step_at most s counted b = pick (is_digit b) (move s counted) (between most s 1 b)
step_at most s (ready c) b = between most s c b
step_at most s (inside c w) b = read_word s c (w ++ (b ∷ []))
step_at most s (digits c) b = pick (is_digit b) (read_digit most s c (10 * s.pending.number + (b - 48)) s.pending.position) (between most s c b)
step_at most s (comment c) b = pick (eqb b 10) (move s (ready c)) (move s (comment c))

unfoldable pub step : ℕ → State → ℕ → State
step most s b = step_at most s s.place b

unfoldable pub run : ℕ → State → List ℕ → State
run most s [] = s
run most s (b ∷ t) = run most (step most s b) t

unfoldable pub is_dead : Place → Bool
is_dead dead = true
is_dead (heading hs) = false
is_dead headed = false
is_dead padded = false
is_dead counted = false
is_dead (ready c) = false
is_dead (inside c w) = false
is_dead (digits c) = false
is_dead (comment c) = false

-- The start of a line after the output line.
unfoldable pub is_done : Place → Bool
is_done dead = false
is_done (heading hs) = false
is_done headed = false
is_done padded = false
is_done counted = false
is_done (ready c) = eqb c 24
is_done (inside c w) = false
is_done (digits c) = false
is_done (comment c) = false

-- How many bytes of a text the machine takes before it is dead.
unfoldable pub alive : ℕ → State → List ℕ → ℕ
alive most s [] = 0
alive most s (b ∷ t) = pick (is_dead (step most s b).place) 0 (suc (alive most (step most s b) t))

-- The text is a file: its end is read as LF.
unfoldable pub accepts : ℕ → List ℕ → Bool
accepts most text = is_done (step most (run most start text) 10).place

-- The tokens of a text.
unfoldable pub tokens_of : ℕ → List ℕ → List Token
tokens_of most text = (run most start text).tokens
