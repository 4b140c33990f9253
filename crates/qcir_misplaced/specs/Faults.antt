-- Refusal 11 as one pass over the tokens: what the functions of this crate compute. The public contract cites none of these definitions.
-- Lists of names have numbers: that of the free and prefix lines together is 1, that of a quantified gate is 2 more than the index of the
-- token that defines the gate.
-- Assumes nothing.
use Rattle.std.specs.Prelude.{Bool, not, ◌&&◌, ◌||◌, List, [], ◌∷◌, ◌++◌, ℕ, suc, eqb, leb, Option, None, Some}
use Rattle.lists.specs.Choice.{pick}
use Rattle.qcir_tokens.specs.Tokens.{Token, is_outer, is_definition, is_bound, is_input}

-- An entry of a list: of the free line, a prefix line or a quantified gate.
unfoldable pub is_entry : ℕ → Bool
is_entry r = is_outer r || is_bound r

-- Whether the token at index i is at fault, by its role: `gate` is one more than the index of the first definition of its number (0: none
-- defines it), `list` the last list before it that holds the number (0: none does), and `line` one more than the index of the last
-- definition before it (0: there is none). The list that the token stands in is `suc line`.
unfoldable pub fault : ℕ → ℕ → ℕ → ℕ → ℕ → Bool
fault role gate list line i =
    pick (is_entry role)
    -- twice in one list, or a gate's name in an earlier line or this one
    (eqb list (suc line) || (not (eqb gate 0) && leb gate line))
    (pick (is_definition role)
    -- defined twice, or in a list before
    (leb gate i || not (eqb list 0))
    -- defined in this line or a later one, and in none before
    (is_input role && leb line gate))

-- The last list that holds each number, once list v holds x.
unfoldable pub mark : ℕ → ℕ → (ℕ → ℕ) → ℕ → ℕ
mark x v lists y = pick (eqb y x) v (lists y)

-- The same after a token with this role and number.
unfoldable pub lists_after : ℕ → ℕ → ℕ → (ℕ → ℕ) → ℕ → ℕ
lists_after role x line lists = pick (is_entry role) (mark x (suc line) lists) lists

-- One more than the index of the last definition up to token i.
unfoldable pub line_after : ℕ → ℕ → ℕ → ℕ
line_after role line i = pick (is_definition role) (suc i) line

-- The positions of the tokens at fault, of those from index i on.
unfoldable pub faults : (ℕ → ℕ) → (ℕ → ℕ) → ℕ → ℕ → List Token → List ℕ
faults gates lists line i [] = []
faults gates lists line i (t ∷ ts) =
    let x = t.name.number in
    pick (fault t.role (gates x) (lists x) line i) (t.name.position ∷ []) []
    ++ faults gates (lists_after t.role x line lists) (line_after t.role line i) (suc i) ts

-- The first of the positions, if there are any.
unfoldable pub first_of : List ℕ → Option ℕ
first_of [] = None
first_of (p ∷ ps) = Some p
