-- The machine's places, numbered.
-- Assumes nothing.
use Rattle.std.specs.Prelude.{◌&&◌, List, [], ◌∷◌, map, ℕ, suc, eqb, leb, get_or}
use Rattle.lists.specs.Choice.{pick}
use Rattle.lists.specs.Members.{mem}
use Rattle.qcir_spelling.specs.Machine.{Place, dead, heading, headed, padded, counted, ready, inside, digits, comment, Row, points, same}

-- Those that a run can be at once the header is taken. 0 is dead, 1 right after the header, 27 where a file may end; 4 to 49 are
-- between two signs, 50 to 64 within names or right after them, 65 to 67 within comment lines, 68 to 114 within words.
unfoldable pub places : List Place
places =
    dead
    ∷ headed
    ∷ padded
    ∷ counted
    ∷ ready 1
    ∷ ready 2
    ∷ ready 3
    ∷ ready 4
    ∷ ready 5
    ∷ ready 6
    ∷ ready 7
    ∷ ready 8
    ∷ ready 9
    ∷ ready 10
    ∷ ready 11
    ∷ ready 12
    ∷ ready 13
    ∷ ready 14
    ∷ ready 15
    ∷ ready 16
    ∷ ready 17
    ∷ ready 18
    ∷ ready 19
    ∷ ready 20
    ∷ ready 21
    ∷ ready 22
    ∷ ready 23
    ∷ ready 24
    ∷ ready 25
    ∷ ready 26
    ∷ ready 27
    ∷ ready 28
    ∷ ready 29
    ∷ ready 30
    ∷ ready 31
    ∷ ready 32
    ∷ ready 33
    ∷ ready 34
    ∷ ready 35
    ∷ ready 36
    ∷ ready 37
    ∷ ready 38
    ∷ ready 39
    ∷ ready 40
    ∷ ready 41
    ∷ ready 42
    ∷ ready 43
    ∷ ready 44
    ∷ ready 45
    ∷ ready 46
    ∷ digits 5
    ∷ digits 7
    ∷ digits 11
    ∷ digits 14
    ∷ digits 16
    ∷ digits 21
    ∷ digits 22
    ∷ digits 25
    ∷ digits 35
    ∷ digits 36
    ∷ digits 39
    ∷ digits 40
    ∷ digits 43
    ∷ digits 45
    ∷ digits 46
    ∷ comment 2
    ∷ comment 17
    ∷ comment 24
    ∷ inside 2 (102 ∷ [])
    ∷ inside 2 (102 ∷ 114 ∷ [])
    ∷ inside 2 (102 ∷ 114 ∷ 101 ∷ [])
    ∷ inside 2 (101 ∷ [])
    ∷ inside 2 (101 ∷ 120 ∷ [])
    ∷ inside 2 (101 ∷ 120 ∷ 105 ∷ [])
    ∷ inside 2 (101 ∷ 120 ∷ 105 ∷ 115 ∷ [])
    ∷ inside 2 (101 ∷ 120 ∷ 105 ∷ 115 ∷ 116 ∷ [])
    ∷ inside 2 (102 ∷ 111 ∷ [])
    ∷ inside 2 (102 ∷ 111 ∷ 114 ∷ [])
    ∷ inside 2 (102 ∷ 111 ∷ 114 ∷ 97 ∷ [])
    ∷ inside 2 (102 ∷ 111 ∷ 114 ∷ 97 ∷ 108 ∷ [])
    ∷ inside 2 (111 ∷ [])
    ∷ inside 2 (111 ∷ 117 ∷ [])
    ∷ inside 2 (111 ∷ 117 ∷ 116 ∷ [])
    ∷ inside 2 (111 ∷ 117 ∷ 116 ∷ 112 ∷ [])
    ∷ inside 2 (111 ∷ 117 ∷ 116 ∷ 112 ∷ 117 ∷ [])
    ∷ inside 17 (101 ∷ [])
    ∷ inside 17 (101 ∷ 120 ∷ [])
    ∷ inside 17 (101 ∷ 120 ∷ 105 ∷ [])
    ∷ inside 17 (101 ∷ 120 ∷ 105 ∷ 115 ∷ [])
    ∷ inside 17 (101 ∷ 120 ∷ 105 ∷ 115 ∷ 116 ∷ [])
    ∷ inside 17 (102 ∷ [])
    ∷ inside 17 (102 ∷ 111 ∷ [])
    ∷ inside 17 (102 ∷ 111 ∷ 114 ∷ [])
    ∷ inside 17 (102 ∷ 111 ∷ 114 ∷ 97 ∷ [])
    ∷ inside 17 (102 ∷ 111 ∷ 114 ∷ 97 ∷ 108 ∷ [])
    ∷ inside 17 (111 ∷ [])
    ∷ inside 17 (111 ∷ 117 ∷ [])
    ∷ inside 17 (111 ∷ 117 ∷ 116 ∷ [])
    ∷ inside 17 (111 ∷ 117 ∷ 116 ∷ 112 ∷ [])
    ∷ inside 17 (111 ∷ 117 ∷ 116 ∷ 112 ∷ 117 ∷ [])
    ∷ inside 26 (97 ∷ [])
    ∷ inside 26 (97 ∷ 110 ∷ [])
    ∷ inside 26 (111 ∷ [])
    ∷ inside 26 (120 ∷ [])
    ∷ inside 26 (120 ∷ 111 ∷ [])
    ∷ inside 26 (101 ∷ [])
    ∷ inside 26 (101 ∷ 120 ∷ [])
    ∷ inside 26 (101 ∷ 120 ∷ 105 ∷ [])
    ∷ inside 26 (101 ∷ 120 ∷ 105 ∷ 115 ∷ [])
    ∷ inside 26 (101 ∷ 120 ∷ 105 ∷ 115 ∷ 116 ∷ [])
    ∷ inside 26 (102 ∷ [])
    ∷ inside 26 (102 ∷ 111 ∷ [])
    ∷ inside 26 (102 ∷ 111 ∷ 114 ∷ [])
    ∷ inside 26 (102 ∷ 111 ∷ 114 ∷ 97 ∷ [])
    ∷ inside 26 (102 ∷ 111 ∷ 114 ∷ 97 ∷ 108 ∷ [])
    ∷ []

-- The place with this number.
unfoldable pub place_of : ℕ → Place
place_of i = get_or places i dead

-- A place as a list of numbers.
unfoldable pub code : Place → List ℕ
code dead = 0 ∷ []
code (heading hs) = 1 ∷ hs
code headed = 2 ∷ []
code padded = 3 ∷ []
code counted = 4 ∷ []
code (ready c) = 5 ∷ c ∷ []
code (inside c w) = 6 ∷ c ∷ w
code (digits c) = 7 ∷ c ∷ []
code (comment c) = 8 ∷ c ∷ []

-- Where a place stands in a list, counted from 0; the list's length if it is not there.
unfoldable pub index_in : List Place → Place → ℕ
index_in [] p = 0
index_in (q ∷ qs) p = let later = suc (index_in qs p) in pick (same (code p) (code q)) 0 later

-- The number of a place.
unfoldable pub number_of : Place → ℕ
number_of p = index_in places p

-- How many bytes at the least a run to the place takes besides two for each token: one right after a name; two from a gate's sign =
-- up to its opening parenthesis, which ends the gate's name; and one right after that of `and(` or `or(`.
unfoldable pub spare_of : Place → ℕ
spare_of dead = 0
spare_of (heading hs) = 0
spare_of headed = 0
spare_of padded = 0
spare_of counted = 0
spare_of (ready c) =
    pick (mem c (map (λ (r : Row). r.named) points)) 1
    (pick (leb 26 c && leb c 31) 2 (pick (eqb c 32) 1 0))
spare_of (inside c w) = pick (eqb c 26) 2 0
spare_of (digits c) = 1
spare_of (comment c) = 0

unfoldable pub spare : ℕ → ℕ
spare i = spare_of (place_of i)
