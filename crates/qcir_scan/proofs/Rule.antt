-- The entries are right: at each place, on a byte of each class, the entry is the step's effect. One test is computed for all.
-- Assumes nothing.
use mathlib.Core.Bool.{Bool, true, false, not, ◌&&◌, ◌||◌}
use mathlib.Core.List.{List, [], ◌∷◌}
use mathlib.Core.Path.{◌≡◌, refl, sym, ◌∙◌, ap}
use Prim.Native.Nat.{ℕ, ◌+◌, ◌-◌, ◌/◌, ◌%◌, ◌≤◌, ◌<◌}
use native.Mathlib.Omega.{arith}
use lib.Dec.{eqb, leb, ltb}
use lib.ListN.{length, get_or}
use borrow.Author.Tests.{eqb-true, leb-true, leb-false, ltb-true, le-leb, lt-leb, lt-ltb, not-true}
use Rattle.lists.specs.Choice.{pick, Is, is_true, is_false, look, clash, and_left, and_right, and_both, or_left, or_right, or_cases}
use Rattle.lists.specs.Members.{mem, all}
use Rattle.lists.specs.Parts.{numbers}
use Rattle.lists.proofs.Members.{all_mem}
use Rattle.lists.proofs.Parts.{mem_numbers}
use Rattle.qcir.specs.Spelling.{is_space, is_digit}
use Rattle.qcir_tokens.specs.Tokens.{token}
use Rattle.qcir_spelling.specs.Machine.{Place, dead, heading, headed, padded, counted, ready, inside, digits, comment, row, arrow, points, row_at, arrow_of, some_begins, same, begins, move, move_name, emit, read_word, end_line, read_digit, between, step_at, is_dead, is_done}
use Rattle.qcir_scan.specs.Places.{places, place_of, code, index_in, number_of, spare_of, spare}
use Rattle.qcir_scan.specs.Tables.{samples, sample_of, trial, first_role, done, entry_for, entry_at}
use Rattle.qcir_scan.specs.Held.{InName, Between, InComment}
use Rattle.qcir_scan.proofs.Effects.{Effect, effect_at, word_effect, end_effect, between_effect}
use Rattle.qcir_scan.proofs.Alike.{marks, agree, agreed, alike, past_header, alike_effect, Signs, alike_signs}
use Rattle.qcir_scan.proofs.Every.{every, at}

unfoldable pub within : List ℕ → Place
within [] = dead
within (c ∷ w) = inside c w

-- The place of a list of numbers.
unfoldable pub decode : List ℕ → Place
decode [] = dead
decode (t ∷ xs) =
    pick (eqb t 0) dead
    (pick (eqb t 1) (heading xs)
    (pick (eqb t 2) headed
    (pick (eqb t 3) padded
    (pick (eqb t 4) counted
    (pick (eqb t 5) (ready (get_or xs 0 0))
    (pick (eqb t 6) (within xs)
    (pick (eqb t 7) (digits (get_or xs 0 0)) (comment (get_or xs 0 0)))))))))

decode_code : (p : Place) → decode (code p) ≡ p
unfolding decode code within pick
decode_code dead = refl
decode_code (heading hs) = refl
decode_code headed = refl
decode_code padded = refl
decode_code counted = refl
decode_code (ready c) = refl
decode_code (inside c w) = refl
decode_code (digits c) = refl
decode_code (comment c) = refl

same_lists : (xs ys : List ℕ) → same xs ys ≡ true → xs ≡ ys
unfolding same
same_lists [] [] h = refl
same_lists [] (y ∷ ys) h = clash h refl
same_lists (x ∷ xs) [] h = clash h refl
same_lists (x ∷ xs) (y ∷ ys) h =
    let first : x ≡ y = eqb-true x y (and_left (eqb x y) (same xs ys) h) in
    let rest : xs ≡ ys = same_lists xs ys (and_right (eqb x y) (same xs ys) h) in
    rw (first, rest)

same_places : (p q : Place) → same (code p) (code q) ≡ true → p ≡ q
same_places p q h = sym (decode_code p) ∙ ap decode (same_lists (code p) (code q) h) ∙ decode_code q

-- What an entry of the table says.
unfoldable pub effect_of : ℕ → Effect
effect_of e = record { place = place_of (e % 256); role = pick (leb (e / 256) 24) (e / 256) 0; digit = e / 256 - 24 }

unfoldable pub same_effect : Effect → Effect → Bool
same_effect f g = same (code f.place) (code g.place) && (eqb f.role g.role && eqb f.digit g.digit)

same_effects : (f g : Effect) → same_effect f g ≡ true → f ≡ g
unfolding same_effect
same_effects f g h =
    let a = same (code f.place) (code g.place) in
    let b = eqb f.role g.role in
    let c = eqb f.digit g.digit in
    let p : f.place ≡ g.place = same_places f.place g.place (and_left a (b && c) h) in
    let r : f.role ≡ g.role = eqb-true _ _ (and_left b c (and_right a (b && c) h)) in
    let d : f.digit ≡ g.digit = eqb-true _ _ (and_right b c (and_right a (b && c) h)) in
    λ i. record { place = p i; role = r i; digit = d i }

-- The bytes of a token: 2 if the entry ends one.
unfoldable pub token_bytes : ℕ → ℕ
token_bytes e = pick (eqb (e / 256) 0 || leb 25 (e / 256)) 0 2

-- The next place has a number, and what a run to it takes besides the bytes of tokens is not more than one byte more.
unfoldable pub spared : Place → ℕ → Bool
spared p e = ltb (e % 256) 115 && leb (spare (e % 256) + token_bytes e) (spare_of p + 1)

-- The place is within a name or right after it.
unfoldable pub in_name : ℕ → Bool
in_name i = leb 50 i && ltb i 65

-- What belongs to a name is a digit, and leads into the name.
unfoldable pub named : ℕ → ℕ → Bool
named b e = leb (e / 256) 24 || (is_digit b && in_name (e % 256))

-- A digit within a name goes on with it: the place stays, and 26 is done.
unfoldable pub further : ℕ → ℕ → ℕ → Bool
further i b e = not (in_name i && is_digit b) || eqb e (6656 + i)

-- A space between two signs, or a byte of a comment line.
unfoldable pub passed : ℕ → ℕ → Bool
passed i b = ((leb 4 i && ltb i 50) && is_space b) || ((leb 65 i && ltb i 68) && not (eqb b 10))

-- It leaves the place as it is, and nothing is done.
unfoldable pub stayed : ℕ → ℕ → ℕ → Bool
stayed i b e = not (passed i b) || eqb e i

-- The entry e for byte b at place p, whose number is i, is the step's effect.
unfoldable pub right_entry : ℕ → Place → ℕ → ℕ → Bool
right_entry i p b e = same_effect (effect_at p b) (effect_of e) && (spared p e && (named b e && (further i b e && stayed i b e)))

-- So on a byte of each class. The numbers of the dead place, and of the place after the output line or a gate line.
unfoldable pub right_place : ℕ → Place → Bool
right_place i p = (past_header p && (agree (is_dead p) (eqb i 0) && agree (is_done p) (eqb i 27))) && all (λ b. let e = entry_for p b in right_entry i p b e) samples

places_right : every right_place 0 places ≡ true
unfolding right_entry right_place past_header agree same_effect spared in_name named further passed stayed token_bytes effect_of effect_at word_effect end_effect between_effect samples all entry_for trial done first_role number_of index_in code places place_of spare spare_of mem is_dead is_done step_at move move_name emit between end_line read_digit read_word pick is_space is_digit row arrow points row_at arrow_of some_begins same begins token
places_right = refl

-- A byte is like the sample of its class, and that is one; the value of a digit.
unfoldable pub right_byte : ℕ → Bool
right_byte b = alike b (sample_of b) && (mem (sample_of b) samples && (not (is_digit b) || eqb (b % 16) (b - 48)))

bytes_right : all right_byte (numbers 0 256) ≡ true
unfolding all numbers right_byte alike agree marks samples sample_of mem is_space is_digit pick
bytes_right = refl

pub places_length : length places ≡ 115
unfolding places
places_length = refl

module _ (b : ℕ) (byte : b < 256) where
  byte_right : right_byte b ≡ true
  byte_right = all_mem right_byte (numbers 0 256) b bytes_right (mem_numbers 0 256 b (omega arith) (omega arith))

  like : alike b (sample_of b) ≡ true
  unfolding right_byte
  like = and_left (alike b (sample_of b)) _ byte_right

  byte_rest : (mem (sample_of b) samples && (not (is_digit b) || eqb (b % 16) (b - 48))) ≡ true
  unfolding right_byte
  byte_rest = and_right (alike b (sample_of b)) _ byte_right

  pub sampled : mem (sample_of b) samples ≡ true
  sampled = and_left (mem (sample_of b) samples) _ byte_rest

  digit_is : is_digit b ≡ true → b % 16 ≡ b - 48
  digit_is d =
      or_cases (not (is_digit b)) (eqb (b % 16) (b - 48)) (and_right (mem (sample_of b) samples) _ byte_rest)
      (λ t. clash d (not-true _ t))
      (λ t. eqb-true _ _ t)

module _ (i : ℕ) (low : i < 115) where
  place_right : right_place i (place_of i) ≡ true
  unfolding place_of
  place_right = at right_place dead places places_right i (rw places_length low)

  place_numbers : (past_header (place_of i) && (agree (is_dead (place_of i)) (eqb i 0) && agree (is_done (place_of i)) (eqb i 27))) ≡ true
  unfolding right_place
  place_numbers =
      and_left _ (all (λ b. right_entry i (place_of i) b (entry_for (place_of i) b)) samples) place_right

  place_entries : all (λ b. right_entry i (place_of i) b (entry_for (place_of i) b)) samples ≡ true
  unfolding right_place
  place_entries =
      and_right (past_header (place_of i) && (agree (is_dead (place_of i)) (eqb i 0) && agree (is_done (place_of i)) (eqb i 27))) _ place_right

  past_header_lem : past_header (place_of i) ≡ true
  past_header_lem = and_left (past_header (place_of i)) _ place_numbers

  -- the number of the dead place
  pub dead_number : is_dead (place_of i) ≡ eqb i 0
  dead_number =
      agreed _ _ (and_left (agree (is_dead (place_of i)) (eqb i 0)) _ (and_right (past_header (place_of i)) _ place_numbers))

  -- the number of the place after the output line or a gate line
  pub done_number : is_done (place_of i) ≡ eqb i 27
  done_number =
      agreed _ _ (and_right (agree (is_dead (place_of i)) (eqb i 0)) _ (and_right (past_header (place_of i)) _ place_numbers))

  module _ (b : ℕ) (byte : b < 256) where
    y : ℕ
    y = sample_of b

    e : ℕ
    e = entry_at i b

    entry_right : right_entry i (place_of i) y e ≡ true
    unfolding y e entry_at
    entry_right =
        all_mem (λ x. right_entry i (place_of i) x (entry_for (place_of i) x)) samples (sample_of b) place_entries (sampled b byte)

    entry_rest : (spared (place_of i) e && (named y e && (further i y e && stayed i y e))) ≡ true
    unfolding right_entry
    entry_rest = and_right (same_effect (effect_at (place_of i) y) (effect_of e)) _ entry_right

    entry_last : (named y e && (further i y e && stayed i y e)) ≡ true
    entry_last = and_right (spared (place_of i) e) _ entry_rest

    entry_same : (further i y e && stayed i y e) ≡ true
    entry_same = and_right (named y e) _ entry_last

    -- the entry is the effect of the step
    pub entry_effect : effect_at (place_of i) b ≡ effect_of (entry_at i b)
    unfolding right_entry y e
    entry_effect =
        alike_effect b y (place_of i) (like b byte) past_header_lem
        ∙ same_effects _ _ (and_left (same_effect (effect_at (place_of i) y) (effect_of e)) _ entry_right)

    pub next_low : entry_at i b % 256 < 115
    unfolding spared e
    next_low = ltb-true _ _ (and_left (ltb (e % 256) 115) _ (and_left (spared (place_of i) e) _ entry_rest))

    pub next_spare : spare (entry_at i b % 256) + token_bytes (entry_at i b) ≤ spare i + 1
    unfolding spared e spare
    next_spare = leb-true _ _ (and_right (ltb (e % 256) 115) _ (and_left (spared (place_of i) e) _ entry_rest))

    signs : Signs b y
    unfolding y
    signs = alike_signs b y (like b byte)

    digit_alike : is_digit b ≡ is_digit y
    digit_alike = signs.digit

    -- a byte that belongs to a name
    digit_named : 24 < e / 256 → (is_digit y && in_name (e % 256)) ≡ true
    unfolding named
    digit_named h =
        or_cases (leb (e / 256) 24) (is_digit y && in_name (e % 256)) (and_left (named y e) _ entry_last) (λ t. clash t (lt-leb _ _ h)) (λ t. t)

    -- is a digit
    named_digit : 24 < e / 256 → is_digit b ≡ true
    named_digit h = digit_alike ∙ and_left (is_digit y) _ (digit_named h)

    -- its value
    pub digit_value : 24 < entry_at i b / 256 → b % 16 ≡ b - 48
    unfolding e
    digit_value h = digit_is b byte (named_digit h)

    -- where it leads
    pub name_place : 24 < entry_at i b / 256 → InName (entry_at i b % 256)
    unfolding e in_name
    name_place h =
        let t = and_right (is_digit y) _ (digit_named h) in
        record { first = leb-true _ _ (and_left (leb 50 (e % 256)) _ t); last = ltb-true _ _ (and_right (leb 50 (e % 256)) _ t) }

    -- a further digit of a name
    pub further_digit : InName i → is_digit b ≡ true → entry_at i b ≡ 6656 + i
    unfolding e further in_name
    further_digit n d =
        or_cases (not (in_name i && is_digit y)) (eqb e (6656 + i)) (and_left (further i y e) _ entry_same)
        (λ t. clash (and_both (in_name i) (is_digit y) (and_both (leb 50 i) (ltb i 65) (le-leb 50 i n.first) (lt-ltb i 65 n.last)) (sym digit_alike ∙ d)) (not-true _ t))
        (λ t. eqb-true _ _ t)

    passed_alike : passed i b ≡ passed i y
    unfolding passed
    passed_alike = rw (signs.space, signs.end)

    -- a space between two signs, or a byte of a comment line
    pub stays : passed i b ≡ true → entry_at i b ≡ i
    unfolding e stayed
    stays h =
        or_cases (not (passed i y)) (eqb e i) (and_right (further i y e) _ entry_same)
        (λ t. clash (sym passed_alike ∙ h) (not-true _ t))
        (λ t. eqb-true _ _ t)

  -- LF belongs to no name
  pub at_line_end : entry_at i 10 / 256 ≤ 24
  unfolding e is_digit
  at_line_end = go (look (leb (entry_at i 10 / 256) 24))
    where
      go : Is (leb (entry_at i 10 / 256) 24) → entry_at i 10 / 256 ≤ 24
      go (is_true t) = leb-true _ _ t
      go (is_false t) = clash (named_digit 10 (omega arith) (leb-false _ _ t)) refl

-- a space between two signs
pub passed_space : (i b : ℕ) → Between i → is_space b ≡ true → passed i b ≡ true
unfolding passed
passed_space i b p h =
    or_left _ _ (and_both _ _ (and_both (leb 4 i) (ltb i 50) (le-leb 4 i p.first) (lt-ltb i 50 p.last)) h)

-- a byte of a comment line
pub passed_comment : (i b : ℕ) → InComment i → eqb b 10 ≡ false → passed i b ≡ true
unfolding passed
passed_comment i b p h =
    or_right ((leb 4 i && ltb i 50) && is_space b) _ (and_both _ _ (and_both (leb 65 i) (ltb i 68) (le-leb 65 i p.first) (lt-ltb i 68 p.last)) (ap not h))
