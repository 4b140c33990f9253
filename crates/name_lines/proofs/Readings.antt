-- A text, byte after byte: what has been read of it, and its names.
-- Assumes nothing.
use mathlib.Core.Path.{◌≡◌, refl, sym, ap, ◌∙◌, subst}
use mathlib.Core.Bool.{Bool, true, false, ◌||◌}
use mathlib.Core.List.{List, [], ◌∷◌, ◌++◌, flat_map, append_assoc, append-nil}
use Prim.Native.Nat.{ℕ, suc, ◌+◌, ◌<◌}
use native.Mathlib.Omega.{arith}
use lib.Dec.{eqb, ltb}
use lib.ListN.{length, take, get_or}
use lib.Seq.{take-suc}
use borrow.Author.Tests.{eq-eqb}
use Rattle.lists.proofs.Members.{or_group}
use Rattle.lists.proofs.Parts.{flat_map_append}
use Rattle.lists.specs.Choice.{pick, pick_yes, pick_no, Is, is_true, is_false, look}
use Rattle.name_lines.specs.Names.{line_end, ended, names, names_from, some_long}
use Rattle.name_lines.specs.Kept.{Reading, nothing, feed, through, names_of, name_line, kept_text}

pub feed_end : (a : Reading) (b : ℕ) → eqb b line_end ≡ true → feed a b ≡ record { done = a.done ++ ended a.current; current = [] }
unfolding feed
feed_end a b h = pick_yes _ _ _ h

pub feed_byte : (a : Reading) (b : ℕ) → eqb b line_end ≡ false → feed a b ≡ record { done = a.done; current = a.current ++ (b ∷ []) }
unfolding feed
feed_byte a b h = pick_no _ _ _ h

pub through_append : (a : Reading) (s t : List ℕ) → through a (s ++ t) ≡ through (through a s) t
unfolding through
through_append a [] t = refl
through_append a (b ∷ s) t = through_append (feed a b) s t

pub through_next : (a : Reading) (text : List ℕ) (at : ℕ) → at < length text
    → through a (take (at + 1) text) ≡ feed (through a (take at text)) (get_or text at 0)
unfolding through
through_next a text at l =
    let add_one : at + 1 ≡ suc at = omega arith in
    rw (add_one, take-suc text at 0 l) (through_append a (take at text) (get_or text at 0 ∷ []))

-- the names of what has been read, and of what follows
pub names_through : (a : Reading) (text : List ℕ) → names_of (through a text) ≡ a.done ++ names_from a.current text
unfolding through names_from
names_through a [] = refl
names_through a (b ∷ text) = go (look (eqb b line_end)) (names_through (feed a b) text)
  where
    go : Is (eqb b line_end) → names_of (through (feed a b) text) ≡ (feed a b).done ++ names_from (feed a b).current text
        → names_of (through (feed a b) text) ≡ a.done ++ pick (eqb b line_end) (ended a.current ++ names_from [] text) (names_from (a.current ++ (b ∷ [])) text)
    go (is_true t) rest =
        rest ∙ ap (λ r. r.done ++ names_from r.current text) (feed_end a b t)
        ∙ append_assoc a.done (ended a.current) (names_from [] text)
        ∙ ap (λ ns. a.done ++ ns) (sym (pick_yes _ _ _ t))
    go (is_false t) rest =
        rest ∙ ap (λ r. r.done ++ names_from r.current text) (feed_byte a b t)
        ∙ ap (λ ns. a.done ++ ns) (sym (pick_no _ _ _ t))

pub ended_more : (line : List ℕ) (b : ℕ) → ended (line ++ (b ∷ [])) ≡ (line ++ (b ∷ [])) ∷ []
unfolding ended
ended_more [] b = refl
ended_more (c ∷ line) b = refl

pub or_false : (x : Bool) → (x || false) ≡ x
or_false true = refl
or_false false = refl

pub long_append : (ns ms : List (List ℕ)) → some_long (ns ++ ms) ≡ (some_long ns || some_long ms)
unfolding some_long
long_append [] ms = refl
long_append (n ∷ ns) ms = or_group (ltb 255 (length n)) (some_long (ns ++ ms)) (some_long ns) (some_long ms) (long_append ns ms)

pub long_one : (n : List ℕ) → some_long (n ∷ []) ≡ ltb 255 (length n)
unfolding some_long
long_one n = or_false _

-- the line that has begun is long or not, whether it counts as a name or not
pub long_ended : (line : List ℕ) → some_long (ended line) ≡ ltb 255 (length line)
unfolding some_long ended
long_ended [] = refl
long_ended (b ∷ line) = or_false _

pub long_all : (a : Reading) → some_long (names_of a) ≡ (some_long a.done || ltb 255 (length a.current))
long_all a = long_append a.done (ended a.current) ∙ ap (λ x. some_long a.done || x) (long_ended a.current)

abbrev pub reading : List (List ℕ) → List ℕ → Reading
reading d c = record { done = d; current = c }

pub lines_more : (d : List (List ℕ)) (c : List ℕ) → (flat_map name_line d ++ c) ++ (line_end ∷ []) ≡ flat_map name_line (d ++ (c ∷ [])) ++ []
unfolding flat_map
lines_more d c =
    append_assoc (flat_map name_line d) c (line_end ∷ [])
    ∙ ap (λ x. flat_map name_line d ++ x) (sym (append-nil (name_line c)))
    ∙ sym (flat_map_append name_line d (c ∷ []))
    ∙ sym (append-nil (flat_map name_line (d ++ (c ∷ []))))

-- Reading what is kept of a reading leads to the same reading.
abbrev Again : Reading → Type 0
Again a = through nothing (kept_text a) ≡ a

again_more : (a : Reading) (text : List ℕ) (b : ℕ) → Again a → text ≡ kept_text a ++ (b ∷ []) → through nothing text ≡ feed a b
unfolding through
again_more a text b same e =
    ap (λ t. through nothing t) e ∙ through_append nothing (kept_text a) (b ∷ []) ∙ ap (λ r. feed r b) same

again_ended : (d : List (List ℕ)) (c : List ℕ) → Again (reading d c) → Again (reading (d ++ ended c) [])
unfolding ended
again_ended d [] same = subst (λ e. Again (reading e [])) (sym (append-nil d)) same
again_ended d (x ∷ c) same =
    again_more (reading d (x ∷ c)) _ line_end same (sym (lines_more d (x ∷ c)))
    ∙ feed_end (reading d (x ∷ c)) line_end (eq-eqb line_end line_end refl)

again_next : (a : Reading) (b : ℕ) → Again a → Again (feed a b)
again_next a b same = go (look (eqb b line_end))
  where
    go : Is (eqb b line_end) → Again (feed a b)
    go (is_true t) = subst Again (sym (feed_end a b t)) (again_ended a.done a.current same)
    go (is_false t) =
        again_more a _ b same
        (ap (λ r. kept_text r) (feed_byte a b t) ∙ sym (append_assoc (flat_map name_line a.done) a.current (b ∷ [])))

again_through : (a : Reading) (text : List ℕ) → Again a → Again (through a text)
unfolding through
again_through a [] same = same
again_through a (b ∷ text) same = again_through (feed a b) text (again_next a b same)

-- So what is kept of a text has the text's names.
pub kept_names : (text : List ℕ) → names (kept_text (through nothing text)) ≡ names_of (through nothing text)
unfolding through flat_map
kept_names text =
    sym (names_through nothing (kept_text (through nothing text))) ∙ ap (λ a. names_of a) (again_through nothing text refl)
