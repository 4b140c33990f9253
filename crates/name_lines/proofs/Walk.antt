-- The names of a text one after the other.
-- Assumes nothing.
use mathlib.Core.Path.{◌≡◌, refl, sym, ap, ◌∙◌}
use mathlib.Core.Bool.{Bool, true, false, ◌||◌}
use mathlib.Core.List.{List, [], ◌∷◌, ◌++◌, append-nil}
use Prim.Native.Nat.{ℕ, zero, suc, ◌+◌, ◌-◌, ◌≤◌, ◌<◌}
use native.Mathlib.Numerals.{add-one}
use native.Mathlib.Nat.{add-zero}
use native.Mathlib.Omega.{arith}
use lib.Dec.{ltb}
use lib.ListN.{length, drop, get_or, length-drop, drop_of_length-le}
use lib.Seq.{drop-cons, take-suc, get_or-drop, length-take-le}
use borrow.Author.Tests.{eq-eqb, ne_eqb, ltb-true, ltb-false}
use Rattle.std.specs.List.{AllWithin, HoldsAt}
use Rattle.lists.proofs.Members.{or_group}
use Rattle.lists.specs.Choice.{pick_yes, pick_no, Is, is_true, is_false, look}
use Rattle.name_lines.specs.declared.Name.{Name}
use Rattle.name_lines.specs.Names.{line_end, ended, names, names_from, some_long}
use Rattle.name_lines.specs.Walk.{part, FirstFrom, NextName}
use Rattle.name_lines.proofs.Readings.{or_false}

at_cons : (text : List ℕ) (i : ℕ) → i < length text → drop i text ≡ get_or text i 0 ∷ drop (i + 1) text
at_cons text i l = rw (add-one, drop-cons text i 0)

-- a line that goes on, and one that ends
from_byte : (line text : List ℕ) (i : ℕ) → i < length text → (get_or text i 0 ≡ line_end → ⊥)
    → names_from line (drop i text) ≡ names_from (line ++ (get_or text i 0 ∷ [])) (drop (i + 1) text)
unfolding names_from
from_byte line text i l n = ap (names_from line) (at_cons text i l) ∙ pick_no _ _ _ (ne_eqb _ line_end n)

from_end : (line text : List ℕ) (i : ℕ) → i < length text → get_or text i 0 ≡ line_end
    → names_from line (drop i text) ≡ ended line ++ names (drop (i + 1) text)
unfolding names_from
from_end line text i l e = ap (names_from line) (at_cons text i l) ∙ pick_yes _ _ _ (eq-eqb _ line_end e)

-- an LF at the start of a line
pub skip_end : (text : List ℕ) (i : ℕ) → i < length text → get_or text i 0 ≡ line_end → names (drop i text) ≡ names (drop (i + 1) text)
unfolding ended
skip_end text i l e = from_end [] text i l e

-- nothing follows the text's end
pub names_past : (text : List ℕ) (i : ℕ) → length text ≤ i → names (drop i text) ≡ []
unfolding names_from ended
names_past text i l = ap (λ t. names t) (drop_of_length-le text l)

-- The line that begins at a byte, as far as index i.
abbrev pub Begun : List ℕ → ℕ → ℕ → Type 0
Begun text from i = names (drop from text) ≡ names_from (part text from i) (drop i text)

pub begun_start : (text : List ℕ) (from : ℕ) → Begun text from from
begun_start text from =
    let none : from - from ≡ 0 = omega arith in
    rw none refl

part_more : (text : List ℕ) (from i : ℕ) → from ≤ i → i < length text → part text from (i + 1) ≡ part text from i ++ (get_or text i 0 ∷ [])
part_more text from i h l =
    let next : i + 1 - from ≡ suc (i - from) = omega arith in
    let here : from + (i - from) ≡ i = omega arith in
    let inside : i - from < length (drop from text) = omega (arith, length-drop from text) in
    rw (next, take-suc (drop from text) (i - from) 0 inside, get_or-drop from text (i - from) 0, here) refl

pub begun_more : (text : List ℕ) (from i : ℕ) → from ≤ i → i < length text → (get_or text i 0 ≡ line_end → ⊥) → Begun text from i
    → Begun text from (i + 1)
begun_more text from i h l n b =
    b ∙ from_byte (part text from i) text i l n ∙ ap (λ line. names_from line (drop (i + 1) text)) (sym (part_more text from i h l))

-- where it ends
pub begun_end : (text : List ℕ) (from i : ℕ) → i < length text → get_or text i 0 ≡ line_end → Begun text from i
    → names (drop from text) ≡ ended (part text from i) ++ names (drop i text)
begun_end text from i l e b =
    b ∙ from_end (part text from i) text i l e ∙ ap (λ ns. ended (part text from i) ++ ns) (sym (skip_end text i l e))

pub begun_all : (text : List ℕ) (from i : ℕ) → length text ≤ i → Begun text from i
    → names (drop from text) ≡ ended (part text from i) ++ names (drop i text)
unfolding names_from ended
begun_all text from i l b =
    let nothing : drop i text ≡ [] = drop_of_length-le text l in
    b ∙ ap (λ t. names_from (part text from i) t) nothing ∙ sym (append-nil (ended (part text from i)))
    ∙ ap (λ t. ended (part text from i) ++ names t) (sym nothing)

-- Where the next name begins, or the text ends: nothing but LFs stands from a byte to there.
pub record Skipped (text : List ℕ) (from r : ℕ) : Type 0 where
  pub same : names (drop from text) ≡ names (drop r text)
  pub after : from ≤ r
  pub name : r < length text → get_or text r 0 ≡ line_end → ⊥

-- Where the line that goes on at a byte ends.
pub record LineEnds (text : List ℕ) (from r : ℕ) : Type 0 where
  pub split : names (drop from text) ≡ ended (part text from r) ++ names (drop r text)
  pub after : from ≤ r
  pub within : r ≤ length text
  pub end : r < length text → get_or text r 0 ≡ line_end

-- What stands at the first byte that a search finds, and before it; or the text is searched to its end.
module _ (Answers : ℕ → Bool → Type 0) (text : List ℕ) (from : ℕ) (inside : from ≤ length text) where
  pub first_found : (k : ℕ)
      → (k < length (drop from text)) × HoldsAt (λ b. Answers b true) (drop from text) k × AllWithin (λ b. Answers b false) (drop from text) 0 k
      → FirstFrom Answers text from (from + k)
  first_found k found =
      record {
        after = omega arith;
        within = omega (arith, length-drop from text);
        before = λ i low high.
            let e : from + (i - from) ≡ i = omega arith in
            rw (get_or-drop, e) at (found.2 (i - from) 0 (omega arith) (omega arith));
        here = λ _. rw get_or-drop at (found.1 0);
      }

  pub first_none : AllWithin (λ b. Answers b false) (drop from text) 0 (length (drop from text)) → FirstFrom Answers text from (length text)
  first_none none =
      record {
        after = inside;
        within = omega arith;
        before = λ i low high.
            let e : from + (i - from) ≡ i = omega arith in
            rw (get_or-drop, e) at (none (i - from) 0 (omega arith) (omega (arith, length-drop from text)));
        here = λ l. absurd (omega arith);
      }

module _ (Answers : ℕ → Bool → Type 0) (text : List ℕ) (from r : ℕ) (first : FirstFrom Answers text from r) where
  -- the first byte that is no LF
  pub skipped : ((b : ℕ) → Answers b true → b ≡ line_end → ⊥) → ((b : ℕ) → Answers b false → b ≡ line_end) → Skipped text from r
  skipped other same =
      let e : from + (r - from) ≡ r = omega (arith, first.after) in
      record {
        same = rw e at (past (r - from) (omega arith));
        after = first.after;
        name = λ l. other _ (first.here l);
      }
    where
      past : (n : ℕ) → from + n ≤ r → names (drop from text) ≡ names (drop (from + n) text)
      past zero h = rw add-zero refl
      past (suc n) h =
          let e : from + suc n ≡ from + n + 1 = omega arith in
          rw e (past n (omega arith)
          ∙ skip_end text (from + n) (omega (arith, first.within)) (same _ (first.before (from + n) (omega arith) (omega arith))))

  -- the first LF
  pub line_ends : ((b : ℕ) → Answers b true → b ≡ line_end) → ((b : ℕ) → Answers b false → b ≡ line_end → ⊥) → LineEnds text from r
  line_ends same other =
      let e : from + (r - from) ≡ r = omega (arith, first.after) in
      let begun : Begun text from r = rw e at (more (r - from) (omega arith)) in
      record {
        split = ends begun (look (ltb r (length text)));
        after = first.after;
        within = first.within;
        end = λ l. same _ (first.here l);
      }
    where
      more : (n : ℕ) → from + n ≤ r → Begun text from (from + n)
      more zero h = rw add-zero (begun_start text from)
      more (suc n) h =
          let e : from + suc n ≡ from + n + 1 = omega arith in
          rw e (begun_more text from (from + n) (omega arith) (omega (arith, first.within))
          (other _ (first.before (from + n) (omega arith) (omega arith))) (more n (omega arith)))

      ends : Begun text from r → Is (ltb r (length text)) → names (drop from text) ≡ ended (part text from r) ++ names (drop r text)
      ends begun (is_true t) =
          let l : r < length text = ltb-true r (length text) t in begun_end text from r l (same _ (first.here l)) begun
      ends begun (is_false t) = begun_all text from r (ltb-false r (length text) t) begun

-- the first name from a byte on
pub past_end : (text : List ℕ) (from : ℕ) → length text < from → NextName text from (record { from = length text; end = length text })
past_end text from l =
    record {
      after = λ h. absurd (omega arith);
      order = omega arith;
      within = omega arith;
      none = λ _. names_past text from (omega arith);
      some = λ h. absurd (omega arith);
    }

ended_some : (line : List ℕ) → 0 < length line → ended line ≡ line ∷ []
unfolding ended
ended_some [] h = absurd (omega arith)
ended_some (b ∷ line) h = refl

pub part_length : (text : List ℕ) (from end : ℕ) → end ≤ length text → length (part text from end) ≡ end - from
part_length text from end h = length-take-le (end - from) (drop from text) (omega (arith, length-drop from text))

pub next_name : (text : List ℕ) (from start end : ℕ) → Skipped text from start → LineEnds text start end
    → NextName text from (record { from = start; end = end })
next_name text from start end s e =
    record {
      after = λ _. s.after;
      order = e.after;
      within = e.within;
      none = λ same. s.same ∙ names_past text start (past same);
      some =
          λ l. s.same ∙ e.split
          ∙ ap (λ ns. ns ++ names (drop end text))
          (ended_some (part text start end) (omega (arith, part_length text start end e.within)));
    }
  where
    past : start ≡ end → length text ≤ start
    past same = go (look (ltb start (length text)))
      where
        go : Is (ltb start (length text)) → length text ≤ start
        go (is_true t) =
            let l : start < length text = ltb-true start (length text) t in
            absurd (s.name l (ap (λ i. get_or text i 0) same ∙ e.end (omega arith)))
        go (is_false t) = ltb-false start (length text) t

-- The names counted so far, and whether one was long, with the next name.
pub record Walked (text : List ℕ) (count : ℕ) (long : Bool) (name : Name) : Type 0 where
  pub from : ℕ
  pub next : NextName text from name
  pub within : from ≤ length text
  pub enough : count ≤ from
  pub number : length (names text) ≡ count + length (names (drop from text))
  pub some_long_lem : some_long (names text) ≡ (long || some_long (names (drop from text)))

pub walked_start : (text : List ℕ) (name : Name) → NextName text 0 name → Walked text 0 false name
walked_start text name next =
    record { from = 0; next = next; within = omega arith; enough = omega arith; number = omega arith; some_long_lem = refl }

module _ (text : List ℕ) (count : ℕ) (long : Bool) (name : Name) (w : Walked text count long name) where
  -- where there is a name
  pub walked_below : name.from < name.end → count < name.end
  walked_below l = omega (arith, w.enough, w.next.after w.within)

  pub walked_next : (name' : Name) → name.from < name.end → NextName text name.end name'
      → Walked text (count + 1) (long || ltb 255 (name.end - name.from)) name'
  unfolding some_long
  walked_next name' l next =
      let this : names (drop w.from text) ≡ part text name.from name.end ∷ names (drop name.end text) = w.next.some l in
      let size : length (part text name.from name.end) ≡ name.end - name.from = part_length text name.from name.end w.next.within in
      record {
        from = name.end;
        next = next;
        within = w.next.within;
        enough = omega (arith, walked_below l);
        number = omega (arith, w.number, ap length this);
        some_long_lem =
            w.some_long_lem ∙ ap (λ ns. long || some_long ns) this
            ∙ ap (λ n. long || (ltb 255 n || some_long (names (drop name.end text)))) size
            ∙ or_group long _ (ltb 255 (name.end - name.from)) (some_long (names (drop name.end text))) refl;
      }

  -- where there is none
  pub walked_all : name.end ≤ name.from → (length (names text) ≡ count) × (some_long (names text) ≡ long)
  unfolding some_long
  walked_all l =
      let none : names (drop w.from text) ≡ [] = w.next.none (omega (arith, w.next.order)) in
      (omega (arith, w.number, ap length none), w.some_long_lem ∙ ap (λ ns. long || some_long ns) none ∙ or_false long)
