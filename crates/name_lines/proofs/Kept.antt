-- What is kept of a text, a byte at a time.
-- Assumes nothing.
use mathlib.Core.Path.{◌≡◌, refl, sym, ap, ◌∙◌, subst}
use mathlib.Core.Bool.{true, false, ◌||◌}
use mathlib.Core.List.{List, [], ◌∷◌, ◌++◌, flat_map, append_assoc, append-nil}
use Prim.Native.Nat.{ℕ, suc, ◌+◌, ◌<◌, ◌≤◌}
use native.Mathlib.Omega.{arith}
use lib.Dec.{eqb, ltb}
use lib.ListN.{length, take, get_or, length-append}
use lib.Seq.{take-suc-set, take_all}
use borrow.Author.Tests.{ltb-true, ltb-false, lt-ltb, le-ltb, eq-eqb, ne_eqb, eqb-true, eqb-false}
use Rattle.lists.specs.Choice.{Is, is_true, is_false, look, clash, or_right, or_neither_left, or_neither_right}
use Rattle.name_lines.specs.declared.State.{State}
use Rattle.name_lines.specs.Names.{line_end, ended, some_long}
use Rattle.name_lines.specs.Kept.{name_line, Reading, nothing, feed, through, names_of, Few, StoredByte, Holds, many, few, HasRead}
use Rattle.name_lines.proofs.Readings.{
  reading,
  lines_more,
  feed_end,
  feed_byte,
  through_append,
  through_next,
  or_false,
  long_append,
  long_one,
}

-- a byte stored is a byte more of the text kept
stored_text : (k k' t : List ℕ) (at next b : ℕ) → StoredByte k at b next k' → at < length k → take at k ≡ t
    → take next k' ≡ t ++ (b ∷ [])
stored_text k k' t at next b w l e =
    let both = w.stored l in
    let n : next ≡ suc at = omega (arith, both.0) in
    rw (n, both.1, take-suc-set k at b l, e)

-- the end of an empty line
pub end_empty : (d : List (List ℕ)) (c : List ℕ) (s : State) (k : List ℕ) → Few (reading d c) s k → s.length ≡ 0
    → Few (reading (d ++ ended c) []) s k
unfolding ended
end_empty d [] s k f z = subst (λ e. Few (reading e []) s k) (sym (append-nil d)) f
end_empty d (b ∷ c) s k f z = absurd (omega (arith, f.size))

-- the end of a name
pub end_name : (d : List (List ℕ)) (c : List ℕ) (s : State) (k k' : List ℕ) (next : ℕ) → Few (reading d c) s k
    → (s.length ≡ 0 → ⊥) → StoredByte k s.at line_end next k'
    → Few (reading (d ++ ended c) []) (record { count = s.count; length = 0; long = s.long; at = next }) k'
unfolding ended
end_name d [] s k k' next f z w = absurd (z f.size)
end_name d (b ∷ c) s k k' next f z w =
    let name = b ∷ c in
    let more : length (d ++ (name ∷ [])) ≡ length d + 1 = length-append d (name ∷ []) in
    let inside : s.long ≡ false → s.at < length k =
    λ n.
    let small = ltb-false 255 (length name) (or_neither_right (some_long d) _ (sym f.long ∙ n)) in
    omega (arith, f.bytes n, f.count, f.most, f.room) in
    record {
      count = f.count ∙ ap length (sym (append-nil (d ++ (name ∷ []))));
      most = f.most;
      size = refl;
      long =
          f.long ∙ ap (λ x. some_long d || x) (sym (long_one name)) ∙ sym (long_append d (name ∷ []))
          ∙ sym (or_false (some_long (d ++ (name ∷ []))));
      room = omega (arith, f.room, w.same);
      bytes = λ n. omega (
        arith,
        (w.stored (inside n)).0,
        f.bytes n,
        ltb-false 255 (length name) (or_neither_right (some_long d) _ (sym f.long ∙ n)),
      );
      text = λ n. stored_text k k' _ s.at next line_end w (inside n) (f.text n) ∙ lines_more d name;
    }

-- the first byte of a name
pub begin : (d : List (List ℕ)) (c : List ℕ) (s : State) (k k' : List ℕ) (b next : ℕ) → Few (reading d c) s k
    → s.length ≡ 0 → StoredByte k s.at b next k'
    → Holds (reading d (c ++ (b ∷ []))) (record { count = s.count + 1; length = 1; long = s.long; at = next }) k'
unfolding ended
begin d [] s k k' b next f z w = go (look (ltb s.count 256))
  where
    more : length (d ++ ((b ∷ []) ∷ [])) ≡ length d + 1
    more = length-append d ((b ∷ []) ∷ [])

    none : length (d ++ []) ≡ length d
    none = ap length (append-nil d)

    go : Is (ltb s.count 256)
        → Holds (reading d (b ∷ [])) (record { count = s.count + 1; length = 1; long = s.long; at = next }) k'
    go (is_true t) =
        let l = ltb-true s.count 256 t in
        let inside : s.long ≡ false → s.at < length k = λ n. omega (arith, f.bytes n, f.count, none, f.room) in
        few (record {
          count = omega (arith, f.count, none, more);
          most = omega arith;
          size = refl;
          long = f.long;
          room = omega (arith, f.room, w.same);
          bytes = λ n. omega (arith, (w.stored (inside n)).0, f.bytes n);
          text =
              λ n. stored_text k k' _ s.at next b w (inside n) (f.text n)
              ∙ ap (λ x. x ++ (b ∷ [])) (append-nil (flat_map name_line d));
        })
    go (is_false t) =
        let l = ltb-false s.count 256 t in
        many (omega (arith, f.most)) (omega (arith, f.count, none, more))
begin d (x ∷ c) s k k' b next f z w = absurd (omega (arith, f.size))

-- one more byte of a name, or the same: over 255 bytes
long_more : (n : ℕ) → n ≤ 255 → ltb 255 (n + 1) ≡ eqb n 255
long_more n l = go (look (eqb n 255))
  where
    go : Is (eqb n 255) → ltb 255 (n + 1) ≡ eqb n 255
    go (is_true t) = lt-ltb 255 (n + 1) (let e = eqb-true n 255 t in omega arith) ∙ sym t
    go (is_false t) = le-ltb 255 (n + 1) (let e = eqb-false n 255 t in omega arith) ∙ sym t

pub more_of : (d : List (List ℕ)) (c : List ℕ) (s : State) (k k' : List ℕ) (b next : ℕ) → Few (reading d c) s k
    → (s.length ≡ 0 → ⊥) → s.length ≤ 255 → StoredByte k s.at b next k'
    → Few (reading d (c ++ (b ∷ []))) (record { count = s.count; length = s.length + 1; long = s.long || eqb s.length 255; at = next }) k'
unfolding ended
more_of d [] s k k' b next f z l w = absurd (z f.size)
more_of d (x ∷ c) s k k' b next f z l w =
    let line = x ∷ c in
    let longer : length (line ++ (b ∷ [])) ≡ length line + 1 = length-append line (b ∷ []) in
    let one : length (d ++ (line ∷ [])) ≡ length d + 1 = length-append d (line ∷ []) in
    let same : length (d ++ ((line ++ (b ∷ [])) ∷ [])) ≡ length d + 1 = length-append d ((line ++ (b ∷ [])) ∷ []) in
    let size : s.length ≡ length line = omega (arith, f.size) in
    let small : ltb 255 (length line) ≡ false = le-ltb 255 (length line) (omega arith) in
    let before : s.long ≡ some_long d = f.long ∙ ap (λ t. some_long d || t) small ∙ or_false (some_long d) in
    let inside : s.long ≡ false → s.at < length k = λ n. omega (arith, f.bytes n, f.count, f.most, f.room, one) in
    record {
      count = omega (arith, f.count, one, same);
      most = f.most;
      size = omega (arith, longer);
      long =
          ap (λ t. t || eqb s.length 255) before
          ∙ ap (λ n. some_long d || eqb n 255) size
          ∙ ap (λ t. some_long d || t) (sym (long_more (length line) (omega arith)) ∙ ap (λ n. ltb 255 n) (sym longer));
      room = omega (arith, f.room, w.same);
      bytes =
          λ n. let m = or_neither_left s.long _ n in omega (arith, (w.stored (inside m)).0, f.bytes m, longer);
      text =
          λ n. let m = or_neither_left s.long _ n in
          stored_text k k' _ s.at next b w (inside m) (f.text m) ∙ append_assoc (flat_map name_line d) line (b ∷ []);
    }

pub more_of_long : (d : List (List ℕ)) (c : List ℕ) (s : State) (k : List ℕ) (b : ℕ) → Few (reading d c) s k → 255 < s.length
    → Few (reading d (c ++ (b ∷ []))) s k
unfolding ended
more_of_long d [] s k b f l = absurd (omega (arith, f.size))
more_of_long d (x ∷ c) s k b f l =
    let line = x ∷ c in
    let longer : length (line ++ (b ∷ [])) ≡ length line + 1 = length-append line (b ∷ []) in
    let one : length (d ++ (line ∷ [])) ≡ length d + 1 = length-append d (line ∷ []) in
    let same : length (d ++ ((line ++ (b ∷ [])) ∷ [])) ≡ length d + 1 = length-append d ((line ++ (b ∷ [])) ∷ []) in
    let long : s.long ≡ true =
    f.long ∙ or_right (some_long d) _ (lt-ltb 255 (length line) (omega (arith, f.size))) in
    record {
      count = omega (arith, f.count, one, same);
      most = f.most;
      size = omega (arith, f.size, longer);
      long = long ∙ sym (or_right (some_long d) _ (lt-ltb 255 (length (line ++ (b ∷ []))) (omega (arith, f.size, longer))));
      room = f.room;
      bytes = λ n. clash long n;
      text = λ n. clash long n;
    }

-- names do not go away
ended_le : (d : List (List ℕ)) (c : List ℕ) (b : ℕ) → length (d ++ ended c) ≤ length (d ++ ended (c ++ (b ∷ [])))
unfolding ended
ended_le d [] b =
    let e : length (d ++ []) ≡ length d = ap length (append-nil d) in
    omega (arith, length-append d ((b ∷ []) ∷ []))
ended_le d (x ∷ c) b =
    omega (arith, length-append d ((x ∷ c) ∷ []), length-append d (((x ∷ c) ++ (b ∷ [])) ∷ []))

pub still_many : (a : Reading) (b : ℕ) → 256 < length (names_of a) → 256 < length (names_of (feed a b))
unfolding ended
still_many a b l = go (look (eqb b line_end))
  where
    go : Is (eqb b line_end) → 256 < length (names_of (feed a b))
    go (is_true t) =
        subst (λ r. 256 < length (names_of r)) (sym (feed_end a b t))
        (subst (λ ns. 256 < length ns) (sym (append-nil (a.done ++ ended a.current))) l)
    go (is_false t) =
        let g = ended_le a.done a.current b in
        subst (λ r. 256 < length (names_of r)) (sym (feed_byte a b t)) (omega arith)

-- a newline ends the line
at_end : (a : Reading) (s : State) (k : List ℕ) → Few (reading (a.done ++ ended a.current) []) s k → Few (feed a line_end) s k
at_end a s k f = subst (λ r. Few r s k) (sym (feed_end a line_end (eq-eqb line_end line_end refl))) f

on_line : (a : Reading) (b : ℕ) (s : State) (k : List ℕ) → (b ≡ line_end → ⊥) → Holds (reading a.done (a.current ++ (b ∷ []))) s k
    → Holds (feed a b) s k
on_line a b s k z h = subst (λ r. Holds r s k) (sym (feed_byte a b (ne_eqb b line_end z))) h

module _ (a : Reading) (s : State) (k : List ℕ) where
  pub still_over : (b : ℕ) → 256 < s.count → Holds a s k → Holds (feed a b) s k
  still_over b l (many e m) = many e (still_many a b m)
  still_over b l (few f) = absurd (omega (arith, f.most))

  pub ends_empty : s.count ≤ 256 → s.length ≡ 0 → Holds a s k → Holds (feed a line_end) s k
  ends_empty l z (many e m) = absurd (omega arith)
  ends_empty l z (few f) = few (at_end a s k (end_empty a.done a.current s k f z))

  pub ends_name : (next : ℕ) (k' : List ℕ) → s.count ≤ 256 → (s.length ≡ 0 → ⊥) → StoredByte k s.at line_end next k' → Holds a s k
      → Holds (feed a line_end) (record { count = s.count; length = 0; long = s.long; at = next }) k'
  ends_name next k' l z w (many e m) = absurd (omega arith)
  ends_name next k' l z w (few f) = few (at_end a _ k' (end_name a.done a.current s k k' next f z w))

  pub begins : (b next : ℕ) (k' : List ℕ) → s.count ≤ 256 → (b ≡ line_end → ⊥) → s.length ≡ 0 → StoredByte k s.at b next k' → Holds a s k
      → Holds (feed a b) (record { count = s.count + 1; length = 1; long = s.long; at = next }) k'
  begins b next k' l n z w (many e m) = absurd (omega arith)
  begins b next k' l n z w (few f) = on_line a b _ k' n (begin a.done a.current s k k' b next f z w)

  pub goes_on : (b next : ℕ) (k' : List ℕ) → s.count ≤ 256 → (b ≡ line_end → ⊥) → (s.length ≡ 0 → ⊥) → s.length ≤ 255
      → StoredByte k s.at b next k' → Holds a s k
      → Holds (feed a b) (record { count = s.count; length = s.length + 1; long = s.long || eqb s.length 255; at = next }) k'
  goes_on b next k' l n z y w (many e m) = absurd (omega arith)
  goes_on b next k' l n z y w (few f) = on_line a b _ k' n (few (more_of a.done a.current s k k' b next f z y w))

  pub goes_on_long : (b : ℕ) → s.count ≤ 256 → (b ≡ line_end → ⊥) → 255 < s.length → Holds a s k → Holds (feed a b) s k
  goes_on_long b l n y (many e m) = absurd (omega arith)
  goes_on_long b l n y (few f) = on_line a b s k n (few (more_of_long a.done a.current s k b f y))

pub for_byte : (a : Reading) (b : ℕ) (s : State) (k : List ℕ) → b ≡ line_end → Holds (feed a line_end) s k → Holds (feed a b) s k
for_byte a b s k e h = subst (λ x. Holds (feed a x) s k) (sym e) h

-- a part of the text, byte after byte
pub read_none : (text part : List ℕ) (s : State) (k : List ℕ) → HasRead text s k → HasRead (text ++ take 0 part) s k
read_none text part s k h = subst (λ t. HasRead t s k) (sym (append-nil text)) h

pub read_more : (text part : List ℕ) (i : ℕ) (s s' : State) (k k' : List ℕ) → i < length part → HasRead (text ++ take i part) s k
    → ((a : Reading) → Holds a s k → Holds (feed a (get_or part i 0)) s' k') → HasRead (text ++ take (i + 1) part) s' k'
read_more text part i s s' k k' l h step =
    let before : through nothing (text ++ take i part) ≡ through (through nothing text) (take i part) =
    through_append nothing text (take i part) in
    let after : through nothing (text ++ take (i + 1) part) ≡ feed (through (through nothing text) (take i part)) (get_or part i 0) =
    through_append nothing text (take (i + 1) part) ∙ through_next (through nothing text) part i l in
    subst (λ a. Holds a s' k') (sym after) (step _ (subst (λ a. Holds a s k) before h))

pub read_all : (text part : List ℕ) (i : ℕ) (s : State) (k : List ℕ) → length part ≤ i → HasRead (text ++ take i part) s k
    → HasRead (text ++ part) s k
read_all text part i s k l h = subst (λ t. HasRead (text ++ t) s k) (take_all i part l) h

pub started : (k : List ℕ) → 65536 ≤ length k → HasRead [] (record { count = 0; length = 0; long = false; at = 0 }) k
unfolding ended some_long through flat_map
started k l = few (record {
  count = refl;
  most = omega arith;
  size = refl;
  long = refl;
  room = l;
  bytes = λ n. omega arith;
  text = λ n. refl;
})
