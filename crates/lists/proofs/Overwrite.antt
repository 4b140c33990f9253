-- Laws of parts written over a list.
-- Assumes nothing.
use mathlib.Core.Path.{◌≡◌, sym, ◌∙◌, ap}
use mathlib.Core.List.{List, [], ◌∷◌, ◌++◌, append_assoc, append-nil}
use Prim.Native.Nat.{ℕ, ◌+◌, ◌-◌, ◌≤◌, ◌<◌}
use native.Mathlib.Numerals.{add-one, add-two}
use native.Mathlib.Nat.{add-zero}
use native.Mathlib.Omega.{arith}
use lib.ListN.{length, get_or, set, take, drop, length-append, length-take, length-drop, take-append-drop, drop_of_length-le, get_or-append}
use lib.Seq.{length-take-le, take_at, drop-drop, drop-append-add, take-add, get_or-append-add, get_or-take, get_or-drop, sets, sets-eq}
use Rattle.lists.specs.Parts.{up_to, overwrite}
use Rattle.lists.proofs.Parts.{length-up_to, sum_grows}

-- what is written over a buffer's start stands there
pub start_of : (out ws : List ℕ) (n : ℕ) → length ws ≡ n → take n (overwrite out 0 ws) ≡ ws
unfolding overwrite
start_of out ws n e = take_at ws _ n e

-- nothing written
pub overwrite_nil : (out : List ℕ) (at : ℕ) → overwrite out at [] ≡ out
unfolding overwrite
overwrite_nil out at = rw add-zero (take-append-drop at out)

module _ (out : List ℕ) (at : ℕ) (ws : List ℕ) (fits : at + length ws ≤ length out) where
  pub length_overwrite : length (overwrite out at ws) ≡ length out
  unfolding overwrite
  length_overwrite = simp (length-append, length-take, length-drop) (omega arith)

  -- the list up to the end of what was written
  length_front : length (take at out ++ ws) ≡ at + length ws
  length_front = simp (length-append, length-take) (omega arith)

  front_rest : overwrite out at ws ≡ (take at out ++ ws) ++ drop (at + length ws) out
  unfolding overwrite
  front_rest = sym (append_assoc (take at out) ws (drop (at + length ws) out))

  pub take_overwrite : take (at + length ws) (overwrite out at ws) ≡ take at out ++ ws
  take_overwrite = rw front_rest (take_at (take at out ++ ws) _ (at + length ws) length_front)

  -- what stands after what was written is as it was
  pub drop_overwrite : (k : ℕ) → at + length ws ≤ k → drop k (overwrite out at ws) ≡ drop k out
  drop_overwrite k h =
      let e : k ≡ at + length ws + (k - (at + length ws)) = omega arith in
      rw e (rw (front_rest, ← length_front, drop-append-add, drop-drop))

  pub get_or_overwrite_before : (k d : ℕ) → k < at → get_or (overwrite out at ws) k d ≡ get_or out k d
  unfolding overwrite
  get_or_overwrite_before k d h =
      let l : length (take at out) ≡ at = length-take-le at out (omega arith) in
      get_or-append (take at out) _ d k (omega arith) ∙ get_or-take at out k d h

  pub get_or_overwrite_inside : (k d : ℕ) → k < length ws → get_or (overwrite out at ws) (at + k) d ≡ get_or ws k d
  unfolding overwrite
  get_or_overwrite_inside k d h =
      let l : length (take at out) ≡ at = length-take-le at out (omega arith) in
      ap (λ n. get_or (overwrite out at ws) (n + k) d) (sym l)
      ∙ get_or-append-add (take at out) (ws ++ drop (at + length ws) out) k d
      ∙ get_or-append ws _ d k h

  pub get_or_overwrite_after : (k d : ℕ) → at + length ws ≤ k → get_or (overwrite out at ws) k d ≡ get_or out k d
  get_or_overwrite_after k d h =
      let e : k ≡ k + 0 = omega arith in
      rw e (sym (get_or-drop k (overwrite out at ws) 0 d) ∙ rw (drop_overwrite, get_or-drop))

  -- stores one after the other
  pub sets_overwrite : sets out at ws ≡ overwrite out at ws
  unfolding overwrite
  sets_overwrite = sets-eq ws out at fits ∙ append_assoc (take at out) ws (drop (at + length ws) out)

pub set_one : (out : List ℕ) (at a : ℕ) → at + 1 ≤ length out → set out at a ≡ overwrite out at (a ∷ [])
set_one out at a fits = sets_overwrite out at (a ∷ []) fits

pub set_three : (out : List ℕ) (at a b c : ℕ) → at + 3 ≤ length out
    → set (set (set out at a) (at + 1) b) (at + 2) c ≡ overwrite out at (a ∷ b ∷ c ∷ [])
set_three out at a b c fits = rw (add-one, add-two) (sets_overwrite out at (a ∷ b ∷ c ∷ []) fits)

-- two writes in a row are one
pub overwrite_append : (out : List ℕ) (at : ℕ) (a b : List ℕ) → at + length a + length b ≤ length out
    → overwrite (overwrite out at a) (at + length a) b ≡ overwrite out at (a ++ b)
unfolding overwrite
overwrite_append out at a b fits =
    let l : at + length (a ++ b) ≡ at + length a + length b = simp length-append (omega arith) in
    let fa : at + length a ≤ length out = omega arith in
    let t : take (at + length a) (overwrite out at a) ≡ take at out ++ a = take_overwrite out at a fa in
    let d : drop (at + length a + length b) (overwrite out at a) ≡ drop (at + length a + length b) out =
    drop_overwrite out at a fa (at + length a + length b) (omega arith) in
    rw (t, d, l) (simp append_assoc)

-- one more part
pub up_to_next : (g : ℕ → List ℕ) (i : ℕ) → up_to g (i + 1) ≡ up_to g i ++ g i
unfolding up_to
up_to_next g i = rw add-one

pub length_next : (g : ℕ → List ℕ) (i : ℕ) → length (up_to g (i + 1)) ≡ length (up_to g i) + length (g i)
length_next g i = rw up_to_next (length-append (up_to g i) (g i))

-- where all parts fit, each part does
pub room_for-part : (g : ℕ → List ℕ) (at i n room : ℕ) → i < n → at + length (up_to g n) ≤ room → at + length (up_to g (i + 1)) ≤ room
room_for-part g at i n room h fits =
    omega (arith, length-up_to g (i + 1), length-up_to g n, sum_grows (λ j. length (g j)) (i + 1) n (omega arith))

-- one turn of a loop that writes parts
pub overwrite_next : (g : ℕ → List ℕ) (out cur next : List ℕ) (at i : ℕ) → cur ≡ overwrite out at (up_to g i)
    → next ≡ overwrite cur (at + length (up_to g i)) (g i) → at + length (up_to g (i + 1)) ≤ length out
    → next ≡ overwrite out at (up_to g (i + 1))
overwrite_next g out cur next at i p q fits =
    let l : length (up_to g (i + 1)) ≡ length (up_to g i) + length (g i) = length_next g i in
    q ∙ rw (p, up_to_next) (overwrite_append out at (up_to g i) (g i) (omega arith))

-- a write into a lent tail is one into the whole, from any index of the tail and from its start
pub overwrite_tail_at : (out : List ℕ) (at k : ℕ) (ws : List ℕ) → take at out ++ overwrite (drop at out) k ws ≡ overwrite out (at + k) ws
unfolding overwrite
overwrite_tail_at out at k ws =
    let e : at + k + length ws ≡ at + (k + length ws) = omega arith in
    rw (e, drop-drop, take-add) (simp append_assoc)

pub overwrite_tail : (out : List ℕ) (at : ℕ) (ws : List ℕ) → take at out ++ overwrite (drop at out) 0 ws ≡ overwrite out at ws
overwrite_tail out at ws = overwrite_tail_at out at 0 ws ∙ rw add-zero

-- the same, as a call hands the tail back
pub lent_tail : (out part : List ℕ) (at : ℕ) (ws : List ℕ) → at ≤ length out → part ≡ overwrite (drop at out) 0 ws
    → take at out ++ (part ++ drop (length out - at) (drop at out)) ≡ overwrite out at ws
lent_tail out part at ws h e =
    let none : drop (length out - at) (drop at out) ≡ [] = drop-drop _ at out ∙ drop_of_length-le out {i = at + (length out - at)} (omega arith) in
    rw (none, append-nil, e) (overwrite_tail out at ws)
