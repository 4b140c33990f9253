-- A list written part by part from a buffer's start on.
-- Assumes nothing.
use mathlib.Core.Path.{◌≡◌, refl, sym, ◌∙◌, ap}
use mathlib.Core.List.{List, [], ◌∷◌, ◌++◌, flat_map}
use Prim.Native.Nat.{ℕ, suc, ◌+◌, ◌-◌, ◌≤◌, ◌<◌}
use native.Mathlib.Omega.{arith}
use lib.ListN.{length, set, take, drop, length-append, length-drop}
use lib.Seq.{take_all}
use Rattle.lists.specs.Parts.{numbers, overwrite}
use Rattle.lists.proofs.Parts.{length_numbers}
use Rattle.lists.proofs.Overwrite.{overwrite_nil, length_overwrite, overwrite_append, set_one, lent_tail}

-- Of the whole list, what is left goes in from index at on: the buffer was out₀ before, and is out now.
pub record Left (out₀ out : List ℕ) (at : ℕ) (whole left : List ℕ) : Type 0 where
  pub same : overwrite out at left ≡ overwrite out₀ 0 whole
  pub reached : at + length left ≡ length whole
  pub kept : length out ≡ length out₀

pub left_start : (out whole left : List ℕ) → left ≡ whole → Left out out 0 whole left
left_start out whole left e = record { same = rw e; reached = rw e (omega arith); kept = refl }

module _ (out₀ out : List ℕ) (at : ℕ) (whole left : List ℕ) (so_far : Left out₀ out at whole left) where
  -- room for the next part
  pub left_room : (a b : List ℕ) → left ≡ a ++ b → length whole ≤ length out₀ → at + length a ≤ length out
  left_room a b e fits =
      let l : length left ≡ length a + length b = ap length e ∙ length-append a b in
      omega (arith, so_far.reached, so_far.kept)

  -- the next part written
  pub left_step : (a b next : List ℕ) → left ≡ a ++ b → length whole ≤ length out₀ → next ≡ overwrite out at a
      → Left out₀ next (at + length a) whole b
  left_step a b next e fits n =
      let l : length left ≡ length a + length b = ap length e ∙ length-append a b in
      let room : at + length a + length b ≤ length out = omega (arith, so_far.reached, so_far.kept) in
      record {
        same = rw n (overwrite_append out at a b room ∙ ap (overwrite out at) (sym e) ∙ so_far.same);
        reached = omega (arith, so_far.reached);
        kept = ap length n ∙ length_overwrite out at a (omega arith) ∙ so_far.kept;
      }

  -- all written
  pub left_end : left ≡ [] → (out ≡ overwrite out₀ 0 whole) × (at ≡ length whole)
  left_end e =
      let l : length left ≡ 0 = ap length e in
      (sym (overwrite_nil out at) ∙ ap (overwrite out at) (sym e) ∙ so_far.same, omega (arith, so_far.reached))

-- the lent tail of a buffer: its room, and a part written into it, as a call hands it back
module _ (out : List ℕ) (at : ℕ) where
  abbrev pub tail : List ℕ
  tail = take (length out - at) (drop at out)

  tail_is : tail ≡ drop at out
  tail_is = take_all (length out - at) (drop at out) (omega (arith, length-drop at out))

  pub tail_room : (n room : ℕ) → length out ≡ room → at + n ≤ room → n ≤ length tail
  tail_room n room e h = rw tail_is (omega (arith, length-drop at out))

  pub tail_back : (part ws : List ℕ) → at ≤ length out → part ≡ overwrite tail 0 ws
      → take at out ++ (part ++ drop (length out - at) (drop at out)) ≡ overwrite out at ws
  tail_back part ws h e = lent_tail out part at ws h (rw tail_is at e)

-- a part after what was written, and how long both are
pub write_two : (out last a b part whole : List ℕ) (n m : ℕ) → whole ≡ a ++ b → length whole ≤ length out → last ≡ overwrite out 0 a → n ≡ length a
    → part ≡ overwrite (tail last n) 0 b → m ≡ length b
    → (take n last ++ (part ++ drop (length last - n) (drop n last)) ≡ overwrite out 0 whole) × (n + m ≡ length whole)
write_two out last a b part whole n m w fits p q r s =
    let l : length whole ≡ length a + length b = ap length w ∙ length-append a b in
    let z : 0 + length a ≡ n = omega arith in
    let k : length last ≡ length out = ap length p ∙ length_overwrite out 0 a (omega arith) in (
      tail_back last n part b (omega arith) r
          ∙ ap (λ (m : List ℕ). overwrite m n b) p
          ∙ ap (λ (m : ℕ). overwrite (overwrite out 0 a) m b) (sym z)
          ∙ overwrite_append out 0 a b (omega arith)
          ∙ ap (overwrite out 0) (sym w),
      omega arith,
    )

-- one element after what was written
pub write_last : (out last a : List ℕ) (n x : ℕ) → last ≡ overwrite out 0 a → n ≡ length a → length a < length out
    → set last n x ≡ overwrite out 0 (a ++ (x ∷ []))
write_last out last a n x p q fits =
    let z : 0 + length a ≡ length a = omega arith in
    let k : length (overwrite out 0 a) ≡ length out = length_overwrite out 0 a (omega arith) in
    rw (p, q) (set_one (overwrite out 0 a) (length a) x (omega arith)
    ∙ ap (λ (m : ℕ). overwrite (overwrite out 0 a) m (x ∷ [])) (sym z)
    ∙ overwrite_append out 0 a (x ∷ []) (omega arith))

-- consecutive numbers written one by one
module _ (first count : ℕ) where
  -- what is left of them after k numbers
  abbrev pub numbers_left : ℕ → List ℕ
  numbers_left k = numbers (first + k) (count - k)

  pub numbers_start : (out : List ℕ) → Left out out 0 (numbers first count) (numbers_left 0)
  numbers_start out =
      let e : first + 0 ≡ first = omega arith in
      let f : count - 0 ≡ count = omega arith in left_start out _ _ (rw (e, f))

  numbers_next : (k : ℕ) → k < count → numbers_left k ≡ ((first + k) ∷ []) ++ numbers_left (k + 1)
  unfolding numbers
  numbers_next k h =
      let e : count - k ≡ suc (count - (k + 1)) = omega arith in
      let f : first + (k + 1) ≡ suc (first + k) = omega arith in rw (e, f)

  module _ (out₀ out : List ℕ) (k : ℕ) (so_far : Left out₀ out k (numbers first count) (numbers_left k)) where
    pub numbers_step : count ≤ length out₀ → k < count → Left out₀ (set out k (first + k)) (k + 1) (numbers first count) (numbers_left (k + 1))
    numbers_step room h =
        left_step out₀ out k _ _ so_far ((first + k) ∷ []) (numbers_left (k + 1)) _ (numbers_next k h)
        (omega (arith, length_numbers first count)) (set_one out k (first + k) (omega (arith, so_far.kept)))

    pub numbers_end : count ≤ k → out ≡ overwrite out₀ 0 (numbers first count)
    unfolding numbers
    numbers_end h = let e : count - k ≡ 0 = omega arith in (left_end out₀ out k _ _ so_far (rw e)).0

-- the parts of a list's elements, one at a time
pub flat_map_end : {A : Type 0} (g : A → List ℕ) (is : List A) → is ≡ [] → flat_map g is ≡ []
unfolding flat_map
flat_map_end g is e = ap (flat_map g) e

pub flat_map_next : {A : Type 0} (g : A → List ℕ) (is js : List A) (i : A) → is ≡ i ∷ js → flat_map g is ≡ g i ++ flat_map g js
unfolding flat_map
flat_map_next g is js i e = ap (flat_map g) e
