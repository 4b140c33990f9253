-- Bytes stored one at a time, from the front and from the back, and what is stored over.
-- Assumes nothing.
use mathlib.Core.List.{List, [], ◌∷◌, ◌++◌, append_assoc, append-nil}
use mathlib.Core.Path.{◌≡◌, sym, ◌∙◌, ap}
use Prim.Native.Nat.{ℕ, ◌+◌, ◌-◌, ◌≤◌, ◌<◌, ◌/◌, ◌%◌}
use native.Mathlib.Numerals.{add-one}
use native.Mathlib.Nat.{add-zero}
use native.Mathlib.Omega.{arith}
use lib.ListN.{length, get_or, set, take, drop, length-append}
use lib.Seq.{length-take-le, take-suc, take_all, take-append-le, take-take, take_at, drop_at}
use Rattle.lists.specs.Parts.{overwrite}
use Rattle.lists.proofs.Overwrite.{overwrite_nil, overwrite_append, set_one, length_overwrite, drop_overwrite}
use Rattle.texts.specs.Numerals.{digits}
use Rattle.texts.proofs.Numerals.{digits_below_ten, digits_step}
use Rattle.texts.proofs.Lengths.{some_digit}

-- one more byte of a word, the k before it being stored
pub store_next : (out text : List ℕ) (at : ℕ) (word : List ℕ) (k : ℕ) → text ≡ overwrite out at (take k word) → k < length word
    → at + length word ≤ length out → set text (at + k) (get_or word k 0) ≡ overwrite out at (take (k + 1) word)
store_next out text at word k e h fits =
    let l : length (take k word) ≡ k = length-take-le k word (omega arith) in
    let w : length (overwrite out at (take k word)) ≡ length out = length_overwrite out at (take k word) (omega arith) in
    ap (λ t. set t (at + k) (get_or word k 0)) e
    ∙ set_one (overwrite out at (take k word)) (at + k) (get_or word k 0) (omega arith)
    ∙ ap (λ n. overwrite (overwrite out at (take k word)) (at + n) (get_or word k 0 ∷ [])) (sym l)
    ∙ overwrite_append out at (take k word) (get_or word k 0 ∷ []) (omega arith)
    ∙ rw (add-one, take-suc word k 0)

-- all of it
pub store_all : (out text : List ℕ) (at : ℕ) (word : List ℕ) (k : ℕ) → text ≡ overwrite out at (take k word) → length word ≤ k → text ≡ overwrite out at word
store_all out text at word k e h = e ∙ ap (overwrite out at) (take_all k word h)

-- a part written before another
pub overwrite_before : (out : List ℕ) (at : ℕ) (a b : List ℕ) → at + length a + length b ≤ length out
    → overwrite (overwrite out (at + length a) b) at a ≡ overwrite out at (a ++ b)
unfolding overwrite
overwrite_before out at a b fits =
    let front : length (take (at + length a) out) ≡ at + length a = length-take-le (at + length a) out (omega arith) in
    let rest : List ℕ = b ++ drop (at + length a + length b) out in
    let t : take at (take (at + length a) out ++ rest) ≡ take at out =
    take-append-le at (take (at + length a) out) rest (omega arith) ∙ take-take at (at + length a) out (omega arith) in
    let d : drop (at + length a) (take (at + length a) out ++ rest) ≡ rest = drop_at (take (at + length a) out) rest (at + length a) front in
    let l : at + length (a ++ b) ≡ at + length a + length b = simp length-append (omega arith) in
    rw (t, d, l) (simp append_assoc)

-- a part written over one that is not longer
pub overwrite_over : (out : List ℕ) (at : ℕ) (a b : List ℕ) → length a ≤ length b → at + length b ≤ length out
    → overwrite (overwrite out at a) at b ≡ overwrite out at b
unfolding overwrite
overwrite_over out at a b h fits =
    let front : take at (overwrite out at a) ≡ take at out = take_at (take at out) _ at (length-take-le at out (omega arith)) in
    let d : drop (at + length b) (overwrite out at a) ≡ drop (at + length b) out = drop_overwrite out at a (omega arith) (at + length b) (omega arith) in
    λ i. front i ++ (b ++ d i)

-- The digits of x stored from the last on: those before index end that are not in `left` are.
pub record Back (out : List ℕ) (end x : ℕ) (text : List ℕ) (from left : ℕ) : Type 0 where
  pub done : List ℕ
  pub whole : digits x ≡ digits left ++ done
  pub place : from + length done ≡ end
  pub stored : text ≡ overwrite out from done

pub back_start : (out : List ℕ) (end x : ℕ) → Back out end x out end x
back_start out end x =
    record { done = []; whole = sym (append-nil (digits x)); place = add-zero end; stored = sym (overwrite_nil out end) }

module _ (out : List ℕ) (end x : ℕ) (text : List ℕ) (from left : ℕ) (b : Back out end x text from left)
    (low : length (digits x) ≤ end) (high : end ≤ length out) where
  lengths : length (digits x) ≡ length (digits left) + length b.done
  lengths = ap length b.whole ∙ length-append (digits left) b.done

  -- room for the next digit
  pub back_room : (1 ≤ from) × (from ≤ length out)
  back_room = (omega (arith, lengths, b.place, some_digit left), omega (arith, b.place))

  pub back_length : length text ≡ length out
  back_length = ap length b.stored ∙ length_overwrite out from b.done (omega (arith, b.place))

  store_before : (d : ℕ) → set text (from - 1) d ≡ overwrite out (from - 1) (d ∷ b.done)
  store_before d =
      let p : from + length b.done ≡ end = b.place in
      let h : 1 ≤ from = back_room.0 in
      let e : from - 1 + 1 ≡ from = omega arith in
      let l : length text ≡ length out = back_length in
      set_one text (from - 1) d (omega arith)
      ∙ ap (λ l. overwrite l (from - 1) (d ∷ [])) (b.stored ∙ ap (λ n. overwrite out n b.done) (sym e))
      ∙ overwrite_before out (from - 1) (d ∷ []) b.done (omega arith)

  pub back_step : 10 ≤ left → Back out end x (set text (from - 1) (48 + left % 10)) (from - 1) (left / 10)
  back_step h =
      let p : from + length b.done ≡ end = b.place in
      let r : 1 ≤ from = back_room.0 in
      record {
        done = (48 + left % 10) ∷ b.done;
        whole = b.whole ∙ ap (λ ds. ds ++ b.done) (digits_step left h) ∙ append_assoc (digits (left / 10)) ((48 + left % 10) ∷ []) b.done;
        place = omega arith;
        stored = store_before (48 + left % 10);
      }

  pub back_end : left < 10 → set text (from - 1) (48 + left) ≡ overwrite out (end - length (digits x)) (digits x)
  back_end h =
      let p : from + length b.done ≡ end = b.place in
      let one : length (digits left) ≡ 1 = ap length (digits_below_ten left h) in
      let w : (48 + left) ∷ b.done ≡ digits x = ap (λ ds. ds ++ b.done) (sym (digits_below_ten left h)) ∙ sym b.whole in
      let e : from - 1 ≡ end - length (digits x) = omega (arith, lengths) in
      store_before (48 + left) ∙ (λ i. overwrite out (e i) (w i))
