-- Laws of the numbers whose flag is set, one after the other, and of the answer at each return.
-- Assumes nothing.
use mathlib.Core.Path.{◌≡◌, refl, sym, ◌∙◌, ap}
use mathlib.Core.Bool.{Bool, true, false}
use mathlib.Core.List.{List, [], ◌∷◌, ◌++◌, append-nil}
use Prim.Native.Nat.{ℕ, zero, suc, ◌+◌, ◌-◌, ◌≤◌, ◌<◌}
use native.Mathlib.Omega.{arith}
use lib.ListN.{length, get_or, set, length-append}
use borrow.Author.Tests.{lt-ltb, le-ltb}
use Rattle.lists.specs.Choice.{pick, pick_yes, pick_no}
use Rattle.lists.specs.Parts.{up_to, passing, overwrite}
use Rattle.lists.proofs.Parts.{up_to_split}
use Rattle.lists.proofs.Passing.{chosen_length}
use Rattle.lists.proofs.Overwrite.{set_one, up_to_next, overwrite_next, length_next, room_for-part}
use Rattle.formula.specs.Words.{table_of}
use Rattle.formula.specs.FreeVariables.{free_variables}
use Rattle.refusals.specs.Verdict.{refusal, accepted}
use Rattle.refusals.specs.Outcome.{refused, done}
use Rattle.refusals.specs.declared.Verdict.{Verdict}
use Rattle.refusals.proofs.Outcome.{call_next, call_refused, call_room, call_short}
use Rattle.acceptance.specs.Verdict.{verdict}
use Rattle.free_variables.specs.Outcome.{after, listing, listed}
use Rattle.free_variables.specs.Steps.{flagged}

empty : (xs : List ℕ) → length xs ≡ 0 → xs ≡ []
empty [] h = refl
empty (x ∷ xs) h = absurd (omega arith)

module _ (flags : List Bool) where
  -- the numbers below x whose flag is set
  abbrev pub flagged_below : ℕ → List ℕ
  flagged_below x = passing (λ y. get_or flags y false) x

  -- none where no flag is set
  pub flagged_none : (n : ℕ) → ((x : ℕ) → x < n → get_or flags x false ≡ false) → flagged_below n ≡ []
  unfolding passing up_to
  flagged_none zero none = refl
  flagged_none (suc n) none = rw (pick_no (get_or flags n false) (n ∷ []) [] (none n (omega arith)), flagged_none n (λ x h. none x (omega arith)))

  flagged_count : (x : ℕ) → length (flagged_below (x + 1)) ≡ length (flagged_below x) + pick (get_or flags x false) 1 0
  unfolding passing
  flagged_count x =
      length_next (λ y. pick (get_or flags y false) (y ∷ []) []) x
      ∙ ap (λ n. length (flagged_below x) + n) (chosen_length (get_or flags x false) x)

  -- where none are left, these are all
  pub flagged_all : (x : ℕ) → x ≤ length flags → length (flagged flags) ≤ length (flagged_below x) → flagged_below x ≡ flagged flags
  unfolding flagged passing
  flagged_all x l h =
      let g : ℕ → List ℕ = λ y. pick (get_or flags y false) (y ∷ []) [] in
      let k : ℕ = length flags - x in
      let s = up_to_split g x k in
      let q : k + x ≡ length flags = omega arith in
      let all : up_to g (length flags) ≡ up_to g x ++ s.0 = ap (up_to g) (sym q) ∙ s.1 in
      let none : s.0 ≡ [] = empty s.0 (omega (arith, ap length all, length-append (up_to g x) s.0)) in
      sym (all ∙ ap (λ (r : List ℕ). up_to g x ++ r) none ∙ append-nil (up_to g x))

  -- a number whose flag is not set
  pub flagged_skip : (x : ℕ) → get_or flags x false ≡ false → flagged_below x ≡ flagged_below (x + 1)
  unfolding passing
  flagged_skip x e =
      let g : ℕ → List ℕ = λ y. pick (get_or flags y false) (y ∷ []) [] in
      sym (up_to_next g x ∙ ap (λ r. up_to g x ++ r) (pick_no (get_or flags x false) (x ∷ []) [] e) ∙ append-nil (up_to g x))

  -- one whose flag is set: it has room, and is written
  module _ (x : ℕ) (h : x < length flags) (set_here : get_or flags x false ≡ true) where
    pub flagged_more : length (flagged_below x) + 1 ≡ length (flagged_below (x + 1))
    flagged_more = omega (arith, flagged_count x, pick_yes {A = ℕ} (get_or flags x false) 1 0 set_here)

    pub flagged_room : (room : ℕ) → length (flagged flags) ≤ room → length (flagged_below x) < room
    unfolding flagged passing
    flagged_room room fits =
        omega (arith, flagged_more, room_for-part (λ y. pick (get_or flags y false) (y ∷ []) []) 0 x (length flags) room h (omega arith))

    pub flagged_next : (out cur : List ℕ) (at : ℕ) → length cur ≡ length out → length (flagged flags) ≤ length out
        → at ≡ length (flagged_below x) → cur ≡ overwrite out 0 (flagged_below x) → set cur at x ≡ overwrite out 0 (flagged_below (x + 1))
    unfolding passing
    flagged_next out cur at l fits e p =
        let room = flagged_room (length out) fits in
        let one : pick (get_or flags x false) (x ∷ []) [] ≡ x ∷ [] = pick_yes (get_or flags x false) (x ∷ []) [] set_here in
        let start : at ≡ 0 + length (flagged_below x) = omega arith in
        overwrite_next (λ y. pick (get_or flags y false) (y ∷ []) []) out cur (set cur at x) 0 x p
        (rw (← start, one) (set_one cur at x (omega arith))) (omega (arith, flagged_more))

-- The answer and the buffer at each return.

module _ (v : Verdict) (names xs : List ℕ) where
  pub listing_short : v ≡ refusal 9 0 → length names < length xs → after (record { verdict = v; count = 0 }) names ≡ listing names xs
  unfolding after listing refused
  listing_short e h = rw e (sym (call_short _ _ _ _ (lt-ltb _ _ h)))

  pub listing_done : v ≡ accepted → length xs ≤ length names → (count : ℕ) → count ≡ length xs → (next : List ℕ) → next ≡ overwrite names 0 xs
      → after (record { verdict = v; count = count }) next ≡ listing names xs
  unfolding after listing done
  listing_done e h count c next w = rw (e, c, w) (sym (call_room _ _ _ _ (le-ltb _ _ h)))

module _ (ws ls names : List ℕ) where
  pub listed_refused : (v : Verdict) → v ≡ verdict ws ls → (v.number ≡ 0 → ⊥)
      → after (record { verdict = v; count = 0 }) names ≡ listed ws ls names
  unfolding after listed refused
  listed_refused v e n = rw (← e) (sym (call_refused _ _ _ v n))

  pub listed_accepted : (verdict ws ls).number ≡ 0 → listing names (free_variables (table_of ws ls)) ≡ listed ws ls names
  unfolding listed
  listed_accepted z = sym (call_next _ _ _ _ z)
