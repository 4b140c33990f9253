-- Laws of names joined to those before them, one by one.
-- Assumes nothing.
use mathlib.Core.Path.{◌≡◌, refl, sym, ◌∙◌, ap}
use mathlib.Core.Bool.{Bool, true, false}
use mathlib.Core.List.{List, [], ◌∷◌, ◌++◌, append_assoc, append-nil}
use Prim.Native.Nat.{ℕ, ◌+◌, ◌<◌, ◌≤◌}
use native.Mathlib.Numerals.{add-one}
use native.Mathlib.Omega.{arith}
use lib.ListN.{length, get_or, set, take, drop, length-append, take-append-drop}
use lib.Seq.{take-suc, drop-cons, take_all, length-take-le}
use mir.Val.{bool_byte}
use borrow.Author.Tests.{eqb-true}
use Rattle.lists.specs.Choice.{pick, clash, absent}
use Rattle.lists.specs.Members.{mem, distinct}
use Rattle.kept_prefix.specs.Blocks.{keep}
use Rattle.lists.proofs.Members.{mem_one, mem_head, times_at_most, times_append, times_positive, distinct_append}
use Rattle.kept_prefix.proofs.Keep.{keep_append, length_keep}
use Rattle.leading_blocks.specs.Flags.{Flags, one_of}
use Rattle.leading_blocks.specs.Front.{Fresh}
use Rattle.leading_blocks.proofs.Flags.{flags_join}

-- a list in which an element of the front stands again
repeats : (xs ys : List ℕ) (x : ℕ) → mem x xs ≡ true → mem x ys ≡ true → distinct (xs ++ ys) ≡ false
repeats xs ys x m n =
    absent _ (λ d. omega (arith, times_at_most x (xs ++ ys) d, times_append x xs ys, times_positive x xs m, times_positive x ys n))

distinct_join : (xs : List ℕ) (x : ℕ) → distinct xs ≡ true → mem x xs ≡ false → distinct (xs ++ (x ∷ [])) ≡ true
unfolding distinct mem
distinct_join xs x d n = distinct_append xs (x ∷ []) d refl (λ y m o. clash m (ap (λ z. mem z xs) (eqb-true y x (sym (mem_one y x) ∙ o)) ∙ n))

byte_is : (x : ℕ) (b : Bool) → length (pick b (x ∷ []) []) ≡ bool_byte b
unfolding pick
byte_is x true = refl
byte_is x false = refl

keep_one : (p : ℕ → Bool) (x : ℕ) → length (keep p (x ∷ [])) ≡ bool_byte (p x)
unfolding keep
keep_one p x = byte_is x (p x)

-- What is known of names joined so far.
pub record Joining (xs : List ℕ) (used : List Bool) : Type 0 where
  pub used_are : Flags (one_of xs) used
  pub apart : distinct xs ≡ true

module _ (names : List ℕ) (e : ℕ) (h : e < length names) where
  x_next : take (e + 1) names ≡ take e names ++ (get_or names e 0 ∷ [])
  x_next = rw add-one (take-suc names e 0 h)

  module _ (p : ℕ → Bool) (count : ℕ) (c : count ≡ length (keep p (take e names))) where
    pub kept_next : count + bool_byte (p (get_or names e 0)) ≡ length (keep p (take (e + 1) names))
    kept_next =
        let one : List ℕ = get_or names e 0 ∷ [] in
        let k : keep p (take (e + 1) names) ≡ keep p (take e names) ++ keep p one = ap (keep p) x_next ∙ keep_append p (take e names) one in
        omega (arith, ap length k, length-append (keep p (take e names)) (keep p one), keep_one p (get_or names e 0))

    pub kept_few : count + bool_byte (p (get_or names e 0)) ≤ length names
    kept_few = omega (arith, kept_next, length_keep p (take (e + 1) names), length-take-le (e + 1) names (omega arith))

  module _ (before : List ℕ) (used : List Bool) (j : Joining (before ++ take e names) used) where
    -- a name without a flag
    pub join_next : get_or names e 0 < 65536 → get_or used (get_or names e 0) false ≡ false
        → Joining (before ++ take (e + 1) names) (set used (get_or names e 0) true)
    join_next l n =
        let x : ℕ = get_or names e 0 in
        let xs : List ℕ = before ++ take e names in
        let q : before ++ take (e + 1) names ≡ xs ++ (x ∷ []) = ap (λ ys. before ++ ys) x_next ∙ sym (append_assoc before (take e names) (x ∷ [])) in
        rw q (record { used_are = flags_join xs used x l j.used_are; apart = distinct_join xs x j.apart (sym (j.used_are.flag_is x) ∙ n) })

    -- one with a flag
    pub join_repeats : get_or used (get_or names e 0) false ≡ true → distinct (before ++ names) ≡ false
    join_repeats t =
        let x : ℕ = get_or names e 0 in
        let xs : List ℕ = before ++ take e names in
        let q : before ++ names ≡ xs ++ drop e names = ap (λ ys. before ++ ys) (sym (take-append-drop e names)) ∙ sym (append_assoc before (take e names) (drop e names)) in
        ap distinct q ∙ repeats xs (drop e names) x (sym (j.used_are.flag_is x) ∙ t) (ap (mem x) (drop-cons names e 0 h) ∙ mem_head x _)

pub added_all : (before names : List ℕ) (standing used : List Bool) (e count : ℕ) → length names ≤ e → Joining (before ++ take e names) used
    → count ≡ length (keep (λ x. get_or standing x false) (take e names)) → Fresh before names standing used count
added_all before names standing used e count h j c =
    let all : take e names ≡ names = take_all e names h in
    let i = rw all at j in
    record { apart = i.apart; used_are = i.used_are; standing_is = rw all at c }

pub joining_start : (before names : List ℕ) (used : List Bool) → Flags (one_of before) used → distinct before ≡ true → Joining (before ++ take 0 names) used
joining_start before names used f d = rw append-nil (record { used_are = f; apart = d })
