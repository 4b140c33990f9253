-- Laws of the places of gates' names in lists.
-- Assumes nothing.
use mathlib.Core.Path.{◌≡◌, refl, sym, ◌∙◌, ap}
use mathlib.Core.Logic.{◌↔◌}
use mathlib.Core.Bool.{true, ◌||◌}
use mathlib.Core.List.{List, [], ◌∷◌, ◌++◌, append_assoc}
use Prim.Native.Nat.{ℕ, ◌≤◌, max}
use native.Mathlib.Omega.{arith}
use lib.Dec.{eqb}
use borrow.Author.Tests.{eqb-true, eq-eqb}
use Rattle.lists.specs.Choice.{pick, clash, or_left, or_right, or_cases}
use Rattle.lists.specs.Members.{mem}
use Rattle.lists.proofs.Members.{mem_nil}
use Rattle.qcir.specs.File.{Name, numbers_of}
use Rattle.qcir.specs.Refusals.{later_places, naming_gates}
use Rattle.qcir_misplaced.proofs.Above.{Above, none, above_pick}
use Rattle.qcir_misplaced.proofs.Entries.{Each, no_names, a_name}

pub later_append : (x : Name) (xs ys : List Name) → later_places x (xs ++ ys) ≡ later_places x xs ++ later_places x ys
unfolding later_places
later_append x [] ys = refl
later_append x (y ∷ xs) ys =
    let h = pick (eqb x.number y.number) (max x.position y.position ∷ []) [] in
    ap (λ (l : List ℕ). h ++ l) (later_append x xs ys) ∙ sym (append_assoc h (later_places x xs) (later_places x ys))

pub naming_append : (gates : List ℕ) (xs ys : List Name) → naming_gates gates (xs ++ ys) ≡ naming_gates gates xs ++ naming_gates gates ys
unfolding naming_gates
naming_append gates [] ys = refl
naming_append gates (x ∷ xs) ys =
    let h = pick (mem x.number gates) (x.position ∷ []) [] in
    ap (λ (l : List ℕ). h ++ l) (naming_append gates xs ys) ∙ sym (append_assoc h (naming_gates gates xs) (naming_gates gates ys))

turned : (a b : ℕ) → eqb a b ≡ true → eqb b a ≡ true
turned a b h = eq-eqb b a (sym (eqb-true a b h))

module _ (k : ℕ) (x : Name) where
  -- among names before x the later place is that of x
  pub later_before : {ys : List Name} → Each (λ y. y.position ≤ x.position) ys → (Above k (later_places x ys) ↔ (mem x.number (numbers_of ys) ≡ true → k ≤ x.position))
  unfolding later_places numbers_of mem
  later_before no_names = (λ a m. clash m (mem_nil x.number), λ f. none)
  later_before (a_name {x = y} {xs = ys} h e) =
      let b = eqb x.number y.number in
      let m = mem x.number (numbers_of ys) in
      let l : y.position ≤ x.position = h in
      let here = above_pick k (max x.position y.position) b (later_places x ys) in
      let later = later_before e in (
        λ a q. or_cases b m q (λ z. let w : k ≤ max x.position y.position = (here.0 a).0 z in omega arith) (λ z. later.0 (here.0 a).1 z),
        λ f. here.1 (λ z. let w : k ≤ x.position = f (or_left b m z) in omega arith, later.1 (λ z. f (or_right b m z))),
      )

  -- among names after x it is theirs
  pub later_after : {ys : List Name} (gates : List ℕ) → Each (λ y. x.position ≤ y.position) ys
      → (Above k (naming_gates (x.number ∷ gates) ys) ↔ (Above k (later_places x ys) × Above k (naming_gates gates ys)))
  unfolding later_places naming_gates mem
  later_after gates no_names = (λ a. (none, none), λ q. none)
  later_after gates (a_name {x = y} {xs = ys} h e) =
      let b = eqb y.number x.number in
      let m = mem y.number gates in
      let l : x.position ≤ y.position = h in
      let all = above_pick k y.position (b || m) (naming_gates (x.number ∷ gates) ys) in
      let here = above_pick k (max x.position y.position) (eqb x.number y.number) (later_places x ys) in
      let other = above_pick k y.position m (naming_gates gates ys) in
      let later = later_after gates e in (
        λ a.
            let s = all.0 a in
            let r = later.0 s.1 in
            (here.1 (λ z. let w : k ≤ y.position = s.0 (or_left b m (turned x.number y.number z)) in omega arith, r.0), other.1 (λ z. s.0 (or_right b m z), r.1)),
        λ q.
            let u = here.0 q.0 in
            let v = other.0 q.1 in
            all.1 (λ z. or_cases b m z (λ w. let o : k ≤ max x.position y.position = u.0 (turned y.number x.number w) in omega arith) v.0, later.1 (u.1, v.1)),
      )
