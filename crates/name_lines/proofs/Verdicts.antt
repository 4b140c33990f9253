-- Verdicts on names.
-- Assumes nothing.
use mathlib.Core.Path.{◌≡◌, sym, ap, ◌∙◌, subst}
use mathlib.Core.Bool.{Bool, true, false}
use mathlib.Core.List.{List}
use Prim.Native.Nat.{ℕ, ◌≤◌, ◌<◌}
use native.Mathlib.Omega.{arith}
use lib.Dec.{eqb, ltb}
use lib.ListN.{length}
use borrow.Author.Tests.{eqb-true, eqb-false, ltb-true, ltb-false, lt-ltb, le-ltb}
use Rattle.lists.specs.Choice.{pick_yes, pick_no, Is, is_true, is_false, look}
use Rattle.refusals.specs.Verdict.{refusal, accepted, Plain}
use Rattle.refusals.specs.declared.Verdict.{Verdict}
use Rattle.refusals.specs.Outcome.{done, refused}
use Rattle.refusals.proofs.Outcome.{answer_next, answer_refused}
use Rattle.refusals.proofs.Plain.{plain_refusal, plain_accepted}
use Rattle.name_lines.specs.Names.{some_long, judged, names_verdict, counted}

-- over 256 names, whether one is long or not
pub judged_many : (count : ℕ) (long : Bool) → 256 < count → judged count long ≡ refusal 20 0
unfolding judged
judged_many count long over = pick_yes _ _ _ (lt-ltb 256 count over)

pub judged_long : (count : ℕ) (long : Bool) → count ≤ 256 → long ≡ true → judged count long ≡ refusal 21 0
unfolding judged
judged_long count long few e = pick_no _ _ _ (le-ltb 256 count few) ∙ pick_yes _ _ _ e

pub judged_taken : (count : ℕ) (long : Bool) → count ≤ 256 → long ≡ false → judged count long ≡ accepted
unfolding judged
judged_taken count long few e = pick_no _ _ _ (le-ltb 256 count few) ∙ pick_no _ _ _ e

-- what a verdict that accepts says
pub record Passed (count : ℕ) (long : Bool) : Type 0 where
  pub few : count ≤ 256
  pub none_long : long ≡ false
  pub verdict : judged count long ≡ accepted

pub passed : (count : ℕ) (long : Bool) → (judged count long).number ≡ 0 → Passed count long
unfolding refusal
passed count long zero = go (look (ltb 256 count)) (look long)
  where
    not_twenty : judged count long ≡ refusal 20 0 → ⊥
    not_twenty e = let n : ◌≡◌ {A = ℕ} 20 0 = sym (ap (λ v. v.number) e) ∙ zero in omega arith

    not_twenty_one : judged count long ≡ refusal 21 0 → ⊥
    not_twenty_one e = let n : ◌≡◌ {A = ℕ} 21 0 = sym (ap (λ v. v.number) e) ∙ zero in omega arith

    go : Is (ltb 256 count) → Is long → Passed count long
    go (is_true t) l = absurd (not_twenty (judged_many count long (ltb-true 256 count t)))
    go (is_false t) (is_true l) = absurd (not_twenty_one (judged_long count long (ltb-false 256 count t) l))
    go (is_false t) (is_false l) =
        let few = ltb-false 256 count t in
        record { few = few; none_long = l; verdict = judged_taken count long few l }

-- the answer, refused and done
pub counted_refused : (ns : List (List ℕ)) (v : Verdict) → v ≡ names_verdict ns → (v.number ≡ 0 → ⊥)
    → record { verdict = v; sizes = 0 } ≡ counted ns
unfolding counted refused
counted_refused ns v e refuses =
    ap (λ w. record { verdict = w; sizes = 0 }) e
    ∙ sym (answer_refused (names_verdict ns) 0 (done (length ns)) (subst (λ w. w.number ≡ 0 → ⊥) e refuses))

pub counted_done : (ns : List (List ℕ)) (v : Verdict) (count : ℕ) → v ≡ names_verdict ns → v.number ≡ 0 → count ≡ length ns
    → record { verdict = v; sizes = count } ≡ counted ns
unfolding counted done
counted_done ns v count e zero n =
    let number : (names_verdict ns).number ≡ 0 = subst (λ w. w.number ≡ 0) e zero in
    let verdict : v ≡ accepted = e ∙ (passed (length ns) (some_long ns) number).verdict in
    (λ i. record { verdict = verdict i; sizes = n i })
    ∙ sym (answer_next (names_verdict ns) 0 (done (length ns)) number)

-- the answer says the verdict and, if it accepts, the number of names
pub counted_verdict : (ns : List (List ℕ)) → (counted ns).verdict ≡ names_verdict ns
unfolding counted done refused
counted_verdict ns = go (look (eqb (names_verdict ns).number 0))
  where
    go : Is (eqb (names_verdict ns).number 0) → (counted ns).verdict ≡ names_verdict ns
    go (is_true t) =
        let zero = eqb-true _ 0 t in
        ap (λ a. a.verdict) (answer_next (names_verdict ns) 0 (done (length ns)) zero)
        ∙ sym (passed (length ns) (some_long ns) zero).verdict
    go (is_false t) = ap (λ a. a.verdict) (answer_refused (names_verdict ns) 0 (done (length ns)) (eqb-false _ 0 t))

pub counted_number : (ns : List (List ℕ)) → (names_verdict ns).number ≡ 0 → (counted ns).sizes ≡ length ns
unfolding counted done
counted_number ns zero = ap (λ a. a.sizes) (answer_next (names_verdict ns) 0 (done (length ns)) zero)

-- What can come: 20, 21 or acceptance, at 0.
pub data Judged (v : Verdict) : Type 0 where
  many : v ≡ refusal 20 0 → Judged v
  long : v ≡ refusal 21 0 → Judged v
  taken : v ≡ accepted → Judged v

pub judged_as : (count : ℕ) (l : Bool) → Judged (judged count l)
judged_as count l = go (look (ltb 256 count)) (look l)
  where
    go : Is (ltb 256 count) → Is l → Judged (judged count l)
    go (is_true t) x = many (judged_many count l (ltb-true 256 count t))
    go (is_false t) (is_true x) = long (judged_long count l (ltb-false 256 count t) x)
    go (is_false t) (is_false x) = taken (judged_taken count l (ltb-false 256 count t) x)

-- a plain answer, of at most 256 names
pub counted_plain : (ns : List (List ℕ)) → Plain (counted ns).verdict
counted_plain ns = subst Plain (sym (counted_verdict ns)) (go (judged_as (length ns) (some_long ns)))
  where
    go : Judged (names_verdict ns) → Plain (names_verdict ns)
    go (many e) = subst Plain (sym e) (plain_refusal 20 0)
    go (long e) = subst Plain (sym e) (plain_refusal 21 0)
    go (taken e) = subst Plain (sym e) plain_accepted

pub counted_few : (ns : List (List ℕ)) → (counted ns).sizes ≤ 256
unfolding counted refused
counted_few ns = go (look (eqb (names_verdict ns).number 0))
  where
    go : Is (eqb (names_verdict ns).number 0) → (counted ns).sizes ≤ 256
    go (is_true t) =
        let zero = eqb-true _ 0 t in
        omega (arith, counted_number ns zero, (passed (length ns) (some_long ns) zero).few)
    go (is_false t) =
        let none : (counted ns).sizes ≡ 0 = ap (λ a. a.sizes) (answer_refused (names_verdict ns) 0 (done (length ns)) (eqb-false _ 0 t)) in
        omega arith
