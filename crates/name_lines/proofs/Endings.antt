-- What is found once a text has ended.
-- Assumes nothing.
use mathlib.Core.Path.{◌≡◌, refl, sym, ap, ◌∙◌, subst}
use mathlib.Core.Bool.{false}
use mathlib.Core.List.{List, [], ◌∷◌, ◌++◌, append-nil}
use Prim.Native.Nat.{ℕ, ◌≤◌, ◌<◌}
use native.Mathlib.Omega.{arith}
use lib.ListN.{length, take}
use borrow.Author.Tests.{eq-eqb}
use Rattle.name_lines.specs.declared.State.{State}
use Rattle.name_lines.specs.declared.Found.{Found}
use Rattle.name_lines.specs.Names.{line_end, ended, names, some_long, judged, names_verdict}
use Rattle.name_lines.specs.Kept.{Taken, nothing, feed, through, names_of, kept_text, Holds, many, few, HasRead}
use Rattle.name_lines.proofs.Readings.{feed_end, through_append, names_through, kept_names, long_all}
use Rattle.name_lines.proofs.Verdicts.{judged_many, Passed, passed, counted_refused, counted_done}

names_read : (text : List ℕ) → names text ≡ names_of (through nothing text)
names_read text = sym (names_through nothing text)

-- the verdict by the state is the verdict on the names
pub verdict_read : (text : List ℕ) (s : State) (k : List ℕ) → HasRead text s k → judged s.count s.long ≡ names_verdict (names text)
verdict_read text s k (many c m) =
    judged_many s.count s.long (omega arith)
    ∙ sym (judged_many (length (names text)) (some_long (names text)) (subst (λ ns. 256 < length ns) (sym (names_read text)) m))
verdict_read text s k (few f) =
    let count : s.count ≡ length (names text) = f.count ∙ ap length (sym (names_read text)) in
    let long : s.long ≡ some_long (names text) = f.long ∙ sym (long_all (through nothing text)) ∙ ap some_long (sym (names_read text)) in
    λ i. judged (count i) (long i)

-- names that are refused
pub taken_refused : (text : List ℕ) (s : State) (k k' : List ℕ) (r : Found) → HasRead text s k
    → r.verdict ≡ judged s.count s.long → (r.verdict.number ≡ 0 → ⊥) → r.count ≡ 0 → r.bytes ≡ 0 → Taken (names text) r k'
taken_refused text s k k' r h v refuses n b =
    record {
      answer =
          ap (λ c. record { verdict = r.verdict; sizes = c }) n
          ∙ counted_refused (names text) r.verdict (v ∙ verdict_read text s k h) refuses;
      text = λ zero. absurd (refuses zero);
      none = λ _. b;
    }

-- names that are taken, once the last line has ended
pub taken_all : (text : List ℕ) (s : State) (k : List ℕ) (s' : State) (k' : List ℕ) (r : Found) → HasRead text s k
    → r.verdict ≡ judged s.count s.long → r.verdict.number ≡ 0 → Holds (feed (through nothing text) line_end) s' k'
    → r.count ≡ s'.count → (s'.at ≤ length k' → r.bytes ≡ s'.at) → Taken (names text) r k'
unfolding ended through
taken_all text s k s' k' r h v zero end n b = go end
  where
    verdict : r.verdict ≡ names_verdict (names text)
    verdict = v ∙ verdict_read text s k h

    passes : Passed (length (names text)) (some_long (names text))
    passes = passed (length (names text)) (some_long (names text)) (subst (λ w. w.number ≡ 0) verdict zero)

    -- the text with an LF at its end
    whole : through nothing (text ++ (line_end ∷ [])) ≡ feed (through nothing text) line_end
    whole = through_append nothing text (line_end ∷ [])

    ends : feed (through nothing text) line_end ≡ record { done = names_of (through nothing text); current = [] }
    ends = feed_end (through nothing text) line_end (eq-eqb line_end line_end refl)

    same : names_of (feed (through nothing text) line_end) ≡ names text
    same = ap (λ a. names_of a) ends ∙ append-nil (names_of (through nothing text)) ∙ sym (names_read text)

    go : Holds (feed (through nothing text) line_end) s' k' → Taken (names text) r k'
    go (many c m) = absurd (omega (arith, passes.few, subst (λ ns. 256 < length ns) same m))
    go (few g) =
        let long : s'.long ≡ false =
        g.long ∙ sym (long_all (feed (through nothing text) line_end)) ∙ ap some_long same ∙ passes.none_long in
        let done : length (feed (through nothing text) line_end).done ≤ 256 =
        subst (λ a. length a.done ≤ 256) (sym ends) (subst (λ ns. length ns ≤ 256) (names_read text) passes.few) in
        let current : length (feed (through nothing text) line_end).current ≡ 0 = ap (λ a. length a.current) ends in
        let bytes : r.bytes ≡ s'.at = b (omega (arith, g.bytes long, g.room)) in
        record {
          answer = counted_done (names text) r.verdict r.count verdict zero (n ∙ g.count ∙ ap length same);
          text =
              λ _. ap (λ m. names (take m k')) bytes ∙ ap (λ t. names t) (g.text long ∙ ap (λ a. kept_text a) (sym whole))
              ∙ kept_names (text ++ (line_end ∷ [])) ∙ ap (λ a. names_of a) whole ∙ same;
          none = λ refuses. absurd (refuses zero);
        }
