-- Names that were read and taken.
-- Assumes nothing.
use mathlib.Core.Path.{◌≡◌, ap, ◌∙◌, subst}
use mathlib.Core.List.{List}
use Prim.Native.Nat.{ℕ, ◌*◌, ◌≤◌}
use lib.ListN.{length, take}
use lib.Seq.{length-take-le}
use Rattle.refusals.specs.Verdict.{accepted}
use Rattle.refusals.specs.declared.Verdict.{Verdict}
use Rattle.refusals.specs.Outcome.{AnswerWith}
use Rattle.growth.specs.Lines.{line_width}
use Rattle.name_lines.specs.declared.Found.{Found}
use Rattle.name_lines.specs.Names.{names, some_long, names_verdict}
use Rattle.name_lines.specs.Kept.{Taken}
use Rattle.name_lines.proofs.Verdicts.{counted_verdict, passed}
use Rattle.report_text.specs.Bounds.{LineEach}

-- what is kept of them has names that are taken
pub kept_accepted : (ns : List (List ℕ)) (r : Found) (kept : List ℕ) → Taken ns r kept → r.verdict.number ≡ 0
    → names_verdict (names (take r.bytes kept)) ≡ accepted
kept_accepted ns r kept t zero =
    let verdict : r.verdict ≡ names_verdict ns = ap (λ (a : AnswerWith ℕ). a.verdict) t.answer ∙ counted_verdict ns in
    let number : (names_verdict ns).number ≡ 0 = subst (λ (v : Verdict). v.number ≡ 0) verdict zero in
    ap (λ (ms : List (List ℕ)). names_verdict ms) (t.text zero) ∙ (passed (length ns) (some_long ns) number).verdict

-- a line for each
pub each_line : (text lines : List ℕ) (count : ℕ) → names_verdict (names text) ≡ accepted → (length (names text) ≤ 256 → count ≡ length (names text))
    → line_width * count ≤ length lines → LineEach text (take (line_width * count) lines) count
unfolding accepted
each_line text lines count taken number fits =
    let few : length (names text) ≤ 256 = (passed _ _ (ap (λ (v : Verdict). v.number) taken)).few in
    record { taken = taken; number = number few; lines = length-take-le _ lines fits }
