-- The verdict that the checker's answer stands for.
-- Assumes nothing.
use Rattle.std.specs.Prelude.{Result, ℕ}
use Rattle.std.specs.declared.result.Result.TheVariants.{Ok, Err}
use Rattle.refusals.specs.Verdict.{refusal, accepted}
use Rattle.refusals.specs.declared.Verdict.{Verdict}
use Rattle.form_check.specs.declared.Malformed.{Malformed}
use Rattle.form_check.specs.declared.Malformed.TheVariants.{Matrix, Prefix}

-- "14 .., at the node", "15 .., at the first such block"
abbrev pub refusal_of : Malformed → Verdict
refusal_of (Matrix i) = refusal 14 i
refusal_of (Prefix j) = refusal 15 j

abbrev pub verdict_of : Result ℕ Malformed → Verdict
verdict_of (Ok highest) = accepted
verdict_of (Err fault) = refusal_of fault
