-- What is owed of a text holds of the text of every form that neither 14 nor 15 refuses.
-- Assumes nothing.
use mathlib.Core.Path.{◌≡◌}
use mathlib.Core.List.{List}
use Prim.Native.Nat.{ℕ}
use Rattle.refusals.specs.Verdict.{accepted}
use Rattle.acceptance.specs.Limits.{matrix_within}
use Rattle.form_check.specs.Verdict.{form_verdict, form_limits}
use Rattle.form_check.specs.Accepted.{AcceptedFormWithin}
use Rattle.form_check.proofs.Accepted.{form_holds}
use Rattle.qdimacs.specs.Problem.{Problem}
use Rattle.qdimacs.specs.Spelling.{Says}
use Rattle.qdimacs.specs.Text.{problem_text}
use Rattle.qdimacs.proofs.Says.{text_says}
use Rattle.qdimacs.proofs.Unique.{one_problem}
use Rattle.qdimacs_form.specs.Clauses.{form_problem, clauses_text}
use Rattle.qdimacs_form.specs.Promise.{ClausesOf}
use Rattle.qdimacs_form.proofs.Sound.{problem_clauses}
use Rattle.qdimacs_form.proofs.Blocks.{problem_blocks}
use Rattle.qdimacs_form.proofs.Numbers.{problem_header}
use Rattle.qdimacs_form.proofs.Bound.{problem_bound}
use Rattle.qdimacs_form.proofs.Grammatical.{problem_grammatical}
use Rattle.qdimacs_form.proofs.Truth.{problem_truth_lem}

-- whatever the limits
written_text : (nodes most : ℕ) (ns ps xs : List ℕ) → AcceptedFormWithin (matrix_within nodes most) ns ps xs → ClausesOf ns ps xs (clauses_text ns ps xs)
unfolding clauses_text
written_text nodes most ns ps xs form =
    let p : Problem = form_problem ns ps xs in
    let s : Says (problem_text p) p = text_says p (problem_grammatical nodes most ns ps xs form) in
    record {
      problem = p;
      says = s;
      only = λ q t. one_problem (problem_text p) q p t s;
      truth = problem_truth_lem nodes most ns ps xs form;
      header = problem_header nodes most ns ps xs form;
      sound = problem_clauses nodes most ns ps xs form;
      bound = problem_bound nodes most ns ps xs form;
      blocks = problem_blocks nodes most ns ps xs form;
    }

pub clauses_written : (ns ps xs : List ℕ) → form_verdict ns ps xs ≡ accepted → ClausesOf ns ps xs (clauses_text ns ps xs)
clauses_written ns ps xs e = written_text 40960 77823 ns ps xs (form_holds form_limits ns ps xs e)
