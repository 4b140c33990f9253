-- What holds of the file of a form that neither 14 nor 15 refuses, read back and written again, whatever the limits. Each law is proved
-- under the name beside it in proofs/; that they hold of the text is `text_written` (proofs/Theorem.antt).
-- Assumes nothing.
use Rattle.std.specs.Prelude.{List, ◌≡◌, ℕ}
use Rattle.refusals.specs.Verdict.{accepted}
use Rattle.form_check.specs.Verdict.{form_verdict, PassesUnbounded}
use Rattle.qcir.specs.Table.{matrix_words, file_prefix_words, file_prefix_list}
use Rattle.qcir_form.specs.File.{form_file, form_text}
use Rattle.qcir_form.specs.Laws.{OfEveryFile}
use Rattle.qcir_form.specs.Promise.{TextOf}

-- "Read back by S-1's steps, prefix lines kept as prefix, and written again" it is the same file (round_trip, proofs/RoundTrip.antt),
abbrev pub RoundTrip : Type 0
RoundTrip = OfEveryFile (λ f ns ps xs most. form_file (matrix_words f) (file_prefix_words f) (file_prefix_list f) ≡ f)

-- and the form read back passes the tests of 14 and 15 without their limits (passes_again, proofs/Passes.antt).
abbrev pub PassesAgain : Type 0
PassesAgain = OfEveryFile (λ f ns ps xs most. PassesUnbounded (matrix_words f) (file_prefix_words f) (file_prefix_list f))

-- What is owed of a text holds of the text of every form that neither 14 nor 15 refuses (text_written, proofs/Theorem.antt).
abbrev pub TextPromised : Type 0
TextPromised = (ns ps xs : List ℕ) → form_verdict ns ps xs ≡ accepted → TextOf ns ps xs (form_text ns ps xs)
