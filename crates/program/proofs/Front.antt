-- One byte past the limit is enough of an input: its report is that of all of it.
use Rattle.std.proofs.Common.{◌≡◌, ℕ, ◌+◌, ◌<◌, ◌≤◌, List, [], ◌++◌, ltb, length, take, Option, Some, None, IfSome, Result, Ok, Err, OnErr, sym, ap, ◌∙◌, subst, arith, lt-ltb, length-append, append-nil, length-take-le, ⊎_elim}
use Rattle.std.proofs.lemmas.Bool.{cases_lt, cond-true}
use Rattle.std.proofs.KnownBytes.{Appends-nil}
use Rattle.std.specs.Io.KnownBytes.{Appends, Consumes, IsAtEnd}
use Rattle.report.specs.Report.{report_of, input_limit, filings_of, lines_of}
use Rattle.report.specs.Text.{ascii}

too_long : (input : List ℕ) → input_limit < length input → report_of input ≡ ascii "input too long\n"
unfolding report_of
too_long input h = cond-true (ltb input_limit (length input)) (ascii "input too long\n") (lines_of (filings_of input)) (lt-ltb _ _ h)

report-front : (front behind : List ℕ) → (length front < input_limit + 1 → behind ≡ []) → report_of front ≡ report_of (front ++ behind)
report-front front behind whole =
    ⊎_elim
    (λ h. sym (ap (λ l. report_of (front ++ l)) (whole h) ∙ ap report_of (append-nil front)))
    (λ h. too_long front (omega arith) ∙ sym (too_long (front ++ behind) (omega (arith, length-append front behind))))
    (cases_lt (length front) (input_limit + 1))

-- what a reader had, of which the front was taken
written-front : (P : List ℕ → Type 0) (a b : Option (List ℕ)) (front : List ℕ) → Consumes a b front → (length front < input_limit + 1 → IsAtEnd b)
    → P (report_of front) → IfSome a (λ input. P (report_of input))
written-front P None b front taken whole written = tt
written-front P (Some xs) None front taken whole written = absurd taken
written-front P (Some xs) (Some ys) front taken whole written =
    subst P (report-front front ys whole ∙ ap report_of (sym taken)) written

-- the front as it stands in a buffer
pub written-buffer : (P : List ℕ → Type 0) (a b : Option (List ℕ)) (n : ℕ) (buffer input : List ℕ) → length buffer ≡ input_limit + 1 → n ≤ length buffer → Consumes a b (take n buffer)
    → (n < length buffer → IsAtEnd b) → input ≡ take n buffer → P (report_of input) → IfSome a (λ all. P (report_of all))
written-buffer P a b n buffer input long within taken whole same written =
    written-front P a b (take n buffer) taken (λ h. whole (omega (arith, length-take-le n buffer within, long)))
    (subst (λ l. P (report_of l)) same written)

-- nothing is a front of every report
pub written-nothing : (a old : Option (List ℕ)) → IfSome a (λ input. (n : ℕ) × Appends old old (take n (report_of input)))
written-nothing None old = tt
written-nothing (Some xs) old = (0, Appends-nil old)

-- what holds anyway holds where there is an error
pub anyway : {T E : Type 0} (r : Result T E) (P : Type 0) → P → OnErr r P
anyway (Ok x) P p = tt
anyway (Err e) P p = p
