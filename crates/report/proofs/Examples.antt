-- Lines and records as 01 has them, by computation.
-- Assumes nothing.
use Prim.Native.Nat.{ℕ}
use mathlib.Core.Path.{◌≡◌, refl}
use mathlib.Core.List.{[], ◌∷◌}
use Rattle.policy.specs.declared.header.Header.{Header}
use Rattle.policy.specs.declared.refusal.Refusal.TheVariants.{Missized, Crossed, Gap, Conflict}
use Rattle.policy.specs.Header.{everything, header}
use Rattle.policy.specs.Entry.{entry}
use Rattle.policy.specs.Refusals.{accepted, refusal}
use Rattle.wire.specs.Format.{merged_version, file_of}
use Rattle.bench.specs.Answers.{also}
use Rattle.bench.specs.Calls.{filing, book_after}
use Rattle.report.specs.Text.{ascii, decimal}
use Rattle.report.specs.Report.{filings_of, filing_line, merging_lines, report_of}

-- ---- records

-- a party byte alone, and one byte after it
party_alone : filings_of (5 ∷ []) ≡ filing 5 [] ∷ []
unfolding filings_of
party_alone = refl

-- L is 1: the file has 3 bytes. The next record has one byte after its party byte
two_records : filings_of (9 ∷ 0 ∷ 1 ∷ 7 ∷ 2 ∷ 0 ∷ []) ≡ filing 9 (0 ∷ 1 ∷ 7 ∷ []) ∷ filing 2 (0 ∷ []) ∷ []
unfolding filings_of
two_records = refl

-- ---- lines

unfoldable at : ℕ → ℕ → Header
at port protocol = header (0, (0, (port, (0, (protocol, (0, tt))))))

filed_line : filing_line 1 (accepted (32 ∷ [])) ≡ ascii "filed 1 32\n"
unfolding decimal
filed_line = refl

refused_line : filing_line 8 (refusal Missized) ≡ ascii "refused 8 1\n"
unfolding decimal
refused_line = refl

crossed_line : filing_line 3 (refusal (Crossed 10)) ≡ ascii "refused 3 4 10\n"
unfolding decimal
crossed_line = refl

gap_line : filing_line 255 (refusal (Gap (at 0 255))) ≡ ascii "refused 255 5 000000000000000000000000ff00\n"
unfolding decimal at
gap_line = refl

-- entries 0 and 31 of parties 1 and 8
conflict_line : merging_lines (also (refusal (Conflict (at 80 6))) (1 ∷ 0 ∷ 8 ∷ 31 ∷ []), []) ≡ ascii "refused 0 10 0000000000000000005000000600 1:0 8:31\n"
unfolding decimal at
conflict_line = refl

-- the list of 01's example
merged_lines : merging_lines (accepted (1 ∷ 35 ∷ []), file_of merged_version (entry everything 3 ∷ []))
    ≡ ascii "merged 1\n00000000ffffffff00000000ffffffff0000ffff0000ffff00ff00010003\n"
unfolding decimal
merged_lines = refl

-- empty input
of_empty_input : report_of [] ≡ ascii "refused 0 8\n"
unfolding report_of filings_of book_after decimal
of_empty_input = refl
