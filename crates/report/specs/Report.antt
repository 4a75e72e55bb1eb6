-- The program's report (01, "The program"): its whole output, from its input as bytes.
use Rattle.std.specs.Prelude.{ℕ, zero, suc, ◌+◌, ◌*◌, min, cond, List, [], ◌∷◌, ◌++◌, ltb, eqb, length, get_or, take, drop, replicate}
use Rattle.policy.specs.Header.{arity}
use Rattle.policy.specs.Refusals.{Answer, is_accepted}
use Rattle.wire.specs.Format.{merged_version, head_size, record_size, list_limit, file_size, length_in, header_bytes}
use Rattle.bench.specs.Answers.{filing_of, merging_of}
use Rattle.bench.specs.Calls.{Call, filing, withdrawal, merging, installing, trying, book_after}
use Rattle.report.specs.Text.{ascii, decimal, hex}

-- ---- the input: records of one party byte, then a file

-- the most bytes of input
abbrev pub input_limit : ℕ
input_limit = 65536

-- a file runs to L + 2 bytes, or to the end of input if less is left; s is what is left after the party byte
abbrev pub file_run : List ℕ → ℕ
file_run s = min (length_in s + 2) (length s)

-- the filing of each record; a step takes one
abbrev pub filings_in : (steps : ℕ) → List ℕ → List Call
filings_in zero input = []
filings_in (suc k) [] = []
filings_in (suc k) (p ∷ s) = filing p (take (file_run s) s) ∷ filings_in k (drop (file_run s) s)

-- there are at most as many records as bytes
unfoldable pub filings_of : List ℕ → List Call
filings_of input = filings_in (length input) input

-- ---- the lines

-- past one space, the header with which the values begin, as 28 hexadecimal digits
abbrev pub header_text : List ℕ → List ℕ
header_text values = ascii " " ++ hex (header_bytes values)

-- ` P:E` for each party and entry number (02, Wish 5)
abbrev pub entries_text : List ℕ → List ℕ
entries_text [] = []
entries_text (p ∷ []) = []
entries_text (p ∷ e ∷ values) = ascii " " ++ decimal p ++ ascii ":" ++ decimal e ++ entries_text values

-- after 4 follows, past one space, the entry number; after 5 and 10 likewise the header; after that of 10 the party and entry number of each party in force
abbrev pub detail : Answer → List ℕ
detail a =
    cond (eqb a.number 4) (ascii " " ++ decimal (get_or a.values 0 0))
    (cond (eqb a.number 5) (header_text a.values)
    (cond (eqb a.number 10) (header_text a.values ++ entries_text (drop arity a.values)) []))

-- `refused P R`
abbrev pub refused_line : ℕ → Answer → List ℕ
refused_line p a = ascii "refused " ++ decimal p ++ ascii " " ++ decimal a.number ++ detail a ++ ascii "\n"

-- `filed P N`, or `refused P R`
abbrev pub filing_line : ℕ → Answer → List ℕ
filing_line p a =
    cond (is_accepted a) (ascii "filed " ++ decimal p ++ ascii " " ++ decimal (get_or a.values 0 0) ++ ascii "\n")
    (refused_line p a)

-- a line for each filing; the program makes no other calls before the merging
abbrev pub filing_lines : List Call → List ℕ
filing_lines [] = []
filing_lines (filing p s ∷ cs) = filing_line p (filing_of p s) ++ filing_lines cs
filing_lines (withdrawal p ∷ cs) = filing_lines cs
filing_lines (merging b ∷ cs) = filing_lines cs
filing_lines (installing k b ∷ cs) = filing_lines cs
filing_lines (trying p s b ∷ cs) = filing_lines cs

-- n records of a merged file, each on its own line
abbrev pub record_lines : ℕ → List ℕ → List ℕ
record_lines zero s = []
record_lines (suc n) s = hex (take (record_size merged_version) s) ++ ascii "\n" ++ record_lines n (drop (record_size merged_version) s)

-- `merged N` and each record of the file in the buffer, or `refused 0 R`
abbrev pub merging_lines : Answer × List ℕ → List ℕ
merging_lines r =
    cond (is_accepted r.0)
    (ascii "merged " ++ decimal (get_or r.0.values 0 0) ++ ascii "\n" ++ record_lines (get_or r.0.values 0 0) (drop head_size r.1))
    (refused_line 0 r.0)

-- ---- the report

-- the buffer of the merging, as long as the longest file
abbrev pub merge_buffer : List ℕ
merge_buffer = replicate (file_size merged_version list_limit) 0

-- the lines of a list of filings, then of one merging
abbrev pub lines_of : List Call → List ℕ
lines_of cs = filing_lines cs ++ merging_lines (merging_of (book_after cs) merge_buffer)

unfoldable pub report_of : List ℕ → List ℕ
report_of input = cond (ltb input_limit (length input)) (ascii "input too long\n") (lines_of (filings_of input))

-- no report is longer: 15 bytes for each byte of input, a line more of 44, and the lines of 256 records
abbrev pub report_size : ℕ
report_size = 15 * input_limit + 44 + 15627
