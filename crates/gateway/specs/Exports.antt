-- What the C daemon gets (01, "Lookup and comparison"): numbers for the answers, and the header's bytes.
use Rattle.std.specs.Prelude.{ℕ, ◌+◌, ◌*◌, Bool, true, false, cond, ◌&&◌, List, [], ◌∷◌}
use Rattle.policy.specs.Refusals.{Answer, is_accepted}
use Rattle.wire.specs.Format.{header_put}
use Rattle.compare.specs.Comparison.{ComparisonAnswer}

-- the first value, or another number where there is none
abbrev pub first_value : List ℕ → ℕ → ℕ
first_value [] d = d
first_value (v ∷ vs) d = v

-- lookup: the entry number, 256 for uncaught, or 256 plus the refusal number
abbrev pub lookup_number : Answer → ℕ
lookup_number a = cond (is_accepted a) (first_value a.values 256) (256 + a.number)

-- the answer has a header
abbrev pub has_header : List ℕ → Bool
has_header [] = false
has_header (v ∷ vs) = true

-- comparison: 0 for yes, 1 for no, or the file's number times 256 plus the refusal number
abbrev pub comparison_number : ComparisonAnswer → ℕ
comparison_number r = cond (is_accepted r.answer) (cond (has_header r.answer.values) 1 0) (r.file * 256 + r.answer.number)

-- the lent buffer after a comparison: on 1 the header goes to its first 14 bytes, if it has 14; no other byte is written
abbrev pub header_lent : ComparisonAnswer → List ℕ → List ℕ
header_lent r buffer = cond (is_accepted r.answer && has_header r.answer.values) (header_put r.answer.values buffer) buffer
