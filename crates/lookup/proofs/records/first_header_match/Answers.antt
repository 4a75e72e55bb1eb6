-- No header is caught by nothing; a header goes by first match.
use Rattle.lookup.proofs.PackedMatch.{no_header, by_first_match}
use Rattle.lookup.proofs.records.first_header_match.Goals as goal

pub returns-then-not-is_header : goal.returns-then-not-is_header
returns-then-not-is_header c = search no_header

pub returns : goal.returns
returns c = search by_first_match
