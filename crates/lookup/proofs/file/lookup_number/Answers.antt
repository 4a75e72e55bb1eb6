-- A good file's list is looked up by first match (`good_answer`); a refusal of the checks is the answer (`refused_answer`).
-- Assumes nothing.
use Rattle.std.proofs.lemmas.Result.{err_from_is_err_and}
use Rattle.lookup.proofs.FileLookup.{good_room, good_answer, refused_answer}
use Rattle.lookup.proofs.file.lookup_number.Goals as goal

pub first_header_match-requires : goal.first_header_match-requires
first_header_match-requires c = search (good_room, c.in_ok-n.was)

pub returns : goal.returns
returns c = search (good_answer, c.in_ok-n.was)

pub returns-in_err-n : goal.returns-in_err-n
returns-in_err-n c =
    let p = err_from_is_err_and c.from_residual.result c.from_residual.ensures.1 in
    rw (p.1, p.2) (search (refused_answer, c.in_err-n.was))
