-- The records of the input: the first of them, and those behind it.
-- Assumes nothing.
use Prim.Native.Nat.{ℕ, zero, suc, ◌≤◌, ◌<◌}
use native.Mathlib.Omega.{arith}
use mathlib.Core.Path.{◌≡◌, refl, ap}
use mathlib.Core.List.{List, [], ◌∷◌}
use lib.ListN.{length, take, drop, length-drop}
use Rattle.bench.specs.Calls.{filing}
use Rattle.report.specs.Report.{file_run, filings_in, filings_of}

-- steps enough: more change nothing
steps : (j k : ℕ) (s : List ℕ) → length s ≤ j → length s ≤ k → filings_in j s ≡ filings_in k s
steps zero zero s a b = refl
steps zero (suc k) [] a b = refl
steps zero (suc k) (p ∷ s) a b = absurd (omega arith)
steps (suc j) zero [] a b = refl
steps (suc j) zero (p ∷ s) a b = absurd (omega arith)
steps (suc j) (suc k) [] a b = refl
steps (suc j) (suc k) (p ∷ s) a b =
    let h = length-drop (file_run s) s in
    ap (filing p (take (file_run s) s) ∷◌) (steps j k (drop (file_run s) s) (omega arith) (omega arith))

pub first : (p : ℕ) (s : List ℕ) → filings_of (p ∷ s) ≡ filing p (take (file_run s) s) ∷ filings_of (drop (file_run s) s)
unfolding filings_of
first p s =
    let h = length-drop (file_run s) s in
    ap (filing p (take (file_run s) s) ∷◌) (steps (length s) (length (drop (file_run s) s)) (drop (file_run s) s) (omega arith) (omega arith))

pub none_left : (s : List ℕ) → length s < 1 → filings_of s ≡ []
unfolding filings_of
none_left [] h = refl
none_left (p ∷ s) h = absurd (omega arith)
