-- What the workers of a run leave.
use Rattle.std.specs.Prelude.{◌≡◌, ℕ, ◌+◌, ◌≤◌, List, None}
use Rattle.pool_core.specs.History.{first_stop}
use Rattle.verdict_book.specs.Books.{claims_in, filings_in}
use Rattle.steal_pool.specs.Ends.{IsRightCause, ClaimsMet}
use Rattle.steal_pool.specs.declared.gather.Tally.{Tally}
use Rattle.steal_pool.specs.declared.gather.Gathered.{Gathered}

-- the sums over some slots: as many judging calls as claims, whose amounts are these; with no stop each claim was met
abbrev pub IsTally : {I : Type 0} → I → (I → List I) → ℕ → ℕ → ℕ → Tally → Type 0
IsTally first children limit given filed tally =
    (tally.judged ≡ given) × (filed + tally.foreign ≤ given) × ClaimsMet given filed tally.foreign tally.stop
    × IsRightCause first children limit tally.stop

-- what the workers left: as many judging calls as claims in the book, and a right cause, if there is one; where there is
-- none the book wasn't stopped, and each claim was filed, or its filing was foreign
abbrev pub IsGathered : {W I V : Type 0} → I → (I → List I) → ℕ → Gathered W I V → Type 0
IsGathered first children limit gathered =
    (gathered.tally.judged ≡ claims_in gathered.book.history)
    × ClaimsMet (claims_in gathered.book.history) (filings_in gathered.book.history) gathered.tally.foreign gathered.tally.stop
    × IsRightCause first children limit gathered.tally.stop
    × (gathered.tally.stop ≡ None → first_stop gathered.book.history ≡ None)
    × (gathered.book.limit ≡ limit)
