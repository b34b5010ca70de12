-- Why a book gives no claim, or refuses a filing.
use Rattle.std.specs.Prelude.{ℕ, ◌+◌, Bool, true, false, ◌&&◌, nat_le, if◌then◌else◌, List, length, Option, Some, None}
use Rattle.std.specs.Ordering.{is_eq}
use Rattle.std.specs.declared.cmp.Ordering.{Ordering}
use Rattle.pool_core.specs.declared.history.HistoryEntry.{HistoryEntry}
use Rattle.pool_core.specs.declared.event.StopCause.{StopCause}
use Rattle.pool_core.specs.History.{issued_in, first_stop}
use Rattle.verdict_book.specs.declared.claim.Kept.{Kept}
use Rattle.verdict_book.specs.declared.claim.Kept.TheVariants.{Issued, Claimed}
use Rattle.verdict_book.specs.declared.claim.Claim.{Claim}
use Rattle.verdict_book.specs.declared.claim.ClaimFault.{ClaimFault}
use Rattle.verdict_book.specs.declared.claim.ClaimFault.TheVariants.{Stopped, Gone}
use Rattle.verdict_book.specs.declared.filing.Back.{Back}
use Rattle.verdict_book.specs.declared.filing.FileFault.{FileFault}
use Rattle.verdict_book.specs.declared.filing.FileFault.TheVariants.{Foreign, Full}
use Rattle.verdict_book.specs.Items.{item_of}
use Rattle.verdict_book.specs.Books.{Pages, kept_in}

-- no claim is given of a ticket that isn't issued and unclaimed
abbrev pub not_issued : Kept → Option ClaimFault
not_issued Issued = None
not_issued kept = Some (Gone kept)

-- no claim is given after a stop
abbrev pub stopped_or : Option StopCause → Option ClaimFault → Option ClaimFault
stopped_or (Some cause) other = Some (Stopped cause)
stopped_or None other = other

-- why no claim of the ticket is given
abbrev pub claim_refusal : List HistoryEntry → ℕ → Option ClaimFault
claim_refusal history ticket = stopped_or (first_stop history) (not_issued (kept_in history ticket))

-- the ticket is kept as claimed and unfiled
abbrev pub is_claimed : Kept → Bool
is_claimed Claimed = true
is_claimed kept = false

-- the ticket of the claim is kept as claimed, unfiled and with the claim's item
abbrev pub keeps_claim : {I : Type 0} → (I → I → Ordering) → I → (I → List I) → List HistoryEntry → Claim I → Bool
keeps_claim cmp first children history claim =
    is_claimed (kept_in history claim.ticket) && is_eq (cmp (item_of first children history claim.ticket) claim.item)

-- what a refused filing hands back
abbrev pub handed_back : {W I V : Type 0} → Claim I → V → List I → Back W I V
handed_back claim verdict children = record { claim = claim; verdict = verdict; children = children }

-- why the filing is refused, with all that was handed in: its claim isn't kept, or more tickets than the limit would be
-- issued
abbrev pub file_refusal : {W I V : Type 0} → (I → I → Ordering) → I → (I → List I) → Pages → Back W I V
    → Option (FileFault W I V)
file_refusal cmp first children pages back =
    if keeps_claim cmp first children pages.history back.claim then
    (if nat_le (issued_in pages.history + length back.children) pages.limit then None
    else Some (Full (issued_in pages.history) pages.limit back))
    else Some (Foreign (kept_in pages.history back.claim.ticket) back)

-- the refusal is for want of room
abbrev pub is_full : {W I V : Type 0} → FileFault W I V → Bool
is_full (Full issued limit back) = true
is_full fault = false
