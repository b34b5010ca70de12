-- A book of the work with the items 0 to 6, call by call. It has room for three tickets.
use Rattle.std.proofs.Common.{◌≡◌, ℕ, true, List, [], ◌∷◌, ◌++◌, Some, None, refl}
use Rattle.std.specs.Ordering.{nat_cmp}
use Rattle.pool_core.specs.declared.history.HistoryEntry.{HistoryEntry}
use Rattle.pool_core.specs.declared.history.HistoryEntry.TheVariants.{Claim, File}
use Rattle.pool_core.specs.declared.event.StopCause.TheVariants.{Full as FullCause, NoMemory}
use Rattle.pool_core.specs.History.{is_legal}
use Rattle.verdict_book.specs.Items.{items_of}
use Rattle.verdict_book.specs.Sevens.{children}
use Rattle.verdict_book.specs.Books.{Pages, unfiled_in, history_stopped}
use Rattle.verdict_book.specs.Refusals.{claim_refusal, file_refusal, handed_back}
use Rattle.verdict_book.specs.declared.claim.Kept.TheVariants.{Unknown, Claimed, Filed}
use Rattle.verdict_book.specs.declared.claim.ClaimFault.TheVariants.{Stopped, Gone}
use Rattle.verdict_book.specs.declared.filing.Back.{Back}
use Rattle.verdict_book.specs.declared.filing.FileFault.TheVariants.{Foreign, Full}

abbrev pages : List HistoryEntry → Pages
pages history = record { limit = 3; history = history }

-- the claim of a ticket with this item, with its children
abbrev back : ℕ → ℕ → Back ℕ ℕ ℕ
back ticket item = handed_back (record { ticket = ticket; item = item }) item (children item)

-- ticket 0 was claimed and filed; then ticket 1 was claimed
abbrev one_filed : List HistoryEntry
one_filed = Claim 0 ∷ File 0 2 ∷ []

abbrev one_claimed : List HistoryEntry
one_claimed = one_filed ++ Claim 1 ∷ []

first_is_given : claim_refusal [] 0 ≡ None
first_is_given = refl

first_is_filed : file_refusal nat_cmp 0 children (pages (Claim 0 ∷ [])) (back 0 0) ≡ None
first_is_filed = refl

three_items : items_of 0 children one_filed ≡ 0 ∷ 1 ∷ 2 ∷ []
three_items = refl

filed_is_gone : claim_refusal one_filed 0 ≡ Some (Gone Filed)
filed_is_gone = refl

unknown_is_gone : claim_refusal one_filed 9 ≡ Some (Gone Unknown)
unknown_is_gone = refl

claimed_is_gone : claim_refusal one_claimed 1 ≡ Some (Gone Claimed)
claimed_is_gone = refl

no_room_for_five : file_refusal nat_cmp 0 children (pages one_claimed) (back 1 1) ≡ Some (Full 3 3 (back 1 1))
no_room_for_five = refl

-- a claim that another book of the work gave
filed_is_foreign : file_refusal nat_cmp 0 children (pages one_claimed) (back 0 0) ≡ Some (Foreign Filed (back 0 0))
filed_is_foreign = refl

-- the ticket is kept as claimed, and only the item differs
other_item_is_foreign : file_refusal nat_cmp 0 children (pages one_claimed) (back 1 2) ≡ Some (Foreign Claimed (back 1 2))
other_item_is_foreign = refl

two_are_unfiled : unfiled_in one_claimed ≡ 2
two_are_unfiled = refl

it_is_legal : is_legal 3 one_claimed ≡ true
it_is_legal = refl

first_cause_is_kept : claim_refusal (history_stopped (history_stopped one_claimed FullCause) NoMemory) 2 ≡ Some (Stopped FullCause)
first_cause_is_kept = refl
