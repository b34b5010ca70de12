-- The history of the verdict book that a list of accepted events makes.
use Rattle.std.specs.Prelude.{List, Option, Some, None}
use Rattle.std.specs.List.{filter_map}
use Rattle.pool_core.specs.declared.event.Event.{Event}
use Rattle.pool_core.specs.declared.event.Event.TheVariants.{Push, Pop, Steal, Claim, File, Stop}
use Rattle.pool_core.specs.declared.history.HistoryEntry.{HistoryEntry}
use Rattle.pool_core.specs.declared.history.HistoryEntry.TheVariants.{Claim as ClaimEntry, File as FileEntry, Stop as StopEntry}

-- claims, filings and stops are entries, without their workers
abbrev pub history_entry : Event → Option HistoryEntry
history_entry (Push worker ticket) = None
history_entry (Pop worker) = None
history_entry (Steal worker from) = None
history_entry (Claim worker ticket) = Some (ClaimEntry ticket)
history_entry (File worker ticket children) = Some (FileEntry ticket children)
history_entry (Stop cause) = Some (StopEntry cause)

-- the entries of these events, in order
abbrev pub shadow : List Event → List HistoryEntry
shadow events = filter_map history_entry events
