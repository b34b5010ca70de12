use Rattle.report_json.proofs.TextsRead.{walk_told, entry_told, walks_told, entries_told}
use Rattle.report_json.proofs.laws.texts_tell_values.Goals as goal

pub returns : goal.returns
returns c = record { walks = walks_told; entries = entries_told; written_walk = walk_told; written_entry = entry_told }
