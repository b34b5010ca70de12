use Rattle.report_json.proofs.ReadBack.{reads_back, line_reads_back}
use Rattle.report_json.proofs.TextsRead.{walk_reads_back, entry_reads_back, report_reads_back, ask_reads_back, sites_read_back, scope_reads_back}
use Rattle.report_json.proofs.laws.texts_read_back.Goals as goal

pub returns : goal.returns
returns c =
    record {
      value = reads_back;
      line = line_reads_back;
      walk = walk_reads_back;
      entry = entry_reads_back;
      report = report_reads_back;
      ask = ask_reads_back;
      sites = sites_read_back;
      scope = scope_reads_back;
    }
