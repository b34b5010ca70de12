-- For the code alone, no public clause cites it: the rows with one more whose zone was read.
use Rattle.std.specs.Prelude.{ℕ, List, [], ◌∷◌, ◌++◌, Result, Ok, Err}
use Rattle.dns_data.specs.Name.{Labels}
use Rattle.net_model.specs.declared.config.Server.{Server}
use Rattle.config_load.specs.Conf.{row_files}
use Rattle.config_load.specs.Servers.{given}
use Rattle.config_load.specs.declared.fault.LoadFault.{LoadFault}
use Rattle.config_load.specs.declared.rows.ReadRows.{ReadRows}
use Rattle.config_load.specs.declared.zone.ReadZone.{ReadZone}

-- the rows with one more whose zone was read, if these are the servers then
abbrev pub with_servers : Labels → ReadZone → ReadRows → List Server → ReadRows
with_servers server read rows servers = record { left = read.left; servers = servers; rows = rows.rows ++ row_files server read ∷ [] }

-- the rows with one more whose zone was read, or the fault by which its server wasn't given the zone
abbrev pub if_given : Labels → ReadZone → ReadRows → Result (List Server) LoadFault → Result ReadRows LoadFault
if_given server read rows (Ok servers) = Ok (with_servers server read rows servers)
if_given server read rows (Err fault) = Err fault

-- the rows with one more whose zone was read, which has this number, or the fault of a zone that its server already has
abbrev pub row_read : ℕ → Labels → ReadZone → ReadRows → Result ReadRows LoadFault
row_read number server read rows = if_given server read rows (given number server read.zone rows.servers)
