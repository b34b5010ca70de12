use Rattle.steal_pool.proofs.run.run_through.Given as goal

abbrev pub ghosts-run_workers-A-Capped : goal.ghosts-run_workers-A-Capped
ghosts-run_workers-A-Capped g a = record { limit = a.limit }

abbrev pub ghosts-run_workers-A-Ledger : goal.ghosts-run_workers-A-Ledger
ghosts-run_workers-A-Ledger g a = record { name = a.asked.name; parts = a.asked.parts }

abbrev pub ghosts-run_workers-B-Ledger : goal.ghosts-run_workers-B-Ledger
ghosts-run_workers-B-Ledger g a = record { name = a.given.name; parts = a.given.parts }

abbrev pub ghosts-run_workers-C-Ledger : goal.ghosts-run_workers-C-Ledger
ghosts-run_workers-C-Ledger g a = record { name = a.filed.name; parts = a.filed.parts }
