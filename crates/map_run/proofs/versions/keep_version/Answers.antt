use Rattle.std.proofs.Common.{sym, ◌∙◌}
use Rattle.std.proofs.lemmas.Result.{on_ok_weaker}
use Rattle.map_run.specs.Copies.{version_at}
use Rattle.map_run.proofs.FirstCopies.{more_keys}
use Rattle.map_run.proofs.versions.keep_version.Goals as goal

pub returns-in-Some-clause-keys : goal.returns-in-Some-clause-keys
returns-in-Some-clause-keys c =
    on_ok_weaker c.put_key.result
    (λ updates.
    more_keys c.args.keys.now c.put_key.new.keys c.args.origin.now (version_at c.args.hosts.now c.args.server.now c.args.origin.now) c.in-Some.version
    (sym c.in_ok-version.ensures ∙ c.in-Some.is) updates)
    c.put_key.ensures.keys
