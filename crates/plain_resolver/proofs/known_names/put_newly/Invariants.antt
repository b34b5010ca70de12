use Rattle.std.proofs.Common.{◌≡◌, ◌⊎◌, ◌≤◌, true, length, take}
use Rattle.dns_data.specs.Name.{Labels, is_among}
use Rattle.plain_resolver.specs.KnownNames.{IsPartOf}
use Rattle.plain_resolver.proofs.known_names.put_newly.Given as goal

-- those of the ones before that are met are among those passed over, each of which is one of the ones before or new
abbrev pub invariant-loop-name : goal.invariant-loop-name
invariant-loop-name l = record {
  within : l.met ≤ length l.before;
  part : IsPartOf (take l.met l.before) (take l.name-index l.names);
  either : (other : Labels) → is_among (take l.name-index l.names) other ≡ true → (is_among l.before other ≡ true) ⊎ (is_among l.newly other ≡ true);
}
