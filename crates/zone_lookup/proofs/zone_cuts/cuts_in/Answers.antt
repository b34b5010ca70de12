use Rattle.std.proofs.Common.{◌≡◌, ◌+◌, ◌<◌, ◌≤◌, ℕ, List, length, map, sym, ap, ◌∙◌, subst, arith}
use Rattle.dns_data.specs.Name.{Labels}
use Rattle.zone_tree.specs.Tree.{name_of}
use Rattle.zone_lookup.specs.CutFlags.{flags_of}
use Rattle.zone_lookup.specs.CutTable.{referrals_at}
use Rattle.zone_lookup.proofs.CutTables.{IsRowUpTo, flags_more}
use Rattle.zone_lookup.proofs.zone_cuts.cuts_in.Goals.{in-Some+in_ok-flags+in_ok-put_unless_quiet, in_default}
use Rattle.zone_lookup.proofs.zone_cuts.cuts_in.Goals as goal

pub loop-place-preserved : goal.loop-place-preserved
loop-place-preserved c = elim c.match-node_in.branch [
  | in-Some+in_ok-flags+in_ok-put_unless_quiet w ↦ λ server held. (
      let tree = c.args.tree.now in
      let place = c.loop-place.place in
      let at : w.in-Some.cut ≡ place = w.in-Some.ensures.some.0 in
      let flags : w.in_ok-flags.flags ≡ map (flags_of c.args.hosts.now c.args.sets.now) (referrals_at server tree.zone (name_of tree place)) =
      w.in_ok-flags.ensures server held ∙ ap (λ (n : ℕ). map (flags_of c.args.hosts.now c.args.sets.now) (referrals_at server tree.zone (name_of tree n))) at in
      subst (λ m. IsRowUpTo c.args.hosts.now c.args.sets.now server tree (place + 1) m.entries) (sym w.cuts-is)
      (flags_more c.args.hosts.now c.args.sets.now server tree place w.in_ok-flags.flags c.loop-place.cuts.entries w.put_unless_quiet.new.cuts.entries
      (c.loop-place.invariant server held) w.in_ok-put_unless_quiet.ensures flags))
  | in_default w ↦ λ server held. (
      let below : c.loop-place.place < length c.args.tree.now.names =
      subst (λ (names : List Labels). c.loop-place.place < length names) c.names-place-end.ensures c.loop-place-test.true in
      let past : length c.args.tree.now.names ≤ c.loop-place.place = w.in_default.ensures.none in
      absurd (omega (arith, below, past)))
]
