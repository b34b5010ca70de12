use Rattle.std.proofs.Common.{Bool, [], ◌∷◌, ◌++◌, Result, Ok, Err, length, refl, sym, ap, ◌∙◌, subst}
use Rattle.std.proofs.lemmas.Option.{slice_get_read}
use Rattle.dns_data.specs.Name.{Labels}
use Rattle.net_model.specs.declared.config.Zone.{Zone}
use Rattle.config_load.specs.Conf.{no_rows, row_skips, with_rows_unless, zone_unless}
use Rattle.config_load.specs.Earlier.{AreEarlier}
use Rattle.config_load.specs.Left.{HasLeft, read_left, rows_left, zones_in}
use Rattle.config_load.specs.Taken.{AreTaken}
use Rattle.config_load.specs.declared.fault.LoadFault.{LoadFault}
use Rattle.config_load.specs.declared.zone.ReadZone.{ReadZone}
use Rattle.config_load.proofs.Follows.{Follows-same}
use Rattle.config_load.proofs.LeftRows.{left_wanting, none_taken}
use Rattle.config_load.proofs.Sources.{ReadsFor-none}
use Rattle.config_load.proofs.Steps.{rest-more}
use Rattle.config_load.proofs.TakenRows.{all_taken, behind_fails, given_fails, same_left, stands_then, zone_fails}
use Rattle.config_load.proofs.rows.read_rows.Goals as goal

pub loop-i-init : goal.loop-i-init
loop-i-init g c =
    let meta = c.args.meta.now in
    let all = c.args.all.now in
    let none = no_rows c.args.limits in
    let told = g.F.Files.told c.args.files.now in
    let taker = c.args.taker.now in
    let skips = row_skips (g.T.ZoneTaker.skips taker) in
    record {
      stand = record {
        whole = none;
        so_far = Follows-same told (with_rows_unless skips meta 1 all none) (with_rows_unless skips meta 1 all none) (λ other. refl);
        source = ReadsFor-none told (g.F.Files.faults c.args.files.now) (with_rows_unless skips meta 1 all none);
        earlier_are = c.new-earlier.ensures skips meta told all none;
        count = refl;
        is = λ i. record { left = c.args.limits; servers = c.new.ensures i; rows = c.new-2.ensures i };
        taken = none_taken (g.T.ZoneTaker.took taker taker) c.requires.none;
      };
      same = refl;
      same_skips = refl;
    }

pub returns-in_err-again : goal.returns-in_err-again
returns-in_err-again g c = left_wanting c.from_residual.result c.loop-i.invariant.stand.source c.from_residual.ensures.1

pub returns-in_err-read : goal.returns-in_err-read
returns-in_err-read g c =
    let meta = c.args.meta.now in
    let all = c.args.all.now in
    let told = g.F.Files.told c.args.files.now in
    let here = g.F.Files.told c.loop-i.files in
    let counts = g.F.Files.faults c.args.files.now in
    let counts' = g.F.Files.faults c.loop-i.files in
    let taker = c.loop-i.taker in
    let left = g.T.ZoneTaker.left_of c.args.taker.now in
    let took = g.T.ZoneTaker.took c.args.taker.now taker in
    let stand = c.loop-i.invariant.stand in
    let skips = g.T.ZoneTaker.skips c.args.taker.now in
    let same_skips = c.loop-i.invariant.same_skips in
    let rest = rest-more all c.loop-i.i c.index-all-i.result c.loop-i-test.true c.index-all-i.is in
    let known = c.in_ok-again.ensures.reads (g.T.ZoneTaker.skips taker) meta here (g.T.ZoneTaker.left_of taker) (g.met.T.ZoneTaker.origin taker) stand.whole
    (stand.is ∙ ap (λ (l : Zone → Zone). rows_left l stand.whole) (sym c.loop-i.invariant.same))
    (subst (λ (s : Labels → Bool). AreEarlier (row_skips s) meta here all stand.whole c.loop-i.earlier) (sym same_skips) stand.earlier_are) in
    let answer : Result ReadZone LoadFault = Err c.in_err-read.field-0.0 in
    zone_fails (row_skips skips) meta all c.args.limits told here counts counts' left took c.loop-i.i c.loop-i.rows c.loop-i.earlier stand c.index-all-i.result rest
    (g.F.Files.told c.read_row.new.files) (g.F.Files.faults c.read_row.new.files) c.in_err-read.field-0.0 c.from_residual-in_err-read.result c.from_residual-in_err-read.ensures.1
    (subst (λ (s : Labels → Bool). HasLeft here (g.F.Files.told c.read_row.new.files) counts' (g.F.Files.faults c.read_row.new.files) (zone_unless (row_skips s) meta c.index-all-i.result c.loop-i.rows.left)
    (read_left (g.T.ZoneTaker.left_of taker)) (λ (read : ReadZone). AreTaken (g.T.ZoneTaker.took c.args.taker.now c.read_row.new.taker) (zones_in stand.whole.servers ++ read.zone ∷ [])) answer)
    same_skips
    (c.in_err-read.ensures.reads c.args.taker.now stand.whole (same_left (row_skips skips) meta all c.args.limits told here counts counts' left took c.loop-i.i c.loop-i.rows c.loop-i.earlier stand) known stand.taken))

pub returns-in_err-rows : goal.returns-in_err-rows
returns-in_err-rows g c =
    let meta = c.args.meta.now in
    let all = c.args.all.now in
    let told = g.F.Files.told c.args.files.now in
    let here = g.F.Files.told c.loop-i.files in
    let counts = g.F.Files.faults c.args.files.now in
    let counts' = g.F.Files.faults c.loop-i.files in
    let taker = c.loop-i.taker in
    let left = g.T.ZoneTaker.left_of c.args.taker.now in
    let took = g.T.ZoneTaker.took c.args.taker.now taker in
    let took' = g.T.ZoneTaker.took c.args.taker.now c.read_row.new.taker in
    let stand = c.loop-i.invariant.stand in
    let skips = g.T.ZoneTaker.skips c.args.taker.now in
    let same_skips = c.loop-i.invariant.same_skips in
    let row = c.index-all-i.result in
    let rest = rest-more all c.loop-i.i row c.loop-i-test.true c.index-all-i.is in
    let there = g.F.Files.told c.read_row.new.files in
    let counts'' = g.F.Files.faults c.read_row.new.files in
    let known = c.in_ok-again.ensures.reads (g.T.ZoneTaker.skips taker) meta here (g.T.ZoneTaker.left_of taker) (g.met.T.ZoneTaker.origin taker) stand.whole
    (stand.is ∙ ap (λ (l : Zone → Zone). rows_left l stand.whole) (sym c.loop-i.invariant.same))
    (subst (λ (s : Labels → Bool). AreEarlier (row_skips s) meta here all stand.whole c.loop-i.earlier) (sym same_skips) stand.earlier_are) in
    let answer : Result ReadZone LoadFault = Ok c.in_ok-read.read in
    let has = subst (λ (l : Zone → Zone). HasLeft here there counts' counts'' (zone_unless (row_skips skips) meta row c.loop-i.rows.left) (read_left l) (λ (read : ReadZone). AreTaken took' (zones_in stand.whole.servers ++ read.zone ∷ [])) answer)
    c.loop-i.invariant.same
    (subst (λ (s : Labels → Bool). HasLeft here there counts' counts'' (zone_unless (row_skips s) meta row c.loop-i.rows.left) (read_left (g.T.ZoneTaker.left_of taker)) (λ (read : ReadZone). AreTaken took' (zones_in stand.whole.servers ++ read.zone ∷ [])) answer)
    same_skips
    (c.in_ok-read.ensures.reads c.args.taker.now stand.whole (same_left (row_skips skips) meta all c.args.limits told here counts counts' left took c.loop-i.i c.loop-i.rows c.loop-i.earlier stand) known stand.taken)) in
    given_fails (row_skips skips) meta all c.args.limits told here counts counts' left took c.loop-i.i c.loop-i.rows c.loop-i.earlier stand row rest there counts''
    took' (g.met.T.ZoneTaker.origin c.args.taker.now) c.in_ok-read.read has c.in_err-rows.field-0.0 c.from_residual-in_err-rows.result c.from_residual-in_err-rows.ensures.1 c.in_err-rows.ensures

pub returns-in_err-put : goal.returns-in_err-put
returns-in_err-put g c =
    let meta = c.args.meta.now in
    let all = c.args.all.now in
    let told = g.F.Files.told c.args.files.now in
    let here = g.F.Files.told c.loop-i.files in
    let counts = g.F.Files.faults c.args.files.now in
    let counts' = g.F.Files.faults c.loop-i.files in
    let taker = c.loop-i.taker in
    let left = g.T.ZoneTaker.left_of c.args.taker.now in
    let took = g.T.ZoneTaker.took c.args.taker.now taker in
    let took' = g.T.ZoneTaker.took c.args.taker.now c.read_row.new.taker in
    let stand = c.loop-i.invariant.stand in
    let skips = g.T.ZoneTaker.skips c.args.taker.now in
    let same_skips = c.loop-i.invariant.same_skips in
    let row = c.index-all-i.result in
    let rest = rest-more all c.loop-i.i row c.loop-i-test.true c.index-all-i.is in
    let there = g.F.Files.told c.read_row.new.files in
    let counts'' = g.F.Files.faults c.read_row.new.files in
    let known = c.in_ok-again.ensures.reads (g.T.ZoneTaker.skips taker) meta here (g.T.ZoneTaker.left_of taker) (g.met.T.ZoneTaker.origin taker) stand.whole
    (stand.is ∙ ap (λ (l : Zone → Zone). rows_left l stand.whole) (sym c.loop-i.invariant.same))
    (subst (λ (s : Labels → Bool). AreEarlier (row_skips s) meta here all stand.whole c.loop-i.earlier) (sym same_skips) stand.earlier_are) in
    let answer : Result ReadZone LoadFault = Ok c.in_ok-read.read in
    let has = subst (λ (l : Zone → Zone). HasLeft here there counts' counts'' (zone_unless (row_skips skips) meta row c.loop-i.rows.left) (read_left l) (λ (read : ReadZone). AreTaken took' (zones_in stand.whole.servers ++ read.zone ∷ [])) answer)
    c.loop-i.invariant.same
    (subst (λ (s : Labels → Bool). HasLeft here there counts' counts'' (zone_unless (row_skips s) meta row c.loop-i.rows.left) (read_left (g.T.ZoneTaker.left_of taker)) (λ (read : ReadZone). AreTaken took' (zones_in stand.whole.servers ++ read.zone ∷ [])) answer)
    same_skips
    (c.in_ok-read.ensures.reads c.args.taker.now stand.whole (same_left (row_skips skips) meta all c.args.limits told here counts counts' left took c.loop-i.i c.loop-i.rows c.loop-i.earlier stand) known stand.taken)) in
    behind_fails (row_skips skips) meta all c.args.limits told here counts counts' left took c.loop-i.i c.loop-i.rows c.loop-i.earlier stand row rest there counts''
    took' (g.met.T.ZoneTaker.origin c.args.taker.now) c.in_ok-read.read has c.in_ok-rows.rows c.in_ok-rows.ensures c.from_residual-in_err-put.result c.from_residual-in_err-put.ensures.1

pub loop-i-preserved : goal.loop-i-preserved
loop-i-preserved g c =
    let meta = c.args.meta.now in
    let all = c.args.all.now in
    let told = g.F.Files.told c.args.files.now in
    let here = g.F.Files.told c.loop-i.files in
    let counts = g.F.Files.faults c.args.files.now in
    let counts' = g.F.Files.faults c.loop-i.files in
    let taker = c.loop-i.taker in
    let left = g.T.ZoneTaker.left_of c.args.taker.now in
    let took = g.T.ZoneTaker.took c.args.taker.now taker in
    let took' = g.T.ZoneTaker.took c.args.taker.now c.read_row.new.taker in
    let stand = c.loop-i.invariant.stand in
    let skips = g.T.ZoneTaker.skips c.args.taker.now in
    let same_skips = c.loop-i.invariant.same_skips in
    let row = c.index-all-i.result in
    let rest = rest-more all c.loop-i.i row c.loop-i-test.true c.index-all-i.is in
    let there = g.F.Files.told c.read_row.new.files in
    let counts'' = g.F.Files.faults c.read_row.new.files in
    let known = c.in_ok-again.ensures.reads (g.T.ZoneTaker.skips taker) meta here (g.T.ZoneTaker.left_of taker) (g.met.T.ZoneTaker.origin taker) stand.whole
    (stand.is ∙ ap (λ (l : Zone → Zone). rows_left l stand.whole) (sym c.loop-i.invariant.same))
    (subst (λ (s : Labels → Bool). AreEarlier (row_skips s) meta here all stand.whole c.loop-i.earlier) (sym same_skips) stand.earlier_are) in
    let answer : Result ReadZone LoadFault = Ok c.in_ok-read.read in
    let has = subst (λ (l : Zone → Zone). HasLeft here there counts' counts'' (zone_unless (row_skips skips) meta row c.loop-i.rows.left) (read_left l) (λ (read : ReadZone). AreTaken took' (zones_in stand.whole.servers ++ read.zone ∷ [])) answer)
    c.loop-i.invariant.same
    (subst (λ (s : Labels → Bool). HasLeft here there counts' counts'' (zone_unless (row_skips s) meta row c.loop-i.rows.left) (read_left (g.T.ZoneTaker.left_of taker)) (λ (read : ReadZone). AreTaken took' (zones_in stand.whole.servers ++ read.zone ∷ [])) answer)
    same_skips
    (c.in_ok-read.ensures.reads c.args.taker.now stand.whole (same_left (row_skips skips) meta all c.args.limits told here counts counts' left took c.loop-i.i c.loop-i.rows c.loop-i.earlier stand) known stand.taken)) in
    record {
      stand =
          stands_then (row_skips skips) meta all c.args.limits told here counts counts' left took c.loop-i.i c.loop-i.rows c.loop-i.earlier stand row rest there counts''
          took' (g.met.T.ZoneTaker.origin c.args.taker.now) c.in_ok-read.read has c.in_ok-rows.rows c.in_ok-rows.ensures
          (slice_get_read all (length all) c.loop-i.i row refl c.loop-i-test.true c.index-all-i.is) c.put.new.self c.in_ok-put.ensures;
      same = c.in_ok-read.ensures.same ∙ c.loop-i.invariant.same;
      same_skips = c.in_ok-read.ensures.same_skips ∙ same_skips;
    }

pub returns : goal.returns
returns g c =
    all_taken (row_skips (g.T.ZoneTaker.skips c.args.taker.now)) c.args.meta.now c.args.all.now c.args.limits (g.F.Files.told c.args.files.now) (g.F.Files.told c.loop-i.files) (g.F.Files.faults c.args.files.now) (g.F.Files.faults c.loop-i.files)
    (g.T.ZoneTaker.left_of c.args.taker.now) (g.T.ZoneTaker.took c.args.taker.now c.loop-i.taker) c.loop-i.i c.loop-i.rows c.loop-i.earlier c.loop-i.invariant.stand c.loop-i-test.false
