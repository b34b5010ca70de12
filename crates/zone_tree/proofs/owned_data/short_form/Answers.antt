use Rattle.std.proofs.Common.{◌≡◌, false, List, [], Option, Some, None, Bor, map, sym, ◌∙◌, true≢false}
use Rattle.std.specs.Option.{is_some, IfNone}
use Rattle.std.proofs.lemmas.Bool.{ne_eqb}
use Rattle.dns_data.specs.RrType.{type_eq, number_of}
use Rattle.dns_data.specs.declared.rdata.Rdata.{Rdata}
use Rattle.dns_data.specs.declared.rdata.Rr.{Rr}
use Rattle.dns_data.specs.declared.rr_type.RrType.{RrType}
use Rattle.dns_data.specs.declared.rr_type.RrType.TheVariants.{Ns}
use Rattle.zone_tree.specs.OwnedData.{HaveSameData}
use Rattle.zone_tree.proofs.OneDatum.{alone, nothing_told, one_told}
use Rattle.zone_tree.proofs.owned_data.short_form.Goals as goal

abbrev data_in_order : List (Bor Rr) → List Rdata
data_in_order own = map (λ (rr : Bor Rr). rr.now.rdata) own

-- what holds where nothing is found
lacking : {A : Type 0} (found : Option A) (P : Type 0) → is_some found ≡ false → IfNone found P → P
lacking None P none holds = holds
lacking (Some found) P none holds = absurd (true≢false none)

pub returns-in_default-clause-tells : goal.returns-in_default-clause-tells
returns-in_default-clause-tells c = λ lists. nothing_told lists (data_in_order c.args.own.now) c.in_default.ensures.none

pub returns-clause-tells : goal.returns-clause-tells
returns-clause-tells c = λ lists.
    let own : RrType = c.in-Some.rtype in
    let all : List Rdata = data_in_order c.args.own.now in
    let later : List Rdata = data_in_order c.in-Some.later.now in
    let none : HaveSameData later [] =
    lacking c.first_typed-else-number.result (HaveSameData later []) (sym c.is_some.ensures ∙ c.if-is_some.false) c.first_typed-else-number.ensures.none in
    let other : type_eq own Ns ≡ false =
    ne_eqb (number_of own) (number_of Ns) (λ same. c.if-number.false (c.number.ensures.number ∙ same ∙ sym c.number-2.ensures.number)) in
    one_told lists all own c.in-Some.rdata (alone all later c.in-Some.rdata.now c.in-Some.ensures.some none) c.in-Some.ensures.typed other
