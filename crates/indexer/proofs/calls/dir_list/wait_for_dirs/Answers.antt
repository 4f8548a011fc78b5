use Rattle.std.proofs.Common.{sym, subst, ◌∙◌}
use Rattle.index_rule.specs.declared.value.IndexValue.{IndexValue}
use Rattle.indexer.specs.Turns.{HasList}
use Rattle.indexer.proofs.Turning.{dirs_stay, has_again}
use Rattle.indexer.proofs.calls.dir_list.wait_for_dirs.Goals as goal

pub alert_wait-outcome-requires-clause-may : goal.alert_wait-outcome-requires-clause-may
alert_wait-outcome-requires-clause-may g c κs within =
    let x = c.requires.has.1 in
    let has = c.requires.has.2 in
    (x, has.has, λ w s world share. dirs_stay w x c.args.dirs s has.kind c.requires.has.3)

pub dirs_in-requires : goal.dirs_in-requires
dirs_in-requires g c =
    let x = c.requires.has.1 in
    let has = c.requires.has.2 in
    let back = c.alert_wait-outcome.ensures in
    (back.fits c.args.p.now.world has.own (back.same.world ∙ has.world) (back.share c.args.p.now.world has.own x has.world has.share has.has)).kind

pub returns : goal.returns
returns g c = λ a x has.
    let back = c.alert_wait-outcome.ensures in
    let w = c.args.p.now.world in
    let share = back.share w has.own x has.world has.share has.has in
    let fits = back.fits w has.own (back.same.world ∙ has.world) share in
    subst (λ (y : IndexValue). HasList c.args.p.now a y c.alert_wait-outcome.new.me) c.dirs_in.ensures
    (has_again c.args.p.now a c.args.me.now c.alert_wait-outcome.new.me x c.alert_wait-outcome.result.1 _ _ has back.rest back.same back.holds back.held (share ∙ sym has.share) back.event fits.kind fits.new)
