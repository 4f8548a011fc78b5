use Rattle.std.proofs.Common.{refl, subst}
use Rattle.std.proofs.lemmas.Option.{same_Some}
use Rattle.std.proofs.Common.{sym, ◌∙◌, ◌-◌}
use Rattle.index_rule.specs.Shares.{Share}
use Rattle.index_rule.specs.Work.{MayChange, files_of, moved_by}
use Rattle.index_rule.specs.declared.value.IndexValue.TheVariants.{Dirs}
use Rattle.indexer.proofs.Getting.{list_gets, list_moves}
use Rattle.indexer.proofs.Turning.{gave_any, gave_back}
use Rattle.indexer.proofs.calls.dir_list.give_list.Goals as goal

pub release-requires-clause-may : goal.release-requires-clause-may
release-requires-clause-may g c κs within =
    let x = c.requires.has.1 in
    let has = c.requires.has.2 in
    let y = Dirs c.args.dirs in (
      x,
      has.has,
      λ w s world share.
          subst (λ (u : Share). MayChange w 0 x y u (moved_by x y u)) (same_Some has.own s (sym has.share ∙ share)) (list_moves w x c.args.dirs has.own has.kind c.requires.has.3 c.requires.has.4),
    )

pub returns-clause-called : goal.returns-clause-called
returns-clause-called g c = λ a x has between o root.
    let free = c.release.ensures in
    let called = gave_back o root c.args.p.now a c.args.me.now c.release.new.me x has free.rest free.same free.held
    (moved_by x (Dirs c.args.dirs) has.own)
    (free.share c.args.p.now.world has.own x has.world has.share has.has) refl
    free.event in
    (called, λ m. gave_any o root c.args.p.now m a c.args.me.now c.release.new.me x has free.event called)

pub returns-clause-gets : goal.returns-clause-gets
returns-clause-gets g c = λ a x has.
    list_gets c.args.p.now a c.args.me.now c.release.new.me x c.args.dirs.list.waiting.items (c.args.dirs.found.files - files_of x) has (c.release.ensures.share c.args.p.now.world has.own x has.world has.share has.has)

pub returns-clause-share : goal.returns-clause-share
returns-clause-share g c = λ a x has. c.release.ensures.share c.args.p.now.world has.own x has.world has.share has.has
