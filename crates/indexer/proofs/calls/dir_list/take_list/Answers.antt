use Rattle.std.proofs.Common.{subst, ◌∙◌}
use Rattle.index_rule.specs.declared.value.IndexValue.{IndexValue}
use Rattle.indexer.specs.Turns.{HasList}
use Rattle.indexer.proofs.Turning.{adds_keep}
use Rattle.indexer.proofs.calls.dir_list.take_list.Goals as goal

pub dirs_in-requires : goal.dirs_in-requires
dirs_in-requires g c =
    let idle = c.requires.between.2 in
    (c.acquire.ensures.fits c.args.p.now.world c.requires.between.1 idle.world idle.share).kind

pub returns : goal.returns
returns g c =
    let p = c.args.p.now in
    let a = c.args.me.now in
    let b = c.acquire.new.me in
    let e = c.acquire.ensures in
    let idle = c.requires.between.2 in
    let fits = e.fits p.world c.requires.between.1 idle.world idle.share in
    subst (λ (x : IndexValue). HasList p a x b) c.dirs_in.ensures (record {
      rest = e.rest;
      same = e.same;
      has = e.holds;
      held = e.held;
      world = e.same.world ∙ idle.world;
      own = c.requires.between.1;
      was = idle.share;
      share = e.share ∙ idle.share;
      kind = fits.kind;
      new = fits.new;
      times = λ m. adds_keep m _ _ a b e.event;
    })
