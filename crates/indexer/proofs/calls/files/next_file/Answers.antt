use Rattle.std.proofs.Common.{[], ◌∷◌, ◌≡◌, arith, subst}
use Rattle.std.specs.Prelude.{IfSome, Option}
use Rattle.nub.proofs.Users.{idle_again}
use Rattle.firefly_outside.specs.Trees.{Path}
use Rattle.index_rule.specs.Shares.{paths_in}
use Rattle.indexer.specs.Gets.{Gets, IsNewFile, OfShare, nothing}
use Rattle.indexer.specs.Turns.{HasCalled, IsBetween}
use Rattle.indexer.proofs.Getting.{both_some, fits_file, fits_kind, gets_before, gets_idle, take_files_more, taken_file, took_pairs}
use Rattle.indexer.proofs.Turning.{adds_release_file, called_idle, called_on, passes_same}
use Rattle.indexer.proofs.calls.files.next_file.Goals as goal

pub test_alert-requires-clause-rest : goal.test_alert-requires-clause-rest
test_alert-requires-clause-rest g c κs within = c.take-taken.ensures.rest

pub path_in-path-requires : goal.path_in-path-requires
path_in-path-requires g c = fits_kind c.args.p.now 1 c.args.me.now c.requires.between.1 c.requires.between.2.share c.take-taken.result c.take-taken.ensures.fits

pub returns-then-test_alert-clause-called : goal.returns-then-test_alert-clause-called
returns-then-test_alert-clause-called g c = λ o root.
    let p = c.args.p.now in
    let a = c.args.me.now in
    let b = c.take-taken.new.me in
    let e = c.take-taken.ensures in
    let between = c.requires.between in
    let took : HasCalled o root [] p 1 1 a b = record {
      back = λ n s idle.
          let ran = e.ran s idle.share in
          (ran.share, idle_again p n s ran.share a b idle e.rest e.same e.held ran.is_share, passes_same o root s ran.share (ran.elsewhere 2 (λ z. omega arith)));
      times = adds_release_file a.number _ a b (e.ran between.1 between.2.share).events;
    } in
    called_on o root [] [] p 1 1 0 a b c.test_alert.new.me took
    (called_idle o root p 1 _ _ b c.test_alert.new.me c.test_alert.ensures.event c.test_alert.ensures.idle)

pub returns-clause-called : goal.returns-clause-called
returns-clause-called g c = λ o root.
    let p = c.args.p.now in
    let a = c.args.me.now in
    let b = c.take-taken.new.me in
    let e = c.take-taken.ensures in
    let between = c.requires.between in
    let took : HasCalled o root [] p 1 1 a b = record {
      back = λ n s idle.
          let ran = e.ran s idle.share in
          (ran.share, idle_again p n s ran.share a b idle e.rest e.same e.held ran.is_share, passes_same o root s ran.share (ran.elsewhere 2 (λ z. omega arith)));
      times = adds_release_file a.number _ a b (e.ran between.1 between.2.share).events;
    } in
    called_on o root [] [] p 1 1 0 a b c.test_alert.new.me took
    (called_idle o root p 1 _ _ b c.test_alert.new.me c.test_alert.ensures.event c.test_alert.ensures.idle)

pub returns-then-test_alert-clause-gets : goal.returns-then-test_alert-clause-gets
returns-then-test_alert-clause-gets g c =
    let p = c.args.p.now in
    let a = c.args.me.now in
    let b = c.take-taken.new.me in
    let e = c.take-taken.ensures in
    let taken = paths_in p.world (took_pairs c.take-taken.result) in
    let between : IsBetween p b =
    let idle = c.requires.between.2 in
    let ran = e.ran c.requires.between.1 idle.share in
    (c.requires.between.0, ran.share, idle_again p c.requires.between.0 c.requires.between.1 ran.share a b idle e.rest e.same e.held ran.is_share) in
    let took : Gets p (record nothing { files_taken = taken }) a b = λ s at. let ran = e.ran s at in (ran.share, ran.is_share, take_files_more p.world _ _ a.number s a b c.take-taken.result ran) in
    (taken, gets_before p (record nothing { files_taken = taken }) a b c.test_alert.new.me took (gets_idle p b c.test_alert.new.me between c.test_alert.ensures.idle), tt)

pub returns-clause-gets : goal.returns-clause-gets
returns-clause-gets g c =
    let p = c.args.p.now in
    let a = c.args.me.now in
    let b = c.take-taken.new.me in
    let e = c.take-taken.ensures in
    let x = c.take-taken.result in
    let taken = paths_in p.world (took_pairs x) in
    let between : IsBetween p b =
    let idle = c.requires.between.2 in
    let ran = e.ran c.requires.between.1 idle.share in
    (c.requires.between.0, ran.share, idle_again p c.requires.between.0 c.requires.between.1 ran.share a b idle e.rest e.same e.held ran.is_share) in
    let took : Gets p (record nothing { files_taken = taken }) a b = λ s at. let ran = e.ran s at in (ran.share, ran.is_share, take_files_more p.world _ _ a.number s a b x ran) in
    let kind = fits_kind p 1 a c.requires.between.1 c.requires.between.2.share x e.fits in (
      taken,
      gets_before p (record nothing { files_taken = taken }) a b c.test_alert.new.me took (gets_idle p b c.test_alert.new.me between c.test_alert.ensures.idle),
      subst (λ (o : Option Path). IfSome o (λ path. (taken ≡ path ∷ []) × OfShare a (IsNewFile p.world path))) c.path_in-path.ensures
          (both_some (λ path. taken ≡ path ∷ []) (λ path. OfShare a (IsNewFile p.world path)) _ (taken_file p.world x kind) (fits_file p a x e.fits)),
    )
