use Rattle.std.proofs.Common.{arith}
use Rattle.nub.proofs.Users.{idle_again}
use Rattle.index_rule.specs.Shares.{paths_in}
use Rattle.index_rule.specs.declared.value.IndexItem.TheVariants.{File}
use Rattle.indexer.proofs.Getting.{put_files_more, put_one, put_pairs}
use Rattle.indexer.proofs.Turning.{adds_called, passes_same}
use Rattle.indexer.proofs.calls.files.put_file.Goals as goal

pub put-requires-clause-may : goal.put-requires-clause-may
put-requires-clause-may g c κs within = let between = c.requires.between in (between.1, between.2.share, c.requires.may between.1 between.2.share)

pub returns-in-Ok : goal.returns-in-Ok
returns-in-Ok g c =
    let p = c.args.p.now in
    let a = c.args.me.now in
    let b = c.put.new.me in
    let e = c.put.ensures in
    let x = c.put.result in
    let between = c.requires.between in (
      paths_in p.world (put_pairs (File c.args.file) x),
      record {
        called = λ o root m. record {
          back = λ n s idle.
              let ran = e.ran s idle.share in
              (ran.share, idle_again p n s ran.share a b idle e.rest e.same e.held ran.is_share, passes_same o root s ran.share (ran.elsewhere 2 (λ z. omega arith)));
          times = adds_called m _ _ a b (e.ran between.1 between.2.share).events;
        };
        gets = λ s at. let ran = e.ran s at in (ran.share, ran.is_share, put_files_more p.world _ _ a.number s a b (File c.args.file) x ran);
      },
      put_one p.world c.args.file x,
    )

pub returns-in-Err : goal.returns-in-Err
returns-in-Err g c =
    let p = c.args.p.now in
    let a = c.args.me.now in
    let b = c.put.new.me in
    let e = c.put.ensures in
    let x = c.put.result in
    let between = c.requires.between in (
      paths_in p.world (put_pairs (File c.args.file) x),
      record {
        called = λ o root m. record {
          back = λ n s idle.
              let ran = e.ran s idle.share in
              (ran.share, idle_again p n s ran.share a b idle e.rest e.same e.held ran.is_share, passes_same o root s ran.share (ran.elsewhere 2 (λ z. omega arith)));
          times = adds_called m _ _ a b (e.ran between.1 between.2.share).events;
        };
        gets = λ s at. let ran = e.ran s at in (ran.share, ran.is_share, put_files_more p.world _ _ a.number s a b (File c.args.file) x ran);
      },
      put_one p.world c.args.file x,
    )
