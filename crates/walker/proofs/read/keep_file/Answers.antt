use Rattle.std.proofs.Common.{[]}
use Rattle.word_index.specs.Read.{read_file}
use Rattle.walker.proofs.ReadLemmas.{kept_more, kept_fresh}
use Rattle.walker.proofs.Steps.{IfOk-map}
use Rattle.walker.proofs.read.keep_file.Goals as goal

pub returns-then-takes-clause-kept : goal.returns-then-takes-clause-kept
returns-then-takes-clause-kept c = IfOk-map c.add.result _ _ (λ b adds files k. kept_more c.args.pile.now.items c.args.batch b (read_file c.args.name.now c.args.file.now) adds files k) c.add.ensures

pub returns-clause-kept : goal.returns-clause-kept
returns-clause-kept c = IfOk-map c.add-2.result _ _ (λ b adds files k. kept_fresh c.put_batch.new.pile.items b (read_file c.args.name.now c.args.file.now) files (c.in_ok-put_batch.ensures.index files k) (adds [] c.new.ensures.none)) c.add-2.ensures
