use Rattle.index_findings.proofs.CoverLaws.{batch_covered}
use Rattle.index_findings.proofs.ReadFileLaws.{batch_piece}
use Rattle.index_findings.proofs.OnceLaws.{once_put}
use Rattle.index_findings.proofs.read_files.put_batch.Goals as goal

pub returns-clause-pieces : goal.returns-clause-pieces
returns-clause-pieces c = λ o root h all. batch_piece o root c.args.batch c.in_ok-piece.piece c.args.pieces.now.items c.push.new.self.items c.in_ok-piece.ensures c.in_ok-push.ensures.items h all

pub returns-clause-covers : goal.returns-clause-covers
returns-clause-covers c = λ files holds path. batch_covered c.args.batch c.in_ok-piece.piece c.args.pieces.now.items c.push.new.self.items files holds (c.in_ok-piece.ensures files holds) c.in_ok-push.ensures.items path

pub returns-clause-apart : goal.returns-clause-apart
returns-clause-apart c = λ files holds once. once_put c.args.batch c.in_ok-piece.piece c.args.pieces.now.items c.push.new.self.items files holds (c.in_ok-piece.ensures files holds) c.in_ok-push.ensures.items once
