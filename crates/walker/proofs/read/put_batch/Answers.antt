use Rattle.word_index.specs.Index.{File}
use Rattle.std.proofs.Common.{List, sym, subst}
use Rattle.walker.specs.Pile.{IsPileOf}
use Rattle.walker.proofs.ReadLemmas.{apart_batch}
use Rattle.walker.proofs.read.put_batch.Goals as goal

pub add_piece-requires : goal.add_piece-requires
add_piece-requires c = apart_batch c.args.pile.now.items c.args.batch c.in_ok-piece.piece c.requires.kept.0 c.requires.kept.1 c.requires.kept.2 c.in_ok-piece.ensures c.requires.apart

pub returns-clause-index : goal.returns-clause-index
returns-clause-index c = λ files k. subst (λ (l : List File). IsPileOf c.add_piece.new.pile.items l) (sym k.is) (c.in_ok-add_piece.ensures.index k.done k.waiting k.pile (c.in_ok-piece.ensures k.waiting k.batch))
