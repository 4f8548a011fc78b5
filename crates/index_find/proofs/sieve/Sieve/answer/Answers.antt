use Rattle.std.proofs.Common.{List, subst}
use Rattle.std.proofs.lemmas.Result.{IfOk-weaker}
use Rattle.word_index.specs.Index.{Row}
use Rattle.index_find.specs.Postfix.{tree_of}
use Rattle.index_find.specs.Meaning.{AreMeant}
use Rattle.index_find.specs.declared.query.Step.{Step}
use Rattle.index_find.proofs.Sieving.{none_kept, rows_serve}
use Rattle.index_find.proofs.Served.{meant_same}
use Rattle.index_find.proofs.sieve.Sieve.answer.Goals as goal

pub finish-requires-clause-ended : goal.finish-requires-clause-ended
finish-requires-clause-ended c = let r = c.requires in none_kept c.args.self.draft.hits r.1.hits r.2.hits.hits r.3

pub finish-requires-clause-ordered : goal.finish-requires-clause-ordered
finish-requires-clause-ordered c = let r = c.requires in r.2.rows.ordered r.4

pub returns : goal.returns
returns c = λ first t k.
    let query = c.args.self.query in
    IfOk-weaker c.find.result _ _
    (λ v m. subst (λ (q : List Step). AreMeant t.rows (tree_of q) v.items) k.query
    (meant_same (rows_serve k.rows) (tree_of query) k.whole v.items (subst (λ (rs : List Row). AreMeant rs (tree_of query) v.items) c.in_ok-index.ensures.0 m)))
    c.find.ensures
