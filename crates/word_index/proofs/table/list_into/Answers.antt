use Rattle.std.proofs.Common.{◌∙◌, sym, subst, arith, Option}
use Rattle.word_index.specs.declared.links.Link.{Link}
use Rattle.word_index.specs.Links.{HasPlaces}
use Rattle.word_index.proofs.WordLists.{lists_none, lists_next, lists_all, texts_keys}
use Rattle.word_index.proofs.table.list_into.Goals as goal

pub loop-at-init : goal.loop-at-init
loop-at-init c = rw (c.requires.no_texts, c.requires.no_places) (lists_none c.args.words.now c.args.links.now)

pub push_linked-requires : goal.push_linked-requires
push_linked-requires c =
    let f = c.requires.held.0 in
    let w = c.in-Some.word.now.now in
    (f w, subst (λ (o : Option Link). HasPlaces c.args.links.now o (f w)) c.in-Some.ensures.value (c.requires.held.1 w))

pub loop-at-preserved : goal.loop-at-preserved
loop-at-preserved c =
    let p = c.in_ok-push_linked-in-Some.ensures in
    rw (c.in_ok-push-in-Some.ensures.added, p.is) (lists_next c.loop-at.invariant c.in-Some.word.now c.in-Some.last.now p.row (sym c.in-Some.ensures.entry) c.in-Some.ensures.value p.linked)

pub returns-clause-words : goal.returns-clause-words
returns-clause-words c = lists_all c.loop-at.invariant (omega (arith, c.loop-at-test.false, c.len-many.ensures.len)) ∙ sym (texts_keys c.args.words.now.entries)
