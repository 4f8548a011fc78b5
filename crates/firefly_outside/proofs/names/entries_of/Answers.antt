use Rattle.std.proofs.Common.{◌∙◌, ◌++◌, ◌∷◌, [], map, ap, sym, All, subst, append_assoc, AllPairs, ◌≢◌}
use Rattle.std.proofs.lemmas.List.{map-append, append-nil}
use Rattle.std.proofs.lemmas.List.Elements.{All-push}
use Rattle.firefly_outside.specs.Trees.{IsName}
use Rattle.firefly_outside.proofs.ListLemmas.{entry_of, distinct_entries}
use Rattle.firefly_outside.specs.declared.tree.Entry.{Entry}
use Rattle.firefly_outside.proofs.names.entries_of.Goals as goal

pub loop-name-preserved : goal.loop-name-preserved
loop-name-preserved c = record {
  order = append_assoc c.loop-name.yielded ((c.in-Some.name, c.in-Some.kind) ∷ []) c.next.new.self ∙ ap (λ l. c.loop-name.yielded ++ l) (sym c.in-Some.ensures.steps) ∙ c.loop-name.invariant.order;
  entries = c.in_default.ensures.items ∙ ap (λ l. l ++ record { name = c.in-Some.name; kind = c.in-Some.kind } ∷ []) c.loop-name.invariant.entries ∙ sym (map-append entry_of c.loop-name.yielded ((c.in-Some.name, c.in-Some.kind) ∷ []));
  names = subst (All (λ (e : Entry). IsName e.name)) (sym c.in_default.ensures.items) (All-push (λ (e : Entry). IsName e.name) c.loop-name.entries.items (record { name = c.in-Some.name; kind = c.in-Some.kind }) c.loop-name.invariant.names (subst IsName c.as_str.ensures (c.is_name.ensures c.if-not-is_name.false)));
}

pub returns : goal.returns
returns c = record { names = c.loop-name.invariant.names; distinct = subst (AllPairs (λ (e f : Entry). e.name ≢ f.name)) (sym (c.loop-name.invariant.entries ∙ ap (map entry_of) (sym (append-nil c.loop-name.yielded) ∙ ap (λ l. c.loop-name.yielded ++ l) (sym c.in-None.ensures.steps.0) ∙ c.loop-name.invariant.order))) (distinct_entries c.args.names.entries c.into_iter-name-iterator.ensures.into_iter_gives.4) }
