use Rattle.std.proofs.Common.{◌≡◌, ◌∙◌, ◌++◌, ◌∷◌, List, map, ap, sym, subst, Contains}
use Rattle.std.specs.String.{string_bytes}
use Rattle.std.specs.Vec.Iter.{into_iter_items}
use Rattle.firefly_outside.specs.Trees.{Path}
use Rattle.walker.specs.Walk.{pairs_of}
use Rattle.walker.specs.Found.{AreNew}
use Rattle.walker.proofs.FoundLemmas.{not_yet, names-append}
use Rattle.walker.proofs.found.add_dirs.Goals as goal

pub add_dir-requires-clause-new : goal.add_dir-requires-clause-new
add_dir-requires-clause-new c among =
    let old = map (λ d. d.0) (pairs_of c.args.dirs.now.entries) in
    let all : c.args.more.items ≡ c.loop-dir.yielded ++ c.in-Some.dir ∷ into_iter_items c.next.new.self = sym c.loop-dir.invariant.order ∙ ap (λ l. c.loop-dir.yielded ++ l) c.in-Some.ensures.steps.0 in
    not_yet old c.loop-dir.yielded c.in-Some.dir (into_iter_items c.next.new.self) (subst (AreNew old) all c.requires.new)
    (subst (λ (p : Path). Contains (old ++ c.loop-dir.yielded) p) c.into_string.ensures
    (subst (λ (l : List Path). Contains l (string_bytes c.into_string.result)) (ap (map (λ d. d.0)) c.loop-dir.invariant.pairs ∙ names-append (pairs_of c.args.dirs.now.entries) c.loop-dir.yielded) among))
