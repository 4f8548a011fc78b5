use Rattle.std.proofs.Common.{rules, ◌≡◌, ◌∙◌, ◌↔◌, ◌<◌, ◌≢◌, Bool, true, false, List, length, sym, subst, Result, Ok, Err, IfOk, IsTrue, Some, None, All}
use Rattle.firefly_outside.specs.Trees.{Path, Contents, HasParent, Directory, child, slash}
use Rattle.firefly_outside.specs.declared.tree.Entry.{Entry}
use Rattle.firefly_outside.specs.MemTrees.{reported_by}
use Rattle.firefly_outside.proofs.PathLemmas.{child-unique, plain-slash}
use Rattle.firefly_outside.proofs.place.may_add.Goals as goal

-- the parent is the directory before the last slash
by_parts : {E : Type 0} (t : Contents) (path dir name : Path) (r : Result Bool E) → t path ≡ None → path ≡ child dir name → All (λ b. b ≢ slash) name
    → IfOk r (λ b. IsTrue b ↔ (0 < length name) × ((es : List Entry) × (t dir ≡ Some (Directory es)))) → IfOk r (λ b. IsTrue b ↔ (t path ≡ None) × HasParent t path)
by_parts t path dir name (Err e) absent is plain h = tt
by_parts t path dir name (Ok b) absent is plain h = (
  λ yes. let k = h.0 yes in (absent, record { dir = dir; name = name; under = record { lawful = record { some = k.0; plain = plain }; is = is }; entries = k.1.0; here = k.1.1 }),
  λ k.
      let p = k.1 in
      let one = child-unique p.dir dir p.name name (sym p.under.is ∙ is) p.under.lawful.plain plain in
      h.1 (subst (λ (n : Path). 0 < length n) one.1 p.under.lawful.some, (p.entries, subst (λ (d : Path). t d ≡ Some (Directory p.entries)) one.0 p.here)),
)

never : {P : Type 0} → false ≡ true → P
never h = cc

pub returns-in-Some : goal.returns-in-Some
returns-in-Some c =
    let absent : reported_by c.args.places.now c.args.path.now ≡ None = search rules in
    by_parts (reported_by c.args.places.now) c.args.path.now c.in-Some.dir.now c.in-Some.name.now c.has_child.result absent c.in-Some.ensures.0 c.in-Some.ensures.1 c.has_child.ensures

pub returns : goal.returns
returns c = (never, (λ k. absurd (plain-slash c.args.path.now k.1.dir k.1.name k.1.under.is c.in-None.ensures)))
